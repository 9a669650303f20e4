-- How the result of a step that takes memory relates to what the grammar reads.
use Rattle.std.specs.Prelude.{◌≡◌, Result, Err}
use Rattle.rox_grammar.specs.declared.failure.Failure.{Failure}
use Rattle.rox_grammar.specs.declared.failure.Failure.TheVariants as failure
use Rattle.rox_grammar.specs.declared.fault.Fault.{Fault}
use Rattle.rox_grammar.specs.declared.name.QName.{QName}
use Rattle.rox_grammar.specs.Written.{Name}

-- The name, whatever its address in memory.
abbrev pub name_view : QName → Name
name_view q = record { prefix = q.prefix.now; local = q.local.now }

-- A step stopped with this fault, which is what is read. Nothing is said if memory ran out.
abbrev pub Fails : {B : Type 0} → Failure → Result B Fault → Type 0
Fails failure.Memory read = Unit {0}
Fails (failure.Fault f) read = read ≡ Err f
