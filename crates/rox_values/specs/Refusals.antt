-- Why reading stopped, compared with what is read.
use Rattle.std.specs.Prelude.{◌≡◌, ℕ, List, Result, Err, string_bytes}
use Rattle.std.specs.Borrow.{Bor}
use Rattle.rox_grammar.specs.Doctype.{Request}
use Rattle.rox_reading.specs.Refusals as refusal
use Rattle.rox_reading.specs.Refusals.{Refusal}
use Rattle.rox_grammar.specs.declared.failure.Failure.{Failure}
use Rattle.rox_grammar.specs.declared.failure.Failure.TheVariants as failure
use Rattle.rox_values.specs.declared.parse_error.ParseError.{ParseError}
use Rattle.rox_values.specs.declared.parse_error.ParseError.TheVariants as refused

-- What is read is the fault of the source. Nothing is stated if memory ran out.
abbrev pub IsFailure : {B : Type 0} → Failure → Result B Refusal → Type 0
IsFailure failure.Memory read = Unit {0}
IsFailure (failure.Fault f) read = read ≡ Err (refusal.here f)

-- What is read is the refusal, if entities may be opened. Nothing is stated if memory ran out.
abbrev pub IsRefusal : {B : Type 0} → ParseError → Result B Refusal → Type 0
IsRefusal refused.Memory read = Unit {0}
IsRefusal (refused.Fault f) read = read ≡ Err (refusal.here f)
IsRefusal (refused.FaultIn source f) read = read ≡ Err (refusal.there source.now f)
IsRefusal (refused.Resolver at message) read = (request : Request) × (read ≡ Err (refusal.refused request at (string_bytes message)))

abbrev pub of_failure : Failure → ParseError
of_failure failure.Memory = refused.Memory
of_failure (failure.Fault f) = refused.Fault f

-- The refusal of the source `source`, as the text that opened it reports it.
abbrev pub seen_from : Bor (List ℕ) → ParseError → ParseError
seen_from source refused.Memory = refused.Memory
seen_from source (refused.Fault f) = refused.FaultIn source f
seen_from source (refused.FaultIn s f) = refused.FaultIn s f
seen_from source (refused.Resolver at message) = refused.Resolver at message
