-- The error of each fault has a message.
use Rattle.std.proofs.Common.{◌≡◌, ℕ, Bool, false, List, Some, None, arith}
use Rattle.std.specs.Prelude.{◌≢◌}
use Rattle.std.specs.Fmt.{◌++?◌}
use Rattle.rox_grammar.specs.declared.fault.Fault.{Fault}
use Rattle.rox_grammar.specs.declared.fault.Fault.TheVariants as fault
use Rattle.rox_grammar.specs.Chars.{is_char}
use Rattle.rox_grammar.specs.Forest.{Forest}
use Rattle.rox_grammar.specs.Written.{Name, Attribute, NamespaceDecl, Item}
use Rattle.rox_grammar.specs.Content.{Inclusion}
use Rattle.rox_grammar.specs.Entities.{Entity}
use Rattle.rox_grammar.specs.Doctype.{Asked}
use Rattle.rox_grammar.specs.State.{State}
use Rattle.rox_grammar.specs.Due.{DueItem, IsMissing}
use Rattle.rox_grammar.specs.Faults.{InMisc, InReferences, InValue, IllDeclared, IllNamed, InTag, Stands, AtPoint, FaultFrom}
use Rattle.rox_grammar.specs.FaultsWithDoctype.{InSubset, RefusalOf}
use Rattle.rox_error.specs.declared.error.Error.{Error}
use Rattle.rox_error.specs.FaultErrors.{IsErrorOf}
use Rattle.rox_error.specs.Messages.{message_start}

-- a character that the fault names is no Char
abbrev IsNoChar : Fault → Type 0
IsNoChar (fault.NonXmlChar c at) = is_char c ≡ false
IsNoChar f = Unit {0}

missing_none : (src : List ℕ) (p : ℕ) (t : DueItem) (f : Fault) → IsMissing src p t f → IsNoChar f
missing_none src p t f h = grind arith

misc_none : (src : List ℕ) (i : ℕ) (f : Fault) → InMisc src i f → IsNoChar f
misc_none src i f h = grind (arith, missing_none)

references_none : (es : List Entity) (src : List ℕ) (p : ℕ) (f : Fault) → InReferences es src p f → IsNoChar f
references_none es src p f h = grind arith

value_none : (es : List Entity) (k : ℕ) (O : Inclusion) (src : List ℕ) (i stop b : ℕ) (f : Fault) → InValue es k O src i stop b f → IsNoChar f
value_none es k O src i stop b f h = grind (arith, references_none)

declared_none : (src : List ℕ) (before : List NamespaceDecl) (a : Attribute) (f : Fault) → IllDeclared src before a f → IsNoChar f
declared_none src before a f h = grind arith

named_none : (src : List ℕ) (i : ℕ) (scope : List NamespaceDecl) (n : Name) (as' : List Attribute) (f : Fault) → IllNamed src i scope n as' f → IsNoChar f
named_none src i scope n as' f h = grind arith

tag_none : (main : Bool) (O : Inclusion) (src : List ℕ) (s : State) (b : ℕ) (f : Fault) → InTag main O src s b f → IsNoChar f
tag_none main O src s b f h = grind (arith, missing_none, declared_none, named_none)

stands_none : (limit : ℕ) (es : List Entity) (k open_around : ℕ) (O : Inclusion) (src : List ℕ) (s : State) (b : ℕ) (f : Fault) → Stands limit es k open_around O src s b f → IsNoChar f
stands_none limit es k open_around O src s b f h = grind (arith, references_none, missing_none, misc_none, tag_none)

point_none : (opens : ℕ → Inclusion) (es : List Entity) (limit k open_around : ℕ) (src : List ℕ) (s : State) (b : ℕ) (source : List ℕ) (f : Fault) → AtPoint opens es limit k open_around src s b source f → IsNoChar f
point_none opens es limit k open_around src s b source f h = grind (arith, stands_none, value_none)

from_none : (opens : ℕ → Inclusion) (es : List Entity) (limit : ℕ) (text : List ℕ) (dtd : Bool) (PrologAt : ℕ → Forest Item → Type 0) (source : List ℕ) (f : Fault) → FaultFrom opens es limit text dtd PrologAt source f → IsNoChar f
from_none opens es limit text dtd PrologAt source f h = grind (arith, misc_none, point_none)

subset_none : (limit : ℕ) (src : List ℕ) (i p : ℕ) (items : Forest Item) (asked later : List Asked) (source : List ℕ) (f : Fault) → InSubset limit src i p items asked later source f → IsNoChar f
subset_none limit src i p items asked later source f h = grind (arith, misc_none, missing_none)

refused_none : (limit : ℕ) (allow : Bool) (text : List ℕ) (asked : List Asked) (source : List ℕ) (f : Fault) → RefusalOf limit allow text asked source f → IsNoChar f
refused_none limit allow text asked source f h = grind (arith, missing_none, from_none, subset_none)

-- what a message begins with, and what follows
started : (source : List ℕ) (f : Fault) (e : Error) (end : List ℕ) → IsNoChar f → IsErrorOf source f e → message_start e ++? Some end ≢ None
unfolding message_start
started source f e end none told = grind arith

pub told_some : (limit : ℕ) (allow : Bool) (text : List ℕ) (asked : List Asked) (source : List ℕ) (f : Fault) (e : Error) (end : List ℕ) → RefusalOf limit allow text asked source f → IsErrorOf source f e → message_start e ++? Some end ≢ None
told_some limit allow text asked source f e end refusal told = started source f e end (refused_none limit allow text asked source f refusal) told
