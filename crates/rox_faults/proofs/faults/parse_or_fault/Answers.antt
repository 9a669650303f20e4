use Rattle.std.proofs.Common.{◌≡◌, ◌⊎◌, ℕ, false, List, [], refl, inl, inr, IsUtf8}
use Rattle.std.specs.Prelude.{Ok, Err}
use Rattle.rox_grammar.specs.declared.fault.Fault.{Fault}
use Rattle.rox_grammar.specs.Forest.{Forest}
use Rattle.rox_grammar.specs.Written.{Item}
use Rattle.rox_grammar.specs.Document.{ParseOf, IsWithinLimits}
use Rattle.rox_grammar.specs.FaultsWithDoctype.{FaultOf}
use Rattle.rox_reading.specs.Doctype.{Asks}
use Rattle.rox_reading.specs.WholeText.{reading}
use Rattle.rox_theory.proofs.Whole.{plain_parse}
use Rattle.rox_faults.proofs.FaultWhole.{reading_faults}
use Rattle.rox_faults.proofs.faults.parse_or_fault.Goals as goal

-- By what is read.
either : (limit : ℕ) (src : List ℕ) → IsUtf8 src → (r : Asks (Forest Item)) → reading limit false [] src ≡ r
    → ((t : Forest Item) × ParseOf src false [] t × IsWithinLimits limit t) ⊎ ((f : Fault) × FaultOf limit src f)
either limit src utf8 (asked, Ok t) read = inl (let p = plain_parse src utf8 limit asked t read in (t, p.1, p.2))
either limit src utf8 (asked, Err e) read = inr (let f = reading_faults limit [] src asked e utf8 read in (f.0, f.2))

pub returns : goal.returns
returns c = λ limit src utf8. either limit src utf8 (reading limit false [] src) refl
