-- A run that is read by its items alone.
use Rattle.std.proofs.Common.{◌≡◌, ◌<◌, ◌≤◌, ◌-◌, suc, ℕ, true, false, List, [], ◌∷◌, Ok, length, refl, sym, arith, subst}
use Rattle.rox_grammar.specs.Written.{Text}
use Rattle.rox_reading.specs.State.{State}
use Rattle.rox_reading.specs.Refusals.{lifted}
use Rattle.rox_reading.specs.Values.{data_part, at_end}
use Rattle.rox_reading.specs.Machine.{Context, with_item, data_parts}
use Rattle.rox_values.specs.Values.{GivesData}
use Rattle.rox_sections.proofs.LineRuns.{counted_at}

at_bytes : (context : Context) (src : List ℕ) (s : State) (j : ℕ) (bytes : List ℕ) → context.values.main ≡ true → s.at < j → j ≤ length src → GivesData src s.at j bytes
    → data_parts context (length src) src s.at j s ≡ lifted (with_item context.limit s j (Text s.at j bytes false))
unfolding data_parts
at_bytes context src s j [] main some within h = absurd (h.some refl)
at_bytes context src s j (b ∷ bs) main some within h =
    let len : length src ≡ suc (length src - 1) = omega arith in
    let part : data_part context.values.main context.values.entities (j - s.at) src j s.at ≡ Ok (b ∷ bs, at_end) = rw main (h.value context.values.entities) in
    rw (len, part, main) (counted_at _ _ _ j refl)

pub changed_run : (context : Context) (src : List ℕ) (s : State) (i j : ℕ) (bytes : List ℕ) → i ≡ s.at → context.values.main ≡ true → i < j → j ≤ length src → GivesData src i j bytes
    → data_parts context (length src) src i j s ≡ lifted (with_item context.limit s j (Text s.at j bytes false))
changed_run context src s i j bytes e main some within h =
    subst (λ (n : ℕ). data_parts context (length src) src n j s ≡ lifted (with_item context.limit s j (Text s.at j bytes false))) (sym e)
    (at_bytes context src s j bytes main (omega (arith, e, some)) within (subst (λ (n : ℕ). GivesData src n j bytes) e h))
