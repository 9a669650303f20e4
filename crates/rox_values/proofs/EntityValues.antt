-- A value that consists of a reference to an entity whose replacement text gives itself.
use Rattle.std.proofs.Common.{◌≡◌, ℕ, suc, ◌-◌, ◌<◌, true, false, List, [], Ok, drop, length, slice_index, refl, sym, ap, subst, ◌∙◌, arith, IsUtf8, IsCharBoundary}
use Rattle.rox_grammar.specs.Entities.{Entity, most_within}
use Rattle.rox_reading.specs.Machine.{value_opener}
use Rattle.rox_reading.specs.Tags.{Values}
use Rattle.rox_reading.specs.Values.{opens, value_bit_at, value_reference_at, value_text}
use Rattle.rox_bytes.specs.ByteSets.{AllPass, is_quoted_byte}
use Rattle.rox_scan.specs.Views.{replacement_view}
use Rattle.rox_scan.specs.declared.cursor.Cursor.{Cursor}
use Rattle.rox_values.specs.DeclaredEntities.{AreMainValues}
use Rattle.rox_values.specs.Values.{text_behind}
use Rattle.rox_values.specs.declared.context.Context.{Context}
use Rattle.rox_values.proofs.MainValues.{none_behind}
use Rattle.rox_values.proofs.PartLemmas.{value_done, value_opens}
use Rattle.rox_values.proofs.PlainTexts.{plain_reads, to_end}
use Rattle.rox_values.proofs.ValueOpening.{opens_reads}

whole : (es : List Entity) (d : ℕ) (src : List ℕ) (i stop openings_left : ℕ) (text : List ℕ) (pos : ℕ) → i < stop → value_bit_at true es src stop i ≡ Ok (opens (record { source = text; start = pos }), stop)
    → IsUtf8 text → IsCharBoundary text pos → AllPass is_quoted_byte text pos (length text)
    → value_text true es (value_opener es (suc d) true) (stop - i) src stop i openings_left ≡ Ok (drop pos text, openings_left)
whole es d src i stop openings_left text pos some bit utf8 cut all =
    let opener = value_opener es (suc d) true in
    let new = drop pos text in
    let inner : text_behind [] (value_text false es (value_opener es d false) (length text) text (length text) pos most_within) ≡ Ok (new, most_within) =
    plain_reads text pos most_within es (value_opener es d false) [] utf8 cut all ∙ ap (λ (xs : List ℕ). Ok (xs, most_within)) (sym (to_end text pos)) in
    let opened = opens_reads es (suc d) d true (record { source = text; start = pos }) stop openings_left most_within most_within [] new (omega arith) refl inner in
    none_behind _ new openings_left
    (sym (value_opens true es opener openings_left openings_left [] new (stop - i) (stop - i - 1) src stop i stop (record { source = text; start = pos }) (omega arith) some bit opened)
    ∙ value_done true es opener openings_left new (stop - i - 1) src stop stop (omega arith))

referred : (es : List Entity) (src : List ℕ) (stop i : ℕ) → slice_index src i ≡ 38 → value_bit_at true es src stop i ≡ value_reference_at true es src i
unfolding value_bit_at
referred es src stop i here = rw here refl

pub entity_is : (x : Context) (values : Values) (m : AreMainValues x values) (src : List ℕ) (i stop openings_left : ℕ) (c : Cursor) → i < stop → slice_index src i ≡ 38 → 0 < x.depth_left
    → value_reference_at x.main m.entities src i ≡ Ok (opens (replacement_view c), stop) → AllPass is_quoted_byte c.text.now c.pos (length c.text.now)
    → value_text values.main values.entities values.opener (stop - i) src stop i openings_left ≡ Ok (drop c.pos c.text.now, openings_left)
entity_is x values m src i stop openings_left c some here deep read all =
    let bit = referred m.entities src stop i here ∙ rw m.main at read in
    let d : suc (x.depth_left - 1) ≡ x.depth_left = omega arith in
    let is = whole m.entities (x.depth_left - 1) src i stop openings_left c.text.now c.pos some bit c.utf8 c.cut all in
    rw (m.are, m.main) (subst (λ (n : ℕ). value_text true m.entities (value_opener m.entities n true) (stop - i) src stop i openings_left ≡ Ok (drop c.pos c.text.now, openings_left)) d is)
