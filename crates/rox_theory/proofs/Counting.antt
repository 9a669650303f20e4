-- There is one count of the replacement texts that a reference opens, and so every count is as small as the one that is known.
use Rattle.std.proofs.Common.{◌≡◌, ℕ, zero, suc, ◌+◌, ◌≤◌, false, List, length, refl, sym, ap, ◌∙◌, subst, arith}
use Rattle.std.specs.Prelude.{Some, Ok, Err}
use Rattle.std.proofs.lemmas.Bool.{false≢true}
use Rattle.rox_grammar.specs.declared.fault.Fault.TheVariants as fault
use Rattle.rox_grammar.specs.Forest.{Forest}
use Rattle.rox_grammar.specs.Written.{Item}
use Rattle.rox_grammar.specs.Content.{Content}
use Rattle.rox_grammar.specs.Entities.{Replacement, Entity, text_of, included_in_main, most_deep}
use Rattle.rox_grammar.specs.Expansion.{Counts}
use Rattle.rox_reading.specs.Refusals.{here}
use Rattle.rox_reading.specs.Values.{ValueInclusion, value_text}
use Rattle.rox_theory.specs.Openers.{AreTexts, AgreesValue}
use Rattle.rox_theory.proofs.ValueLemmas.{value_text_sound, value_text_chars, value_text_complete}
use Rattle.rox_theory.proofs.FailedReadings.{ok_one}
use Rattle.rox_theory.proofs.Openers.{no_stop}
use Rattle.rox_theory.proofs.PartOnce.{OpensOnce}
use Rattle.rox_theory.proofs.Once.{text_once, same_text}
use Rattle.rox_theory.proofs.Following.{few_opened, few_opened_in_value}

-- ---- in a value

-- A replacement text as a part of a value, with the number of those that were opened before it and after it.
unfoldable counter : List Entity → (depth_left : ℕ) → ValueInclusion
counter es zero t after b = Err (here (fault.EntityReferenceLoop after))
counter es (suc d) t after b = value_text false es (counter es d) (length t.source) t.source (length t.source) t.start (b + 1)

counts_none : (es : List Entity) → AgreesValue es (Counts es zero) (counter es zero)
unfolding counter
counts_none es = record { sound = λ name t after b c w found h. cc h; complete = λ name after b c w h. absurd h }

module _ (es : List Entity) (texts : AreTexts es) (d : ℕ) (inner : AgreesValue es (Counts es d) (counter es d)) where
  counted_sound : (name : List ℕ) (t : Replacement) (after b c : ℕ) (w : List ℕ) → text_of es name ≡ Some t → counter es (suc d) t after b ≡ Ok (w, c) → (Counts es (suc d)).value name b w c
  unfolding counter
  counted_sound name t after b c w found read =
      let text = texts name t found in
      let src = t.source in
      let value = value_text_sound es src text.0 (length src) (omega arith) (no_stop src) false (Counts es d) (counter es d) inner (length src) t.start (b + 1) c w text.1.0 (omega arith) (λ z. absurd (false≢true z)) read in
      let chars = value_text_chars es src text.0 (length src) (omega arith) (no_stop src) false (Counts es d) (counter es d) inner (length src) t.start (b + 1) c w refl text.1 text.1.0 (omega arith) read in
      (t, found, chars, value)

  counted_complete : (name : List ℕ) (after b c : ℕ) (w : List ℕ) → (Counts es (suc d)).value name b w c → (t : Replacement) × (text_of es name ≡ Some t) × (counter es (suc d) t after b ≡ Ok (w, c))
  unfolding counter
  counted_complete name after b c w (t, found, chars, value) =
      let text = texts name t found in
      let src = t.source in
      (t, found, value_text_complete es src text.0 (length src) (omega arith) (no_stop src) false (Counts es d) (counter es d) inner (length src) t.start (b + 1) c w text.1.0 (omega arith) text.1 (λ z. chars) value)

-- It is counted as the grammar says.
counts_agree : (es : List Entity) → AreTexts es → (d : ℕ) → AgreesValue es (Counts es d) (counter es d)
counts_agree es texts zero = counts_none es
counts_agree es texts (suc d) =
    let inner = counts_agree es texts d in
    record { sound = counted_sound es texts d inner; complete = counted_complete es texts d inner }

-- In one way.
pub value_counted_once : (es : List Entity) → AreTexts es → (d : ℕ) (name : List ℕ) (b c e : ℕ) (v w : List ℕ) → (Counts es d).value name b v c → (Counts es d).value name b w e → (v ≡ w) × (c ≡ e)
value_counted_once es texts d name b c e v w h k =
    let x = (counts_agree es texts d).complete name 0 b c v h in
    let y = (counts_agree es texts d).complete name 0 b e w k in
    let read = subst (λ (t : Replacement). counter es d t 0 b ≡ Ok (w, e)) (same_text y.0 x.0 (sym y.1 ∙ x.1)) y.2 in
    let one = ok_one (v, c) (w, e) (counter es d x.0 0 b) x.2 read in
    (ap (λ (p : List ℕ × ℕ). p.0) one, ap (λ (p : List ℕ × ℕ). p.1) one)

-- ---- in content

pub content_counted_once : (es : List Entity) → AreTexts es → (d : ℕ) → OpensOnce (Counts es d)
content_counted_once es texts zero name b c e items more h k = absurd h
content_counted_once es texts (suc d) name b c e items more (t, found, content) (u, found', content') =
    let same : u ≡ t = same_text u t (sym found' ∙ found) in
    let O = Counts es d in
    let content2 : Content false O t.source t.start (length t.source) (b + 1) e more = subst (λ (u : Replacement). Content false O u.source u.start (length u.source) (b + 1) e more) same content' in
    text_once es (counter es d) O (counts_agree es texts d) (content_counted_once es texts d) t.source (texts name t found).0 t.start (b + 1) c e items more content content2

-- ---- every count

pub most_opened : (es : List Entity) (name : List ℕ) (b c n : ℕ) (items : Forest Item) → AreTexts es → (included_in_main es).content name b items c → (Counts es most_deep).content name 0 items n → n ≤ 256
most_opened es name b c n items texts opened counted =
    let few = few_opened es name b c items opened in
    let one = content_counted_once es texts most_deep name 0 few.0 n items items few.1 counted in
    omega (arith, few.2, one.1)

pub most_opened_in_value : (es : List Entity) (name : List ℕ) (b c n : ℕ) (v : List ℕ) → AreTexts es → (included_in_main es).value name b v c → (Counts es most_deep).value name 0 v n → n ≤ 256
most_opened_in_value es name b c n v texts opened counted =
    let few = few_opened_in_value es name b c v opened in
    let one = value_counted_once es texts most_deep name 0 few.0 n v v few.1 counted in
    omega (arith, few.2, one.1)
