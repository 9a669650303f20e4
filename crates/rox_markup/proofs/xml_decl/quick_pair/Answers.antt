use Rattle.std.proofs.Common.{◌≡◌, ◌+◌, length, refl, sym, ap, ◌∙◌, arith, slice_index, eqb-true}
use Rattle.rox_grammar.specs.FixedTexts.{word_text}
use Rattle.rox_scan.proofs.NearReads.{short_chars}
use Rattle.rox_bytes.proofs.NearLemmas.{value_cut}
use Rattle.rox_markup.proofs.PairLemmas.{word_is, pair_is}
use Rattle.rox_markup.proofs.xml_decl.quick_pair.Goals as goal

pub returns : goal.returns
returns c = λ _ named.
    let s = c.args.cursor.now in
    let src = s.text.now in
    let w = word_text c.args.name in
    let k = c.args.cursor.now.pos + length w in
    let j = c.after_byte-from.result in
    let e = c.skip_set-end.result in
    let near = c.skip_set-end.ensures in
    let last = sym c.is_at-3.ensures ∙ c.if-not-is_at-3.false in
    let name_end : length c.text.result.now ≡ length w = ap length c.text.ensures in
    let equals : slice_index src k ≡ 61 = rw (← name_end) (eqb-true _ _ (sym c.is_at.ensures ∙ c.if-not-is_at.false)) in
    let quote : slice_index src (k + 1) ≡ 34 = ap (slice_index src) (rw (← name_end) (sym c.after_byte-before.ensures.place)) ∙ eqb-true _ _ (sym c.is_at-2.ensures ∙ c.if-not-is_at-2.false) in
    let place : j ≡ k + 2 = omega (arith, name_end, c.after_byte-before.ensures.place, c.after_byte-from.ensures.place) in
    let name = word_is w src s.pos k s.utf8 named.letters.some named.letters.all named.here refl equals in
    let value = short_chars src j e 34 s.utf8 c.after_byte-from.ensures.cut refl near.onward (value_cut src j e s.utf8 c.after_byte-from.ensures.cut near.onward near.within near.passes) near.passes last in
    let more = near.onward in
    let end = c.after_byte-cursor.ensures.place in
    record {
      value = rw end (pair_is src s.pos _ k j e s.utf8 name equals quote place value (eqb-true _ _ last));
      source = refl;
      onward = omega arith;
    }
