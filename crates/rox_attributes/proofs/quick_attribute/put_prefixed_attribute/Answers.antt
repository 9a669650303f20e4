use Rattle.std.proofs.Common.{◌≡◌, length, slice_index, ap, sym, ◌∙◌, arith, rules, eqb-true}
use Rattle.std.proofs.lemmas.Grind.{common_steps}
use Rattle.rox_grammar.specs.Failures.{name_view}
use Rattle.rox_grammar.proofs.Stretches.{range_length}
use Rattle.rox_bytes.proofs.NearLemmas.{part_stops, part_cut}
use Rattle.rox_verbatim.proofs.Verbatim.{ascii_begins, value_starts}
use Rattle.rox_attributes.proofs.PlainAttributes.{some_filled}
use Rattle.rox_attributes.proofs.quick_attribute.put_prefixed_attribute.Goals as goal

pub prefixed_name-requires : goal.prefixed_name-requires
prefixed_name-requires c =
    let src = c.args.text.now in
    let near = c.requires.part in
    let here : slice_index src c.args.place.part ≡ 58 = eqb-true _ _ (sym c.is_at.ensures ∙ c.if-not-is_at.false) in
    record {
      first = record {
        start = c.requires.put.cut;
        part = record {
          place = part_stops src c.args.place.start c.args.place.part c.utf8.text near.onward near.within near.passes near.stops (λ _. omega (arith, here));
          onward = near.onward;
          cut = part_cut src c.args.place.start c.args.place.part c.utf8.text c.requires.put.cut near.onward near.within near.passes;
        };
        begins = ascii_begins src c.args.place.start c.args.place.part c.utf8.text near c.requires.put.begins (omega (arith, here));
      };
      here = here;
    }

pub unchanged_value-requires : goal.unchanged_value-requires
unchanged_value-requires c =
    let named = c.in-Some-prefixed_name.ensures.named in
    let v = value_starts c.args.text.now c.in-Some-prefixed_name.name.end c.utf8.text named.inside named.equals named.quote in
    record { cut = v.cut; near = c.skip_set-near.ensures; quote = c.quote_before-quote.ensures.quote }

pub put_named_attribute-requires : goal.put_named_attribute-requires
put_named_attribute-requires c =
    let named = c.in-Some-prefixed_name.ensures in
    let src = c.args.text.now in
    let i = c.args.place.start in
    let j = c.args.place.part in
    let near = c.requires.part in
    let first = c.requires.put.begins in
    let apart : i ≡ j → ⊥ = λ same. absurd (let last = ap (slice_index src) same in omega (arith, last, (eqb-true _ _ (sym c.is_at.ensures ∙ c.if-not-is_at.false)), first)) in
    let onward = near.onward in
    let size = ap length named.prefix ∙ range_length src i j onward near.within in
    let some = some_filled c.in-Some-prefixed_name.name.name.prefix.now (omega (arith, onward, apart, size)) in
    record {
      put = first_of (search rules, grind (arith, common_steps));
      found = c.in-Some.ensures (name_view c.in-Some-prefixed_name.name.name) (named.prefix ∙ sym c.range-prefix.ensures.value) some;
      named = named.named;
      local = omega (arith, onward, named.local);
      value = first_of (search rules, grind (arith, common_steps));
    }
