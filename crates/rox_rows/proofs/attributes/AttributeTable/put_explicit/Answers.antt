use Rattle.std.proofs.Common.{rules, ◌≡◌, ◌++◌, ◌∷◌, [], length, map, length-append, ap, ◌∙◌, arith}
use Rattle.rox_rows.specs.StoredAttributes.{row_in}
use Rattle.rox_rows.proofs.AttributeRows.{explicit_row, rows_push, rows_grown, numbered_explicit, count_one_more, owned_push}
use Rattle.rox_rows.proofs.attributes.AttributeTable.put_explicit.Goals as goal

pub invariant_of-self-2 : goal.invariant_of-self-2
invariant_of-self-2 c =
    let old = c.args.self.now in
    let last : c.new-row.result.place ≡ length old.explicit.items = omega (arith, c.new-row.ensures.place_is, c.len-number.ensures, old.explicit.ok.0) in
    let more = c.push_reserved.new.self.items in
    let places = ap length c.push_reserved-2.ensures.items ∙ length-append old.explicit.items (c.args.places ∷ []) in
    let count = count_one_more old.items.items more c.new-row.result c.push_reserved.ensures.items c.new-row.ensures.before_is in
    record {
      listed =
          owned_push old.items.items more old.owned.items _ c.new-row.result c.args.item c.len-place.result c.push_reserved.ensures.items c.new-row.ensures.is
          (omega (arith, c.len-place.ensures, old.items.ok.0)) old.listed (c.note.ensures.put c.if-not-note.false);
      numbered = numbered_explicit old.items.items more c.new-row.result (length old.explicit.items) c.push_reserved.ensures.items old.numbered old.counted last;
      counted = omega (arith, places, count, old.counted);
    }

pub returns : goal.returns
returns c = record {
  put =
      λ _.
      let old = c.args.self.now in
      let last : c.new-row.result.place ≡ length old.explicit.items = omega (arith, c.new-row.ensures.place_is, c.len-number.ensures, old.explicit.ok.0) in
      let us = old.explicit.items ++ c.args.places ∷ [] in
      let row = explicit_row old.explicit.items c.new-row.result c.args.item c.args.places c.new-row.ensures.is c.new-row.ensures.before_is last in
      ap (λ ps. map (row_in ps) c.push_reserved.new.self.items) c.push_reserved-2.ensures.items
      ∙ rows_push us old.items.items c.push_reserved.new.self.items c.new-row.result (c.args.item, c.args.places) c.push_reserved.ensures.items row
      ∙ ap (λ rows. rows ++ (c.args.item, c.args.places) ∷ []) (rows_grown old.explicit.items (c.args.places ∷ []) old.items.items old.numbered old.counted);
  none = search rules;
}
