use Rattle.std.proofs.Common.{◌+◌, ◌≤◌, subst, arith, IsCharBoundary}
use Rattle.rox_bytes.specs.ByteSets.{EndsSet, is_value_byte}
use Rattle.rox_bytes.proofs.NearLemmas.{part_stops}
use Rattle.rox_verbatim.proofs.Verbatim.{behind_quote, ascii_begins, quote_first}
use Rattle.rox_attributes.proofs.quick_attribute.put_attribute.Goals as goal

pub name_without_prefix-name-requires : goal.name_without_prefix-name-requires
name_without_prefix-name-requires c = grind (arith, part_stops, ascii_begins)

pub value_in_window-requires : goal.value_in_window-requires
value_in_window-requires c =
    let src = c.args.text.now in
    let n = c.args.start + c.part_count-count.result in
    let window = c.new-window.ensures in
    let place = window.place in
    let few : c.part_count-count.result + 2 ≤ 16 = omega (arith, c.if-count-gt-MOST_NAME.false) in
    let near = c.part_count-count.ensures.few src window.sees (omega (arith, few)) in
    let seen = c.quote_in_text-quote.ensures.found (omega arith) in
    let first = quote_first src c.args.start n c.quote_in_text-quote.result (rw place at near) seen in
    record {
      seen = record {
        sees = window.sees;
        some = omega arith;
        few = few;
        opens = rw place (subst (EndsSet is_value_byte src c.args.start) (omega arith) first);
      };
      begins = record {
        cut = subst (IsCharBoundary src) (omega (arith, place)) (behind_quote src n c.quote_in_text-quote.result c.utf8.text seen.within seen.here seen.quote);
        quote = seen.quote;
      };
    }
