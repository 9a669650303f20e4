use Rattle.std.proofs.Common.{◌≡◌, ◌-◌, ◌<◌, [], length, slice_range, arith, string_bytes}
use Rattle.rox_values.proofs.BitLemmas.{front_put, special_cut}
use Rattle.rox_values.proofs.MainValues.{alike, none_behind, of_main, rest_behind}
use Rattle.rox_values.proofs.SpacedLemmas.{spaced_value, whole_runs}
use Rattle.rox_values.proofs.changed_value.changed_value.Goals as goal

pub range-requires-2-clause-end_boundary : goal.range-requires-2-clause-end_boundary
range-requires-2-clause-end_boundary c = grind (arith, special_cut)

pub put_value-requires : goal.put_value-requires
put_value-requires c =
    let less = c.requires.before in
    let more : c.args.first < length c.args.text.now = omega arith in
    let mid = special_cut c.args.text.now c.args.first more (c.requires.front.stops more) in
    record {
      start = mid;
      stop = c.requires.stop;
    }

pub returns-then-is_spaced : goal.returns-then-is_spaced
returns-then-is_spaced c =
    let src = c.args.text.now in
    let i = c.args.start in
    let stop = c.args.stop in
    let less = c.requires.before in
    let e = c.requires.front in
    let on = e.onward in
    let all = whole_runs src i c.args.first stop e (c.is_spaced.ensures c.if-is_spaced.true) in
    let read = spaced_value c.spaced_text.result src c.range.result.now i stop c.utf8.text (omega (arith, on, less)) c.requires.start c.requires.stop all c.range.ensures.value c.spaced_text.ensures in
    alike _ _ src i stop read

pub returns : goal.returns
returns c = λ values is openings_left.
    let src = c.args.text.now in
    let i = c.args.start in
    let j = c.args.first in
    let stop = c.args.stop in
    let put = rw (c.is_err.ensures.negation, c.if-is_err.false) at c.push_str.ensures.bytes in
    let front : string_bytes c.push_str.new.self ≡ slice_range src i j = rw (c.in-Ok.ensures.bytes, c.range-2.ensures.value) at put in
    let f = front_put src (string_bytes c.push_str.new.self) c.args.stop i j (record { start = c.requires.start; stop = c.requires.stop }) c.requires.before c.requires.front front in
    let main = of_main _ values is in
    let read = rest_behind values src [] (string_bytes c.push_str.new.self) (string_bytes c.put_value.new.out) stop i j main f (c.in-Ok-put_value.ensures c.if-not-put.false values is) (stop - i) (omega arith) openings_left in
    let whole = none_behind _ _ _ read in
    grind arith
