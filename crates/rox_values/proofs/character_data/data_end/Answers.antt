use Rattle.std.proofs.Common.{arith, ap, List, ℕ, slice_index}
use Rattle.rox_values.proofs.DataLemmas.{ends_data, front_ends, run_ends}
use Rattle.rox_values.proofs.character_data.data_end.Goals as goal

pub returns-then-near-stop : goal.returns-then-near-stop
returns-then-near-stop c =
    let src = c.args.text.now in
    let r = c.requires.range in
    let s = c.skip_set-near.ensures in
    let e = front_ends src c.args.stop c.args.at c.skip_set-near.result c.args.stop r.stop_cut.0 (omega arith) (omega arith) (omega arith) s (λ less. absurd (omega (arith, less))) in
    ends_data src c.args.stop c.args.at c.args.stop r.stop_cut r.before c.requires.no_reference c.requires.no_line_end e

pub returns : goal.returns
returns c =
    let src = c.args.text.now in
    let r = c.requires.range in
    let s = c.skip_set-near.ensures in
    let on = s.onward in
    let read = ap (λ (l : List ℕ). slice_index l c.skip_set-near.result) c.as_bytes.ensures.value in
    let e = front_ends src c.args.stop c.args.at c.skip_set-near.result c.skip_set-near.result r.stop_cut.0 on (omega arith) (omega arith) s (λ less. run_ends _ (s.stops (omega arith)) (λ h. absurd (omega (arith, h, read)))) in
    ends_data src c.args.stop c.args.at c.skip_set-near.result r.stop_cut r.before c.requires.no_reference c.requires.no_line_end e

pub returns-then-as_bytes-near-eq60 : goal.returns-then-as_bytes-near-eq60
returns-then-as_bytes-near-eq60 c = grind (arith, ends_data)
