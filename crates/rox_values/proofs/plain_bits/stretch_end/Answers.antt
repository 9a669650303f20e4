use Rattle.std.proofs.Common.{arith}
use Rattle.rox_values.proofs.BitLemmas.{cut_short, outer_stretch}
use Rattle.rox_values.proofs.StopLemmas.{stretch_stops}
use Rattle.rox_values.proofs.plain_bits.stretch_end.Goals as goal

pub returns-then-main-clause-some : goal.returns-then-main-clause-some
returns-then-main-clause-some c =
    let src = c.args.text.now in
    let stop = c.args.stop in
    let near = c.skip_set.ensures in
    let least = c.min.ensures in
    let on = near.onward in
    let before = c.requires.begins.before in
    let e = cut_short src stop c.args.at c.skip_set.result c.min.result c.requires.begins.rest.stop.0 (omega (arith, least)) (omega (arith, least)) (omega (arith, least, on, before)) (λ less. omega (arith, least, less)) near in
    rw c.if-main.true (outer_stretch src stop c.args.at c.min.result c.requires.begins.rest before c.requires.plain e)

pub returns-in-Err-clause-none : goal.returns-in-Err-clause-none
returns-in-Err-clause-none c = rw c.if-main.false (stretch_stops c.args.text.now c.args.at c.args.stop _ c.requires.plain c.in-Err.ensures.value)
