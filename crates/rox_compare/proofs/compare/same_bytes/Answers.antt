use Rattle.std.proofs.Common.{sym, arith, ext_get_or}
use Rattle.std.proofs.lemmas.Slice.Eq.{bytes_eq-Decides}
use Rattle.rox_compare.proofs.compare.same_bytes.Goals as goal

pub returns : goal.returns
returns c =
    let one = c.args.pair.one.now in
    let other = c.args.pair.other.now in
    let loop = c.loop-at in
    sym ((bytes_eq-Decides one other).1 (ext_get_or 0 one other c.args.pair.same (λ k lt. loop.invariant.same k (omega (arith, lt, loop.invariant.within, c.loop-at-test.false)))))
