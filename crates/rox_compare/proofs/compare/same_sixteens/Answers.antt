use Rattle.std.proofs.Common.{◌≡◌, ◌+◌, ◌-◌, length, sym, ◌∙◌, arith}
use Rattle.rox_compare.proofs.Words.{last_tell}
use Rattle.rox_compare.proofs.compare.same_sixteens.Goals as goal

pub returns-then-same_sixteen : goal.returns-then-same_sixteen
returns-then-same_sixteen c =
    let one = c.args.pair.one.now in
    let other = c.args.pair.other.now in
    let last = length one - 16 in
    let m : length one ≡ last + 16 = omega (arith, c.requires.least) in
    let n : length other ≡ last + 16 = omega (arith, c.requires.least, c.args.pair.same) in
    c.same_sixteen-then-same_sixteen.ensures ∙ last_tell 16 one other last (omega (arith, c.requires.most)) m n (sym c.same_sixteen.ensures ∙ c.if-same_sixteen.true)
