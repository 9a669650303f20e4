use Rattle.std.proofs.Common.{◌<◌, arith}
use Rattle.rox_bytes.proofs.LaneLemmas.{first_seen, first_there}
use Rattle.rox_bytes.proofs.near.find_near.Goals as goal

pub returns : goal.returns
returns g c =
    let some : 0 < c.others_at-others.result = omega (arith, c.if-others-eq0.false) in
    let bytes = c.args.text.now in
    let others = c.others_at-others.result in
    let seen = rw c.as_bytes-bytes.ensures.value at c.others_at-others.ensures in
    rw c.before_first.ensures (record {
      ends = first_seen g.C.ByteSet.test bytes c.args.at others seen some;
      there = first_there g.C.ByteSet.test bytes c.args.at others seen some;
    })
