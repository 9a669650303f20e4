use Rattle.std.proofs.Common.{◌+◌, arith}
use Rattle.rox_bytes.proofs.LaneLemmas.{ends_on, first_seen, none_seen}
use Rattle.rox_bytes.proofs.byte_set.skip_set.Goals as goal

pub returns-then-others-ne0 : goal.returns-then-others-ne0
returns-then-others-ne0 g c =
    rw c.before_first.ensures (first_seen g.C.ByteSet.test c.args.text.now c.args.at c.others_at-others.result (rw c.as_bytes-bytes.ensures.value at c.others_at-others.ensures) (omega (arith, c.if-others-ne0.true)))

pub returns : goal.returns
returns g c =
    let bytes = c.args.text.now in
    let i = c.args.at in
    let none = none_seen g.C.ByteSet.test bytes i c.others_at-others.result (rw c.as_bytes-bytes.ensures.value at c.others_at-others.ensures) (omega (arith, c.if-others-ne0.false)) in
    ends_on g.C.ByteSet.test bytes i (i + 16) c.bytes_end_beyond.result (omega arith) none (rw c.as_bytes-bytes.ensures.value at c.bytes_end_beyond.ensures)
