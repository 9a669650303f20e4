use Rattle.std.proofs.Common.{◌<◌, ◌+◌, arith}
use Rattle.std.proofs.lemmas.Option.{IfSome_then}
use Rattle.rox_bytes.proofs.LaneLemmas.{ends_on, first_seen, first_there, none_seen}
use Rattle.rox_bytes.proofs.byte_set.find_run.Goals as goal

pub returns-then-others-ne0 : goal.returns-then-others-ne0
returns-then-others-ne0 g c =
    let some : 0 < c.others_at-others.result = omega (arith, c.if-others-ne0.true) in
    let bytes = c.args.text.now in
    let others = c.others_at-others.result in
    let seen = rw c.as_bytes-bytes.ensures.value at c.others_at-others.ensures in
    record {
      stops = rw c.before_first.ensures (record {
        ends = first_seen g.C.ByteSet.test bytes c.args.at others seen some;
        there = first_there g.C.ByteSet.test bytes c.args.at others seen some;
      });
      seen = λ _. seen;
    }

pub returns : goal.returns
returns g c =
    let bytes = c.args.text.now in
    let i = c.args.at in
    let none = none_seen g.C.ByteSet.test bytes i c.others_at-others.result (rw c.as_bytes-bytes.ensures.value at c.others_at-others.ensures) (omega (arith, c.if-others-ne0.false)) in
    let ends = ends_on g.C.ByteSet.test bytes i (i + 16) c.bytes_end_beyond-end.result (omega arith) none (rw c.as_bytes-bytes.ensures.value at c.bytes_end_beyond-end.ensures) in
    IfSome_then c.some_end-2.result c.some_end-2.ensures (λ e here. record {
      stops = record { ends = rw here.0 ends; there = rw (here.0, ← c.as_bytes-bytes.ensures.value) here.2 };
      seen = λ some. absurd (omega (arith, some, here.1));
    })
