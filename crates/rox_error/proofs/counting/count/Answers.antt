use Rattle.std.proofs.Common.{◌≡◌, ◌+◌, count_by, arith}
use Rattle.std.proofs.lemmas.List.Sums.{count_by-le-length}
use Rattle.rox_error.proofs.CountLemmas.{count_in_parts}
use Rattle.rox_error.proofs.counting.count.Goals as goal

pub loop-rest-preserved : goal.loop-rest-preserved
loop-rest-preserved g c =
    let p = g.C.Counted.test in
    let parts = c.split_at.ensures in
    let block = c.split_at.result.0.now in
    let left = c.split_at.result.1.now in
    let both : count_by p block + count_by p left ≡ count_by p c.loop-rest.rest.now =
    rw (parts.front, parts.back) (count_in_parts p 128 c.loop-rest.rest.now) in
    record {
      within = omega (arith, c.loop-rest.invariant.within, parts.front_len, parts.back_len, c.count_in_block.ensures, count_by-le-length p block);
      counted = omega (arith, c.loop-rest.invariant.counted, c.count_in_block.ensures, both);
    }
