use Rattle.std.proofs.Common.{bit_xor}
use Rattle.rox_bytes.proofs.LaneLemmas.{against, map_same}
use Rattle.rox_bytes.proofs.byte_set.non_ascii_first.Goals as goal

pub returns : goal.returns
returns c =
    let v = c.args.block in
    against bit_xor (λ x. x) 128 16 v c.fits-block.0 (map_same v)
