use Rattle.std.proofs.Common.{bit_and}
use Rattle.std.proofs.lemmas.Simd.{zip2_splat}
use Rattle.rox_bytes.specs.Nibbles.{at_low}
use Rattle.rox_bytes.proofs.LaneLemmas.{low_ok, low_gives, looked_up}
use Rattle.rox_bytes.proofs.nibbles.by_low.Goals as goal

pub swizzle : goal.swizzle
swizzle c = low_ok c.args.block c.fits-block

pub returns : goal.returns
returns c =
    let v = c.args.block in
    looked_up c.args.table (λ x. bit_and x 143) (at_low c.args.table) v _ c.fits-block (zip2_splat bit_and v 16 143 c.fits-block.0) (low_gives c.args.table)
