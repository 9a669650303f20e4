use Rattle.std.proofs.Common.{◌/◌}
use Rattle.std.proofs.lemmas.Simd.{zip2_splat}
use Rattle.rox_bytes.specs.Nibbles.{at_high}
use Rattle.rox_bytes.proofs.LaneLemmas.{down, high_gives, high_ok, looked_up}
use Rattle.rox_bytes.proofs.nibbles.by_high.Goals as goal

pub swizzle : goal.swizzle
swizzle c = high_ok c.args.block c.fits-block

pub returns : goal.returns
returns c =
    let v = c.args.block in
    looked_up c.args.table (λ x. x / 16) (at_high c.args.table) v _ c.fits-block (zip2_splat down v 16 4 c.fits-block.0) (high_gives c.args.table)
