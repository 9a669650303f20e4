-- The mask is held against the definition at each of the 256 bytes, by computing.
use Rattle.std.proofs.Common.{not, refl, arith}
use Rattle.std.proofs.lemmas.Simd.{zip2_of_maps}
use Rattle.rox_bytes.specs.Nibbles.{at_low}
use Rattle.rox_bytes.specs.ByteSets.{is_stretch_byte}
use Rattle.rox_scan.specs.declared.lookahead.TheConstants.{STRETCH_ENDS}
use Rattle.rox_bytes.proofs.TableLemmas.{agree_below}
use Rattle.rox_bytes.proofs.LaneLemmas.{masked, map_same, equals}
use Rattle.rox_scan.proofs.lookahead.StretchByteByteSet.others.Goals as goal

pub returns : goal.returns
unfolding agree_below is_stretch_byte
returns c =
    let v = c.args.block in
    masked _ (λ b. not (is_stretch_byte b)) v _ (omega (arith, c.fits-block.0)) c.fits-block.1
    (zip2_of_maps equals (at_low STRETCH_ENDS) (λ x. x) v c.by_low.ensures (map_same v)) refl
