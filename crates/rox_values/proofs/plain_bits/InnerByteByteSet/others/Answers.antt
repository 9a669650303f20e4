-- The mask is held against the definition at each of the 256 bytes, by computing.
use Rattle.std.proofs.Common.{not, refl, arith}
use Rattle.std.proofs.lemmas.Simd.{zip2_of_maps}
use Rattle.rox_bytes.specs.Nibbles.{at_low}
use Rattle.rox_values.specs.Values.{is_inner_byte}
use Rattle.rox_values.specs.declared.plain_bits.TheConstants.{INNER_ENDS}
use Rattle.rox_bytes.proofs.TableLemmas.{agree_below}
use Rattle.rox_bytes.proofs.LaneLemmas.{masked, map_same, equals}
use Rattle.rox_values.proofs.plain_bits.InnerByteByteSet.others.Goals as goal

pub returns : goal.returns
unfolding agree_below is_inner_byte
returns c =
    let v = c.args.block in
    masked _ (λ b. not (is_inner_byte b)) v _ (omega (arith, c.fits-block.0)) c.fits-block.1
    (zip2_of_maps equals (at_low INNER_ENDS) (λ x. x) v c.by_low.ensures (map_same v)) refl
