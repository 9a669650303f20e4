-- The mask is held against the definition at each of the 256 bytes, by computing.
use Rattle.std.proofs.Common.{not, refl, arith, bit_xor}
use Rattle.std.proofs.lemmas.Simd.{zip2_of_maps}
use Rattle.rox_bytes.specs.Nibbles.{at_low}
use Rattle.rox_bytes.specs.ByteSets.{is_ascii_text_byte, is_text_byte, non_ascii_first}
use Rattle.rox_scan.specs.declared.character_data.TheConstants.{TEXT_EXCEPTIONS}
use Rattle.rox_bytes.proofs.TableLemmas.{agree_below}
use Rattle.rox_bytes.proofs.LaneLemmas.{masked, against, map_same, equals, below}
use Rattle.rox_scan.proofs.character_data.AsciiTextByteByteSet.others.Goals as goal

pub returns : goal.returns
unfolding agree_below is_text_byte is_ascii_text_byte
returns c =
    let v = c.args.block in
    let long = c.fits-block.0 in
    masked _ (λ b. not (is_ascii_text_byte b)) v _ (omega (arith, long)) c.fits-block.1
    (zip2_of_maps bit_xor (λ x. below (non_ascii_first x) 160) (λ x. equals (at_low TEXT_EXCEPTIONS x) x) v
    (against below non_ascii_first 160 16 v long c.non_ascii_first.ensures)
    (zip2_of_maps equals (at_low TEXT_EXCEPTIONS) (λ x. x) v c.by_low.ensures (map_same v))) refl
