-- The mask is held against the definition at each of the 256 bytes, by computing.
use Rattle.std.proofs.Common.{not, refl, arith, bit_xor}
use Rattle.std.proofs.lemmas.Simd.{zip2_of_maps}
use Rattle.rox_bytes.specs.Nibbles.{at_low}
use Rattle.rox_sections.specs.Sections.{is_section_byte}
use Rattle.rox_sections.specs.declared.quick_sections.TheConstants.{SECTION_EXCEPTIONS}
use Rattle.rox_bytes.proofs.TableLemmas.{agree_below}
use Rattle.rox_bytes.proofs.LaneLemmas.{masked, against, either, map_same, equals, below}
use Rattle.rox_sections.proofs.quick_sections.SectionByteByteSet.others.Goals as goal

pub returns : goal.returns
unfolding agree_below is_section_byte
returns c =
    let v = c.args.block in
    let long = c.fits-block.0 in
    masked _ (λ b. not (is_section_byte b)) v _ (omega (arith, long)) c.fits-block.1
    (either (λ x. bit_xor (below x 32) (equals (at_low SECTION_EXCEPTIONS x) x)) (λ x. equals x 239) v
    (zip2_of_maps bit_xor (λ x. below x 32) (λ x. equals (at_low SECTION_EXCEPTIONS x) x) v
    (against below (λ x. x) 32 16 v long (map_same v))
    (zip2_of_maps equals (at_low SECTION_EXCEPTIONS) (λ x. x) v c.by_low.ensures (map_same v)))
    (against equals (λ x. x) 239 16 v long (map_same v))) refl
