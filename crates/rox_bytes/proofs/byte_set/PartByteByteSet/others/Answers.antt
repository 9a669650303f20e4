-- The mask is held against the definition at each of the 256 bytes, by computing.
use Rattle.std.proofs.Common.{not, refl, arith}
use Rattle.rox_grammar.specs.Chars.{is_part_char, is_name_char, is_name_start}
use Rattle.rox_bytes.specs.Nibbles.{class_of}
use Rattle.rox_bytes.specs.ByteSets.{is_part_byte}
use Rattle.rox_bytes.specs.declared.byte_set.TheConstants.{PART_LOW, PART_HIGH}
use Rattle.rox_bytes.proofs.TableLemmas.{agree_below}
use Rattle.rox_bytes.proofs.LaneLemmas.{masked, against, equals}
use Rattle.rox_bytes.proofs.byte_set.PartByteByteSet.others.Goals as goal

pub returns : goal.returns
unfolding agree_below is_part_byte is_part_char is_name_char is_name_start
returns c =
    let v = c.args.block in
    let long = c.fits-block.0 in
    masked _ (λ b. not (is_part_byte b)) v _ (omega (arith, long)) c.fits-block.1
    (against equals (class_of PART_LOW PART_HIGH) 0 16 v long c.classes.ensures) refl
