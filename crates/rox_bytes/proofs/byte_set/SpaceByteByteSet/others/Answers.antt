-- The mask is held against the definition at each of the 256 bytes, by computing.
use Rattle.std.proofs.Common.{not, refl, arith}
use Rattle.std.proofs.lemmas.Simd.{zip2_of_maps}
use Rattle.rox_grammar.specs.Chars.{is_space}
use Rattle.rox_bytes.specs.Nibbles.{at_low}
use Rattle.rox_bytes.specs.declared.byte_set.TheConstants.{SPACES}
use Rattle.rox_bytes.proofs.TableLemmas.{agree_below}
use Rattle.rox_bytes.proofs.LaneLemmas.{masked, map_same, differs}
use Rattle.rox_bytes.proofs.byte_set.SpaceByteByteSet.others.Goals as goal

pub returns : goal.returns
unfolding agree_below
returns c =
    let v = c.args.block in
    masked _ (λ b. not (is_space b)) v _ (omega (arith, c.fits-block.0)) c.fits-block.1
    (zip2_of_maps differs (at_low SPACES) (λ x. x) v c.by_low.ensures (map_same v)) refl
