-- A character begins behind the byte order mark.
use Rattle.std.proofs.Common.{◌≡◌, ℕ, ◌==◌, true, List, ◌++◌, length, drop, refl, sym, IsUtf8, IsCharBoundary}
use Rattle.std.specs.List.{starts_with}
use Rattle.std.specs.Char.{encode_utf8}
use Rattle.std.proofs.lemmas.Str.{IsCharBoundary-at_seam, IsUtf8-past_char}
use Rattle.std.proofs.lemmas.Bool.Decides.{Decides-eqb}
use Rattle.std.proofs.lemmas.Slice.Eq.{starts_is}
use Rattle.rox_grammar.specs.TextStart.{bom}

pub mark_cut : (src : List ℕ) → IsUtf8 src → starts_with ◌==◌ src bom ≡ true → IsCharBoundary src 3
unfolding encode_utf8
mark_cut src utf8 marked =
    let split : src ≡ bom ++ drop (length bom) src = (starts_is Decides-eqb src bom true (sym marked)).0 refl in
    IsCharBoundary-at_seam src bom (drop (length bom) src) split (IsUtf8-past_char src (drop (length bom) src) 0xFEFF utf8 split)
