-- A run of name characters goes on after ASCII bytes of names.
use Rattle.std.proofs.Common.{◌≡◌, ℕ, zero, suc, ◌+◌, ◌-◌, ◌≤◌, true, List, length, refl, ◌∙◌, arith, IsUtf8}
use Rattle.std.proofs.lemmas.Bool.Decides.{nat_tests}
use Rattle.rox_grammar.specs.Chars.{is_name_char, is_part_char}
use Rattle.rox_grammar.specs.Runs.{run_end}
use Rattle.rox_bytes.specs.ByteSets.{AllPass, is_part_byte}
use Rattle.rox_bytes.proofs.RunLemmas.{run_on_ascii}
use Rattle.rox_bytes.proofs.NearLemmas.{part_ascii}

part_is_name : (b : ℕ) → is_part_byte b ≡ true → is_name_char b ≡ true
unfolding is_part_byte is_part_char
part_is_name b h = grind (arith, nat_tests)

name_from : (src : List ℕ) (i e n : ℕ) → i + n ≡ e → e ≤ length src → IsUtf8 src → AllPass is_part_byte src i e → run_end is_name_char src e ≡ run_end is_name_char src i
name_from src i e zero same within utf8 all = let at : e ≡ i = omega arith in rw at refl
name_from src i e (suc n) same within utf8 all =
    let here = all i (omega arith) (omega arith) in
    name_from src (i + 1) e n (omega arith) within utf8 (λ k low high. all k (omega arith) high)
    ∙ run_on_ascii is_name_char src i utf8 (omega arith) (part_ascii _ here) (part_is_name _ here)

pub name_goes_on : (src : List ℕ) (i e : ℕ) → IsUtf8 src → i ≤ e → e ≤ length src → AllPass is_part_byte src i e → run_end is_name_char src e ≡ run_end is_name_char src i
name_goes_on src i e utf8 le within all = name_from src i e (e - i) (omega arith) within utf8 all
