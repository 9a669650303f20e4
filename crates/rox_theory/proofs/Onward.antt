-- Places go forward, and no character is longer than what it is written by.
use Rattle.std.proofs.Common.{arith, ap, length-append, encode_utf8}
use Rattle.std.proofs.lemmas.Str.{length-encode}
use Rattle.std.proofs.lemmas.Bool.{cond_both}
use Rattle.std.specs.Prelude.{◌≡◌, ℕ, zero, suc, ◌+◌, ◌-◌, ◌≤◌, Bool, true, false, List, [], ◌∷◌, length, take, drop, refl}
use Rattle.rox_grammar.specs.Written.{Item}
use Rattle.rox_grammar.specs.Chars.{is_name_char}
use Rattle.rox_grammar.specs.declared.fault.Word.TheVariants as word
use Rattle.rox_grammar.specs.FixedTexts.{word_text}
use Rattle.rox_grammar.specs.Names.{slice, IsQName}
use Rattle.rox_grammar.specs.Constructs.{IsCData, IsEnd, IsEq}
use Rattle.rox_grammar.specs.References.{IsReference, IsCharacter}
use Rattle.rox_grammar.specs.Runs.{first_passes}
use Rattle.rox_grammar.specs.Content.{DataByte, is_literal, data_bytes_of, line_ends, value_bytes, Part, part_ends, as_written, from_reference, TagEnds, IsMisc}
use Rattle.rox_theory.proofs.Productions.{ncname_parts, reference_parts, cdata_parts}
use Rattle.rox_theory.proofs.Basics.{run_end_le, mark_from_le}

-- ---- line ends

pub ends_shorten : (ss : List DataByte) → length (line_ends ss) ≤ length ss
ends_shorten [] = omega arith
ends_shorten (s ∷ ss) =
    let h = ends_shorten ss in
    cond_both (is_literal 13 s) _ _ (λ (bs : List ℕ). length bs ≤ length (s ∷ ss))
    (λ _. cond_both (first_passes (is_literal 10) ss) _ _ (λ (bs : List ℕ). length bs ≤ length (s ∷ ss)) (λ _. omega (arith, h)) (λ _. omega (arith, h)))
    (λ _. omega (arith, h))

pub signs_length : (main : Bool) (bs : List ℕ) → length (data_bytes_of main bs) ≡ length bs
signs_length main [] = refl
signs_length true (b ∷ bs) = ap suc (signs_length true bs)
signs_length false (b ∷ bs) = ap suc (signs_length false bs)

pub take_short : (n : ℕ) (bs : List ℕ) → length (take n bs) ≤ n
take_short zero bs = omega arith
take_short (suc n) [] = omega arith
take_short (suc n) (b ∷ bs) = let h = take_short n bs in omega (arith, h)

pub slice_short : (src : List ℕ) (i j : ℕ) → length (slice src i j) ≤ j - i
slice_short src i j = take_short (j - i) (drop i src)

pub reference_onward : (src : List ℕ) (i n j : ℕ) → IsReference src i n j → i + 2 ≤ j
reference_onward src i n j is = let h = run_end_le is_name_char src (i + 1) in omega (arith, h, (reference_parts is).name.longest, (reference_parts is).next)

pub char_bytes : (src : List ℕ) (i c n : ℕ) → IsCharacter src i c n → length (encode_utf8 c) + i ≤ n
char_bytes src i c n h = grind (arith, length-encode)

-- Of a character in a value.
pub value_char : (main : Bool) (src : List ℕ) (i c n : ℕ) → IsCharacter src i c n → length (value_bytes main c) + i ≤ n
value_char main src i c n is = grind (arith, char_bytes, length-encode)

pub part_bytes : (main : Bool) (src : List ℕ) (j i : ℕ) (ss : List DataByte) → Part main src j i ss → length ss + i ≤ j
part_bytes main src j i ss part_ends = omega arith
part_bytes main src j i ss (as_written _ more within no_amp rest) = let h = part_bytes main src j (i + 1) more rest in omega (arith, h)
part_bytes main src j i ss (from_reference _ n c more is within rest) = grind (arith, part_bytes main src j n more rest, char_bytes src i c n is, length-append (data_bytes_of main (encode_utf8 c)) more, signs_length main (encode_utf8 c))

-- ---- places go forward

pub qname_onward : (src : List ℕ) (i j : ℕ) (name : _) → IsQName src i name j → i ≤ j
qname_onward src i j name h = grind (arith, run_end_le, ncname_parts)

pub eq_onward : (src : List ℕ) (i j : ℕ) → IsEq src i j → i ≤ j
eq_onward src i j is = grind (arith, run_end_le)

pub tag_end_onward : (src : List ℕ) (i : ℕ) (is_empty : Bool) (j : ℕ) → TagEnds src i is_empty j → i ≤ j
tag_end_onward src i is_empty j h = grind (arith, run_end_le)

pub end_onward : (src : List ℕ) (i : ℕ) (name : _) (n j : ℕ) → IsEnd src i name n j → i ≤ j
end_onward src i name n j is = grind (arith, qname_onward, run_end_le)

pub misc_onward : (src : List ℕ) (i j : ℕ) (item : Item) → IsMisc src i j item → i + 1 ≤ j
misc_onward src i j item h = grind (arith, run_end_le)

pub section_onward : (src : List ℕ) (i e j : ℕ) → IsCData src i e j → (i + 9 ≤ e) × (j ≡ e + 3)
section_onward src i e j is = let h = mark_from_le (word_text word.CDataEnd) src (i + 9) in (omega (arith, h, (cdata_parts is).end), (cdata_parts is).next)
