-- Names of declarations, which begin with `xmlns`.
use Rattle.std.proofs.Common.{◌≡◌, ℕ, zero, suc, ◌+◌, ◌-◌, ◌<◌, true, false, List, Ok, get_or, slice_index, refl, sym, ap, ◌∙◌, arith, IsUtf8, IsCharBoundary, get_or-drop}
use Rattle.rox_grammar.specs.Chars.{is_name_char, is_name_start, is_part_char}
use Rattle.rox_grammar.specs.FixedTexts.{word_text}
use Rattle.rox_grammar.specs.Written.{Name, is_namespace_decl}
use Rattle.rox_grammar.specs.declared.fault.Word.TheVariants.{Xmlns}
use Rattle.rox_reading.specs.Lexical.{qname_at}
use Rattle.rox_bytes.specs.ByteSets.{AllPass, is_part_byte}
use Rattle.rox_bytes.proofs.NearLemmas.{part_begins, part_stops}
use Rattle.rox_verbatim.specs.PlainNames.{EndsFirstPart}
use Rattle.rox_tags.specs.TagAttributes.{HasXmlns}
use Rattle.rox_markup.proofs.PairLemmas.{name_is}

-- the bytes of `xmlns`
byte_of : (src : List ℕ) (i k : ℕ) → HasXmlns src i → k < 5 → slice_index src (i + k) ≡ get_or (word_text Xmlns) k 0
byte_of src i k h few = grind (arith, get_or-drop)

-- are those of a part of a name
part_of : (k : ℕ) → k < 5 → is_part_byte (get_or (word_text Xmlns) k 0) ≡ true
unfolding is_part_byte is_part_char is_name_char is_name_start
part_of zero few = refl
part_of (suc zero) few = refl
part_of (suc (suc zero)) few = refl
part_of (suc (suc (suc zero))) few = refl
part_of (suc (suc (suc (suc zero)))) few = refl
part_of (suc (suc (suc (suc (suc k))))) few = absurd (omega arith)

all_parts : (src : List ℕ) (i : ℕ) → HasXmlns src i → AllPass is_part_byte src i (i + 5)
all_parts src i h j low high =
    let at : i + (j - i) ≡ j = omega arith in
    let byte : slice_index src j ≡ get_or (word_text Xmlns) (j - i) 0 = grind (arith, byte_of) in
    rw byte (part_of (j - i) (omega arith))

-- the first is a letter
pub xmlns_letter : (src : List ℕ) (i : ℕ) → HasXmlns src i → slice_index src i ≡ 120
xmlns_letter src i h = let at : i + 0 ≡ i = omega arith in ap (slice_index src) (sym at) ∙ byte_of src i 0 h (omega arith)

-- so they are the first part of a name before an ASCII byte that is no more of one
pub first_part : (src : List ℕ) (i b : ℕ) → IsUtf8 src → HasXmlns src i → slice_index src (i + 5) ≡ b → b < 128 → is_part_byte b ≡ false
    → EndsFirstPart src i (i + 5) b
first_part src i b utf8 h is ascii stops =
    let within = h.behind in
    let all = all_parts src i h in
    let byte : slice_index src i ≡ 120 = ap (slice_index src) (sym (omega arith)) ∙ byte_of src i 0 h (omega arith) in
    let cut : IsCharBoundary src i = (omega arith, λ more wide. absurd (omega (arith, byte, wide))) in
    grind (arith, part_stops, part_begins)

pub colon_stops : is_part_byte 58 ≡ false
unfolding is_part_byte is_part_char is_name_char is_name_start
colon_stops = refl

pub equals_stops : is_part_byte 61 ≡ false
unfolding is_part_byte is_part_char is_name_char is_name_start
equals_stops = refl

one_name : (src : List ℕ) (i j k : ℕ) (m n : Name) → qname_at src i ≡ Ok (m, j) → qname_at src i ≡ Ok (n, k) → m ≡ n
one_name src i j k m n one other = grind arith

-- and one that is read here, where `=` stands behind `xmlns`
pub declares_whole : (src : List ℕ) (i e : ℕ) (n : Name) → HasXmlns src i → EndsFirstPart src i (i + 5) 61 → qname_at src i ≡ Ok (n, e)
    → is_namespace_decl n ≡ true
declares_whole src i e n h part read = grind (arith, name_is)
