-- What a first look at plain bytes tells of a text.
use Rattle.std.proofs.Common.{◌≡◌, ℕ, zero, suc, ◌+◌, ◌-◌, ◌<◌, ◌≤◌, ◌==◌, ◌||◌, Bool, true, false, not, List, length, get_or, take, drop, slice_range, refl, sym, ap, subst, ◌∙◌, arith, inl, inr, get_or-drop, length-drop, IsUtf8, IsCharBoundary}
use Rattle.std.specs.List.{list_any, list_all}
use Rattle.std.proofs.lemmas.Bool.{and_parts, cases_eq, cases_lt}
use Rattle.std.proofs.lemmas.Bool.Decides.{nat_tests}
use Rattle.std.proofs.lemmas.List.{length-take, get_or-take, drop_more, drop_all}
use Rattle.std.proofs.lemmas.List.Sums.{position_or_len_is}
use Rattle.std.proofs.lemmas.Str.{IsUtf8-take, IsCharBoundary-after_ascii}
use Rattle.rox_grammar.specs.Chars.{is_char, is_name_start, is_name_char, is_part_char, is_space}
use Rattle.rox_grammar.specs.Content.{is_verbatim_value}
use Rattle.rox_grammar.specs.Runs.{run_end, begins}
use Rattle.rox_grammar.specs.Search.{byte_from}
use Rattle.rox_grammar.proofs.AtPlace.{run_at_end, space_ascii}
use Rattle.rox_bytes.specs.ByteSets.{is_char_byte, AllPass, is_value_byte, is_any_value_byte, is_quoted_byte, is_text_byte, is_comment_byte, is_ascii_comment_byte, is_part_byte, is_run_byte}
use Rattle.rox_bytes.proofs.RunLemmas.{begins_ascii, run_on_ascii, run_stops_ascii, space_on, space_stops}
use Rattle.rox_bytes.proofs.PlainLemmas.{plain_run}
use Rattle.rox_bytes.proofs.EasedLemmas.{cut_before}

pub value_is_plain : (b : ℕ) → is_value_byte b ≡ true → is_char_byte b ≡ true
unfolding is_value_byte
value_is_plain b h = grind (arith, nat_tests)

pub text_is_plain : (b : ℕ) → is_text_byte b ≡ true → is_char_byte b ≡ true
unfolding is_text_byte
text_is_plain b h = grind (arith, nat_tests)

pub comment_is_plain : (b : ℕ) → is_comment_byte b ≡ true → is_char_byte b ≡ true
unfolding is_comment_byte
comment_is_plain b h = grind (arith, nat_tests)

pub value_widens : (b : ℕ) → is_value_byte b ≡ true → is_any_value_byte b ≡ true
unfolding is_any_value_byte
value_widens b h = rw h refl

pub any_value_is_plain : (b : ℕ) → is_any_value_byte b ≡ true → is_char_byte b ≡ true
unfolding is_any_value_byte is_value_byte
any_value_is_plain b h = grind (arith, nat_tests)

value_ascii : (b : ℕ) → is_value_byte b ≡ true → b < 128
unfolding is_value_byte
value_ascii b h = grind (arith, nat_tests)

pub quoted_is_plain : (b : ℕ) → is_quoted_byte b ≡ true → is_char_byte b ≡ true
unfolding is_quoted_byte is_any_value_byte is_value_byte
quoted_is_plain b h = grind (arith, nat_tests)

pub ascii_comment_widens : (b : ℕ) → is_ascii_comment_byte b ≡ true → is_comment_byte b ≡ true
unfolding is_ascii_comment_byte
ascii_comment_widens b h = (and_parts _ _ h).1

comment_ascii : (b : ℕ) → is_ascii_comment_byte b ≡ true → b < 128
unfolding is_ascii_comment_byte is_comment_byte
comment_ascii b h = grind (arith, nat_tests)

pub part_ascii : (b : ℕ) → is_part_byte b ≡ true → b < 128
unfolding is_part_byte
part_ascii b h = grind (arith, nat_tests)

-- a byte past ASCII that is not in the set begins a character
any_value_leads : (b : ℕ) → is_any_value_byte b ≡ false → 128 ≤ b → 192 ≤ b
unfolding is_any_value_byte is_value_byte
any_value_leads b h wide = grind (arith, nat_tests)

quoted_leads : (b : ℕ) → is_quoted_byte b ≡ false → 128 ≤ b → 192 ≤ b
unfolding is_quoted_byte is_any_value_byte is_value_byte
quoted_leads b h wide = grind (arith, nat_tests)

text_leads : (b : ℕ) → is_text_byte b ≡ false → 128 ≤ b → 192 ≤ b
unfolding is_text_byte
text_leads b h wide = grind (arith, nat_tests)

comment_leads : (b : ℕ) → is_comment_byte b ≡ false → 128 ≤ b → 192 ≤ b
unfolding is_comment_byte
comment_leads b h wide = grind (arith, nat_tests)

char_leads : (b : ℕ) → is_char_byte b ≡ false → 128 ≤ b → 192 ≤ b
char_leads b h wide = grind (arith, nat_tests)

-- so the first such byte is where one ends
pub any_value_cut : (src : List ℕ) (e : ℕ) → e ≤ length src → (e < length src → is_any_value_byte (get_or src e 0) ≡ false) → IsCharBoundary src e
any_value_cut src e within stops = (within, λ more wide. any_value_leads _ (stops more) wide)

pub quoted_cut : (src : List ℕ) (e : ℕ) → e ≤ length src → (e < length src → is_quoted_byte (get_or src e 0) ≡ false) → IsCharBoundary src e
quoted_cut src e within stops = (within, λ more wide. quoted_leads _ (stops more) wide)

pub text_cut : (src : List ℕ) (e : ℕ) → e ≤ length src → (e < length src → is_text_byte (get_or src e 0) ≡ false) → IsCharBoundary src e
text_cut src e within stops = (within, λ more wide. text_leads _ (stops more) wide)

pub comment_cut : (src : List ℕ) (e : ℕ) → e ≤ length src → (e < length src → is_comment_byte (get_or src e 0) ≡ false) → IsCharBoundary src e
comment_cut src e within stops = (within, λ more wide. comment_leads _ (stops more) wide)

pub char_cut : (src : List ℕ) (e : ℕ) → e ≤ length src → (e < length src → is_char_byte (get_or src e 0) ≡ false) → IsCharBoundary src e
char_cut src e within stops = (within, λ more wide. char_leads _ (stops more) wide)

part_is_part : (b : ℕ) → is_part_byte b ≡ true → is_part_char b ≡ true
unfolding is_part_byte
part_is_part b h = grind (arith, nat_tests)

-- a place behind ASCII bytes is one between characters
ascii_cut : (p : ℕ → Bool) (src : List ℕ) (i e : ℕ) → IsUtf8 src → IsCharBoundary src i → i ≤ e → e ≤ length src → AllPass p src i e → ((b : ℕ) → p b ≡ true → b < 128) → IsCharBoundary src e
ascii_cut p src i e utf8 cut le within all ascii =
    elim (cases_eq e i) [
      | inl same ↦ rw same cut
      | inr more ↦ subst (λ k. IsCharBoundary src k) (omega arith) (IsCharBoundary-after_ascii src (e - 1) utf8 (omega arith) (ascii _ (all (e - 1) (omega arith) (omega arith))))
    ]

pub part_cut : (src : List ℕ) (i e : ℕ) → IsUtf8 src → IsCharBoundary src i → i ≤ e → e ≤ length src → AllPass is_part_byte src i e → IsCharBoundary src e
part_cut src i e utf8 cut le within all = ascii_cut is_part_byte src i e utf8 cut le within all part_ascii

pub value_cut : (src : List ℕ) (i e : ℕ) → IsUtf8 src → IsCharBoundary src i → i ≤ e → e ≤ length src → AllPass is_value_byte src i e → IsCharBoundary src e
value_cut src i e utf8 cut le within all = ascii_cut is_value_byte src i e utf8 cut le within all value_ascii

pub ascii_comment_cut : (src : List ℕ) (i e : ℕ) → IsUtf8 src → IsCharBoundary src i → i ≤ e → e ≤ length src → AllPass is_ascii_comment_byte src i e → IsCharBoundary src e
ascii_comment_cut src i e utf8 cut le within all = ascii_cut is_ascii_comment_byte src i e utf8 cut le within all comment_ascii

-- a run of name characters goes on behind them
run_from : (src : List ℕ) (i e n : ℕ) → i + n ≡ e → e ≤ length src → IsUtf8 src → AllPass is_part_byte src i e → run_end is_part_char src e ≡ run_end is_part_char src i
run_from src i e zero same within utf8 all = let at : e ≡ i = omega arith in rw at refl
run_from src i e (suc n) same within utf8 all =
    let here = all i (omega arith) (omega arith) in
    run_from src (i + 1) e n (omega arith) within utf8 (λ k low high. all k (omega arith) high)
    ∙ run_on_ascii is_part_char src i utf8 (omega arith) (part_ascii _ here) (part_is_part _ here)

pub part_goes_on : (src : List ℕ) (i e : ℕ) → IsUtf8 src → i ≤ e → e ≤ length src → AllPass is_part_byte src i e → run_end is_part_char src e ≡ run_end is_part_char src i
part_goes_on src i e utf8 le within all = run_from src i e (e - i) (omega arith) within utf8 all

part_apart : (b : ℕ) → is_part_byte b ≡ false → b < 128 → is_part_char b ≡ false
unfolding is_part_byte
part_apart b h ascii = grind (arith, nat_tests)

-- and stops with them before an ASCII byte, or at the end
pub part_stops : (src : List ℕ) (i e : ℕ) → IsUtf8 src → i ≤ e → e ≤ length src → AllPass is_part_byte src i e → (e < length src → is_part_byte (get_or src e 0) ≡ false) → (e < length src → get_or src e 0 < 128) → e ≡ run_end is_part_char src i
part_stops src i e utf8 le within all stops ascii =
    let here : run_end is_part_char src e ≡ e = elim (cases_lt e (length src)) [
      | inl more ↦ run_stops_ascii is_part_char src e utf8 more (ascii more) (part_apart _ (stops more) (ascii more))
      | inr past ↦ run_at_end is_part_char src e past
    ] in
    sym here ∙ part_goes_on src i e utf8 le within all

part_starts : (b : ℕ) → is_part_byte b ≡ true → 63 < b → is_name_start b ≡ true
unfolding is_part_byte is_part_char is_name_char is_name_start
part_starts b h letter = grind (arith, nat_tests)

-- a part that begins with a letter or `_` begins a name
pub part_begins : (src : List ℕ) (i e : ℕ) → IsUtf8 src → i < e → e ≤ length src → AllPass is_part_byte src i e → 63 < get_or src i 0 → begins is_name_start src i ≡ true
part_begins src i e utf8 more within all letter =
    let here = all i (omega arith) more in
    begins_ascii is_name_start src i utf8 (omega (arith, more, within)) (part_ascii _ here) ∙ part_starts _ here letter

-- white space is ASCII, so a place behind it is one between characters
pub spaces_cut : (src : List ℕ) (i e : ℕ) → IsUtf8 src → IsCharBoundary src i → i ≤ e → e ≤ length src → AllPass is_space src i e → IsCharBoundary src e
spaces_cut src i e utf8 cut le within all = ascii_cut is_space src i e utf8 cut le within all space_ascii

spaces_from : (src : List ℕ) (i e n : ℕ) → i + n ≡ e → e ≤ length src → IsUtf8 src → AllPass is_space src i e → run_end is_space src e ≡ run_end is_space src i
spaces_from src i e zero same within utf8 all = let at : e ≡ i = omega arith in rw at refl
spaces_from src i e (suc n) same within utf8 all = grind (arith, spaces_from src (i + 1) e n (omega arith) within utf8 (λ k low high. all k (omega arith) high), space_on)

-- white space ends where another byte stands, or the text
pub spaces_end_there : (src : List ℕ) (i e : ℕ) → IsUtf8 src → IsCharBoundary src i → i ≤ e → e ≤ length src → AllPass is_space src i e → (e < length src → is_space (get_or src e 0) ≡ false) → e ≡ run_end is_space src i
spaces_end_there src i e utf8 cut le within all stops =
    let here : run_end is_space src e ≡ e = elim (cases_lt e (length src)) [
      | inl more ↦ space_stops src e utf8 (spaces_cut src i e utf8 cut le within all) more (stops more)
      | inr past ↦ run_at_end is_space src e past
    ] in
    sym here ∙ spaces_from src i e (e - i) (omega arith) within utf8 all

-- all of a stretch of such bytes
all_plain : (p : ℕ → Bool) (src : List ℕ) (i e n : ℕ) → i + n ≡ e → e ≤ length src → AllPass p src i e → ((b : ℕ) → p b ≡ true → is_char_byte b ≡ true) → list_all is_char_byte (drop i (take e src)) ≡ true
all_plain p src i e zero same within all are = let long = length-take e src in rw (drop_all i (take e src) (omega (arith, long))) refl
all_plain p src i e (suc n) same within all are =
    let long = length-take e src in
    let read : get_or (take e src) i 0 ≡ get_or src i 0 = get_or-take e src i 0 (omega (arith, long)) in
    rw (drop_more (take e src) i 0 (omega (arith, long)), read, are _ (all i (omega arith) (omega arith))) (all_plain p src (i + 1) e n (omega arith) within (λ k low high. all k (omega arith) high) are)

-- plain bytes are of Chars
pub near_chars : (p : ℕ → Bool) (src : List ℕ) (i e : ℕ) → IsUtf8 src → IsCharBoundary src i → i ≤ e → IsCharBoundary src e → AllPass p src i e → ((b : ℕ) → p b ≡ true → is_char_byte b ≡ true) → run_end is_char (take e src) i ≡ e
near_chars p src i e utf8 start le cut all are = grind (arith, length-take e src, plain_run (take e src) i (IsUtf8-take src e utf8 cut) (cut_before src i e le cut.0 start) (all_plain p src i e (e - i) (omega arith) cut.0 all are))

-- a search for a byte that is not in the set ends where the set does, if one stands there
pub near_found : (p q : ℕ → Bool) (src : List ℕ) (i e : ℕ) → i ≤ e → e ≤ length src → AllPass p src i e → ((b : ℕ) → p b ≡ true → q b ≡ false) → (e < length src → q (get_or src e 0) ≡ true) → byte_from q src i ≡ e
unfolding byte_from
near_found p q src i e le within all apart here =
    let found = position_or_len_is q (drop i src) (e - i) 0
    (omega (arith, length-drop i src))
    (λ k below. rw (get_or-drop i src k 0) (apart _ (all (i + k) (omega arith) (omega arith))))
    (λ more. let at : i + (e - i) ≡ e = omega arith in rw (get_or-drop i src (e - i) 0, at) (here (omega (arith, length-drop i src)))) in
    omega (arith, found)

-- none of a set of bytes is in a slice of the others
pub none_among : (p q : ℕ → Bool) (src : List ℕ) (i e n : ℕ) → i + n ≡ e → e ≤ length src → AllPass p src i e → ((b : ℕ) → p b ≡ true → q b ≡ false) → list_any q (slice_range src i e) ≡ false
none_among p q src i e zero same within all apart = let none : e - i ≡ 0 = omega arith in rw none refl
none_among p q src i e (suc n) same within all apart =
    let first : e - i ≡ suc (e - (i + 1)) = omega arith in
    rw (first, drop_more src i 0 (omega arith), apart _ (all i (omega arith) (omega arith))) (none_among p q src (i + 1) e n (omega arith) within (λ k low high. all k (omega arith) high) apart)

pub either_first : (q : ℕ) → (q == q || q == 60) ≡ true
either_first q = grind (arith, nat_tests)

pub value_apart : (quote b : ℕ) → (quote == 39 || quote == 34) ≡ true → is_value_byte b ≡ true → (b == quote || b == 60) ≡ false
unfolding is_value_byte
value_apart quote b q h = grind (arith, nat_tests)

value_plain : (b : ℕ) → is_value_byte b ≡ true → (b == 38 || (b == 9 || (b == 10 || b == 13))) ≡ false
unfolding is_value_byte
value_plain b h = grind (arith, nat_tests)

run_plain : (b : ℕ) → is_run_byte b ≡ true → (b == 38 || b == 13) ≡ false
unfolding is_run_byte
run_plain b h = grind (arith, nat_tests)

run_changes : (b : ℕ) → is_run_byte b ≡ false → (b == 38 || b == 13) ≡ true
unfolding is_run_byte
run_changes b h = grind (arith, nat_tests)

-- the same of a run
pub part_ends : (src : List ℕ) (i e : ℕ) → i ≤ e → e ≤ length src → AllPass is_run_byte src i e → (e < length src → is_run_byte (get_or src e 0) ≡ false) → byte_from (λ c. c == 38 || c == 13) src i ≡ e
part_ends src i e le within all stops = near_found is_run_byte (λ c. c == 38 || c == 13) src i e le within all run_plain (λ more. run_changes _ (stops more))

-- a value ends at the quote that stands behind its plain bytes
pub near_value : (src : List ℕ) (i e quote : ℕ) → (quote == 39 || quote == 34) ≡ true → i ≤ e → e < length src → get_or src e 0 ≡ quote → AllPass is_value_byte src i e → byte_from (λ c. c == quote || c == 60) src i ≡ e
near_value src i e quote q le within here all =
    near_found is_value_byte (λ c. c == quote || c == 60) src i e le (omega arith) all (λ b h. value_apart quote b q h) (λ more. rw here (either_first quote))

pub not_zero : (quote : ℕ) → (quote == 39 || quote == 34) ≡ true → 0 < quote
not_zero quote q = grind (arith, nat_tests)

-- a value of plain bytes has nothing to change
pub near_plain : (src : List ℕ) (i e : ℕ) → i ≤ e → e ≤ length src → AllPass is_value_byte src i e → is_verbatim_value (slice_range src i e) ≡ true
near_plain src i e le within all =
    ap not (none_among is_value_byte (λ b. b == 38 || (b == 9 || (b == 10 || b == 13))) src i e (e - i) (omega arith) within all value_plain)
