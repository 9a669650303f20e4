-- What longer looks tell of a text, step by step.
use Rattle.std.proofs.Common.{◌≡◌, ◌≢◌, ◌⊎◌, ◌++◌, append_assoc, ℕ, suc, ◌+◌, ◌-◌, ◌<◌, ◌≤◌, ◌==◌, ◌||◌, ◌&&◌, leb, Bool, true, false, not, List, ◌∷◌, Ok, length, length-drop, get_or-drop, get_or, drop, slice_range, refl, sym, ap, ◌∙◌, arith, inl, inr, IsUtf8, IsCharBoundary}
use Rattle.std.specs.List.{list_any, starts_with}
use Rattle.std.proofs.lemmas.Bool.{cases_eq, cases_lt, eqb-true, le-leb, leb-true, le-ltb, lt-leb, ne_eqb, eq-eqb, false≢true, not-true, or_parts}
use Rattle.std.proofs.lemmas.Bool.Decides.{nat_tests, Decides-eqb}
use Rattle.std.proofs.lemmas.Slice.Eq.{starts_is}
use Rattle.std.proofs.lemmas.List.{drop_more, get_or_past, get_or-take, drop-drop, take-append-drop, drop-append-le}
use Rattle.std.proofs.lemmas.List.Folds.{list_any-append}
use Rattle.rox_grammar.specs.Constructs.{AreChars}
use Rattle.rox_grammar.specs.FixedTexts.{double_dash, word_text}
use Rattle.rox_grammar.specs.Search.{byte_from, mark_from, stands, has_mark}
use Rattle.rox_grammar.specs.declared.fault.Word.TheVariants as word
use Rattle.rox_reading.specs.Lexical.{chars_up_to, text_to, string_at}
use Rattle.rox_reading.specs.Markup.{raw_value_at, comment_at}
use Rattle.rox_reading.specs.Values.{is_special}
use Rattle.rox_bytes.specs.ByteSets.{is_char_byte, AllPass, EndsEased, is_value_byte, is_any_value_byte, is_quoted_byte, is_text_byte, is_comment_byte, is_ascii_comment_byte}
use Rattle.rox_scan.specs.Lookahead.{IsLookahead, ends_value, ends_run, changes_run, is_changed_text_byte, is_changed_value_byte, ends_comment, none_changes}
use Rattle.rox_bytes.proofs.NearLemmas.{either_first, near_chars, near_found, none_among, not_zero, value_is_plain, value_cut, value_widens, any_value_is_plain, any_value_cut, quoted_is_plain, quoted_cut, text_is_plain, text_cut, comment_is_plain, comment_cut, ascii_comment_widens, ascii_comment_cut}
use Rattle.rox_bytes.proofs.EasedLemmas.{eased_byte, eased_chars}
use Rattle.rox_bytes.proofs.MarkLemmas.{before_mark_is, not_from_first, fails, stands_split, stands_from_split}
use Rattle.rox_scan.proofs.CharLemmas.{chars_joined}
use Rattle.rox_grammar.proofs.Stretches.{range_parts, range_length}

and_true : (b : Bool) → (b && true) ≡ b
and_true b = grind arith

-- a text that does not begin with the mark has no front that does
no_front : (mark front whole rest : List ℕ) → whole ≡ front ++ rest → starts_with ◌==◌ whole mark ≡ false → starts_with ◌==◌ front mark ≡ false
no_front mark front whole rest split none =
    fails (starts_with ◌==◌ front mark) (λ h.
    let longer = split ∙ ap (λ (l : List ℕ). l ++ rest) ((starts_is Decides-eqb front mark true (sym h)).0 refl) ∙ append_assoc mark (drop (length mark) front) rest in
    false≢true (sym none ∙ (starts_is Decides-eqb whole mark _ refl).1 _ longer))

-- what stands behind a place of a slice
behind : (src : List ℕ) (i e j : ℕ) → j ≤ length (slice_range src i e) → drop (i + j) src ≡ drop j (slice_range src i e) ++ drop (e - i) (drop i src)
behind src i e j le =
    sym (drop-drop j i src)
    ∙ ap (drop j) (sym (take-append-drop (e - i) (drop i src)))
    ∙ drop-append-le j (slice_range src i e) (drop (e - i) (drop i src)) le

-- the mark does not stand where its first byte does not
pub apart_from : (mark src : List ℕ) (k : ℕ) → 0 < length mark → get_or src k 0 ≢ get_or mark 0 0 → stands mark src k ≡ false
unfolding stands
apart_from mark src k some apart = not_from_first mark src k some apart

-- bytes that the first look passes
pub near_looked : (p changes ends : ℕ → Bool) (src : List ℕ) (i e : ℕ) → IsUtf8 src → IsCharBoundary src i → i ≤ e → IsCharBoundary src e → AllPass p src i e
    → ((b : ℕ) → p b ≡ true → is_char_byte b ≡ true) → ((b : ℕ) → p b ≡ true → changes b ≡ false) → ((k : ℕ) → p (get_or src k 0) ≡ true → ends k ≡ false)
    → IsLookahead ends changes src i e true
near_looked p changes ends src i e utf8 start le cut all plain same free = record {
  onward = le;
  cut = cut;
  chars = near_chars p src i e utf8 start le cut all plain;
  apart = λ k low high. free k (all k low high);
  verbatim_is = sym (ap not (none_among p changes src i e (e - i) (omega arith) cut.0 all same));
}

-- a character
pub char_looked : (changes ends : ℕ → Bool) (src : List ℕ) (i j : ℕ) → i < j → IsCharBoundary src j → AreChars src i j → ((k : ℕ) → i < k → k < j → 128 ≤ get_or src k 0)
    → ((b : ℕ) → 128 ≤ b → changes b ≡ false) → ((k : ℕ) → 128 ≤ get_or src k 0 → ends k ≡ false) → ends i ≡ false
    → IsLookahead ends changes src i j (not (changes (get_or src i 0)))
char_looked changes ends src i j some cut chars wide same free here =
    let none : list_any changes (slice_range src (i + 1) j) ≡ false =
    none_among (λ b. leb 128 b) changes src (i + 1) j (j - (i + 1)) (omega arith) cut.0 (λ k low high. le-leb 128 _ (wide k (omega arith) high)) (λ b h. same b (leb-true 128 b h)) in
    let first : j - i ≡ suc (j - (i + 1)) = omega arith in
    grind (arith, drop_more)

-- one stretch behind another
pub looked_on : (changes ends : ℕ → Bool) (src : List ℕ) (i j k : ℕ) (a b : Bool) → IsUtf8 src → IsCharBoundary src i → IsLookahead ends changes src i j a → IsLookahead ends changes src j k b
    → IsLookahead ends changes src i k (a && b)
looked_on changes ends src i j k a b utf8 start f g =
    let parts = range_parts src i j k f.onward g.onward g.cut.0 in
    grind (arith, chars_joined, list_any-append)

-- ---- values

value_same : (b : ℕ) → is_any_value_byte b ≡ true → is_special b ≡ false
unfolding is_any_value_byte is_value_byte
value_same b h = grind (arith, nat_tests)

value_open : (quote b : ℕ) → (quote == 39 || quote == 34) ≡ true → is_any_value_byte b ≡ true → (b == quote || b == 60) ≡ false
unfolding is_any_value_byte is_value_byte
value_open quote b q h = grind (arith, nat_tests)

wide_same : (b : ℕ) → 128 ≤ b → is_special b ≡ false
wide_same b wide = grind (arith, nat_tests)

pub wide_open : (quote b : ℕ) → (quote == 39 || quote == 34) ≡ true → 128 ≤ b → (b == quote || b == 60) ≡ false
wide_open quote b q wide = grind (arith, nat_tests)

-- the bytes of a value from i on that the first look passes
pub value_near : (src : List ℕ) (quote i e : ℕ) → IsUtf8 src → (quote == 39 || quote == 34) ≡ true → IsCharBoundary src i → i ≤ e → e ≤ length src → AllPass is_value_byte src i e
    → IsLookahead (ends_value quote src) is_special src i e true
value_near src quote i e utf8 q start le within all =
    near_looked is_value_byte is_special (ends_value quote src) src i e utf8 start le (value_cut src i e utf8 start le within all) all value_is_plain
    (λ b h. value_same b (value_widens b h)) (λ k h. value_open quote _ q (value_widens _ h))

-- the same of the wider set
pub any_value_near : (src : List ℕ) (quote i e : ℕ) → IsUtf8 src → (quote == 39 || quote == 34) ≡ true → IsCharBoundary src i → i ≤ e → e ≤ length src → AllPass is_any_value_byte src i e → (e < length src → is_any_value_byte (get_or src e 0) ≡ false)
    → IsLookahead (ends_value quote src) is_special src i e true
any_value_near src quote i e utf8 q start le within all stops =
    near_looked is_any_value_byte is_special (ends_value quote src) src i e utf8 start le (any_value_cut src e within stops) all any_value_is_plain value_same (λ k h. value_open quote _ q h)

-- the same of a value in double quotes
quoted_same : (b : ℕ) → is_quoted_byte b ≡ true → is_special b ≡ false
unfolding is_quoted_byte is_any_value_byte is_value_byte
quoted_same b h = grind (arith, nat_tests)

quoted_open : (b : ℕ) → is_quoted_byte b ≡ true → (b == 34 || b == 60) ≡ false
unfolding is_quoted_byte is_any_value_byte is_value_byte
quoted_open b h = grind (arith, nat_tests)

pub quoted_near : (src : List ℕ) (i e : ℕ) → IsUtf8 src → IsCharBoundary src i → i ≤ e → e ≤ length src → AllPass is_quoted_byte src i e → (e < length src → is_quoted_byte (get_or src e 0) ≡ false)
    → IsLookahead (ends_value 34 src) is_special src i e true
quoted_near src i e utf8 start le within all stops =
    near_looked is_quoted_byte is_special (ends_value 34 src) src i e utf8 start le (quoted_cut src e within stops) all quoted_is_plain quoted_same (λ k h. quoted_open _ h)

-- the same where something changes the value already
pub changed_value_is_plain : (b : ℕ) → is_changed_value_byte b ≡ true → is_char_byte b ≡ true
unfolding is_changed_value_byte is_any_value_byte is_value_byte
changed_value_is_plain b h = grind (arith, nat_tests)

pub changed_value_open : (quote b : ℕ) → (quote == 39 || quote == 34) ≡ true → is_changed_value_byte b ≡ true → (b == quote || b == 60) ≡ false
unfolding is_changed_value_byte is_any_value_byte is_value_byte
changed_value_open quote b q h = grind (arith, nat_tests)

pub changed_value_leads : (b : ℕ) → is_changed_value_byte b ≡ false → 128 ≤ b → 192 ≤ b
unfolding is_changed_value_byte is_any_value_byte is_value_byte
changed_value_leads b h wide = grind (arith, nat_tests)

pub changed_value_near : (src : List ℕ) (quote i e : ℕ) → IsUtf8 src → (quote == 39 || quote == 34) ≡ true → IsCharBoundary src i → i ≤ e → e ≤ length src → AllPass is_changed_value_byte src i e → (e < length src → is_changed_value_byte (get_or src e 0) ≡ false)
    → IsLookahead (ends_value quote src) is_special src i e (not (list_any is_special (slice_range src i e)))
changed_value_near src quote i e utf8 q start le within all stops =
    let cut : IsCharBoundary src e = (within, λ more wide. changed_value_leads _ (stops more) wide) in
    record {
      onward = le;
      cut = cut;
      chars = near_chars is_changed_value_byte src i e utf8 start le cut all changed_value_is_plain;
      apart = λ k low high. changed_value_open quote _ q (all k low high);
      verbatim_is = refl;
    }

-- a value that was looked at, and the bytes behind it
pub value_more : (src : List ℕ) (quote i j k : ℕ) → IsUtf8 src → IsCharBoundary src i → IsLookahead (ends_value quote src) is_special src i j true → IsLookahead (ends_value quote src) is_special src j k true → IsLookahead (ends_value quote src) is_special src i k true
value_more src quote i j k utf8 start f g = looked_on is_special (ends_value quote src) src i j k true true utf8 start f g

pub changed_value_more : (src : List ℕ) (quote i j k : ℕ) (b : Bool) → IsUtf8 src → IsCharBoundary src i → IsLookahead (ends_value quote src) is_special src i j false → IsLookahead (ends_value quote src) is_special src j k b → IsLookahead (ends_value quote src) is_special src i k false
changed_value_more src quote i j k b utf8 start f g = looked_on is_special (ends_value quote src) src i j k false b utf8 start f g

-- and a character behind them
pub value_char : (src : List ℕ) (quote i j n : ℕ) (verbatim : Bool) → IsUtf8 src → (quote == 39 || quote == 34) ≡ true → IsCharBoundary src i → IsLookahead (ends_value quote src) is_special src i j verbatim
    → j < n → IsCharBoundary src n → AreChars src j n → ((k : ℕ) → j < k → k < n → 128 ≤ get_or src k 0) → ends_value quote src j ≡ false
    → IsLookahead (ends_value quote src) is_special src i n (verbatim && not (is_special (get_or src j 0)))
value_char src quote i j n verbatim utf8 q start f some cut chars wide here =
    looked_on is_special (ends_value quote src) src i j n verbatim _ utf8 start f (char_looked is_special (ends_value quote src) src j n some cut chars wide wide_same (λ k h. wide_open quote _ q h) here)

-- what a value is read as whose quote stands behind it
pub looked_value : (src : List ℕ) (quote i e : ℕ) (verbatim : Bool) → (quote == 39 || quote == 34) ≡ true → IsLookahead (ends_value quote src) is_special src i e verbatim → (get_or src e 0 == quote) ≡ true
    → raw_value_at quote src i ≡ Ok (slice_range src i e, e)
unfolding raw_value_at chars_up_to
looked_value src quote i e verbatim q f here =
    let at : get_or src e 0 ≡ quote = eqb-true _ _ here in
    let within : e < length src = elim (cases_lt e (length src)) [ inl more ↦ more | inr past ↦ absurd (omega (arith, at, get_or_past src e 0 past, not_zero quote q)) ] in
    let found = near_found (λ b. not (b == quote || b == 60)) (λ c. c == quote || c == 60) src i e f.onward f.cut.0 (λ k low high. ap not (f.apart k low high)) (λ b h. not-true (b == quote || b == 60) h) (λ more. rw at (either_first quote)) in
    rw (found, lt-leb (length src) e within, f.chars, le-ltb e e (omega arith)) refl

-- ---- runs

pub run_same : (b : ℕ) → is_text_byte b ≡ true → changes_run b ≡ false
unfolding is_text_byte
run_same b h = grind (arith, nat_tests)

text_no_tag : (b : ℕ) → is_text_byte b ≡ true → (b == 60) ≡ false
unfolding is_text_byte
text_no_tag b h = grind (arith, nat_tests)

text_no_bracket : (b : ℕ) → is_text_byte b ≡ true → b ≢ 93
unfolding is_text_byte
text_no_bracket b h = grind (arith, nat_tests)

wide_run : (b : ℕ) → 128 ≤ b → changes_run b ≡ false
wide_run b wide = grind (arith, nat_tests)

-- neither stands where its first byte does not
pub no_run_end : (src : List ℕ) (k : ℕ) → (get_or src k 0 == 60) ≡ false → get_or src k 0 ≢ 93 → ends_run src k ≡ false
no_run_end src k other apart = rw (other, apart_from (word_text word.CDataEnd) src k (omega arith) apart) refl

pub run_near : (src : List ℕ) (i e : ℕ) → IsUtf8 src → IsCharBoundary src i → i ≤ e → e ≤ length src → AllPass is_text_byte src i e → (e < length src → is_text_byte (get_or src e 0) ≡ false)
    → IsLookahead (ends_run src) changes_run src i e true
run_near src i e utf8 start le within all stops =
    near_looked is_text_byte changes_run (ends_run src) src i e utf8 start le (text_cut src e within stops) all text_is_plain run_same (λ k h. no_run_end src k (text_no_tag _ h) (text_no_bracket _ h))

-- the same where something changes the data already
changed_is_plain : (b : ℕ) → is_changed_text_byte b ≡ true → is_char_byte b ≡ true
unfolding is_changed_text_byte is_text_byte
changed_is_plain b h = grind (arith, nat_tests)

changed_no_tag : (b : ℕ) → is_changed_text_byte b ≡ true → (b == 60) ≡ false
unfolding is_changed_text_byte is_text_byte
changed_no_tag b h = grind (arith, nat_tests)

changed_no_bracket : (b : ℕ) → is_changed_text_byte b ≡ true → b ≢ 93
unfolding is_changed_text_byte is_text_byte
changed_no_bracket b h = grind (arith, nat_tests)

changed_leads : (b : ℕ) → is_changed_text_byte b ≡ false → 128 ≤ b → 192 ≤ b
unfolding is_changed_text_byte is_text_byte
changed_leads b h wide = grind (arith, nat_tests)

pub changed_run_near : (src : List ℕ) (i e : ℕ) → IsUtf8 src → IsCharBoundary src i → i ≤ e → e ≤ length src → AllPass is_changed_text_byte src i e → (e < length src → is_changed_text_byte (get_or src e 0) ≡ false)
    → IsLookahead (ends_run src) changes_run src i e (not (list_any changes_run (slice_range src i e)))
changed_run_near src i e utf8 start le within all stops =
    let cut : IsCharBoundary src e = (within, λ more wide. changed_leads _ (stops more) wide) in
    record {
      onward = le;
      cut = cut;
      chars = near_chars is_changed_text_byte src i e utf8 start le cut all changed_is_plain;
      apart = λ k low high. no_run_end src k (changed_no_tag _ (all k low high)) (changed_no_bracket _ (all k low high));
      verbatim_is = refl;
    }

-- nothing is looked at
pub run_none : (src : List ℕ) (i : ℕ) → IsUtf8 src → IsCharBoundary src i → IsLookahead (ends_run src) changes_run src i i true
run_none src i utf8 start =
    near_looked is_text_byte changes_run (ends_run src) src i i utf8 start (omega arith) start (λ k low high. absurd (omega arith)) text_is_plain run_same (λ k h. no_run_end src k (text_no_tag _ h) (text_no_bracket _ h))

pub wide_no_run_end : (src : List ℕ) (k : ℕ) → 128 ≤ get_or src k 0 → ends_run src k ≡ false
wide_no_run_end src k wide = no_run_end src k (ne_eqb (get_or src k 0) 60 (λ h. absurd (omega arith))) (λ h. absurd (omega arith))

-- a character behind what was looked at
pub run_char : (src : List ℕ) (i j n : ℕ) (verbatim : Bool) → IsUtf8 src → IsCharBoundary src i → IsLookahead (ends_run src) changes_run src i j verbatim
    → j < n → IsCharBoundary src n → AreChars src j n → ((k : ℕ) → j < k → k < n → 128 ≤ get_or src k 0) → ends_run src j ≡ false
    → IsLookahead (ends_run src) changes_run src i n (verbatim && not (changes_run (get_or src j 0)))
run_char src i j n verbatim utf8 start f some cut chars wide here =
    looked_on changes_run (ends_run src) src i j n verbatim _ utf8 start f (char_looked changes_run (ends_run src) src j n some cut chars wide wide_run (wide_no_run_end src) here)

pub run_on : (src : List ℕ) (i j n e : ℕ) (verbatim : Bool) → IsUtf8 src → IsCharBoundary src i → IsLookahead (ends_run src) changes_run src i j verbatim
    → j < n → IsCharBoundary src n → AreChars src j n → ((k : ℕ) → j < k → k < n → 128 ≤ get_or src k 0) → ends_run src j ≡ false
    → n ≤ e → e ≤ length src → AllPass is_text_byte src n e → (e < length src → is_text_byte (get_or src e 0) ≡ false)
    → IsLookahead (ends_run src) changes_run src i e (verbatim && not (changes_run (get_or src j 0)))
run_on src i j n e verbatim utf8 start f some cut chars wide here le within all stops =
    let two = run_char src i j n verbatim utf8 start f some cut chars wide here in
    let three = looked_on changes_run (ends_run src) src i n e _ true utf8 start two (run_near src n e utf8 cut le within all stops) in
    rw (and_true (verbatim && not (changes_run (get_or src j 0)))) at three

-- what was looked at and the bytes behind it
pub looked_more : (src : List ℕ) (i j k : ℕ) → IsUtf8 src → IsCharBoundary src i → IsLookahead (ends_run src) changes_run src i j true → IsLookahead (ends_run src) changes_run src j k true → IsLookahead (ends_run src) changes_run src i k true
looked_more src i j k utf8 start f g = looked_on changes_run (ends_run src) src i j k true true utf8 start f g

pub changed_more : (src : List ℕ) (i j k : ℕ) (b : Bool) → IsUtf8 src → IsCharBoundary src i → IsLookahead (ends_run src) changes_run src i j false → IsLookahead (ends_run src) changes_run src j k b → IsLookahead (ends_run src) changes_run src i k false
changed_more src i j k b utf8 start f g = looked_on changes_run (ends_run src) src i j k false b utf8 start f g

-- the same of a longer stretch, where characters that begin with 239 may stand
eased_run_byte : (b : ℕ) → (is_text_byte b ≡ true) ⊎ (b ≡ 239) → changes_run b ≡ false
eased_run_byte b h = elim h [ inl passes ↦ run_same b passes | inr wide ↦ rw wide refl ]

eased_run_end : (src : List ℕ) (k : ℕ) → (is_text_byte (get_or src k 0) ≡ true) ⊎ (get_or src k 0 ≡ 239) → ends_run src k ≡ false
eased_run_end src k h = elim h [ inl passes ↦ no_run_end src k (text_no_tag _ passes) (text_no_bracket _ passes) | inr wide ↦ wide_no_run_end src k (omega (arith, wide)) ]

eased_leads : (b : ℕ) → (is_text_byte b && not (b == 239)) ≡ false → 128 ≤ b → 192 ≤ b
unfolding is_text_byte
eased_leads b h wide = grind (arith, nat_tests)

pub run_eased : (src : List ℕ) (i e : ℕ) → IsUtf8 src → IsCharBoundary src i → EndsEased is_text_byte src i e → IsLookahead (ends_run src) changes_run src i e true
run_eased src i e utf8 start f =
    let cut : IsCharBoundary src e = (f.within, λ more wide. eased_leads _ (f.stops more) wide) in
    let each = λ (k : ℕ) (low : i ≤ k) (high : k < e). eased_byte is_text_byte src k (f.passes k low high) in
    record {
      onward = f.onward;
      cut = cut;
      chars = eased_chars is_text_byte src i e utf8 start f.onward cut f.passes text_is_plain;
      apart = λ k low high. eased_run_end src k (each k low high);
      verbatim_is = sym (ap not (none_among (λ b. not (changes_run b)) changes_run src i e (e - i) (omega (arith, f.onward)) f.within (λ k low high. ap not (eased_run_byte _ (each k low high))) (λ b h. not-true (changes_run b) h)));
    }

-- and of one character
pub run_step : (src : List ℕ) (i j : ℕ) → IsUtf8 src → IsCharBoundary src i → i ≤ j → IsCharBoundary src j → AreChars src i j → ((k : ℕ) → i < k → k < j → 128 ≤ get_or src k 0) → ends_run src i ≡ false → changes_run (get_or src i 0) ≡ false
    → IsLookahead (ends_run src) changes_run src i j true
run_step src i j utf8 start le cut chars wide here same =
    elim (cases_eq j i) [
      | inl none ↦ rw none (run_none src i utf8 start)
      | inr other ↦ let one = char_looked changes_run (ends_run src) src i j (omega (arith, le, other)) cut chars wide wide_run (wide_no_run_end src) here in rw same at one
    ]

-- a mark stands in a slice only where it stands in the text
mark_within : (mark src : List ℕ) (i e : ℕ) → 0 < length mark → e ≤ length src → i ≤ e → ((k : ℕ) → i ≤ k → k < e → stands mark src k ≡ false) → has_mark mark (slice_range src i e) ≡ false
unfolding stands
mark_within mark src i e some within le none =
    let long = range_length src i e le within in
    let all = before_mark_is mark (slice_range src i e) (length (slice_range src i e)) (omega arith)
    (λ j below. no_front mark (drop j (slice_range src i e)) (drop (i + j) src) (drop (e - i) (drop i src)) (behind src i e j (omega (arith, long))) (none (i + j) (omega arith) (omega (arith, long))))
    (λ more. absurd (omega arith)) in
    rw all (le-ltb (length (slice_range src i e)) (length (slice_range src i e)) (omega arith))

-- what a run is read as whose end stands there
pub looked_run : (src : List ℕ) (i e : ℕ) (verbatim : Bool) → IsLookahead (ends_run src) changes_run src i e verbatim → (e < length src → get_or src e 0 ≡ 60)
    → (byte_from (λ c. c == 60) src i ≡ e) × (chars_up_to e src i ≡ Ok (slice_range src i e, e)) × (has_mark (word_text word.CDataEnd) (slice_range src i e) ≡ false)
unfolding chars_up_to
looked_run src i e verbatim f here =
    let found = near_found (λ b. not (b == 60)) (λ c. c == 60) src i e f.onward f.cut.0 (λ k low high. ap not (or_parts _ _ (f.apart k low high)).0) (λ b h. not-true (b == 60) h) (λ more. eq-eqb _ _ (here more)) in
    let clear : has_mark (word_text word.CDataEnd) (slice_range src i e) ≡ false = mark_within (word_text word.CDataEnd) src i e (omega arith) f.cut.0 f.onward (λ k low high. (or_parts _ _ (f.apart k low high)).1) in
    (found, rw (f.chars, le-ltb e e (omega arith)) refl, clear)

-- ---- comments

comment_no_dash : (b : ℕ) → is_comment_byte b ≡ true → b ≢ 45
unfolding is_comment_byte
comment_no_dash b h is = grind (arith, nat_tests)

pub comment_near : (src : List ℕ) (i e : ℕ) → IsUtf8 src → IsCharBoundary src i → i ≤ e → e ≤ length src → AllPass is_comment_byte src i e → (e < length src → is_comment_byte (get_or src e 0) ≡ false)
    → IsLookahead (ends_comment src) none_changes src i e true
comment_near src i e utf8 start le within all stops =
    near_looked is_comment_byte none_changes (ends_comment src) src i e utf8 start le (comment_cut src e within stops) all comment_is_plain (λ b h. refl) (λ k h. apart_from double_dash src k (omega arith) (comment_no_dash _ h))

-- the same of ASCII bytes
pub ascii_comment_near : (src : List ℕ) (i e : ℕ) → IsUtf8 src → IsCharBoundary src i → i ≤ e → e ≤ length src → AllPass is_ascii_comment_byte src i e
    → IsLookahead (ends_comment src) none_changes src i e true
ascii_comment_near src i e utf8 start le within all =
    near_looked is_ascii_comment_byte none_changes (ends_comment src) src i e utf8 start le (ascii_comment_cut src i e utf8 start le within all) all (λ b h. comment_is_plain b (ascii_comment_widens b h)) (λ b h. refl)
    (λ k h. apart_from double_dash src k (omega arith) (comment_no_dash _ (ascii_comment_widens _ h)))

pub comment_on : (src : List ℕ) (i j n e : ℕ) → IsUtf8 src → IsCharBoundary src i → IsLookahead (ends_comment src) none_changes src i j true
    → j < n → IsCharBoundary src n → AreChars src j n → ((k : ℕ) → j < k → k < n → 128 ≤ get_or src k 0) → ends_comment src j ≡ false
    → n ≤ e → e ≤ length src → AllPass is_comment_byte src n e → (e < length src → is_comment_byte (get_or src e 0) ≡ false)
    → IsLookahead (ends_comment src) none_changes src i e true
comment_on src i j n e utf8 start f some cut chars wide here le within all stops =
    let ends = ends_comment src in
    let one = char_looked none_changes ends src j n some cut chars wide (λ b h. refl) (λ k h. apart_from double_dash src k (omega arith) (λ is. absurd (omega arith))) here in
    let two = looked_on none_changes ends src i j n true true utf8 start f one in
    looked_on none_changes ends src i n e true true utf8 start two (comment_near src n e utf8 cut le within all stops)

-- two dashes begin where `-->` does
front_dashes : (src : List ℕ) (k : ℕ) → stands (word_text word.CommentEnd) src k ≡ true → stands double_dash src k ≡ true
front_dashes src k h = stands_from_split double_dash src _ k (stands_split (word_text word.CommentEnd) src k h)

-- the first `-->`
first_mark : (src : List ℕ) (s e : ℕ) → IsLookahead (ends_comment src) none_changes src s e true → stands (word_text word.CommentEnd) src e ≡ true → mark_from (word_text word.CommentEnd) src s ≡ e
unfolding mark_from stands
first_mark src s e f here =
    let at : s + (e - s) ≡ e = omega (arith, f.onward) in
    let found = before_mark_is (word_text word.CommentEnd) (drop s src) (e - s) (omega (arith, (length-drop s src), f.cut.0))
    (λ j below. rw (drop-drop j s src) (fails _ (λ h. false≢true (sym (f.apart (s + j) (omega arith) (omega (arith, f.onward))) ∙ front_dashes src (s + j) h))))
    (λ more. rw (drop-drop (e - s) s src, at) here) in
    omega (arith, found, f.onward)

read_last : (src : List ℕ) (i e : ℕ) → i ≤ e → e ≤ length src → i < e → get_or (slice_range src i e) (length (slice_range src i e) - 1) 0 ≡ get_or src (e - 1) 0
read_last src i e le within some = grind (arith, range_length, get_or-take, get_or-drop)

-- a dash and `-->` begin with two dashes
two_dashes : (src : List ℕ) (k e : ℕ) → e ≡ k + 1 → get_or src k 0 ≡ 45 → stands (word_text word.CommentEnd) src e ≡ true → stands double_dash src k ≡ true
two_dashes src k e next first closes =
    let within : k < length src = elim (cases_lt k (length src)) [ inl more ↦ more | inr past ↦ absurd (omega (arith, first, get_or_past src k 0 past)) ] in
    let rest : drop (k + 1) src ≡ word_text word.CommentEnd ++ drop 3 (drop (k + 1) src) = rw next at (stands_split (word_text word.CommentEnd) src e closes) in
    stands_from_split double_dash src (45 ∷ 62 ∷ drop 3 (drop (k + 1) src)) k (drop_more src k 0 within ∙ ap (λ (b : ℕ). b ∷ drop (k + 1) src) first ∙ ap (λ (l : List ℕ). 45 ∷ l) rest)

-- no dash is the last of a text that two dashes stand behind, none of which begin in it
no_last : (src : List ℕ) (i e : ℕ) → IsLookahead (ends_comment src) none_changes src i e true → stands (word_text word.CommentEnd) src e ≡ true → (get_or (slice_range src i e) (length (slice_range src i e) - 1) 0 == 45) ≡ false
no_last src i e f closes = grind (arith, two_dashes, read_last)

-- what a comment is read as whose end stands behind it
pub looked_comment : (src : List ℕ) (i s e : ℕ) → s ≡ i + 4 → IsLookahead (ends_comment src) none_changes src s e true → stands (word_text word.CommentEnd) src e ≡ true → comment_at src i ≡ Ok (slice_range src s e, e + 3)
unfolding comment_at text_to chars_up_to string_at
looked_comment src i s e start f here = grind (arith, first_mark, mark_within, no_last)
