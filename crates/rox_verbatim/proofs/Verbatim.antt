-- Names, white space and values of attributes that are read at one look.
use Rattle.std.proofs.Common.{◌≡◌, ◌≢◌, inl, inr, ℕ, ◌+◌, ◌-◌, ◌<◌, ◌≤◌, ◌||◌, ◌==◌, Bool, true, false, List, [], length, slice_index, slice_range, refl, sym, ap, subst, ◌∙◌, arith, Ok, not, ◌&&◌, nat_lt, IsUtf8, IsCharBoundary}
use Rattle.std.proofs.lemmas.Bool.{lt-leb, eqb-true, ne_eqb, cases_lt, cases_eq}
use Rattle.rox_grammar.specs.Content.{is_verbatim_value}
use Rattle.rox_grammar.specs.Entities.{Entity}
use Rattle.rox_grammar.specs.Names.{spaces_end}
use Rattle.rox_grammar.specs.Written.{Name}
use Rattle.rox_reading.specs.Lexical.{qname_at, quote_at}
use Rattle.rox_reading.specs.Markup.{RawAttribute, more, attribute_at, raw_value_at, tag_item_at}
use Rattle.rox_reading.specs.Values.{ValueInclusion, is_special, value_at}
use Rattle.rox_verbatim.specs.PlainNames.{EndsFirstPart, EndsNear, EndsPrefix, IsLocalPart}
use Rattle.rox_bytes.specs.declared.byte_set.RunEnd.{RunEnd}
use Rattle.rox_verbatim.specs.PlainValues.{EndsVerbatim, HasPlainValue, IsQuoteBehindEquals, IsValueStart}
use Rattle.std.proofs.lemmas.Bool.Decides.{nat_tests}
use Rattle.std.proofs.lemmas.Str.{IsCharBoundary-after_ascii}
use Rattle.rox_grammar.specs.Chars.{is_space, is_name_start, is_name_char, is_part_char}
use Rattle.rox_bytes.specs.ByteSets.{AllPass, EndsSet, is_part_byte, is_value_byte}
use Rattle.rox_scan.specs.Lookahead.{ends_value}
use Rattle.rox_scan.proofs.LongerLemmas.{looked_on, looked_value, value_near}
use Rattle.rox_reading.proofs.ByteReads.{byte_is}
use Rattle.rox_scan.proofs.NearReads.{short_value}
use Rattle.rox_bytes.proofs.NearLemmas.{near_plain, value_cut, part_cut, part_stops, part_ascii, part_begins as letter_begins}
use Rattle.rox_bytes.proofs.TableLemmas.{agree_below, agree_at}
use Rattle.rox_grammar.specs.Runs.{begins, run_end}
use Rattle.rox_bytes.proofs.RunLemmas.{begins_ascii, run_stops_ascii, space_on, space_stops, space_cut, stands_within}

quote_is : (src : List ℕ) (i q : ℕ) → slice_index src i ≡ q → i < length src → (q == 39 || q == 34) ≡ true → quote_at src i ≡ Ok (q, i + 1)
unfolding quote_at
quote_is src i q is within quote =
    rw ((lt-leb (length src) i within), (ap (λ (n : ℕ). n == 39 || n == 34) is ∙ quote)) (ap (λ (n : ℕ). Ok (n, i + 1)) is)

-- an attribute, piece by piece
pub attribute_is : (src : List ℕ) (i : ℕ) (name : Name) (n e b q j : ℕ) → qname_at src i ≡ Ok (name, n) → e ≡ spaces_end src n → slice_index src e ≡ 61 → b ≡ spaces_end src (e + 1)
    → slice_index src b ≡ q → b < length src → (q == 39 || q == 34) ≡ true → 0 < q → raw_value_at q src (b + 1) ≡ Ok (slice_range src (b + 1) j, j) → slice_index src j ≡ q
    → attribute_at src i ≡ Ok (record { start = i; name = name; name_end = n; value_start = b + 1; value_end = j }, j + 1)
unfolding attribute_at
attribute_is src i name n e b q j named equals is before here within quote some value behind =
    rw (named, ← equals, byte_is src e 61 is (omega arith), ← before, quote_is src b q here within quote, value, byte_is src j q behind some) refl

-- ---- where a value begins

pub quote_ascii : (b : ℕ) → (b == 39 || b == 34) ≡ true → b < 128
quote_ascii b h = grind (arith, nat_tests)

past_space : (b : ℕ) → 32 < b → is_space b ≡ false
past_space b h = grind (arith, nat_tests)

-- no white space
pub no_space : (src : List ℕ) (i : ℕ) → IsUtf8 src → IsCharBoundary src i → i < length src → 32 < slice_index src i → i ≡ spaces_end src i
no_space src i utf8 cut within here = sym (space_stops src i utf8 cut within (past_space (slice_index src i) here))

-- white space that is one space
pub one_space : (src : List ℕ) (i : ℕ) → IsUtf8 src → i + 1 < length src → slice_index src i ≡ 32 → 32 < slice_index src (i + 1) → i + 1 ≡ spaces_end src i
one_space src i utf8 within here behind =
    let cut = space_cut src i utf8 (omega arith) (ap is_space here) in
    sym (space_stops src (i + 1) utf8 cut within (past_space (slice_index src (i + 1)) behind)) ∙ (space_on src i utf8 (omega arith) (ap is_space here))

quote_is_no_space : (b : ℕ) → (b == 39 || b == 34) ≡ true → is_space b ≡ false
quote_is_no_space b h = grind (arith, nat_tests)

-- behind a quote
pub behind_quote : (src : List ℕ) (n q : ℕ) → IsUtf8 src → n + 1 < length src → slice_index src (n + 1) ≡ q → (q == 39 || q == 34) ≡ true → IsCharBoundary src (n + 2)
behind_quote src n q utf8 within here quote =
    subst (IsCharBoundary src) (omega arith) (IsCharBoundary-after_ascii src (n + 1) utf8 within (omega (arith, here, (quote_ascii q quote))))

-- a value up to a quote each byte of which stands for itself
pub value_closed : (src : List ℕ) (i e q : ℕ) → IsUtf8 src → IsCharBoundary src i → (q == 39 || q == 34) ≡ true → i ≤ e → e ≤ length src → AllPass is_value_byte src i e
    → (slice_index src e == q) ≡ true → HasPlainValue src i q e (slice_range src i e)
value_closed src i e q utf8 cut quote onward within passes here =
    let end = value_cut src i e utf8 cut onward within passes in
    record {
      read = short_value src i e q utf8 cut quote onward end passes here;
      verbatim = near_plain src i e onward within passes;
      here = eqb-true _ _ here;
      onward = onward;
      cut = end;
      is = refl;
    }

-- the same of one that goes on behind them
pub value_went_on : (src : List ℕ) (i n j q : ℕ) → IsUtf8 src → IsCharBoundary src i → (q == 39 || q == 34) ≡ true → i ≤ n → n ≤ length src → AllPass is_value_byte src i n
    → EndsVerbatim src n q j → HasPlainValue src i q j (slice_range src i j)
value_went_on src i n j q utf8 cut quote onward within passes ends =
    let look = looked_on is_special (ends_value q src) src i n j true true utf8 cut (value_near src q i n utf8 quote cut onward within passes) ends.looked in
    record {
      read = looked_value src q i j true quote look ends.here;
      verbatim = sym look.verbatim_is;
      here = eqb-true _ _ ends.here;
      onward = look.onward;
      cut = look.cut;
      is = refl;
    }

-- right behind the name
pub value_starts : (src : List ℕ) (i : ℕ) → IsUtf8 src → i + 1 < length src → slice_index src i ≡ 61 → (slice_index src (i + 1) == 39 || slice_index src (i + 1) == 34) ≡ true
    → IsValueStart src i (i + 2)
value_starts src i utf8 within is quote =
    let ascii = quote_ascii (slice_index src (i + 1)) quote in
    record {
      equals = i;
      before = i + 1;
      spaces = sym (run_stops_ascii is_space src i utf8 (omega arith) (omega (arith, is)) (ap is_space is));
      is = is;
      spaces_behind = sym (run_stops_ascii is_space src (i + 1) utf8 within ascii (quote_is_no_space (slice_index src (i + 1)) quote));
      quote = quote;
      start = omega arith;
      within = within;
      onward = omega arith;
      cut = subst (IsCharBoundary src) (omega arith) (IsCharBoundary-after_ascii src (i + 1) utf8 within ascii);
    }

-- an attribute whose value begins so
pub attribute_reads : (src : List ℕ) (i : ℕ) (name : Name) (n s q j e : ℕ) → qname_at src i ≡ Ok (name, n) → (v : IsValueStart src n s) → slice_index src (s - 1) ≡ q → (q == 39 || q == 34) ≡ true → 0 < q
    → raw_value_at q src s ≡ Ok (slice_range src s j, j) → slice_index src j ≡ q → e ≡ j + 1
    → attribute_at src i ≡ Ok (record { start = i; name = name; name_end = n; value_start = s; value_end = j }, e)
attribute_reads src i name n s q j e named v here quote some value behind done =
    let quoted = subst (λ (k : ℕ). slice_index src k ≡ q) (omega (arith, v.start)) here in
    let read = subst (λ (k : ℕ). raw_value_at q src k ≡ Ok (slice_range src k j, j)) v.start value in
    rw (v.start, done) (attribute_is src i name n v.equals v.before q j named v.spaces v.is v.spaces_behind quoted v.within quote some read behind)

-- ---- what a tag holds next

pub item_more : (src : List ℕ) (i j e : ℕ) (raw : RawAttribute) → j ≡ spaces_end src i → (j ≡ i → ⊥) → (slice_index src j == 47) ≡ false → (slice_index src j == 62) ≡ false → j < length src
    → attribute_at src j ≡ Ok (raw, e) → tag_item_at src i ≡ Ok (more raw, e)
unfolding tag_item_at
item_more src i j e raw spaces some slash close within is =
    rw (← spaces, (lt-leb (length src) j within), slash, close, (ne_eqb j i some), is) refl

-- a value is read as it stands
pub value_is : (main : Bool) (es : List Entity) (opener : ValueInclusion) (src : List ℕ) (i j openings_left : ℕ) → is_verbatim_value (slice_range src i j) ≡ true
    → value_at main es opener src i j openings_left ≡ Ok (record { value = slice_range src i j; borrowed = true }, openings_left)
unfolding value_at
value_is main es opener src i j openings_left plain = rw plain refl

-- a name begins with no other byte
begins_apart : (src : List ℕ) (j b : ℕ) → IsUtf8 src → begins is_name_start src j ≡ true → 0 < b → b < 128 → is_name_start b ≡ false → (slice_index src j == b) ≡ false
begins_apart src j b utf8 begins some ascii other =
    ne_eqb (slice_index src j) b (λ is.
    let here = begins_ascii is_name_start src j utf8 (stands_within src j b is some) (omega (arith, is)) in
    cc (here, begins, is, other))

-- so there the tag does not end
pub begins_no_end : (src : List ℕ) (j : ℕ) → IsUtf8 src → begins is_name_start src j ≡ true → ((slice_index src j == 47) ≡ false) × ((slice_index src j == 62) ≡ false)
unfolding is_name_start
begins_no_end src j utf8 begins = (begins_apart src j 47 utf8 begins (omega arith) (omega arith) refl, begins_apart src j 62 utf8 begins (omega arith) (omega arith) refl)

-- a name begins with each byte of a part above `>`, which is held against the definitions by computing
part_starts : (b : ℕ) → b < 128 → (not (is_part_byte b && nat_lt 62 b) || is_name_start b) ≡ true
unfolding agree_below is_part_byte is_part_char is_name_char is_name_start
part_starts b lt = agree_at (λ b. not (is_part_byte b && nat_lt 62 b) || is_name_start b) (λ b. true) 128 refl b lt

starts_by : (b : ℕ) → (not (is_part_byte b && nat_lt 62 b) || is_name_start b) ≡ true → is_part_byte b ≡ true → 62 < b → is_name_start b ≡ true
starts_by b agreed h above = grind (arith, nat_tests)

pub part_begins : (src : List ℕ) (i : ℕ) → IsUtf8 src → i < length src → is_part_byte (slice_index src i) ≡ true → 62 < slice_index src i → begins is_name_start src i ≡ true
part_begins src i utf8 within part above =
    let b = slice_index src i in
    let ascii = part_ascii b part in
    begins_ascii is_name_start src i utf8 within ascii ∙ starts_by b (part_starts b ascii) part above

-- a part of a name that ends at another byte, up to `>`
pub ascii_begins : (src : List ℕ) (i e : ℕ) → IsUtf8 src → EndsSet is_part_byte src i e → 62 < slice_index src i → slice_index src e ≤ 62 → begins is_name_start src i ≡ true
ascii_begins src i e utf8 near above end = elim (cases_eq e i) [
  | inl none ↦ let at = ap (slice_index src) none in absurd (omega (arith, at, above, end))
  | inr some ↦ part_begins src i utf8 (omega (arith, near.onward, near.within, some)) (near.passes i (omega arith) (omega (arith, near.onward, some))) above
]

-- each byte of a part of a name stands for itself in a value, which is held against the definitions by computing
part_is_plain : (b : ℕ) → b < 128 → (not (is_part_byte b) || is_value_byte b) ≡ true
unfolding agree_below is_part_byte is_part_char is_name_char is_name_start is_value_byte
part_is_plain b lt = agree_at (λ b. not (is_part_byte b) || is_value_byte b) (λ b. true) 128 refl b lt

plain_by : (b : ℕ) → (not (is_part_byte b) || is_value_byte b) ≡ true → is_part_byte b ≡ true → is_value_byte b ≡ true
plain_by b agreed h = grind (arith, nat_tests)

no_quote_is_plain : (q : ℕ) → (q == 39 || q == 34) ≡ true → is_value_byte q ≡ false
unfolding is_value_byte
no_quote_is_plain q h = grind (arith, nat_tests)

equals_is_plain : is_value_byte 61 ≡ true
unfolding is_value_byte
equals_is_plain = refl

-- so the first that does not is the quote behind the name and its `=`
pub quote_first : (src : List ℕ) (i j q : ℕ) → EndsSet is_part_byte src i j → IsQuoteBehindEquals src j q → EndsSet is_value_byte src i (j + 1)
quote_first src i j q name behind =
    let onward = name.onward in
    record {
      onward = omega (arith, onward);
      within = omega (arith, behind.within);
      passes = λ k low high. elim (cases_lt k j) [
        | inl inside ↦ let part = name.passes k low inside in plain_by _ (part_is_plain _ (part_ascii _ part)) part
        | inr last ↦ let same : k ≡ j = omega arith in ap is_value_byte (ap (slice_index src) same ∙ behind.equals) ∙ equals_is_plain
      ];
      stops = λ more. ap is_value_byte behind.here ∙ no_quote_is_plain q behind.quote;
    }

-- ---- a name of ASCII bytes

pub near_ends : (src : List ℕ) (i j : ℕ) → IsUtf8 src → EndsNear src i j → j ≡ run_end is_part_char src i
near_ends src i j utf8 h = part_stops src i j utf8 h.ends.onward h.ends.within h.ends.passes h.ends.stops (λ _. omega (arith, h.stops))

pub near_cut : (src : List ℕ) (i j : ℕ) → IsUtf8 src → IsCharBoundary src i → EndsNear src i j → IsCharBoundary src j
near_cut src i j utf8 cut h = part_cut src i j utf8 cut h.ends.onward h.ends.within h.ends.passes

-- a part of ASCII bytes that begins a name
near_begins : (src : List ℕ) (i j : ℕ) → IsUtf8 src → EndsNear src i j → begins is_name_start src i ≡ true
near_begins src i j utf8 h =
    let more : i < j = elim (cases_lt i j) [
      | inl less ↦ less
      | inr past ↦ let same : i ≡ j = omega (arith, past, h.ends.onward) in absurd (let letter = subst (λ (k : ℕ). 63 < slice_index src k) same h.letter in omega (arith, letter, h.stops))
    ] in
    letter_begins src i j utf8 more h.ends.within h.ends.passes h.letter

-- a name without colon
name_is : (src : List ℕ) (i k : ℕ) → begins is_name_start src i ≡ true → k ≡ run_end is_part_char src i → slice_index src k ≢ 58 → qname_at src i ≡ Ok (record { prefix = []; local = slice_range src i k }, k)
unfolding qname_at
name_is src i k some end is =
    rw (← end, (ne_eqb (slice_index src k) 58 is), some) refl

pub near_named : (src : List ℕ) (i j : ℕ) → IsUtf8 src → EndsNear src i j → qname_at src i ≡ Ok (record { prefix = []; local = slice_range src i j }, j)
near_named src i j utf8 h = name_is src i j (near_begins src i j utf8 h) (near_ends src i j utf8 h) h.no_colon

-- a local part of them
pub near_local : (src : List ℕ) (i j : ℕ) → IsUtf8 src → IsCharBoundary src i → EndsNear src i j → IsLocalPart src i j
near_local src i j utf8 cut h = record {
  begins = near_begins src i j utf8 h;
  other = ne_eqb (slice_index src i) 58 (λ same. absurd (let letter = h.letter in omega (arith, letter, same)));
  part = record { place = near_ends src i j utf8 h; onward = h.ends.onward; cut = near_cut src i j utf8 cut h };
  stops = ne_eqb (slice_index src j) 58 h.no_colon;
}

-- a prefix of them, before its colon
pub prefix_ends : (src : List ℕ) (i : ℕ) (e : RunEnd) → IsUtf8 src → EndsPrefix src i e → EndsFirstPart src i e.at 58
prefix_ends src i e utf8 h =
    let ends = h.run.stops.ends in
    record {
      first = record {
        start = h.start;
        part = record {
          place = part_stops src i e.at utf8 ends.onward ends.within ends.passes ends.stops (λ _. omega (arith, h.colon));
          onward = ends.onward;
          cut = part_cut src i e.at utf8 h.start ends.onward ends.within ends.passes;
        };
        begins = ascii_begins src i e.at utf8 ends (omega (arith, h.letter)) (omega (arith, h.colon));
      };
      here = h.colon;
    }
