-- White space and attribute values that the fast path reads.
use Rattle.std.specs.Prelude.{◌≡◌, ℕ, ◌+◌, ◌<◌, ◌≤◌, ◌==◌, ◌||◌, true, List, Ok, length, slice_index, slice_range, IsCharBoundary}
use Rattle.rox_grammar.specs.Names.{spaces_end}
use Rattle.rox_grammar.specs.Content.{is_verbatim_value}
use Rattle.rox_reading.specs.Markup.{raw_value_at}
use Rattle.rox_reading.specs.Values.{is_special}
use Rattle.rox_bytes.specs.ByteSets.{EndsSet, is_value_byte}
use Rattle.rox_scan.specs.Lookahead.{IsLookahead, ends_value}

-- A character starts at `i`, before the last byte.
pub record IsBeforeLast (src : List ℕ) (i : ℕ) : Type 0 where
  pub cut : IsCharBoundary src i
  pub within : i + 1 < length src

-- The quote `q` is at `i`.
pub record IsQuoteAt (src : List ℕ) (i q : ℕ) : Type 0 where
  pub here : slice_index src i ≡ q
  pub within : i < length src
  pub quote : (q == 39 || q == 34) ≡ true
  pub some : 0 < q
  pub ascii : q < 128

-- `=` is at `i`, and the quote `q` right after it.
pub record IsQuoteBehindEquals (src : List ℕ) (i q : ℕ) : Type 0 where
  pub equals : slice_index src i ≡ 61
  pub here : slice_index src (i + 1) ≡ q
  pub quote : (q == 39 || q == 34) ≡ true
  pub within : i + 1 < length src

-- The value of an attribute whose name ends at `i` starts at `j`, after its quote.
pub record IsValueStart (src : List ℕ) (i j : ℕ) : Type 0 where
  pub equals : ℕ
  pub before : ℕ
  pub spaces : equals ≡ spaces_end src i
  pub is : slice_index src equals ≡ 61
  pub spaces_behind : before ≡ spaces_end src (equals + 1)
  pub quote : (slice_index src before == 39 || slice_index src before == 34) ≡ true
  pub start : j ≡ before + 1
  pub within : before < length src
  pub onward : i + 1 ≤ before
  pub cut : IsCharBoundary src j

-- A value may start at `i`, after the quote `q`.
pub record BeginsValue (src : List ℕ) (i q : ℕ) : Type 0 where
  pub cut : IsCharBoundary src i
  pub quote : (q == 39 || q == 34) ≡ true

-- A value may start at `i`, after the quote `q`, and each byte up to `j` needs no replacement.
pub record SeesValue (src : List ℕ) (i q j : ℕ) : Type 0 where
  pub cut : IsCharBoundary src i
  pub near : EndsSet is_value_byte src i j
  pub quote : (q == 39 || q == 34) ≡ true

-- A value that needs no replacement is at `i`, after the quote `quote`, and ends at `j`.
pub record HasPlainValue (src : List ℕ) (i quote j : ℕ) (value : List ℕ) : Type 0 where
  pub read : raw_value_at quote src i ≡ Ok (slice_range src i j, j)
  pub verbatim : is_verbatim_value (slice_range src i j) ≡ true
  pub here : slice_index src j ≡ quote
  pub onward : i ≤ j
  pub cut : IsCharBoundary src j
  pub is : value ≡ slice_range src i j

-- The rest of a value from `i` on needs no replacement, and its quote `q` is at `j`.
pub record EndsVerbatim (src : List ℕ) (i q j : ℕ) : Type 0 where
  pub looked : IsLookahead (ends_value q src) is_special src i j true
  pub here : (slice_index src j == q) ≡ true
