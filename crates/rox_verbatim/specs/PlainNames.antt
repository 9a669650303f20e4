-- Names that the fast path reads.
use Rattle.std.specs.Prelude.{◌≡◌, ◌≢◌, ℕ, ◌+◌, ◌<◌, ◌≤◌, ◌==◌, ◌||◌, true, false, List, Ok, length, slice_index, slice_range, IsCharBoundary}
use Rattle.rox_grammar.specs.Chars.{is_name_start, is_part_char}
use Rattle.rox_grammar.specs.Runs.{run_end, begins}
use Rattle.rox_grammar.specs.Failures.{name_view}
use Rattle.rox_reading.specs.Lexical.{qname_at}
use Rattle.rox_bytes.specs.ByteSets.{EndsSet, is_part_byte}
use Rattle.rox_bytes.specs.ScanResults.{Finds}
use Rattle.rox_bytes.specs.RunEnds.{EndsRun}
use Rattle.rox_bytes.specs.declared.byte_set.RunEnd.{RunEnd}
use Rattle.rox_verbatim.specs.declared.quick_name.NameAt.{NameAt}

-- A part of a name starts at `i` with a letter or `_`. Its ASCII bytes end at `j`, and neither a colon nor more of the name
-- follows.
pub record EndsNear (src : List ℕ) (i j : ℕ) : Type 0 where
  pub ends : EndsSet is_part_byte src i j
  pub letter : 63 < slice_index src i
  pub stops : slice_index src j < 63
  pub no_colon : slice_index src j ≢ 58

-- A name starts at `i`, and its first part ends at `j`.
pub record IsFirstPart (src : List ℕ) (i j : ℕ) : Type 0 where
  pub start : IsCharBoundary src i
  pub part : Finds src i j (run_end is_part_char src i)
  pub begins : begins is_name_start src i ≡ true

-- A name starts at `i`, and its first part ends at `j`, before the byte `b`.
pub record EndsFirstPart (src : List ℕ) (i j b : ℕ) : Type 0 where
  pub first : IsFirstPart src i j
  pub here : slice_index src j ≡ b

-- A prefix of ASCII bytes starts at `i` with a letter or `_`, and `e` ends it at a colon.
pub record EndsPrefix (src : List ℕ) (i : ℕ) (e : RunEnd) : Type 0 where
  pub start : IsCharBoundary src i
  pub run : EndsRun is_part_byte src i e
  pub letter : 63 < slice_index src i
  pub colon : slice_index src e.at ≡ 58

-- A local part starts at `i` and ends at `j`.
pub record IsLocalPart (src : List ℕ) (i j : ℕ) : Type 0 where
  pub begins : begins is_name_start src i ≡ true
  pub other : (slice_index src i == 58) ≡ false
  pub part : Finds src i j (run_end is_part_char src i)
  pub stops : (slice_index src j == 58) ≡ false

-- The name `n` is read at `i`.
pub record IsPlainName (src : List ℕ) (i : ℕ) (n : NameAt) : Type 0 where
  pub value : qname_at src i ≡ Ok (name_view n.name, n.end)
  pub onward : i ≤ n.end
  pub cut : IsCharBoundary src n.end
  pub local : i + length n.name.local.now ≤ n.end

-- The name `n` of an attribute is read at `i`, and `=` and a quote are right after it.
pub record IsAttributeName (src : List ℕ) (i : ℕ) (n : NameAt) : Type 0 where
  pub value : qname_at src i ≡ Ok (name_view n.name, n.end)
  pub local : i + length n.name.local.now ≤ n.end
  pub equals : slice_index src n.end ≡ 61
  pub quote : (slice_index src (n.end + 1) == 39 || slice_index src (n.end + 1) == 34) ≡ true
  pub inside : n.end + 1 < length src

-- The name `n` of an attribute was read at `i`, and its prefix ends at `j`.
pub record IsPrefixedName (src : List ℕ) (i j : ℕ) (n : NameAt) : Type 0 where
  pub named : IsAttributeName src i n
  pub prefix : n.name.prefix.now ≡ slice_range src i j
  pub local : j + 1 + length n.name.local.now ≡ n.end
