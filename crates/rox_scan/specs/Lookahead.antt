-- How far a slice of a text is valid.
use Rattle.std.specs.Prelude.{◌≡◌, ◌≤◌, ◌<◌, ◌+◌, ◌==◌, ◌||◌, ℕ, Bool, true, false, not, List, length, take, slice_index, slice_range, Ok, IsCharBoundary}
use Rattle.std.specs.List.{list_any}
use Rattle.rox_grammar.specs.declared.fault.Word.TheVariants as word
use Rattle.rox_grammar.specs.FixedTexts.{word_text, double_dash}
use Rattle.rox_grammar.specs.Search.{byte_from, stands}
use Rattle.rox_grammar.specs.Chars.{is_char}
use Rattle.rox_grammar.specs.Runs.{begins}
use Rattle.rox_grammar.specs.Content.{is_verbatim}
use Rattle.rox_bytes.specs.ByteSets.{is_text_byte, is_any_value_byte}
use Rattle.rox_reading.specs.Values.{is_special, raw_character_data_at}
use Rattle.rox_grammar.specs.Constructs.{AreChars}

-- The bytes from `i` up to `j` are Chars; `ends` holds at none of them; `verbatim` is true exactly if none passes `changes`.
pub record IsLookahead (ends : ℕ → Bool) (changes : ℕ → Bool) (src : List ℕ) (i j : ℕ) (verbatim : Bool) : Type 0 where
  pub onward : i ≤ j
  pub cut : IsCharBoundary src j
  pub chars : AreChars src i j
  pub apart : (k : ℕ) → i ≤ k → k < j → ends k ≡ false
  pub verbatim_is : verbatim ≡ not (list_any changes (slice_range src i j))

-- As in `IsLookahead`, and either `ends` holds at `j`, the text ends there, or the character there is not a Char.
pub record LooksAhead (ends : ℕ → Bool) (changes : ℕ → Bool) (src : List ℕ) (i j : ℕ) (verbatim : Bool) : Type 0 where
  pub looked : IsLookahead ends changes src i j verbatim
  pub stops : j < length src → ends j ≡ false → begins is_char src j ≡ false

-- What is valid up to `j`, from any start, is valid up to `k` too, with the same `verbatim`.
abbrev pub GoesOn : (ends : ℕ → Bool) (changes : ℕ → Bool) → List ℕ → (j k : ℕ) → Bool → Type 0
GoesOn ends changes src j k verbatim = (i : ℕ) → IsCharBoundary src i → IsLookahead ends changes src i j verbatim → IsLookahead ends changes src i k verbatim

-- The bytes from `i` up to `j` are Chars, of which only the first may be ASCII.
pub record IsStep (src : List ℕ) (i j : ℕ) : Type 0 where
  pub onward : i ≤ j
  pub chars : AreChars src i j
  pub cut : IsCharBoundary src j
  pub wide : (k : ℕ) → i < k → k < j → 128 ≤ slice_index src k

-- Whether a value ends at the offset: a quote or a `<` is there. Each special byte changes a value.
abbrev pub ends_value : ℕ → List ℕ → ℕ → Bool
ends_value quote src k = (slice_index src k == quote) || (slice_index src k == 60)

-- The byte `b` needs no replacement in a value, or changes it.
unfoldable pub is_changed_value_byte : ℕ → Bool
is_changed_value_byte b = is_any_value_byte b || is_special b

-- Whether character data ends at the offset: a `<` or a `]]>` is there.
abbrev pub ends_run : List ℕ → ℕ → Bool
ends_run src k = (slice_index src k == 60) || stands (word_text word.CDataEnd) src k

-- Whether the byte changes character data: it is `&` or CR.
abbrev pub changes_run : ℕ → Bool
changes_run b = (b == 38) || (b == 13)

-- The byte `b` is a text byte, or changes character data.
unfoldable pub is_changed_text_byte : ℕ → Bool
is_changed_text_byte b = is_text_byte b || changes_run b

-- Character data from `i` up to `j` is valid and needs no replacement, and `<` is at `j`.
pub record EndsRun (src : List ℕ) (i j : ℕ) : Type 0 where
  pub looked : IsLookahead (ends_run src) changes_run src i j true
  pub here : slice_index src j ≡ 60

-- Whether the text of a comment ends at the offset: two dashes are there.
abbrev pub ends_comment : List ℕ → ℕ → Bool
ends_comment src k = stands double_dash src k

-- No byte counts as a change.
abbrev pub none_changes : ℕ → Bool
none_changes b = false

-- The text of a comment is valid from `i` up to `j`, where its `-->` is.
pub record EndsComment (src : List ℕ) (i j : ℕ) : Type 0 where
  pub looked : IsLookahead (ends_comment src) none_changes src i j true
  pub here : stands (word_text word.CommentEnd) src j ≡ true

-- The bytes from `i` up to `j` are a CR, a LF, and bytes other than `&` and CR.
pub record IsLine (src : List ℕ) (i j : ℕ) : Type 0 where
  pub some : i + 1 < j
  pub within : j ≤ length src
  pub cr : slice_index src i ≡ 13
  pub feed : slice_index src (i + 1) ≡ 10
  pub rest : byte_from (λ c. c == 38 || c == 13) (take j src) (i + 1 + 1) ≡ j

-- A CR is at `i`, and an LF at `j`, right after it.
pub record EndsLine (src : List ℕ) (i j : ℕ) : Type 0 where
  pub cr : slice_index src i ≡ 13
  pub feed : slice_index src j ≡ 10
  pub next : j ≡ i + 1
  pub cut : IsCharBoundary src j

-- The bytes from `i` up to `j` are a line as in `IsLine`, and the character data ends at `j`.
pub record IsLineRun (src : List ℕ) (i j : ℕ) : Type 0 where
  pub line : IsLine src i j
  pub value : raw_character_data_at src i ≡ Ok (slice_range src i j, j)
  pub verbatim : is_verbatim (slice_range src i j) ≡ false
  pub cut : IsCharBoundary src j

-- Character data from `i` up to `j` is valid and needs a replacement.
pub record IsChangedRun (src : List ℕ) (i j : ℕ) : Type 0 where
  pub some : i < j
  pub within : j ≤ length src
  pub value : raw_character_data_at src i ≡ Ok (slice_range src i j, j)
  pub changes : is_verbatim (slice_range src i j) ≡ false
  pub cut : IsCharBoundary src j
