-- What the scanner reads, without where it is in memory.
use Rattle.std.specs.Prelude.{◌≡◌, ◌≤◌, List, ℕ, Result, IfOk, slice_range, IsCharBoundary}
use Rattle.rox_grammar.specs.Content.{is_verbatim, is_verbatim_value}
use Rattle.rox_grammar.specs.Entities.{Replacement}
use Rattle.rox_reading.specs.Values.{raw_character_data_at}
use Rattle.rox_grammar.specs.declared.fault.Fault.{Fault}
use Rattle.rox_scan.specs.CursorSteps.{Steps}
use Rattle.rox_scan.specs.declared.cursor.Cursor.{Cursor}
use Rattle.rox_scan.specs.declared.character_data.RawCharacterData.{RawCharacterData}
use Rattle.rox_scan.specs.declared.raw_attribute.RawAttribute.{RawAttribute}

-- The replacement text that starts at the cursor. Its source is cut off where it ends.
abbrev pub replacement_view : Cursor → Replacement
replacement_view c = record { source = c.text.now; start = c.pos }

-- The value of the attribute is the text between two of its offsets.
pub record HasValue (text : List ℕ) (a : RawAttribute) : Type 0 where
  pub ordered : a.value_start ≤ a.value_end
  pub from : IsCharBoundary text a.value_start
  pub until : IsCharBoundary text a.value_end
  pub is : a.value.now ≡ slice_range text a.value_start a.value_end
  -- `is_verbatim` says whether the value needs no replacement.
  pub verbatim : a.is_verbatim ≡ is_verbatim_value a.value.now

-- Character data is read, and the result says whether it needs no replacement.
pub record ReadsRun (old new : Cursor) (result : Result RawCharacterData Fault) : Type 0 where
  pub read : Steps (λ raw. raw.text.now) old new result raw_character_data_at
  pub verbatim : IfOk result (λ raw. raw.is_verbatim ≡ is_verbatim raw.text.now)
