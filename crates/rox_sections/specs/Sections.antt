-- The CDATA sections that the fast path reads.
use Rattle.std.specs.Prelude.{◌≡◌, ◌==◌, ◌&&◌, ℕ, Bool, true, not, List, Option, Result, Ok, IfOk, IfSome, IsCharBoundary}
use Rattle.std.specs.declared.alloc.AllocError.{AllocError}
use Rattle.rox_bytes.specs.ByteSets.{is_char_byte}
use Rattle.rox_reading.specs.Markup.{cdata_at}
use Rattle.rox_scan.specs.declared.cursor.Cursor.{Cursor}
use Rattle.rox_values.specs.Values.{piece_view, section_text}
use Rattle.rox_values.specs.declared.text_value.TextValue.{TextValue}
use Rattle.rox_sections.specs.declared.quick_sections.PlainSection.{PlainSection}

-- The byte `b` is not `]` or 239, and not a control except TAB and LF.
unfoldable pub is_section_byte : ℕ → Bool
is_section_byte b = (is_char_byte b && not (b == 13)) && not (b == 93)

-- A CDATA section is read that starts at `i`, and its text is a slice of the source.
pub record IsPlainSection (src : List ℕ) (i : ℕ) (s : PlainSection) : Type 0 where
  pub read : cdata_at src i ≡ Ok (s.text.now, s.end)
  pub plain : section_text s.text.now ≡ record { value = s.text.now; borrowed = true }
  pub cut : IsCharBoundary src s.end

-- A CDATA section is read, or nothing is. Its text is the piece, where a changed one has the bytes `changed`.
pub record ReadsPiece (old new : Cursor) (changed : List ℕ) (result : Result (Option TextValue) AllocError) : Type 0 where
  pub read : IfOk result (λ o. IfSome o (λ p. (raw : List ℕ) × (cdata_at old.text.now old.pos ≡ Ok (raw, new.pos)) × (section_text raw ≡ piece_view p changed)))
  pub source : IfOk result (λ o. IfSome o (λ p. new.text ≡ old.text))
