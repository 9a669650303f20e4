-- What is required where something is read: of the offset, of the builder, and of the room.
use Rattle.std.specs.Prelude.{◌≡◌, ◌<◌, ◌+◌, ◌^◌, ℕ, true, List, length, slice_index, IsCharBoundary}
use Rattle.rox_grammar.specs.FixedTexts.{word_text}
use Rattle.rox_grammar.specs.Search.{stands}
use Rattle.rox_grammar.specs.declared.fault.Word.{Word}
use Rattle.rox_scan.specs.declared.cursor.Cursor.{Cursor}
use Rattle.rox_builder.specs.BuilderState.{IsConsistent, IsReady, IsReadyTo, last_row, opened_in}
use Rattle.rox_builder.specs.declared.builder.Builder.{Builder}
use Rattle.rox_builder.specs.declared.pending.Pending.TheVariants as pending

-- The offsets of the text fit rows, there is room for one more row, and what the builder holds is consistent.
pub record HasRoom (src : List ℕ) (b : Builder) : Type 0 where
  pub short : length src < 2 ^ 32
  pub ready : IsReady 1 b
  pub fine : IsConsistent b.tables b.opened.items

-- There is room for `most` rows in all, and no text may continue.
pub record IsApart (most : ℕ) (b : Builder) : Type 0 where
  pub ready : IsReadyTo most b
  pub apart : b.pending ≡ pending.None

-- The word `word` is at the cursor, and what the builder holds is consistent.
pub record MayRead (word : Word) (c : Cursor) (b : Builder) : Type 0 where
  pub here : stands (word_text word) c.text.now c.pos ≡ true
  pub fine : IsConsistent b.tables b.opened.items

-- `<` is at the cursor, and what the builder holds is consistent.
pub record MayReadTag (c : Cursor) (b : Builder) : Type 0 where
  pub there : c.pos < length c.text.now
  pub here : slice_index c.text.now c.pos ≡ 60
  pub fine : IsConsistent b.tables b.opened.items

-- `<` is at the cursor, a byte follows it, and what the builder holds is consistent.
pub record MayReadMarkup (c : Cursor) (b : Builder) : Type 0 where
  pub there : c.pos + 1 < length c.text.now
  pub here : slice_index c.text.now c.pos ≡ 60
  pub fine : IsConsistent b.tables b.opened.items

-- Character data may be read up to `until`, and what the builder holds is consistent.
pub record MayReadTo (until : ℕ) (c : Cursor) (b : Builder) : Type 0 where
  pub stop : IsCharBoundary c.text.now until
  pub fine : IsConsistent b.tables b.opened.items

-- A construct may be read at `i`, and there is room for it.
pub record MayReadAt (src : List ℕ) (i : ℕ) (b : Builder) : Type 0 where
  pub cut : IsCharBoundary src i
  pub room : HasRoom src b

-- There is room for a row that starts at `i`. Its parent is the row `above`, of the innermost open element or of the root node.
pub record MayPutRow (b : Builder) (above i : ℕ) : Type 0 where
  pub ready : IsReady 1 b
  pub parent : above ≡ last_row (opened_in b.tables b.opened.items)
  pub start : i < 2 ^ 32
