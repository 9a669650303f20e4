-- How the row of an element is put whose start tag the fast path read.
use Rattle.std.specs.Prelude.{◌≡◌, ℕ, ◌<◌, ◌^◌, true, false, List, [], ◌∷◌, ◌++◌, slice_index, vec_len, vec_capacity, IsCharBoundary}
use Rattle.rox_rows.specs.declared.row.NodeKind.TheVariants as kind
use Rattle.rox_names.specs.declared.open_element.OpenElement.{OpenElement}
use Rattle.rox_reading.specs.Machine as machine
use Rattle.rox_values.specs.DeclaredEntities.{AreMainValues}
use Rattle.rox_values.specs.declared.context.Context.{Context}
use Rattle.rox_tags.specs.TagHeads.{HasHead}
use Rattle.rox_tags.specs.declared.quick_tag.PlainTag.{PlainTag}
use Rattle.rox_tags.specs.declared.quick_tag.TagHead.{TagHead}
use Rattle.rox_builder.specs.Readiness.{HasRoom}
use Rattle.rox_builder.specs.Putting.{MayPutOpen, PutsLeaf, PutsOpen}
use Rattle.rox_builder.specs.declared.builder.Builder.{Builder}

-- The start tag at `i` begins with `h`, inside the innermost open element `parent`, and there is room for its row.
pub record MayReadHead (src : List ℕ) (i : ℕ) (b : Builder) (h : TagHead) : Type 0 where
  pub here : slice_index src i ≡ 60
  pub start : IsCharBoundary src i
  pub room : HasRoom src b
  pub depth : vec_len b.opened < vec_capacity b.opened
  pub outer : List OpenElement
  pub parent : OpenElement
  pub innermost : b.opened.items ≡ outer ++ parent ∷ []
  pub head : HasHead b.tables parent.scope src i h

-- There is room for the element whose start tag `t` starts at `i`. Its parent has the row `above`.
pub record MayPutElement (src : List ℕ) (i : ℕ) (b : Builder) (above : ℕ) (t : PlainTag) : Type 0 where
  pub opens : MayPutOpen b above src i t.tag
  pub end : t.end < 2 ^ 32

-- The element has its row, and is open unless its tag `t` is empty. The tag ends at `j`.
pub record PutsElement (src : List ℕ) (i : ℕ) (old new : Builder) (t : PlainTag) (j : ℕ) : Type 0 where
  pub end : j ≡ t.end
  pub leaf : t.tag.empty ≡ true → PutsLeaf old new i t.end (kind.Element t.tag.element)
  pub opens : t.tag.empty ≡ false → PutsOpen old new src i t.tag

-- The machine reads values as in the context `x`, that of the main text.
abbrev pub HasMainValues : Context → machine.Context → Type 0
HasMainValues x m = AreMainValues x m.values

-- The machine reads the main text as in the context `x`.
pub record IsMainContext (x : Context) (m : machine.Context) : Type 0 where
  pub values : HasMainValues x m
  pub around : m.open_around ≡ x.open_around
