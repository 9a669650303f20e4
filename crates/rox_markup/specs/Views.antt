-- What is read of constructs, without where it is in memory.
use Rattle.std.specs.Prelude.{◌≡◌, ◌≤◌, List, ℕ, Bool, Option, Result, IfOk, Ok, option_map, slice_range, IsCharBoundary}
use Rattle.std.specs.Borrow.{Bor}
use Rattle.rox_grammar.specs.Content.{is_verbatim_value}
use Rattle.rox_reading.specs.Markup as markup
use Rattle.rox_grammar.specs.Failures.{name_view}
use Rattle.rox_grammar.specs.declared.fault.Fault.{Fault}
use Rattle.rox_scan.specs.CursorSteps.{Steps}
use Rattle.rox_scan.specs.Views.{HasValue}
use Rattle.rox_scan.specs.declared.cursor.Cursor.{Cursor}
use Rattle.rox_scan.specs.declared.raw_attribute.RawAttribute.{RawAttribute}
use Rattle.rox_markup.specs.declared.markup.Instruction.{Instruction}
use Rattle.rox_markup.specs.declared.markup.WholeComment.{WholeComment}
use Rattle.rox_markup.specs.declared.tag.EndTag.{EndTag}
use Rattle.rox_markup.specs.declared.tag.TagItem.{TagItem}
use Rattle.rox_markup.specs.declared.tag.TagItem.TheVariants as item

abbrev pub text_view : Option (Bor (List ℕ)) → Option (List ℕ)
text_view o = option_map (λ x. x.now) o

abbrev pub instruction_view : Instruction → markup.Instruction
instruction_view p = record { target = p.target.now; value = text_view p.value }

-- A comment is read that starts at `i`.
pub record IsComment (src : List ℕ) (i : ℕ) (c : WholeComment) : Type 0 where
  pub read : markup.comment_at src i ≡ Ok (c.text.now, c.end)
  pub cut : IsCharBoundary src c.end
  pub onward : i ≤ c.end

abbrev pub end_tag_view : EndTag → markup.EndTag
end_tag_view e = record { name = name_view e.name; name_end = e.name_end }

abbrev pub attribute_view : RawAttribute → markup.RawAttribute
attribute_view a = record { start = a.start; name = name_view a.name; name_end = a.name_end; value_start = a.value_start; value_end = a.value_end }

abbrev pub tag_item_view : TagItem → markup.TagItem
tag_item_view (item.More a) = markup.more (attribute_view a)
tag_item_view item.Open = markup.opened
tag_item_view item.Empty = markup.closed

-- A value in the quotes `quote` is passed, up to the quote, and the result says whether it needs no replacement.
pub record PassesValue (quote : ℕ) (old new : Cursor) (result : Result Bool Fault) : Type 0 where
  pub read : Steps (λ _. slice_range old.text.now old.pos new.pos) old new result (markup.raw_value_at quote)
  pub verbatim : IfOk result (λ v. v ≡ is_verbatim_value (slice_range old.text.now old.pos new.pos))

-- The value of an attribute that is the next item of a start tag is the text between two of its offsets.
abbrev pub TagItemHasValue : List ℕ → TagItem → Type 0
TagItemHasValue text (item.More a) = HasValue text a
TagItemHasValue text item.Open = Unit {0}
TagItemHasValue text item.Empty = Unit {0}
