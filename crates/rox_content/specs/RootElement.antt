-- The root element, read up to its content by the fast path.
use Rattle.std.specs.Prelude.{◌≡◌, ◌≢◌, ℕ, Ok}
use Rattle.rox_reading.specs.Machine as machine
use Rattle.rox_reading.specs.State.{State}
use Rattle.rox_reading.specs.Tags.{Values}
use Rattle.rox_scan.specs.declared.cursor.Cursor.{Cursor}
use Rattle.rox_builder.specs.BuilderState.{GoesOn, IsInState, ScansTo}
use Rattle.rox_builder.specs.declared.builder.Builder.{Builder}
use Rattle.rox_content.specs.declared.quick_root.RootLook.{RootLook}
use Rattle.rox_content.specs.declared.quick_root.RootLook.TheVariants as look

-- The start tag of the root element was read, if values are read `such`. Or nothing was, and the builder represents what it did. Or
-- memory was refused.
pub record ReadsRootElement (such : Values → Type 0) (old new : Cursor) (b after : Builder) (result : RootLook) : Type 0 where
  pub value : result ≡ look.Read → (context : machine.Context) (end : ℕ) (s : State) → such context.values → IsInState context.limit end s old b
      → ScansTo context.limit end (Ok tt) new after (machine.tag_step context old.text.now s)
  pub same : result ≡ look.NotRead → new ≡ old
  pub other : result ≡ look.NotRead → (limit end : ℕ) (s : State) → IsInState limit end s old b → IsInState limit end s old after
  pub goes : result ≢ look.Lacking → GoesOn old new after
