-- The entities that the code holds, and how it reads a text, compared with how a text is read.
use Rattle.std.specs.Prelude.{◌≡◌, ℕ, zero, suc, Bool, true, List, Option, Result, Ok, Err, option_map}
use Rattle.std.specs.BTreeMap.{get_by}
use Rattle.rox_grammar.specs.declared.fault.Fault.{Fault}
use Rattle.rox_grammar.specs.declared.fault.Fault.TheVariants as fault
use Rattle.rox_grammar.specs.Entities.{Replacement, Entity, text_of}
use Rattle.rox_reading.specs.Machine.{budget, values_of}
use Rattle.rox_reading.specs.Tags.{Values}
use Rattle.rox_scan.specs.Views.{replacement_view}
use Rattle.rox_values.specs.HeldEntities.{named_cmp}
use Rattle.rox_values.specs.declared.entities.Entities.{Entities}
use Rattle.rox_values.specs.declared.context.Context.{Context}

-- The replacement text of `name`.
abbrev pub text_in : Entities → List ℕ → Option Replacement
text_in e name = option_map replacement_view (get_by (named_cmp name) e.texts)

-- The entities that are held are those of `es`.
pub record AreDeclared (es : List Entity) (e : Entities) : Type 0 where
  pub texts : (name : List ℕ) → text_in e name ≡ text_of es name

-- How values are read, if the entities `es` are declared.
abbrev pub values_in : List Entity → Context → Values
values_in es context = values_of es context.depth_left context.main

-- Values are read as in the context `x`, if its text is the main text.
pub record AreMainValues (x : Context) (values : Values) : Type 0 where
  pub entities : List Entity
  pub declared : AreDeclared entities x.entities.now
  pub main : x.main ≡ true
  pub are : values ≡ values_in entities x

-- How many replacement texts may be opened inside the one whose reference ends at `after`. At most `depth_left` may be open
-- inside one another.
abbrev pub opened_at : (depth_left : ℕ) → (main : Bool) → (after openings_left : ℕ) → Result ℕ Fault
opened_at zero main after openings_left = Err (fault.EntityReferenceLoop after)
opened_at (suc d) main after openings_left = budget main after openings_left

-- A text is opened, or the fault is that of `read`.
abbrev pub Opens : Result (Context × ℕ) Fault → Result ℕ Fault → Type 0
Opens (Ok x) read = read ≡ Ok x.1
Opens (Err f) read = read ≡ Err f
