-- What the tables of a text are, or why there are none, if a resolver is asked for external entities.
use Rattle.std.specs.Prelude.{◌≡◌, ◌++◌, ℕ, Bool, List, Ok, Err, length, string_bytes}
use Rattle.rox_grammar.specs.Forest.{Forest}
use Rattle.rox_grammar.specs.Written.{Item, merge}
use Rattle.rox_grammar.specs.Tree.{document_tree}
use Rattle.rox_grammar.specs.Doctype.{Request, Asked}
use Rattle.rox_reading.specs.Refusals as refusal
use Rattle.rox_reading.specs.Refusals.{Refusal}
use Rattle.rox_reading.specs.Doctype.{Reply, replies_of, AreTextReplies}
use Rattle.rox_reading.specs.Stopping.{Stops}
use Rattle.rox_reading.specs.WholeText.{reading}
use Rattle.rox_reading.specs.HasDoctype.{has_doctype}
use Rattle.rox_prolog.specs.Requests.{AreAllowed}
use Rattle.rox_names.specs.Tables.{HoldsTree}
use Rattle.rox_names.specs.declared.tables.Tables.{Tables}
use Rattle.rox_values.specs.declared.parse_error.ParseError.{ParseError}
use Rattle.rox_values.specs.declared.parse_error.ParseError.TheVariants as refused

-- The requests `asked` were made, and their answers are allowed and are texts. With them the text is read to the items `tops`,
-- whatever replies follow. The tables are those of their tree, and `dtd` is whether there is a document type declaration.
pub record Built (limit : ℕ) (allow : Bool) (allows : Request → Reply → Type 0) (text : List ℕ) (tables : Tables) (dtd : Bool) : Type 0 where
  pub asked : List Asked
  pub allowed : AreAllowed allows asked
  pub texts : AreTextReplies (replies_of asked)
  pub tops : Forest Item
  pub read : (more : List Reply) → reading limit allow (replies_of asked ++ more) text ≡ (asked, Ok tops)
  pub seen : dtd ≡ has_doctype limit text
  pub holds : HoldsTree tables (document_tree (length text) (merge tops))

-- The requests `asked` were made, their answers are allowed and are texts, and the text is refused by `e`, whatever replies
-- follow.
pub record BuiltNone (limit : ℕ) (allow : Bool) (allows : Request → Reply → Type 0) (text : List ℕ) (e : Refusal) : Type 0 where
  pub asked : List Asked
  pub allowed : AreAllowed allows asked
  pub texts : AreTextReplies (replies_of asked)
  pub stops : Stops (λ replies. reading limit allow replies text) asked e

-- Why there are no tables. The resolver's own refusal is one that it may reply to that request. Nothing is stated if memory ran
-- out.
abbrev pub BuiltRefusal : (limit : ℕ) (allow : Bool) (allows : Request → Reply → Type 0) (text : List ℕ) → ParseError → Type 0
BuiltRefusal limit allow allows text refused.Memory = Unit {0}
BuiltRefusal limit allow allows text (refused.Fault f) = BuiltNone limit allow allows text (refusal.here f)
BuiltRefusal limit allow allows text (refused.FaultIn source f) = BuiltNone limit allow allows text (refusal.there source.now f)
BuiltRefusal limit allow allows text (refused.Resolver at message) =
    (request : Request) × allows request (Err (string_bytes message)) × BuiltNone limit allow allows text (refusal.refused request at (string_bytes message))
