-- The result of parsing, in terms of a reading: the document that was read, or the error that says why none was.
use Rattle.std.specs.Prelude.{◌≡◌, ◌++◌, ℕ, Bool, List, Ok, length}
use Rattle.rox_grammar.specs.Doctype.{Request, Asked}
use Rattle.rox_grammar.specs.Written.{Item}
use Rattle.rox_grammar.specs.Forest.{Forest}
use Rattle.rox_grammar.specs.Tree.{document_tree}
use Rattle.rox_reading.specs.Doctype.{Reply, replies_of, AreTextReplies}
use Rattle.rox_reading.specs.WholeText.{reading}
use Rattle.rox_reading.specs.HasDoctype.{has_doctype}
use Rattle.rox_build.specs.Requests.{AreAllowed}
use Rattle.rox_error.specs.FaultErrors.{position_at, IsErrorOf}
use Rattle.rox_error.specs.declared.error.Error.{Error}
use Rattle.rox_error.specs.declared.error.Error.TheVariants as error
use Rattle.rox_values.specs.declared.parse_error.ParseError.{ParseError}
use Rattle.rox_values.specs.declared.parse_error.ParseError.TheVariants as why
use Rattle.roxmltree.specs.DocumentView.{DocumentView}

-- The document with this key is what reading the text gives, after these requests were made.
pub record IsReadDocument (limit : ℕ) (allow : Bool) (allows : Request → Reply → Type 0) (text : List ℕ) (key : ℕ) (d : DocumentView) : Type 0 where
  pub text_is : d.text ≡ text
  pub key_is : d.key ≡ key
  pub asked : List Asked
  pub allowed : AreAllowed allows asked
  pub texts : AreTextReplies (replies_of asked)
  pub tops : Forest Item
  pub read : (more : List Reply) → reading limit allow (replies_of asked ++ more) text ≡ (asked, Ok tops)
  pub seen : d.dtd ≡ has_doctype limit text
  pub shown : d.tree ≡ document_tree (length text) tops

-- The error for each reason that there are no tables.
abbrev pub IsErrorOfReason : (text : List ℕ) → ParseError → Error → Type 0
IsErrorOfReason text why.Memory e = e ≡ error.OutOfMemory
IsErrorOfReason text (why.Fault f) e = IsErrorOf text f e
IsErrorOfReason text (why.FaultIn source f) e = IsErrorOf source.now f e
IsErrorOfReason text (why.Resolver at words) e = e ≡ error.EntityResolver (position_at text at) words
