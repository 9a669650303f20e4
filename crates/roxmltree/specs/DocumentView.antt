-- What callers see of a document: its tree, its text, whether the text has a document type declaration, and the key by which its
-- nodes are compared.
use Rattle.std.specs.Prelude.{ℕ, Bool, List}
use Rattle.rox_grammar.specs.Forest.{Forest}
use Rattle.rox_grammar.specs.Tree.{Node}

-- A document as callers see it.
pub record DocumentView : Type 0 where
  pub tree : Forest Node
  pub text : List ℕ
  pub key : ℕ
  -- Whether there is a document type declaration (XML 2.8 [28]).
  pub dtd : Bool
