-- Documents without a document type declaration.
use Rattle.std.specs.Prelude.{◌≡◌, ℕ, true, List, [], length}
use Rattle.rox_grammar.specs.Forest.{Forest, join}
use Rattle.rox_grammar.specs.Written.{Item}
use Rattle.rox_grammar.specs.Content.{IsElement}
use Rattle.rox_grammar.specs.WellNamed.{AreWellNamed}
use Rattle.rox_grammar.specs.Entities.{most_within, no_entities}
use Rattle.rox_grammar.specs.Document.{Misc, PrologTo}

-- A parse of a text that has no document type declaration. No reference in its root element opens a replacement text.
pub record ParseWithout (src : List ℕ) (tree : Forest Item) : Type 0 where
  pub start : ℕ
  pub before : Forest Item
  pub prolog : PrologTo src start before
  pub end : ℕ
  pub openings_left : ℕ
  pub one : Forest Item
  pub element : IsElement true no_entities src start end most_within openings_left one
  pub after : Forest Item
  pub misc_after : Misc src end (length src) after
  pub is_tree : tree ≡ join before (join one after)
  pub well_named : AreWellNamed [] tree
