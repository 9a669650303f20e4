-- Elements that depend on no other part of their document's text.
use Rattle.std.specs.Prelude.{ℕ, Bool, not, ◌&&◌}
use Rattle.rox_grammar.specs.Exchange.{self_contained}
use Rattle.roxmltree.specs.DocumentView.{DocumentView}

-- Whether the text has no document type declaration, and so no entities, and the node of this id is a self-contained element.
abbrev pub stands_alone : DocumentView → ℕ → Bool
stands_alone document id = not document.dtd && self_contained document.tree id
