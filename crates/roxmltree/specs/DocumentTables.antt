-- The tree that a document's tables hold.
use Rattle.std.specs.Prelude.{ℕ, ◌+◌, ◌-◌, Bool, List, [], ◌∷◌, IsUtf8}
use Rattle.rox_grammar.specs.Forest.{Forest}
use Rattle.rox_grammar.specs.Tree.{Node}
use Rattle.rox_grammar.specs.Doctype.{Asked}
use Rattle.rox_grammar.specs.Document.{IsTreeOf}
use Rattle.rox_rows.specs.Rows.{RowView}
use Rattle.rox_names.specs.Tables.{row_views, HoldsTree}
use Rattle.rox_names.specs.declared.tables.Tables.{Tables}
use Rattle.roxmltree.specs.TreeCodes.{unflattened}
use Rattle.roxmltree.specs.DocumentView.{DocumentView}
use Rattle.roxmltree.specs.declared.tree.Document.TheInside.{Inside}

-- The node of each row, and how many descendants it has. The first row has the id `id`.
abbrev pub nodes_from : ℕ → List RowView → List (ℕ × Node)
nodes_from id [] = []
nodes_from id (row ∷ rows) = (row.subtree_end - (id + 1), row.node) ∷ nodes_from (id + 1) rows

-- The tree that the tables hold.
abbrev pub tree_in : Tables → Forest Node
tree_in t = unflattened (nodes_from 0 (row_views t))

-- The tables hold the tree of a parse of the text, with some answers for its external entities.
pub record HoldsDocument (text : List ℕ) (dtd : Bool) (t : Tables) : Type 0 where
  pub tree : Forest Node
  pub holds : HoldsTree t tree
  pub asked : List Asked
  pub parsed : IsTreeOf text dtd asked 4294967295 tree
  pub utf8 : IsUtf8 text

-- The tables hold the tree `tree_in`, which is that of a parse of the text, with some answers for its external entities.
pub record IsWhole (text : List ℕ) (dtd : Bool) (t : Tables) : Type 0 where
  pub holds : HoldsTree t (tree_in t)
  pub asked : List Asked
  pub parsed : IsTreeOf text dtd asked 4294967295 (tree_in t)
  pub utf8 : IsUtf8 text

-- What callers see of a document, whose tree is that of its tables.
abbrev pub document_view : Inside → DocumentView
document_view d = record { tree = tree_in d.tables; text = d.text.now; key = d.key; dtd = d.dtd }

-- The tables of a document hold the tree of its text.
abbrev pub IsDocumentOf : Inside → Type 0
IsDocumentOf d = IsWhole d.text.now d.dtd d.tables
