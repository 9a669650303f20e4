-- The lines that are printed of the elements that a path reaches.
use Rattle.std.specs.Prelude.{◌≡◌, ℕ, Bool, List, [], ◌∷◌, ◌++◌, Option, None, Ok, unwrap_or, codes, flat_map}
use Rattle.std.specs.Fmt.{decimal}
use Rattle.std.specs.Io.KnownBytes.{Appends}
use Rattle.roxmltree.specs.Tree.{Node}
use Rattle.roxmltree.specs.Document.{IsTreeOf, Permits}
use Rattle.roxmltree.specs.Doctype.{Asked}
use Rattle.roxmltree.specs.Requests.{AreAllowed}
use Rattle.roxmltree.specs.DocumentView.{DocumentView}
use Rattle.roxmltree.specs.NodeRef.{node_refs}
use Rattle.roxmltree.specs.NodeParts.{node_at, start_of, end_of, local_of, namespace_of}
use Rattle.rox_path.specs.Steps.{PathStep}
use Rattle.rox_path.specs.Match.{Selects}

-- A range in bytes.
abbrev pub range_text : (start end : ℕ) → List ℕ
range_text start end = decimal start ++ (codes ".." ++ decimal end)

-- `@` and a URI, or nothing for an empty one.
abbrev pub at_uri : List ℕ → List ℕ
at_uri [] = []
at_uri (b ∷ bs) = codes "@" ++ (b ∷ bs)

-- A name at the end of a line.
abbrev pub name_line : List ℕ → Option (List ℕ) → List ℕ
name_line local namespace = local ++ (at_uri (unwrap_or namespace []) ++ codes "\n")

-- The line of an element: its range and its name.
abbrev pub element_line : Node → List ℕ
element_line n = range_text (start_of n) (end_of n) ++ (codes " " ++ name_line (local_of n) (namespace_of n))

-- The line of the node with this id.
abbrev pub reached_line : DocumentView × ℕ → List ℕ
reached_line r = element_line (node_at r.0.tree r.1)

-- The writer holds a line more for each node that the steps reach from the root node, in document order, where it is known what it
-- holds.
pub record PrintsReached (document : DocumentView) (steps : List PathStep) (old new : Option (List ℕ)) : Type 0 where
  pub ids : List ℕ
  pub selects : Selects document.tree 0 steps ids
  pub lines : Appends old new (flat_map reached_line (node_refs document ids))

-- The text has a parse, in which no resolver gives a text for an external entity. The writer holds the lines that its tree has for
-- the steps.
pub record PrintsPath (allow_dtd : Bool) (text : List ℕ) (steps : List PathStep) (old new : Option (List ℕ)) : Type 0 where
  pub document : DocumentView
  pub asked : List Asked
  pub alone : AreAllowed (λ request reply. reply ≡ Ok None) asked
  pub permits : Permits allow_dtd document.dtd
  pub parsed : IsTreeOf text document.dtd asked 4294967295 document.tree
  pub prints : PrintsReached document steps old new
