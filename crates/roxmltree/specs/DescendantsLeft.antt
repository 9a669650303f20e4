-- What `Descendants` has left.
use Rattle.std.specs.Prelude.{◌≡◌, ℕ, ◌+◌, ◌≤◌, List, length, slice_range}
use Rattle.std.specs.List.{range_with_len}
use Rattle.rox_grammar.specs.Forest.{size}
use Rattle.rox_names.specs.Tables.{HoldsTree}
use Rattle.roxmltree.specs.DocumentView.{DocumentView}
use Rattle.roxmltree.specs.NodeRef.{node_refs}
use Rattle.roxmltree.specs.declared.iterators.Descendants.TheInside.{Inside}

abbrev pub in_range : Inside → List (DocumentView × ℕ)
in_range d = node_refs d.document.now (range_with_len d.from.0 (length d.rest.now))

-- The rows that are left are those of the nodes that are left.
pub record IsRange (d : Inside) : Type 0 where
  pub within : d.from.0 + length d.rest.now ≤ size d.document.now.tree
  pub holds : HoldsTree d.tables.now d.document.now.tree
  pub rows : d.rest.now ≡ slice_range d.tables.now.nodes.rows.items d.from.0 (d.from.0 + length d.rest.now)
