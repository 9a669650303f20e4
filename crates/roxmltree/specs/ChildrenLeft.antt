-- What `Children` has left.
use Rattle.std.specs.Prelude.{◌≡◌, ℕ, zero, suc, ◌+◌, ◌-◌, ◌<◌, ◌≤◌, List, [], Some}
use Rattle.rox_grammar.specs.Forest.{Forest, size}
use Rattle.rox_grammar.specs.Tree as grammar
use Rattle.roxmltree.specs.DocumentView.{DocumentView}
use Rattle.roxmltree.specs.Places.{place, parent}
use Rattle.roxmltree.specs.Climbing.{up_to}
use Rattle.roxmltree.specs.NodeRef.{node_refs}
use Rattle.roxmltree.specs.SiblingRange.{siblings_through, IsSiblingRange}
use Rattle.roxmltree.specs.declared.iterators.Children.TheInside.{Inside}

-- The list, or the empty list if the number is 0.
abbrev pub if_some : ℕ → List ℕ → List ℕ
if_some zero ids = []
if_some (suc n) ids = ids

-- The child of `node` whose subtree has the id `until - 1`.
abbrev pub last_before : Forest grammar.Node → ℕ → ℕ → ℕ
last_before tree until node = up_to tree (until - 1) node

-- The children of `node` from `from` up to `last_before`, both included, or none if `from` is not before `until`.
abbrev pub between : Forest grammar.Node → (from until node : ℕ) → List ℕ
between tree from until node = if_some (until - from) (siblings_through tree from (last_before tree until node))

-- The last of these children is `from` or a sibling after it, and its descendants end right before the id `until`.
pub record IsStretch (tree : Forest grammar.Node) (from until node : ℕ) : Type 0 where
  pub inside : from < size tree
  pub is_run : IsSiblingRange tree from (last_before tree until node)
  pub last_inside : last_before tree until node < size tree
  pub ends : last_before tree until node + (place tree (last_before tree until node)).count ≡ until
  pub is_child : parent tree (last_before tree until node) ≡ Some node

abbrev pub left : Inside → List (DocumentView × ℕ)
left c = node_refs c.document.now (between c.document.now.tree c.from.0 c.until.0 c.parent.0)

pub record IsChildrenStretch (c : Inside) : Type 0 where
  pub stretch : c.from.0 < c.until.0 → IsStretch c.document.now.tree c.from.0 c.until.0 c.parent.0
  pub fits : c.until.0 ≤ size c.document.now.tree
