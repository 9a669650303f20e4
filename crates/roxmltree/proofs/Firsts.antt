-- The nodes with no sibling before them: the root, and first children.
use Rattle.std.proofs.Common.{◌≡◌, ℕ, ◌+◌, ◌<◌, ◌≤◌, Some, None, refl, arith}
use Rattle.rox_grammar.specs.Forest.{Forest, size}
use Rattle.rox_grammar.specs.Tree.{Node}
use Rattle.roxmltree.specs.Places.{parent, prev_sibling}
use Rattle.roxmltree.proofs.Preorder.{parent_is, prev_sibling_root, prev_sibling_none}
use Rattle.roxmltree.proofs.Siblings.{above_holds}

-- A parent has a lesser id.
parent_before : (f : Forest Node) (i p : ℕ) → i < size f → parent f i ≡ Some p → p < i
parent_before f i p l e =
    (above_holds f p i l (rw (parent_is f i p l e).1 (0, omega arith, refl))).0

-- Such a node has no parent, or its parent is right before it.
pub no_sibling_before : (f : Forest Node) (i p : ℕ) → i < size f → (0 < i → parent f i ≡ Some p) → i ≤ p + 1 → prev_sibling f i ≡ None
no_sibling_before f i p l h m = grind (arith, prev_sibling_root, parent_before, prev_sibling_none)
