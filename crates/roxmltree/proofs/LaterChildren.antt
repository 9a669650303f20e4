-- Children come after their parent, and subtrees are made of those of the children.
use Rattle.std.proofs.Common.{◌≡◌, ℕ, ◌+◌, ◌<◌, ◌≤◌, sym, subst, arith}
use Rattle.std.specs.Prelude.{All}
use Rattle.std.specs.List.{AllByRecursion}
use Rattle.std.proofs.lemmas.List.Elements.{All-from_recursion}
use Rattle.rox_grammar.specs.Forest.{Forest, Nil, Cons, size}
use Rattle.rox_grammar.specs.Tree.{Node}
use Rattle.roxmltree.specs.DocumentView.{DocumentView}
use Rattle.roxmltree.specs.NodeRef.{node_refs}
use Rattle.roxmltree.specs.Places.{ids, Place, place, children}
use Rattle.roxmltree.specs.ChildrenLeft.{between}
use Rattle.roxmltree.specs.LaterNodes.{IsLater}
use Rattle.roxmltree.proofs.Preorder.{here, length-preorder, place_is}
use Rattle.roxmltree.proofs.Stretches.{children_left}

later_ids : (d : DocumentView) (i b : ℕ) (f : Forest Node) → i < b → b + size f ≤ size d.tree → AllByRecursion (IsLater (d, i)) (node_refs d (ids b f))
later_ids d i b Nil l m = tt
later_ids d i b (Cons item below rest) l m = grind (arith, later_ids d i (b + (1 + size below)) rest (omega arith) (omega arith))

-- the children of a node come after it
pub children_later : (d : DocumentView) (i : ℕ) → i < size d.tree → All (IsLater (d, i)) (node_refs d (children d.tree i))
children_later d i l =
    let h = here d.tree i l in
    let later = later_ids d i (i + 1) h.below (omega arith) (omega (arith, h.ends, length-preorder d.tree)) in
    All-from_recursion (IsLater (d, i)) (node_refs d (children d.tree i))
    (subst (λ (p : Place). AllByRecursion (IsLater (d, i)) (node_refs d p.children)) (sym (place_is d.tree i h)) later)

-- and so does what `children` has left at first
pub left_later : (d : DocumentView) (i a u h : ℕ) → i < size d.tree → a ≡ i + 1 → u ≡ i + (place d.tree i).count → h ≡ i → All (IsLater (d, i)) (node_refs d (between d.tree a u h))
left_later d i a u h l ea eu eh = grind (arith, children_left, children_later)
