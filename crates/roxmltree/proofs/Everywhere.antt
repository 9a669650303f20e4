-- What is true of each node of a tree is true of the node of each id.
use Rattle.std.proofs.Common.{ℕ, ◌+◌, List, [], ◌∷◌, ◌++◌, arith, All}
use Rattle.std.proofs.lemmas.List.{get_or_past}
use Rattle.std.proofs.lemmas.List.Elements.{All-nil, All-cons, All-append}
use Rattle.rox_grammar.specs.Forest.{Forest, Nil, Cons, size}
use Rattle.rox_grammar.specs.Tree.{Node, Root}
use Rattle.roxmltree.specs.Places.{Place, place_at, places, preorder, place}
use Rattle.roxmltree.specs.NodeParts.{node_at}
use Rattle.roxmltree.specs.EachNode.{EachNode}

all_places : (P : Node → Type 0) (up left : List ℕ) (b : ℕ) (f : Forest Node) → EachNode P f → All (λ (p : Place). P p.item) (places up left b f)
all_places P up left b Nil h = All-nil (λ (p : Place). P p.item)
all_places P up left b (Cons x c r) h =
    All-cons (λ (p : Place). P p.item) (place_at up left b x c r) (places (b ∷ up) [] (b + 1) c ++ places up (b ∷ left) (b + (1 + size c)) r) h.0
    (All-append (λ (p : Place). P p.item) (places (b ∷ up) [] (b + 1) c) (places up (b ∷ left) (b + (1 + size c)) r)
    (all_places P (b ∷ up) [] (b + 1) c h.1) (all_places P up (b ∷ left) (b + (1 + size c)) r h.2))

-- an id that no node has stands for a root node
pub at_each : (P : Node → Type 0) (f : Forest Node) → EachNode P f → P (Root 0) → (id : ℕ) → P (node_at f id)
unfolding place preorder
at_each P f h none id = grind (arith, all_places, get_or_past)
