-- How many levels a node has, by those of its children.
use Rattle.std.proofs.Common.{◌≡◌, ℕ, zero, suc, ◌+◌, ◌-◌, ◌<◌, ◌≤◌, List, [], ◌∷◌, map, max, fold, refl, ap, ◌∙◌, arith}
use Rattle.std.specs.List.{AllByRecursion}
use Rattle.std.proofs.lemmas.List.Elements.{recursion_from_All}
use Rattle.roxmltree.specs.DocumentView.{DocumentView}
use Rattle.roxmltree.specs.Forest.{size}
use Rattle.roxmltree.specs.LaterNodes.{IsLater}
use Rattle.roxmltree.specs.NodeRef.{node_refs}
use Rattle.roxmltree.specs.Places.{children}
use Rattle.roxmltree.proofs.LaterChildren.{children_later}
use Rattle.rox_uses.specs.Levels.{levels_within, levels_of}

-- the children of a node, as nodes after it
later : (d : DocumentView) (i : ℕ) → i < size d.tree → AllByRecursion (IsLater (d, i)) (node_refs d (children d.tree i))
later d i l = recursion_from_All (IsLater (d, i)) (node_refs d (children d.tree i)) (children_later d i l)

-- what is alike of each of them is alike of all
each : (d : DocumentView) (f g : ℕ → ℕ) (i : ℕ) (cs : List ℕ) → ((c : ℕ) → IsLater (d, i) (d, c) → f c ≡ g c) → AllByRecursion (IsLater (d, i)) (node_refs d cs) → map f cs ≡ map g cs
each d f g i [] same h = refl
each d f g i (c ∷ cs) same h = ap (λ l. l ∷ map f cs) (same c h.0) ∙ ap (λ ls. g c ∷ ls) (each d f g i cs same h.1)

-- levels are counted alike up to any two bounds that are large enough
alike : (d : DocumentView) (n m i : ℕ) → i < size d.tree → size d.tree - i ≤ n → size d.tree - i ≤ m → levels_within n d.tree i ≡ levels_within m d.tree i
alike d zero m i l a b = absurd (omega arith)
alike d (suc n) zero i l a b = absurd (omega arith)
alike d (suc n) (suc m) i l a b =
    ap (λ ls. 1 + fold max 0 ls)
    (each d (levels_within n d.tree) (levels_within m d.tree) i (children d.tree i)
    (λ c x. alike d n m c x.inside (omega (arith, x.fewer)) (omega (arith, x.fewer)))
    (later d i l))

-- so the children's are those of the nodes that they are
shown : (d : DocumentView) (cs : List ℕ) → map (levels_within (size d.tree) d.tree) cs ≡ map levels_of (node_refs d cs)
shown d [] = refl
shown d (c ∷ cs) = ap (λ ls. levels_of (d, c) ∷ ls) (shown d cs)

-- one more than the most that a child has
pub levels_are : (d : DocumentView) (i : ℕ) → i < size d.tree → levels_of (d, i) ≡ 1 + fold max 0 (map levels_of (node_refs d (children d.tree i)))
levels_are d i l =
    alike d (size d.tree) (suc (size d.tree)) i l (omega arith) (omega arith)
    ∙ ap (λ ls. 1 + fold max 0 ls) (shown d (children d.tree i))
