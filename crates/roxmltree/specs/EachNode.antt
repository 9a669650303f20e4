-- A property of each node of a tree.
use Rattle.rox_grammar.specs.Forest.{Forest, Nil, Cons}

-- `P` holds of each item, at any depth.
abbrev pub EachNode : {I : Type 0} → (I → Type 0) → Forest I → Type 0
EachNode P Nil = Unit {0}
EachNode P (Cons item children rest) = P item × EachNode P children × EachNode P rest
