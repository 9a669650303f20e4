-- What holds of each item of a row.
use Rattle.std.proofs.Common.{ℕ, Bool, List, arith}
use Rattle.rox_grammar.specs.Forest.{Forest, Nil, Cons, join}
use Rattle.rox_grammar.specs.Written.{NamespaceDecl, Item, Element, Text, Comment, PI, glue, merge}
use Rattle.rox_grammar.specs.Tree.{Node, scope_in, node_in, resolved}
use Rattle.roxmltree.specs.EachNode.{EachNode}

-- also holds of two rows together
pub each_join : {I : Type 0} (P : I → Type 0) (f g : Forest I) → EachNode P f → EachNode P g → EachNode P (join f g)
each_join P Nil g h k = k
each_join P (Cons i c r) g h k = (h.0, h.1, each_join P r g h.2 k)

-- what holds of each text stays where texts are merged
glue_each : (P : Item → Type 0) → ((a e : ℕ) (v : List ℕ) (b : Bool) → P (Text a e v b)) → (a e : ℕ) (v : List ℕ) (b : Bool) (c f : Forest Item) → EachNode P c → EachNode P f
    → EachNode P (glue (Text a e v b) c f)
glue_each P texts a e v b c f h k = grind (arith, each_join)

pub each_merge : (P : Item → Type 0) → ((a e : ℕ) (v : List ℕ) (b : Bool) → P (Text a e v b)) → (f : Forest Item) → EachNode P f → EachNode P (merge f)
each_merge P texts Nil h = h
each_merge P texts (Cons (Text a e v b) c r) h = glue_each P texts a e v b c (merge r) h.1 (each_merge P texts r h.2)
each_merge P texts (Cons (Element a e t) c r) h = (h.0, h.1, each_merge P texts r h.2)
each_merge P texts (Cons (Comment a e t) c r) h = (h.0, h.1, each_merge P texts r h.2)
each_merge P texts (Cons (PI a e t o) c r) h = (h.0, h.1, each_merge P texts r h.2)

-- what an item's node has of the item, each node has where names are resolved
pub each_resolved : (P : Item → Type 0) (Q : Node → Type 0) → ((scope : List NamespaceDecl) (item : Item) → P item → Q (node_in scope item))
    → (above : List NamespaceDecl) (f : Forest Item) → EachNode P f → EachNode Q (resolved above f)
each_resolved P Q has above Nil h = tt
each_resolved P Q has above (Cons item c r) h = grind (arith, each_resolved P Q has (scope_in above item) c h.1, each_resolved P Q has above r h.2)
