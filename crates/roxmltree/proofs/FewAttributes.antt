-- How many attributes an element has: no more than its document may have.
use Rattle.std.proofs.Common.{Bool, ℕ, ◌^◌, ◌<◌, ◌≤◌, List, length, arith}
use Rattle.std.proofs.lemmas.List.{length-map}
use Rattle.rox_grammar.specs.Forest.{Forest, Nil, Cons}
use Rattle.rox_grammar.specs.Written as written
use Rattle.rox_grammar.specs.Written.{NamespaceDecl, Item}
use Rattle.rox_grammar.specs.Tree.{Node, attribute_in, listed, resolved}
use Rattle.rox_grammar.specs.Doctype.{Asked}
use Rattle.rox_grammar.specs.Document.{most_attributes, IsTreeOf}
use Rattle.rox_grammar.specs.Counts.{attribute_count}
use Rattle.roxmltree.specs.NodeParts.{node_at, attributes_of}
use Rattle.roxmltree.specs.EachNode.{EachNode}
use Rattle.roxmltree.proofs.Everywhere.{at_each}

-- it has no more than these
abbrev HasFew : ℕ → Node → Type 0
HasFew most node = length (attributes_of node) ≤ most

few_resolved : (most : ℕ) (above : List NamespaceDecl) (f : Forest Item) → attribute_count f ≤ most → EachNode (HasFew most) (resolved above f)
few_resolved most above Nil h = tt
few_resolved most above (Cons (written.Element a e t) c r) h =
    let scope = listed above t.declarations in
    (omega (arith, length-map t.attributes (attribute_in scope)), few_resolved most scope c (omega arith), few_resolved most above r (omega arith))
few_resolved most above (Cons (written.Text a e v b) c r) h = (omega arith, few_resolved most above c (omega arith), few_resolved most above r (omega arith))
few_resolved most above (Cons (written.Comment a e t) c r) h = (omega arith, few_resolved most above c (omega arith), few_resolved most above r (omega arith))
few_resolved most above (Cons (written.PI a e t o) c r) h = (omega arith, few_resolved most above c (omega arith), few_resolved most above r (omega arith))

-- in a document
pub few_attributes : {dtd : Bool} {asked : List Asked} (src : List ℕ) (limit : ℕ) (tree : Forest Node) (id : ℕ) → IsTreeOf src dtd asked limit tree → length (attributes_of (node_at tree id)) < 2 ^ 32
few_attributes src limit tree id is =
    let here : HasFew most_attributes (node_at tree id) = at_each (HasFew most_attributes) tree (grind (arith, few_resolved)) (omega arith) id in
    omega (arith, here)
