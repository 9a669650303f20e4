-- The nodes of a tree say as much as the items that they are of.
use Rattle.std.proofs.Common.{◌≡◌, ◌≤◌, ℕ, Bool, List, [], ◌∷◌, length, map, refl, arith}
use Rattle.std.specs.Prelude.{max, sum_by, Option, Some, Ok, IfSome}
use Rattle.std.proofs.lemmas.Nat.{mul-le}
use Rattle.std.proofs.lemmas.List.{length-map}
use Rattle.std.proofs.lemmas.List.Sums.{sum_by-cons}
use Rattle.rox_grammar.specs.Forest.{Forest, Nil, Cons}
use Rattle.rox_grammar.specs.Written as written
use Rattle.rox_grammar.specs.Written.{NamespaceDecl, Item}
use Rattle.rox_grammar.specs.Tree.{Attribute, Node, attribute_in, scope_in, node_in, resolved, document_tree}
use Rattle.rox_grammar.specs.Doctype.{Request, Asked}
use Rattle.rox_grammar.specs.Document.{ParseOf}
use Rattle.rox_grammar.specs.Counts.{own_attributes, attribute_count}
use Rattle.rox_grammar.specs.Expansion.{longest}
use Rattle.rox_theory.specs.ItemSize.{value_bytes_of, own_bytes, bytes_in}
use Rattle.roxmltree.specs.NodeParts.{attributes_of}
use Rattle.rox_reading.proofs.Forests.{size-resolved}
use Rattle.rox_theory.specs.Answers.{AreShort}
use Rattle.rox_theory.proofs.Bound.{is_bounded}
use Rattle.rox_theory.proofs.Longest.{parse_short}
use Rattle.roxmltree.specs.Requests.{Reply, AreAllowed}
use Rattle.rox_laws.specs.TreeSize.{bytes_of, all_bytes, all_attributes, IsTreeBounded}

values_same : (scope : List NamespaceDecl) (as' : List written.Attribute) → sum_by (λ (a : Attribute). length a.value) (map (attribute_in scope) as') ≡ value_bytes_of as'
values_same scope [] = refl
values_same scope (a ∷ as') = omega (arith, sum_by-cons (λ (b : Attribute). length b.value) (attribute_in scope a) (map (attribute_in scope) as'), values_same scope as')

bytes_same : (scope : List NamespaceDecl) (item : Item) → bytes_of (node_in scope item) ≡ own_bytes item
bytes_same scope item = grind (arith, values_same)

count_same : (scope : List NamespaceDecl) (item : Item) → length (attributes_of (node_in scope item)) ≡ own_attributes item
count_same scope item = grind (arith, length-map)

all_bytes_same : (above : List NamespaceDecl) (f : Forest Item) → all_bytes (resolved above f) ≡ bytes_in f
all_bytes_same above Nil = refl
all_bytes_same above (Cons item c r) = omega (arith, bytes_same (scope_in above item) item, all_bytes_same (scope_in above item) c, all_bytes_same above r)

all_attributes_same : (above : List NamespaceDecl) (f : Forest Item) → all_attributes (resolved above f) ≡ attribute_count f
all_attributes_same above Nil = refl
all_attributes_same above (Cons item c r) = omega (arith, count_same (scope_in above item) item, all_attributes_same (scope_in above item) c, all_attributes_same above r)

-- the tree of a parse is bounded by its longest replacement text
pub tree_bounded : (src : List ℕ) (dtd : Bool) (asked : List Asked) (tops : Forest Item) (p : ParseOf src dtd asked tops) → IsTreeBounded src (longest p.entities) (document_tree (length src) tops)
tree_bounded src dtd asked tops p = grind (arith, is_bounded src dtd asked tops p, all_bytes_same, all_attributes_same, size-resolved)

-- and so by more
bounded_more : (src : List ℕ) (n m : ℕ) (tree : Forest Node) → n ≤ m → IsTreeBounded src n tree → IsTreeBounded src m tree
bounded_more src n m tree le b = grind (arith, mul-le)

-- where answers are short
pub tree_short : (src : List ℕ) (dtd : Bool) (asked : List Asked) (tops : Forest Item) (most : ℕ) → ParseOf src dtd asked tops → AreShort most asked → IsTreeBounded src (max (length src) most) (document_tree (length src) tops)
tree_short src dtd asked tops most p h =
    bounded_more src (longest p.entities) (max (length src) most) (document_tree (length src) tops) (parse_short src dtd asked tops p most h) (tree_bounded src dtd asked tops p)

-- what is allowed is short where all that may be allowed is
module _ (allows : Request → Reply → Type 0) (most : ℕ) (bound : (request : Request) (answer : List ℕ) → allows request (Ok (Some answer)) → length answer ≤ most) where
  answer_short : (request : Request) (answer : Option (List ℕ)) → allows request (Ok answer) → IfSome answer (λ text. length text ≤ most)
  answer_short request answer h = grind arith

  pub allowed_short : (asked : List Asked) → AreAllowed allows asked → AreShort most asked
  allowed_short [] h = tt
  allowed_short (a ∷ as') h = (answer_short a.request a.answer h.0, allowed_short as' h.1)
