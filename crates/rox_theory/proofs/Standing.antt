-- What holds of a state all along: its names and its limits, and how they grow.
use Rattle.std.proofs.Common.{◌≡◌, ℕ, ◌+◌, ◌≤◌, List, [], ◌++◌, length, arith, append_assoc, append-nil}
use Rattle.rox_grammar.specs.Forest.{Forest, Nil, Cons, join, size}
use Rattle.rox_grammar.specs.Written.{Tag, Item, Element, NamespaceDecl}
use Rattle.rox_grammar.specs.Tree.{scope_in}
use Rattle.rox_grammar.specs.WellNamed.{ItemWellNamed, AreWellNamed}
use Rattle.rox_grammar.specs.Counts.{own_pairs, pairs, own_attributes, attribute_count, with_new, distinct_pairs}
use Rattle.rox_grammar.specs.State.{Open, root, inside, scope_of, nodes_so_far, attributes_so_far, pairs_so_far}
use Rattle.rox_grammar.proofs.PairLemmas.{with_new-more, with_new-append}
use Rattle.rox_reading.proofs.Forests.{size-join, merge-item, merge-more, pairs-join, attribute_count-join, named-join, named-left, named-right}
pub use Rattle.rox_theory.specs.ValidState.{AreNamed, IsValidState}

-- ---- pairs

-- More of them, one after the other.
pub distinct-append : (ds es : List NamespaceDecl) → distinct_pairs (ds ++ es) ≡ with_new (distinct_pairs ds) es
distinct-append ds es = with_new-append [] ds es

-- More pairs never make fewer.
pub distinct-grows : (ds es : List NamespaceDecl) → length (distinct_pairs ds) ≤ length (distinct_pairs (ds ++ es))
distinct-grows ds es = rw distinct-append (with_new-more (distinct_pairs ds) es)

-- ---- one more item, with what is below it

-- Its attributes are counted.
pub attributes-item : (stack : Open) (done : Forest Item) (item : Item) (kids : Forest Item)
    → attributes_so_far stack (join done (Cons item kids Nil)) ≡ attributes_so_far stack done + (own_attributes item + attribute_count kids)
attributes-item root done item kids = omega (arith, attribute_count-join done (Cons item kids Nil))
attributes-item (inside start tag before up) done item kids = omega (arith, attribute_count-join done (Cons item kids Nil))

-- Its pairs come last.
pub pairs-item : (stack : Open) (done : Forest Item) (item : Item) (kids : Forest Item)
    → pairs_so_far stack (join done (Cons item kids Nil)) ≡ pairs_so_far stack done ++ (own_pairs item ++ pairs kids)
pairs-item root done item kids = rw (pairs-join done (Cons item kids Nil)) (simp append-nil)
pairs-item (inside start tag before up) done item kids = rw (pairs-join done (Cons item kids Nil)) (simp (append-nil, append_assoc))

-- It keeps the names in order.
pub named-item : (stack : Open) (done : Forest Item) (item : Item) (kids : Forest Item)
    → AreNamed stack done → ItemWellNamed (scope_in (scope_of stack) item) item → AreWellNamed (scope_in (scope_of stack) item) kids → AreNamed stack (join done (Cons item kids Nil))
named-item root done item kids named own below = named-join [] done (Cons item kids Nil) named (own, below, tt)
named-item (inside start tag before up) done item kids named own below = grind (arith, named-join)

-- And they were in order before it.
pub item-named : (stack : Open) (done : Forest Item) (item : Item) (kids : Forest Item)
    → AreNamed stack (join done (Cons item kids Nil)) → AreNamed stack done × ItemWellNamed (scope_in (scope_of stack) item) item × AreWellNamed (scope_in (scope_of stack) item) kids
item-named root done item kids named = grind (arith, named-right, named-left)
item-named (inside start tag before up) done item kids named = grind (arith, named-right, named-left)

-- An element is one node more, and what is below it.
pub nodes-element : (stack : Open) (done : Forest Item) (start end : ℕ) (tag : Tag) (kids : Forest Item)
    → nodes_so_far stack (join done (Cons (Element start end tag) kids Nil)) ≡ nodes_so_far stack done + (1 + size kids)
nodes-element root done start end tag kids = grind (arith, merge-item, size-join)
nodes-element (inside a b before up) done start end tag kids = grind (arith, merge-item, size-join)

-- More items never make fewer nodes.
pub nodes-grow : (stack : Open) (done more : Forest Item) → nodes_so_far stack done ≤ nodes_so_far stack (join done more)
nodes-grow root done more = omega (arith, merge-more done more)
nodes-grow (inside start tag before up) done more = omega (arith, merge-more done more)
