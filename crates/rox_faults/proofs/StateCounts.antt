-- What is counted of the tree so far is what reading has counted.
use Rattle.std.proofs.Common.{◌≡◌, ℕ, ◌+◌, ◌<◌, ◌≤◌, List, ◌++◌, length, refl, arith}
use Rattle.rox_grammar.specs.Forest.{Forest, Nil, Cons, join, size}
use Rattle.rox_grammar.specs.Written.{NamespaceDecl, Item, Element, merge}
use Rattle.rox_grammar.specs.Document.{attributes_in, pairs_in, distinct_count, most_attributes, most_pairs}
use Rattle.rox_grammar.specs.Counts.{pairs, with_new, distinct_pairs, attribute_count}
use Rattle.rox_grammar.specs.Tree.{listable_of}
use Rattle.rox_grammar.proofs.CountForms.{distinct_same}
use Rattle.rox_grammar.specs.OpenElements.{Open, root, inside, tree_so_far, FitsLimits, HasTooManyNodes}
use Rattle.rox_grammar.specs.State.{nodes_so_far, attributes_so_far, pairs_so_far}
use Rattle.rox_reading.proofs.Forests.{pairs-merge, attribute_count-merge}
use Rattle.rox_theory.proofs.Standing.{distinct-append, attributes-item, pairs-item, nodes-element}

pub nodes_are : (stack : Open) (done : Forest Item) → 1 + size (tree_so_far stack done) ≡ nodes_so_far stack done
nodes_are root done = refl
nodes_are (inside start tag before up) done = grind (arith, nodes_are up (join before (Cons (Element start start tag) (merge done) Nil)), nodes-element)

counts_are : (stack : Open) (done : Forest Item) → attribute_count (tree_so_far stack done) ≡ attributes_so_far stack done
counts_are root done = attribute_count-merge done
counts_are (inside start tag before up) done = grind (arith, counts_are up (join before (Cons (Element start start tag) (merge done) Nil)), attributes-item, attribute_count-merge)

pub attributes_are : (stack : Open) (done : Forest Item) → attributes_in (tree_so_far stack done) ≡ attributes_so_far stack done
attributes_are stack done = counts_are stack done

pub pairs_are : (stack : Open) (done : Forest Item) → pairs (tree_so_far stack done) ≡ pairs_so_far stack done
pairs_are root done = pairs-merge done
pairs_are (inside start tag before up) done = grind (arith, pairs_are up (join before (Cons (Element start start tag) (merge done) Nil)), pairs-item, pairs-merge)

-- The attributes and the pairs are within their limits.
abbrev pub AreFew : Open → Forest Item → Type 0
AreFew stack done = (attributes_so_far stack done ≤ most_attributes) × (length (distinct_pairs (pairs_so_far stack done)) ≤ most_pairs)

-- The pairs of the tree so far, and those of a tag.
with_tag : (stack : Open) (done : Forest Item) (own : List NamespaceDecl) → distinct_count (pairs_in (tree_so_far stack done) ++ own) ≡ length (with_new (distinct_pairs (pairs_so_far stack done)) own)
with_tag stack done own = grind (arith, distinct_same, pairs_are, distinct-append)

pub distinct_are : (stack : Open) (done : Forest Item) → distinct_count (pairs_in (tree_so_far stack done)) ≡ length (distinct_pairs (pairs_so_far stack done))
distinct_are stack done = grind (arith, distinct_same, pairs_are)

pub fits_few : (limit : ℕ) (stack : Open) (done : Forest Item) → FitsLimits limit stack done → AreFew stack done
fits_few limit stack done fits = (omega (arith, fits.attributes, attributes_are stack done), omega (arith, fits.namespaces, distinct_are stack done))

pub too_many_there : (limit : ℕ) (stack : Open) (done : Forest Item) → AreFew stack done → limit < nodes_so_far stack done → HasTooManyNodes limit (tree_so_far stack done)
too_many_there limit stack done few over = grind (arith, attributes_are, distinct_are, nodes_are)

pub too_many_counted : (limit : ℕ) (stack : Open) (done : Forest Item) → HasTooManyNodes limit (tree_so_far stack done) → limit < nodes_so_far stack done
too_many_counted limit stack done over = omega (arith, over.2, nodes_are stack done)

-- With the declarations of a tag.
pub pairs_there : (stack : Open) (done : Forest Item) (ds : List NamespaceDecl) → length (with_new (distinct_pairs (pairs_so_far stack done)) (listable_of ds)) ≤ most_pairs
    → distinct_count (pairs_in (tree_so_far stack done) ++ listable_of ds) ≤ most_pairs
pairs_there stack done ds few = omega (arith, few, with_tag stack done (listable_of ds))

pub pairs_counted : (stack : Open) (done : Forest Item) (ds : List NamespaceDecl) → distinct_count (pairs_in (tree_so_far stack done) ++ listable_of ds) ≤ most_pairs
    → length (with_new (distinct_pairs (pairs_so_far stack done)) (listable_of ds)) ≤ most_pairs
pairs_counted stack done ds few = omega (arith, few, with_tag stack done (listable_of ds))

pub more_pairs_there : (stack : Open) (done : Forest Item) (ds : List NamespaceDecl) → most_pairs < length (with_new (distinct_pairs (pairs_so_far stack done)) (listable_of ds))
    → most_pairs < distinct_count (pairs_in (tree_so_far stack done) ++ listable_of ds)
more_pairs_there stack done ds over = omega (arith, over, with_tag stack done (listable_of ds))

pub more_pairs_counted : (stack : Open) (done : Forest Item) (ds : List NamespaceDecl) → most_pairs < distinct_count (pairs_in (tree_so_far stack done) ++ listable_of ds)
    → most_pairs < length (with_new (distinct_pairs (pairs_so_far stack done)) (listable_of ds))
more_pairs_counted stack done ds over = omega (arith, over, with_tag stack done (listable_of ds))
