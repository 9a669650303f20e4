-- One step of content, in the main text or in a replacement text: it is one construct of the grammar.
use Rattle.std.proofs.Common.{◌≡◌, ℕ, ◌+◌, ◌≤◌, Bool, true, false, refl, ap, ◌∙◌, arith, append-nil}
use Rattle.std.proofs.lemmas.Bool.{and_from}
use Rattle.std.proofs.lemmas.Slice.Eq.{bytes_eq-Decides}
use Rattle.rox_grammar.specs.Forest.{Forest, Nil, Cons, join}
use Rattle.rox_grammar.specs.Written.{Name, Tag, Item, Element, merge, leaf}
use Rattle.rox_grammar.specs.NameParts.{same_qname}
use Rattle.rox_grammar.specs.State.{Open, inside, nodes_so_far, pairs_so_far}
use Rattle.rox_reading.specs.State.{State}
use Rattle.rox_reading.proofs.Forests.{attribute_count-merge, pairs-merge, named-merge, merge-named}
use Rattle.rox_theory.proofs.Standing.{IsValidState, distinct-append, distinct-grows, attributes-item, pairs-item, named-item, item-named, nodes-element, nodes-grow}
use Rattle.rox_theory.proofs.Leaves.{state, with_leaf, Adds}

-- After a start tag up to j, by whether the element is empty.
abbrev pub after : State → ℕ → Tag → Bool → ℕ → State
after s j t true openings_left = state j (join s.done (leaf (Element s.at j t))) s.stack openings_left
after s j t false openings_left = state j Nil (inside s.at t s.done s.stack) openings_left

-- After an end tag up to j.
abbrev pub closed : ℕ → Forest Item → ℕ → Tag → Forest Item → Open → ℕ → State
closed j done start tag before up openings_left = state j (join before (Cons (Element start j tag) (merge done) Nil)) up openings_left

-- And what is fine with it was fine before.
pub fine_leaf : (limit : ℕ) (s : State) (j : ℕ) (item : Item) → IsValidState limit (with_leaf s j item) → IsValidState limit s × Adds s item
fine_leaf limit s j item fine = grind (arith, pairs-item, append-nil, item-named, attributes-item, nodes-grow, distinct-grows, distinct-append)

-- So does a start tag.
pub opened_fine : (limit : ℕ) (s : State) (j : ℕ) (tag : Tag) (end openings_left : ℕ) → IsValidState limit s → Adds s (Element s.at end tag) → nodes_so_far s.stack s.done + 1 ≤ limit → IsValidState limit (after s j tag false openings_left)
opened_fine limit s j tag end openings_left fine adds nodes = grind (arith, append-nil, distinct-append)

-- And what is fine after it was fine before.
pub fine_opened : (limit : ℕ) (s : State) (j : ℕ) (tag : Tag) (end openings_left : ℕ) → IsValidState limit (after s j tag false openings_left) → IsValidState limit s × Adds s (Element s.at end tag)
fine_opened limit s j tag end openings_left fine = grind (arith, append-nil, distinct-grows, distinct-append)

-- An end tag leaves the pairs as they are.
closed_pairs : (j : ℕ) (done : Forest Item) (start : ℕ) (tag : Tag) (before : Forest Item) (up : Open)
    → pairs_so_far up (join before (Cons (Element start j tag) (merge done) Nil)) ≡ pairs_so_far (inside start tag before up) done
closed_pairs j done start tag before up = pairs-item up before (Element start j tag) (merge done) ∙ rw (pairs-merge done) refl

-- An end tag keeps a state fine.
pub closed_fine : (limit i j openings_left : ℕ) (done : Forest Item) (start : ℕ) (tag : Tag) (before : Forest Item) (up : Open)
    → IsValidState limit (state i done (inside start tag before up) openings_left) → IsValidState limit (closed j done start tag before up openings_left)
closed_fine limit i j openings_left done start tag before up fine = grind (arith, nodes-element, attributes-item, attribute_count-merge, closed_pairs, named-item, named-merge)

-- And what is fine after it was fine before.
pub fine_closed : (limit i j openings_left : ℕ) (done : Forest Item) (start : ℕ) (tag : Tag) (before : Forest Item) (up : Open)
    → IsValidState limit (closed j done start tag before up openings_left) → IsValidState limit (state i done (inside start tag before up) openings_left)
fine_closed limit i j openings_left done start tag before up fine = grind (arith, item-named, nodes-element, attributes-item, attribute_count-merge, closed_pairs, merge-named)

-- Names that agree byte by byte are one.
pub same_names : (m n : Name) → same_qname m n ≡ true → m ≡ n
same_names m n h = grind (arith, bytes_eq-Decides)

-- And one name agrees with itself.
pub names_same : (m n : Name) → m ≡ n → same_qname m n ≡ true
names_same m n h = and_from _ _ ((bytes_eq-Decides m.prefix n.prefix).1 (ap (λ (x : Name). x.prefix) h)) ((bytes_eq-Decides m.local n.local).1 (ap (λ (x : Name). x.local) h))
