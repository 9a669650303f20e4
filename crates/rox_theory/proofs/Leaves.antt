-- One more item without children, and its limits.
use Rattle.std.proofs.Common.{◌≡◌, ℕ, ◌+◌, ◌≤◌, nat_le, [], length, Ok, refl, sym, subst, arith, le-leb, leb-true, append_assoc, append-nil}
use Rattle.rox_grammar.specs.Forest.{Forest, join}
use Rattle.rox_grammar.specs.Written.{Item, leaf}
use Rattle.rox_grammar.specs.Tree.{scope_in, listed}
use Rattle.rox_grammar.specs.WellNamed.{ItemWellNamed}
use Rattle.rox_grammar.specs.Document.{most_attributes, most_pairs}
use Rattle.rox_grammar.specs.Counts.{pairs, own_pairs, own_attributes, with_new, distinct_pairs}
use Rattle.rox_grammar.specs.State.{Open, root, inside, scope_of, nodes_so_far, attributes_so_far, pairs_so_far}
use Rattle.rox_reading.specs.State.{State}
use Rattle.rox_reading.specs.Machine.{counted, with_item}
use Rattle.rox_reading.proofs.Forests.{pairs-join, attribute_count-join, named-left}
use Rattle.rox_theory.proofs.Basics.{chosen}
use Rattle.rox_theory.proofs.Standing.{AreNamed, IsValidState, distinct-append, distinct-grows, attributes-item, pairs-item, named-item, nodes-grow}
pub use Rattle.rox_theory.specs.ValidState.{state}

-- One more item without children, up to j.
abbrev pub with_leaf : State → ℕ → Item → State
with_leaf s j item = record { at = j; done = join s.done (leaf item); stack = s.stack; openings_left = s.openings_left }

-- What is within the limit is the state itself.
pub counted_fits : (limit : ℕ) (s t : State) → counted limit s ≡ Ok t → (s ≡ t) × (nodes_so_far s.stack s.done ≤ limit)
counted_fits limit s t h = chosen (nat_le (nodes_so_far s.stack s.done) limit) _ _ _ h (λ fits e. (cc, leb-true _ _ fits)) (λ over e. cc)

-- And the state is within it if its nodes are.
pub fits_counted : (limit : ℕ) (s : State) → nodes_so_far s.stack s.done ≤ limit → counted limit s ≡ Ok s
fits_counted limit s h = rw (le-leb _ _ h) refl

-- What one more item adds.
pub record Adds (s : State) (item : Item) : Type 0 where
  pub attributes : attributes_so_far s.stack s.done + own_attributes item ≤ most_attributes
  pub pairs : length (with_new (distinct_pairs (pairs_so_far s.stack s.done)) (own_pairs item)) ≤ most_pairs
  pub named : ItemWellNamed (scope_in (scope_of s.stack) item) item

-- One more item keeps a state fine.
pub leaf_fine : (limit : ℕ) (s : State) (j : ℕ) (item : Item) → IsValidState limit s → Adds s item → nodes_so_far s.stack (join s.done (leaf item)) ≤ limit → IsValidState limit (with_leaf s j item)
leaf_fine limit s j item fine adds nodes = grind (arith, pairs-item, append-nil, attributes-item, distinct-append, named-item)

-- An item that declares nothing and has no attributes.
plain_adds : (limit : ℕ) (s : State) (item : Item) → own_attributes item ≡ 0 → own_pairs item ≡ [] → ItemWellNamed (scope_in (scope_of s.stack) item) item → IsValidState limit s → Adds s item
plain_adds limit s item no_attributes no_pairs named fine = grind arith

-- A plain item that is read.
pub item_read : (limit most : ℕ) (s t : State) (j : ℕ) (item : Item) → limit ≤ most → own_attributes item ≡ 0 → own_pairs item ≡ [] → ItemWellNamed (scope_in (scope_of s.stack) item) item
    → IsValidState most s → with_item limit s j item ≡ Ok t → (t ≡ with_leaf s j item) × IsValidState most t
item_read limit most s t j item more no_attributes no_pairs named fine h =
    let c = counted_fits limit (with_leaf s j item) t h in
    (sym c.0, subst (IsValidState most) c.0 (leaf_fine most s j item fine (plain_adds most s item no_attributes no_pairs named fine) (omega (arith, c.1))))

-- A plain item is read if the limits allow it.
pub read_item : (limit : ℕ) (s : State) (j : ℕ) (item : Item) → IsValidState limit (with_leaf s j item) → with_item limit s j item ≡ Ok (with_leaf s j item)
read_item limit s j item fine = fits_counted limit (with_leaf s j item) fine.nodes

-- ---- what is fine does not hang on the place, nor on how many texts may be opened

pub fine_there : (limit : ℕ) (s t : State) → s.done ≡ t.done → s.stack ≡ t.stack → IsValidState limit s → IsValidState limit t
fine_there limit s t done stack fine = grind arith

-- ---- fewer items are fine, whatever the others are

attributes_before : (stack : Open) (done more : Forest Item) → attributes_so_far stack done ≤ attributes_so_far stack (join done more)
attributes_before root done more = omega (arith, attribute_count-join done more)
attributes_before (inside start tag before up) done more = omega (arith, attribute_count-join done more)

pairs_before : (stack : Open) (done more : Forest Item) → length (distinct_pairs (pairs_so_far stack done)) ≤ length (distinct_pairs (pairs_so_far stack (join done more)))
pairs_before root done more = rw (pairs-join done more) (distinct-grows (pairs done) (pairs more))
pairs_before (inside start tag before up) done more = grind (arith, pairs-join, append_assoc, distinct-grows)

pub named_before : (stack : Open) (done more : Forest Item) → AreNamed stack (join done more) → AreNamed stack done
named_before root done more named = named-left [] done more named
named_before (inside start tag before up) done more named = (named.0, named.1, named-left (listed (scope_of up) tag.declarations) done more named.2)

-- What the limits allow they allow of fewer items.
pub fine_before : (limit i j b c : ℕ) (done more : Forest Item) (stack : Open) → IsValidState limit (state j (join done more) stack c) → IsValidState limit (state i done stack b)
fine_before limit i j b c done more stack fine = grind (arith, nodes-grow, attributes_before, pairs_before, named_before)
