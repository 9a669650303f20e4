-- At most one attribute of an element has a name.
use Rattle.std.proofs.Common.{◌≡◌, ℕ, zero, suc, ◌+◌, ◌≤◌, Bool, true, false, cond, List, [], ◌∷◌, ◌++◌, Option, Some, None, refl, sym, ap, ◌∙◌, arith, option_map, is_some, IfSome}
use Rattle.std.specs.List.{list_any, slice_get, count_by, IsDistinct}
use Rattle.std.proofs.lemmas.Bool.{or_parts, or_from, false_from_ne_true, both_ways}
use Rattle.std.proofs.lemmas.List.Folds.{list_any-append}
use Rattle.std.proofs.lemmas.List.Recursion.{is_count_by}
use Rattle.std.proofs.lemmas.Slice.Eq.{bytes_eq-Decides}
use Rattle.rox_grammar.specs.Forest.{Forest}
use Rattle.rox_grammar.specs.Tree.{Node, Attribute, same_prefix}
use Rattle.roxmltree.specs.NodeParts.{node_at, listed_of, attributes_of}
use Rattle.roxmltree.specs.ExpandedNames.{same_expanded_name, named, IsNamedAt}
use Rattle.rox_laws.specs.TreeLaws.{same_attribute_name, NamesDistinct}
use Rattle.rox_laws.proofs.Once.{NamesOnce, none_twice, distinct_once}
use Rattle.roxmltree.proofs.Everywhere.{at_each}

-- two attributes of one name have one expanded name
both_named : (name : Option (List ℕ) × List ℕ) (a b : Attribute) → same_expanded_name (a.namespace, a.local) name ≡ true → same_expanded_name (b.namespace, b.local) name ≡ true → same_attribute_name a b ≡ true
both_named name a b h k = grind (arith, bytes_eq-Decides)

-- whether an attribute has this name
abbrev has : Option (List ℕ) × List ℕ → Attribute → Bool
has name a = same_expanded_name (a.namespace, a.local) name

-- a test that is true of none, where it is true of no more than another
none_weaker : {A : Type 0} (s t : A → Bool) (xs : List A) → ((x : A) → t x ≡ true → s x ≡ true) → list_any s xs ≡ false → list_any t xs ≡ false
none_weaker s t [] k h = h
none_weaker s t (x ∷ xs) k h =
    let n = or_parts (s x) (list_any s xs) h in
    or_from (t x) (list_any t xs) (false_from_ne_true (t x) (λ e. both_ways (s x) n.0 (k x e))) (none_weaker s t xs k n.1)

-- none before it has the name of one of these
none_before : (name : Option (List ℕ) × List ℕ) (before as' : List Attribute) (i : ℕ) → NamesOnce before as' → IsNamedAt name as' i → list_any (has name) before ≡ false
none_before name before [] i h n = absurd n
none_before name before (a ∷ as') zero h n = none_weaker (λ e. same_attribute_name e a) (has name) before (λ e m. both_named name e a m n) h.0
none_before name before (a ∷ as') (suc i) h n = grind (arith, none_before name (before ++ a ∷ []) as' i h.1 n, list_any-append)

-- so one that has it is not followed by another
not_after : (name : Option (List ℕ) × List ℕ) (before as' : List Attribute) (a : Attribute) (i : ℕ) → NamesOnce (before ++ a ∷ []) as' → has name a ≡ true → IsNamedAt name as' i → ⊥
not_after name before as' a i h m n = grind (arith, none_before, list_any-append)

-- and two that have it stand at one place
one_place : (name : Option (List ℕ) × List ℕ) (before as' : List Attribute) (i j : ℕ) → NamesOnce before as' → IsNamedAt name as' i → IsNamedAt name as' j → i ≡ j
one_place name before [] i j h m n = absurd m
one_place name before (a ∷ as') zero zero h m n = refl
one_place name before (a ∷ as') zero (suc j) h m n = absurd (not_after name before as' a j h.1 m n)
one_place name before (a ∷ as') (suc i) zero h m n = absurd (not_after name before as' a i h.1 n m)
one_place name before (a ∷ as') (suc i) (suc j) h m n = ap suc (one_place name (before ++ a ∷ []) as' i j h.1 m n)

-- ---- a document

-- a node that lists each prefix once, and has each name once
abbrev Distinct : Node → Type 0
Distinct node = IsDistinct (λ d e. same_prefix d.prefix e.prefix) (listed_of node) × IsDistinct same_attribute_name (attributes_of node)

-- each name is there once
once_at : (tree : Forest Node) → NamesDistinct tree → (id : ℕ) → NamesOnce [] (attributes_of (node_at tree id))
once_at tree h id = let both : Distinct (node_at tree id) = at_each Distinct tree h (none_twice _, none_twice _) id in distinct_once same_attribute_name (attributes_of (node_at tree id)) both.1

-- two attributes of one element with one name stand at one place
pub one_named : (tree : Forest Node) → NamesDistinct tree → (id : ℕ) (name : Option (List ℕ) × List ℕ) (i j : ℕ)
    → IsNamedAt name (attributes_of (node_at tree id)) i → IsNamedAt name (attributes_of (node_at tree id)) j → i ≡ j
one_named tree h id name i j = one_place name [] (attributes_of (node_at tree id)) i j (once_at tree h id)

-- ---- the one that is found

-- where there is one, the first stands somewhere
first_place : (name : Option (List ℕ) × List ℕ) (as' : List Attribute) (i : ℕ) → IsNamedAt name as' i → (k : ℕ) × IsNamedAt name as' k × (slice_get as' k ≡ named name as')
first_place name [] i m = absurd m
first_place name (a ∷ as') i m = by_test (has name a) refl i m (first_place name as')
  where
    by_test : (x : Bool) → has name a ≡ x → (i : ℕ) → IsNamedAt name (a ∷ as') i → ((i : ℕ) → IsNamedAt name as' i → (k : ℕ) × IsNamedAt name as' k × (slice_get as' k ≡ named name as'))
        → (k : ℕ) × IsNamedAt name (a ∷ as') k × (slice_get (a ∷ as') k ≡ named name (a ∷ as'))
    by_test true e i m rest = (0, e, rw e refl)
    by_test false e zero m rest = absurd (both_ways (has name a) e m)
    by_test false e (suc i) m rest = let k = rest i m in (suc k.0, k.1, rw e k.2)

-- what is found is the only one
pub only_named : (tree : Forest Node) → NamesDistinct tree → (id : ℕ) (name : Option (List ℕ) × List ℕ) (i : ℕ)
    → IsNamedAt name (attributes_of (node_at tree id)) i → slice_get (attributes_of (node_at tree id)) i ≡ named name (attributes_of (node_at tree id))
only_named tree h id name i m = grind (arith, first_place, one_named)

-- and is one
named_there : (name : Option (List ℕ) × List ℕ) (as' : List Attribute) (a : Attribute) → named name as' ≡ Some a → (i : ℕ) × IsNamedAt name as' i × (slice_get as' i ≡ Some a)
named_there name [] b e = cc e
named_there name (a ∷ as') b e = by_test (named_there name as' b) (has name a) refl
  where
    by_test : (named name as' ≡ Some b → (i : ℕ) × IsNamedAt name as' i × (slice_get as' i ≡ Some b)) → (x : Bool) → has name a ≡ x → (i : ℕ) × IsNamedAt name (a ∷ as') i × (slice_get (a ∷ as') i ≡ Some b)
    by_test rest true n = (0, n, rw n at e)
    by_test rest false n = let k = rest (rw n at e) in (suc k.0, k.1, k.2)

-- ---- as many as there are

-- how many of these have the name
abbrev pub how_many : Option (List ℕ) × List ℕ → List Attribute → ℕ
how_many name [] = 0
how_many name (a ∷ as') = cond (has name a) (1 + how_many name as') (how_many name as')

-- none where no place has it
none_counted : (name : Option (List ℕ) × List ℕ) (as' : List Attribute) → ((i : ℕ) → IsNamedAt name as' i → ⊥) → (how_many name as' ≡ 0) × (named name as' ≡ None)
none_counted name [] h = (refl, refl)
none_counted name (a ∷ as') h =
    let other : has name a ≡ false = false_from_ne_true (has name a) (h 0) in
    let rest = none_counted name as' (λ i. h (suc i)) in
    (rw other rest.0, rw other rest.1)

-- one where one place has it, which is then found
one_counted : (name : Option (List ℕ) × List ℕ) (before as' : List Attribute) → NamesOnce before as' → how_many name as' ≡ cond (is_some (named name as')) 1 0
one_counted name before [] h = refl
one_counted name before (a ∷ as') h = grind (arith, one_counted name (before ++ a ∷ []) as' h.1, none_counted, not_after)

-- so many attributes of an element have it
counted_at : (tree : Forest Node) → NamesDistinct tree → (id : ℕ) (name : Option (List ℕ) × List ℕ)
    → how_many name (attributes_of (node_at tree id)) ≡ cond (is_some (named name (attributes_of (node_at tree id)))) 1 0
counted_at tree h id name = one_counted name [] (attributes_of (node_at tree id)) (once_at tree h id)

-- what answers it is one of the attributes
pub answer_is_one : {X : Type 0} (attribute : X → Attribute) (o : Option X) (name : Option (List ℕ) × List ℕ) (as' : List Attribute) → option_map attribute o ≡ named name as'
    → IfSome o (λ x. (i : ℕ) × IsNamedAt name as' i × (slice_get as' i ≡ Some (attribute x)))
answer_is_one attribute o name as' h = grind (arith, named_there)

-- no more than one
pub one_at_most : (tree : Forest Node) → NamesDistinct tree → (id : ℕ) (name : Option (List ℕ) × List ℕ) → how_many name (attributes_of (node_at tree id)) ≤ 1
one_at_most tree h id name = grind (arith, counted_at)

-- what is counted when none is left
pub counted_all : (name : Option (List ℕ) × List ℕ) (as' : List Attribute) (count : ℕ) (left : List Attribute) → left ≡ []
    → count + how_many name left ≡ how_many name as' → count ≡ count_by (λ a. same_expanded_name (a.namespace, a.local) name) as'
counted_all name as' count left none sum =
    (omega arith) ∙ (rw none at sum) ∙ is_count_by (how_many name) (has name) refl (λ _ _. refl) as'

-- which is one or none
pub counted_one : (tree : Forest Node) → NamesDistinct tree → (id : ℕ) (name : Option (List ℕ) × List ℕ)
    → count_by (λ a. same_expanded_name (a.namespace, a.local) name) (attributes_of (node_at tree id)) ≡ cond (is_some (named name (attributes_of (node_at tree id)))) 1 0
counted_one tree h id name = sym (is_count_by (how_many name) (has name) refl (λ _ _. refl) (attributes_of (node_at tree id))) ∙ counted_at tree h id name
