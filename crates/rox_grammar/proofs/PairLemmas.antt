-- Pairs of a prefix and a URI: when two are the same, and lists that get new ones.
use Rattle.std.proofs.Common.{◌≡◌, ℕ, ◌≤◌, ◌||◌, true, false, cond, List, [], ◌∷◌, ◌++◌, length, Option, refl, arith, length-append}
use Rattle.std.proofs.lemmas.Slice.Eq.{bytes_eq-Decides}
use Rattle.rox_grammar.specs.Written.{NamespaceDecl}
use Rattle.rox_grammar.specs.Tree.{same_prefix}
use Rattle.rox_grammar.specs.Document.{same_pair}
use Rattle.rox_grammar.specs.Counts.{has_pair, with_new}

-- Prefixes that are equal by the test are equal.
pub same_prefix-true : (p q : Option (List ℕ)) → same_prefix p q ≡ true → p ≡ q
same_prefix-true p q h = grind (arith, bytes_eq-Decides)

-- A prefix is equal to itself by the test.
pub same_prefix-refl : (p : Option (List ℕ)) → same_prefix p p ≡ true
same_prefix-refl p = grind (arith, bytes_eq-Decides)

-- Pairs that are equal by the test are equal.
pub same_pair-true : (d e : NamespaceDecl) → same_pair d e ≡ true → d ≡ e
same_pair-true d e h = grind (arith, bytes_eq-Decides)

-- A pair at the end.
pub has_last : (ds : List NamespaceDecl) (e x : NamespaceDecl) → has_pair (ds ++ e ∷ []) x ≡ (has_pair ds x || same_pair e x)
has_last [] e x = elim (same_pair e x) as (λ b. (b || false) ≡ b) [ true ↦ refl | false ↦ refl ]
has_last (d ∷ ds) e x = elim (same_pair d x) as (λ b. (b || has_pair (ds ++ e ∷ []) x) ≡ ((b || has_pair ds x) || same_pair e x)) [ true ↦ refl | false ↦ has_last ds e x ]

-- New pairs of two lists are those of the one and then of the other.
pub with_new-append : (ds es fs : List NamespaceDecl) → with_new ds (es ++ fs) ≡ with_new (with_new ds es) fs
with_new-append ds [] fs = refl
with_new-append ds (e ∷ es) fs =
    elim (has_pair ds e) as (λ b. cond b (with_new ds (es ++ fs)) (with_new (ds ++ e ∷ []) (es ++ fs)) ≡ with_new (cond b (with_new ds es) (with_new (ds ++ e ∷ []) es)) fs) [
      | true ↦ with_new-append ds es fs
      | false ↦ with_new-append (ds ++ e ∷ []) es fs
    ]

-- New pairs make no fewer.
pub with_new-more : (ds es : List NamespaceDecl) → length ds ≤ length (with_new ds es)
with_new-more ds [] = omega arith
with_new-more ds (e ∷ es) =
    elim (has_pair ds e) as (λ b. length ds ≤ length (cond b (with_new ds es) (with_new (ds ++ e ∷ []) es))) [
      | true ↦ with_new-more ds es
      | false ↦ omega (arith, with_new-more (ds ++ e ∷ []) es, length-append ds (e ∷ []))
    ]
