-- The number of different pairs, counted one by one.
use Rattle.std.proofs.Common.{◌≡◌, ℕ, ◌+◌, ◌≤◌, ◌||◌, Bool, true, false, cond, List, [], ◌∷◌, ◌++◌, length, refl, sym, ap, ◌∙◌, arith, inl, inr, length-append}
use Rattle.std.specs.List.{list_any}
use Rattle.std.proofs.lemmas.Bool.{cases_Bool, or_parts}
use mathlib.Core.Bool.{or-false, or-true}
use Rattle.rox_grammar.specs.Forest.{Forest, size}
use Rattle.rox_grammar.specs.Written.{NamespaceDecl, Item}
use Rattle.rox_grammar.specs.Document.{attributes_in, pairs_in, same_pair, distinct_count, most_attributes, most_pairs, IsWithinLimits}
use Rattle.rox_grammar.specs.Counts.{has_pair, with_new, distinct_pairs}
use Rattle.rox_grammar.proofs.PairLemmas.{same_pair-true, has_last}

-- ---- how many differ

-- How many of the second differ, and are not among the first.
counted : List NamespaceDecl → List NamespaceDecl → ℕ
counted known [] = 0
counted known (d ∷ ds) = cond (has_pair known d || list_any (same_pair d) ds) (counted known ds) (1 + counted known ds)

-- One more is known that is not among them.
counted_apart : (known : List NamespaceDecl) (e : NamespaceDecl) (ds : List NamespaceDecl) → list_any (same_pair e) ds ≡ false → counted (known ++ e ∷ []) ds ≡ counted known ds
unfolding counted
counted_apart known e [] none = refl
counted_apart known e (d ∷ ds) none =
    let n = or_parts (same_pair e d) (list_any (same_pair e) ds) none in
    let same : has_pair (known ++ e ∷ []) d ≡ has_pair known d = has_last known e d ∙ ap (λ (b : Bool). has_pair known d || b) n.0 ∙ or-false (has_pair known d) in
    rw (same, (counted_apart known e ds n.1)) refl

-- One more is known that is among them.
counted_again : (known : List NamespaceDecl) (e : NamespaceDecl) (ds : List NamespaceDecl) → has_pair known e ≡ false → list_any (same_pair e) ds ≡ true
    → 1 + counted (known ++ e ∷ []) ds ≡ counted known ds
unfolding counted
counted_again known e [] new some = cc some
counted_again known e (d ∷ ds) new some =
    elim (cases_Bool (same_pair e d)) as (λ q. 1 + counted (known ++ e ∷ []) (d ∷ ds) ≡ counted known (d ∷ ds)) [
      | inl is ↦ (
          let same : d ≡ e = sym (same_pair-true e d is) in
          let there : has_pair (known ++ e ∷ []) d ≡ true = has_last known e d ∙ ap (λ (b : Bool). has_pair known d || b) is ∙ or-true (has_pair known d) in
          elim (cases_Bool (list_any (same_pair d) ds)) as (λ q. 1 + counted (known ++ e ∷ []) (d ∷ ds) ≡ counted known (d ∷ ds)) [
            | inl again ↦ (
                let again' : list_any (same_pair e) ds ≡ true = ap (λ (x : NamespaceDecl). list_any (same_pair x) ds) (sym same) ∙ again in
                rw (there, (ap (has_pair known) same ∙ new), again) (counted_again known e ds new again'))
            | inr last ↦ grind (arith, counted_apart)
          ])
      | inr other ↦ (
          let some' : list_any (same_pair e) ds ≡ true = ap (λ (b : Bool). b || list_any (same_pair e) ds) (sym other) ∙ some in
          let same : has_pair (known ++ e ∷ []) d ≡ has_pair known d = has_last known e d ∙ ap (λ (b : Bool). has_pair known d || b) other ∙ or-false (has_pair known d) in
          rw same (one_more (has_pair known d || list_any (same_pair d) ds) (counted (known ++ e ∷ []) ds) (counted known ds) (counted_again known e ds new some')))
    ]
  where
    one_more : (b : Bool) (m n : ℕ) → 1 + m ≡ n → 1 + cond b m (1 + m) ≡ cond b n (1 + n)
    one_more true m n h = h
    one_more false m n h = ap (λ (k : ℕ). 1 + k) h

with_new_counted : (known ds : List NamespaceDecl) → length (with_new known ds) ≡ length known + counted known ds
unfolding counted
with_new_counted known [] = omega arith
with_new_counted known (d ∷ ds) =
    elim (cases_Bool (has_pair known d)) as (λ q. length (with_new known (d ∷ ds)) ≡ length known + counted known (d ∷ ds)) [
      | inl there ↦ rw there (with_new_counted known ds)
      | inr new ↦ elim (cases_Bool (list_any (same_pair d) ds)) as (λ q. length (with_new known (d ∷ ds)) ≡ length known + counted known (d ∷ ds)) [
        | inl again ↦ rw (new, again) (omega (arith, with_new_counted (known ++ d ∷ []) ds, length-append known (d ∷ []), counted_again known d ds new again))
        | inr last ↦ rw (new, last) (omega (arith, with_new_counted (known ++ d ∷ []) ds, length-append known (d ∷ []), counted_apart known d ds last))
      ]
    ]

none_known : (ds : List NamespaceDecl) → counted [] ds ≡ distinct_count ds
unfolding counted
none_known ds = cc

pub distinct_same : (ds : List NamespaceDecl) → distinct_count ds ≡ length (distinct_pairs ds)
distinct_same ds = omega (arith, with_new_counted [] ds, none_known ds)

pub pairs_counted : (items : Forest Item) → distinct_count (pairs_in items) ≡ length (distinct_pairs (pairs_in items))
pairs_counted items = distinct_same (pairs_in items)

-- ---- the limits

-- The limits of a tree, counted item by item.
pub record IsWithinCounts (nodes_limit : ℕ) (tree : Forest Item) : Type 0 where
  pub nodes : size tree + 1 ≤ nodes_limit
  pub attributes : attributes_in tree ≤ most_attributes
  pub namespaces : length (distinct_pairs (pairs_in tree)) ≤ most_pairs

pub limits_counted : (nodes_limit : ℕ) (tree : Forest Item) → IsWithinLimits nodes_limit tree → IsWithinCounts nodes_limit tree
limits_counted nodes_limit tree within = grind (arith, pairs_counted)

pub counts_limited : (nodes_limit : ℕ) (tree : Forest Item) → IsWithinCounts nodes_limit tree → IsWithinLimits nodes_limit tree
counts_limited nodes_limit tree within = grind (arith, pairs_counted)
