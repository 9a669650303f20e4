-- An element of a document has no more than the document: nodes, attributes, distinct pairs of a prefix and a URI.
use Rattle.std.proofs.Common.{◌≡◌, ℕ, ◌≤◌, true, List, [], ◌∷◌, ◌++◌, length, sym, ap, ◌∙◌, arith, inl, inr, length-append, append_assoc, append-nil}
use Rattle.std.proofs.lemmas.Bool.{cases_Bool}
use mathlib.Core.Bool.{or_comm}
use Rattle.rox_grammar.specs.Forest.{Forest, Nil, Cons, size}
use Rattle.rox_grammar.specs.Written.{NamespaceDecl, Tag, Item, Element}
use Rattle.rox_grammar.proofs.CountForms.{limits_counted, counts_limited}
use Rattle.rox_grammar.specs.Document.{same_pair, IsWithinLimits}
use Rattle.rox_grammar.specs.Counts.{own_pairs, pairs, attribute_count, has_pair, with_new, distinct_pairs}
use Rattle.rox_grammar.proofs.PairLemmas.{same_pair-true, has_last}
use Rattle.rox_theory.proofs.Standing.{distinct-append, distinct-grows}
use Rattle.rox_exchange.specs.SourceKinds.{StandsInEach, first, below, beside}

-- ---- pairs

-- Lists that hold the same pairs, and as many, are joined by as many.
as_many : (ds bs es : List NamespaceDecl) → length ds ≡ length bs → ((x : NamespaceDecl) → has_pair ds x ≡ has_pair bs x) → length (with_new ds es) ≡ length (with_new bs es)
as_many ds bs [] long same = long
as_many ds bs (e ∷ es) long same = grind (arith, as_many ds bs es long same, as_many (ds ++ e ∷ []) (bs ++ e ∷ []) es (omega (arith, length-append ds (e ∷ []), length-append bs (e ∷ []))), has_last)

-- With one pair more there are no fewer.
one_more : (d : NamespaceDecl) (ds es : List NamespaceDecl) → length (with_new ds es) ≤ length (with_new (d ∷ ds) es)
one_more d ds [] = omega arith
one_more d ds (e ∷ es) =
    elim (cases_Bool (has_pair ds e)) as (λ q. length (with_new ds (e ∷ es)) ≤ length (with_new (d ∷ ds) (e ∷ es))) [
      | inl there ↦ rw (there, or_comm (same_pair d e) true) (one_more d ds es)
      | inr new ↦ elim (cases_Bool (same_pair d e)) as (λ q. length (with_new ds (e ∷ es)) ≤ length (with_new (d ∷ ds) (e ∷ es))) [
        | inl same ↦ grind (arith, same_pair-true d e same, as_many, length-append, has_last)
        | inr other ↦ rw (new, other) (one_more d (ds ++ e ∷ []) es)
      ]
    ]

more_before : (ds es : List NamespaceDecl) → length (with_new [] es) ≤ length (with_new ds es)
more_before [] es = omega arith
more_before (d ∷ ds) es = omega (arith, more_before ds es, one_more d ds es)

-- Of a part of a list there are no more.
distinct_part : (before part after : List NamespaceDecl) → length (distinct_pairs part) ≤ length (distinct_pairs (before ++ (part ++ after)))
distinct_part before part after = grind (arith, more_before, distinct-append, distinct-grows)

-- ---- an element among items

module _ (s e : ℕ) (t : Tag) (kids : Forest Item) where
  abbrev one : Forest Item
  one = Cons (Element s e t) kids Nil

  fewer_nodes : (f : Forest Item) → StandsInEach s e t kids f → size one ≤ size f
  fewer_nodes f (first rest) = omega arith
  fewer_nodes f (below item children rest is) = omega (arith, fewer_nodes children is)
  fewer_nodes f (beside item children rest is) = omega (arith, fewer_nodes rest is)

  fewer_attributes : (f : Forest Item) → StandsInEach s e t kids f → attribute_count one ≤ attribute_count f
  fewer_attributes f (first rest) = omega arith
  fewer_attributes f (below item children rest is) = omega (arith, fewer_attributes children is)
  fewer_attributes f (beside item children rest is) = omega (arith, fewer_attributes rest is)

  part_of_pairs : (f : Forest Item) → StandsInEach s e t kids f → (before : List NamespaceDecl) × (after : List NamespaceDecl) × (pairs f ≡ before ++ (pairs one ++ after))
  part_of_pairs f (first rest) =
      ([], pairs rest, ap (λ (ds : List NamespaceDecl). own_pairs (Element s e t) ++ (ds ++ pairs rest)) (sym (append-nil (pairs kids))) ∙ sym (append_assoc (own_pairs (Element s e t)) (pairs kids ++ []) (pairs rest)))
  part_of_pairs f (below item children rest is) =
      let p = part_of_pairs children is in (
        own_pairs item ++ p.0,
        p.1 ++ pairs rest,
        ap (λ (ds : List NamespaceDecl). own_pairs item ++ (ds ++ pairs rest)) p.2
            ∙ ap (λ (ds : List NamespaceDecl). own_pairs item ++ ds) (append_assoc p.0 (pairs one ++ p.1) (pairs rest) ∙ ap (λ (ds : List NamespaceDecl). p.0 ++ ds) (append_assoc (pairs one) p.1 (pairs rest)))
            ∙ sym (append_assoc (own_pairs item) p.0 (pairs one ++ (p.1 ++ pairs rest))),
      )
  part_of_pairs f (beside item children rest is) =
      let p = part_of_pairs rest is in (
        (own_pairs item ++ pairs children) ++ p.0,
        p.1,
        ap (λ (ds : List NamespaceDecl). own_pairs item ++ (pairs children ++ ds)) p.2
            ∙ sym (append_assoc (own_pairs item) (pairs children) (p.0 ++ (pairs one ++ p.1)))
            ∙ sym (append_assoc (own_pairs item ++ pairs children) p.0 (pairs one ++ p.1)),
      )

  -- It is within the limits that they are within.
  pub part_within : (limit : ℕ) (f : Forest Item) → StandsInEach s e t kids f → IsWithinLimits limit f → IsWithinLimits limit one
  part_within limit f is within =
      let counts = limits_counted limit f within in
      let p = part_of_pairs f is in
      let n = distinct_part p.0 (pairs one) p.1 in
      counts_limited limit one (grind (arith, fewer_nodes, fewer_attributes))
