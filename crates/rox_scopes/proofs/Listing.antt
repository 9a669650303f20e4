-- What an element lists, from what its tag declares.
use Rattle.std.proofs.Common.{◌≡◌, ℕ, ◌&&◌, ◌||◌, Bool, true, false, cond, List, [], ◌∷◌, ◌++◌, filter, refl, sym, ap, ◌∙◌, Option, append-nil, append_assoc, arith}
use Rattle.std.specs.List.{list_any}
use mathlib.Core.Bool.{or_assoc, false≢true}
use Rattle.rox_grammar.specs.Written.{NamespaceDecl}
use Rattle.rox_grammar.specs.Tree.{same_prefix, is_declared, listed, is_xml, listable_of}
use Rattle.rox_grammar.specs.Counts.{has_pair, with_new}
pub use Rattle.rox_grammar.proofs.PairLemmas.{with_new-append}
use Rattle.rox_scopes.specs.Scopes.{others}
use Rattle.rox_scopes.proofs.Pairs.{same_prefix-true, same_prefix-refl}

-- `xml` is among the declared prefixes
abbrev pub declares_xml : List NamespaceDecl → Bool
declares_xml own = list_any (λ d. is_xml d.prefix) own

pub same_prefix-sym : (p q : Option (List ℕ)) → same_prefix p q ≡ same_prefix q p
same_prefix-sym p q = both (same_prefix p q) (same_prefix q p) refl refl
  where
    both : (a b : Bool) → same_prefix p q ≡ a → same_prefix q p ≡ b → same_prefix p q ≡ same_prefix q p
    both true true h k = h ∙ sym k
    both false false h k = h ∙ sym k
    both true false h k = absurd (false≢true (sym k ∙ ap (λ x. same_prefix x p) (sym (same_prefix-true p q h)) ∙ same_prefix-refl p))
    both false true h k = absurd (false≢true (sym h ∙ ap (λ x. same_prefix x q) (sym (same_prefix-true q p k)) ∙ same_prefix-refl q))

-- a prefix is declared among those that are listed, or is `xml`
pub is_declared-own : (own : List NamespaceDecl) (p : Option (List ℕ)) → is_declared p own ≡ (is_declared p (listable_of own) || (declares_xml own && is_xml p))
is_declared-own [] p = refl
is_declared-own (d ∷ ds) p = by_cases (is_xml d.prefix) refl (is_declared-own ds p)
  where
    or_absorb : (a b c : Bool) → (a || (b || (c && a))) ≡ (b || a)
    or_absorb true true c = refl
    or_absorb true false c = refl
    or_absorb false true c = refl
    or_absorb false false true = refl
    or_absorb false false false = refl

    by_cases : (x : Bool) → is_xml d.prefix ≡ x → is_declared p ds ≡ (is_declared p (listable_of ds) || (declares_xml ds && is_xml p))
        → is_declared p (d ∷ ds) ≡ (is_declared p (listable_of (d ∷ ds)) || (declares_xml (d ∷ ds) && is_xml p))
    by_cases true e h =
        let same : same_prefix d.prefix p ≡ is_xml p = same_prefix-sym d.prefix p ∙ ap (same_prefix p) (same_prefix-true d.prefix _ e) in
        rw (e, same, h) (or_absorb (is_xml p) (is_declared p (listable_of ds)) (declares_xml ds))
    by_cases false e h = rw (e, h) (sym (or_assoc (same_prefix d.prefix p) (is_declared p (listable_of ds)) (declares_xml ds && is_xml p)))

-- what an element lists: its own, and the parent's others
pub listed-others : (above own : List NamespaceDecl) → listed above own ≡ listable_of own ++ others (listable_of own) (declares_xml own) above
listed-others above own = grind (arith, is_declared-own)

filter_all : (ds : List NamespaceDecl) → filter (λ d. true) ds ≡ ds
filter_all [] = refl
filter_all (d ∷ ds) = ap (λ xs. d ∷ xs) (filter_all ds)

-- an element without declarations lists what its parent lists
pub listed-none : (above : List NamespaceDecl) → listed above [] ≡ above
listed-none above = filter_all above

-- ---- the table of pairs

-- the table stays in front
pub with_new-front : (ds xs : List NamespaceDecl) → (more : List NamespaceDecl) × (with_new ds xs ≡ ds ++ more)
with_new-front ds [] = ([], sym (append-nil ds))
with_new-front ds (x ∷ xs) = by_cases (has_pair ds x) (with_new-front ds xs) (with_new-front (ds ++ x ∷ []) xs)
  where
    by_cases : (b : Bool) → (more : List NamespaceDecl) × (with_new ds xs ≡ ds ++ more) → (more : List NamespaceDecl) × (with_new (ds ++ x ∷ []) xs ≡ (ds ++ x ∷ []) ++ more)
        → (more : List NamespaceDecl) × (cond b (with_new ds xs) (with_new (ds ++ x ∷ []) xs) ≡ ds ++ more)
    by_cases true h k = h
    by_cases false h (more, k) = (x ∷ more, k ∙ append_assoc ds (x ∷ []) more)
