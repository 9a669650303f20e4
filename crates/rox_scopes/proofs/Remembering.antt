-- A set of declared prefixes.
use Rattle.std.proofs.Common.{◌≡◌, ℕ, ◌+◌, ◌<◌, ◌||◌, Bool, false, List, [], ◌∷◌, ◌++◌, length, map, take, drop, get_or, length-drop, refl, sym, ap, ◌∙◌, arith, length-append, Option, Some, None, Bor}
use Rattle.std.specs.List.{list_any}
use Rattle.std.specs.declared.cmp.Ordering.{Ordering}
use Rattle.std.specs.declared.cmp.Ordering.TheVariants.{Less, Equal, Greater}
use Rattle.std.specs.Ordering.{is_eq, match_ordering, nat_cmp}
use Rattle.std.specs.Option.{option_cmp}
use Rattle.std.specs.Cmp.Lexicographic.{slice_cmp, texts_ties}
use Rattle.std.specs.BTreeMap.{is_at}
use Rattle.std.specs.BTreeSet.{insert_key}
use Rattle.std.proofs.lemmas.List.{map-append, take_more}
use Rattle.std.proofs.lemmas.List.Folds.{list_any-append}
use mathlib.Core.Bool.{or_comm, or_assoc}
use Rattle.rox_grammar.specs.Written.{NamespaceDecl}
use Rattle.rox_grammar.specs.Tree.{same_prefix, is_declared}
use Rattle.rox_scopes.specs.declared.namespace.Namespace.{Namespace}
use Rattle.rox_grammar.specs.AtIndex.{namespace_at}
use Rattle.rox_scopes.specs.NamespaceViews.{namespace_view}
use Rattle.rox_scopes.specs.Scopes.{prefix_view, entries, ArePlaces}
use Rattle.rox_scopes.specs.PrefixSet.{has_prefix, IsPrefixSet}
use Rattle.rox_scopes.proofs.Listing.{same_prefix-sym}
use Rattle.rox_scopes.proofs.Pairs.{same_prefix-true, namespace_at-get, place_at}

abbrev pub Key : Type 0
Key = Option (Bor (List ℕ))

-- the order of keys
abbrev pub key_cmp : Key → Key → Ordering
key_cmp x y = option_cmp (λ a b. slice_cmp nat_cmp a.now b.now) x y

prefix_ties : (p q : Key) → same_prefix (prefix_view p) (prefix_view q) ≡ is_eq (key_cmp p q)
prefix_ties None None = refl
prefix_ties None (Some q) = refl
prefix_ties (Some p) None = refl
prefix_ties (Some p) (Some q) = texts_ties p.now q.now

-- whether a set has a key
pub has_is : (ks : List Key) (k : Key) → has_prefix (prefix_view k) ks ≡ list_any (is_at (key_cmp k)) ks
has_is [] k = refl
has_is (x ∷ xs) k = rw (same_prefix-sym (prefix_view x) (prefix_view k), prefix_ties k x, has_is xs k) refl

or_absorbs : (a b : Bool) → (a || b) ≡ ((a || b) || a)
or_absorbs a b = grind arith

with_key : (xs : List Key) (x k : Key) (p : Option (List ℕ)) (o : Ordering) → o ≡ key_cmp k x
    → has_prefix p (insert_key key_cmp xs k) ≡ (has_prefix p xs || same_prefix (prefix_view k) p)
    → has_prefix p (match_ordering o (k ∷ x ∷ xs) (x ∷ xs) (x ∷ insert_key key_cmp xs k)) ≡ (has_prefix p (x ∷ xs) || same_prefix (prefix_view k) p)
with_key xs x k p Less is more = or_comm (same_prefix (prefix_view k) p) _
with_key xs x k p Equal is more =
    let same : prefix_view k ≡ prefix_view x = same_prefix-true (prefix_view k) (prefix_view x) (prefix_ties k x ∙ ap is_eq (sym is)) in
    or_absorbs (same_prefix (prefix_view x) p) (has_prefix p xs) ∙ ap (λ q. has_prefix p (x ∷ xs) || same_prefix q p) (sym same)
with_key xs x k p Greater is more = ap (λ b. same_prefix (prefix_view x) p || b) more ∙ sym (or_assoc (same_prefix (prefix_view x) p) _ _)

-- a set with one more
pub has_inserted : (ks : List Key) (k : Key) (p : Option (List ℕ)) → has_prefix p (insert_key key_cmp ks k) ≡ (has_prefix p ks || same_prefix (prefix_view k) p)
has_inserted [] k p = or_comm (same_prefix (prefix_view k) p) false
has_inserted (x ∷ xs) k p = with_key xs x k p (key_cmp k x) refl (has_inserted xs k p)

-- few are not kept
pub remembers_few : (namespaces : List NamespaceDecl) (places : List ℕ) (keys : List Key) → length places < 17 → IsPrefixSet namespaces places keys
unfolding IsPrefixSet
remembers_few namespaces places keys short = λ many. absurd (omega arith)

pub remembers_many : (namespaces : List NamespaceDecl) (places : List ℕ) (keys : List Key) → ((p : Option (List ℕ)) → has_prefix p keys ≡ is_declared p (entries namespaces places)) → IsPrefixSet namespaces places keys
unfolding IsPrefixSet
remembers_many namespaces places keys h = λ many. h

pub remembered : (namespaces : List NamespaceDecl) (places : List ℕ) (keys : List Key) (p : Option (List ℕ)) → IsPrefixSet namespaces places keys → 16 < length places → has_prefix p keys ≡ is_declared p (entries namespaces places)
unfolding IsPrefixSet
remembered namespaces places keys p h many = h many p

-- the same places in a table that has grown
pub remembers_same : (namespaces more : List NamespaceDecl) (places : List ℕ) (keys : List Key) → entries more places ≡ entries namespaces places → IsPrefixSet namespaces places keys → IsPrefixSet more places keys
unfolding IsPrefixSet
remembers_same namespaces more places keys e h = λ many p. h many p ∙ ap (is_declared p) (sym e)

-- one more place
pub declared_push : (namespaces : List NamespaceDecl) (places : List ℕ) (place : ℕ) (p : Option (List ℕ))
    → is_declared p (entries namespaces (places ++ place ∷ [])) ≡ (is_declared p (entries namespaces places) || same_prefix (namespace_at namespaces place).prefix p)
declared_push namespaces places place p = grind (arith, map-append, list_any-append)

-- the places up to this one, and this one
pub declared_next : (rows : List Namespace) (places : List ℕ) (i : ℕ) (item : Namespace) (p : Option (List ℕ)) (old now next : Bool) → ArePlaces (length rows) places → i < length places
    → now ≡ (old || is_declared p (entries (map namespace_view rows) (take i places)))
    → next ≡ (now || same_prefix (namespace_view (get_or rows (get_or places i 0) item)).prefix p)
    → next ≡ (old || is_declared p (entries (map namespace_view rows) (take (i + 1) places)))
declared_next rows places i item p old now next ok lt before more =
    let place = get_or places i 0 in
    let namespaces = map namespace_view rows in
    let one = same_prefix (namespace_view (get_or rows place item)).prefix p in
    let e : namespace_at namespaces place ≡ namespace_view (get_or rows place item) = namespace_at-get rows place item (place_at (length rows) places i 0 ok lt) in
    let all : is_declared p (entries namespaces (take (i + 1) places)) ≡ (is_declared p (entries namespaces (take i places)) || one) =
    ap (λ xs. is_declared p (entries namespaces xs)) (take_more places i 0 lt) ∙ declared_push namespaces (take i places) place p
    ∙ ap (λ (d : NamespaceDecl). is_declared p (entries namespaces (take i places)) || same_prefix d.prefix p) e in
    more ∙ ap (λ b. b || one) before ∙ or_assoc old _ one ∙ ap (λ b. old || b) (sym all)

-- a set with one more of many
pub remembers_more : (namespaces : List NamespaceDecl) (before own : List ℕ) (place : ℕ) (prefix : Option (List ℕ)) (old keys : List Key)
    → own ≡ before ++ place ∷ [] → (namespace_at namespaces place).prefix ≡ prefix → 17 < length own → IsPrefixSet namespaces before old
    → ((p : Option (List ℕ)) → has_prefix p keys ≡ (has_prefix p old || same_prefix prefix p)) → IsPrefixSet namespaces own keys
unfolding IsPrefixSet
remembers_more namespaces before own place prefix old keys is at long h more = λ many p.
    let n : length own ≡ length before + 1 = ap length is ∙ length-append before (place ∷ []) in
    more p ∙ ap (λ b. b || same_prefix prefix p) (h (omega arith) p) ∙ ap (λ q. is_declared p (entries namespaces before) || same_prefix q p) (sym at)
    ∙ sym (declared_push namespaces before place p) ∙ ap (λ xs. is_declared p (entries namespaces xs)) (sym is)

-- nothing is declared yet
pub remembers_none : (namespaces : List NamespaceDecl) (listed : List ℕ) (own : ℕ) (keys : List Key) → own ≡ length listed → IsPrefixSet namespaces (drop own listed) keys
remembers_none namespaces listed own keys e = remembers_few namespaces (drop own listed) keys (rw length-drop (omega arith))
