-- The places of prefixes, as scopes are entered and left.
use Rattle.std.proofs.Common.{◌≡◌, ◌≢◌, ◌==◌, ℕ, ◌&&◌, ◌||◌, not, filter, add-one, drop-cons, reverse, ◌+◌, ◌-◌, ◌≤◌, ◌<◌, take, get_or, bytes_eq, Bor, Bool, true, false, cond, List, [], ◌∷◌, ◌++◌, length, map, drop, refl, sym, ap, subst, ◌∙◌, arith, length-append, Option, Some, None, option_map, option_to_list, eq-eqb, ne_eqb, nat_cmp}
use Rattle.std.specs.List.{AllByRecursion, slice_range}
use Rattle.std.proofs.lemmas.List.{drop-append-le, append-nil, length-map, take_all, take_more, reverse-append}
use Rattle.std.proofs.Math.ListN.{drop_of_length-le}
use Rattle.rox_grammar.specs.Written.{NamespaceDecl}
use Rattle.rox_grammar.specs.Tree.{same_prefix, is_declared, uri_of, is_xml}
use Rattle.rox_scopes.specs.declared.namespace.Namespace.{Namespace}
use Rattle.rox_grammar.specs.AtIndex.{namespace_at, scope_at, OptionWithin}
use Rattle.rox_scopes.specs.NamespaceViews.{namespace_view}
use Rattle.rox_scopes.specs.Scopes.{prefix_view, entries, ArePlaces, others}
use Rattle.std.specs.BTreeMap.{BTreeMap, get_by}
use Rattle.std.specs.Cmp.Lexicographic.{slice_cmp}
use Rattle.rox_scopes.specs.Bindings.{option_joined, found_at, bound_place, place_in, bound_namespace, restored, IsBound, Stacked, AreBindingsOf, KeepsBindings, FindsBinding, is_innermost}
use Rattle.rox_scopes.specs.declared.bindings.Binding.{Binding}
use Rattle.rox_scopes.specs.declared.bindings.ShadowedBinding.{ShadowedBinding}
use Rattle.rox_scopes.specs.declared.bindings.ScopeFrame.{ScopeFrame}
use Rattle.rox_scopes.specs.declared.bindings.PrefixBindings.{PrefixBindings}
use Rattle.rox_grammar.specs.declared.fault.Word.TheVariants.{Xml}
use Rattle.rox_grammar.specs.FixedTexts.{word_text}
use Rattle.rox_scopes.proofs.Listing.{same_prefix-sym}
use Rattle.rox_grammar.proofs.AtIndex.{namespace_at-append, scope_at-append}
use Rattle.rox_grammar.proofs.Stretches.{slice-more}
use Rattle.rox_scopes.proofs.Pairs.{same_prefix-true, declared_none, place_at, namespace_at-get}

abbrev pub Places : Type 0
Places = Option (List ℕ) → Option ℕ

restored-append : (rs : List ShadowedBinding) (r : ShadowedBinding) (f : Places) (p : Option (List ℕ)) → restored (rs ++ r ∷ []) f p ≡ restored rs (restored (r ∷ []) f) p
restored-append [] r f p = refl
restored-append (x ∷ rs) r f p = ap (λ (v : Option ℕ). cond (same_prefix (prefix_view x.prefix) p) (bound_namespace x.before) v) (restored-append rs r f p)

restored-same : (rs : List ShadowedBinding) (f g : Places) (p : Option (List ℕ)) → f p ≡ g p → restored rs f p ≡ restored rs g p
restored-same [] f g p h = h
restored-same (x ∷ rs) f g p h = ap (λ (v : Option ℕ). cond (same_prefix (prefix_view x.prefix) p) (bound_namespace x.before) v) (restored-same rs f g p h)

bound-same : (namespaces : List NamespaceDecl) (f g : Places) (ds : List NamespaceDecl) → ((p : Option (List ℕ)) → f p ≡ g p) → IsBound namespaces f ds → IsBound namespaces g ds
bound-same namespaces f g ds same h = record {
  within = λ p. subst (OptionWithin (length namespaces)) (same p) (h.within p);
  uris = λ p. ap (option_map (λ i. (namespace_at namespaces i).uri)) (sym (same p)) ∙ h.uris p;
}

-- ---- one more is replaced

replaced_one : (r : ShadowedBinding) (f g : Places) (place : Option ℕ) (p : Option (List ℕ)) → bound_namespace r.before ≡ f (prefix_view r.prefix)
    → g p ≡ cond (same_prefix (prefix_view r.prefix) p) place (f p) → restored (r ∷ []) g p ≡ f p
replaced_one r f g place p before is = by_cases (same_prefix (prefix_view r.prefix) p) refl
  where
    by_cases : (b : Bool) → same_prefix (prefix_view r.prefix) p ≡ b → restored (r ∷ []) g p ≡ f p
    by_cases true e = rw e (before ∙ ap f (same_prefix-true (prefix_view r.prefix) p e))
    by_cases false e = rw e (rw e at is)

pub stacked_put : (namespaces : List NamespaceDecl) (lists : List (List NamespaceDecl)) (es : List ShadowedBinding) (r : ShadowedBinding) (f g : Places) (place : Option ℕ) (least : ℕ) (ls : List ScopeFrame)
    → bound_namespace r.before ≡ f (prefix_view r.prefix) → ((p : Option (List ℕ)) → g p ≡ cond (same_prefix (prefix_view r.prefix) p) place (f p))
    → Stacked namespaces lists es f least ls → Stacked namespaces lists (es ++ r ∷ []) g least ls
stacked_put namespaces lists es r f g place least [] before is h = tt
stacked_put namespaces lists es r f g place least (l ∷ ls) before is (low, high, within, bound, rest) =
    let n = length-append es (r ∷ []) in
    let same : (p : Option (List ℕ)) → restored (drop l.count es) f p ≡ restored (drop l.count (es ++ r ∷ [])) g p = λ p.
    sym (ap (λ xs. restored xs g p) (drop-append-le l.count es (r ∷ []) high) ∙ restored-append (drop l.count es) r g p
    ∙ restored-same (drop l.count es) (restored (r ∷ []) g) f p (replaced_one r f g place p before (is p))) in
    (low, omega arith, within, bound-same namespaces _ _ _ same bound, stacked_put namespaces lists es r f g place l.count ls before is rest)

-- ---- the last one is taken back

pub stacked_back : (namespaces : List NamespaceDecl) (lists : List (List NamespaceDecl)) (es : List ShadowedBinding) (r : ShadowedBinding) (f g : Places) (least : ℕ) (ls : List ScopeFrame)
    → ((p : Option (List ℕ)) → g p ≡ cond (same_prefix (prefix_view r.prefix) p) (bound_namespace r.before) (f p)) → AllByRecursion (λ l. l.count ≤ length es) ls
    → Stacked namespaces lists (es ++ r ∷ []) f least ls → Stacked namespaces lists es g least ls
stacked_back namespaces lists es r f g least [] is few h = tt
stacked_back namespaces lists es r f g least (l ∷ ls) is (here, few) (low, high, within, bound, rest) =
    let same : (p : Option (List ℕ)) → restored (drop l.count (es ++ r ∷ [])) f p ≡ restored (drop l.count es) g p = λ p.
    ap (λ xs. restored xs f p) (drop-append-le l.count es (r ∷ []) here) ∙ restored-append (drop l.count es) r f p
    ∙ restored-same (drop l.count es) (restored (r ∷ []) f) g p (sym (is p)) in
    (low, here, within, bound-same namespaces _ _ _ same bound, stacked_back namespaces lists es r f g l.count ls is few rest)

-- ---- the innermost scope

least_below : (namespaces : List NamespaceDecl) (lists : List (List NamespaceDecl)) (es : List ShadowedBinding) (f : Places) (least : ℕ) (ls : List ScopeFrame) (l : ScopeFrame) → Stacked namespaces lists es f least (ls ++ l ∷ []) → least ≤ l.count
least_below namespaces lists es f least [] l h = h.0
least_below namespaces lists es f least (x ∷ ls) l h = let a = h.0 in let b = least_below namespaces lists es f x.count ls l h.4 in omega arith

-- it has the most before it
pub counts_below : (namespaces : List NamespaceDecl) (lists : List (List NamespaceDecl)) (es : List ShadowedBinding) (f : Places) (least n : ℕ) (ls : List ScopeFrame) (l : ScopeFrame) → l.count ≤ n → Stacked namespaces lists es f least (ls ++ l ∷ [])
    → AllByRecursion (λ x. x.count ≤ n) (ls ++ l ∷ [])
counts_below namespaces lists es f least n [] l le h = (le, tt)
counts_below namespaces lists es f least n (x ∷ ls) l le h =
    let b = least_below namespaces lists es f x.count ls l h.4 in
    (omega arith, counts_below namespaces lists es f x.count n ls l le h.4)

pub stacked_pop : (namespaces : List NamespaceDecl) (lists : List (List NamespaceDecl)) (es : List ShadowedBinding) (f : Places) (least : ℕ) (ls : List ScopeFrame) (l : ScopeFrame) → Stacked namespaces lists es f least (ls ++ l ∷ []) → Stacked namespaces lists es f least ls
stacked_pop namespaces lists es f least [] l h = tt
stacked_pop namespaces lists es f least (x ∷ ls) l (low, high, within, bound, rest) = (low, high, within, bound, stacked_pop namespaces lists es f x.count ls l rest)

pub stacked_popped : (namespaces : List NamespaceDecl) (lists : List (List NamespaceDecl)) (es : List ShadowedBinding) (f : Places) (ls : List ScopeFrame) (o : Option ScopeFrame) → Stacked namespaces lists es f 0 (ls ++ option_to_list o) → Stacked namespaces lists es f 0 ls
stacked_popped namespaces lists es f ls None h = subst (Stacked namespaces lists es f 0) (append-nil ls) h
stacked_popped namespaces lists es f ls (Some l) h = stacked_pop namespaces lists es f 0 ls l h

-- its places are these, where nothing was replaced behind it
pub stacked_last : (namespaces : List NamespaceDecl) (lists : List (List NamespaceDecl)) (es : List ShadowedBinding) (f : Places) (least : ℕ) (ls : List ScopeFrame) (l : ScopeFrame) → l.count ≡ length es → Stacked namespaces lists es f least (ls ++ l ∷ [])
    → IsBound namespaces f (scope_at lists l.scope)
stacked_last namespaces lists es f least [] l e h =
    bound-same namespaces (restored (drop l.count es) f) f _ (λ p. ap (λ xs. restored xs f p) (drop_of_length-le es (omega arith))) h.3
stacked_last namespaces lists es f least (x ∷ ls) l e h = stacked_last namespaces lists es f x.count ls l e h.4

pub stacked_push : (namespaces : List NamespaceDecl) (lists : List (List NamespaceDecl)) (es : List ShadowedBinding) (f : Places) (least : ℕ) (ls : List ScopeFrame) (l : ScopeFrame) → l.count ≡ length es → least ≤ length es
    → l.scope < length lists → IsBound namespaces f (scope_at lists l.scope)
    → Stacked namespaces lists es f least ls → Stacked namespaces lists es f least (ls ++ l ∷ [])
stacked_push namespaces lists es f least [] l e low within bound h =
    let none : drop l.count es ≡ [] = drop_of_length-le es (omega arith) in
    (omega arith, omega arith, within, bound-same namespaces f (restored (drop l.count es) f) _ (λ p. ap (λ xs. restored xs f p) (sym none)) bound, tt)
stacked_push namespaces lists es f least (x ∷ ls) l e low within bound (a, b, w, x-bound, rest) =
    (a, b, w, x-bound, stacked_push namespaces lists es f x.count ls l e b within bound rest)

-- ---- a prefix that is given a place

chosen : (b : Bool) (place : Option Binding) (o : Option (Option Binding)) → option_joined (cond b (Some place) o) ≡ cond b place (option_joined o)
chosen true place o = refl
chosen false place o = refl

pub found_set : (default place : Option Binding) (old new : BTreeMap (Bor (List ℕ)) (Option Binding)) (prefix : List ℕ) (p : Option (List ℕ))
    → ((q : List ℕ) → get_by (λ k. slice_cmp nat_cmp q k.now) new ≡ cond (bytes_eq prefix q) (Some place) (get_by (λ k. slice_cmp nat_cmp q k.now) old))
    → found_at default new p ≡ cond (same_prefix (Some prefix) p) place (found_at default old p)
found_set default place old new prefix None h = refl
found_set default place old new prefix (Some q) h = ap option_joined (h q) ∙ chosen (bytes_eq prefix q) place (get_by (λ k. slice_cmp nat_cmp q k.now) old)

pub namespace_chosen : (b : Bool) (place o : Option Binding) → bound_namespace (cond b place o) ≡ cond b (bound_namespace place) (bound_namespace o)
namespace_chosen true place o = refl
namespace_chosen false place o = refl

-- so the namespaces of others stay
pub found_put : (old new : PrefixBindings) (prefix : Option (List ℕ)) (place : Option Binding) → ((p : Option (List ℕ)) → place_in new p ≡ cond (same_prefix prefix p) place (place_in old p))
    → (p : Option (List ℕ)) → bound_place new p ≡ cond (same_prefix prefix p) (bound_namespace place) (bound_place old p)
found_put old new prefix place h p = ap bound_namespace (h p) ∙ namespace_chosen (same_prefix prefix p) place (place_in old p)

-- the last of some
pub last_split : (xs : List ScopeFrame) (x : ScopeFrame) → 0 < length xs → x ≡ get_or xs (length xs - 1) x → xs ≡ take (length xs - 1) xs ++ x ∷ []
last_split xs x some is =
    let n = length xs - 1 in
    sym (take_all (n + 1) xs (omega arith)) ∙ take_more xs n x (omega arith) ∙ ap (λ y. take n xs ++ y ∷ []) (sym is)

-- which of some is the last
last_or : ScopeFrame → List ScopeFrame → ScopeFrame
last_or d [] = d
last_or d (x ∷ xs) = last_or x xs

last_or-append : (d : ScopeFrame) (xs : List ScopeFrame) (x : ScopeFrame) → last_or d (xs ++ x ∷ []) ≡ x
unfolding last_or
last_or-append d [] x = refl
last_or-append d (y ∷ ys) x = last_or-append y ys x

pub last_same : (xs ys : List ScopeFrame) (x y : ScopeFrame) → xs ++ x ∷ [] ≡ ys ++ y ∷ [] → x ≡ y
last_same xs ys x y same = sym (last_or-append x xs x) ∙ ap (last_or x) same ∙ last_or-append x ys y

innermost_last : (ls : List ScopeFrame) (l : ScopeFrame) (count scope : ℕ) → is_innermost (ls ++ l ∷ []) count scope ≡ (l.count == count && l.scope == scope)
innermost_last [] l count scope = refl
innermost_last (x ∷ []) l count scope = refl
innermost_last (x ∷ y ∷ ls) l count scope = innermost_last (y ∷ ls) l count scope

pub innermost_at : (ls : List ScopeFrame) (l : ScopeFrame) (count scope : ℕ) → l.count ≡ count → is_innermost (ls ++ l ∷ []) count scope ≡ (l.scope == scope)
innermost_at ls l count scope same = innermost_last ls l count scope ∙ ap (λ (b : Bool). b && (l.scope == scope)) (eq-eqb l.count count same)

pub innermost_not : (ls : List ScopeFrame) (l : ScopeFrame) (count scope : ℕ) → l.count ≢ count → is_innermost (ls ++ l ∷ []) count scope ≡ false
innermost_not ls l count scope other = innermost_last ls l count scope ∙ ap (λ (b : Bool). b && (l.scope == scope)) (ne_eqb l.count count other)

pub keeps_by : (namespaces : List NamespaceDecl) (lists : List (List NamespaceDecl)) (x : PrefixBindings) (es : List ShadowedBinding) (ls : List ScopeFrame) → x.replaced.items ≡ es → x.layers.items ≡ ls
    → Stacked namespaces lists es (bound_place x) 0 ls → AreBindingsOf namespaces lists x
keeps_by namespaces lists x es ls e l h =
    record { stacked = subst (λ xs. Stacked namespaces lists xs (bound_place x) 0 x.layers.items) (sym e) (subst (λ ys. Stacked namespaces lists es (bound_place x) 0 ys) (sym l) h) }

-- the last one is taken back, where the innermost scope does not have it before it
pub takes_back : (old new : PrefixBindings) (es : List ShadowedBinding) (last : ShadowedBinding) (ls : List ScopeFrame) (l : ScopeFrame)
    → old.replaced.items ≡ es ++ last ∷ [] → l.count ≤ length es → old.layers.items ≡ ls ++ l ∷ [] → new.replaced.items ≡ es → new.layers.items ≡ old.layers.items
    → ((p : Option (List ℕ)) → place_in new p ≡ cond (same_prefix (prefix_view last.prefix) p) last.before (place_in old p)) → KeepsBindings old new
takes_back old new es last ls l all few is entries layers put = λ namespaces lists h.
    let was : Stacked namespaces lists (es ++ last ∷ []) (bound_place old) 0 (ls ++ l ∷ []) =
    subst (λ xs. Stacked namespaces lists xs (bound_place old) 0 (ls ++ l ∷ [])) all (subst (λ ys. Stacked namespaces lists old.replaced.items (bound_place old) 0 ys) is h.stacked) in
    keeps_by namespaces lists new es (ls ++ l ∷ []) entries (layers ∙ is)
    (stacked_back namespaces lists es last (bound_place old) (bound_place new) 0 (ls ++ l ∷ []) (found_put old new _ last.before put) (counts_below namespaces lists (es ++ last ∷ []) (bound_place old) 0 (length es) ls l few was) was)

-- ---- what is found of a list

pub bound_uris : (namespaces : List NamespaceDecl) (f : Places) (ds es : List NamespaceDecl) → ((p : Option (List ℕ)) → uri_of ds p ≡ uri_of es p) → IsBound namespaces f ds → IsBound namespaces f es
bound_uris namespaces f ds es same h = record { within = h.within; uris = λ p. h.uris p ∙ same p }

-- the first of two that is there
abbrev first : Option (List ℕ) → Option (List ℕ) → Option (List ℕ)
first None o = o
first (Some u) o = Some u

uri_first : (xs ys : List NamespaceDecl) (p : Option (List ℕ)) → uri_of (xs ++ ys) p ≡ first (uri_of xs p) (uri_of ys p)
uri_first [] ys p = refl
uri_first (x ∷ xs) ys p = by_cases (same_prefix x.prefix p) (uri_first xs ys p)
  where
    by_cases : (b : Bool) → uri_of (xs ++ ys) p ≡ first (uri_of xs p) (uri_of ys p) → cond b (Some x.uri) (uri_of (xs ++ ys) p) ≡ first (cond b (Some x.uri) (uri_of xs p)) (uri_of ys p)
    by_cases true h = refl
    by_cases false h = h

-- those without the prefixes that a test holds of
uri_filter : (test : Option (List ℕ) → Bool) (ds : List NamespaceDecl) (p : Option (List ℕ)) → uri_of (filter (λ d. not (test d.prefix)) ds) p ≡ cond (test p) None (uri_of ds p)
uri_filter test [] p = none (test p)
  where
    none : (b : Bool) → (let o : Option (List ℕ) = None in o ≡ cond b None o)
    none true = refl
    none false = refl
uri_filter test (d ∷ ds) p = by_cases (test d.prefix) (same_prefix d.prefix p) refl refl (uri_filter test ds p)
  where
    by_cases : (a b : Bool) → test d.prefix ≡ a → same_prefix d.prefix p ≡ b → uri_of (filter (λ d. not (test d.prefix)) ds) p ≡ cond (test p) None (uri_of ds p)
        → uri_of (filter (λ d. not (test d.prefix)) (d ∷ ds)) p ≡ cond (test p) None (uri_of (d ∷ ds) p)
    by_cases true true t s h =
        let here : test p ≡ true = ap test (sym (same_prefix-true d.prefix p s)) ∙ t in
        rw t (h ∙ ap (λ b. cond b None (uri_of ds p)) here ∙ sym (ap (λ b. cond b None (uri_of (d ∷ ds) p)) here))
    by_cases false true t s h =
        let here : test p ≡ false = ap test (sym (same_prefix-true d.prefix p s)) ∙ t in
        rw (t, here, s) refl
    by_cases true false t s h = rw (t, s) h
    by_cases false false t s h = rw (t, s) h

pub bound_hidden : (namespaces ds : List NamespaceDecl) (f g : Places) → ((p : Option (List ℕ)) → g p ≡ cond (same_prefix (Some (word_text Xml)) p) None (f p)) → IsBound namespaces f ds
    → IsBound namespaces g (filter (λ d. not (true && is_xml d.prefix)) ds)
bound_hidden namespaces ds f g is h = record {
  within = λ p. subst (OptionWithin (length namespaces)) (sym (is p)) (hidden (same_prefix (Some (word_text Xml)) p) (f p) (h.within p));
  uris = λ p. ap (option_map (λ i. (namespace_at namespaces i).uri)) (is p) ∙ mapped (same_prefix (Some (word_text Xml)) p) (f p)
      ∙ ap (λ u. cond (same_prefix (Some (word_text Xml)) p) None u) (h.uris p) ∙ ap (λ b. cond b None (uri_of ds p)) (same_prefix-sym (Some (word_text Xml)) p)
      ∙ sym (uri_filter (λ q. true && is_xml q) ds p);
}
  where
    hidden : (b : Bool) (o : Option ℕ) → OptionWithin (length namespaces) o → OptionWithin (length namespaces) (cond b None o)
    hidden true o h = tt
    hidden false o h = h

    mapped : (b : Bool) (o : Option ℕ) → option_map (λ i. (namespace_at namespaces i).uri) (cond b None o) ≡ cond b None (option_map (λ i. (namespace_at namespaces i).uri) o)
    mapped true o = refl
    mapped false o = refl

pub bound_unhidden : (namespaces ds : List NamespaceDecl) (f : Places) → IsBound namespaces f ds → IsBound namespaces f (filter (λ d. not (false && is_xml d.prefix)) ds)
bound_unhidden namespaces ds f h = bound_uris namespaces f ds _ (λ p. sym (uri_filter (λ q. false && is_xml q) ds p)) h

-- what is hidden either way
pub bound_others : (namespaces own ds : List NamespaceDecl) (xml : Bool) (f : Places) → IsBound namespaces f (own ++ filter (λ d. not (xml && is_xml d.prefix)) ds) → IsBound namespaces f (own ++ others own xml ds)
bound_others namespaces own ds xml f h = bound_uris namespaces f _ _ same h
  where
    rest : (p : Option (List ℕ)) (o : Option (List ℕ)) → uri_of own p ≡ o → first o (uri_of (filter (λ d. not (xml && is_xml d.prefix)) ds) p) ≡ first o (uri_of (others own xml ds) p)
    rest p (Some u) e = refl
    rest p None e =
        let other : is_declared p own ≡ false = declared_none own p e in
        uri_filter (λ q. xml && is_xml q) ds p ∙ ap (λ b. cond (b || (xml && is_xml p)) None (uri_of ds p)) (sym other) ∙ sym (uri_filter (λ q. is_declared q own || (xml && is_xml q)) ds p)

    same : (p : Option (List ℕ)) → uri_of (own ++ filter (λ d. not (xml && is_xml d.prefix)) ds) p ≡ uri_of (own ++ others own xml ds) p
    same p = uri_first own _ p ∙ rest p (uri_of own p) refl ∙ sym (uri_first own _ p)

-- one more in front
pub bound_more : (namespaces ds : List NamespaceDecl) (f g : Places) (place : ℕ) → place < length namespaces → ((p : Option (List ℕ)) → g p ≡ cond (same_prefix (namespace_at namespaces place).prefix p) (Some place) (f p))
    → IsBound namespaces f ds → IsBound namespaces g (namespace_at namespaces place ∷ ds)
bound_more namespaces ds f g place here is h = record {
  within = λ p. subst (OptionWithin (length namespaces)) (sym (is p)) (inside (same_prefix (namespace_at namespaces place).prefix p) (f p) (h.within p));
  uris = λ p. ap (option_map (λ i. (namespace_at namespaces i).uri)) (is p) ∙ mapped (same_prefix (namespace_at namespaces place).prefix p) (f p)
      ∙ ap (λ u. cond (same_prefix (namespace_at namespaces place).prefix p) (Some (namespace_at namespaces place).uri) u) (h.uris p);
}
  where
    inside : (b : Bool) (o : Option ℕ) → OptionWithin (length namespaces) o → OptionWithin (length namespaces) (cond b (Some place) o)
    inside true o h = here
    inside false o h = h

    mapped : (b : Bool) (o : Option ℕ) → option_map (λ i. (namespace_at namespaces i).uri) (cond b (Some place) o) ≡ cond b (Some (namespace_at namespaces place).uri) (option_map (λ i. (namespace_at namespaces i).uri) o)
    mapped true o = refl
    mapped false o = refl

-- from the last place on
pub drop_one : (xs : List ℕ) (i d : ℕ) → i < length xs → drop i xs ≡ get_or xs i d ∷ drop (i + 1) xs
drop_one xs i d lt = rw (add-one, drop-cons xs i d) refl

-- what is listed at this position in front
pub bound_here : (rows : List Namespace) (listed : List ℕ) (i : ℕ) (item : Namespace) (ds : List NamespaceDecl) (f g : Places) → ArePlaces (length rows) listed → i < length listed
    → ((p : Option (List ℕ)) → g p ≡ cond (same_prefix (namespace_view (get_or rows (get_or listed i 0) item)).prefix p) (Some (get_or listed i 0)) (f p))
    → IsBound (map namespace_view rows) f ds → IsBound (map namespace_view rows) g (namespace_at (map namespace_view rows) (get_or listed i 0) ∷ ds)
bound_here rows listed i item ds f g ok inside is h =
    let namespaces = map namespace_view rows in
    let place = get_or listed i 0 in
    let here : place < length rows = place_at (length rows) listed i 0 ok inside in
    let e : namespace_view (get_or rows place item) ≡ namespace_at namespaces place = sym (namespace_at-get rows place item here) in
    bound_more namespaces _ f g place (rw (length-map rows namespace_view) here) (λ p. is p ∙ ap (λ (d : NamespaceDecl). cond (same_prefix d.prefix p) (Some place) (f p)) e) h

-- from the back of these places on: one more, all

pub bound_from : (namespaces : List NamespaceDecl) (places : List ℕ) (turn : ℕ) (g : Places) (place : ℕ) → turn < length places → place ≡ get_or places (length places - 1 - turn) 0
    → IsBound namespaces g (namespace_at namespaces place ∷ entries namespaces (drop (length places - turn) places)) → IsBound namespaces g (entries namespaces (drop (length places - (turn + 1)) places))
bound_from namespaces places turn g place lt at h =
    let i = length places - 1 - turn in
    let inside : i < length places = omega arith in
    let first : length places - (turn + 1) ≡ i = omega arith in
    let all : entries namespaces (drop (length places - (turn + 1)) places) ≡ namespace_at namespaces place ∷ entries namespaces (drop (length places - turn) places) =
    ap (λ k. entries namespaces (drop k places)) first ∙ ap (entries namespaces) (drop_one places i 0 inside) ∙ ap (λ p. namespace_at namespaces p ∷ entries namespaces (drop (i + 1) places)) (sym at)
    ∙ ap (λ k. namespace_at namespaces place ∷ entries namespaces (drop k places)) (sym (omega arith)) in
    subst (IsBound namespaces g) (sym all) h

pub bound_all : (namespaces : List NamespaceDecl) (places : List ℕ) (turn : ℕ) (f : Places) → length places ≤ turn → IsBound namespaces f (entries namespaces (drop (length places - turn) places)) → IsBound namespaces f (entries namespaces places)
bound_all namespaces places turn f le h =
    let none : length places - turn ≡ 0 = omega arith in
    subst (λ n. IsBound namespaces f (entries namespaces (drop n places))) none h

-- a stretch from its back: nothing, and one more
pub reverse_none : (xs : List ℕ) (i : ℕ) → reverse (slice_range xs i i) ≡ []
reverse_none xs i = let none : i - i ≡ 0 = omega arith in ap (λ n. reverse (take n (drop i xs))) none

pub reverse_more : (xs : List ℕ) (i j : ℕ) → i ≤ j → j < length xs → reverse (slice_range xs i (j + 1)) ≡ get_or xs j 0 ∷ reverse (slice_range xs i j)
reverse_more xs i j le lt = ap reverse (slice-more xs i j 0 le lt) ∙ reverse-append (slice_range xs i j) (get_or xs j 0 ∷ [])

-- ---- tables that grow

bound_grown : (namespaces more : List NamespaceDecl) (f : Places) (ds : List NamespaceDecl) → IsBound namespaces f ds → IsBound (namespaces ++ more) f ds
bound_grown namespaces more f ds h = record {
  within = λ p. inside (f p) (h.within p);
  uris = λ p. same (f p) (h.within p) ∙ h.uris p;
}
  where
    inside : (o : Option ℕ) → OptionWithin (length namespaces) o → OptionWithin (length (namespaces ++ more)) o
    inside None w = tt
    inside (Some i) w = let n = length-append namespaces more in omega arith

    same : (o : Option ℕ) → OptionWithin (length namespaces) o → option_map (λ i. (namespace_at (namespaces ++ more) i).uri) o ≡ option_map (λ i. (namespace_at namespaces i).uri) o
    same None w = refl
    same (Some i) w = ap (λ (d : NamespaceDecl). Some d.uri) (namespace_at-append namespaces more i w)

stacked_grown : (namespaces more : List NamespaceDecl) (lists more-lists : List (List NamespaceDecl)) (es : List ShadowedBinding) (f : Places) (least : ℕ) (ls : List ScopeFrame)
    → Stacked namespaces lists es f least ls → Stacked (namespaces ++ more) (lists ++ more-lists) es f least ls
stacked_grown namespaces more lists more-lists es f least [] h = tt
stacked_grown namespaces more lists more-lists es f least (l ∷ ls) (low, high, within, bound, rest) =
    let n = length-append lists more-lists in
    let same : scope_at (lists ++ more-lists) l.scope ≡ scope_at lists l.scope = scope_at-append lists more-lists l.scope within in (
      low,
      high,
      omega arith,
      subst (IsBound (namespaces ++ more) (restored (drop l.count es) f)) (sym same) (bound_grown namespaces more (restored (drop l.count es) f) (scope_at lists l.scope) bound),
      stacked_grown namespaces more lists more-lists es f l.count ls rest,
    )

-- the same scopes, in tables that have grown
pub keeps_grown : (namespaces next : List NamespaceDecl) (lists after : List (List NamespaceDecl)) (x : PrefixBindings) (more : List NamespaceDecl) (more-lists : List (List NamespaceDecl)) → next ≡ namespaces ++ more
    → after ≡ lists ++ more-lists → AreBindingsOf namespaces lists x → AreBindingsOf next after x
keeps_grown namespaces next lists after x more more-lists n l h = record {
  stacked = subst (λ ns. Stacked ns after x.replaced.items (bound_place x) 0 x.layers.items) (sym n)
      (subst (λ xs. Stacked (namespaces ++ more) xs x.replaced.items (bound_place x) 0 x.layers.items) (sym l) (stacked_grown namespaces more lists more-lists x.replaced.items (bound_place x) 0 x.layers.items h.stacked));
}

-- ---- what is looked up

-- by the places of prefixes
pub finds_bound : (namespaces : List NamespaceDecl) (x : PrefixBindings) (ds : List NamespaceDecl) → IsBound namespaces (bound_place x) ds → FindsBinding namespaces None x ds
finds_bound namespaces x ds h = record { uris = h.uris }

-- among the places that are listed
pub finds_few : (namespaces : List NamespaceDecl) (places : List ℕ) (x : PrefixBindings) (ds : List NamespaceDecl) → ds ≡ entries namespaces places → FindsBinding namespaces (Some places) x ds
finds_few namespaces places x ds is = record { uris = λ p. ap (λ xs. uri_of xs p) (sym is) }
