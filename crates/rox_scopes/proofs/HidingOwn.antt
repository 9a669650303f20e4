-- What an element declares is hidden in what it inherits.
use Rattle.std.proofs.Common.{◌≡◌, ℕ, ◌+◌, ◌-◌, ◌<◌, ◌≤◌, Bool, true, false, List, [], ◌∷◌, ◌++◌, Option, Some, None, length, map, drop, get_or, sym, ap, subst, ◌∙◌, arith, length-drop, slice_range}
use Rattle.std.proofs.lemmas.List.{map-append, take_all}
use Rattle.rox_grammar.specs.declared.fault.Word.TheVariants.{Xml}
use Rattle.rox_grammar.specs.FixedTexts.{word_text}
use Rattle.rox_grammar.specs.Written.{NamespaceDecl}
use Rattle.rox_grammar.specs.Tree.{is_declared}
use Rattle.rox_scopes.specs.declared.namespace.Namespace.{Namespace}
use Rattle.rox_scopes.specs.declared.stored_scope.Scope.{Scope}
use Rattle.rox_grammar.specs.AtIndex.{namespace_at}
use Rattle.rox_scopes.specs.ScopeRows.{AreScopes}
use Rattle.rox_scopes.specs.NamespaceViews.{namespace_view}
use Rattle.rox_scopes.specs.Scopes.{entries, places_in, ArePlaces, others, unlisted}
use Rattle.rox_scopes.specs.Ropes.{IsListed}
use Rattle.rox_scopes.specs.Bindings.{IsBound}
use Rattle.rox_scopes.proofs.Pairs.{place_at, namespace_at-get, declared_none}
use Rattle.rox_grammar.proofs.Stretches.{slice-more}
use Rattle.rox_scopes.proofs.Hiding.{others_more, others_none, others_xml, absent_others}
use Rattle.rox_scopes.proofs.Sharing.{same_listed, listed_then}

pub listed_is : (namespaces : List NamespaceDecl) (listed after : List ℕ) (old new : List Scope) (a : ℕ) (ds es : List NamespaceDecl) → IsListed namespaces listed old after new a ds → ds ≡ es → IsListed namespaces listed old after new a es
listed_is namespaces listed after old new a ds es x is = subst (IsListed namespaces listed old after new a) is x

-- ---- what the element declares is hidden

pub hides_none : (namespaces : List NamespaceDecl) (listed : List ℕ) (scopes : List Scope) (i own : ℕ) → AreScopes (length listed) scopes → i < length scopes
    → IsListed namespaces listed scopes listed scopes i (others (entries namespaces (slice_range listed own own)) false (entries namespaces (places_in listed scopes i)))
hides_none namespaces listed scopes i own h lt = grind (arith, same_listed, others_none)

pub hides_more : (rows : List Namespace) (listed : List ℕ) (old mid new : List Scope) (own turn place left next : ℕ) (item : Namespace) (p : Option (List ℕ)) (ds : List NamespaceDecl)
    → own ≤ turn → turn < length listed → ArePlaces (length rows) listed → place ≡ get_or listed turn 0 → p ≡ (namespace_view (get_or rows place item)).prefix
    → IsListed (map namespace_view rows) listed old listed mid left (others (entries (map namespace_view rows) (slice_range listed own turn)) false ds)
    → IsListed (map namespace_view rows) listed mid listed new next (unlisted p (entries (map namespace_view rows) (places_in listed mid left)))
    → IsListed (map namespace_view rows) listed old listed new next (others (entries (map namespace_view rows) (slice_range listed own (turn + 1))) false ds)
hides_more rows listed old mid new own turn place left next item p ds le lt ok same is x y =
    let namespaces = map namespace_view rows in
    let seen = slice_range listed own turn in
    let last = get_or listed turn 0 in
    let here : place < length rows = subst (λ i. i < length rows) (sym same) (place_at (length rows) listed turn 0 ok lt) in
    let prefix : p ≡ (namespace_at namespaces last).prefix = is ∙ ap (λ (d : NamespaceDecl). d.prefix) (sym (namespace_at-get rows place item here)) ∙ ap (λ i. (namespace_at namespaces i).prefix) same in
    let more : entries namespaces (slice_range listed own (turn + 1)) ≡ entries namespaces seen ++ namespace_at namespaces last ∷ [] =
    ap (entries namespaces) (slice-more listed own turn 0 le lt) ∙ map-append (namespace_at namespaces) seen (last ∷ []) in
    grind (arith, listed_then, others_more)

pub hides_all : (listed : List ℕ) (own turn : ℕ) → length listed ≤ turn → slice_range listed own turn ≡ drop own listed
hides_all listed own turn le = take_all (turn - own) (drop own listed) (rw length-drop (omega arith))

-- all of it, and `xml` too if the flag says so
pub hides_xml : (namespaces : List NamespaceDecl) (listed : List ℕ) (old mid new : List Scope) (own turn left next : ℕ) (xml : Bool) (ds : List NamespaceDecl) → length listed ≤ turn → xml ≡ true
    → IsListed namespaces listed old listed mid left (others (entries namespaces (slice_range listed own turn)) false ds)
    → IsListed namespaces listed mid listed new next (unlisted (Some (word_text Xml)) (entries namespaces (places_in listed mid left)))
    → IsListed namespaces listed old listed new next (others (entries namespaces (drop own listed)) xml ds)
hides_xml namespaces listed old mid new own turn left next xml ds le on x y =
    let seen = slice_range listed own turn in
    let mine = entries namespaces (drop own listed) in
    listed_is namespaces listed listed old new next (unlisted (Some (word_text Xml)) (entries namespaces (places_in listed mid left))) (others mine xml ds)
    (listed_then namespaces listed old mid new left next (others (entries namespaces seen) false ds) (unlisted (Some (word_text Xml)) (entries namespaces (places_in listed mid left))) x y)
    (ap (unlisted (Some (word_text Xml))) x.lists ∙ others_xml (entries namespaces seen) ds ∙ ap (λ xs. others (entries namespaces xs) true ds) (hides_all listed own turn le) ∙ ap (λ b. others mine b ds) (sym on))

pub hides_own : (namespaces : List NamespaceDecl) (listed : List ℕ) (old mid : List Scope) (own turn left : ℕ) (xml : Bool) (ds : List NamespaceDecl) → length listed ≤ turn → xml ≡ false
    → IsListed namespaces listed old listed mid left (others (entries namespaces (slice_range listed own turn)) false ds) → IsListed namespaces listed old listed mid left (others (entries namespaces (drop own listed)) xml ds)
hides_own namespaces listed old mid own turn left xml ds le off x = grind (arith, hides_all)

-- a prefix without a place is not among what is left
pub absent_bound : (namespaces : List NamespaceDecl) (f : Option (List ℕ) → Option ℕ) (own ds left : List NamespaceDecl) (xml : Bool) (p : Option (List ℕ)) → IsBound namespaces f ds → left ≡ others own xml ds → f p ≡ None
    → is_declared p left ≡ false
absent_bound namespaces f own ds left xml p h e none = grind (arith, absent_others, declared_none)
