-- The loop that lists what an element inherits.
use Rattle.std.proofs.Common.{◌≡◌, ℕ, ◌+◌, ◌<◌, ◌≤◌, ◌&&◌, ◌||◌, not, Bool, true, false, List, [], ◌∷◌, ◌++◌, length, map, drop, get_or, ap, ◌∙◌, arith, append_assoc, slice_range}
use Rattle.std.proofs.lemmas.List.{map-append, append-nil, get_or_default, get_or_append_left}
use Rattle.std.proofs.lemmas.List.Elements.{filter-append}
use Rattle.rox_grammar.specs.Tree.{is_declared, is_xml}
use Rattle.rox_grammar.proofs.Stretches.{slice-more, slice-rest, slice-append}
use Rattle.rox_scopes.specs.declared.namespace.Namespace.{Namespace}
use Rattle.rox_grammar.specs.AtIndex.{namespace_at}
use Rattle.rox_scopes.specs.NamespaceViews.{namespace_view}
use Rattle.rox_scopes.specs.Scopes.{entries, ArePlaces, others}
use Rattle.rox_grammar.proofs.Lists.{all_append}
use Rattle.rox_scopes.proofs.Pairs.{place_at, namespace_at-get}

pub record Inherited (rows : List Namespace) (old : List ℕ) (own : ℕ) (xml : Bool) (from turn end : ℕ) (now : List ℕ) : Type 0 where
  pub end_is : end ≡ length old
  pub more : List ℕ
  pub now_is : now ≡ old ++ more
  pub places : ArePlaces (length rows) more
  pub same : entries (map namespace_view rows) more ≡ others (entries (map namespace_view rows) (drop own old)) xml (entries (map namespace_view rows) (slice_range old from turn))

pub begins : (rows : List Namespace) (old : List ℕ) (own : ℕ) (xml : Bool) (from end : ℕ) → end ≡ length old → Inherited rows old own xml from from end old
begins rows old own xml from end e = grind (arith, append-nil)

-- one more of the parent's
step : (rows : List Namespace) (old : List ℕ) (own : ℕ) (xml : Bool) (from turn : ℕ) → from ≤ turn → turn < length old
    → others (entries (map namespace_view rows) (drop own old)) xml (entries (map namespace_view rows) (slice_range old from (turn + 1)))
    ≡ others (entries (map namespace_view rows) (drop own old)) xml (entries (map namespace_view rows) (slice_range old from turn))
    ++ others (entries (map namespace_view rows) (drop own old)) xml (namespace_at (map namespace_view rows) (get_or old turn 0) ∷ [])
step rows old own xml from turn le lt =
    let namespaces = map namespace_view rows in
    let mine = entries namespaces (drop own old) in
    ap (λ xs. others mine xml (entries namespaces xs)) (slice-more old from turn 0 le lt)
    ∙ ap (others mine xml) (map-append (namespace_at namespaces) (slice_range old from turn) (get_or old turn 0 ∷ []))
    ∙ filter-append (λ d. not (is_declared d.prefix mine || (xml && is_xml d.prefix))) (entries namespaces (slice_range old from turn)) (namespace_at namespaces (get_or old turn 0) ∷ [])

-- it is not declared, and is listed
pub lists : (rows : List Namespace) (old : List ℕ) (own : ℕ) (xml : Bool) (from turn end place : ℕ) (now next : List ℕ) → Inherited rows old own xml from turn end now
    → ArePlaces (length rows) old → from ≤ turn → turn < length old → place ≡ get_or old turn 0
    → (is_declared (namespace_at (map namespace_view rows) place).prefix (entries (map namespace_view rows) (drop own old)) || (xml && is_xml (namespace_at (map namespace_view rows) place).prefix)) ≡ false
    → next ≡ now ++ place ∷ [] → Inherited rows old own xml from (turn + 1) end next
lists rows old own xml from turn end place now next h ok le lt is other push = grind (arith, place_at, append_assoc, all_append, map-append, step)

-- it is declared, and is not listed
pub skips : (rows : List Namespace) (old : List ℕ) (own : ℕ) (xml : Bool) (from turn end place : ℕ) (now : List ℕ) → Inherited rows old own xml from turn end now
    → from ≤ turn → turn < length old → place ≡ get_or old turn 0
    → (is_declared (namespace_at (map namespace_view rows) place).prefix (entries (map namespace_view rows) (drop own old)) || (xml && is_xml (namespace_at (map namespace_view rows) place).prefix)) ≡ true
    → Inherited rows old own xml from (turn + 1) end now
skips rows old own xml from turn end place now h le lt is mine' = grind (arith, step, append-nil)

-- what a turn of the loop looks at, and what its test says
pub looked : (rows : List Namespace) (old : List ℕ) (own : ℕ) (xml : Bool) (from turn end place : ℕ) (now seen : List ℕ) (item : Namespace) (r : Bool)
    → Inherited rows old own xml from turn end now → ArePlaces (length rows) old → own ≤ length old → turn < length old → seen ≡ now → place ≡ get_or now turn place
    → r ≡ (is_declared (namespace_view (get_or rows place item)).prefix (entries (map namespace_view rows) (slice_range seen own end)) || (xml && is_xml (namespace_view (get_or rows place item)).prefix))
    → (place ≡ get_or old turn 0)
    × (r ≡ (is_declared (namespace_at (map namespace_view rows) place).prefix (entries (map namespace_view rows) (drop own old)) || (xml && is_xml (namespace_at (map namespace_view rows) place).prefix)))
looked rows old own xml from turn end place now seen item r h ok within lt same is test =
    let p : place ≡ get_or old turn 0 = is ∙ ap (λ xs. get_or xs turn place) h.now_is ∙ get_or_append_left old h.more place turn lt ∙ get_or_default old turn place 0 lt in
    let here : place < length rows = rw p (place_at (length rows) old turn 0 ok lt) in
    let e : namespace_at (map namespace_view rows) place ≡ namespace_view (get_or rows place item) = namespace_at-get rows place item here in
    grind (arith, slice-append, slice-rest)
