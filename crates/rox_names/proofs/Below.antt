-- The scope of an element, below that of the one around it.
use Rattle.std.proofs.Common.{◌≡◌, ℕ, zero, suc, ◌<◌, ◌≤◌, Bool, true, false, List, [], ◌∷◌, ◌++◌, Option, length, map, drop, reverse, get_or, Bor, refl, sym, ap, subst, ◌∙◌, arith, append_assoc, slice_range}
use Rattle.std.proofs.Math.ListN.{drop_of_length-le}
use Rattle.std.proofs.lemmas.List.{append-nil, map-append, length-map, reverse-reverse}
use Rattle.std.proofs.Math.Seq.{drop-append_seam}
use Rattle.rox_grammar.specs.Written.{NamespaceDecl}
use Rattle.rox_scopes.specs.declared.namespace.Namespace.{Namespace}
use Rattle.rox_scopes.specs.declared.stored_scope.Scope.{Scope}
use Rattle.rox_scopes.specs.declared.stored_scope.Scope.TheVariants as scope
use Rattle.rox_scopes.specs.declared.stored_scope.Stretch.{Stretch}
use Rattle.rox_names.specs.declared.tables.ElementTables.{ElementTables}
use Rattle.rox_scopes.specs.declared.bindings.PrefixBindings.{PrefixBindings}
use Rattle.rox_grammar.specs.AtIndex.{namespace_at, scope_at}
use Rattle.rox_scopes.specs.ScopeRows.{lists_of, AreRows, AreScopes}
use Rattle.rox_scopes.specs.NamespaceViews.{namespace_view}
use Rattle.rox_scopes.specs.Scopes.{entries, places_in, ArePlaces, PrefixesOnce, others, is_few_at}
use Rattle.rox_scopes.specs.Ropes.{IsRope, IsListed, IsScopeOf}
use Rattle.rox_scopes.specs.Bindings.{AreBindingsOf, IsBound, IsEntered, bound_place}
use Rattle.rox_names.specs.TagScopes.{HasFewAbove, HasOpenTag, HasScope, HasBindings, HasBindingsOf, lists_in}
use Rattle.rox_grammar.proofs.Stretches.{slice-rest}
use Rattle.rox_scopes.proofs.Presenting.{keeps_grown}
use Rattle.rox_scopes.proofs.Hiding.{others_none, once_both}
use Rattle.rox_scopes.proofs.Sharing.{inherits_listed, places_behind, same_listed}
use Rattle.rox_scopes.proofs.Ropes.{scope_places, row_places, length-lists, places_in-grown, places_in-listed, lists-grown, lists-listed, scopes_more}

-- what the element declares is hidden, as the tables have it
pub hidden_in : (namespaces seen : List Namespace) (ls seen_ls : List ℕ) (scopes mid : List Scope) (above own i : ℕ) (xml : Bool) → seen ≡ namespaces → seen_ls ≡ ls
    → IsListed (map namespace_view seen) seen_ls scopes seen_ls mid i (others (entries (map namespace_view seen) (drop own seen_ls)) xml (entries (map namespace_view seen) (places_in seen_ls scopes above)))
    → IsListed (map namespace_view namespaces) ls scopes ls mid i (others (entries (map namespace_view namespaces) (drop own ls)) xml (scope_at (lists_of (map namespace_view namespaces) ls scopes) above))
hidden_in namespaces seen ls seen_ls scopes mid above own i xml n l x = rw (scope_places (map namespace_view namespaces) ls scopes above, sym n, sym l) x

-- ---- rows of both

pub joined_listed : (namespaces : List NamespaceDecl) (listed after : List ℕ) (old mid next new : List Scope) (rest first i : ℕ) (os ds : List NamespaceDecl) → IsListed namespaces listed old listed mid rest os → IsListed namespaces listed mid after next first ds
    → IsRope next new i (λ l. places_in l next first ++ places_in l next rest) → IsListed namespaces listed old after new i (ds ++ os)
joined_listed namespaces listed after old mid next new rest first i os ds x y z =
    record {
      more = y.more;
      grown = y.grown;
      places = y.places;
      more_rows = x.more_rows ++ (y.more_rows ++ z.more);
      rows_grown = z.grown ∙ ap (λ xs. xs ++ z.more) y.rows_grown ∙ append_assoc mid y.more_rows z.more ∙ ap (λ xs. xs ++ (y.more_rows ++ z.more)) x.rows_grown ∙ append_assoc old x.more_rows (y.more_rows ++ z.more);
      scopes_are = record { rows = z.rows; within = z.ends (length after) y.scopes_are.within };
      within = z.within;
      lists = ap (entries namespaces) (z.lists after y.scopes_are) ∙ map-append (namespace_at namespaces) (places_in after next first) (places_in after next rest)
          ∙ ap (λ xs. xs ++ entries namespaces (places_in after next rest)) y.lists ∙ ap (λ xs. ds ++ xs) (grind (arith, places_in-grown, places_in-listed));
    }

-- ---- the tables

pub lists_then : (namespaces : List NamespaceDecl) (listed after : List ℕ) (scopes rows : List Scope) (i : ℕ) (ds : List NamespaceDecl) → AreScopes (length listed) scopes → IsListed namespaces listed scopes after rows i ds
    → (more : List (List NamespaceDecl)) × (lists_of namespaces after rows ≡ lists_of namespaces listed scopes ++ more)
lists_then namespaces listed after scopes rows i ds h x =
    let g = lists-grown namespaces after scopes x.more_rows in
    (g.0, ap (lists_of namespaces after) x.rows_grown ∙ g.1 ∙ ap (λ xs. xs ++ g.0) (ap (λ ls. lists_of namespaces ls scopes) x.grown ∙ lists-listed namespaces listed x.more scopes h))

-- the places of prefixes stay
pub kept_then : (namespaces : List NamespaceDecl) (listed after : List ℕ) (scopes rows : List Scope) (i : ℕ) (ds : List NamespaceDecl) (x : PrefixBindings) → AreScopes (length listed) scopes → IsListed namespaces listed scopes after rows i ds
    → AreBindingsOf namespaces (lists_of namespaces listed scopes) x → AreBindingsOf namespaces (lists_of namespaces after rows) x
kept_then namespaces listed after scopes rows i ds x h y kept =
    let l = lists_then namespaces listed after scopes rows i ds h y in
    keeps_grown namespaces namespaces (lists_of namespaces listed scopes) (lists_of namespaces after rows) x [] l.0 (sym (append-nil namespaces)) l.1 kept

pub few_here : (scopes : List Scope) (i : ℕ) (s : Stretch) (t : Scope) → i < length scopes → scope.Few s ≡ get_or scopes i t → is_few_at scopes i ≡ true
few_here [] i s t lt h = absurd (omega arith)
few_here (scope.Few x ∷ ss) zero s t lt h = refl
few_here (scope.Back x ∷ ss) zero s t lt h = cc h
few_here (scope.Concat b ∷ ss) zero s t lt h = cc h
few_here (x ∷ ss) (suc i) s t lt h = few_here ss i s t (omega arith) h

pub few_pushed : (scopes : List Scope) (s : Stretch) → is_few_at (scopes ++ scope.Few s ∷ []) (length scopes) ≡ true
few_pushed [] s = refl
few_pushed (x ∷ ss) s = few_pushed ss s

-- what a row of few lists
pub few_lists : (namespaces : List NamespaceDecl) (ls : List ℕ) (scopes : List Scope) (i : ℕ) (s : Stretch) → AreRows scopes → i < length scopes → scope.Few s ≡ get_or scopes i (scope.Few s)
    → entries namespaces (slice_range ls s.from s.until) ≡ scope_at (lists_of namespaces ls scopes) i
few_lists namespaces ls scopes i s rows lt e = sym (scope_places namespaces ls scopes i ∙ ap (entries namespaces) (row_places ls scopes i (scope.Few s) rows lt e))

-- what is listed behind what an element inherits from a scope of few
pub below_few : (o : ElementTables) (keys : List (Option (Bor (List ℕ)))) (seen : List Namespace) (mid after more : List ℕ) (rows : List Scope) (above own i : ℕ) (xml : Bool) (s : Stretch) → HasFewAbove o keys above own s
    → seen ≡ o.namespaces.items.items → mid ≡ o.listed.items ++ more → ArePlaces (length seen) more
    → entries (map namespace_view seen) more ≡ others (entries (map namespace_view seen) (drop own o.listed.items)) xml (entries (map namespace_view seen) (slice_range o.listed.items s.from s.until))
    → IsListed (map namespace_view o.namespaces.items.items) mid o.scopes.items after rows i (entries (map namespace_view o.namespaces.items.items) (drop own mid))
    → IsListed (map namespace_view o.namespaces.items.items) o.listed.items o.scopes.items after rows i
    (entries (map namespace_view o.namespaces.items.items) (drop own o.listed.items) ++ others (entries (map namespace_view o.namespaces.items.items) (drop own o.listed.items)) xml (scope_at (lists_in o) above))
below_few o keys seen mid after more rows above own i xml s h n grown places is x =
    let namespaces = map namespace_view o.namespaces.items.items in
    let old = o.listed.items in
    let mine = entries namespaces (drop own old) in
    let tag = h.prefixes.tag in
    let ok : ArePlaces (length namespaces) more = subst (λ k. ArePlaces k more) (ap length n ∙ sym (length-map o.namespaces.items.items namespace_view)) places in
    let here : entries namespaces more ≡ others mine xml (entries namespaces (slice_range old s.from s.until)) = cc in
    inherits_listed namespaces old mid after more o.scopes.items rows i own (others mine xml (scope_at (lists_in o) above)) tag.own_within grown (λ k. places_behind (length namespaces) old mid more grown k ok)
    (here ∙ ap (others mine xml) (few_lists namespaces old o.scopes.items above s tag.scopes.rows tag.above_within h.few)) x

-- it is a scope of these tables
pub scope_behind : (o : ElementTables) (after : List ℕ) (rows : List Scope) (i : ℕ) (ds : List NamespaceDecl) → ArePlaces (length o.namespaces.items.items) o.listed.items
    → IsListed (map namespace_view o.namespaces.items.items) o.listed.items o.scopes.items after rows i ds → IsScopeOf (length o.namespaces.items.items) after rows i
scope_behind o after rows i ds ok x = grind (arith, length-map)

-- it has become the innermost
pub stood_in : (namespaces seen : List Namespace) (ls seen_ls : List ℕ) (scopes seen_scopes : List Scope) (x y : PrefixBindings) (i : ℕ) → seen ≡ namespaces → seen_ls ≡ ls → seen_scopes ≡ scopes
    → (AreBindingsOf (map namespace_view seen) (lists_of (map namespace_view seen) seen_ls seen_scopes) x
    → AreBindingsOf (map namespace_view seen) (lists_of (map namespace_view seen) seen_ls seen_scopes) y × IsBound (map namespace_view seen) (bound_place y) (scope_at (lists_of (map namespace_view seen) seen_ls seen_scopes) i))
    → AreBindingsOf (map namespace_view namespaces) (lists_of (map namespace_view namespaces) ls scopes) x
    → AreBindingsOf (map namespace_view namespaces) (lists_of (map namespace_view namespaces) ls scopes) y × IsBound (map namespace_view namespaces) (bound_place y) (scope_at (lists_of (map namespace_view namespaces) ls scopes) i)
stood_in namespaces seen ls seen_ls scopes seen_scopes x y i n l s f = rw (sym n, sym l, sym s) f

pub entered_in : (namespaces seen : List Namespace) (ls seen_ls : List ℕ) (x y : PrefixBindings) (from i : ℕ) (xml : Bool) → seen ≡ namespaces → seen_ls ≡ ls
    → ((lists : List (List NamespaceDecl)) (above : List NamespaceDecl) → AreBindingsOf (map namespace_view seen) lists x → IsBound (map namespace_view seen) (bound_place x) above
    → IsEntered (entries (map namespace_view seen) (reverse (slice_range seen_ls from (length seen_ls)))) xml above lists i → AreBindingsOf (map namespace_view seen) lists y × IsBound (map namespace_view seen) (bound_place y) (scope_at lists i))
    → (lists : List (List NamespaceDecl)) (above : List NamespaceDecl) → AreBindingsOf (map namespace_view namespaces) lists x → IsBound (map namespace_view namespaces) (bound_place x) above
    → IsEntered (entries (map namespace_view namespaces) (reverse (slice_range ls from (length ls)))) xml above lists i → AreBindingsOf (map namespace_view namespaces) lists y × IsBound (map namespace_view namespaces) (bound_place y) (scope_at lists i)
entered_in namespaces seen ls seen_ls x y from i xml n l f = rw (sym n, sym l) f

pub entered : (namespaces : List NamespaceDecl) (listed after : List ℕ) (scopes rows : List Scope) (i own from until : ℕ) (xml : Bool) (above : List NamespaceDecl) → after ≡ listed ++ reverse (drop own listed) → from ≡ length listed → until ≡ length after
    → IsListed namespaces listed scopes after rows i (entries namespaces (drop own listed) ++ others (entries namespaces (drop own listed)) xml above)
    → IsEntered (entries namespaces (reverse (slice_range after from until))) xml above (lists_of namespaces after rows) i
entered namespaces listed after scopes rows i own from until xml above grown begins ends x =
    let back = reverse (drop own listed) in
    let n = length-lists namespaces after rows in
    let slice : slice_range after from until ≡ back =
    ap (slice_range after from) ends ∙ slice-rest after from ∙ ap (λ k. drop k after) begins ∙ ap (drop (length listed)) grown ∙ drop-append_seam listed back in
    let mine : reverse (slice_range after from until) ≡ drop own listed = ap (reverse {A = ℕ}) slice ∙ reverse-reverse (drop own listed) in
    let here : i < length rows = x.within in
    let within : i < length (lists_of namespaces after rows) = omega arith in
    grind (arith, scope_places)

-- what the scope lists that has this place
pub has_scope : (o n : ElementTables) (above own i : ℕ) (xml : Bool) → HasOpenTag o above own → n.namespaces ≡ o.namespaces → n.attributes ≡ o.attributes → HasBindings n → HasBindingsOf n i
    → IsListed (map namespace_view o.namespaces.items.items) o.listed.items o.scopes.items n.listed.items n.scopes.items i
    (entries (map namespace_view o.namespaces.items.items) (drop own o.listed.items) ++ others (entries (map namespace_view o.namespaces.items.items) (drop own o.listed.items)) xml (scope_at (lists_in o) above))
    → HasScope o n above own xml i
has_scope o n above own i xml tag same attributes kept present x =
    let namespaces = map namespace_view o.namespaces.items.items in
    let mine = entries namespaces (drop own o.listed.items) in
    let h = scopes_more own (length o.listed.items) o.scopes.items tag.own_within tag.scopes in
    let l = lists_then namespaces o.listed.items n.listed.items o.scopes.items n.scopes.items i (mine ++ others mine xml (scope_at (lists_in o) above)) h x in
    let lists : scope_at (lists_in n) i ≡ mine ++ others mine xml (scope_at (lists_in o) above) = grind (arith, scope_places) in
    record {
      namespaces = same;
      attributes = attributes;
      more = l.0;
      lists_more = ap (λ ns. lists_of ns n.listed.items n.scopes.items) (ap (λ v. map namespace_view v.items.items) same) ∙ l.1;
      places = subst (λ v. ArePlaces (length v.items.items) n.listed.items) (sym same) (scope_behind o n.listed.items n.scopes.items i _ tag.places x).places;
      scopes = x.scopes_are;
      within = x.within;
      lists = lists;
      once = subst PrefixesOnce (sym lists) (once_both mine xml (scope_at (lists_in o) above) tag.own_once tag.once);
      kept = kept;
      present = present;
    }

-- nothing is declared
pub nothing_listed : (o : ElementTables) (above own : ℕ) (xml : Bool) → HasOpenTag o above own → length o.listed.items ≤ own → xml ≡ false
    → IsListed (map namespace_view o.namespaces.items.items) o.listed.items o.scopes.items o.listed.items o.scopes.items above
    (entries (map namespace_view o.namespaces.items.items) (drop own o.listed.items) ++ others (entries (map namespace_view o.namespaces.items.items) (drop own o.listed.items)) xml (scope_at (lists_in o) above))
nothing_listed o above own xml tag none off = grind (arith, drop_of_length-le, same_listed, scope_places, others_none)
