-- The scope of a start tag, from that of its parent.
use Rattle.std.proofs.Common.{◌≡◌, ℕ, ◌+◌, ◌-◌, ◌<◌, ◌≤◌, List, [], ◌∷◌, ◌++◌, length, take, drop, reverse, get_or, refl, sym, ap, subst, ◌∙◌, arith, length-append, length-drop, get_or-drop, append_assoc, slice_range}
use Rattle.std.proofs.Math.Seq.{drop-append_seam}
use Rattle.std.proofs.lemmas.List.{append-nil, map-append, drop-append-le, take_all, take_more, get_or-reverse, length-reverse, reverse-reverse, get_or_append_left}
use Rattle.rox_grammar.specs.Written.{NamespaceDecl}
use Rattle.rox_scopes.specs.declared.stored_scope.Scope.{Scope}
use Rattle.rox_scopes.specs.declared.stored_scope.Scope.TheVariants as scope
use Rattle.rox_scopes.specs.declared.stored_scope.Stretch.{Stretch}
use Rattle.rox_scopes.specs.ScopeRows.{AreScopes}
use Rattle.rox_scopes.specs.Scopes.{entries, places_in, ArePlaces}
use Rattle.rox_scopes.specs.Ropes.{IsRope, IsListed}
use Rattle.rox_grammar.proofs.Lists.{all_append, all_drop}
use Rattle.rox_grammar.proofs.Stretches.{slice-rest}
use Rattle.rox_scopes.proofs.Ropes.{all_reverse, scopes_more, scopes_push, pushed_places}

-- ---- what is listed once more, in reverse order

pub record Turned (old : List ℕ) (from turn end : ℕ) (now : List ℕ) : Type 0 where
  pub end_is : end ≡ length old
  pub now_is : now ≡ old ++ take turn (reverse (drop from old))

pub turn_more : (old : List ℕ) (from turn end place d : ℕ) (now next : List ℕ) → Turned old from turn end now → from ≤ length old → turn < end - from → place ≡ get_or now (end - 1 - turn) d → next ≡ now ++ place ∷ []
    → Turned old from (turn + 1) end next
turn_more old from turn end place d now next h le lt is push =
    let rest = drop from old in
    let n : length rest ≡ length old - from = length-drop from old in
    let m = length-reverse rest in
    let low : end - 1 - turn < length old = omega arith in
    let at : from + (length rest - 1 - turn) ≡ end - 1 - turn = omega arith in
    let one : get_or (reverse rest) turn d ≡ get_or old (end - 1 - turn) d =
    get_or-reverse rest turn d (omega arith) ∙ (rw get_or-drop refl) ∙ ap (λ j. get_or old j d) at in
    let same : place ≡ get_or (reverse rest) turn d = is ∙ ap (λ xs. get_or xs (end - 1 - turn) d) h.now_is ∙ get_or_append_left old (take turn (reverse rest)) d (end - 1 - turn) low ∙ sym one in
    grind (arith, append_assoc, take_more)

pub turn_ends : (old : List ℕ) (from turn end : ℕ) (now : List ℕ) → Turned old from turn end now → end - from ≤ turn → now ≡ old ++ reverse (drop from old)
turn_ends old from turn end now h le = grind (arith, length-drop, length-reverse, take_all)

-- a row that reads it from its back
pub turned_listed : (namespaces : List NamespaceDecl) (old new : List ℕ) (scopes after : List Scope) (s : Stretch) (i from : ℕ) → new ≡ old ++ reverse (drop from old) → s.from ≡ length old → s.until ≡ length new
    → AreScopes (length old) scopes → after ≡ scopes ++ scope.Back s ∷ [] → i ≡ length scopes → IsListed namespaces old scopes new after i (entries namespaces (drop from old))
turned_listed namespaces old new scopes after s i from grown begins ends h push last =
    let more = reverse (drop from old) in
    let n : length new ≡ length old + length more = ap length grown ∙ length-append old more in
    let l = ap length push ∙ length-append scopes (scope.Back s ∷ []) in
    let slice : slice_range new s.from s.until ≡ more = grind (arith, slice-rest, drop-append_seam) in
    record {
      more = more;
      grown = grown;
      places = λ h. let n = length namespaces in subst (ArePlaces n) (sym grown) (all_append (λ i. i < n) old more h (all_reverse n (drop from old) (all_drop (λ i. i < n) from old h)));
      more_rows = scope.Back s ∷ [];
      rows_grown = push;
      scopes_are = scopes_push (length new) scopes after (scope.Back s) push (scopes_more (length old) (length new) scopes (omega arith) h) (omega arith) (omega arith);
      within = omega arith;
      lists = ap (entries namespaces) (pushed_places new scopes after (scope.Back s) i push last ∙ ap (reverse {A = ℕ}) slice ∙ reverse-reverse (drop from old));
    }

-- a row of few
pub few_listed : (namespaces : List NamespaceDecl) (old : List ℕ) (scopes after : List Scope) (s : Stretch) (i own : ℕ) → s.from ≡ own → own ≤ length old → s.until ≡ length old
    → AreScopes (length old) scopes → after ≡ scopes ++ scope.Few s ∷ [] → i ≡ length scopes → IsListed namespaces old scopes old after i (entries namespaces (drop own old))
few_listed namespaces old scopes after s i own begins le ends h push last =
    let l = ap length push ∙ length-append scopes (scope.Few s ∷ []) in
    record {
      more = [];
      grown = sym (append-nil old);
      places = λ h. h;
      more_rows = scope.Few s ∷ [];
      rows_grown = push;
      scopes_are = scopes_push (length old) scopes after (scope.Few s) push h (omega arith) (omega arith);
      within = omega arith;
      lists = ap (entries namespaces) (pushed_places old scopes after (scope.Few s) i push last ∙ ap (slice_range old s.from) ends ∙ slice-rest old s.from ∙ ap (λ k. drop k old) begins);
    }

-- more places behind others
pub places_behind : (n : ℕ) (old mid more : List ℕ) → mid ≡ old ++ more → ArePlaces n old → ArePlaces n more → ArePlaces n mid
places_behind n old mid more grown h k = subst (ArePlaces n) (sym grown) (all_append (λ i. i < n) old more h k)

pub scopes_behind : (old mid more : List ℕ) (scopes : List Scope) → mid ≡ old ++ more → AreScopes (length old) scopes → AreScopes (length mid) scopes
scopes_behind old mid more scopes grown h = let n = ap length grown ∙ length-append old more in scopes_more (length old) (length mid) scopes (omega arith) h

pub within_behind : {A : Type 0} (old mid more : List A) (i : ℕ) → mid ≡ old ++ more → i ≤ length old → i ≤ length mid
within_behind old mid more i grown h = let n = ap length grown ∙ length-append old more in omega arith

-- behind what was inherited
pub inherits_listed : (namespaces : List NamespaceDecl) (old mid new more : List ℕ) (scopes after : List Scope) (i own : ℕ) (ds : List NamespaceDecl) → own ≤ length old → mid ≡ old ++ more → (ArePlaces (length namespaces) old → ArePlaces (length namespaces) mid)
    → entries namespaces more ≡ ds → IsListed namespaces mid scopes new after i (entries namespaces (drop own mid)) → IsListed namespaces old scopes new after i (entries namespaces (drop own old) ++ ds)
inherits_listed namespaces old mid new more scopes after i own ds le grown places is x = grind (arith, append_assoc, drop-append-le, map-append)

-- ---- what is hidden

pub same_listed : (namespaces : List NamespaceDecl) (listed : List ℕ) (scopes : List Scope) (i : ℕ) (ds : List NamespaceDecl) → AreScopes (length listed) scopes → i < length scopes → entries namespaces (places_in listed scopes i) ≡ ds
    → IsListed namespaces listed scopes listed scopes i ds
same_listed namespaces listed scopes i ds h lt is = record {
  more = [];
  grown = sym (append-nil listed);
  places = λ h. h;
  more_rows = [];
  rows_grown = sym (append-nil scopes);
  scopes_are = h;
  within = lt;
  lists = is;
}

pub rope_listed : (namespaces : List NamespaceDecl) (listed : List ℕ) (scopes after : List Scope) (i : ℕ) (f : List ℕ → List ℕ) (ds : List NamespaceDecl) → AreScopes (length listed) scopes → IsRope scopes after i f
    → entries namespaces (f listed) ≡ ds → IsListed namespaces listed scopes listed after i ds
rope_listed namespaces listed scopes after i f ds h x is = record {
  more = [];
  grown = sym (append-nil listed);
  places = λ h. h;
  more_rows = x.more;
  rows_grown = x.grown;
  scopes_are = record { rows = x.rows; within = x.ends (length listed) h.within };
  within = x.within;
  lists = ap (entries namespaces) (x.lists listed h) ∙ is;
}

-- rows behind rows, of the same listed places
pub listed_then : (namespaces : List NamespaceDecl) (listed : List ℕ) (old mid new : List Scope) (a b : ℕ) (ds es : List NamespaceDecl) → IsListed namespaces listed old listed mid a ds → IsListed namespaces listed mid listed new b es
    → IsListed namespaces listed old listed new b es
listed_then namespaces listed old mid new a b ds es x y = grind (arith, append_assoc)
