-- The attributes of the tag of a root element, taken one after another before their names are resolved.
use Rattle.std.proofs.Common.{◌≡◌, ℕ, suc, ◌+◌, ◌-◌, ◌<◌, ◌≤◌, ◌==◌, Bool, true, false, List, [], ◌∷◌, ◌++◌, Option, Some, None, Ok, length, map, slice_index, refl, ap, subst, sym, ◌∙◌, arith, IfSome}
use Rattle.std.specs.List.{AllByRecursion}
use Rattle.std.proofs.lemmas.List.{length-map, map-append}
use Rattle.rox_grammar.specs.declared.fault.Fault.{Fault}
use Rattle.rox_grammar.specs.Names.{spaces_end}
use Rattle.rox_grammar.specs.Tree.{attribute_in}
use Rattle.rox_grammar.specs.Written.{NamespaceDecl}
use Rattle.rox_reading.specs.Markup.{TagItem, opened, closed, tag_item_at}
use Rattle.rox_reading.specs.Tags.{Values, attributes_at, names_tested}
use Rattle.rox_rows.specs.Rows.{AttributeRow, NamespaceWithin, attribute, attribute_rows}
use Rattle.rox_scopes.specs.NamespaceViews.{namespace_view}
use Rattle.rox_scopes.specs.declared.stored_scope.Scope.{Scope}
use Rattle.rox_names.specs.TagDeclarations.{unresolved_view}
use Rattle.rox_names.specs.TagScopes.{scope_in_tables}
use Rattle.rox_names.specs.declared.tables.ElementTables.{ElementTables}
use Rattle.rox_names.specs.declared.unresolved_attribute.UnresolvedAttribute.{UnresolvedAttribute}
use Rattle.rox_bytes.proofs.RunLemmas.{stands_within}
use Rattle.rox_tags.specs.DeferredNames.{HasTaken, ResolvesTaken, TakesPlain}
use Rattle.rox_tags.specs.PlainParts.{EndsTag}
use Rattle.rox_tags.specs.TagAttributes.{AreNoBindings, ArePlainAttributes, BeginsRoot, DeclaresInRoot, HasGrown, HasRootScope, ListsDeclaration, first_places, holding}
use Rattle.rox_tags.specs.declared.quick_tag.TagEnd.{TagEnd}
use Rattle.rox_tags.proofs.PlainTags.{item_closed, item_opened}
use Rattle.rox_tags.proofs.TagAttributes.{IsEnd, begins_in, end_is, taken_declared, taken_other, turn_is}

-- ---- one after another

-- The attributes `taken` and the declarations of the tag from `start` up to `i` were read. The declarations are in the tables.
pub record TakesSoFar (such : Values → Type 0) (old now : ElementTables) (src : List ℕ) (start i : ℕ) (taken : List UnresolvedAttribute) : Type 0 where
  pub own : List NamespaceDecl
  pub declares : DeclaresInRoot old now 1 own
  pub kept : attribute_rows now.attributes ≡ attribute_rows old.attributes
  pub turns : ℕ
  pub enough : turns + start ≤ i
  pub read : (context : Values) → such context → (cut : Fault) (openings_left rest : ℕ)
      → attributes_at (turns + rest) context cut [] src start openings_left (holding [] []) ≡ attributes_at rest context cut [] src i openings_left (holding own (map unresolved_view taken))

pub takes_start : {such : Values → Type 0} (t : ElementTables) (src : List ℕ) (start : ℕ) → BeginsRoot t → TakesSoFar such t t src start start []
takes_start t src start h = record {
  own = [];
  declares = begins_in true t 1 (h, refl);
  kept = refl;
  turns = 0;
  enough = omega arith;
  read = grind arith;
}

-- an attribute more
pub takes_more : {such : Values → Type 0} (old t : ElementTables) (src : List ℕ) (start i k j : ℕ) (xs next : List UnresolvedAttribute) → TakesSoFar such old t src start i xs → TakesPlain such src k j xs next
    → i ≤ k → k ≡ spaces_end src i → (k ≡ i → ⊥) → (slice_index src k == 47) ≡ false → (slice_index src k == 62) ≡ false → TakesSoFar such old t src start j next
takes_more old t src start i k j xs next g x onward spaces some slash close =
    let view = unresolved_view x.one in
    let held = holding g.own (map unresolved_view xs) in
    let on = x.plain.onward in
    let enough = g.enough in
    let end = x.end in
    let grown : map unresolved_view next ≡ map unresolved_view xs ++ view ∷ [] = ap (map unresolved_view) x.items ∙ map-append unresolved_view xs (x.one ∷ []) in
    record {
      own = g.own;
      declares = g.declares;
      kept = g.kept;
      turns = g.turns + 1;
      enough = omega arith;
      read = λ context main cut openings_left rest.
          rw (grown, ← end)
          (ap (λ (m : ℕ). attributes_at m context cut [] src start openings_left (holding [] [])) (omega arith) ∙ g.read context main cut openings_left (suc rest)
          ∙ turn_is src i k rest x.one held _ context cut [] openings_left main x.plain onward spaces some slash close (taken_other [] view held x.other));
    }

-- a declaration more
pub takes_declared : {such : Values → Type 0} (old t new : ElementTables) (src : List ℕ) (start i k j : ℕ) (xs : List UnresolvedAttribute) → TakesSoFar such old t src start i xs
    → new ≡ record t { namespaces = new.namespaces; listed = new.listed; scopes = new.scopes }
    → ((own : Scope) → t.scopes.items ≡ first_places 0 ∷ own ∷ [] → new.scopes.items ≡ first_places 0 ∷ first_places (length new.listed.items) ∷ []) → ListsDeclaration such t new src k j
    → i ≤ k → k ≡ spaces_end src i → (k ≡ i → ⊥) → (slice_index src k == 47) ≡ false → (slice_index src k == 62) ≡ false → TakesSoFar such old new src start j xs
takes_declared old t new src start i k j xs g is scopes l onward spaces some slash close =
    let d = g.declares in
    let view = unresolved_view l.one in
    let written = map unresolved_view xs in
    let held = holding g.own written in
    let on = l.plain.onward in
    let enough = g.enough in
    let end = l.end in
    let listed = l.listed d.keys d.has in
    let made = listed.value [] [] held refl d.declares in
    let present : new.present ≡ t.present = ap (λ (u : ElementTables). u.present) is in
    let root : HasRootScope new = record { scopes = scopes (first_places (length t.listed.items)) d.scope.scopes; present = subst AreNoBindings (sym present) d.scope.present } in
    record {
      own = made.0;
      declares = record { root = refl; known = d.known; declares = made.2; keys = d.keys; has = listed.own; scope = root };
      kept = ap (λ (u : ElementTables). attribute_rows u.attributes) is ∙ g.kept;
      turns = g.turns + 1;
      enough = omega arith;
      read = λ context main cut openings_left rest.
          rw (← end)
          (ap (λ (m : ℕ). attributes_at m context cut [] src start openings_left (holding [] [])) (omega arith) ∙ g.read context main cut openings_left (suc rest)
          ∙ turn_is src i k rest l.one held (holding made.0 written) context cut [] openings_left main l.plain onward spaces some slash close (taken_declared [] view held (holding made.0 written) l.is made.1));
    }

-- ---- the end of the tag

taken_to : {such : Values → Type 0} (old t : ElementTables) (src : List ℕ) (start i j : ℕ) (item : TagItem) (empty : Bool) (xs : List UnresolvedAttribute) → TakesSoFar such old t src start i xs → i < length src → tag_item_at src i ≡ Ok (item, j) → i ≤ j → IsEnd item empty
    → HasTaken such old t src start j empty xs
taken_to old t src start i j item empty xs g within is onward h =
    let nothing : map namespace_view old.namespaces.items.items ≡ [] = ap (map namespace_view) g.declares.known in
    let enough = g.enough in
    record {
      own = g.own;
      declares = g.declares;
      onward = omega arith;
      read = λ context main cut openings_left turns before fits none.
          let rest = turns - g.turns - 1 in
          rw (none, nothing)
          (ap (λ (m : ℕ). attributes_at m context cut [] src start openings_left (holding [] [])) (omega arith) ∙ g.read context main cut openings_left (suc rest)
          ∙ end_is src i rest j item empty (holding g.own (map unresolved_view xs)) context cut [] openings_left within is h);
    }

pub takes_ends : {such : Values → Type 0} (old t : ElementTables) (src : List ℕ) (start i j : ℕ) (r : Option TagEnd) (xs : List UnresolvedAttribute) → TakesSoFar such old t src start i xs → i ≤ j → j ≡ spaces_end src i → EndsTag src j r
    → IfSome r (λ e. HasTaken such old t src start e.at e.empty xs)
takes_ends {such = such} old t src start i j None xs g onward spaces ends = tt
takes_ends {such = such} old t src start i j (Some e) xs g onward spaces ends = which e.empty refl
  where
    which : (b : Bool) → e.empty ≡ b → HasTaken such old t src start e.at e.empty xs
    which false is =
        let o = ends.opens is in
        let within = stands_within src j 62 o.0 (omega arith) in
        rw (o.1, is) (taken_to old t src start i (j + 1) opened false xs g (omega arith) (item_opened src i j spaces o.0) (omega arith) refl)
    which true is =
        let c = ends.closes is in
        let within = stands_within src j 47 c.0 (omega arith) in
        rw (c.1.1, is) (taken_to old t src start i (j + 2) closed true xs g (omega arith) (item_closed src i j spaces c.0 c.1.0) (omega arith) refl)

-- ---- the names are resolved

pub deferred_plain : {such : Values → Type 0} (old t new : ElementTables) (src : List ℕ) (start end : ℕ) (empty : Bool) (xs : List UnresolvedAttribute) → HasTaken such old t src start end empty xs → attribute_rows t.attributes ≡ attribute_rows old.attributes
    → new ≡ record t { attributes = new.attributes } → ResolvesTaken t new xs → ArePlainAttributes such true 1 old new src start end empty
deferred_plain old t new src start end empty xs g kept is r =
    let spaces : map namespace_view new.namespaces.items.items ≡ map namespace_view t.namespaces.items.items = ap (λ (u : ElementTables). map namespace_view u.namespaces.items.items) is in
    let lists : scope_in_tables new 1 ≡ scope_in_tables t 1 = ap (λ (u : ElementTables). scope_in_tables u 1) is in
    let more = r.1.0 in
    let d = g.declares in
    record {
      own = g.own;
      declares = subst (λ (u : ElementTables). DeclaresInRoot old u 1 g.own) (sym is)
          (record { root = d.root; known = d.known; declares = d.declares; keys = d.keys; has = d.has; scope = record { scopes = d.scope.scopes; present = d.scope.present } });
      onward = g.onward;
      written = map unresolved_view xs;
      more = more;
      rows = r.1.1 ∙ ap (λ (ys : List AttributeRow). ys ++ more) kept;
      within = rw spaces (subst (λ (n : ℕ). AllByRecursion (λ (a : AttributeRow). NamespaceWithin n a.0.namespace) more) (sym (length-map t.namespaces.items.items namespace_view)) r.1.3);
      shown = subst (λ (ds : List NamespaceDecl). map (attribute (map namespace_view new.namespaces.items.items)) more ≡ map (attribute_in ds) (map unresolved_view xs)) (sym lists) (rw spaces r.1.2);
      tested = subst (λ (ds : List NamespaceDecl). names_tested ds [] (map unresolved_view xs) ≡ Ok tt) (sym lists) r.0;
      read = g.read;
    }

-- ---- where no attribute was in the table before

nothing_in : {A : Type 0} (xs : List A) → length xs ≡ 0 → xs ≡ []
nothing_in [] none = refl
nothing_in (x ∷ xs) none = absurd (omega arith)

pub none_grown : (old new : ElementTables) → length (attribute_rows old.attributes) ≡ 0 → HasGrown true old new
none_grown old new none = record {
  more = attribute_rows new.attributes;
  rows = rw (nothing_in (attribute_rows old.attributes) none) refl;
  others = λ no. absurd (cc no);
}
