-- The row of an element whose start tag was read.
use Rattle.std.proofs.Common.{◌≡◌, ℕ, ◌+◌, ◌<◌, List, [], ◌∷◌, ◌++◌, length, map, drop, refl, sym, ap, subst, ◌∙◌, arith, length-append, Option, Bool, true, false, Result, Ok, Err, OnOk}
use Rattle.std.specs.List.{AllByRecursion, slice_range}
use Rattle.std.proofs.lemmas.List.{length-map}
use Rattle.rox_grammar.specs.declared.fault.Fault.{Fault}
use Rattle.rox_grammar.specs.Failures.{name_view}
use Rattle.rox_grammar.specs.Forest.{Nil, join}
use Rattle.rox_grammar.specs.Written.{NamespaceDecl, Tag, Item, Element, leaf}
use Rattle.rox_grammar.specs.Tree as tree
use Rattle.rox_grammar.specs.Tree.{listed, attribute_in, element_namespace, node_in}
use Rattle.rox_grammar.specs.Counts.{listable, with_new, distinct_pairs}
use Rattle.rox_reading.specs.Tags.{tag_at}
use Rattle.rox_grammar.specs.State.{inside, scope_of, pairs_so_far, attributes_so_far}
use Rattle.rox_reading.specs.State.{State}
use Rattle.rox_reading.specs.Refusals.{lifted}
use Rattle.rox_grammar.specs.Faults.{cut_off}
use Rattle.rox_reading.specs.Machine.{Context, tag_step, opened_by, counted}
use Rattle.rox_values.specs.Refusals.{IsRefusal}
use Rattle.rox_values.specs.declared.parse_error.ParseError.{ParseError}
use Rattle.rox_values.proofs.PartLemmas.{refuses_by}
use Rattle.rox_scan.specs.declared.cursor.Cursor.{Cursor}
use Rattle.rox_grammar.specs.declared.failure.Failure.{Failure}
use Rattle.rox_rows.specs.Rows.{node, numbered_place, attribute, NamespaceWithin, AttributeRow, attribute_rows}
use Rattle.rox_grammar.specs.AtIndex.{scope_at}
use Rattle.rox_scopes.specs.NamespaceViews.{namespace_view}
use Rattle.rox_scopes.specs.Scopes.{PrefixesOnce}
use Rattle.rox_names.specs.TagScopes.{lists_in}
use Rattle.rox_starts.specs.ElementRow.{Tagged}
use Rattle.rox_builder.specs.BuilderState.{names_in, IsRowWithin, AreSound, IsConsistent, Grown, IsNode, IsOpening, Adds, ScansTo}
use Rattle.rox_names.specs.OpenElements.{IsOpenWithin, HasName, IsNamespaceOf, IsOpened, open_name}
use Rattle.rox_rows.specs.declared.row.NodeKind.TheVariants as kind
use Rattle.rox_names.specs.declared.tables.ElementTables.{ElementTables}
use Rattle.rox_names.specs.declared.open_element.OpenElement.{OpenElement}
use Rattle.rox_builder.specs.declared.builder.Builder.{Builder}
use Rattle.rox_names.specs.declared.start_tag.StartTag.{StartTag}
use Rattle.rox_grammar.proofs.Lists.{all_append, all_weaker}
use Rattle.rox_rows.proofs.Stable.{namespace_more}
use Rattle.rox_scopes.proofs.Listing.{with_new-front, with_new-append}
use Rattle.rox_grammar.proofs.Stretches.{slice-rest}
use Rattle.rox_builder.proofs.Growing.{grown_counts, grown_elements, grown_empty}
use Rattle.rox_builder.proofs.Stepping.{adds_stepped}
use Rattle.rox_theory.proofs.Standing.{pairs-item, attributes-item}

pub grown_by : (old new : ElementTables) (t : StartTag) (above : List NamespaceDecl) (tag : Tag) → Tagged old new t above tag → Grown old new
grown_by old new t above tag h =
    let w = with_new-front (names_in old) (listable tag) in
    record {
      more_attributes = h.element.attributes.more;
      attributes = h.element.attributes.grown;
      more_names = w.0;
      namespaces = h.namespaces ∙ w.1;
      more_lists = h.more;
      lists = h.lists_more;
    }

pub sound_by : (old new : ElementTables) (t : StartTag) (above : List NamespaceDecl) (tag : Tag) → Tagged old new t above tag → AreSound old → AreSound new
sound_by old new t above tag h s =
    let k = grown_counts old new (grown_by old new t above tag h) in
    let n : length (names_in new) ≡ length new.namespaces.items.items = length-map new.namespaces.items.items namespace_view in
    let a = all_weaker (λ (a : AttributeRow). NamespaceWithin (length old.namespaces.items.items) a.0.namespace) (λ (a : AttributeRow). NamespaceWithin (length new.namespaces.items.items) a.0.namespace) (attribute_rows old.attributes)
    (λ a x. namespace_more (length old.namespaces.items.items) (length new.namespaces.items.items) a.0.namespace k.1 x) s.attributes in
    let m = subst (λ (n : ℕ). AllByRecursion (λ (a : AttributeRow). NamespaceWithin n a.0.namespace) h.element.attributes.more) n h.element.attributes.within in
    record {
      attributes = rw h.element.attributes.grown (all_append (λ (a : AttributeRow). NamespaceWithin (length new.namespaces.items.items) a.0.namespace) (attribute_rows old.attributes) h.element.attributes.more a m);
      listed = h.places;
      scopes = h.scopes;
    }

drop_front : {A : Type 0} (xs ys : List A) → drop (length xs) (xs ++ ys) ≡ ys
drop_front [] ys = refl
drop_front (x ∷ xs) ys = drop_front xs ys

own_slice : (old new more : List AttributeRow) (i j : ℕ) → new ≡ old ++ more → i ≡ length old → j ≡ length new → slice_range new i j ≡ more
own_slice old new more i j grown from until = rw (from, until) (slice-rest new (length old) ∙ ap (drop (length old)) grown ∙ drop_front old more)

pub node_by : (old new : ElementTables) (t : StartTag) (above : List NamespaceDecl) (tag : Tag) (s e : ℕ) → Tagged old new t above tag
    → node (attribute_rows new.attributes) (names_in new) (lists_in new) s e (kind.Element t.element) ≡ node_in (listed above tag.declarations) (Element s e tag)
node_by old new t above tag s e h =
    let scope = listed above tag.declarations in
    let x = h.element in
    let a : map (attribute (names_in new)) (slice_range (attribute_rows new.attributes) t.element.attributes_from t.element.attributes_until) ≡ map (attribute_in scope) tag.attributes =
    ap (map (attribute (names_in new))) (own_slice (attribute_rows old.attributes) (attribute_rows new.attributes) x.attributes.more t.element.attributes_from t.element.attributes_until x.attributes.grown x.attributes_from x.attributes_until) ∙ x.attributes.same in
    ap (λ (u : Option (List ℕ)). tree.Element s e u t.element.local.now (scope_at (lists_in new) t.element.scope) (map (attribute (names_in new)) (slice_range (attribute_rows new.attributes) t.element.attributes_from t.element.attributes_until))) x.namespace
    ∙ ap (λ (l : List ℕ). tree.Element s e (element_namespace scope tag.name) l (scope_at (lists_in new) t.element.scope) (map (attribute (names_in new)) (slice_range (attribute_rows new.attributes) t.element.attributes_from t.element.attributes_until))) x.local
    ∙ ap (λ (l : List NamespaceDecl). tree.Element s e (element_namespace scope tag.name) tag.name.local l (map (attribute (names_in new)) (slice_range (attribute_rows new.attributes) t.element.attributes_from t.element.attributes_until))) x.lists
    ∙ ap (λ (l : List tree.Attribute). tree.Element s e (element_namespace scope tag.name) tag.name.local scope l) a

pub within_by : (old new : ElementTables) (t : StartTag) (above : List NamespaceDecl) (tag : Tag) → Tagged old new t above tag → IsRowWithin new (kind.Element t.element)
within_by old new t above tag h =
    let x = h.element in
    let n = ap length x.attributes.grown ∙ length-append (attribute_rows old.attributes) x.attributes.more in
    let a = x.attributes_from in let b = x.attributes_until in
    (omega arith, omega arith, x.scope_within, x.namespace_within)

pub is_node : (old new : ElementTables) (t : StartTag) (above : List NamespaceDecl) (tag : Tag) (s e : ℕ) → Tagged old new t above tag → IsNode new above s e (kind.Element t.element) (Element s e tag)
is_node old new t above tag s e h = record { is = node_by old new t above tag s e h; within = within_by old new t above tag h; no_text = refl }

pub is_opening : (old new : ElementTables) (t : StartTag) (above : List NamespaceDecl) (tag : Tag) (s : ℕ) → Tagged old new t above tag → t.name_start ≡ s + 1 → IsOpening new above s t tag
is_opening old new t above tag s h starts =
    record { node = is_node old new t above tag s 0 h; name = h.name; name_start = starts; name_end = h.name_end; scope = h.element.lists }

-- what stays so
pub fine_by : (old new : ElementTables) (t : StartTag) (above : List NamespaceDecl) (tag : Tag) (os : List OpenElement) → Tagged old new t above tag → IsConsistent old os → IsConsistent new os
fine_by old new t above tag os h f =
    record {
      sound = sound_by old new t above tag h f.sound;
      elements = grown_elements old new os (grown_by old new t above tag h) f.elements;
      empty = grown_empty old new (grown_by old new t above tag h) f.empty;
      kept = h.kept;
      few_names = h.few;
      few_attributes = h.element.few;
    }

pub fine_opened : (t : ElementTables) (os qs : List OpenElement) (x : OpenElement) → IsConsistent t os → qs ≡ os ++ x ∷ [] → IsOpenWithin t x → IsConsistent t qs
fine_opened t os qs x f is within =
    record { sound = f.sound; elements = rw is (all_append (IsOpenWithin t) os (x ∷ []) f.elements (within, tt)); empty = f.empty; kept = f.kept; few_names = f.few_names; few_attributes = f.few_attributes }

-- the namespace of the element that a tag opens
pub namespace_by : (old new : ElementTables) (t : StartTag) (above : List NamespaceDecl) (tag : Tag) → Tagged old new t above tag → IsNamespaceOf new t.element.scope (name_view t.name) (numbered_place t.element.namespace)
namespace_by old new t above tag h = record {
  within = h.element.namespace_within;
  is = h.element.namespace ∙ ap (element_namespace (listed above tag.declarations)) (sym h.name) ∙ ap (λ (l : List NamespaceDecl). element_namespace l (name_view t.name)) (sym h.element.lists);
}

-- the counts after a tag
pub names_by : (old new : ElementTables) (t : StartTag) (above : List NamespaceDecl) (tag : Tag) (ps : List NamespaceDecl) → Tagged old new t above tag → names_in old ≡ distinct_pairs ps → names_in new ≡ distinct_pairs (ps ++ listable tag)
names_by old new t above tag ps h e = h.namespaces ∙ ap (λ ds. with_new ds (listable tag)) e ∙ sym (with_new-append [] ps (listable tag))

pub attributes_by : (old new : ElementTables) (t : StartTag) (above : List NamespaceDecl) (tag : Tag) → Tagged old new t above tag → length (attribute_rows new.attributes) ≡ length (attribute_rows old.attributes) + length tag.attributes
attributes_by old new t above tag h =
    let x = h.element.attributes in
    let n = ap length x.grown ∙ length-append (attribute_rows old.attributes) x.more in
    let m : length x.more ≡ length tag.attributes = sym (length-map x.more (attribute (names_in new))) ∙ ap length x.same ∙ length-map tag.attributes (attribute_in (listed above tag.declarations)) in
    omega arith

-- ---- one start tag, read and kept

pub tag_fails : (context : Context) (src : List ℕ) (s : State) (i : ℕ) (cut : Fault) (above : List NamespaceDecl) (count : ℕ) (known : List NamespaceDecl) (e : ParseError) → i ≡ s.at → cut ≡ cut_off context.values.main s.stack → above ≡ scope_of s.stack
    → count ≡ attributes_so_far s.stack s.done → known ≡ distinct_pairs (pairs_so_far s.stack s.done) → IsRefusal e (tag_at context.values cut above count known src i s.openings_left) → IsRefusal e (tag_step context src s)
unfolding tag_step
tag_fails context src s i cut above count known e here c a n k h =
    refuses_by e (tag_at context.values cut above count known src i s.openings_left) (tag_step context src s)
    (λ r err.
    let t : tag_at context.values (cut_off context.values.main s.stack) (scope_of s.stack) (attributes_so_far s.stack s.done) (distinct_pairs (pairs_so_far s.stack s.done)) src s.at s.openings_left ≡ Err r = rw (← here, ← c, ← a, ← n, ← k) err in
    rw t refl)
    h

pub tag_is : (context : Context) (src : List ℕ) (s : State) (i : ℕ) (cut : Fault) (above : List NamespaceDecl) (count : ℕ) (known : List NamespaceDecl) (tag : Tag) (empty : Bool) (openings_left j : ℕ) → i ≡ s.at → cut ≡ cut_off context.values.main s.stack
    → above ≡ scope_of s.stack → count ≡ attributes_so_far s.stack s.done → known ≡ distinct_pairs (pairs_so_far s.stack s.done)
    → tag_at context.values cut above count known src i s.openings_left ≡ Ok (record { tag = tag; empty = empty; openings_left = openings_left }, j) → tag_step context src s ≡ lifted (opened_by context.limit s tag empty openings_left j)
unfolding tag_step
tag_is context src s i cut above count known tag empty openings_left j here c a n k h =
    let t : tag_at context.values (cut_off context.values.main s.stack) (scope_of s.stack) (attributes_so_far s.stack s.done) (distinct_pairs (pairs_so_far s.stack s.done)) src s.at s.openings_left ≡ Ok (record { tag = tag; empty = empty; openings_left = openings_left }, j) =
    rw (← here, ← c, ← a, ← n, ← k) h in
    rw t refl

-- an element without content
pub empty_stepped : (limit end openings_left : ℕ) (s : State) (d : Cursor) (old new : ElementTables) (m : ℕ) (u : Builder) (r : Result (Unit {0}) Failure) (t : StartTag) (above : List NamespaceDecl) (tag : Tag)
    → Tagged old new t above tag → names_in old ≡ distinct_pairs (pairs_so_far s.stack s.done) → length (attribute_rows old.attributes) ≡ attributes_so_far s.stack s.done → m ≡ limit
    → u.openings_left ≡ openings_left → u.tables ≡ new → u.nodes_limit ≡ m → Adds end r u (opened_by m s tag true openings_left d.pos) → ScansTo limit end r d u (lifted (opened_by limit s tag true openings_left d.pos))
empty_stepped limit end openings_left s d old new m u r t above tag h namespaces attributes limit_is openings_left_is tables same adds =
    let i : Item = Element s.at d.pos tag in
    let next : State = record { at = d.pos; done = join s.done (leaf i); stack = s.stack; openings_left = openings_left } in
    let a : Adds end r u (counted limit next) = subst (λ (n : ℕ). Adds end r u (counted n next)) limit_is adds in
    let p : pairs_so_far s.stack (join s.done (leaf i)) ≡ pairs_so_far s.stack s.done ++ listable tag = pairs-item s.stack s.done i Nil ∙ ap (λ xs. pairs_so_far s.stack s.done ++ xs) (nil_right (listable tag)) in
    let n = attributes-item s.stack s.done i Nil in
    let m = attributes_by old new t above tag h in
    let q : attributes_so_far s.stack (join s.done (leaf i)) ≡ length (attribute_rows new.attributes) = omega arith in
    adds_stepped limit end next d u r a refl (same ∙ limit_is) (ap names_in tables ∙ names_by old new t above tag (pairs_so_far s.stack s.done) h namespaces ∙ sym (ap distinct_pairs p)) (ap (λ (t : ElementTables). length (attribute_rows t.attributes)) tables ∙ sym q) openings_left_is
  where
    nil_right : {A : Type 0} (xs : List A) → xs ++ [] ≡ xs
    nil_right [] = refl
    nil_right (x ∷ xs) = ap (λ ys. x ∷ ys) (nil_right xs)

-- one that opens
pub open_stepped : (limit end openings_left : ℕ) (s : State) (d : Cursor) (old new : ElementTables) (m : ℕ) (u : Builder) (r : Result (Unit {0}) Failure) (t : StartTag) (above : List NamespaceDecl) (tag : Tag)
    → Tagged old new t above tag → names_in old ≡ distinct_pairs (pairs_so_far s.stack s.done) → length (attribute_rows old.attributes) ≡ attributes_so_far s.stack s.done → m ≡ limit
    → u.openings_left ≡ openings_left → u.tables ≡ new → u.nodes_limit ≡ m → Adds end r u (opened_by m s tag false openings_left d.pos) → ScansTo limit end r d u (lifted (opened_by limit s tag false openings_left d.pos))
open_stepped limit end openings_left s d old new m u r t above tag h namespaces attributes limit_is openings_left_is tables same adds =
    let next : State = record { at = d.pos; done = Nil; stack = inside s.at tag s.done s.stack; openings_left = openings_left } in
    let a : Adds end r u (counted limit next) = subst (λ (n : ℕ). Adds end r u (counted n next)) limit_is adds in
    let p : pairs_so_far s.stack s.done ++ (listable tag ++ []) ≡ pairs_so_far s.stack s.done ++ listable tag = ap (λ xs. pairs_so_far s.stack s.done ++ xs) (nil_right (listable tag)) in
    let m = attributes_by old new t above tag h in
    let q : attributes_so_far s.stack s.done + (length tag.attributes + 0) ≡ length (attribute_rows new.attributes) = omega arith in
    adds_stepped limit end next d u r a refl (same ∙ limit_is) (ap names_in tables ∙ names_by old new t above tag (pairs_so_far s.stack s.done) h namespaces ∙ sym (ap distinct_pairs p)) (ap (λ (t : ElementTables). length (attribute_rows t.attributes)) tables ∙ sym q) openings_left_is
  where
    nil_right : {A : Type 0} (xs : List A) → xs ++ [] ≡ xs
    nil_right [] = refl
    nil_right (x ∷ xs) = ap (λ ys. x ∷ ys) (nil_right xs)

always : (r : Result (Unit {0}) Failure) (P : Type 0) → P → OnOk r P
always (Ok x) P h = h
always (Err e) P h = tt

pub fine_kept : (r : Result (Unit {0}) Failure) (t : ElementTables) (os : List OpenElement) (u : Builder) → IsConsistent t os → u.tables ≡ t → u.opened.items ≡ os → OnOk r (IsConsistent u.tables u.opened.items)
fine_kept r t os u f tables opens = always r (IsConsistent u.tables u.opened.items) (subst (λ (qs : List OpenElement). IsConsistent u.tables qs) (sym opens) (subst (λ (t : ElementTables). IsConsistent t os) (sym tables) f))

pub fine_more : (r : Result (Unit {0}) Failure) (t : ElementTables) (os : List OpenElement) (u : Builder) (src : List ℕ) (tag : StartTag) → IsConsistent t os → u.tables ≡ t
    → OnOk r ((x : OpenElement) × (u.opened.items ≡ os ++ x ∷ []) × IsOpened src tag x)
    → tag.element.scope < length t.scopes.items → PrefixesOnce (scope_at (lists_in t) tag.element.scope) → IsNamespaceOf t tag.element.scope (name_view tag.name) (numbered_place tag.element.namespace)
    → ((x : OpenElement) → IsOpened src tag x → HasName x) → OnOk r (IsConsistent u.tables u.opened.items)
fine_more (Ok x) t os u src tag f tables (o, is, by) within once space named =
    let w = subst (λ (s : ℕ). (s < length t.scopes.items) × PrefixesOnce (scope_at (lists_in t) s)) (sym by.scope) (within, once) in
    let n : IsNamespaceOf t o.scope (open_name o) (numbered_place o.namespace) = rw (by.scope, by.name, by.namespace) space in
    subst (λ (t : ElementTables). IsConsistent t u.opened.items) (sym tables) (fine_opened t os u.opened.items o f is (w.0, w.1, named o by, n))
fine_more (Err e) t os u src tag f tables h within once space named = tt

-- ---- the innermost open element

pub all_last : {X : Type 0} (P : X → Type 0) (xs : List X) (x : X) → AllByRecursion P (xs ++ x ∷ []) → P x
all_last P [] x h = h.0
all_last P (y ∷ ys) x h = all_last P ys x h.1
