-- The attributes and declarations of a tag that the fast path reads, one after another.
use Rattle.std.proofs.Common.{◌≡◌, ℕ, suc, ◌+◌, ◌-◌, ◌<◌, ◌≤◌, ◌||◌, ◌==◌, not, Bool, true, false, if◌then◌else◌, List, [], ◌∷◌, ◌++◌, Option, Some, None, Result, length, map, drop, slice_index, slice_range, refl, sym, ap, subst, ◌∙◌, arith, Ok, Err, append_assoc, nat_lt, length-append, Bor, IfSome}
use Rattle.std.specs.List.{AllByRecursion, list_any}
use Rattle.std.proofs.lemmas.Bool.{lt-leb, or_left}
use Rattle.std.proofs.lemmas.List.{append-nil, length-map, map-append, take_all}
use Rattle.std.proofs.lemmas.List.Elements.{filter-append}
use Rattle.std.proofs.lemmas.List.Folds.{list_any-append}
use Rattle.std.proofs.Math.Seq.{drop-append_seam}
use Rattle.rox_grammar.specs.declared.fault.Fault.{Fault}
use Rattle.rox_grammar.specs.declared.fault.Fault.TheVariants as fault
use Rattle.rox_grammar.specs.Document.{most_pairs}
use Rattle.rox_grammar.specs.Counts.{with_new}
use Rattle.rox_grammar.specs.Failures.{name_view}
use Rattle.rox_grammar.specs.NameParts.{local_span}
use Rattle.rox_grammar.specs.Names.{spaces_end}
use Rattle.rox_grammar.specs.Written.{Name, Attribute, NamespaceDecl, is_namespace_decl, namespace_decl_of}
use Rattle.rox_grammar.specs.Tree.{attribute_in, attribute_namespace, is_declared, is_xml, listable_of, same_prefix, uri_of}
use Rattle.rox_grammar.specs.WellNamed.{is_known, same_expanded}
use Rattle.rox_reading.specs.Lexical.{◌>>=◌}
use Rattle.rox_reading.specs.Markup.{TagItem, more, opened, closed, tag_item_at}
use Rattle.rox_reading.specs.Refusals.{lifted}
use Rattle.rox_reading.specs.Tags.{TagSoFar, Values, attribute_with, attributes_at, declared, names_tested, taken, uri_tested}
use Rattle.rox_reading.specs.Values.{value_at}
use Rattle.rox_scopes.specs.Bindings.{FindsBinding}
use Rattle.rox_names.specs.ResolvedNames.{AddsResolved, row_of_unresolved}
use Rattle.rox_rows.specs.Rows.{AttributeRow, NamespaceWithin, attribute, attribute_rows}
use Rattle.rox_grammar.specs.AtIndex.{scope_at}
use Rattle.rox_scopes.specs.ScopeRows.{AreRows, AreScopes}
use Rattle.rox_scopes.specs.NamespaceViews.{namespace_view}
use Rattle.rox_scopes.specs.Scopes.{ArePlaces, entries}
use Rattle.rox_storage.specs.Storage.{is_borrowed, storage_bytes}
use Rattle.rox_names.specs.TagDeclarations.{Declares, HasOwn, unresolved_view}
use Rattle.rox_names.specs.TagScopes.{lists_in, scope_in_tables}
use Rattle.rox_scopes.specs.declared.bindings.PrefixBindings.{PrefixBindings}
use Rattle.rox_names.specs.declared.unresolved_attribute.UnresolvedAttribute.{UnresolvedAttribute}
use Rattle.rox_rows.specs.declared.row.AttributeNamespace.{AttributeNamespace}
use Rattle.rox_rows.specs.declared.row.AttributeNamespace.TheVariants as space
use Rattle.rox_names.specs.declared.tables.ElementTables.{ElementTables}
use Rattle.rox_scopes.specs.declared.stored_scope.Scope.{Scope}
use Rattle.rox_names.proofs.Declaring.{once_none}
use Rattle.rox_scopes.proofs.Listing.{with_new-append, with_new-front}
use Rattle.rox_names.proofs.NameTests.{tested_on}
use Rattle.rox_scopes.proofs.Remembering.{remembers_none}
use Rattle.rox_grammar.proofs.Lists.{all_append, all_weaker, map_same}
use Rattle.rox_rows.proofs.Stable.{attribute-append}
use Rattle.rox_attributes.specs.PlainAttribute.{AddsPlain, HasScope, IsPlainAttribute, few_in}
use Rattle.rox_tags.specs.TagAttributes.{AreNoBindings, ArePlainAttributes, DeclaresIn, DeclaresInRoot, HasGrown, HasRootScope, HoldsSoFar, ListsDeclaration, MayBegin, PlainSoFar, ReadsUpTo, first_places, holding}
use Rattle.rox_tags.specs.declared.quick_tag.TagEnd.{TagEnd}
use Rattle.rox_bytes.proofs.RunLemmas.{stands_within}
use Rattle.rox_names.proofs.Resolving.{nothing_left}
use Rattle.rox_verbatim.proofs.Verbatim.{item_more}
use Rattle.rox_tags.proofs.PlainTags.{item_closed, item_opened, scope_found}

-- ---- names in a scope that grows

declared_more : (prefix : Option (List ℕ)) (ds later : List NamespaceDecl) → is_declared prefix ds ≡ true → is_declared prefix (ds ++ later) ≡ true
declared_more prefix ds later h = list_any-append (λ d. same_prefix d.prefix prefix) ds later ∙ or_left (is_declared prefix ds) (is_declared prefix later) h

uri_more : (prefix : Option (List ℕ)) (ds later : List NamespaceDecl) → is_declared prefix ds ≡ true → uri_of (ds ++ later) prefix ≡ uri_of ds prefix
uri_more prefix [] later h = cc h
uri_more prefix (d ∷ ds) later h = which (same_prefix d.prefix prefix) refl (uri_more prefix ds later)
  where
    which : (b : Bool) → same_prefix d.prefix prefix ≡ b → (is_declared prefix ds ≡ true → uri_of (ds ++ later) prefix ≡ uri_of ds prefix) → uri_of ((d ∷ ds) ++ later) prefix ≡ uri_of (d ∷ ds) prefix
    which true is rest = rw is refl
    which false is rest = rw is (rest (rw is at h))

known_by : (a b c c' : Bool) → (c ≡ true → c' ≡ true) → (a || (b || c)) ≡ true → (a || (b || c')) ≡ true
known_by a b c c' f h = grind arith

pub known_more : (ds later : List NamespaceDecl) (n : Name) → is_known ds n ≡ true → is_known (ds ++ later) n ≡ true
known_more ds later n h = known_by _ _ _ _ (declared_more (Some n.prefix) ds later) h

space_by : (a b c : Bool) (x y z z' : Option (List ℕ)) → (c ≡ true → z' ≡ z) → (a || (b || c)) ≡ true → (if a then x else (if b then y else z')) ≡ (if a then x else (if b then y else z))
space_by a b c x y z z' f h = grind arith

pub namespace_more : (ds later : List NamespaceDecl) (n : Name) → is_known ds n ≡ true → attribute_namespace (ds ++ later) n ≡ attribute_namespace ds n
namespace_more ds later n h = space_by _ _ _ _ _ _ _ (uri_more (Some n.prefix) ds later) h

-- ---- names that passed in a scope pass where it lists more

chosen : {X P : Type 0} (b : Bool) (x y z : X) → (if b then x else y) ≡ z → (b ≡ true → x ≡ z → P) → (b ≡ false → y ≡ z → P) → P
chosen b x y z h holds fails = grind arith

not_not : (b : Bool) → not b ≡ false → b ≡ true
not_not b h = grind arith

pub record Passes (scope : List NamespaceDecl) (before : List Attribute) (a : Attribute) (rest : List Attribute) : Type 0 where
  pub known : is_known scope a.name ≡ true
  pub new : list_any (λ e. same_expanded scope e.name a.name) before ≡ false
  pub others : names_tested scope (before ++ a ∷ []) rest ≡ Ok tt

pub passes : (scope : List NamespaceDecl) (before : List Attribute) (a : Attribute) (rest : List Attribute) → names_tested scope before (a ∷ rest) ≡ Ok tt → Passes scope before a rest
unfolding names_tested
passes scope before a rest h =
    chosen (not (is_known scope a.name)) _ _ _ h (λ t k. cc k) (λ f k.
    chosen (list_any (λ e. same_expanded scope e.name a.name) before) _ _ _ k (λ t l. cc l) (λ new l. record { known = not_not _ f; new = new; others = l }))

abbrev AllKnown : List NamespaceDecl → List Attribute → Type 0
AllKnown ds as' = AllByRecursion (λ a. is_known ds a.name ≡ true) as'

any_more : (ds later : List NamespaceDecl) (before : List Attribute) (n : Name) → AllKnown ds before → is_known ds n ≡ true
    → list_any (λ e. same_expanded (ds ++ later) e.name n) before ≡ list_any (λ e. same_expanded ds e.name n) before
any_more ds later [] n all h = refl
any_more ds later (b ∷ bs) n (first, rest) h = rw (namespace_more ds later b.name first, namespace_more ds later n h, any_more ds later bs n rest h) refl

all_push : (ds : List NamespaceDecl) (before : List Attribute) (a : Attribute) → AllKnown ds before → is_known ds a.name ≡ true → AllKnown ds (before ++ a ∷ [])
all_push ds [] a all h = (h, tt)
all_push ds (b ∷ bs) a (first, rest) h = (first, all_push ds bs a rest h)

tested_more : (ds later : List NamespaceDecl) (before written rest : List Attribute) → AllKnown ds before → names_tested ds before written ≡ Ok tt
    → names_tested (ds ++ later) before (written ++ rest) ≡ names_tested (ds ++ later) (before ++ written) rest
tested_more ds later before [] rest all h = ap (λ as'. names_tested (ds ++ later) as' rest) (sym (append-nil before))
tested_more ds later before (a ∷ as') rest all h =
    let p = passes ds before a as' h in
    tested_on (ds ++ later) before a (as' ++ rest) (known_more ds later a.name p.known) (any_more ds later before a.name all p.known ∙ p.new)
    ∙ tested_more ds later (before ++ a ∷ []) as' rest (all_push ds before a all p.known) p.others
    ∙ ap (λ bs. names_tested (ds ++ later) bs rest) (append_assoc before (a ∷ []) as')

pub still_tested : (ds later : List NamespaceDecl) (written rest : List Attribute) → names_tested ds [] written ≡ Ok tt → names_tested (ds ++ later) [] (written ++ rest) ≡ names_tested (ds ++ later) written rest
still_tested ds later written rest h = tested_more ds later [] written rest tt h

known_shown : (ds later : List NamespaceDecl) (before written : List Attribute) → names_tested ds before written ≡ Ok tt → map (attribute_in (ds ++ later)) written ≡ map (attribute_in ds) written
known_shown ds later before [] h = refl
known_shown ds later before (a ∷ as') h =
    let p = passes ds before a as' h in
    rw (namespace_more ds later a.name p.known, known_shown ds later (before ++ a ∷ []) as' p.others) refl

pub still_shown : (ds later : List NamespaceDecl) (written : List Attribute) → names_tested ds [] written ≡ Ok tt → map (attribute_in (ds ++ later)) written ≡ map (attribute_in ds) written
still_shown ds later written h = known_shown ds later [] written h

-- ---- one turn after another

turn_item : {such : Values → Type 0} (src : List ℕ) (i j n : ℕ) (a : UnresolvedAttribute) (held : TagSoFar) (context : Values) (cut : Fault) (known : List NamespaceDecl) (openings_left : ℕ) → such context → (h : IsPlainAttribute such src j a)
    → i < length src → tag_item_at src i ≡ Ok (more (record { start = j; name = name_view a.name; name_end = a.name_end; value_start = a.value_start; value_end = h.value_end }), a.end)
    → attributes_at (suc n) context cut known src i openings_left held ≡ (lifted (taken known (unresolved_view a) held) >>= λ x. attributes_at n context cut known src a.end openings_left x)
unfolding attributes_at
turn_item src i j n a held context cut known openings_left is h within item =
    let v : value_at context.main context.entities context.opener src a.value_start h.value_end openings_left ≡ Ok (record { value = storage_bytes a.value; borrowed = is_borrowed a.value }, openings_left) = h.value context is openings_left in
    let view : attribute_with (record { start = j; name = name_view a.name; name_end = a.name_end; value_start = a.value_start; value_end = h.value_end }) (record { value = storage_bytes a.value; borrowed = is_borrowed a.value }) ≡ unresolved_view a =
    rw (h.start, h.end) refl in
    rw ((lt-leb (length src) i within), item, v) (ap (λ (x : Attribute). lifted (taken known x held) >>= λ y. attributes_at n context cut known src a.end openings_left y) view)

pub taken_other : (known : List NamespaceDecl) (a : Attribute) (held : TagSoFar) → is_namespace_decl a.name ≡ false → taken known a held ≡ Ok (record { own = held.own; attributes = held.attributes ++ a ∷ [] })
taken_other known a held other = rw other refl

pub taken_declared : (known : List NamespaceDecl) (a : Attribute) (held after : TagSoFar) → is_namespace_decl a.name ≡ true → declared known a held ≡ Ok after → taken known a held ≡ Ok after
taken_declared known a held after is h = rw is h

pub turn_is : {such : Values → Type 0} (src : List ℕ) (i j n : ℕ) (a : UnresolvedAttribute) (held after : TagSoFar) (context : Values) (cut : Fault) (known : List NamespaceDecl) (openings_left : ℕ) → such context → IsPlainAttribute such src j a
    → i ≤ j → j ≡ spaces_end src i → (j ≡ i → ⊥) → (slice_index src j == 47) ≡ false → (slice_index src j == 62) ≡ false → taken known (unresolved_view a) held ≡ Ok after
    → attributes_at (suc n) context cut known src i openings_left held ≡ attributes_at n context cut known src a.end openings_left after
turn_is src i j n a held after context cut known openings_left main plain onward spaces some slash close h =
    let fits = plain.cut.0 in
    turn_item src i j n a held context cut known openings_left main plain (omega arith) (item_more src i j a.end _ spaces some slash close (omega arith) plain.read) ∙ rw h refl

-- ---- what is read so far

plain_starts : {such : Values → Type 0} (declares : Bool) (known namespaces scope : List NamespaceDecl) (src : List ℕ) (start : ℕ) (old : List AttributeRow) → PlainSoFar such declares known namespaces scope [] src start old start old
plain_starts declares known namespaces scope src start old = record {
  written = [];
  more = [];
  rows = sym (append-nil old);
  within = tt;
  shown = refl;
  tested = λ rest. refl;
  turns = 0;
  enough = omega arith;
  read = grind (arith, append-nil);
}

-- an attribute more
plain_more : {such : Values → Type 0} (declares : Bool) (known namespaces scope own : List NamespaceDecl) (few : Option (List ℕ)) (present : PrefixBindings) (src : List ℕ) (start : ℕ) (old : List AttributeRow) (i j : ℕ) (now next : List AttributeRow) (a : UnresolvedAttribute)
    → PlainSoFar such declares known namespaces scope own src start old i now → i ≤ j → j ≡ spaces_end src i → (j ≡ i → ⊥) → (slice_index src j == 47) ≡ false → (slice_index src j == 62) ≡ false
    → IsPlainAttribute such src j a → is_namespace_decl (name_view a.name) ≡ false → FindsBinding namespaces few present scope → AddsResolved namespaces few present (length old) now next a
    → PlainSoFar such declares known namespaces scope own src start old a.end next
plain_more declares known namespaces scope own few present src start old i j now next a g onward spaces some slash close plain other h r =
    let row = row_of_unresolved a r.namespace in
    let view = unresolved_view a in
    let on = plain.onward in
    let fits = plain.cut.0 in
    let enough = g.enough in
    record {
      written = g.written ++ view ∷ [];
      more = g.more ++ row ∷ [];
      rows = r.rows ∙ ap (λ xs. xs ++ row ∷ []) g.rows ∙ append_assoc old g.more (row ∷ []);
      within = all_append (λ a. NamespaceWithin (length namespaces) a.0.namespace) g.more (row ∷ []) g.within (r.within, tt);
      shown = grind (arith, map-append);
      tested = λ rest. ap (names_tested scope []) (append_assoc g.written (view ∷ []) rest) ∙ g.tested (view ∷ rest)
          ∙ r.tested scope g.written rest h (ap (map (attribute namespaces)) (ap (drop (length old)) g.rows ∙ drop-append_seam old g.more) ∙ g.shown);
      turns = g.turns + 1;
      enough = omega arith;
      read = λ context main cut openings_left rest before such.
          let held = holding (before ++ own) g.written in
          ap (λ (m : ℕ). attributes_at m context cut known src start openings_left (holding before [])) (omega arith) ∙ g.read context main cut openings_left (suc rest) before such
          ∙ turn_is src i j rest a held _ context cut known openings_left main plain onward spaces some slash close (taken_other known view held other);
    }

plain_passes : {such : Values → Type 0} (declares : Bool) (known namespaces scope own : List NamespaceDecl) (src : List ℕ) (start : ℕ) (old : List AttributeRow) (i : ℕ) (now : List AttributeRow) (g : PlainSoFar such declares known namespaces scope own src start old i now) → names_tested scope [] g.written ≡ Ok tt
plain_passes declares known namespaces scope own src start old i now g = ap (names_tested scope []) (sym (append-nil g.written)) ∙ g.tested [] ∙ nothing_left scope g.written

-- what is declared then
declared_is : (a : Attribute) (h after : TagSoFar) → declared [] a h ≡ Ok after → after ≡ record { own = h.own ++ namespace_decl_of a ∷ []; attributes = h.attributes }
unfolding declared
declared_is a h after is = tested (uri_tested a) is
  where
    same : (x y : TagSoFar) → ◌≡◌ {A = Result TagSoFar Fault} (Ok x) (Ok y) → y ≡ x
    same x y e = cc e

    tested : (r : Result (Unit {0}) Fault)
        → (r >>= λ _. if is_declared (namespace_decl_of a).prefix h.own then Err (fault.DuplicatedNamespace (local_span a.name a.name_end) a.start)
        else if nat_lt most_pairs (length (with_new [] (listable_of (h.own ++ namespace_decl_of a ∷ [])))) then Err fault.NamespacesLimitReached
        else Ok (record { own = h.own ++ namespace_decl_of a ∷ []; attributes = h.attributes })) ≡ Ok after
        → after ≡ record { own = h.own ++ namespace_decl_of a ∷ []; attributes = h.attributes }
    tested (Err e) k = cc k
    tested (Ok u) k = chosen (is_declared (namespace_decl_of a).prefix h.own) _ _ _ k (λ t l. cc l) (λ f l.
        chosen (nat_lt most_pairs (length (with_new [] (listable_of (h.own ++ namespace_decl_of a ∷ []))))) _ _ _ l (λ t m. cc m) (λ f m. same _ _ m))

-- a declaration more, in a scope of which all is declared
plain_declared : {such : Values → Type 0} (namespaces next own after : List NamespaceDecl) (src : List ℕ) (start : ℕ) (old : List AttributeRow) (i j : ℕ) (now : List AttributeRow) (a : UnresolvedAttribute)
    → (g : PlainSoFar such true [] namespaces (listable_of own) own src start old i now) → i ≤ j → j ≡ spaces_end src i → (j ≡ i → ⊥) → (slice_index src j == 47) ≡ false → (slice_index src j == 62) ≡ false
    → IsPlainAttribute such src j a → is_namespace_decl (name_view a.name) ≡ true → namespaces ≡ with_new [] (listable_of own) → next ≡ with_new [] (listable_of after)
    → declared [] (unresolved_view a) (holding own g.written) ≡ Ok (holding after g.written)
    → PlainSoFar such true [] next (listable_of after) after src start old a.end now
plain_declared namespaces next own after src start old i j now a g onward spaces some slash close plain is names named h =
    let view = unresolved_view a in
    let d = namespace_decl_of view in
    let held = holding own g.written in
    let on = plain.onward in
    let fits = plain.cut.0 in
    let enough = g.enough in
    let pushed : after ≡ own ++ d ∷ [] = ap (λ (x : TagSoFar). x.own) (declared_is view held (holding after g.written) h) in
    let scope : listable_of after ≡ listable_of own ++ listable_of (d ∷ []) = ap listable_of pushed ∙ filter-append (λ e. not (is_xml e.prefix)) own (d ∷ []) in
    let grown = with_new-front namespaces (listable_of (d ∷ [])) in
    let later = grown.0 in
    let is_more : next ≡ namespaces ++ later = named ∙ ap (with_new []) scope ∙ with_new-append [] (listable_of own) (listable_of (d ∷ [])) ∙ ap (λ ds. with_new ds (listable_of (d ∷ []))) (sym names) ∙ grown.1 in
    let long : length namespaces ≤ length next = omega (arith, ap length is_more, length-append namespaces later) in
    let passed = plain_passes true [] namespaces (listable_of own) own src start old i now g in
    record {
      written = g.written;
      more = g.more;
      rows = g.rows;
      within = all_weaker (λ (r : AttributeRow). NamespaceWithin (length namespaces) r.0.namespace) (λ (r : AttributeRow). NamespaceWithin (length next) r.0.namespace) g.more (λ r k. within_more r.0.namespace (length namespaces) (length next) long k) g.within;
      shown = grind (arith, map_same, attribute-append, still_shown);
      tested = λ rest. rw scope (still_tested (listable_of own) (listable_of (d ∷ [])) g.written rest passed);
      turns = g.turns + 1;
      enough = omega arith;
      read = λ context main cut openings_left rest before none.
          rw none (ap (λ (m : ℕ). attributes_at m context cut [] src start openings_left (holding [] [])) (omega arith) ∙ g.read context main cut openings_left (suc rest) [] refl
          ∙ turn_is src i j rest a held _ context cut [] openings_left main plain onward spaces some slash close (taken_declared [] view held _ is h));
    }
  where
    within_more : (s : AttributeNamespace) (n m : ℕ) → n ≤ m → NamespaceWithin n s → NamespaceWithin m s
    within_more space.None n m le h = tt
    within_more space.Xml n m le h = tt
    within_more (space.Listed i) n m le h = omega arith

-- ---- the end of the tag

abbrev pub IsEnd : TagItem → Bool → Type 0
IsEnd (more raw) empty = ⊥
IsEnd opened empty = empty ≡ false
IsEnd closed empty = empty ≡ true

pub end_is : (src : List ℕ) (i n j : ℕ) (item : TagItem) (empty : Bool) (held : TagSoFar) (context : Values) (cut : Fault) (known : List NamespaceDecl) (openings_left : ℕ) → i < length src → tag_item_at src i ≡ Ok (item, j)
    → IsEnd item empty → attributes_at (suc n) context cut known src i openings_left held ≡ Ok (record { held = held; empty = empty; openings_left = openings_left }, j)
unfolding attributes_at
end_is src i n j (more raw) empty held context cut known openings_left within is h = absurd h
end_is src i n j opened empty held context cut known openings_left within is h = let k = lt-leb (length src) i within in rw (k, is, h) refl
end_is src i n j closed empty held context cut known openings_left within is h = let k = lt-leb (length src) i within in rw (k, is, h) refl

plain_ends : {such : Values → Type 0} (declares : Bool) (known namespaces scope own : List NamespaceDecl) (src : List ℕ) (start : ℕ) (old : List AttributeRow) (i j : ℕ) (now : List AttributeRow) (item : TagItem) (empty : Bool)
    → (g : PlainSoFar such declares known namespaces scope own src start old i now) → i < length src → tag_item_at src i ≡ Ok (item, j) → IsEnd item empty → ReadsUpTo such declares known own g.written src start j empty
plain_ends declares known namespaces scope own src start old i j now item empty g within is h = λ context main cut openings_left turns before fits such.
    let rest = turns - g.turns - 1 in
    ap (λ (m : ℕ). attributes_at m context cut known src start openings_left (holding before [])) (omega arith) ∙ g.read context main cut openings_left (suc rest) before such
    ∙ end_is src i rest j item empty (holding (before ++ own) g.written) context cut known openings_left within is h

holds_end : {such : Values → Type 0} (may : Bool) (n : ℕ) (old t : ElementTables) (src : List ℕ) (start i end : ℕ) (empty : Bool) → (g : HoldsSoFar such may n old t src start i)
    → ReadsUpTo such may (map namespace_view old.namespaces.items.items) g.own g.so_far.written src start end empty → start ≤ end → ArePlainAttributes such may n old t src start end empty
holds_end may n old t src start i end empty g h onward = record {
  own = g.own;
  declares = g.declares;
  onward = onward;
  written = g.so_far.written;
  more = g.so_far.more;
  rows = g.so_far.rows;
  within = g.so_far.within;
  shown = g.so_far.shown;
  tested = plain_passes may (map namespace_view old.namespaces.items.items) (map namespace_view t.namespaces.items.items) (scope_in_tables t n) g.own src start (attribute_rows old.attributes) i (attribute_rows t.attributes) g.so_far;
  read = h;
}

-- a tag that opens, and an empty one
pub opens_there : {such : Values → Type 0} (may : Bool) (n : ℕ) (old t : ElementTables) (src : List ℕ) (start i j : ℕ) → HoldsSoFar such may n old t src start i → i ≤ j → j ≡ spaces_end src i → slice_index src j ≡ 62
    → ArePlainAttributes such may n old t src start (j + 1) false
opens_there may n old t src start i j g onward spaces here =
    let within = stands_within src j 62 here (omega arith) in
    holds_end may n old t src start i (j + 1) false g
    (plain_ends may _ _ _ g.own src start _ i (j + 1) _ opened false g.so_far (omega arith) (item_opened src i j spaces here) refl) (omega (arith, g.so_far.enough, onward))

closes_there : {such : Values → Type 0} (may : Bool) (n : ℕ) (old t : ElementTables) (src : List ℕ) (start i j : ℕ) → HoldsSoFar such may n old t src start i → i ≤ j → j ≡ spaces_end src i → slice_index src j ≡ 47 → slice_index src (j + 1) ≡ 62
    → ArePlainAttributes such may n old t src start (j + 2) true
closes_there may n old t src start i j g onward spaces here behind =
    let within = stands_within src j 47 here (omega arith) in
    holds_end may n old t src start i (j + 2) true g
    (plain_ends may _ _ _ g.own src start _ i (j + 2) _ closed true g.so_far (omega arith) (item_closed src i j spaces here behind) refl) (omega (arith, g.so_far.enough, onward))

pub ends_or_not : {such : Values → Type 0} (may : Bool) (n : ℕ) (old t : ElementTables) (src : List ℕ) (start i j : ℕ) (r : Option TagEnd) → HoldsSoFar such may n old t src start i → i ≤ j → j ≡ spaces_end src i
    → IfSome r (λ e. e.empty ≡ false → (slice_index src j ≡ 62) × (e.at ≡ j + 1))
    → IfSome r (λ e. e.empty ≡ true → (slice_index src j ≡ 47) × ((slice_index src (j + 1) ≡ 62) × (e.at ≡ j + 2)))
    → IfSome r (λ e. ArePlainAttributes such may n old t src start e.at e.empty)
ends_or_not {such = such} may n old t src start i j None g onward spaces opens closes = tt
ends_or_not {such = such} may n old t src start i j (Some e) g onward spaces opens closes = which e.empty refl
  where
    which : (b : Bool) → e.empty ≡ b → ArePlainAttributes such may n old t src start e.at e.empty
    which false is = let o = opens is in rw (o.1, is) (opens_there may n old t src start i j g onward spaces o.0)
    which true is = let c = closes is in rw (c.1.1, is) (closes_there may n old t src start i j g onward spaces c.0 c.1.0)

-- ---- the scope of a root element

root_rows : (n : ℕ) → AreRows (first_places 0 ∷ first_places n ∷ [])
root_rows n = grind arith

pub root_scopes : (t : ElementTables) → HasRootScope t → AreScopes (length t.listed.items) t.scopes.items
root_scopes t h = subst (AreScopes (length t.listed.items)) (sym h.scopes) (record { rows = root_rows (length t.listed.items); within = (omega arith, (omega arith, tt)) })

pub slice_whole : {X : Type 0} (xs : List X) → slice_range xs 0 (length xs) ≡ xs
slice_whole xs = take_all (length xs - 0) xs (omega arith)

pub root_scope : (t : ElementTables) → HasRootScope t → scope_at (lists_in t) 1 ≡ entries (map namespace_view t.namespaces.items.items) t.listed.items
root_scope t h = grind (arith, slice_whole)

-- ---- what the tables hold

pub has_scope : (t : ElementTables) (keys : List (Option (Bor (List ℕ)))) → HasOwn t.namespaces.items.items t.listed.items keys 0 → HasRootScope t → HasScope t 1
has_scope t keys own h = grind (arith, root_scope)

-- the scope is what is declared
pub scope_declares : (t : ElementTables) (own : List NamespaceDecl) → HasRootScope t → Declares [] [] (map namespace_view t.namespaces.items.items) t.listed.items false own → scope_in_tables t 1 ≡ listable_of own
scope_declares t own h d = root_scope t h ∙ ap (entries (map namespace_view t.namespaces.items.items)) d.listed_are ∙ d.same

pub begins_in : (b : Bool) (t : ElementTables) (n : ℕ) → MayBegin b t n → DeclaresIn b t t n []
begins_in false t n h = record { others = refl; scope = h; none = refl }
begins_in true t n (h, one) =
    let none : map namespace_view t.namespaces.items.items ≡ [] = ap (map namespace_view) h.namespaces in
    record {
      root = one;
      known = h.namespaces;
      declares = record { names_are = none; few = omega (arith, ap length none); xml_is = refl; mine = []; listed_are = h.listed; places = tt; same = refl };
      keys = [];
      has = record {
        places = subst (ArePlaces (length t.namespaces.items.items)) (sym h.listed) tt;
        own = omega arith;
        few = omega (arith, ap length h.namespaces);
        prefix_set = remembers_none (map namespace_view t.namespaces.items.items) t.listed.items 0 [] (omega (arith, ap length h.listed));
        once = once_none (map namespace_view t.namespaces.items.items) t.listed.items 0 (omega (arith, ap length h.listed));
      };
      scope = h.scope;
    }

pub holds_start : {such : Values → Type 0} (may : Bool) (n : ℕ) (t : ElementTables) (src : List ℕ) (start : ℕ) → MayBegin may t n → HoldsSoFar such may n t t src start start
holds_start may n t src start h = grind (arith, begins_in, plain_starts)

scope_by : (b : Bool) (old t : ElementTables) (n : ℕ) (own : List NamespaceDecl) → DeclaresIn b old t n own → HasScope t n
scope_by b old t n own h = grind (arith, has_scope)

pub holds_scope : {such : Values → Type 0} (may : Bool) (n : ℕ) (old t : ElementTables) (src : List ℕ) (start i : ℕ) → HoldsSoFar such may n old t src start i → HasScope t n
holds_scope may n old t src start i g = scope_by may old t n g.own g.declares

pub holds_more : {such : Values → Type 0} (may : Bool) (n : ℕ) (old t new : ElementTables) (src : List ℕ) (start from i k j : ℕ) → HoldsSoFar such may n old t src start i → new ≡ record t { attributes = new.attributes } → from ≡ length (attribute_rows old.attributes)
    → AddsPlain such (map namespace_view t.namespaces.items.items) (few_in t n) t.present from src k j (attribute_rows t.attributes) (attribute_rows new.attributes)
    → i ≤ k → k ≡ spaces_end src i → (k ≡ i → ⊥) → (slice_index src k == 47) ≡ false → (slice_index src k == 62) ≡ false → HoldsSoFar such may n old new src start j
holds_more may n old t new src start from i k j g is at x onward spaces some slash close =
    let known = map namespace_view old.namespaces.items.items in
    let names = map namespace_view t.namespaces.items.items in
    let scope = scope_in_tables t n in
    let few = few_in t n in
    let rows = attribute_rows old.attributes in
    let now = attribute_rows t.attributes in
    let next = attribute_rows new.attributes in
    let added : AddsResolved names few t.present (length rows) now next x.one = subst (λ (m : ℕ). AddsResolved names few t.present m now next x.one) at x.added in
    let made = plain_more may known names scope g.own few t.present src start rows i k now next x.one g.so_far onward spaces some slash close x.plain x.other (scope_found t n) added in
    grind arith

pub holds_declared : {such : Values → Type 0} (may : Bool) (n : ℕ) (old t new : ElementTables) (src : List ℕ) (start i k j : ℕ) → may ≡ true → HoldsSoFar such may n old t src start i
    → new ≡ record t { namespaces = new.namespaces; listed = new.listed; scopes = new.scopes }
    → ((own : Scope) → t.scopes.items ≡ first_places 0 ∷ own ∷ [] → new.scopes.items ≡ first_places 0 ∷ first_places (length new.listed.items) ∷ []) → ListsDeclaration such t new src k j
    → i ≤ k → k ≡ spaces_end src i → (k ≡ i → ⊥) → (slice_index src k == 47) ≡ false → (slice_index src k == 62) ≡ false → HoldsSoFar such may n old new src start j
holds_declared {such = such} may n old t new src start i k j allowed g is scopes l onward spaces some slash close =
    let known = map namespace_view old.namespaces.items.items in
    let names = map namespace_view t.namespaces.items.items in
    let after = map namespace_view new.namespaces.items.items in
    let rows = attribute_rows old.attributes in
    let now = attribute_rows t.attributes in
    let d : DeclaresInRoot old t n g.own = subst (λ (b : Bool). DeclaresIn b old t n g.own) allowed g.declares in
    let nothing : known ≡ [] = ap (map namespace_view) d.known in
    let scope : scope_in_tables t n ≡ listable_of g.own = ap (scope_in_tables t) d.root ∙ scope_declares t g.own d.scope d.declares in
    let so_far : PlainSoFar such true known names (scope_in_tables t n) g.own src start rows i now = subst (λ (b : Bool). PlainSoFar such b known names (scope_in_tables t n) g.own src start rows i now) allowed g.so_far in
    let before : PlainSoFar such true [] names (listable_of g.own) g.own src start rows i now =
    subst (λ (ds : List NamespaceDecl). PlainSoFar such true [] names ds g.own src start rows i now) scope (subst (λ (ds : List NamespaceDecl). PlainSoFar such true ds names (scope_in_tables t n) g.own src start rows i now) nothing so_far) in
    let listed = l.listed d.keys d.has in
    let made = listed.value [] [] (holding g.own before.written) refl d.declares in
    let read = plain_declared names after g.own made.0 src start rows i k now l.one before onward spaces some slash close l.plain l.is d.declares.names_are made.2.names_are made.1 in
    let present : new.present ≡ t.present = ap (λ (u : ElementTables). u.present) is in
    let same : attribute_rows new.attributes ≡ now = ap (λ (u : ElementTables). attribute_rows u.attributes) is in
    let root : HasRootScope new = record { scopes = scopes (first_places (length t.listed.items)) d.scope.scopes; present = subst AreNoBindings (sym present) d.scope.present } in
    let lists : scope_in_tables new n ≡ listable_of made.0 = ap (scope_in_tables new) d.root ∙ scope_declares new made.0 root made.2 in
    let declares : DeclaresInRoot old new n made.0 = record { root = d.root; known = d.known; declares = made.2; keys = d.keys; has = listed.own; scope = root } in
    grind arith

-- the attributes of the tag so far are in their namespaces
pub done_within : {such : Values → Type 0} (may : Bool) (n : ℕ) (old t : ElementTables) (src : List ℕ) (start from i : ℕ) → HoldsSoFar such may n old t src start i → from ≡ length (attribute_rows old.attributes)
    → AllByRecursion (λ (a : AttributeRow). NamespaceWithin (length t.namespaces.items.items) a.0.namespace) (drop from (attribute_rows t.attributes))
done_within may n old t src start from i g at =
    let rows = attribute_rows old.attributes in
    let behind : drop from (attribute_rows t.attributes) ≡ g.so_far.more = ap (λ (n : ℕ). drop n (attribute_rows t.attributes)) at ∙ ap (drop (length rows)) g.so_far.rows ∙ drop-append_seam rows g.so_far.more in
    rw behind (subst (λ (n : ℕ). AllByRecursion (λ (a : AttributeRow). NamespaceWithin n a.0.namespace) g.so_far.more) (length-map t.namespaces.items.items namespace_view) g.so_far.within)

-- ---- where reading ends

pub holds_grown : {such : Values → Type 0} (may : Bool) (n : ℕ) (old t : ElementTables) (src : List ℕ) (start i : ℕ) → HoldsSoFar such may n old t src start i → HasGrown may old t
holds_grown may n old t src start i g = grind arith

-- how many attributes the tag has
pub plain_count : {such : Values → Type 0} (may : Bool) (n : ℕ) (old t : ElementTables) (src : List ℕ) (start end : ℕ) (empty : Bool) → (x : ArePlainAttributes such may n old t src start end empty) → length (attribute_rows old.attributes) + length x.written ≡ length (attribute_rows t.attributes)
plain_count may n old t src start end empty x = grind (arith, length-append, length-map)
