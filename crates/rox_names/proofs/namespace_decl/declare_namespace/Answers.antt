use Rattle.std.proofs.Common.{rules, ◌≡◌, ◌<◌, ◌≤◌, ◌∷◌, ◌++◌, [], drop, true, false, refl, sym, ap, ◌∙◌, subst, map, length, length-append, arith, Err, slice_range}
use Rattle.std.proofs.lemmas.List.{drop-append-le, length-map}
use Rattle.std.proofs.lemmas.Result.{err_from_is_err_and}
use Rattle.rox_grammar.specs.declared.fault.Fault.TheVariants as fault
use Rattle.rox_grammar.specs.declared.fault.Fault.{Fault}
use Rattle.rox_grammar.specs.declared.fault.Span.{Span}
use Rattle.rox_grammar.specs.Written.{NamespaceDecl, namespace_decl_of}
use Rattle.rox_grammar.specs.Tree.{is_declared, is_xml}
use Rattle.rox_grammar.specs.Document.{most_pairs}
use Rattle.rox_grammar.specs.Counts.{with_new}
use Rattle.rox_reading.specs.Tags.{declared}
use Rattle.std.proofs.lemmas.Bool.{or_parts}
use Rattle.rox_grammar.specs.AtIndex.{namespace_at}
use Rattle.rox_scopes.specs.NamespaceViews.{namespace_view}
use Rattle.rox_scopes.specs.Scopes.{entries, prefix_view, pair}
use Rattle.rox_names.specs.TagDeclarations.{unresolved_view}
use Rattle.rox_storage.specs.Storage.{storage_bytes}
use Rattle.rox_scopes.specs.PrefixSet.{IsPrefixSet}
use Rattle.rox_grammar.proofs.Stretches.{slice-rest}
use Rattle.rox_grammar.proofs.Lists.{all_slice}
use Rattle.rox_names.proofs.Declaring.{uri_refused, declared_again, declared_many, declares_prefix_xml, declares_other, own_listed, own_declares, fails_by, many_pairs, kept_after, lists_after, places_after, remembers_after, once_after}
use Rattle.rox_names.proofs.namespace_decl.declare_namespace.Goals as goal

pub add_prefix-requires : goal.add_prefix-requires
add_prefix-requires c = grind (arith, all_slice, places_after)

pub returns-in_err-test_uri : goal.returns-in_err-test_uri
returns-in_err-test_uri c = grind (arith, uri_refused)

pub returns-then-is_own : goal.returns-then-is_own
returns-then-is_own c = record {
  own = search rules;
  lists = search rules;
  grown = search rules;
  value = λ known before h o d.
      let a = unresolved_view c.args.taken in
      let uri = sym c.test_uri.ensures ∙ c.in_ok-test_uri.was in
      let mine = own_listed known before (map namespace_view c.args.namespaces.now.items.items) (map namespace_view c.as_slice.result.now) c.args.listed.now.items c.deref.result.now c.args.xml h.own c.args.own
      o (ap (map namespace_view) c.as_slice.ensures.value) c.deref.ensures.value d in
      let again : is_declared (namespace_decl_of a).prefix h.own ≡ true =
      ap (λ p. is_declared p h.own) (sym c.declared_prefix-prefix.ensures) ∙ sym (own_declares (map namespace_view c.as_slice.result.now) _ (prefix_view c.declared_prefix-prefix.result) c.args.xml h.own c.is_own.result c.is_own.ensures d.xml_is mine) ∙ c.if-is_own.true in
      declared_again known a h uri again ∙ ap (λ (s : Span). Err (fault.DuplicatedNamespace s c.args.taken.start)) (sym (c.local_span.ensures a.name refl));
}

pub returns-then-is_xml : goal.returns-then-is_xml
returns-then-is_xml c = record {
  own = search rules;
  lists = search rules;
  grown = search rules;
  value = λ known before h o d.
      let a = unresolved_view c.args.taken in
      let uri = sym c.test_uri.ensures ∙ c.in_ok-test_uri.was in
      let mine = own_listed known before (map namespace_view c.args.namespaces.now.items.items) (map namespace_view c.as_slice.result.now) c.args.listed.now.items c.deref.result.now c.args.xml h.own c.args.own
      o (ap (map namespace_view) c.as_slice.ensures.value) c.deref.ensures.value d in
      let new : is_declared (namespace_decl_of a).prefix h.own ≡ false =
      ap (λ p. is_declared p h.own) (sym c.declared_prefix-prefix.ensures) ∙ sym (own_declares (map namespace_view c.as_slice.result.now) _ (prefix_view c.declared_prefix-prefix.result) c.args.xml h.own c.is_own.result c.is_own.ensures d.xml_is mine) ∙ c.if-is_own.false in
      let is : is_xml (namespace_decl_of a).prefix ≡ true = ap is_xml (sym c.declared_prefix-prefix.ensures) ∙ sym c.is_xml.ensures ∙ c.if-is_xml.true in
      declares_prefix_xml known before (map namespace_view c.args.namespaces.now.items.items) c.args.listed.now.items c.args.xml a h d uri new is;
}

pub returns-in_err-place : goal.returns-in_err-place
returns-in_err-place c = record {
  own = search rules;
  lists = search rules;
  grown = search rules;
  value = λ known before h o d.
      let a = unresolved_view c.args.taken in
      let p = err_from_is_err_and c.from_residual-in_err-place.result c.from_residual-in_err-place.ensures.1 in
      let uri = sym c.test_uri.ensures ∙ c.in_ok-test_uri.was in
      let mine = own_listed known before (map namespace_view c.args.namespaces.now.items.items) (map namespace_view c.as_slice.result.now) c.args.listed.now.items c.deref.result.now c.args.xml h.own c.args.own
      o (ap (map namespace_view) c.as_slice.ensures.value) c.deref.ensures.value d in
      let prefix_is = c.declared_prefix-prefix.ensures in
      let new : is_declared (namespace_decl_of a).prefix h.own ≡ false =
      ap (λ p. is_declared p h.own) (sym prefix_is) ∙ sym (own_declares (map namespace_view c.as_slice.result.now) _ (prefix_view c.declared_prefix-prefix.result) c.args.xml h.own c.is_own.result c.is_own.ensures d.xml_is mine) ∙ c.if-is_own.false in
      let is : is_xml (namespace_decl_of a).prefix ≡ false = ap is_xml (sym prefix_is) ∙ sym c.is_xml.ensures ∙ c.if-is_xml.false in
      rw (p.1, p.2) (fails_by c.in_err-place.field-0.0 c.place.result (declared known a h) c.in_err-place.was (λ f was.
      let k = c.place.ensures.fault f was in
      let many : most_pairs < length (with_new (map namespace_view c.args.namespaces.now.items.items) (namespace_decl_of a ∷ [])) =
      subst (λ (x : NamespaceDecl). most_pairs < length (with_new (map namespace_view c.args.namespaces.now.items.items) (x ∷ []))) (ap (λ p. pair p a.value) prefix_is) k.1 in
      declared_many known a h uri new (many_pairs known before (map namespace_view c.args.namespaces.now.items.items) c.args.listed.now.items c.args.xml a h d is many) ∙ ap (λ (x : Fault). Err x) (sym k.0)));
}

pub returns : goal.returns
returns c = record {
  own = record {
    places =
        places_after c.args.namespaces.now.items.items c.place.new.self.items.items c.args.listed.now.items c.push_with_room.new.to.items (pair (prefix_view c.declared_prefix-prefix.result) (storage_bytes c.args.taken.value)) c.in_ok-place.place
        c.in_ok-place.ensures.placed.table c.in_ok-place.ensures.placed.there.0 c.in_ok-push_with_room.ensures.items c.requires.places;
    own = omega (arith, c.requires.own, ap length c.in_ok-push_with_room.ensures.items, length-append c.args.listed.now.items (c.in_ok-place.place ∷ []));
    few = c.in_ok-place.ensures.placed.few;
    prefix_set =
        let rows = c.place.new.self.items.items in
        let namespaces = map namespace_view rows in
        let listed = c.args.listed.now.items in
        let after = c.push_with_room.new.to.items in
        let before = drop c.args.own listed in
        let mine : drop c.args.own after ≡ before ++ c.in_ok-place.place ∷ [] = ap (drop c.args.own) c.in_ok-push_with_room.ensures.items ∙ drop-append-le c.args.own listed (c.in_ok-place.place ∷ []) c.requires.own in
        let seen : slice_range c.deref-2.result.now c.args.own (length c.deref-2.result.now) ≡ drop c.args.own after = slice-rest c.deref-2.result.now c.args.own ∙ ap (drop c.args.own) c.deref-2.ensures.value in
        let old : IsPrefixSet namespaces before c.args.prefix_set.now.keys =
        remembers_after c.args.namespaces.now.items.items rows listed (pair (prefix_view c.declared_prefix-prefix.result) (storage_bytes c.args.taken.value)) c.args.own c.args.prefix_set.now.keys c.in_ok-place.ensures.placed.table c.requires.places c.requires.prefix_set in
        let table = ap (map namespace_view) c.as_slice-2.ensures.value in
        let prefix_is = ap (λ (d : NamespaceDecl). d.prefix) c.in_ok-place.ensures.placed.there.1 in
        subst (λ xs. IsPrefixSet namespaces xs c.add_prefix.new.prefixes.keys) seen
        (subst (λ ns. IsPrefixSet ns (slice_range c.deref-2.result.now c.args.own (length c.deref-2.result.now)) c.add_prefix.new.prefixes.keys) table
        (c.in_ok-add_prefix.ensures before c.in_ok-place.place (seen ∙ mine)
        (subst (λ ns. (namespace_at ns c.in_ok-place.place).prefix ≡ prefix_view c.declared_prefix-prefix.result) (sym table) prefix_is)
        (subst (λ ns. IsPrefixSet ns before c.args.prefix_set.now.keys) (sym table) old)));
    once =
        let old = c.args.namespaces.now.items.items in
        let listed = c.args.listed.now.items in
        let seen = c.deref.result.now in
        let one = pair (prefix_view c.declared_prefix-prefix.result) (storage_bytes c.args.taken.value) in
        let own_is : slice_range seen c.args.own (length seen) ≡ drop c.args.own listed = slice-rest seen c.args.own ∙ ap (drop c.args.own) c.deref.ensures.value in
        let absent : is_declared one.prefix (entries (map namespace_view old) (drop c.args.own listed)) ≡ false =
        ap (λ xs. is_declared one.prefix (entries (map namespace_view old) xs)) (sym own_is)
        ∙ ap (λ ns. is_declared one.prefix (entries ns (slice_range seen c.args.own (length seen)))) (sym (ap (map namespace_view) c.as_slice.ensures.value))
        ∙ (or_parts _ _ (sym c.is_own.ensures ∙ c.if-is_own.false)).0 in
        once_after old c.place.new.self.items.items listed c.push_with_room.new.to.items one c.in_ok-place.place c.args.own c.in_ok-place.ensures.placed.table c.in_ok-push_with_room.ensures.items c.requires.own c.requires.places
        c.in_ok-place.ensures.placed.there.1 absent c.requires.once;
  };
  lists = λ scopes h.
      lists_after c.args.namespaces.now.items.items c.place.new.self.items.items c.args.listed.now.items c.push_with_room.new.to.items (pair (prefix_view c.declared_prefix-prefix.result) (storage_bytes c.args.taken.value)) c.in_ok-place.place
      c.args.own scopes c.in_ok-place.ensures.placed.table c.in_ok-push_with_room.ensures.items c.requires.own c.requires.places h;
  grown = λ lists x h.
      kept_after c.args.namespaces.now.items.items c.place.new.self.items.items lists (pair (prefix_view c.declared_prefix-prefix.result) (storage_bytes c.args.taken.value)) x c.in_ok-place.ensures.placed.table h;
  value = λ known before h o d.
      let a = unresolved_view c.args.taken in
      let uri = sym c.test_uri.ensures ∙ c.in_ok-test_uri.was in
      let mine = own_listed known before (map namespace_view c.args.namespaces.now.items.items) (map namespace_view c.as_slice.result.now) c.args.listed.now.items c.deref.result.now c.args.xml h.own c.args.own
      o (ap (map namespace_view) c.as_slice.ensures.value) c.deref.ensures.value d in
      let prefix_is = c.declared_prefix-prefix.ensures in
      let new : is_declared (namespace_decl_of a).prefix h.own ≡ false =
      ap (λ p. is_declared p h.own) (sym prefix_is) ∙ sym (own_declares (map namespace_view c.as_slice.result.now) _ (prefix_view c.declared_prefix-prefix.result) c.args.xml h.own c.is_own.result c.is_own.ensures d.xml_is mine) ∙ c.if-is_own.false in
      let is : is_xml (namespace_decl_of a).prefix ≡ false = ap is_xml (sym prefix_is) ∙ sym c.is_xml.ensures ∙ c.if-is_xml.false in
      let one : pair (prefix_view c.declared_prefix-prefix.result) a.value ≡ namespace_decl_of a = ap (λ p. pair p a.value) prefix_is in
      let namespaces = map namespace_view c.args.namespaces.now.items.items in
      let rows = c.place.new.self.items.items in
      let long = length-map rows namespace_view in
      let there = c.in_ok-place.ensures.placed.there in
      let few : length (map namespace_view rows) ≤ most_pairs = rw long c.in_ok-place.ensures.placed.few in
      let here : c.in_ok-place.place < length (map namespace_view rows) = rw long there.0 in
      declares_other known before namespaces (map namespace_view rows) c.args.listed.now.items c.push_with_room.new.to.items c.args.xml a h c.in_ok-place.place d uri new is
      (c.in_ok-place.ensures.placed.table ∙ ap (λ (x : NamespaceDecl). with_new namespaces (x ∷ [])) one) few here (there.1 ∙ one) c.in_ok-push_with_room.ensures.items;
}
