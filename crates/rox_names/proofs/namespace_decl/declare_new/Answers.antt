use Rattle.std.proofs.Common.{◌≡◌, ◌<◌, ◌≤◌, ◌+◌, ◌∷◌, [], false, refl, sym, ap, ◌∙◌, map, length, length-append, arith, Ok}
use Rattle.std.proofs.lemmas.List.{length-map}
use Rattle.rox_grammar.specs.declared.fault.Fault.{Fault}
use Rattle.rox_grammar.specs.Tree.{is_declared, is_xml}
use Rattle.rox_grammar.specs.Counts.{with_new}
use Rattle.rox_grammar.specs.Document.{most_pairs}
use Rattle.rox_grammar.specs.Written.{NamespaceDecl, namespace_decl_of}
use Rattle.rox_grammar.specs.AtIndex.{namespace_at}
use Rattle.rox_scopes.specs.NamespaceViews.{namespace_view}
use Rattle.rox_scopes.specs.Scopes.{entries, prefix_view, pair}
use Rattle.rox_storage.specs.Storage.{storage_bytes}
use Rattle.rox_names.specs.TagDeclarations.{unresolved_view}
use Rattle.rox_names.proofs.Declaring.{absent_listed, absent_row, declares_other, kept_after, lists_after, once_after, own_declares, own_places, passed_uri, places_after, with_absent}
use Rattle.rox_scopes.proofs.Indexing.{row_last}
use Rattle.rox_scopes.proofs.Remembering.{remembers_few}
use Rattle.rox_names.proofs.namespace_decl.declare_new.Goals as goal

pub add_new-requires : goal.add_new-requires
add_new-requires c = grind (arith, absent_row)

pub returns-clause-declared : goal.returns-clause-declared
returns-clause-declared c = λ _ keys has.
    let old = c.args.namespaces.now.items.items in
    let rows = c.add_new.new.self.items.items in
    let listed = c.args.listed.now.items in
    let after = c.push_with_room.new.to.items in
    let one = pair (prefix_view c.declared_prefix-prefix.result) (storage_bytes c.args.taken.value) in
    let place = c.in_ok-added.added in
    let ds = map namespace_view old in
    let none : is_declared one.prefix ds ≡ false = ap (λ rows. is_declared one.prefix (map namespace_view rows)) (sym c.as_slice-pairs.ensures.value) ∙ sym c.has_prefix.ensures ∙ c.if-has_prefix.false in
    let table : map namespace_view rows ≡ with_new ds (one ∷ []) = c.in_ok-added.ensures.items ∙ with_absent ds one (absent_row old one none) in
    let last = row_last {E = Fault} (Ok place) old rows one c.in_ok-added.ensures.items c.in_ok-added.ensures.place in
    let was = length-map old namespace_view in
    let long = length-map rows namespace_view in
    let more = ap length c.in_ok-added.ensures.items ∙ length-append ds (one ∷ []) in
    let count : length rows ≡ length old + 1 = omega (arith, was, long, more) in
    let there : place < length rows = last.0 in
    let at : namespace_at (map namespace_view rows) place ≡ one = last.1 in
    let pushed = c.in_ok-push_with_room.ensures.items in
    let short : length old < 16 = omega (arith, ap length c.as_slice-pairs.ensures.value) in
    let few : length rows ≤ most_pairs = omega (arith, count, short) in
    let absent : is_declared one.prefix (entries ds listed) ≡ false = absent_listed ds listed one.prefix none (rw was has.places) in
    record {
      own = record {
        places = places_after old rows listed after one place table there pushed has.places;
        own = omega arith;
        few = few;
        prefix_set = remembers_few (map namespace_view rows) after keys (omega (arith, ap length pushed, length-append listed (place ∷ [])));
        once = once_after old rows listed after one place 0 table pushed (omega arith) has.places at absent has.once;
      };
      lists = λ scopes h. lists_after old rows listed after one place 0 scopes table pushed (omega arith) has.places h;
      grown = λ lists x h. kept_after old rows lists one x table h;
      value = λ known before h o d.
          let a = unresolved_view c.args.taken in
          let uri = passed_uri a c.test_uri.result c.test_uri.ensures c.if-is_err.ensures.negation in
          let prefix_is = c.declared_prefix-prefix.ensures in
          let new : is_declared (namespace_decl_of a).prefix h.own ≡ false =
          ap (λ p. is_declared p h.own) (sym prefix_is) ∙ sym (own_declares ds listed one.prefix false h.own false (rw absent refl) d.xml_is (ap (entries ds) (own_places before listed d.mine 0 o d.listed_are) ∙ d.same)) in
          let is : is_xml (namespace_decl_of a).prefix ≡ false = ap is_xml (sym prefix_is) ∙ sym c.is_xml.ensures ∙ c.if-is_xml.false in
          let same : one ≡ namespace_decl_of a = ap (λ p. pair p a.value) prefix_is in
          declares_other known before ds (map namespace_view rows) listed after false a h place d uri new is
          (table ∙ ap (λ (x : NamespaceDecl). with_new ds (x ∷ [])) same) (rw long few) (rw long there) (at ∙ same) pushed;
    }
