use Rattle.std.proofs.Common.{rules, ◌≡◌, ◌≤◌, ◌+◌, length, map, sym, ap, subst, ◌∙◌, arith, ℕ, List, length-append, Bor, option_map}
use Rattle.std.specs.List.{AllByRecursion}
use Rattle.std.proofs.lemmas.List.{length-map}
use Rattle.rox_grammar.specs.Tree.{attribute_in}
use Rattle.rox_grammar.specs.Document.{most_attributes, most_pairs}
use Rattle.rox_grammar.specs.Failures.{name_view}
use Rattle.rox_grammar.specs.AtIndex.{namespace_at, scope_at, OptionWithin}
use Rattle.rox_rows.specs.Rows.{attribute, NamespaceWithin, AttributeRow, attribute_rows}
use Rattle.rox_scopes.specs.NamespaceViews.{namespace_view}
use Rattle.rox_scopes.specs.Bindings.{places_view}
use Rattle.rox_names.specs.TagDeclarations.{unresolved_view}
use Rattle.rox_names.specs.TagScopes.{lists_in}
use Rattle.rox_names.proofs.Finding.{looks_for, found_for, seen_by}
use Rattle.rox_grammar.proofs.AtIndex.{option_more}
use Rattle.rox_starts.proofs.Starting.{tested_known}
use Rattle.rox_starts.proofs.tag.element_data.Goals as goal

pub resolve-requires : goal.resolve-requires
resolve-requires c = grind (arith, looks_for)

pub element_namespace-requires : goal.element_namespace-requires
element_namespace-requires c = grind (arith, looks_for)

pub returns-in_err-resolve : goal.returns-in_err-resolve
returns-in_err-resolve c = grind (arith, length-map, found_for)

pub returns-in_err-namespace : goal.returns-in_err-namespace
returns-in_err-namespace c = grind (arith, length-map, found_for)

pub element_of-requires : goal.element_of-requires
element_of-requires c =
    let t = c.args.elements.now in
    let namespaces = map namespace_view t.namespaces.items.items in
    let scope = scope_at (lists_in t) c.args.scope in
    let written = map unresolved_view c.args.taken.now.items in
    let few : (length (attribute_rows t.attributes)) + length written ≤ most_attributes =
    (let k = c.args.taken.now.ok.0 in let a = c.if-len-from.false in let b = c.len-from.ensures in let l = c.len.ensures in let most = c.requires.few in let m = length-map c.args.taken.now.items unresolved_view in omega arith) in
    let finds = found_for t c.deref.result.now c.deref-2.result.now c.few_places-few.result c.args.scope c.deref.ensures.value c.deref-2.ensures.value c.few_places-few.ensures.few c.few_places-few.ensures.many c.requires.present in
    let here = seen_by t c.as_slice.result.now (places_view c.few_places-few.result) scope c.as_slice.ensures.value finds in
    let moved = (c.in_ok-resolve.ensures scope here).1 in
    let grown = ap length moved.1 ∙ length-append (attribute_rows t.attributes) moved.0 in
    let n = ap length moved.2 in
    let a = length-map moved.0 (attribute (map namespace_view c.as_slice.result.now)) in
    let b = length-map written (attribute_in scope) in
    let from = c.len-from.ensures in
    record { within = omega arith; few = omega arith }

pub returns : goal.returns
returns c =
    let t = c.args.elements.now in
    let namespaces = map namespace_view t.namespaces.items.items in
    let scope = scope_at (lists_in t) c.args.scope in
    let written = map unresolved_view c.args.taken.now.items in
    let count = length (attribute_rows t.attributes) in
    let few : count + length written ≤ most_attributes =
    (let k = c.args.taken.now.ok.0 in let a = c.if-len-from.false in let b = c.len-from.ensures in let l = c.len.ensures in let most = c.requires.few in let m = length-map c.args.taken.now.items unresolved_view in omega arith) in
    let finds = found_for t c.deref.result.now c.deref-2.result.now c.few_places-few.result c.args.scope c.deref.ensures.value c.deref-2.ensures.value c.few_places-few.ensures.few c.few_places-few.ensures.many c.requires.present in
    let here = seen_by t c.as_slice.result.now (places_view c.few_places-few.result) scope c.as_slice.ensures.value finds in
    let here2 = seen_by t c.as_slice-2.result.now (places_view c.few_places-few.result) scope c.as_slice-2.ensures.value finds in
    record {
      others = search rules;
      tested = tested_known scope count c.args.at (name_view c.args.name) written few (c.in_ok-resolve.ensures scope here).0 (c.in_ok-namespace.ensures.ok scope here2).1;
      element =
          let moved = (c.in_ok-resolve.ensures scope here).1 in
          let named = c.in_ok-namespace.ensures.ok scope here2 in
          let o = c.in_ok-namespace.namespace in
          let place = subst (λ (n : ℕ). OptionWithin n o) (ap length c.as_slice-2.ensures.value) c.in_ok-namespace.ensures.within in
          let number = c.namespace_number-number.ensures (option_more (length t.namespaces.items.items) most_pairs o c.requires.few_names place) in
          let same : map (attribute namespaces) moved.0 ≡ map (attribute_in scope) written =
          ap (λ ns. map (attribute ns) moved.0) (sym (ap (map namespace_view) c.as_slice.ensures.value)) ∙ moved.2 in
          let wide : length c.as_slice.result.now ≡ length namespaces = ap length c.as_slice.ensures.value ∙ sym (length-map t.namespaces.items.items namespace_view) in
          let grown = ap length moved.1 ∙ length-append (attribute_rows t.attributes) moved.0 in
          let n = ap length same in
          let a = length-map moved.0 (attribute namespaces) in
          let b = length-map written (attribute_in scope) in
          let made = c.element_of.ensures in
          record {
            attributes = record {
              more = moved.0;
              grown = moved.1;
              same = same;
              within = subst (λ (n : ℕ). AllByRecursion (λ (a : AttributeRow). NamespaceWithin n a.0.namespace) moved.0) wide moved.3;
            };
            attributes_from = made.attributes_from ∙ c.len-from.ensures;
            attributes_until = made.attributes_until;
            few = omega arith;
            local = ap (λ (l : Bor (List ℕ)). l.now) made.local;
            namespace = rw (made.namespace, number) (ap (λ ns. option_map (λ i. (namespace_at ns i).uri) o) (sym (ap (map namespace_view) c.as_slice-2.ensures.value)) ∙ named.0);
            namespace_within = rw (made.namespace, number) place;
            scope_within = rw made.scope c.requires.within;
            lists = ap (scope_at (lists_in t)) made.scope;
          };
      err = search rules;
    }
