use Rattle.std.proofs.Common.{◌<◌, sym, ◌∙◌, length, map, Some, arith}
use Rattle.rox_grammar.specs.Document.{most_pairs}
use Rattle.rox_grammar.specs.Failures.{name_view}
use Rattle.rox_grammar.proofs.AtIndex.{option_more}
use Rattle.rox_scopes.specs.NamespaceViews.{namespace_view}
use Rattle.rox_names.specs.TagScopes.{scope_in_tables}
use Rattle.rox_names.proofs.NameTests.{element_some}
use Rattle.rox_attributes.proofs.PlainAttributes.{few_within, few_once}
use Rattle.rox_tags.proofs.PlainTags.{few_found, filled_some}
use Rattle.rox_tags.proofs.quick_tag.prefixed_namespace.Goals as goal

pub find_in_slot-requires : goal.find_in_slot-requires
find_in_slot-requires c = record {
  once = record {
    within = few_within c.args.elements.now c.as_slice-namespaces.result.now c.deref.result.now c.deref-2.result.now c.in_ok-places.places.now c.args.scope c.as_slice-namespaces.ensures.value c.deref.ensures.value c.deref-2.ensures.value c.requires.scope.places c.in_ok-places.ensures.few;
    once = few_once c.args.elements.now c.as_slice-namespaces.result.now c.deref.result.now c.deref-2.result.now c.in_ok-places.places.now c.args.scope c.as_slice-namespaces.ensures.value c.deref.ensures.value c.deref-2.ensures.value c.requires.scope.once c.in_ok-places.ensures.few;
  };
  some = filled_some c.args.name.prefix.now c.requires.prefixed;
}

pub returns : goal.returns
returns c =
    let t = c.args.elements.now in
    let place = c.in_ok-place.place in
    let found = c.in_ok-place.ensures in
    let within : place < length t.namespaces.items.items = rw c.as_slice-namespaces.ensures.value at found.0 in
    let number = c.namespace_number.ensures (option_more (length t.namespaces.items.items) most_pairs (Some place) c.requires.few within) in
    let here = few_found t c.as_slice-namespaces.result.now c.deref.result.now c.deref-2.result.now c.in_ok-places.places.now c.args.scope c.as_slice-namespaces.ensures.value c.deref.ensures.value c.deref-2.ensures.value c.in_ok-places.ensures.few in
    let named = element_some (map namespace_view c.as_slice-namespaces.result.now) (scope_in_tables t c.args.scope) (name_view c.args.name) place c.requires.prefixed (sym (here.uris _) ∙ found.1) in
    grind arith
