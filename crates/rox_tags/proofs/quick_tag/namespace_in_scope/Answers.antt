use Rattle.std.proofs.Common.{rules, arith}
use Rattle.rox_attributes.proofs.PlainAttributes.{few_within}
use Rattle.rox_tags.proofs.PlainTags.{few_found}
use Rattle.rox_tags.proofs.quick_tag.namespace_in_scope.Goals as goal

pub element_namespace-requires : goal.element_namespace-requires
element_namespace-requires c = record {
  within =
      few_within c.args.elements.now c.as_slice-namespaces.result.now c.deref.result.now c.deref-2.result.now c.in_ok-places.places.now c.args.scope c.as_slice-namespaces.ensures.value c.deref.ensures.value c.deref-2.ensures.value c.requires.scope.places c.in_ok-places.ensures.few;
  small = search rules;
}

pub returns-in-Ok : goal.returns-in-Ok
returns-in-Ok c = grind (arith, few_found c.args.elements.now c.as_slice-namespaces.result.now c.deref.result.now c.deref-2.result.now c.in_ok-places.places.now c.args.scope c.as_slice-namespaces.ensures.value c.deref.ensures.value c.deref-2.ensures.value c.in_ok-places.ensures.few)
