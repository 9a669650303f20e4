use Rattle.std.proofs.Common.{arith}
use Rattle.rox_names.proofs.NameTests.{known_some}
use Rattle.rox_attributes.proofs.PlainAttributes.{few_within, few_once}
use Rattle.rox_attributes.proofs.quick_attribute.prefix_namespace.Goals as goal

pub find_in_slot-requires : goal.find_in_slot-requires
find_in_slot-requires c = record {
  once = record {
    within = few_within c.args.elements.now c.as_slice-namespaces.result.now c.deref.result.now c.deref-2.result.now c.in_ok-places.places.now c.args.scope c.as_slice-namespaces.ensures.value c.deref.ensures.value c.deref-2.ensures.value c.requires.scope.places c.in_ok-places.ensures.few;
    once = few_once c.args.elements.now c.as_slice-namespaces.result.now c.deref.result.now c.deref-2.result.now c.in_ok-places.places.now c.args.scope c.as_slice-namespaces.ensures.value c.deref.ensures.value c.deref-2.ensures.value c.requires.scope.once c.in_ok-places.ensures.few;
  };
  some = c.requires.some;
}

pub returns-in-Some : goal.returns-in-Some
returns-in-Some c = grind (arith, known_some)
