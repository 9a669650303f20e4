use Rattle.rox_names.specs.TagScopes.{scope_in_tables}
use Rattle.rox_attributes.proofs.PlainAttributes.{few_within}
use Rattle.rox_tags.proofs.PlainTags.{few_found}
use Rattle.rox_tags.proofs.deferred_names.put_taken.Goals as goal

pub resolve-requires : goal.resolve-requires
resolve-requires c = few_within c.args.elements.now c.as_slice-namespaces.result.now c.deref.result.now c.deref-2.result.now c.in-Some.places.now 1 c.as_slice-namespaces.ensures.value c.deref.ensures.value c.deref-2.ensures.value c.requires.places c.in-Some.ensures.few

pub returns-in-Ok-clause-resolves : goal.returns-in-Ok-clause-resolves
returns-in-Ok-clause-resolves c = λ yes.
    let t = c.args.elements.now in
    let finds = few_found t c.as_slice-namespaces.result.now c.deref.result.now c.deref-2.result.now c.in-Some.places.now 1 c.as_slice-namespaces.ensures.value c.deref.ensures.value c.deref-2.ensures.value c.in-Some.ensures.few in
    rw c.as_slice-namespaces.ensures.value at (c.in-Ok.ensures (scope_in_tables t 1) finds)
