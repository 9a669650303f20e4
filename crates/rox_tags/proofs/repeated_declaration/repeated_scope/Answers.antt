use Rattle.std.proofs.Common.{sym, ◌∙◌, arith}
use Rattle.rox_attributes.proofs.PlainAttributes.{few_is, few_within}
use Rattle.rox_tags.proofs.Repeating.{repeated}
use Rattle.rox_tags.proofs.repeated_declaration.repeated_scope.Goals as goal

pub is_declared-requires : goal.is_declared-requires
is_declared-requires c =
    few_within c.args.elements.now c.as_slice-namespaces.result.now c.deref.result.now c.deref-2.result.now c.in_ok-around.around.now c.args.above c.as_slice-namespaces.ensures.value c.deref.ensures.value c.deref-2.ensures.value c.requires.places c.in_ok-around.ensures.few

pub are_one_more-requires : goal.are_one_more-requires
are_one_more-requires c =
    few_within c.args.elements.now c.as_slice-namespaces.result.now c.deref-in-loop-turn.result.now c.deref-in-loop-turn-2.result.now c.in-Some.places.now _ c.as_slice-namespaces.ensures.value c.deref-in-loop-turn.ensures.value c.deref-in-loop-turn-2.ensures.value c.requires.places c.in-Some.ensures.few

pub returns-then-are_one_more : goal.returns-then-are_one_more
returns-then-are_one_more c =
    let a = few_is c.args.elements.now c.deref.result.now c.deref-2.result.now c.in_ok-around.around.now c.args.above c.deref.ensures.value c.deref-2.ensures.value c.in_ok-around.ensures.few in
    let p = few_is c.args.elements.now c.deref-in-loop-turn.result.now c.deref-in-loop-turn-2.result.now c.in-Some.places.now _ c.deref-in-loop-turn.ensures.value c.deref-in-loop-turn-2.ensures.value c.in-Some.ensures.few in
    repeated c.args.elements.now c.args.above _ _ c.as_slice-namespaces.result.now c.in-Some.places.now c.in_ok-around.around.now c.as_slice-namespaces.ensures.value p a
    (let k = c.args.elements.now.scopes.ok.0 in omega (arith, k, c.len-count.ensures, c.if-turn-count.false))
    (c.are_one_more.ensures c.if-are_one_more.true) (sym c.is_declared.ensures ∙ c.if-is_declared.false)
