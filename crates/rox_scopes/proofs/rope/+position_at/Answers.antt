use Rattle.std.proofs.Common.{rules, ◌≡◌, ◌+◌, ◌<◌, ◌≤◌, length, get_or, sym, ap, ◌∙◌, arith, length-append}
use Rattle.rox_scopes.specs.ScopeRows.{count_at}
use Rattle.rox_scopes.specs.Scopes.{places_in}
use Rattle.rox_scopes.proofs.Leaves.{get_front, get_behind}
use Rattle.rox_scopes.proofs.Ropes.{few_at, back_at, both_at}
use Rattle.rox_scopes.proofs.rope.+position_at.Goals as goal

pub overflow_add-result : goal.overflow_add-result
overflow_add-result t c =
    let f = few_at _ _ _ _ c.args.index c.requires.scope.scopes c.requires.scope.within c.in-Few.is c.requires.index in
    let a = f.0 in
    let b = f.1 in
    omega arith

pub overflow_sub-result : goal.overflow_sub-result
overflow_sub-result t c =
    let f = back_at _ _ _ _ c.args.index c.requires.scope.scopes c.requires.scope.within c.in-Back.is c.requires.index in
    let a = f.0 in
    omega arith

pub overflow_sub-result-in-Back : goal.overflow_sub-result-in-Back
overflow_sub-result-in-Back t c =
    let f = back_at _ _ _ _ c.args.index c.requires.scope.scopes c.requires.scope.within c.in-Back.is c.requires.index in
    let a = f.0 in
    omega arith

pub position_at-requires : goal.position_at-requires
position_at-requires t c =
    let ls = c.args.listed.now in
    let rows = c.args.scopes.now in
    let f = both_at ls rows c.args.scope _ c.requires.scope.scopes c.requires.scope.within c.in-Concat.is in
    let a : c.in-Concat.parts.first < c.args.scope = f.0 in
    let lt = c.requires.scope.within in
    let m : count_at rows c.in-Concat.parts.first ≡ length (places_in ls rows c.in-Concat.parts.first) = f.2 in
    let n : c.count-before.result ≡ count_at rows c.in-Concat.parts.first = c.count-before.ensures in
    let d = c.decreases in
    (omega arith, record { scope = record { scopes = c.requires.scope.scopes; within = omega arith }; index = omega arith })

pub position_at-requires-in-Concat : goal.position_at-requires-in-Concat
position_at-requires-in-Concat t c =
    let ls = c.args.listed.now in
    let rows = c.args.scopes.now in
    let f = both_at ls rows c.args.scope _ c.requires.scope.scopes c.requires.scope.within c.in-Concat.is in
    let a : c.in-Concat.parts.rest < c.args.scope = f.1 in
    let lt = c.requires.scope.within in
    let k = c.requires.index in
    let m : count_at rows c.in-Concat.parts.first ≡ length (places_in ls rows c.in-Concat.parts.first) = f.2 in
    let n : c.count-before.result ≡ count_at rows c.in-Concat.parts.first = c.count-before.ensures in
    let l : length (places_in ls rows c.args.scope) ≡ length (places_in ls rows c.in-Concat.parts.first) + length (places_in ls rows c.in-Concat.parts.rest) =
    ap length f.3 ∙ length-append (places_in ls rows c.in-Concat.parts.first) (places_in ls rows c.in-Concat.parts.rest) in
    let d = c.decreases in
    (omega arith, record { scope = record { scopes = c.requires.scope.scopes; within = omega arith }; index = omega arith })

pub returns-in-Few : goal.returns-in-Few
returns-in-Few t c = record {
  within =
      let f = few_at _ _ _ _ c.args.index c.requires.scope.scopes c.requires.scope.within c.in-Few.is c.requires.index in
      let a = f.0 in
      let b = f.1 in
      omega arith;
  value = (few_at _ _ _ _ c.args.index c.requires.scope.scopes c.requires.scope.within c.in-Few.is c.requires.index).2;
}

pub returns-in-Back : goal.returns-in-Back
returns-in-Back t c = record {
  within =
      let f = back_at _ _ _ _ c.args.index c.requires.scope.scopes c.requires.scope.within c.in-Back.is c.requires.index in
      let a = f.0 in
      let b = f.1 in
      omega arith;
  value = (back_at _ _ _ _ c.args.index c.requires.scope.scopes c.requires.scope.within c.in-Back.is c.requires.index).2;
}

pub returns-then-index-before : goal.returns-then-index-before
returns-then-index-before t c = record {
  within = search rules;
  value =
      let ls = c.args.listed.now in
      let rows = c.args.scopes.now in
      let f = both_at ls rows c.args.scope _ c.requires.scope.scopes c.requires.scope.within c.in-Concat.is in
      let m : count_at rows c.in-Concat.parts.first ≡ length (places_in ls rows c.in-Concat.parts.first) = f.2 in
      let n : c.count-before.result ≡ count_at rows c.in-Concat.parts.first = c.count-before.ensures in
      let lt : c.args.index < length (places_in ls rows c.in-Concat.parts.first) = omega arith in
      c.position_at.ensures.value ∙ sym (ap (λ xs. get_or xs c.args.index 0) f.3 ∙ get_front (places_in ls rows c.in-Concat.parts.first) (places_in ls rows c.in-Concat.parts.rest) c.args.index 0 lt);
}

pub returns-else-index-before : goal.returns-else-index-before
returns-else-index-before t c = record {
  within = search rules;
  value =
      let ls = c.args.listed.now in
      let rows = c.args.scopes.now in
      let f = both_at ls rows c.args.scope _ c.requires.scope.scopes c.requires.scope.within c.in-Concat.is in
      let m : count_at rows c.in-Concat.parts.first ≡ length (places_in ls rows c.in-Concat.parts.first) = f.2 in
      let n : c.count-before.result ≡ count_at rows c.in-Concat.parts.first = c.count-before.ensures in
      let le : length (places_in ls rows c.in-Concat.parts.first) ≤ c.args.index = omega arith in
      c.position_at-in-Concat.ensures.value ∙ ap (λ k. get_or (places_in ls rows c.in-Concat.parts.rest) k 0) (omega arith)
      ∙ sym (ap (λ xs. get_or xs c.args.index 0) f.3 ∙ get_behind (places_in ls rows c.in-Concat.parts.first) (places_in ls rows c.in-Concat.parts.rest) c.args.index 0 le);
}
