use Rattle.std.proofs.Common.{arith}
use Rattle.rox_scopes.proofs.Ropes.{few_at}
use Rattle.rox_scopes.proofs.rope.fast_position_at.Goals as goal

pub overflow_add-result : goal.overflow_add-result
overflow_add-result c =
    let f = few_at _ _ _ _ c.args.index c.requires.scope.scopes c.requires.scope.within c.in-Few.is c.requires.index in
    let a = f.0 in
    let b = f.1 in
    omega arith

pub returns-in-Few : goal.returns-in-Few
returns-in-Few c =
    let f = few_at _ _ _ _ c.args.index c.requires.scope.scopes c.requires.scope.within c.in-Few.is c.requires.index in
    let a = f.0 in
    let b = f.1 in
    record {
      within = omega arith;
      value = f.2;
    }
