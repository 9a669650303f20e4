use Rattle.std.proofs.Common.{◌+◌, ◌≤◌, ◌∷◌, [], ap, ◌∙◌, length, length-append, arith}
use Rattle.rox_scopes.proofs.Ropes.{rows_push}
use Rattle.test_library.proofs.tests.tables.with_one.Goals as goal

pub both-requires : goal.both-requires
both-requires c =
    let le : c.args.from ≤ c.args.from + 1 = omega arith in
    let n = ap length c.in_ok-own.ensures.items ∙ length-append c.args.scopes.now.items (_ ∷ []) in
    let v = c.in_ok-own.ensures.value in
    let within = c.requires.scope.within in
    record {
      first = omega arith;
      rest = omega arith;
      rows = rows_push _ _ _ c.in_ok-own.ensures.items c.requires.scope.rows le;
    }
