use Rattle.std.proofs.Common.{◌≤◌, ◌∷◌, ap, ◌∙◌, [], length, length-append, arith}
use Rattle.rox_scopes.proofs.Ropes.{rows_push}
use Rattle.test_library.proofs.tests.tables.nested.Goals as goal

pub loop-from-init : goal.loop-from-init
loop-from-init c =
    let n = ap length c.in_ok-scope.ensures.items ∙ length-append c.args.scopes.now.items (_ ∷ []) in
    let v = c.in_ok-scope.ensures.value in
    let le : 0 ≤ 0 = omega arith in
    record { within = omega arith; rows = rows_push _ _ _ c.in_ok-scope.ensures.items c.requires le }
