use Rattle.std.proofs.Common.{arith, rules, ◌≡◌, ◌+◌}
use Rattle.std.proofs.lemmas.Result.{err_from_is_err_and}
use Rattle.std.proofs.lemmas.Str.{IsCharBoundary-after_ascii}
use Rattle.rox_path.specs.Paths.{no_slash, behind_one, behind_two, one_slash, two_slashes}
use Rattle.rox_path.proofs.PathLemmas.{ill_name, stands, stands_not}
use Rattle.rox_path.proofs.parse.step_at.Goals as goal

pub returns-then-not-is_at : goal.returns-then-not-is_at
returns-then-not-is_at c = no_slash (stands_not c.args.text.now c.args.at 47 c.if-not-is_at.ensures)

pub name_at-requires : goal.name_at-requires
name_at-requires c =
    let second = stands c.args.text.now (c.args.at + 1) 47 c.if-is_at.ensures (omega arith) in
    let two : (c.args.at + 1) + 1 ≡ c.args.at + 2 = omega arith in
    let cut = IsCharBoundary-after_ascii c.args.text.now (c.args.at + 1) c.utf8.text second.0 (omega (arith, second.1)) in
    rw two at cut

pub returns-in_err-name : goal.returns-in_err-name
returns-in_err-name c =
    let p = err_from_is_err_and c.from_residual.result c.from_residual.ensures.1 in
    rw (p.1, p.2) (ill_name _ _ _ c.in_err-name.field-0.0 (behind_two (stands c.args.text.now c.args.at 47 c.if-not-is_at.ensures (omega arith)).1 (stands c.args.text.now (c.args.at + 1) 47 c.if-is_at.ensures (omega arith)).1) c.in_err-name.ensures)

pub name_at-requires-else-is_at : goal.name_at-requires-else-is_at
name_at-requires-else-is_at c =
    let first = stands c.args.text.now c.args.at 47 c.if-not-is_at.ensures (omega arith) in
    IsCharBoundary-after_ascii c.args.text.now c.args.at c.utf8.text first.0 (omega (arith, first.1))

pub returns-in_err-name-2 : goal.returns-in_err-name-2
returns-in_err-name-2 c =
    let p = err_from_is_err_and c.from_residual-in_err-name-2.result c.from_residual-in_err-name-2.ensures.1 in
    rw (p.1, p.2) (ill_name _ _ _ c.in_err-name-2.field-0.0 (behind_one (stands c.args.text.now c.args.at 47 c.if-not-is_at.ensures (omega arith)).1 (stands_not c.args.text.now (c.args.at + 1) 47 c.if-is_at.ensures)) c.in_err-name-2.ensures)

pub returns-in_ok-name : goal.returns-in_ok-name
returns-in_ok-name c = record { ends = search rules; step = two_slashes _ (stands c.args.text.now c.args.at 47 c.if-not-is_at.ensures (omega arith)).1 (stands c.args.text.now (c.args.at + 1) 47 c.if-is_at.ensures (omega arith)).1 c.in_ok-name.ensures.name }

pub returns-in_ok-name-2 : goal.returns-in_ok-name-2
returns-in_ok-name-2 c = record { ends = search rules; step = one_slash _ (stands c.args.text.now c.args.at 47 c.if-not-is_at.ensures (omega arith)).1 c.in_ok-name-2.ensures.name }
