use Rattle.std.proofs.Common.{arith, ◌<◌, ◌≡◌, ◌⊎◌, length, inl, inr}
use Rattle.std.proofs.lemmas.Str.{IsCharBoundary-start}
use Rattle.std.proofs.lemmas.Result.{err_from_is_err_and}
use Rattle.rox_path.proofs.PathLemmas.{none, read_more, reached, is_path, no_path, ill_step}
use Rattle.rox_path.proofs.parse.parse_path.Goals as goal
use Rattle.rox_path.proofs.parse.parse_path.Goals.{then-at-eq0, else-at-eq0+then-at-text}

pub loop-at-init : goal.loop-at-init
loop-at-init c = record { read = rw c.new-steps.ensures.items none; cut = IsCharBoundary-start _ c.utf8.text }

pub returns-in_err-step-clause-bad : goal.returns-in_err-step-clause-bad
returns-in_err-step-clause-bad c k is =
    let p = err_from_is_err_and c.from_residual.result c.from_residual.ensures.1 in
    let due : (c.loop-at.at ≡ 0) ⊎ (c.loop-at.at < length c.args.text.now) = elim c.if-at-eq0.branch [ then-at-eq0 w ↦ inl (omega arith) | else-at-eq0+then-at-text w ↦ inr (omega arith) ] in
    ill_step _ _ k c.in_err-step.field-0.0 (reached _ _ _ c.loop-at.invariant.read) due c.in_err-step.ensures cc

pub returns-in_err-step-clause-no_path : goal.returns-in_err-step-clause-no_path
returns-in_err-step-clause-no_path c k is steps = no_path _ k steps (returns-in_err-step-clause-bad c k is)

pub loop-at-preserved : goal.loop-at-preserved
loop-at-preserved c = record { read = read_more _ _ _ _ c.loop-at.steps.items _ c.loop-at.invariant.read c.in_ok-step.ensures.step c.in_ok-push.ensures.items; cut = c.in_ok-step.ensures.ends.cut }

pub returns-clause-ok : goal.returns-clause-ok
returns-clause-ok c = is_path _ _ _ c.loop-at.invariant.read (omega (arith, c.if-at-text.false, c.loop-at.invariant.cut.0)) c.if-at-eq0.false
