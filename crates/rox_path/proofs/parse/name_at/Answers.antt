use Rattle.std.proofs.Common.{arith, rules, ℕ, List, ◌<◌, ◌≡◌, length, ap, ◌∙◌, Some, None}
use Rattle.std.proofs.lemmas.Result.{err_from_is_err_and}
use Rattle.std.proofs.lemmas.Str.{IsCharBoundary-after_ascii}
use Rattle.rox_path.specs.Steps.{Expanded}
use Rattle.rox_path.specs.Paths.{no_brace}
use Rattle.rox_path.proofs.PathLemmas.{name_alone, name_with, ill_local, ill_local_behind, stands, stands_not}
use Rattle.rox_path.proofs.parse.name_at.Goals as goal

pub returns-in_err-local : goal.returns-in_err-local
returns-in_err-local c =
    let p = err_from_is_err_and c.from_residual.result c.from_residual.ensures.1 in
    rw (p.1, p.2) (ill_local _ _ c.in_err-local.field-0.0 (stands_not c.args.text.now c.args.at 123 c.if-not-is_at.ensures) c.in_err-local.ensures)

pub returns-then-not-is_at : goal.returns-then-not-is_at
returns-then-not-is_at c =
    record { ends = c.in_ok-local.ensures.ends; name = name_alone _ _ _ _ c.in_ok-local.ensures.end c.in_ok-local.ensures.ends.onward (c.from.ensures ∙ ap (λ local. (None, local)) c.in_ok-local.ensures.local) }

pub returns-then-close-text : goal.returns-then-close-text
returns-then-close-text c =
    let brace = stands c.args.text.now c.args.at 123 c.if-not-is_at.ensures (omega arith) in
    let value = c.uri_end-close.ensures.value in
    no_brace brace.1 cc

pub local_at-requires-2 : goal.local_at-requires-2
local_at-requires-2 c =
    let within : c.uri_end-close.result < length c.args.text.now = omega (arith, c.uri_end-close.ensures.within, c.if-close-text.false) in
    IsCharBoundary-after_ascii c.args.text.now c.uri_end-close.result c.utf8.text within (omega (arith, (c.uri_end-close.ensures.found within)))

pub returns-in_err-local-2 : goal.returns-in_err-local-2
returns-in_err-local-2 c =
    let p = err_from_is_err_and c.from_residual-in_err-local-2.result c.from_residual-in_err-local-2.ensures.1 in
    let within : c.uri_end-close.result < length c.args.text.now = omega (arith, c.uri_end-close.ensures.within, c.if-close-text.false) in
    rw (p.1, p.2) (ill_local_behind _ _ c.uri_end-close.result c.in_err-local-2.field-0.0 (stands c.args.text.now c.args.at 123 c.if-not-is_at.ensures (omega arith)).1 c.uri_end-close.ensures.value within c.in_err-local-2.ensures)

pub range-requires-clause-start_boundary : goal.range-requires-clause-start_boundary
range-requires-clause-start_boundary c some =
    let brace = stands c.args.text.now c.args.at 123 c.if-not-is_at.ensures (omega arith) in
    IsCharBoundary-after_ascii c.args.text.now c.args.at c.utf8.text brace.0 (omega (arith, brace.1))

same_expanded_name : (x : Expanded) (u v a b : List ℕ) → x ≡ (Some u, a) → u ≡ v → a ≡ b → x ≡ (Some v, b)
same_expanded_name x u v a b is e f = cc

pub returns : goal.returns
returns c =
    let within : c.uri_end-close.result < length c.args.text.now = omega (arith, c.uri_end-close.ensures.within, c.if-close-text.false) in
    record { ends = search rules; name = name_with _ _ _ _ _ (stands c.args.text.now c.args.at 123 c.if-not-is_at.ensures (omega arith)).1 c.uri_end-close.ensures.value within c.in_ok-local-2.ensures.end c.in_ok-local-2.ensures.ends.onward (same_expanded_name _ _ _ _ _ c.from-2.ensures c.range.ensures.value c.in_ok-local-2.ensures.local) }
