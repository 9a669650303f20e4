use Rattle.std.proofs.Common.{drop, sym, ap, ◌∙◌, arith, eqb-true}
use Rattle.std.proofs.lemmas.Str.{IsCharBoundary-after_ascii}
use Rattle.rox_grammar.specs.Positions.{last_line}
use Rattle.rox_error.proofs.PositionLemmas.{last_line_is, line_start_found, line_start_none}
use Rattle.rox_error.proofs.position.last_line.Goals as goal

pub range_from-requires : goal.range_from-requires
range_from-requires c _ =
    let s = c.args.front.now in
    let found = rw c.as_bytes.ensures.value at c.in-Some.ensures in
    let high = found.0.high in
    IsCharBoundary-after_ascii s c.in-Some.index c.utf8.front (omega arith) (omega (arith, eqb-true _ _ found.1))

pub returns-in-Some : goal.returns-in-Some
unfolding last_line
returns-in-Some c =
    let s = c.args.front.now in
    let found = rw c.as_bytes.ensures.value at c.in-Some.ensures in
    let high = found.0.high in
    c.range_from.ensures.value ∙ ap (λ n. drop n s) (sym (line_start_found s c.in-Some.index (omega arith) found.1 found.0.after)) ∙ sym (last_line_is s)

pub returns-in-None : goal.returns-in-None
unfolding last_line
returns-in-None c = ap (λ n. drop n c.args.front.now) (sym (line_start_none c.args.front.now (rw c.as_bytes.ensures.value at c.in-None.ensures))) ∙ sym (last_line_is c.args.front.now)
