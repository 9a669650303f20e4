use Rattle.std.proofs.Common.{refl, arith}
use Rattle.std.proofs.lemmas.Result.{err_from_is_err_and}
use Rattle.rox_builder.proofs.Joining.{part_none, part_joins, part_begins, part_over}
use Rattle.rox_builder.proofs.builder.Builder.end_part.Goals as goal

pub returns-then-len-before-clause-value : goal.returns-then-len-before-clause-value
returns-then-len-before-clause-value c = λ total s bs b sh h. part_none total s b c.args.self.now c.args.before c.args.start c.args.end bs sh h (let ok = c.args.self.now.joined.text.bytes.ok.0 in omega (arith, ok, c.len.ensures, c.if-len-before.true))

pub returns-in_err-room-in-None-clause-value : goal.returns-in_err-room-in-None-clause-value
returns-in_err-room-in-None-clause-value c = λ total s bs b sh h.
    let p = err_from_is_err_and c.from_residual.result c.from_residual.ensures.1 in
    let e = c.in_err-room-in-None.ensures.err in
    rw (p.1, p.2) (part_over total s b c.args.self.now c.args.before c.args.start c.args.end bs _ sh h (λ same. c.if-len-before.false (let ok = c.args.self.now.joined.text.bytes.ok.0 in omega (arith, ok, c.len.ensures, same))) c.in-None.is e.1 e.0)

pub returns-in_ok-room-in-None-clause-value : goal.returns-in_ok-room-in-None-clause-value
returns-in_ok-room-in-None-clause-value c = λ total s bs b sh h. part_begins total s b c.args.self.now _ c.args.before c.args.start c.args.end bs sh h (λ same. c.if-len-before.false (let ok = c.args.self.now.joined.text.bytes.ok.0 in omega (arith, ok, c.len.ensures, same))) c.in-None.is c.in_ok-room-in-None.ensures.ok refl refl refl refl refl refl refl refl

pub returns-in-Joined-clause-value : goal.returns-in-Joined-clause-value
returns-in-Joined-clause-value c = λ total s bs b sh h. part_joins total s b c.args.self.now _ c.args.before c.args.start c.args.end bs sh h (λ same. c.if-len-before.false (let ok = c.args.self.now.joined.text.bytes.ok.0 in omega (arith, ok, c.len.ensures, same))) c.in-Joined.is refl refl refl refl refl refl refl refl
