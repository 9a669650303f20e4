use Rattle.std.proofs.Common.{◌≡◌, None, rules}
use Rattle.rox_dump.proofs.Lines.{no_line_no_text, no_number_no_text, split_begins}
use Rattle.rox_dump.proofs.cases.first_case.Goals as goal

pub returns-in_err-line : goal.returns-in_err-line
returns-in_err-line c =
    let none : c.from_residual.result ≡ None = search rules in
    rw none (λ text rest begins. no_line_no_text c.args.batch.now text rest c.in_err-line.ensures begins)

pub returns-in_err-length : goal.returns-in_err-length
returns-in_err-length c =
    let none : c.from_residual-in_err-length.result ≡ None = search rules in
    rw none (λ text rest begins. no_number_no_text c.args.batch.now c.in_ok-line.line.now c.in_ok-line.behind.now text rest c.in_ok-line.ensures.1 c.in_ok-line.ensures.0 (search rules) begins)

pub returns : goal.returns
returns c = split_begins c.args.batch.now c.in_ok-line.line.now c.in_ok-line.behind.now c.in_ok-length.length c.split_text.result c.in_ok-line.ensures.1 c.in_ok-line.ensures.0 (search rules) c.split_text.ensures
