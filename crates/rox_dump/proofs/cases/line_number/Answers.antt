use Rattle.std.proofs.Common.{rules}
use Rattle.rox_dump.proofs.Lines.{number_of_no_text}
use Rattle.rox_dump.proofs.cases.line_number.Goals as goal

pub returns-in-Err : goal.returns-in-Err
returns-in-Err c = search (rules, number_of_no_text)
