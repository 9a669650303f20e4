use Rattle.rox_dump.proofs.Digits.{number_of_digits}
use Rattle.std.proofs.Common.{rules}
use Rattle.rox_dump.proofs.numbers.number.Goals as goal

pub returns-then-all_digits : goal.returns-then-all_digits
returns-then-all_digits c = search (rules, number_of_digits)
