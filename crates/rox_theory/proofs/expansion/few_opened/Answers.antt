use Rattle.rox_theory.proofs.Following.{few_opened, few_opened_in_value}
use Rattle.rox_theory.proofs.Counting.{most_opened, most_opened_in_value}
use Rattle.rox_theory.proofs.expansion.few_opened.Goals as goal

pub returns : goal.returns
returns c = record { in_content = few_opened; in_value = few_opened_in_value; most_in_content = most_opened; most_in_value = most_opened_in_value }
