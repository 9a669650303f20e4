use Rattle.std.proofs.Common.{arith}
use Rattle.rox_values.proofs.PartLemmas.{run_more, run_fails, run_done, run_out, run_opens}
use Rattle.rox_values.proofs.character_data.data_part.Goals as goal

pub returns-then-cursor-stop : goal.returns-then-cursor-stop
returns-then-cursor-stop c = grind (arith, run_done)

pub returns : goal.returns
returns c = grind (arith, run_out)

pub bits-preserved : goal.bits-preserved
bits-preserved c = grind (arith, run_more)

pub returns-in_err-text : goal.returns-in_err-text
returns-in_err-text c = grind (arith, run_fails)

pub returns-in-Some : goal.returns-in-Some
returns-in-Some c = grind (arith, run_opens)
