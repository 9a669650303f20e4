use Rattle.std.specs.Prelude.{ℕ}
use Rattle.rox_programs.specs.ProgramError as program
use Rattle.rox_measures.specs.declared.fault.Fault.{Fault}
use Rattle.rox_measures.specs.declared.fault.Fault.TheVariants.{Refused, NoClock, UnequalWalks, Program}

-- The exit status: 1 for a text that is refused, for unequal walks and if memory ran out, 2 for all other faults.
abbrev pub status_of : Fault → ℕ
status_of (Refused _) = 1
status_of NoClock = 2
status_of UnequalWalks = 1
status_of (Program error) = program.status_of error
