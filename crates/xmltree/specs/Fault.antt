use Rattle.std.specs.Prelude.{ℕ}
use Rattle.rox_path.specs.declared.parse.PathError.{PathError}
use Rattle.rox_path.specs.declared.parse.PathError.TheVariants as path
use Rattle.rox_programs.specs.declared.program_error.ProgramError.TheVariants.{OutOfMemory}
use Rattle.rox_programs.specs.ProgramError as program
use Rattle.xmltree.specs.declared.fault.Fault.{Fault}
use Rattle.xmltree.specs.declared.fault.Fault.TheVariants.{BadPath, Refused, Program}

-- The exit status: 1 for a text that is refused, 2 for a bad path, and that of the program's error otherwise.
abbrev pub status_of : Fault → ℕ
status_of (BadPath _) = 2
status_of (Refused _) = 1
status_of (Program error) = program.status_of error

-- The fault for a path that cannot be read.
abbrev pub fault_of_path : PathError → Fault
fault_of_path (path.BadPath place) = BadPath place
fault_of_path path.OutOfMemory = Program OutOfMemory
