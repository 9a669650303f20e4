use Rattle.std.specs.Prelude.{ℕ}
use Rattle.rox_programs.specs.declared.program_error.ProgramError.{ProgramError}
use Rattle.rox_programs.specs.declared.program_error.ProgramError.TheVariants.{CannotRead, NotUtf8, NotBatch, CannotWrite, OutOfMemory}

-- The exit status: 1 if memory ran out, and 2 for faults of input and output.
abbrev pub status_of : ProgramError → ℕ
status_of CannotRead = 2
status_of NotUtf8 = 2
status_of NotBatch = 2
status_of CannotWrite = 2
status_of OutOfMemory = 1
