use Rattle.std.proofs.Common.{◌≡◌, length, map, string_bytes}
use Rattle.rox_dump.specs.Command.{meaning, command_with, command_of}
use Rattle.rox_dump.proofs.arguments.command.Given as goal

-- the words that are left ask, with what was asked for before them, for the same
abbrev pub invariant-loop-change : goal.invariant-loop-change
invariant-loop-change l = command_with (meaning l.asked) (map string_bytes l.rest) ≡ command_of (map string_bytes l.words)

abbrev pub decreases-loop-change : goal.decreases-loop-change
decreases-loop-change l = length l.rest
