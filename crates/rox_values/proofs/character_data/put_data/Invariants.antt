use Rattle.std.proofs.Common.{◌-◌, string_bytes}
use Rattle.rox_values.specs.Values.{PutsData}
use Rattle.rox_values.proofs.character_data.put_data.Given as goal

abbrev pub invariant-bits : goal.invariant-bits
invariant-bits l = PutsData l.text l.start l.stop (string_bytes l.fn.out) (string_bytes l.out) l.at

abbrev pub decreases-bits : goal.decreases-bits
decreases-bits l = l.stop - l.at
