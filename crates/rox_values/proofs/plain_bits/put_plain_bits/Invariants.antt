use Rattle.std.proofs.Common.{◌-◌, ◌≤◌, string_bytes, string_capacity}
use Rattle.rox_values.specs.PlainBits.{PutsBits}
use Rattle.rox_values.proofs.plain_bits.put_plain_bits.Given as goal

abbrev pub invariant-bits : goal.invariant-bits
invariant-bits l = record {
  done : PutsBits l.main l.text l.start l.stop (string_bytes l.fn.out) (string_bytes l.out) l.at;
  room : string_capacity l.fn.out ≤ string_capacity l.out;
}

abbrev pub decreases-bits : goal.decreases-bits
decreases-bits l = l.stop - l.at
