use Rattle.std.proofs.Common.{◌≡◌, ◌≤◌, ◌-◌, ◌^◌, min, length, slice_range}
use Rattle.rox_grammar.specs.References.{bytes_end, number}
use Rattle.rox_values.specs.Values.{base_of, is_digit_of}
use Rattle.rox_values.proofs.reference.read_digits.Given as goal

abbrev pub invariant-loop-end : goal.invariant-loop-end
invariant-loop-end l = record {
  onward : l.at ≤ l.end;
  within : l.end ≤ length l.text;
  goes_on : bytes_end (is_digit_of l.hexadecimal) l.text l.end ≡ bytes_end (is_digit_of l.hexadecimal) l.text l.at;
  so_far : l.number ≡ min (number (base_of l.hexadecimal) (slice_range l.text l.at l.end)) (2 ^ 32);
  base_is : l.base ≡ base_of l.hexadecimal;
}

abbrev pub decreases-loop-end : goal.decreases-loop-end
decreases-loop-end l = length l.text - l.end
