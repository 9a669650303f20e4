use Rattle.std.proofs.Common.{◌≡◌, ◌++◌, ◌-◌, length, string_bytes, IsCharBoundary}
use Rattle.rox_values.specs.Values.{section_rest}
use Rattle.rox_values.proofs.line_ends.line_feeds.Given as goal

abbrev pub invariant-loop-at : goal.invariant-loop-at
invariant-loop-at l = record {
  cut : IsCharBoundary l.raw l.at;
  reads : string_bytes l.out ++ section_rest l.raw l.at ≡ string_bytes l.fn.out ++ section_rest l.raw 0;
}

abbrev pub decreases-loop-at : goal.decreases-loop-at
decreases-loop-at l = length l.raw - l.at
