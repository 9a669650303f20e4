use Rattle.std.proofs.Common.{◌≡◌, not, take}
use Rattle.std.specs.List.{list_any}
use Rattle.rox_reading.specs.Values.{is_special}
use Rattle.rox_scan.proofs.lookahead.is_verbatim_value.Given as goal

abbrev pub invariant-loop-byte : goal.invariant-loop-byte
invariant-loop-byte l = l.is_verbatim ≡ not (list_any is_special (take l.byte-index l.bytes))
