use Rattle.std.proofs.Common.{◌≡◌, ◌≤◌, take}
use Rattle.rox_rows.specs.StoredAttributes.{explicit_count}
use Rattle.rox_rows.proofs.attributes.count_explicit.Given as goal

abbrev pub invariant-loop-row : goal.invariant-loop-row
invariant-loop-row l = record {
  value : l.count ≡ explicit_count (take l.row-index l.rows);
  few : l.count ≤ l.row-index;
}
