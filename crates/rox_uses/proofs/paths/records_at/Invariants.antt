use Rattle.std.proofs.Common.{◌≡◌, map, take, drop, find}
use Rattle.roxmltree.specs.NodeRef.{node_ref}
use Rattle.rox_uses.specs.Records.{said, written, is_incomplete}
use Rattle.rox_uses.proofs.paths.records_at.Given as goal

-- The records so far are those of the rows so far. So the first incomplete row is among those that are left.
abbrev pub invariant-loop-row : goal.invariant-loop-row
invariant-loop-row l = record {
  records : map written l.records.items ≡ map said (map node_ref (take l.row-index l.row-items));
  left : find is_incomplete (map node_ref (drop l.row-index l.row-items)) ≡ find is_incomplete (map node_ref l.row-items);
}
