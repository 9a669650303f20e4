use Rattle.std.proofs.Common.{◌≡◌, ◌≤◌, take, vec_len}
use Rattle.rox_rows.specs.StoredAttributes.{owned_places}
use Rattle.rox_rows.proofs.attributes.take_back.Given as goal

abbrev pub invariant-loop-items : goal.invariant-loop-items
invariant-loop-items l = record {
  more : l.count ≤ vec_len l.items;
  rows : l.items.items ≡ take (vec_len l.items) l.fn.items.items;
  listed : owned_places 0 l.fn.items.items ≡ l.fn.owned.items → owned_places 0 l.items.items ≡ l.owned.items;
}

abbrev pub decreases-loop-items : goal.decreases-loop-items
decreases-loop-items l = vec_len l.items
