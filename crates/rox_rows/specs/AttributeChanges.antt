-- How the table of attributes changes.
use Rattle.std.specs.Prelude.{◌≡◌, ◌<◌, Result, OnOk, vec_len, vec_capacity}
use Rattle.rox_rows.specs.declared.attributes.AttributeTable.{AttributeTable}

-- The attributes stay. There is room for one more unless memory ran out.
pub record MakesAttributeRoom {E : Type 0} (old new : AttributeTable) (result : Result (Unit {0}) E) : Type 0 where
  pub items : new.items.items ≡ old.items.items
  pub explicit : new.explicit ≡ old.explicit
  pub room : OnOk result (vec_len new.items < vec_capacity new.items)
