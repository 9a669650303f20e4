-- The room of a table that grows as a text is read.

use Rattle.std.specs.declared.alloc.Global.{Global}
use Rattle.std.specs.Prelude.{◌≡◌, ◌<◌, ◌≤◌, ℕ, ◌+◌, ◌-◌, ◌*◌, ◌/◌, ◌^◌, Bool, [], ◌∷◌, ◌++◌, Vec, vec_len, vec_capacity, Result, OnOk, max, min, if◌then◌else◌}
use Rattle.std.specs.Vec.{VecUnchanged}

-- The number `n`, capped at the largest number of 64 bits.
abbrev pub capped : ℕ → ℕ
capped n = min n (2 ^ 64 - 1)

-- The number of rows that a text of `end` bytes is estimated to give if its first `place` bytes gave `len`. The rest counts as
-- equally dense, plus an eighth of it and 8 more.
abbrev pub foretold : ℕ → ℕ → ℕ → ℕ
foretold len place end = let rest = capped (len * (end - place)) / max place 1 in capped (capped (len + rest) + (rest / 8 + 8))

-- The room for a table that is full with `len` rows. It is at most room for eight times `len` rows, and at least for an eighth
-- and 4 rows more.
abbrev pub foreseen : ℕ → ℕ → ℕ → ℕ
foreseen len place end = max (min (foretold len place end) (capped (len * 8))) (len + len / 8 + 4)

-- The rows stay, and there is room for one more unless memory ran out.
pub record GrowsByOne {A E : Type 0} (old new : Vec A Global) (result : Result (Unit {0}) E) : Type 0 where
  pub items : VecUnchanged old new
  pub ok : OnOk result (vec_len new < vec_capacity new)

-- The rows stay, and there is room for `more` or `fewer` more rows unless memory ran out. In a table of at most 204 rows there is
-- room for `more`.
pub record Reserves {A E : Type 0} (more fewer : ℕ) (old new : Vec A Global) (result : Result (Unit {0}) E) : Type 0 where
  pub items : VecUnchanged old new
  pub ok : OnOk result (vec_len new + min more fewer ≤ vec_capacity new)
  pub small : OnOk result (vec_len old + more ≤ 204 → vec_len new + more ≤ vec_capacity new)

-- An empty table with room for at most `most` rows, and without room if `most` is at most 204.
pub record IsEmptyWith {A : Type 0} (most : ℕ) (table : Vec A Global) : Type 0 where
  pub items : table.items ≡ []
  pub room : vec_capacity table ≤ most
  pub small : most ≤ 204 → vec_capacity table ≡ 0

-- An empty table with room for at least `asked` or `fewer` rows, whichever is less. If `asked` is at most 204, there is room for
-- `asked`.
pub record HasFirstRoom {A : Type 0} (asked fewer : ℕ) (table : Vec A Global) : Type 0 where
  pub items : table.items ≡ []
  pub room : min asked fewer ≤ vec_capacity table
  pub small : asked ≤ 204 → asked ≤ vec_capacity table

-- The rows stay, and there is room for an eighth more unless memory ran out. There is the room `foreseen` if that is at most 204.
pub record MakesRoom {A E : Type 0} (place end : ℕ) (old new : Vec A Global) (result : Result (Unit {0}) E) : Type 0 where
  pub items : VecUnchanged old new
  pub eighth : OnOk result (vec_len new + vec_len new / 8 < vec_capacity new)
  pub small : OnOk result (foreseen (vec_len old) place end ≤ 204 → foreseen (vec_len old) place end ≤ vec_capacity new)

-- The rows stay, and the room does not grow. An empty table with room for more than 1,024 rows has no room afterwards.
pub record GivesBack {A : Type 0} (old new : Vec A Global) : Type 0 where
  pub items : VecUnchanged old new
  pub room : vec_capacity new ≤ vec_capacity old
  pub none : vec_len old ≡ 0 → 1024 < vec_capacity old → vec_capacity new ≡ 0

-- A value is appended to a table if `well` is true; otherwise the table stays.
pub record Pushes {A : Type 0} (value : A) (well : Bool) (old new : Vec A Global) : Type 0 where
  pub items : new.items ≡ (if well then old.items ++ value ∷ [] else old.items)
  pub len : vec_len new ≡ (if well then vec_len old + 1 else vec_len old)
