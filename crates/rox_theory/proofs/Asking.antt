-- How a reading that asks went.
use Rattle.std.proofs.Common.{◌≡◌, List, [], arith, append-nil}
use Rattle.std.specs.Prelude.{Result, Ok}
use Rattle.rox_grammar.specs.declared.fault.Fault.{Fault}
use Rattle.rox_grammar.specs.Doctype.{Asked}
use Rattle.rox_reading.specs.Refusals.{Refusal, lifted}
use Rattle.rox_reading.specs.Doctype.{Asks, asks_nothing, ◌>>>◌}

-- Where a sequence gives a value, its first step, which asks nothing, gave one and the rest gave the value.
pub nothing_ok : {A B P : Type 0} (r : Result A Refusal) (f : A → Asks B) (asked : List Asked) (y : B) → (asks_nothing r >>> f) ≡ (asked, Ok y)
    → ((x : A) → r ≡ Ok x → f x ≡ (asked, Ok y) → P) → P
nothing_ok r f asked y h go = grind arith

-- A last step that opens no entity.
pub ok_lifted : {A : Type 0} (r : Result A Fault) (asked : List Asked) (y : A) → asks_nothing (lifted r) ≡ (asked, Ok y) → r ≡ Ok y
ok_lifted r asked y h = grind arith

-- The same of one that opens no entity.
pub nothing_lifted_ok : {A B P : Type 0} (r : Result A Fault) (f : A → Asks B) (asked : List Asked) (y : B) → (asks_nothing (lifted r) >>> f) ≡ (asked, Ok y)
    → ((x : A) → r ≡ Ok x → f x ≡ (asked, Ok y) → P) → P
nothing_lifted_ok r f asked y h go = grind arith

-- A sequence whose steps ask nothing asks nothing.
pub asks_none : {A B : Type 0} (r : Result A Refusal) (f : A → Asks B) → ((x : A) → (f x).0 ≡ []) → (asks_nothing r >>> f).0 ≡ []
asks_none r f none = grind arith

-- And of one that asks, where the rest asks nothing.
pub asking_ok : {A B P : Type 0} (a : Asks A) (f : A → Asks B) (asked : List Asked) (y : B) → ((x : A) → (f x).0 ≡ []) → (a >>> f) ≡ (asked, Ok y)
    → ((x : A) → a ≡ (asked, Ok x) → f x ≡ ([], Ok y) → P) → P
asking_ok a f asked y none h go = grind (arith, append-nil)
