-- What a list has of a map stays so where the map gets another entity, and the list one that the map has.
use Rattle.std.proofs.Common.{◌≡◌, ◌<◌, ℕ, zero, suc, Bool, false, cond, List, [], ◌∷◌, ◌++◌, Some, Result, length, get_or, bytes_eq, arith, Bor}
use Rattle.std.specs.Prelude.{OnOk, OnErr, is_some, if◌then◌else◌}
use Rattle.std.specs.BTreeMap.{BTreeMap, get_by}
use Rattle.std.proofs.lemmas.Slice.Eq.{bytes_eq-Decides}
use Rattle.rox_scan.specs.declared.cursor.Cursor.{Cursor}
use Rattle.rox_values.specs.HeldEntities.{IsHeld, named_cmp}
use Rattle.rox_values.specs.declared.entities.Declared.{Declared}

pub on_either : {A E P Q R : Type 0} (r : Result A E) → OnOk r P → OnErr r Q → (P → R) → (Q → R) → R
on_either r p q f g = grind arith

abbrev AreHeld : BTreeMap (ℕ × Bor (List ℕ)) Cursor → List Declared → Type 0
AreHeld texts ds = (i : ℕ) (d : Declared) → i < length ds → IsHeld texts (get_or ds i d)

one_more : (texts : BTreeMap (ℕ × Bor (List ℕ)) Cursor) (ds : List Declared) (x : Declared) → AreHeld texts ds → IsHeld texts x → AreHeld texts (ds ++ x ∷ [])
one_more texts [] x h held zero d more = held
one_more texts [] x h held (suc i) d more = absurd (omega arith)
one_more texts (y ∷ ys) x h held zero d more = h zero d (omega arith)
one_more texts (y ∷ ys) x h held (suc i) d more = one_more texts ys x (λ j e k. h (suc j) e (omega arith)) held i d (omega arith)

-- it is put behind the others, or they stay
pub listed_more : (b : Bool) (texts : BTreeMap (ℕ × Bor (List ℕ)) Cursor) (ds : List Declared) (x : Declared) → AreHeld texts ds → IsHeld texts x → AreHeld texts (if b then ds ++ x ∷ [] else ds)
listed_more b texts ds x h held = grind (arith, one_more)

-- another name is put into the map
pub another_put : (b : Bool) (name q : List ℕ) (texts : BTreeMap (ℕ × Bor (List ℕ)) Cursor) (text t : Cursor) → b ≡ bytes_eq name q → is_some (get_by (named_cmp name) texts) ≡ false → get_by (named_cmp q) texts ≡ Some t
    → cond b (Some text) (get_by (named_cmp q) texts) ≡ Some t
another_put b name q texts text t is none h = grind (arith, bytes_eq-Decides)
