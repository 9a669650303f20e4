use Rattle.std.proofs.Common.{◌≡◌, ◌-◌, ◌<◌, ℕ, suc, List, [], ◌∷◌, length, get_or, ap, sym, subst, arith}
use Rattle.rox_names.specs.declared.open_element.OpenElement.{OpenElement}
use Rattle.rox_names.specs.declared.tables.ElementTables.{ElementTables}
use Rattle.rox_builder.specs.BuilderState.{opened_in, last_row}
use Rattle.rox_builder.proofs.builder.Builder.parent.Goals as goal

last_row_is : (t : ElementTables) (xs : List OpenElement) (o : OpenElement) → 0 < length xs → o ≡ get_or xs (length xs - 1) o → o.row ≡ last_row (opened_in t xs)
last_row_is t [] o some is = absurd (omega arith)
last_row_is t (x ∷ []) o some is = let e : length (x ∷ []) - 1 ≡ 0 = omega arith in ap (λ (o : OpenElement). o.row) (subst (λ (n : ℕ). o ≡ get_or (x ∷ []) n o) e is)
last_row_is t (x ∷ y ∷ ys) o some is =
    let e : length (x ∷ y ∷ ys) - 1 ≡ suc (length (y ∷ ys) - 1) = omega arith in
    last_row_is t (y ∷ ys) o (omega arith) (subst (λ (n : ℕ). o ≡ get_or (x ∷ y ∷ ys) n o) e is)

pub returns-in-Some : goal.returns-in-Some
returns-in-Some c =
    let h = c.in-Some.ensures.item in
    rw (sym c.deref.ensures.value) (last_row_is c.args.self.now.tables c.deref.result.now c.in-Some.element.now h.3.0 (h.3.1 c.in-Some.element.now))
