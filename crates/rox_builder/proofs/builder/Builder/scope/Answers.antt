use Rattle.std.proofs.Common.{◌≡◌, ◌-◌, ◌++◌, ◌∷◌, [], List, length, take, refl, sym, ap, subst, ◌∙◌, arith, slice_get, None, inl, inr}
use Rattle.std.proofs.lemmas.Option.{slice_get_cases}
use Rattle.std.specs.List.{AllByRecursion}
use Rattle.rox_scopes.specs.Scopes.{PrefixesOnce}
use Rattle.rox_builder.specs.BuilderState.{opened_in}
use Rattle.rox_names.specs.OpenElements.{IsOpenWithin}
use Rattle.rox_names.specs.declared.open_element.OpenElement.{OpenElement}
use Rattle.rox_builder.proofs.Showing.{last_split}
use Rattle.rox_builder.proofs.Stepping.{top_scope, no_scope}
use Rattle.rox_builder.proofs.builder.Builder.scope.Goals as goal

nothing_last : (os : List OpenElement) → slice_get os (length os - 1) ≡ None → os ≡ []
nothing_last [] h = refl
nothing_last (x ∷ xs) h = elim (slice_get_cases (x ∷ xs) (length (x ∷ xs) - 1)).1 [ inl w ↦ let k = w.2 in cc h | inr w ↦ absurd (omega (arith, w.0)) ]

all_last : {X : Type 0} (P : X → Type 0) (xs : List X) (x : X) → AllByRecursion P (xs ++ x ∷ []) → P x
all_last P [] x h = h.0
all_last P (y ∷ ys) x h = all_last P ys x h.1

pub returns-in-Some : goal.returns-in-Some
returns-in-Some c = record {
  value = λ fine end o done sh.
      let b = c.args.self.now in
      let k = c.in-Some.ensures.item in
      let os = c.deref.result.now in
      let x = c.in-Some.element.now in
      let outer = take (length os - 1) os in
      let split : b.opened.items ≡ outer ++ x ∷ [] = sym c.deref.ensures.value ∙ last_split os x k.3.0 (k.3.1 x) in
      top_scope b.tables o outer x (sym (ap (opened_in b.tables) split) ∙ sh.open_rows);
  within = λ fine.
      let b = c.args.self.now in
      let k = c.in-Some.ensures.item in
      let os = c.deref.result.now in
      let x = c.in-Some.element.now in
      let split : b.opened.items ≡ take (length os - 1) os ++ x ∷ [] = sym c.deref.ensures.value ∙ last_split os x k.3.0 (k.3.1 x) in
      (all_last (IsOpenWithin b.tables) (take (length os - 1) os) x (subst (AllByRecursion (IsOpenWithin b.tables)) split fine.elements)).0;
  once = λ fine.
      let b = c.args.self.now in
      let k = c.in-Some.ensures.item in
      let os = c.deref.result.now in
      let x = c.in-Some.element.now in
      let split : b.opened.items ≡ take (length os - 1) os ++ x ∷ [] = sym c.deref.ensures.value ∙ last_split os x k.3.0 (k.3.1 x) in
      (all_last (IsOpenWithin b.tables) (take (length os - 1) os) x (subst (AllByRecursion (IsOpenWithin b.tables)) split fine.elements)).1;
}

pub returns-in-None : goal.returns-in-None
returns-in-None c = record {
  value = λ fine end o done sh.
      let b = c.args.self.now in
      let e : b.opened.items ≡ [] = sym c.deref.ensures.value ∙ nothing_last c.deref.result.now (sym c.in-None.ensures.value) in
      fine.empty.none ∙ no_scope b.tables o (sym (ap (opened_in b.tables) e) ∙ sh.open_rows);
  within = λ fine. fine.empty.there;
  once = λ fine. subst PrefixesOnce (sym fine.empty.none) tt;
}
