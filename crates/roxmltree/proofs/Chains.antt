-- What chains of iterators answer, where an iterator is seen as the list of what it has left, by a view of each item.
use Rattle.std.proofs.Common.{Bool, List, [], ◌∷◌, map, Option, Some, None, Bor, ◌≡◌, refl, ap, ◌∙◌, option_map}
use denote.Param.Members.{Mut}
use Rattle.std.specs.Fn.{CalledAt}
use Rattle.std.specs.List.{find, filter, last_or}
use Rattle.std.specs.declared.iter.Filter.{Filter}
use Rattle.std.specs.Iterator.{YieldsFirstBy, FindsItem, Drains}
use Rattle.std.specs.Iterator.Adapters.{filter_source, filter_callee, filter_steps}
use Rattle.std.proofs.lemmas.Iterator.{items_from_drains}
use Rattle.std.proofs.lemmas.Iterator.Consumers.{YieldsList-from_first, YieldsList-from_filter}
use Rattle.std.proofs.lemmas.Iterator.Search.{find_from_yields_List}

last_of : {A B : Type 0} (v : A → B) (o : Option A) (xs : List A) → option_map v (last_or o xs) ≡ last_or (option_map v o) (map v xs)
last_of v o [] = refl
last_of v o (x ∷ xs) = last_of v (Some x) xs

module _ {A B F : Type 0} (v : A → B) {g : Mut F (Bor A × Unit {0}) Bool} (test : B → Bool) where
  pub found : (s u : List B) (f : F) (r : Option A) (xs : List B) → FindsItem (YieldsFirstBy v (λ s. s)) g s f r u → s ≡ xs
      → ((x : A) (b : Bool) (q : F) → CalledAt g f x b q → (q ≡ f) × (b ≡ test (v x))) → option_map v r ≡ find test xs
  found s u f r xs ran is tests = find_from_yields_List test _ f r ran (YieldsList-from_first v (λ s. s) xs is) tests

  pub last_passing : (s : Filter (List B) F) (f : F) (r : Option A) (xs : List B) → (items : List A) × Drains (filter_steps (YieldsFirstBy v (λ s. s)) g) s items × (r ≡ last_or None items)
      → filter_source s ≡ xs → filter_callee s ≡ f → ((x : A) (b : Bool) (q : F) → CalledAt g f x b q → (q ≡ f) × (b ≡ test (v x))) → option_map v r ≡ last_or None (filter test xs)
  last_passing s f r xs ran is callee tests =
      let d = ran.1 in
      ap (option_map v) ran.2 ∙ last_of v None ran.0
      ∙ ap (last_or None) (items_from_drains ran.0 (d.1.0, d.1.1, (λ _. (d.0, d.1.2))) (YieldsList-from_filter g test (YieldsList-from_first v (λ s. s) xs is) callee tests))
