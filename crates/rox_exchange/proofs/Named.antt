-- Names stay well named where an element above which nothing is listed is exchanged for one whose names are declared within it.
use Rattle.std.proofs.Common.{◌≡◌, ℕ, ◌==◌, true, List, [], nat_lt, subst, inl, inr, arith}
use Rattle.std.proofs.lemmas.Bool.{cases_Bool, and_parts}
use Rattle.rox_grammar.specs.Forest.{Forest, Nil, Cons}
use Rattle.rox_grammar.specs.Written.{NamespaceDecl, Item, Element, Text, Comment, PI}
use Rattle.rox_grammar.specs.Tree.{listed}
use Rattle.rox_grammar.specs.WellNamed.{AreWellNamed}
use Rattle.rox_grammar.specs.Exchange.{Move, none_of}
use Rattle.rox_reading.proofs.Forests.{named-join}
use Rattle.rox_exchange.specs.Local.{moved_items}
use Rattle.rox_exchange.specs.ElementWith.{exchanged_items}
use Rattle.rox_exchange.proofs.MovedItems.{moved_named}
use Rattle.rox_exchange.specs.SelfContained.{is_contained}

pub none_listed : (ds : List NamespaceDecl) → none_of ds ≡ true → ds ≡ []
none_listed a is = grind arith

module _ (mv : Move) (one : Forest Item) (s : ℕ) (new : AreWellNamed [] one) where
  pub named_exchanged : (f : Forest Item) → is_contained s f ≡ true → AreWellNamed [] f → AreWellNamed [] (exchanged_items mv one s f)
  named_exchanged Nil within is = is
  named_exchanged (Cons (Element a z t) children rest) within (own, below, beside) =
      elim (cases_Bool (a == s)) as (λ q. AreWellNamed [] (exchanged_items mv one s (Cons (Element a z t) children rest))) [
        | inl same ↦ rw same (named-join [] one (moved_items mv rest) new (moved_named mv [] rest beside))
        | inr other ↦ elim (cases_Bool (nat_lt s z)) as (λ q. AreWellNamed [] (exchanged_items mv one s (Cons (Element a z t) children rest))) [
          | inl inside ↦ (
              let above = and_parts _ _ (rw (other, inside) at within) in
              let bare = none_listed (listed [] t.declarations) above.0 in
              let low : AreWellNamed (listed [] t.declarations) (exchanged_items mv one s children) = grind (arith, named_exchanged children above.1 (subst (λ (ds : List NamespaceDecl). AreWellNamed ds children) bare below)) in
              rw (other, inside) (own, low, moved_named mv [] rest beside))
          | inr behind ↦ (
              rw (other, behind) (own, below, named_exchanged rest (rw (other, behind) at within) beside))
        ]
      ]
  named_exchanged (Cons (Text a z v borrowed) children rest) within (own, below, beside) = (own, below, named_exchanged rest within beside)
  named_exchanged (Cons (Comment a z v) children rest) within (own, below, beside) = (own, below, named_exchanged rest within beside)
  named_exchanged (Cons (PI a z v o) children rest) within (own, below, beside) = (own, below, named_exchanged rest within beside)
