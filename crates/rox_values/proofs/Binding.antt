-- Of several declarations of a name the first is binding.
use Rattle.std.proofs.Common.{◌≡◌, ℕ, Bool, true, cond, List, [], ◌∷◌, ◌++◌, Option, Some, None, refl, sym, ap, ◌∙◌, bytes_eq, arith}
use Rattle.std.specs.Prelude.{is_some}
use Rattle.std.proofs.lemmas.Slice.Eq.{bytes_eq-Decides}
use Rattle.rox_grammar.specs.Entities.{Replacement, Entity, text_of}
use Rattle.rox_grammar.proofs.FirstEntity.{text_of_first}

-- the first that there is
abbrev first_of : {A : Type 0} → Option A → Option A → Option A
first_of None b = b
first_of (Some x) b = Some x

first_behind : {A : Type 0} (b : Bool) (x : A) (o p q : Option A) → o ≡ first_of p q → cond b (Some x) o ≡ first_of (cond b (Some x) p) q
first_behind b x o p q h = grind arith

text_of_both : (es fs : List Entity) (q : List ℕ) → text_of (es ++ fs) q ≡ first_of (text_of es q) (text_of fs q)
text_of_both [] fs q = refl
text_of_both (e ∷ es) fs q =
    text_of_first e (es ++ fs) q ∙ first_behind (bytes_eq e.name q) e.text (text_of (es ++ fs) q) (text_of es q) (text_of fs q) (text_of_both es fs q)
    ∙ ap (λ (a : Option Replacement). first_of a (text_of fs q)) (sym (text_of_first e es q))

-- a name that is declared already
pub declared_again : (es : List Entity) (e : Entity) (q : List ℕ) → is_some (text_of es e.name) ≡ true → text_of (es ++ e ∷ []) q ≡ text_of es q
declared_again es e q some = grind (arith, text_of_both, bytes_eq-Decides)

-- one that is not
pub declared_first : (es : List Entity) (e : Entity) (q : List ℕ) → text_of es e.name ≡ None → text_of (es ++ e ∷ []) q ≡ cond (bytes_eq e.name q) (Some e.text) (text_of es q)
declared_first es e q none = grind (arith, text_of_both, bytes_eq-Decides)
