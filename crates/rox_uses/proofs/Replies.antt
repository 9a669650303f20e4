-- What holds of replies that one resolver allows holds by one that allows them too.
use Rattle.std.proofs.Common.{◌≡◌, ℕ, Bool, true, List, [], ◌∷◌, Option, Some, Ok, Err, subst}
use Rattle.roxmltree.specs.Doctype.{Request, Asked}
use Rattle.roxmltree.specs.Requests.{Reply, Allows, AreAllowed}
use Rattle.roxmltree.specs.FirstError.{MayRefuse, IsFirst}
use Rattle.roxmltree.specs.Refusals.{Refusal, here, there, refused}
use Rattle.rox_error.specs.declared.error.Error.{Error}

module _ {A B : Request → Reply → Type 0} (also : (request : Request) (reply : Reply) → A request reply → B request reply) where
  pub AreAllowed-weaker : (asked : List Asked) → AreAllowed A asked → AreAllowed B asked
  AreAllowed-weaker [] h = tt
  AreAllowed-weaker (a ∷ as') h = (also a.request (Ok a.answer) h.0, AreAllowed-weaker as' h.1)

  may_refuse : (r : Refusal) → MayRefuse A r → MayRefuse B r
  may_refuse (here f) h = tt
  may_refuse (there source f) h = tt
  may_refuse (refused request at message) h = also request (Err message) h

  pub IsFirst-weaker : (limit : ℕ) (allow : Bool) (text : List ℕ) (e : Error) → IsFirst limit allow A text e → IsFirst limit allow B text e
  IsFirst-weaker limit allow text e h = record {
    asked = h.asked;
    allowed = AreAllowed-weaker h.asked h.allowed;
    texts = h.texts;
    refusal = h.refusal;
    may = may_refuse h.refusal h.may;
    stops = h.stops;
    told = h.told;
  }

-- so it is of what was asked, where a resolver is known
pub allowed_by : (R : Type 0) (allows : R → Request → Reply → Type 0) (B : Request → Reply → Type 0) (o : Option R) (r : R) (asked : List Asked) → AreAllowed (Allows allows o) asked → o ≡ Some r
    → ((request : Request) (reply : Reply) → allows r request reply → B request reply) → AreAllowed B asked
allowed_by R allows B o r asked h is also = AreAllowed-weaker also asked (subst (λ p. AreAllowed (Allows allows p) asked) is h)

-- so it is of the first error, where a resolver and the limit are known
pub first_by : (R : Type 0) (allows : R → Request → Reply → Type 0) (B : Request → Reply → Type 0) (o : Option R) (r : R) (n : ℕ) (text : List ℕ) (e : Error) → IsFirst n true (Allows allows o) text e → o ≡ Some r → n ≡ 4294967295
    → ((request : Request) (reply : Reply) → allows r request reply → B request reply) → IsFirst 4294967295 true B text e
first_by R allows B o r n text e h is limit also =
    let at_limit : IsFirst 4294967295 true (Allows allows o) text e = subst (λ m. IsFirst m true (Allows allows o) text e) limit h in
    IsFirst-weaker also 4294967295 true text e (subst (λ p. IsFirst 4294967295 true (Allows allows p) text e) is at_limit)
