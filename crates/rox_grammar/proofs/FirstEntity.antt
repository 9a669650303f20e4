-- Of several entities of a name the first counts.
use Rattle.std.proofs.Common.{◌≡◌, ℕ, Bool, cond, List, ◌∷◌, Option, Some, bytes_eq, arith}
use Rattle.std.specs.Prelude.{option_map}
use Rattle.rox_grammar.specs.Entities.{Entity, text_of}

mapped : {A B : Type 0} (f : A → B) (b : Bool) (x : A) (o : Option A) → option_map f (cond b (Some x) o) ≡ cond b (Some (f x)) (option_map f o)
mapped f b x o = grind arith

pub text_of_first : (e : Entity) (es : List Entity) (name : List ℕ) → text_of (e ∷ es) name ≡ cond (bytes_eq e.name name) (Some e.text) (text_of es name)
text_of_first e es name = mapped (λ (e : Entity). e.text) (bytes_eq e.name name) e _
