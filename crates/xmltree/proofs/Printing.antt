-- What is printed through a buffer.
use Rattle.std.proofs.Common.{◌≡◌, subst, List, Option, Some, None, Ok, IfSome}
use Rattle.roxmltree.specs.Doctype.{Request, Reply, Asked}
use Rattle.roxmltree.specs.Requests.{Allows, AreAllowed}

pub if_some : {A : Type 0} {P Q : A → Type 0} (o : Option A) → ((a : A) → P a → Q a) → IfSome o P → IfSome o Q
if_some (Some a) f p = f a p
if_some None f p = tt

-- without a resolver no external entity has a text
pub without_resolver : {R : Type 0} (allows : R → Request → Reply → Type 0) (resolver : Option R) (asked : List Asked) → resolver ≡ None → AreAllowed (Allows allows resolver) asked
    → AreAllowed (λ request reply. reply ≡ Ok None) asked
without_resolver allows resolver asked is h = subst (λ o. AreAllowed (Allows allows o) asked) is h
