-- What an attribute is made of, one fact by one.
use Rattle.std.proofs.Common.{◌≡◌, ℕ, ◌+◌, Bool, List, subst, arith}
use Rattle.rox_grammar.specs.Written.{Attribute}
use Rattle.rox_grammar.specs.Names.{slice, IsQName}
use Rattle.rox_grammar.specs.Constructs.{IsEq, IsAttValue}
use Rattle.rox_grammar.specs.Content.{Inclusion, is_verbatim_value, Value, IsAttribute, attribute}

pub record AttributeParts (main : Bool) (O : Inclusion) (src : List ℕ) (i j b c : ℕ) (a : Attribute) : Type 0 where
  pub starts : a.start ≡ i
  pub is_name : IsQName src i a.name a.name_end
  pub v : ℕ
  pub eq : IsEq src a.name_end v
  pub e : ℕ
  pub literal : IsAttValue src v e j
  pub value_start : a.value_start ≡ v + 1
  pub end : a.end ≡ j
  pub value : Value main O src e (v + 1) b c a.value
  pub borrowed : a.borrowed ≡ is_verbatim_value (slice src (v + 1) e)

-- An attribute has its parts.
pub parts_of : (main : Bool) (O : Inclusion) (src : List ℕ) (i j b c : ℕ) (a : Attribute) → IsAttribute main O src i j b c a → AttributeParts main O src i j b c a
parts_of main O src i j b c a (attribute n v e name value is read) = grind arith

-- What has them all is one.
pub from_parts : (main : Bool) (O : Inclusion) (src : List ℕ) (i j b c : ℕ) (a : Attribute) → AttributeParts main O src i j b c a → IsAttribute main O src i j b c a
from_parts main O src i j b c a p =
    let borrowed = p.borrowed in let value_start = p.value_start in let starts = p.starts in let end = p.end in
    let same : ◌≡◌ {A = Attribute} (record { start = i; name_end = a.name_end; value_start = p.v + 1; end = j; name = a.name; value = a.value; borrowed = is_verbatim_value (slice src (p.v + 1) p.e) }) a = grind arith in
    subst (IsAttribute main O src i j b c) same (attribute a.name_end p.v p.e a.name a.value (p.is_name, p.eq, p.literal) p.value)
