-- Messages that all errors of a kind start with.
use Rattle.std.proofs.Common.{◌≡◌, ℕ, List, String, Some, refl, Bor}
use Rattle.std.specs.declared.alloc.Global.{Global}
use Rattle.rox_error.specs.declared.position.TextPos.{TextPos}
use Rattle.rox_error.specs.declared.error.Error.{Error}
use Rattle.rox_error.specs.declared.error.Error.TheVariants as error
use Rattle.rox_error.specs.Messages.{message_start}
use Rattle.rox_error.specs.FixedStarts.{IsFixedStart}

-- The message of the error starts with no text of its own.
pub record StartsFixed (e : Error) : Type 0 where
  pub namespace : (n : String Global) (p : TextPos) → e ≡ error.DuplicatedNamespace n p → ⊥
  pub prefix : (n : String Global) (p : TextPos) → e ≡ error.UnknownNamespace n p → ⊥
  pub tag : (n m : String Global) (p : TextPos) → e ≡ error.UnexpectedCloseTag n m p → ⊥
  pub entity : (n : String Global) (p : TextPos) → e ≡ error.UnknownEntityReference n p → ⊥
  pub attribute : (n : String Global) (p : TextPos) → e ≡ error.DuplicatedAttribute n p → ⊥
  pub character : (c : ℕ) (p : TextPos) → e ≡ error.NonXmlChar c p → ⊥
  pub byte : (a b : ℕ) (p : TextPos) → e ≡ error.InvalidChar a b p → ⊥
  pub word : (a : Bor (List ℕ)) (b : ℕ) (p : TextPos) → e ≡ error.InvalidChar2 a b p → ⊥
  pub string : (a : Bor (List ℕ)) (p : TextPos) → e ≡ error.InvalidString a p → ⊥

pub starts : (e : Error) (text : List ℕ) → StartsFixed e → IsFixedStart e text → message_start e ≡ Some text
starts (error.InvalidXmlPrefixUri p) text fixed is = is
starts (error.UnexpectedXmlUri p) text fixed is = is
starts (error.UnexpectedXmlnsUri p) text fixed is = is
starts (error.InvalidElementNamePrefix p) text fixed is = is
starts (error.DuplicatedNamespace n p) text fixed is = absurd (fixed.namespace n p refl)
starts (error.UnknownNamespace n p) text fixed is = absurd (fixed.prefix n p refl)
starts (error.UnexpectedCloseTag n m p) text fixed is = absurd (fixed.tag n m p refl)
starts (error.UnexpectedEntityCloseTag p) text fixed is = is
starts (error.UnknownEntityReference n p) text fixed is = absurd (fixed.entity n p refl)
starts (error.MalformedEntityReference p) text fixed is = is
starts (error.EntityReferenceLoop p) text fixed is = is
starts (error.InvalidAttributeValue p) text fixed is = is
starts (error.DuplicatedAttribute n p) text fixed is = absurd (fixed.attribute n p refl)
starts error.NoRootNode text fixed is = is
starts error.UnclosedRootNode text fixed is = is
starts (error.UnexpectedDeclaration p) text fixed is = is
starts error.DtdDetected text fixed is = is
starts error.NodesLimitReached text fixed is = is
starts error.AttributesLimitReached text fixed is = is
starts error.NamespacesLimitReached text fixed is = is
starts (error.InvalidName p) text fixed is = is
starts (error.NonXmlChar a p) text fixed is = absurd (fixed.character a p refl)
starts (error.InvalidChar a b p) text fixed is = absurd (fixed.byte a b p refl)
starts (error.InvalidChar2 a b p) text fixed is = absurd (fixed.word a b p refl)
starts (error.InvalidString a p) text fixed is = absurd (fixed.string a p refl)
starts (error.InvalidExternalID p) text fixed is = is
starts (error.EntityResolver p n) text fixed is = is
starts (error.InvalidComment p) text fixed is = is
starts (error.InvalidCharacterData p) text fixed is = is
starts (error.UnknownToken p) text fixed is = is
starts error.UnexpectedEndOfStream text fixed is = is
starts error.OutOfMemory text fixed is = is
