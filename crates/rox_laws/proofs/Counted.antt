-- Places of a literal count as those of the text that it stands in: rows, columns and names.
use Rattle.std.proofs.Common.{◌≡◌, ℕ, zero, suc, ◌+◌, ◌-◌, ◌<◌, ◌≤◌, ◌==◌, List, length, take, drop, refl, ap, ◌∙◌, subst, inl, inr, arith, length-take, chars}
use Rattle.std.specs.Prelude.{min, count_by, String}
use Rattle.std.specs.declared.alloc.Global.{Global}
use Rattle.std.proofs.lemmas.Bool.{cases_Bool}
use Rattle.std.proofs.lemmas.List.{get_or-take, take-take, drop-take}
use Rattle.rox_grammar.specs.declared.fault.Span.{Span}
use Rattle.rox_grammar.specs.declared.fault.Fault.{Fault}
use Rattle.rox_grammar.specs.declared.fault.Fault.TheVariants as fault
use Rattle.rox_grammar.specs.Names.{byte, slice}
use Rattle.rox_grammar.specs.Positions.{is_cut, round_from, round_down, last_line, row_of, col_of}
use Rattle.rox_grammar.specs.Spans.{IsTextSpan, NamesText}
use Rattle.rox_error.specs.declared.error.Error.{Error}
use Rattle.rox_error.specs.declared.error.Error.TheVariants as error
use Rattle.rox_error.specs.FaultErrors.{position_at, Names, IsErrorWithName, IsErrorWithNames, IsErrorOf}

-- the place of a fault, if it has one, lies in the source
abbrev pub IsPlaced : List ℕ → Fault → Type 0
IsPlaced src (fault.InvalidXmlPrefixUri at) = at ≤ length src
IsPlaced src (fault.UnexpectedXmlUri at) = at ≤ length src
IsPlaced src (fault.UnexpectedXmlnsUri at) = at ≤ length src
IsPlaced src (fault.InvalidElementNamePrefix at) = at ≤ length src
IsPlaced src (fault.DuplicatedNamespace name at) = at ≤ length src
IsPlaced src (fault.UnknownNamespace name at) = at ≤ length src
IsPlaced src (fault.UnexpectedCloseTag expected actual at) = at ≤ length src
IsPlaced src (fault.UnexpectedEntityCloseTag at) = at ≤ length src
IsPlaced src (fault.UnknownEntityReference name at) = at ≤ length src
IsPlaced src (fault.MalformedEntityReference at) = at ≤ length src
IsPlaced src (fault.EntityReferenceLoop at) = at ≤ length src
IsPlaced src (fault.InvalidAttributeValue at) = at ≤ length src
IsPlaced src (fault.DuplicatedAttribute name at) = at ≤ length src
IsPlaced src fault.NoRootNode = Unit {0}
IsPlaced src fault.UnclosedRootNode = Unit {0}
IsPlaced src (fault.UnexpectedDeclaration at) = at ≤ length src
IsPlaced src fault.DtdDetected = Unit {0}
IsPlaced src fault.NodesLimitReached = Unit {0}
IsPlaced src fault.AttributesLimitReached = Unit {0}
IsPlaced src fault.NamespacesLimitReached = Unit {0}
IsPlaced src (fault.InvalidName at) = at ≤ length src
IsPlaced src (fault.NonXmlChar c at) = at ≤ length src
IsPlaced src (fault.InvalidChar expected actual at) = at ≤ length src
IsPlaced src (fault.InvalidChar2 expected actual at) = at ≤ length src
IsPlaced src (fault.InvalidString expected at) = at ≤ length src
IsPlaced src (fault.InvalidExternalID at) = at ≤ length src
IsPlaced src (fault.InvalidComment at) = at ≤ length src
IsPlaced src (fault.InvalidCharacterData at) = at ≤ length src
IsPlaced src (fault.UnknownToken at) = at ≤ length src
IsPlaced src fault.UnexpectedEndOfStream = Unit {0}

round_le : (src : List ℕ) (n : ℕ) → round_from src n ≤ n
round_le src zero = omega arith
round_le src (suc n) =
    elim (cases_Bool (is_cut src (suc n))) as (λ q. round_from src (suc n) ≤ suc n) [
      | inl cut ↦ rw cut (omega arith)
      | inr inner ↦ (let le = round_le src n in rw inner (omega arith))
    ]

-- a character of the text begins at e, where the source is cut off
module _ (text : List ℕ) (e : ℕ) (inside : e < length text) (ascii : byte text e < 128) where
  own_long : length (take e text) ≡ e
  own_long = omega (arith, length-take e text)

  cut_same : (n : ℕ) → n ≤ e → is_cut (take e text) n ≡ is_cut text n
  cut_same n le = grind (arith, own_long, get_or-take)

  round_same : (n : ℕ) → n ≤ e → round_from (take e text) n ≡ round_from text n
  round_same zero le = refl
  round_same (suc n) le = rw (cut_same (suc n) le, round_same n (omega arith)) refl

  down_same : (at : ℕ) → at ≤ e → round_down (take e text) at ≡ round_down text at
  unfolding round_down
  down_same at le =
      let own : min at (length (take e text)) ≡ at = omega (arith, own_long) in
      let all : min at (length text) ≡ at = omega arith in
      rw (own, all) (round_same at le)

  down_le : (at : ℕ) → at ≤ e → round_down text at ≤ e
  unfolding round_down
  down_le at le =
      let all : min at (length text) ≡ at = omega arith in
      rw all (let down = round_le text at in omega arith)

  front_same : (at : ℕ) → at ≤ e → take (round_down (take e text) at) (take e text) ≡ take (round_down text at) text
  front_same at le = rw (down_same at le) (take-take (round_down text at) e text (down_le at le))

  row_same : (at : ℕ) → at ≤ e → row_of (take e text) at ≡ row_of text at
  unfolding row_of
  row_same at le = ap (λ (front : List ℕ). min (count_by (λ b. b == 10) front + 1) 4294967295) (front_same at le)

  col_same : (at : ℕ) → at ≤ e → col_of (take e text) at ≡ col_of text at
  unfolding col_of
  col_same at le = ap (λ (front : List ℕ). min (length (chars (last_line front)) + 1) 4294967295) (front_same at le)

  position_same : (at : ℕ) → at ≤ length (take e text) → position_at (take e text) at ≡ position_at text at
  position_same at le =
      let within : at ≤ e = omega (arith, own_long) in
      rw (row_same at within, col_same at within) refl

  slice_same : (i j : ℕ) → i ≤ j → j ≤ length (take e text) → slice (take e text) i j ≡ slice text i j
  slice_same i j from to =
      let split : i + (e - i) ≡ e = omega (arith, own_long) in
      let front : drop i (take e text) ≡ take (e - i) (drop i text) = subst (λ (n : ℕ). drop i (take n text) ≡ take (e - i) (drop i text)) split (drop-take i (e - i) text) in
      ap (take (j - i)) front ∙ take-take (j - i) (e - i) (drop i text) (omega (arith, own_long))

  named_same : (span : Span) (name : String Global) → IsTextSpan (take e text) span → Names (take e text) span name → Names text span name
  named_same span name is names = λ there. names is ∙ slice_same span.start span.end is.0 is.2.0

  one_name : (span : Span) (kind other : String Global → Error) (x : Error) → IsTextSpan (take e text) span → ((n : String Global) → kind n ≡ other n) → IsErrorWithName (take e text) span kind x → IsErrorWithName text span other x
  one_name span kind other x is same (inl (name, names, made)) = inl (name, named_same span name is names, made ∙ same name)
  one_name span kind other x is same (inr memory) = inr memory

  two_names : (span more : Span) (kind other : String Global → String Global → Error) (x : Error) → IsTextSpan (take e text) span → IsTextSpan (take e text) more → ((n m : String Global) → kind n m ≡ other n m)
      → IsErrorWithNames (take e text) span more kind x → IsErrorWithNames text span more other x
  two_names span more kind other x is is' same (inl (first, second, names, names', made)) = inl (first, second, named_same span first is names, named_same more second is' names', made ∙ same first second)
  two_names span more kind other x is is' same (inr memory) = inr memory

  -- the error of a fault is that of the same fault in the text
  pub told_same : (f : Fault) (x : Error) → IsPlaced (take e text) f → NamesText (take e text) f → IsErrorOf (take e text) f x → IsErrorOf text f x
  told_same (fault.InvalidXmlPrefixUri at) x placed named told = told ∙ ap error.InvalidXmlPrefixUri (position_same at placed)
  told_same (fault.UnexpectedXmlUri at) x placed named told = told ∙ ap error.UnexpectedXmlUri (position_same at placed)
  told_same (fault.UnexpectedXmlnsUri at) x placed named told = told ∙ ap error.UnexpectedXmlnsUri (position_same at placed)
  told_same (fault.InvalidElementNamePrefix at) x placed named told = told ∙ ap error.InvalidElementNamePrefix (position_same at placed)
  told_same (fault.DuplicatedNamespace name at) x placed named told = one_name name _ _ x named (λ n. ap (error.DuplicatedNamespace n) (position_same at placed)) told
  told_same (fault.UnknownNamespace name at) x placed named told = one_name name _ _ x named (λ n. ap (error.UnknownNamespace n) (position_same at placed)) told
  told_same (fault.UnexpectedCloseTag expected actual at) x placed named told = two_names expected actual _ _ x named.0 named.1 (λ n m. ap (error.UnexpectedCloseTag n m) (position_same at placed)) told
  told_same (fault.UnexpectedEntityCloseTag at) x placed named told = told ∙ ap error.UnexpectedEntityCloseTag (position_same at placed)
  told_same (fault.UnknownEntityReference name at) x placed named told = one_name name _ _ x named (λ n. ap (error.UnknownEntityReference n) (position_same at placed)) told
  told_same (fault.MalformedEntityReference at) x placed named told = told ∙ ap error.MalformedEntityReference (position_same at placed)
  told_same (fault.EntityReferenceLoop at) x placed named told = told ∙ ap error.EntityReferenceLoop (position_same at placed)
  told_same (fault.InvalidAttributeValue at) x placed named told = told ∙ ap error.InvalidAttributeValue (position_same at placed)
  told_same (fault.DuplicatedAttribute name at) x placed named told = one_name name _ _ x named (λ n. ap (error.DuplicatedAttribute n) (position_same at placed)) told
  told_same fault.NoRootNode x placed named told = told
  told_same fault.UnclosedRootNode x placed named told = told
  told_same (fault.UnexpectedDeclaration at) x placed named told = told ∙ ap error.UnexpectedDeclaration (position_same at placed)
  told_same fault.DtdDetected x placed named told = told
  told_same fault.NodesLimitReached x placed named told = told
  told_same fault.AttributesLimitReached x placed named told = told
  told_same fault.NamespacesLimitReached x placed named told = told
  told_same (fault.InvalidName at) x placed named told = told ∙ ap error.InvalidName (position_same at placed)
  told_same (fault.NonXmlChar c at) x placed named told = told ∙ ap (error.NonXmlChar c) (position_same at placed)
  told_same (fault.InvalidChar expected actual at) x placed named told = told ∙ ap (error.InvalidChar expected actual) (position_same at placed)
  told_same (fault.InvalidChar2 expected actual at) x placed named (words, are, made) = (words, are, made ∙ ap (error.InvalidChar2 words actual) (position_same at placed))
  told_same (fault.InvalidString expected at) x placed named (words, are, made) = (words, are, made ∙ ap (error.InvalidString words) (position_same at placed))
  told_same (fault.InvalidExternalID at) x placed named told = told ∙ ap error.InvalidExternalID (position_same at placed)
  told_same (fault.InvalidComment at) x placed named told = told ∙ ap error.InvalidComment (position_same at placed)
  told_same (fault.InvalidCharacterData at) x placed named told = told ∙ ap error.InvalidCharacterData (position_same at placed)
  told_same (fault.UnknownToken at) x placed named told = told ∙ ap error.UnknownToken (position_same at placed)
  told_same fault.UnexpectedEndOfStream x placed named told = told
