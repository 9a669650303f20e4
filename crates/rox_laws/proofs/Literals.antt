-- A fault that stands in a literal of the text is told at its place in the text.
use Rattle.std.proofs.Common.{◌≡◌, ℕ, Bool, List, refl, sym, subst, inl, inr, arith, IsUtf8}
use Rattle.std.specs.Prelude.{◌⊎◌}
use Rattle.std.proofs.lemmas.Str.{IsUtf8-take}
use Rattle.rox_grammar.specs.declared.fault.Fault.{Fault}
use Rattle.rox_grammar.specs.Forest.{Forest}
use Rattle.rox_grammar.specs.Written.{Item}
use Rattle.rox_grammar.specs.Names.{byte}
use Rattle.rox_grammar.specs.Content.{Inclusion}
use Rattle.rox_grammar.specs.Entities.{Entity}
use Rattle.rox_grammar.specs.Doctype.{Asked}
use Rattle.rox_grammar.specs.Spans.{NamesText}
use Rattle.rox_grammar.specs.Faults.{FaultFrom}
use Rattle.rox_grammar.specs.Faults as faults
use Rattle.rox_grammar.specs.FaultsWithDoctype.{InDoctype, RefusalOf}
use Rattle.rox_error.specs.declared.error.Error.{Error}
use Rattle.rox_error.specs.FaultErrors.{IsErrorOf}
use Rattle.rox_theory.proofs.CharTexts.{cut_at}
use Rattle.rox_theory.proofs.DoctypeLemmas.{quoted_closes}
use Rattle.rox_laws.specs.Sources.{IsLiteralIn}
use Rattle.rox_laws.proofs.Counted.{IsPlaced, told_same}
use Rattle.rox_laws.proofs.Placed.{declaration_placed, value_placed, stands_placed}

-- the fault stands in the text itself, or its place lies in the source
abbrev IsOwn : List ℕ → List ℕ → Fault → Type 0
IsOwn text source f = (source ≡ text) ⊎ IsPlaced source f

from_placed : (opens : ℕ → Inclusion) (es : List Entity) (limit : ℕ) (text : List ℕ) (declared : Bool) (PrologAt : ℕ → Forest Item → Type 0) (source : List ℕ) (f : Fault) → IsUtf8 source → FaultFrom opens es limit text declared PrologAt source f
    → IsOwn text source f
from_placed opens es limit text declared PrologAt source f utf8 (faults.FaultFrom.misc_around p items _ (inl front) fits (faults.InMiscs.in_one _ ill)) = inl refl
from_placed opens es limit text declared PrologAt source f utf8 (faults.FaultFrom.misc_around p items _ (inl front) fits (faults.InMiscs.one_too_many j item is over)) = inl refl
from_placed opens es limit text declared PrologAt source f utf8 (faults.FaultFrom.no_root items front fits) = inl refl
from_placed opens es limit text declared PrologAt source f utf8 (faults.FaultFrom.unknown_ahead p items front fits inside no_space no_less) = inl refl
from_placed opens es limit text declared PrologAt source f utf8 (faults.FaultFrom.at_point k open_around b _ s _ _ place fits (faults.AtPoint.at_place _ ill)) = inr (stands_placed source utf8 limit es k open_around (opens k) s b f ill)
from_placed opens es limit text declared PrologAt source f utf8 (faults.FaultFrom.at_point k open_around b src s _ _ place fits (faults.AtPoint.in_value next l i stop d _ _ opens' part ill)) = grind (arith, value_placed)
from_placed opens es limit text declared PrologAt source f utf8 (faults.FaultFrom.misc_around p items _ (inr behind) fits (faults.InMiscs.in_one _ ill)) = inl refl
from_placed opens es limit text declared PrologAt source f utf8 (faults.FaultFrom.misc_around p items _ (inr behind) fits (faults.InMiscs.one_too_many j item is over)) = inl refl
from_placed opens es limit text declared PrologAt source f utf8 (faults.FaultFrom.unknown_behind p items behind fits inside no_space no_comment no_instruction) = inl refl

doctype_placed : (limit : ℕ) (text : List ℕ) (i : ℕ) (before : Forest Item) (asked : List Asked) (source : List ℕ) (f : Fault) → InDoctype limit text i before asked source f → IsOwn text source f
doctype_placed limit text i before asked source f h = grind (arith, declaration_placed)

refusal_placed : (limit : ℕ) (allow : Bool) (text : List ℕ) (asked : List Asked) (source : List ℕ) (f : Fault) → IsUtf8 source → RefusalOf limit allow text asked source f → IsOwn text source f
refusal_placed limit allow text asked source f utf8 k = grind (arith, doctype_placed, from_placed)

-- a literal is cut off at its closing quote
quoted_told : (text : List ℕ) (source : List ℕ) (f : Fault) (x : Error) → IsUtf8 text → (l : IsLiteralIn text source) → (IsUtf8 source → IsOwn text source f) → NamesText source f → IsErrorOf source f x → IsErrorOf text f x
quoted_told text source f x utf8 l own named told =
    let closes : byte text l.end ≡ byte text l.start = quoted_closes text l.start l.end l.next l.quoted in
    let cut = cut_at text l.end (byte text l.start) closes (omega arith) (omega arith) in
    let front : IsUtf8 source = subst IsUtf8 (sym l.cut_off) (IsUtf8-take text l.end utf8 cut) in
    grind (arith, told_same)

pub literal_told : (limit : ℕ) (allow : Bool) (text : List ℕ) (asked : List Asked) (source : List ℕ) (f : Fault) (x : Error) → IsUtf8 text → RefusalOf limit allow text asked source f → IsLiteralIn text source → NamesText source f
    → IsErrorOf source f x → IsErrorOf text f x
literal_told limit allow text asked source f x utf8 refusal l named told = quoted_told text source f x utf8 l (λ own. refusal_placed limit allow text asked source f own refusal) named told
