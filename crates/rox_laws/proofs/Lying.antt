-- Where the source of a fault lies.
use Rattle.std.proofs.Common.{◌≡◌, ℕ, ◌+◌, Bool, true, List, [], ◌∷◌, ◌++◌, drop, Option, Some, refl, sym, ap, subst, inl, inr, arith}
use Rattle.std.specs.Prelude.{◌⊎◌, Contains}
use Rattle.std.proofs.lemmas.List.Elements.{Contains-append_left, Contains-append_right}
use Rattle.rox_grammar.specs.declared.fault.Fault.{Fault}
use Rattle.rox_grammar.specs.Forest.{Forest}
use Rattle.rox_grammar.specs.Written.{Item}
use Rattle.rox_grammar.specs.Names.{slice}
use Rattle.rox_grammar.specs.Content.{Inclusion}
use Rattle.rox_grammar.specs.Entities.{Replacement, Entity, text_of}
use Rattle.rox_grammar.specs.Doctype.{Request, Asked, GivesReplacement, IsDefinition, entry, Subset, IsDoctype}
use Rattle.rox_grammar.specs.Doctype as doctype
use Rattle.rox_theory.specs.ParseParts.{MayHaveDoctype}
use Rattle.rox_grammar.specs.State.{State}
use Rattle.rox_grammar.specs.ContentPoints.{ContentPoint, ValuePart}
use Rattle.rox_grammar.specs.ContentPoints as places
use Rattle.rox_grammar.specs.Faults.{FaultFrom}
use Rattle.rox_grammar.specs.Faults as faults
use Rattle.rox_grammar.specs.FaultsWithDoctype.{InDoctype, RefusalOf}
use Rattle.rox_grammar.specs.FaultsWithDoctype as refused
use Rattle.rox_laws.specs.Sources.{IsLiteralIn, IsAnswerIn}
use Rattle.rox_theory.proofs.DoctypeParts.{declaration_parts}
use Rattle.rox_theory.proofs.ParseParts.{PrologParts, prolog_parts}

-- ---- of an entity

abbrev Lies : List ℕ → List Asked → List ℕ → Type 0
Lies text asked source = IsLiteralIn text source ⊎ IsAnswerIn asked source

-- also where more was asked
lies_among : (text : List ℕ) (asked all : List Asked) (source : List ℕ) → ((x : Asked) → Contains asked x → Contains all x) → Lies text asked source → Lies text all source
lies_among text asked all source among k = grind arith

given_lies : (text : List ℕ) (request : Request) (answer : Option (List ℕ)) (o : Option Replacement) (t : Replacement) → GivesReplacement answer o → o ≡ Some t → Lies text (record { request = request; answer = answer } ∷ []) t.source
given_lies text request answer o t doctype.GivesReplacement.nothing is = cc is
given_lies text request answer o t (doctype.GivesReplacement.the_rest told d utf8 may) is =
    let same : ◌≡◌ {A = Replacement} (record { source = drop d told; start = 0 }) t = cc is in
    inr (record { request = request; answer = told; given = (0, omega arith, refl); part = inr (d, may, ap (λ (r : Replacement). r.source) (sym same)) })

definition_lies : (text : List ℕ) (parameter : Bool) (i j : ℕ) (asked : List Asked) (o : Option Replacement) (t : Replacement) → IsDefinition text parameter i j asked o → o ≡ Some t → Lies text asked t.source
definition_lies text parameter i j asked o t (doctype.IsDefinition.internal _ e _ quoted) is = grind arith
definition_lies text parameter i j asked o t (doctype.IsDefinition.external _ n _ request answer _ id behind gives) is = given_lies text request answer o t gives is

-- the text of a name is that of the first declaration, or of one behind it
of_first : (own : List ℕ) (o : Option Replacement) (es : List Entity) (name : List ℕ) (t : Replacement) → text_of (entry own o ++ es) name ≡ Some t → (o ≡ Some t) ⊎ (text_of es name ≡ Some t)
of_first own o es name t found = grind arith

subset_lies : (text : List ℕ) (i j : ℕ) (items : Forest Item) (asked : List Asked) (es : List Entity) → Subset text i j items asked es → (name : List ℕ) (t : Replacement) → text_of es name ≡ Some t → Lies text asked t.source
subset_lies text i j items asked es (doctype.Subset.no_more _) name t found = cc found
subset_lies text i j items asked es (doctype.Subset.space _ _ _ _ _ is more) name t found = subset_lies text (i + 1) j items asked es more name t found
subset_lies text i j items asked es (doctype.Subset.an_item _ k _ item rest _ _ is more) name t found = subset_lies text k j rest asked es more name t found
subset_lies text i j items asked es (doctype.Subset.skipped_declaration _ _ _ _ _ opens closes more) name t found = subset_lies text _ j items asked es more name t found
subset_lies text i j items asked es (doctype.Subset.an_entity _ k _ _ first later one others is more) name t found =
    let b = declaration_parts is in
    let found' : text_of (entry (slice text b.n b.m) b.text ++ others) name ≡ Some t = subst (λ (own : List Entity). text_of (own ++ others) name ≡ Some t) b.declares found in
    elim (of_first (slice text b.n b.m) b.text others name t found') as (λ q. Lies text (first ++ later) t.source) [
      | inl here ↦ lies_among text first (first ++ later) t.source (λ x. Contains-append_left first later x) (definition_lies text b.parameter b.d b.e first b.text t b.definition here)
      | inr behind ↦ lies_among text later (first ++ later) t.source (λ x. Contains-append_right first later x) (subset_lies text k j items later others more name t behind)
    ]

itself_lies : (text : List ℕ) (i j : ℕ) (items : Forest Item) (asked : List Asked) (es : List Entity) → IsDoctype text i j items asked es → (name : List ℕ) (t : Replacement) → text_of es name ≡ Some t → Lies text asked t.source
itself_lies text i j items asked es h name t found = grind (arith, subset_lies)

doctype_lies : (text : List ℕ) (i j : ℕ) (dtd : Bool) (items : Forest Item) (asked : List Asked) (es : List Entity) → MayHaveDoctype text i j dtd items asked es → (name : List ℕ) (t : Replacement) → text_of es name ≡ Some t → Lies text asked t.source
doctype_lies text i j dtd items asked es h name t found = grind (arith, itself_lies)

-- ---- of a fault

-- a source is the text, or that of an entity
abbrev IsOf : List ℕ → List Entity → List ℕ → Type 0
IsOf text es source = (source ≡ text) ⊎ ((name : List ℕ) × (t : Replacement) × (text_of es name ≡ Some t) × (source ≡ t.source))

module _ (opens : ℕ → Inclusion) (es : List Entity) (text : List ℕ) where
  place_of : (Root : ℕ → Forest Item → Type 0) (k open_around b : ℕ) (src : List ℕ) (s : State) → ContentPoint opens es text Root k open_around src b s → IsOf text es src
  place_of Root k open_around b src s (places.ContentPoint.begins p items is) = inl refl
  place_of Root k open_around b src s (places.ContentPoint.goes _ _ l c _ t u before takes inner deep) = place_of Root k open_around l src t before
  place_of Root k open_around b src s (places.ContentPoint.enters i at l r from u run before inner named may) = inr (_, run.replacement, run.refers.2, refl)

  place_root : (Root : ℕ → Forest Item → Type 0) (k open_around b : ℕ) (src : List ℕ) (s : State) → ContentPoint opens es text Root k open_around src b s → (p : ℕ) × (items : Forest Item) × Root p items
  place_root Root k open_around b src s (places.ContentPoint.begins p items is) = (p, items, is)
  place_root Root k open_around b src s (places.ContentPoint.goes _ _ l c _ t u before takes inner deep) = place_root Root k open_around l src t before
  place_root Root k open_around b src s (places.ContentPoint.enters i at l r from u run before inner named may) = place_root Root i at l from u before

  part_of : (k : ℕ) (src : List ℕ) (start end b l : ℕ) (part : List ℕ) (i stop d : ℕ) → IsOf text es src → ValuePart opens es k src start end b l part i stop d → IsOf text es part
  part_of k src start end b l part i stop d of p = grind arith

  from_of : (limit : ℕ) (declared : Bool) (PrologAt : ℕ → Forest Item → Type 0) (source : List ℕ) (f : Fault) → FaultFrom opens es limit text declared PrologAt source f
      → (source ≡ text) ⊎ (((p : ℕ) × (items : Forest Item) × PrologAt p items) × IsOf text es source)
  from_of limit declared PrologAt source f (faults.FaultFrom.misc_around p items _ (inl front) fits (faults.InMiscs.in_one _ ill)) = inl refl
  from_of limit declared PrologAt source f (faults.FaultFrom.misc_around p items _ (inl front) fits (faults.InMiscs.one_too_many j item is over)) = inl refl
  from_of limit declared PrologAt source f (faults.FaultFrom.no_root items front fits) = inl refl
  from_of limit declared PrologAt source f (faults.FaultFrom.unknown_ahead p items front fits inside no_space no_less) = inl refl
  from_of limit declared PrologAt source f (faults.FaultFrom.at_point k open_around b _ s _ _ place fits (faults.AtPoint.at_place _ ill)) = grind (arith, place_root, place_of)
  from_of limit declared PrologAt source f (faults.FaultFrom.at_point k open_around b src s _ _ place fits (faults.AtPoint.in_value next l i stop d _ _ opens' part ill)) = grind (arith, place_root, part_of, place_of)
  from_of limit declared PrologAt source f (faults.FaultFrom.misc_around p items _ (inr behind) fits (faults.InMiscs.in_one _ ill)) = inl refl
  from_of limit declared PrologAt source f (faults.FaultFrom.misc_around p items _ (inr behind) fits (faults.InMiscs.one_too_many j item is over)) = inl refl
  from_of limit declared PrologAt source f (faults.FaultFrom.unknown_behind p items behind fits inside no_space no_comment no_instruction) = inl refl

-- in a document type declaration it is the text, or an answer as a whole
in_doctype : (limit : ℕ) (text : List ℕ) (i : ℕ) (before : Forest Item) (asked : List Asked) (source : List ℕ) (f : Fault) → InDoctype limit text i before asked source f → (source ≡ text) ⊎ IsAnswerIn asked source
in_doctype limit text i before asked source f (refused.InDoctype.head_lacks _ lacks) = inl refl
in_doctype limit text i before asked source f (refused.InDoctype.no_name n is cut) = inl refl
in_doctype limit text i before asked source f (refused.InDoctype.in_subset p items _ _ _ _ to fits (refused.InSubset.in_miscs _ (faults.InMiscs.in_one _ ill))) = inl refl
in_doctype limit text i before asked source f (refused.InDoctype.in_subset p items _ _ _ _ to fits (refused.InSubset.in_miscs _ (faults.InMiscs.one_too_many j item is over))) = inl refl
in_doctype limit text i before asked source f (refused.InDoctype.in_subset p items _ _ _ _ to fits (refused.InSubset.not_passed is none)) = inl refl
in_doctype limit text i before asked source f (refused.InDoctype.in_subset p items _ _ _ _ to fits (refused.InSubset.in_entity _ is lacks)) = inl refl
in_doctype limit text i before asked source f (refused.InDoctype.in_subset p items before' _ _ _ to fits (refused.InSubset.entity_open n m d e parameter first o _ begins definition lacks)) = inl refl
in_doctype limit text i before asked source f (refused.InDoctype.in_subset p items before' _ _ _ to fits (refused.InSubset.entity_cut j request answer o asks past gives)) = inl refl
in_doctype limit text i before asked source f (refused.InDoctype.in_subset p items first _ _ _ to fits (refused.InSubset.in_answer j request answer _ asks utf8 opens (q, t, due, lacks))) =
    inr (record { request = request; answer = source; given = Contains-append_right first _ _ (0, omega arith, refl); part = inl refl })
in_doctype limit text i before asked source f (refused.InDoctype.in_subset p items _ _ _ _ to fits (refused.InSubset.end_lacks _ is lacks)) = inl refl
in_doctype limit text i before asked source f (refused.InDoctype.in_subset p items _ _ _ _ to fits (refused.InSubset.unknown no_space no_entity no_comment no_instruction no_declaration no_bracket inside)) = inl refl
in_doctype limit text i before asked source f (refused.InDoctype.in_subset p items _ _ _ _ to fits (refused.InSubset.no_root ends none)) = inl refl

pub source_lies : (limit : ℕ) (allow : Bool) (text : List ℕ) (asked : List Asked) (source : List ℕ) (f : Fault) → RefusalOf limit allow text asked source f → (source ≡ text) ⊎ (IsLiteralIn text source ⊎ IsAnswerIn asked source)
source_lies limit allow text asked source f (refused.RefusalOf.in_declaration _ opens lacks) = inl refl
source_lies limit allow text asked source f (refused.RefusalOf.without _ from) = inl refl
source_lies limit allow text asked source f (refused.RefusalOf.not_allowed i before forbids ahead fits opens) = inl refl
source_lies limit allow text asked source f (refused.RefusalOf.in_doctype i before _ _ _ may ahead fits opens inside) = grind (arith, in_doctype)
source_lies limit allow text asked source f (refused.RefusalOf.behind _ es _ _ may from) =
    elim (from_of _ es text limit true _ source f from) as (λ q. (source ≡ text) ⊎ (IsLiteralIn text source ⊎ IsAnswerIn asked source)) [
      | inl own ↦ inl own
      | inr (front, inl own) ↦ inl own
      | inr (front, inr (name, t, found, is)) ↦ (
          let declared : PrologParts text true asked es front.0 front.1 = prolog_parts text front.0 true front.1 asked es front.2 in
          inr (subst (λ (s : List ℕ). IsLiteralIn text s ⊎ IsAnswerIn asked s) (sym is) (doctype_lies text declared.begun front.0 true declared.nodes asked es declared.doctype name t found)))
    ]
