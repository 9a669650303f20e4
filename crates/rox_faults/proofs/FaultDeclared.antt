-- What is required in a document type declaration and is not there, construct by construct.
use Rattle.std.proofs.Common.{◌≡◌, ℕ, ◌+◌, ◌≤◌, ◌⊎◌, ◌==◌, ◌||◌, Bool, true, false, leb, List, length, sym, ◌∙◌, subst, arith, inl, inr}
use Rattle.std.specs.Prelude.{Err}
use Rattle.std.proofs.lemmas.Bool.{eqb-true, eqb-false, leb-false, leb-true, or_cases, or_parts}
use Rattle.rox_grammar.specs.declared.fault.Fault.{Fault}
use Rattle.rox_grammar.specs.declared.fault.Fault.TheVariants as fault
use Rattle.rox_grammar.specs.declared.fault.Due.TheVariants as due
use Rattle.rox_grammar.specs.declared.fault.Word.TheVariants as word
use Rattle.rox_grammar.specs.Chars.{is_space, is_name_start}
use Rattle.rox_grammar.specs.Runs.{begins}
use Rattle.rox_grammar.specs.Search.{byte_from}
use Rattle.rox_grammar.specs.FixedTexts.{at}
use Rattle.rox_grammar.specs.Names.{byte, spaces_end}
use Rattle.rox_grammar.specs.Doctype.{Request, IsExternalID, BeginsEntity, IsSpace}
use Rattle.rox_grammar.specs.Due.{a_name, a_byte, IsMissing, Misses, no_name, no_external_id, none_left, DueInLiteral, DueInExternalID, DueInEntity, DueInDoctype}
use Rattle.rox_faults.proofs.DueForms.{a_space, a_quote, a_definition, no_space, no_definition}
use Rattle.rox_grammar.specs.Due as dues
use Rattle.rox_reading.specs.Lexical.{byte_at, space_at, quote_at, name_at}
use Rattle.rox_reading.specs.Doctype.{quoted_at, system_at, public_at, external_id_at, name_or_end_at, notation_at, definition_at, kind_at, entity_head_at, external_id_if, doctype_head_at}
use Rattle.rox_theory.proofs.Basics.{chosen, run_end_le}
use Rattle.rox_theory.proofs.DeclarationLemmas.{stands_fits}
use Rattle.rox_theory.proofs.NameLemmas.{name_sound}
use Rattle.rox_grammar.specs.Constructs.{IsQuote}
use Rattle.rox_theory.proofs.LiteralLemmas.{quote_sound, quote_complete}
use Rattle.rox_theory.proofs.DoctypeLemmas.{space_sound, quoted_end, quoted_sound, external_sound, kind_sound, name_or_end}
use Rattle.rox_theory.proofs.FailedReadings.{bind_err, no_fault, byte_fails}
use Rattle.rox_faults.proofs.FaultTags.{quote_fails}

-- White space that is required.
pub space_fails : (src : List ℕ) (i : ℕ) (f : Fault) → space_at src i ≡ Err f → IsMissing src i a_space f
unfolding space_at
space_fails src i f h =
    chosen (leb (length src) i) _ _ _ h
    (λ out h. let is : fault.UnexpectedEndOfStream ≡ f = cc in subst (IsMissing src i a_space) is (none_left _ (leb-true _ _ out)))
    (λ inside h. chosen (is_space (byte src i)) _ _ _ h (λ some h. no_fault _ f h)
    (λ none h. let is : fault.InvalidChar2 due.Space (byte src i) i ≡ f = cc in subst (IsMissing src i a_space) is (no_space (leb-false _ _ inside) none)))

-- A name that is required.
pub name_fails : (src : List ℕ) (i : ℕ) (f : Fault) → name_at src i ≡ Err f → IsMissing src i a_name f
unfolding name_at
name_fails src i f h =
    chosen (begins is_name_start src i) _ _ _ h (λ fine h. cc)
    (λ fails h. let is : fault.InvalidName i ≡ f = cc in subst (IsMissing src i a_name) is (no_name (λ j name. let s = name.starts in cc (sym fails ∙ s))))

-- A literal: its quote, or the one that ends it.
quoted_fails : (src : List ℕ) (i : ℕ) (f : Fault) → quoted_at src i ≡ Err f → (quote_at src i ≡ Err f) ⊎ (IsQuote src i × IsMissing src (quoted_end src i) (a_byte (byte src i)) f)
unfolding quoted_at
quoted_fails src i f h =
    bind_err (quote_at src i) _ f h (λ bad. inl bad)
    (λ q quoted h.
    let quote = quote_sound src i q quoted in
    bind_err (byte_at q.0 src (byte_from (λ c. c == q.0) src q.1)) _ f h
    (λ bad. let bad' = rw (quote.1, quote.2) at bad in inr (quote.0, byte_fails (byte src i) src (quoted_end src i) f bad'))
    (λ x ok h. no_fault _ f h))

-- After white space.
literal_fails : (src : List ℕ) (p s : ℕ) (f : Fault) → IsSpace src p s → quoted_at src s ≡ Err f → Misses src (DueInLiteral src p) f
literal_fails src p s f is h =
    elim (quoted_fails src s f h) as (λ _. Misses src (DueInLiteral src p) f) [
      | inl bad ↦ (s, a_quote, dues.DueInLiteral.its_quote s is, quote_fails src s f bad)
      | inr lack ↦ (quoted_end src s, a_byte (byte src s), dues.DueInLiteral.its_end s is lack.0, lack.1)
    ]

-- An external id.
system_fails : (src : List ℕ) (i : ℕ) (f : Fault) → at word.System src i ≡ true → system_at src i ≡ Err f → Misses src (DueInExternalID src i) f
unfolding system_at
system_fails src i f is h =
    bind_err (space_at src (i + 6)) _ f h (λ bad. (i + 6, a_space, dues.DueInExternalID.first (i + 6) a_space (inl is) dues.DueInLiteral.space_before, space_fails src (i + 6) f bad))
    (λ s spaced h. bind_err (quoted_at src s.1) _ f h
    (λ bad. let w = literal_fails src (i + 6) s.1 f (space_sound src (i + 6) s spaced) bad in (w.0, w.1, dues.DueInExternalID.first w.0 w.1 (inl is) w.2, w.3))
    (λ x ok h. no_fault _ f h))

public_fails : (src : List ℕ) (i : ℕ) (f : Fault) → at word.Public src i ≡ true → public_at src i ≡ Err f → Misses src (DueInExternalID src i) f
unfolding public_at
public_fails src i f is h =
    bind_err (space_at src (i + 6)) _ f h (λ bad. (i + 6, a_space, dues.DueInExternalID.first (i + 6) a_space (inr is) dues.DueInLiteral.space_before, space_fails src (i + 6) f bad))
    (λ p spaced h.
    let sp = space_sound src (i + 6) p spaced in
    bind_err (quoted_at src p.1) _ f h
    (λ bad. let w = literal_fails src (i + 6) p.1 f sp bad in (w.0, w.1, dues.DueInExternalID.first w.0 w.1 (inr is) w.2, w.3))
    (λ id quoted h.
    let q = (quoted_sound src p.1 id quoted).0 in
    bind_err (space_at src id.1) _ f h
    (λ bad. (id.1, a_space, dues.DueInExternalID.second p.1 (quoted_end src p.1) id.1 id.1 a_space is sp q dues.DueInLiteral.space_before, space_fails src id.1 f bad))
    (λ s spaced' h. bind_err (quoted_at src s.1) _ f h
    (λ bad. let w = literal_fails src id.1 s.1 f (space_sound src id.1 s spaced') bad in (w.0, w.1, dues.DueInExternalID.second p.1 (quoted_end src p.1) id.1 w.0 w.1 is sp q w.2, w.3))
    (λ x ok h. no_fault _ f h))))

-- Or that there is none.
external_fails : (src : List ℕ) (i : ℕ) (f : Fault) → external_id_at src i ≡ Err f
    → Misses src (DueInExternalID src i) f ⊎ ((at word.System src i ≡ false) × (at word.Public src i ≡ false) × (fault.InvalidExternalID i ≡ f))
unfolding external_id_at
external_fails src i f h = grind (arith, system_fails, public_fails)

-- ---- the declaration of an entity

-- Up to its definition.
pub head_fails : (src : List ℕ) (i : ℕ) (f : Fault) → entity_head_at src i ≡ Err f → Misses src (DueInEntity src i) f
unfolding entity_head_at kind_at
head_fails src i f h =
    bind_err (space_at src (i + 8)) _ f h (λ bad. (i + 8, a_space, dues.DueInEntity.space_before, space_fails src (i + 8) f bad))
    (λ k spaced h.
    let sp = space_sound src (i + 8) k spaced in
    bind_err (kind_at src k.1) _ f h
    (λ bad. chosen (byte src k.1 == 37) _ _ _ bad
    (λ is bad. bind_err (space_at src (k.1 + 1)) _ f bad (λ bad. (k.1 + 1, a_space, dues.DueInEntity.space_of_kind k.1 sp (eqb-true _ _ is), space_fails src (k.1 + 1) f bad)) (λ x ok bad. no_fault _ f bad))
    (λ none bad. no_fault _ f bad))
    (λ kind read h.
    let is_kind = kind_sound src k.1 kind read in
    bind_err (name_at src kind.1) _ f h (λ bad. (kind.1, a_name, dues.DueInEntity.its_name k.1 kind.1 kind.0 sp is_kind, name_fails src kind.1 f bad))
    (λ name named h. bind_err (space_at src name.1) _ f h
    (λ bad. (name.1, a_space, dues.DueInEntity.space_behind k.1 kind.1 name.1 kind.0 sp is_kind (name_sound src kind.1 name named).0, space_fails src name.1 f bad))
    (λ x ok h. no_fault _ f h))))

-- The notation.
notation_fails : (src : List ℕ) (i n m d e : ℕ) (request : Request) (parameter : Bool) (f : Fault) → BeginsEntity src i parameter n m d → IsExternalID src d request e → notation_at parameter src e ≡ Err f → Misses src (DueInEntity src i) f
unfolding notation_at name_or_end_at
notation_fails src i n m d e request true f begins' external h = no_fault _ f h
notation_fails src i n m d e request false f begins' external h =
    chosen (at word.NData src (spaces_end src e)) _ _ _ h
    (λ is h. bind_err (space_at src (spaces_end src e + 5)) _ f h
    (λ bad. (spaces_end src e + 5, a_space, dues.DueInEntity.space_of_notation n m d e request begins' external is, space_fails src (spaces_end src e + 5) f bad))
    (λ s spaced h. bind_err (name_or_end_at src s.1) _ f h
    (λ bad. chosen (leb (length src) s.1) _ _ _ bad (λ out bad. no_fault _ f bad)
    (λ inside bad. (s.1, a_name, dues.DueInEntity.its_notation n m d e s.1 request begins' external is (space_sound src (spaces_end src e + 5) s spaced) (leb-false _ _ inside), name_fails src s.1 f bad)))
    (λ x ok h. no_fault _ f h)))
    (λ none h. no_fault _ f h)

-- Its definition.
pub definition_fails : (src : List ℕ) (i n m d : ℕ) (parameter : Bool) (f : Fault) → BeginsEntity src i parameter n m d → definition_at parameter src d ≡ Err f → Misses src (DueInEntity src i) f
unfolding definition_at
definition_fails src i n m d parameter f begins' h =
    chosen (leb (length src) d) _ _ _ h
    (λ out h. let is : fault.UnexpectedEndOfStream ≡ f = cc in
    (d, a_definition, dues.DueInEntity.its_definition parameter n m d begins', subst (IsMissing src d a_definition) is (none_left _ (leb-true _ _ out))))
    (λ inside h. chosen (byte src d == 34 || byte src d == 39) _ _ _ h
    (λ quote h. bind_err (quoted_at src d) _ f h
    (λ bad.
    let quote' : (byte src d ≡ 39) ⊎ (byte src d ≡ 34) = elim (or_cases (byte src d == 34) (byte src d == 39) quote) as (λ s. (byte src d ≡ 39) ⊎ (byte src d ≡ 34)) [ inl a ↦ inr (eqb-true _ _ a) | inr b ↦ inl (eqb-true _ _ b) ] in
    elim (quoted_fails src d f bad) as (λ _. Misses src (DueInEntity src i) f) [
      | inl none ↦ no_fault _ f (sym (quote_complete src d quote') ∙ none)
      | inr lack ↦ (quoted_end src d, a_byte (byte src d), dues.DueInEntity.its_literal parameter n m d begins' quote', lack.1)
    ])
    (λ x ok h. no_fault _ f h))
    (λ bare h.
    let no_quote = or_parts (byte src d == 34) (byte src d == 39) bare in
    chosen (byte src d == 83 || byte src d == 80) _ _ _ h
    (λ some h. bind_err (external_id_at src d) _ f h
    (λ bad. elim (external_fails src d f bad) as (λ s. Misses src (DueInEntity src i) f) [
      | inl w ↦ (w.0, w.1, dues.DueInEntity.its_external_id parameter n m d w.0 w.1 begins' w.2, w.3)
      | inr w ↦ (
          let some' : (byte src d ≡ 83) ⊎ (byte src d ≡ 80) = elim (or_cases (byte src d == 83) (byte src d == 80) some) as (λ s. (byte src d ≡ 83) ⊎ (byte src d ≡ 80)) [ inl a ↦ inl (eqb-true _ _ a) | inr b ↦ inr (eqb-true _ _ b) ] in
          (d, a_definition, dues.DueInEntity.its_definition parameter n m d begins', subst (IsMissing src d a_definition) w.2 (no_external_id some' w.0 w.1)))
    ])
    (λ x external h. bind_err (notation_at parameter src x.1) _ f h (λ bad. notation_fails src i n m d x.1 x.0 parameter f begins' (external_sound src d x external) bad) (λ y ok h. no_fault _ f h)))
    (λ none h.
    let neither = or_parts (byte src d == 83) (byte src d == 80) none in
    let is : fault.InvalidChar2 due.EntityDefinition (byte src d) d ≡ f = cc in (
      d,
      a_definition,
      dues.DueInEntity.its_definition parameter n m d begins',
      subst (IsMissing src d a_definition) is (no_definition (leb-false _ _ inside) (eqb-false _ _ no_quote.0) (eqb-false _ _ no_quote.1) (eqb-false _ _ neither.0) (eqb-false _ _ neither.1)),
    ))))

-- ---- the head of the declaration

-- No external id begins past the end.
no_word_past : (src : List ℕ) (i : ℕ) → (at word.System src i || at word.Public src i) ≡ true → length src ≤ i → ⊥
no_word_past src i some out = grind (arith, stands_fits)

pub doctype_head_fails : (src : List ℕ) (i : ℕ) (f : Fault) → doctype_head_at src i ≡ Err f → Misses src (DueInDoctype src i) f
unfolding doctype_head_at name_or_end_at external_id_if
doctype_head_fails src i f h =
    bind_err (space_at src (i + 9)) _ f h (λ bad. (i + 9, a_space, dues.DueInDoctype.space_before, space_fails src (i + 9) f bad))
    (λ n spaced h.
    let sp = space_sound src (i + 9) n spaced in
    bind_err (name_or_end_at src n.1) _ f h
    (λ bad. chosen (leb (length src) n.1) _ _ _ bad (λ out bad. no_fault _ f bad)
    (λ inside bad. (n.1, a_name, dues.DueInDoctype.its_name n.1 sp (leb-false _ _ inside), name_fails src n.1 f bad)))
    (λ name named h. bind_err (external_id_if src (spaces_end src name.1)) _ f h
    (λ bad. chosen (at word.System src (spaces_end src name.1) || at word.Public src (spaces_end src name.1)) _ _ _ bad
    (λ some bad. bind_err (external_id_at src (spaces_end src name.1)) _ f bad
    (λ bad. elim (external_fails src (spaces_end src name.1) f bad) as (λ s. Misses src (DueInDoctype src i) f) [
      | inl w ↦ elim (name_or_end src n.1 name named) as (λ _. Misses src (DueInDoctype src i) f) [
        | inl is ↦ (w.0, w.1, dues.DueInDoctype.its_external_id n.1 name.1 w.0 w.1 sp is.0 w.2, w.3)
        | inr cut ↦ absurd (no_word_past src (spaces_end src name.1) some (past n.1 name.1 cut.0 cut.1))
      ]
      | inr w ↦ (let some' : (false || false) ≡ true = rw (w.0, w.1) at some in cc some')
    ])
    (λ x ok bad. no_fault _ f bad))
    (λ none bad. no_fault _ f bad))
    (λ x ok h. no_fault _ f h)))
  where
    past : (n k : ℕ) → length src ≤ n → k ≡ n → length src ≤ spaces_end src k
    past n k out same = omega (arith, run_end_le is_space src k)
