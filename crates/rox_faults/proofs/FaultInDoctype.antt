-- Where a document type declaration is, no fault of it is that is met after the same answers.
use Rattle.std.proofs.Common.{◌≡◌, ℕ, ◌+◌, ◌≤◌, ◌⊎◌, ◌==◌, Bool, true, false, List, [], ◌∷◌, ◌++◌, Some, length, refl, sym, ap, ◌∙◌, subst, arith, inl, inr, IsUtf8, IsCharBoundary, append-nil}
use Rattle.std.specs.Prelude.{Option, None}
use Rattle.std.proofs.lemmas.Bool.{true≢false, false_from_ne_true}
use Rattle.rox_grammar.specs.declared.fault.Fault.{Fault}
use Rattle.rox_grammar.specs.declared.fault.Word.TheVariants as word
use Rattle.rox_grammar.specs.FixedTexts.{word_text, at}
use Rattle.rox_grammar.specs.Chars.{is_space, is_name_start, is_name_char}
use Rattle.rox_grammar.specs.Runs.{run_end}
use Rattle.rox_grammar.specs.Search.{byte_from}
use Rattle.rox_grammar.specs.Forest.{Forest, join, size}
use Rattle.rox_grammar.specs.Written.{Item, merge, leaf}
use Rattle.rox_grammar.specs.Names.{byte, spaces_end, IsName}
use Rattle.rox_grammar.specs.TextStart.{after_bom, MayHaveXmlDecl, declared, not_declared}
use Rattle.rox_grammar.specs.Entities.{Replacement, Entity}
use Rattle.rox_grammar.specs.Doctype.{Request, Asked, IsQuoted, IsSpace, IsExternalID, system, public, MayHaveNotation, notation, no_notation, GivesReplacement, nothing, the_rest, IsDefinition, internal, external, BeginsEntity, Subset, MayHaveExternalID, external_id, no_external_id, BeginsDoctype, IsDoctype, no_subset, with_subset, SubsetTo, subset_to}
use Rattle.rox_grammar.specs.Doctype as dtd
use Rattle.rox_grammar.specs.Due.{DueItem, a_byte, a_name, IsMissing, none_left, DueInXmlDecl, DueInLiteral, DueInExternalID, DueInEntity, DueInDoctype, none_of}
use Rattle.rox_faults.proofs.DueForms.{a_space, a_quote, a_definition, subset_or_end, doctype_end, quote_defines, letter_defines, subset_or_end_is, end_is}
use Rattle.rox_grammar.specs.Due as due
use Rattle.rox_grammar.specs.Faults.{in_one, one_too_many}
use Rattle.rox_grammar.specs.FaultsWithDoctype.{InDoctype, head_lacks, no_name, not_passed, in_entity, entity_open, entity_cut, in_answer, end_lacks, unknown, no_root, in_subset, in_miscs}
use Rattle.rox_reading.proofs.Forests.{join_assoc, merge-more}
use Rattle.rox_theory.specs.Answers.{SameAnswers}
use Rattle.rox_theory.proofs.Basics.{within, run_end_le}
use Rattle.rox_theory.proofs.CharTexts.{cut_behind}
use Rattle.rox_theory.proofs.Places.{begins_within}
use Rattle.rox_theory.proofs.DeclarationLemmas.{stands_reads}
use Rattle.rox_theory.proofs.LiteralLemmas.{quote_ascii}
use Rattle.rox_theory.proofs.DoctypeParts.{begins_parts, DeclarationParts, declaration_parts, CutsNotation, cuts_name, asks_parts, doctype_parts}
use Rattle.rox_theory.proofs.DoctypeLemmas.{quoted_closes, quoted_cut, word_cut, six_cut, external_cut, external_byte, HeadCuts, head_cuts}
use Rattle.rox_faults.proofs.FaultApart.{name_stands, byte_stands, space_stands, misc_begins, misc_apart}
use Rattle.rox_faults.proofs.FaultPairs.{declaration_apart, quote_stands}
use Rattle.rox_faults.proofs.FaultMisc.{one_item}
use Rattle.rox_faults.proofs.SubsetFronts.{OpensItem, misc_opens, item_less, entity_less, passed_less, space_once, quoted_once, quoted_no_external, kind_once, external_once, begins_once, doctype_once, definition_end, item_there, passed_there, entity_there, nothing_there, Front, subset_front}
use Rattle.rox_faults.proofs.FaultLimits.{IsOver, nodes_over}

-- The text of an answer that gives one has no fault in its declaration.
gives_apart : (answer : List ℕ) (given : Option (List ℕ)) (text : Option Replacement) (q : ℕ) (t : DueItem) (f : Fault) → Some answer ≡ given → GivesReplacement given text → at word.XmlDeclStart answer (after_bom answer) ≡ true
    → DueInXmlDecl answer (after_bom answer) q t → IsMissing answer q t f → ⊥
gives_apart answer given text q t f same nothing opens due' lack = cc same
gives_apart answer given text q t f same (the_rest other d utf8 may) opens due' lack =
    let e : answer ≡ other = cc same in
    declared_apart d may (subst (λ (a : List ℕ). at word.XmlDeclStart a (after_bom a) ≡ true) e opens) (subst (λ (a : List ℕ). DueInXmlDecl a (after_bom a) q t) e due') (subst (λ (a : List ℕ). IsMissing a q t f) e lack)
  where
    declared_apart : (d : ℕ) → MayHaveXmlDecl other (after_bom other) d → at word.XmlDeclStart other (after_bom other) ≡ true → DueInXmlDecl other (after_bom other) q t → IsMissing other q t f → ⊥
    declared_apart d (declared _ _ is) opens due' lack = declaration_apart other utf8 (after_bom other) d q t f is due' lack
    declared_apart d (not_declared _ none) opens due' lack = true≢false (sym opens ∙ none)

module _ (src : List ℕ) (utf8 : IsUtf8 src) where
  -- ---- within a declaration of an entity

  -- White space that is required and is there.
  spaced : (p j : ℕ) (f : Fault) → IsCharBoundary src p → IsSpace src p j → IsMissing src p a_space f → ⊥
  spaced p j f cut is lack = space_stands src utf8 p f cut (let some = is.0 in let all = is.1 in omega arith) lack

  -- The quote that ends a literal.
  closing_apart : (i e j : ℕ) (f : Fault) → IsQuoted src i e j → IsMissing src (byte_from (λ c. c == byte src i) src (i + 1)) (a_byte (byte src i)) f → ⊥
  closing_apart i e j f is lack = grind (arith, quoted_closes)

  literal_apart : (p s e j q : ℕ) (t : DueItem) (f : Fault) → IsCharBoundary src p → IsSpace src p s → IsQuoted src s e j → DueInLiteral src p q t → IsMissing src q t f → ⊥
  literal_apart p s e j q t f cut sp is due.DueInLiteral.space_before lack = spaced p s f cut sp lack
  literal_apart p s e j q t f cut sp is (due.DueInLiteral.its_quote _ sp') lack = quote_stands src s f is.0 (subst (λ (s : ℕ). IsMissing src s a_quote f) (space_once src p q s sp' sp) lack)
  literal_apart p s e j q t f cut sp is (due.DueInLiteral.its_end s' sp' quote) lack =
      closing_apart s e j f is (subst (λ (s : ℕ). IsMissing src (byte_from (λ c. c == byte src s) src (s + 1)) (a_byte (byte src s)) f) (space_once src p s' s sp' sp) lack)

  -- No external id begins with both words.
  not_both : (i : ℕ) → at word.System src i ≡ true → at word.Public src i ≡ true → ⊥
  not_both i s p =
      let a : byte src (i + 0) ≡ 83 = stands_reads (word_text word.System) src i 0 s (omega arith) in
      let b : byte src (i + 0) ≡ 80 = stands_reads (word_text word.Public) src i 0 p (omega arith) in
      absurd (omega arith)

  external_apart : (i j p : ℕ) (request : Request) (t : DueItem) (f : Fault) → IsExternalID src i request j → DueInExternalID src i p t → IsMissing src p t f → ⊥
  external_apart i j p request t f (system _ s e _ is sp q) (due.DueInExternalID.first _ _ which due') lack =
      literal_apart (i + 6) s e j p t f (six_cut word.System src i 77 utf8 is (omega arith) refl (omega arith) (omega arith)) sp q due' lack
  external_apart i j p request t f (system _ s e _ is sp q) (due.DueInExternalID.second _ _ _ _ _ other _ _ _) lack = not_both i is other
  external_apart i j p request t f (public _ s d k v e _ is sp q sp' q') (due.DueInExternalID.first _ _ which due') lack =
      literal_apart (i + 6) s d k p t f (six_cut word.Public src i 67 utf8 is (omega arith) refl (omega arith) (omega arith)) sp q due' lack
  external_apart i j p request t f (public _ s d k v e _ is sp q sp' q') (due.DueInExternalID.second s' d' k' _ _ other space' first due') lack =
      let same = (quoted_once src s d' k' d k (subst (λ (s : ℕ). IsQuoted src s d' k') (space_once src (i + 6) s' s space' sp) first) q).1 in
      literal_apart k v e j p t f (quoted_cut src s d k utf8 q) sp' q' (subst (λ (k : ℕ). DueInLiteral src k p t) same due') lack

  -- Where something is required in an external id, one begins.
  external_due : (i p : ℕ) (t : DueItem) → DueInExternalID src i p t → (at word.System src i ≡ true) ⊎ (at word.Public src i ≡ true)
  external_due i p t h = grind arith

  -- With one of two letters.
  word_byte : (i : ℕ) → (at word.System src i ≡ true) ⊎ (at word.Public src i ≡ true) → (byte src i ≡ 83) ⊎ (byte src i ≡ 80)
  word_byte i (inl s) = let zero : i + 0 ≡ i = omega arith in let b : byte src (i + 0) ≡ 83 = stands_reads (word_text word.System) src i 0 s (omega arith) in inl (rw zero at b)
  word_byte i (inr p) = let zero : i + 0 ≡ i = omega arith in let b : byte src (i + 0) ≡ 80 = stands_reads (word_text word.Public) src i 0 p (omega arith) in inr (rw zero at b)

  -- Which is not a quote.
  letter_no_quote : (i : ℕ) → (byte src i ≡ 83) ⊎ (byte src i ≡ 80) → (byte src i ≡ 39) ⊎ (byte src i ≡ 34) → ⊥
  letter_no_quote i h k = omega arith

  -- A definition that is required and is there.
  definition_stands : (i j : ℕ) (parameter : Bool) (asked : List Asked) (text : Option Replacement) (f : Fault) → IsDefinition src parameter i j asked text → IsMissing src i a_definition f → ⊥
  definition_stands i j parameter asked text f (internal _ e _ q) (none_of _ below none) = true≢false (sym (quote_defines (byte src i) q.0) ∙ none)
  definition_stands i j parameter asked text f (internal _ e _ q) (due.IsMissing.no_external_id which no_system no_public) = letter_no_quote i which q.0
  definition_stands i j parameter asked text f (internal _ e _ q) (none_left _ past) = let some = (quote_ascii (byte src i) q.0) in let l = within src i (λ z. omega arith) in absurd (omega arith)
  definition_stands i j parameter asked text f (external _ n _ request answer _ is may gives) (none_of _ below none) = true≢false (sym (letter_defines (byte src i) (external_byte src i request n is)) ∙ none)
  definition_stands i j parameter asked text f (external _ n _ request answer _ (system _ s e _ is sp q) may gives) (due.IsMissing.no_external_id which no_system no_public) = true≢false (sym is ∙ no_system)
  definition_stands i j parameter asked text f (external _ n _ request answer _ (public _ s d k v e _ is sp q sp' q') may gives) (due.IsMissing.no_external_id which no_system no_public) = true≢false (sym is ∙ no_public)
  definition_stands i j parameter asked text f (external _ n _ request answer _ is may gives) (none_left _ past) = let l = (external_cut src i request n utf8 is).2 in absurd (omega arith)

  -- What is required in its literal.
  in_literal : (i j : ℕ) (parameter : Bool) (asked : List Asked) (text : Option Replacement) (f : Fault) → IsDefinition src parameter i j asked text → (byte src i ≡ 39) ⊎ (byte src i ≡ 34)
      → IsMissing src (byte_from (λ c. c == byte src i) src (i + 1)) (a_byte (byte src i)) f → ⊥
  in_literal i j parameter asked text f (internal _ e _ q) quote lack = closing_apart i e j f q lack
  in_literal i j parameter asked text f (external _ n _ request answer _ is may gives) quote lack = letter_no_quote i (external_byte src i request n is) quote

  -- Or in its external id.
  in_external : (i j p : ℕ) (parameter : Bool) (asked : List Asked) (text : Option Replacement) (t : DueItem) (f : Fault) → IsDefinition src parameter i j asked text → DueInExternalID src i p t → IsMissing src p t f → ⊥
  in_external i j p parameter asked text t f (internal _ e _ q) due' lack = letter_no_quote i (word_byte i (external_due i p t due')) q.0
  in_external i j p parameter asked text t f (external _ n _ request answer _ is may gives) due' lack = external_apart i n p request t f is due' lack

  -- The notation that is after an external id.
  notation_there : (d e n : ℕ) (parameter : Bool) (asked : List Asked) (text : Option Replacement) (request : Request) → parameter ≡ false → IsDefinition src parameter d e asked text → IsExternalID src d request n
      → at word.NData src (spaces_end src n) ≡ true → (s : ℕ) × IsSpace src (spaces_end src n + 5) s × IsName src s e
  notation_there d e n parameter asked text request general (internal _ c _ q) external' opens = absurd (quoted_no_external src d c e n request q external')
  notation_there d e n parameter asked text request general (external _ m _ other answer _ is may gives) external' opens =
      let same = (external_once src utf8 d n m request other external' is).1 in
      found parameter m e general (subst (λ (n : ℕ). at word.NData src (spaces_end src n) ≡ true) same opens) (sym same) may
    where
      found : (parameter : Bool) (m e : ℕ) → parameter ≡ false → at word.NData src (spaces_end src m) ≡ true → m ≡ n → MayHaveNotation src parameter m e → (s : ℕ) × IsSpace src (spaces_end src n + 5) s × IsName src s e
      found parameter m e general opens same (notation _ s _ is sp name) = (s, subst (λ (m : ℕ). IsSpace src (spaces_end src m + 5) s) same sp, name)
      found parameter m e general opens same (no_notation _ none) = absurd (true≢false (sym opens ∙ none))
      found parameter m e general opens same (dtd.MayHaveNotation.of_parameter _) = cc general

  -- So in a declaration of an entity nothing that is required lacks.
  module _ (i j : ℕ) (asked : List Asked) (es : List Entity) (b : DeclarationParts src i j asked es) where
    cuts : HeadCuts src i b.parameter b.n b.m b.d b.head
    cuts = head_cuts src i b.parameter b.n b.m b.d utf8 b.head

    -- Its definition, where another says that it begins.
    defines : (n m d : ℕ) (parameter : Bool) → BeginsEntity src i parameter n m d → IsDefinition src parameter d b.e asked b.text
    defines n m d parameter begins = grind (arith, begins_once src utf8 i b.n b.m b.d n m d b.parameter parameter b.begins begins)

    -- White space after `%`.
    kind_spaced : (k n : ℕ) (parameter : Bool) (f : Fault) → dtd.IsKind src k parameter n → byte src k ≡ 37 → IsMissing src (k + 1) a_space f → ⊥
    kind_spaced k n parameter f (dtd.IsKind.of_parameter _ _ is sp) percent lack = spaced (k + 1) n f (cut_behind src k 37 (k + 1) utf8 is (omega arith) (omega arith) refl) sp lack
    kind_spaced k n parameter f (dtd.IsKind.general _ apart) percent lack = apart percent

    pub entity_apart : (q : ℕ) (t : DueItem) (f : Fault) → DueInEntity src i q t → IsMissing src q t f → ⊥
    entity_apart q t f due.DueInEntity.space_before lack = spaced (i + 8) b.head.k f cuts.at_word b.head.space_before lack
    entity_apart q t f (due.DueInEntity.space_of_kind k sp percent) lack = grind (arith, kind_spaced)
    entity_apart q t f (due.DueInEntity.its_name k _ parameter sp kind) lack = name_stands src b.n b.m f b.head.name (subst (λ (q : ℕ). IsMissing src q a_name f) (name_there k q parameter sp kind) lack)
      where
        name_there : (k n : ℕ) (parameter : Bool) → IsSpace src (i + 8) k → dtd.IsKind src k parameter n → n ≡ b.n
        name_there k n parameter sp kind =
            let same = space_once src (i + 8) k b.head.k sp b.head.space_before in
            (kind_once src utf8 b.head.k n b.n parameter b.parameter (subst (λ (k : ℕ). dtd.IsKind src k parameter n) same kind) b.head.is_kind).1
    entity_apart q t f (due.DueInEntity.space_behind k n _ parameter sp kind name) lack =
        let same = space_once src (i + 8) k b.head.k sp b.head.space_before in
        let at_name = (kind_once src utf8 b.head.k n b.n parameter b.parameter (subst (λ (k : ℕ). dtd.IsKind src k parameter n) same kind) b.head.is_kind).1 in
        let end : q ≡ b.m = name.longest ∙ ap (λ (n : ℕ). run_end is_name_char src n) at_name ∙ sym b.head.name.longest in
        spaced b.m b.d f cuts.behind_name b.head.space_behind (subst (λ (q : ℕ). IsMissing src q a_space f) end lack)
    entity_apart q t f (due.DueInEntity.its_definition parameter n m _ begins) lack = definition_stands q b.e parameter asked b.text f (defines n m q parameter begins) lack
    entity_apart q t f (due.DueInEntity.its_literal parameter n m d begins quote) lack = in_literal d b.e parameter asked b.text f (defines n m d parameter begins) quote lack
    entity_apart q t f (due.DueInEntity.its_external_id parameter n m d _ _ begins due') lack = in_external d b.e q parameter asked b.text t f (defines n m d parameter begins) due' lack
    entity_apart q t f (due.DueInEntity.space_of_notation n m d e request begins is opens) lack =
        let there = notation_there d b.e e false asked b.text request refl (defines n m d false begins) is opens in
        spaced (spaces_end src e + 5) there.0 f (notation_cut e opens) there.1 lack
      where
        notation_cut : (e : ℕ) → at word.NData src (spaces_end src e) ≡ true → IsCharBoundary src (spaces_end src e + 5)
        notation_cut e opens =
            subst (IsCharBoundary src) (omega arith) (word_cut word.NData src (spaces_end src e) 4 65 utf8 opens (omega arith) refl (omega arith) (omega arith))
    entity_apart q t f (due.DueInEntity.its_notation n m d e _ request begins is opens sp inside) lack =
        let there = notation_there d b.e e false asked b.text request refl (defines n m d false begins) is opens in
        name_stands src q b.e f (subst (λ (s : ℕ). IsName src s b.e) (space_once src (spaces_end src e + 5) there.0 q there.1 sp) there.2) lack

    -- The `>` after its definition.
    pub end_stands : (n m d e : ℕ) (parameter : Bool) (first : List Asked) (text : Option Replacement) (f : Fault) → BeginsEntity src i parameter n m d → IsDefinition src parameter d e first text
        → IsMissing src (spaces_end src e) (a_byte 62) f → ⊥
    end_stands n m d e parameter first text f begins definition lack = grind (arith, definition_end src utf8 parameter d e b.e first asked text b.text definition (defines n m d parameter begins), byte_stands)

    -- It is not cut off after what it asks, nor before the name of its notation.
    pub not_cut : (n m d e j : ℕ) (parameter : Bool) (request : Request) → BeginsEntity src i parameter n m d → IsExternalID src d request e → MayHaveNotation src parameter e j ⊎ CutsNotation src parameter e j → length src ≤ j → ⊥
    not_cut n m d e j parameter request begins is (inl may) past =
        let asks : IsDefinition src parameter d j (record { request = request; answer = None } ∷ []) None = external d e j request None None is may nothing in
        let same = definition_end src utf8 parameter d j b.e (record { request = request; answer = None } ∷ []) asked None b.text asks (defines n m d parameter begins) in
        let l = within src (spaces_end src b.e) (λ z. omega arith) in
        absurd (omega (arith, run_end_le is_space src b.e))
    not_cut n m d e j parameter request begins is (inr (cuts_name _ _ opens space _)) past =
        let there = notation_there d b.e e false asked b.text request refl (defines n m d false begins) is opens in
        let l = begins_within is_name_start src there.0 there.2.starts in
        absurd (omega arith)

    -- Nor is the declaration of its answer at fault.
    pub answer_apart : (n m d e q : ℕ) (parameter : Bool) (request : Request) (answer : List ℕ) (later : List Asked) (t : DueItem) (f : Fault) → BeginsEntity src i parameter n m d → IsExternalID src d request e
        → SameAnswers (record { request = request; answer = Some answer } ∷ []) (asked ++ later) → at word.XmlDeclStart answer (after_bom answer) ≡ true
        → DueInXmlDecl answer (after_bom answer) q t → IsMissing answer q t f → ⊥
    answer_apart n m d e q parameter request answer later t f begins is same opens due' lack = by_definition b.e b.text asked (defines n m d parameter begins) same
      where
        by_definition : (x : ℕ) (text : Option Replacement) (first : List Asked) → IsDefinition src parameter d x first text → SameAnswers (record { request = request; answer = Some answer } ∷ []) (first ++ later) → ⊥
        by_definition x text first (internal _ c _ quoted) same = quoted_no_external src d c x e request quoted is
        by_definition x text first (external _ y _ other given _ is' may gives) same = gives_apart answer given text q t f same.0 gives opens due' lack

  -- ---- up to the subset

  head_apart : (i s p : ℕ) (t : DueItem) (f : Fault) → BeginsDoctype src i s → (byte src s ≡ 62) ⊎ (byte src s ≡ 91) → DueInDoctype src i p t → IsMissing src p t f → ⊥
  head_apart i s p t f is ends due.DueInDoctype.space_before lack =
      let b = doctype_parts is in
      let cut = subst (IsCharBoundary src) (omega arith) (word_cut word.DoctypeStart src i 8 69 utf8 b.opens (omega arith) refl (omega arith) (omega arith)) in
      spaced (i + 9) b.n f cut b.space_before lack
  head_apart i s p t f is ends (due.DueInDoctype.its_name _ sp inside) lack =
      let b = doctype_parts is in
      name_stands src p b.m f (subst (λ (n : ℕ). IsName src n b.m) (space_once src (i + 9) b.n p b.space_before sp) b.name) lack
  head_apart i s p t f is ends (due.DueInDoctype.its_external_id n m _ _ sp name due') lack =
      let b = doctype_parts is in
      let end : m ≡ b.m = name.longest ∙ ap (λ (n : ℕ). run_end is_name_char src n) (space_once src (i + 9) n b.n sp b.space_before) ∙ sym b.name.longest in
      by_external (spaces_end src b.m) b.x b.external (subst (λ (m : ℕ). DueInExternalID src (spaces_end src m) p t) end due')
    where
      by_external : (x y : ℕ) → MayHaveExternalID src x y → DueInExternalID src x p t → ⊥
      by_external x y (external_id _ _ request is) due' = external_apart x y p request t f is due' lack
      by_external x y (no_external_id _ no_system no_public) due' = elim (external_due x p t due') as (λ _. ⊥) [ inl is ↦ true≢false (sym is ∙ no_system) | inr is ↦ true≢false (sym is ∙ no_public) ]
  head_apart i s p t f b ends (due.DueInDoctype.its_end _ b') lack = lack_apart f (subst (λ (p : ℕ). IsMissing src p subset_or_end f) (doctype_once src utf8 i p s b' b) lack)
    where
      lack_apart : (f : Fault) → IsMissing src s subset_or_end f → ⊥
      lack_apart f (none_of _ below none) = true≢false (sym (subset_or_end_is (byte src s) ends) ∙ none)
      lack_apart f (none_left _ past) = elim ends as (λ _. ⊥) [ inl c ↦ (let l = within src s (λ z. omega arith) in omega arith) | inr o ↦ (let l = within src s (λ z. omega arith) in omega arith) ]

  -- How one begins.
  head_there : (i j : ℕ) (nodes : Forest Item) (asked : List Asked) (es : List Entity) → IsDoctype src i j nodes asked es → (s : ℕ) × BeginsDoctype src i s × ((byte src s ≡ 62) ⊎ (byte src s ≡ 91))
  head_there i j nodes asked es h = grind arith

  -- It is not cut off before its name.
  head_not_cut : (i s n : ℕ) → BeginsDoctype src i s → IsSpace src (i + 9) n → length src ≤ n → ⊥
  head_not_cut i s n is sp past = grind (arith, begins_within)

  -- ---- within the subset

  -- The items up to p, and those that are left up to the `]`.
  record Closed (p : ℕ) (items nodes : Forest Item) (asked given more : List Asked) : Type 0 where
    k : ℕ
    bracket : byte src k ≡ 93
    closes : byte src (spaces_end src (k + 1)) ≡ 62
    es : List Entity
    fs : List Entity
    front : Front src utf8 k bracket p items nodes asked given more es fs

  closed_there : (i j p : ℕ) (items nodes : Forest Item) (asked given more : List Asked) (es : List Entity) → IsDoctype src i j nodes given es → SubsetTo src i p items asked → SameAnswers (asked ++ more) given
      → Closed p items nodes asked given more
  closed_there i j p items nodes asked given more es (no_subset _ s begins closes) (subset_to t first begins' opens' read') same = grind (arith, doctype_once)
  closed_there i j p items nodes asked given more es (with_subset _ s k _ _ _ begins opens subset bracket closes) (subset_to t first begins' opens' read') same =
      let read : Subset src (s + 1) p items asked first = subst (λ (s : ℕ). Subset src (s + 1) p items asked first) (doctype_once src utf8 i t s begins' begins) read' in
      record { k = k; bracket = bracket; closes = closes; es = first; fs = es; front = subset_front src utf8 k bracket (s + 1) p items nodes asked given more first es read subset same }

  -- A fault in it is that of a limit.
  pub in_doctype_apart : (W : Type 0) (limit i j : ℕ) (before nodes after : Forest Item) (asked given : List Asked) (es : List Entity) (source : List ℕ) (f : Fault) → IsDoctype src i j nodes given es
      → (W → 1 + size (merge (join before (join nodes after))) ≤ limit) → SameAnswers asked given → InDoctype limit src i before asked source f → IsOver W f
  in_doctype_apart W limit i j before nodes after asked given es source f is few same (head_lacks _ (p, t, due', lack)) = let h = head_there i j nodes given es is in absurd (head_apart i h.0 p t f h.1 h.2 due' lack)
  in_doctype_apart W limit i j before nodes after asked given es source f is few same (no_name n sp past) = let h = head_there i j nodes given es is in absurd (head_not_cut i h.0 n h.1 sp past)
  in_doctype_apart W limit i j before nodes after asked given es source f is few same (in_subset p items _ _ _ _ to fits (in_miscs _ (in_one _ ill))) =
      let c = closed_there i j p items nodes asked given [] es is to (subst (λ (a : List Asked). SameAnswers a given) (sym (append-nil asked)) same) in
      let r = c.front in
      let there = item_there src utf8 c.k c.bracket p r.rest r.more r.gs r.left (misc_begins src utf8 p f ill) in
      absurd (misc_apart src utf8 p there.0 there.1 f there.3 ill)
  in_doctype_apart W limit i j before nodes after asked given es source f is few same (in_subset p items _ _ _ _ to fits (in_miscs _ (one_too_many q item one over))) =
      let c = closed_there i j p items nodes asked given [] es is to (subst (λ (a : List Asked). SameAnswers a given) (sym (append-nil asked)) same) in
      let r = c.front in
      let there = item_there src utf8 c.k c.bracket p r.rest r.more r.gs r.left (misc_opens src p q item one) in
      let item_is = (one_item src utf8 p q there.0 item there.1 one there.3).1 in
      let front = join (join before items) (leaf item) in
      let others = join there.2 after in
      let whole : join before (join nodes after) ≡ join front others = grind (arith, join_assoc) in
      let less = merge-more front others in
      nodes_over W (λ w. (let all : 1 + size (merge (join front others)) ≤ limit = subst (λ (t : Forest Item). 1 + size (merge t) ≤ limit) whole (few w) in omega arith))
  in_doctype_apart W limit i j before nodes after asked given es source f is few same (in_subset p items _ _ _ _ to fits (not_passed opens past)) =
      let c = closed_there i j p items nodes asked given [] es is to (subst (λ (a : List Asked). SameAnswers a given) (sym (append-nil asked)) same) in
      let r = c.front in
      let there = passed_there src utf8 c.k c.bracket p r.rest r.more r.gs r.left opens in
      absurd (omega arith)
  in_doctype_apart W limit i j before nodes after asked given es source f is few same (in_subset p items _ _ _ _ to fits (in_entity _ opens (q, t, due', lack))) =
      let c = closed_there i j p items nodes asked given [] es is to (subst (λ (a : List Asked). SameAnswers a given) (sym (append-nil asked)) same) in
      let r = c.front in
      let there = entity_there src utf8 c.k c.bracket p r.rest r.more r.gs r.left opens in
      absurd (entity_apart p there.0 there.1 there.3 (declaration_parts there.5) q t f due' lack)
  in_doctype_apart W limit i j before nodes after asked given es source f is few same (in_subset p items before' _ _ _ to fits (entity_open n m d e parameter first text _ begins definition lack)) =
      let c = closed_there i j p items nodes before' given first es is to same in
      let r = c.front in
      let there = entity_there src utf8 c.k c.bracket p r.rest r.more r.gs r.left (begins_parts begins).opens in
      absurd (end_stands p there.0 there.1 there.3 (declaration_parts there.5) n m d e parameter first text f begins definition lack)
  in_doctype_apart W limit i j before nodes after asked given es source f is few same (in_subset p items before' _ _ _ to fits (entity_cut x request answer text asks past gives)) =
      let w = asks_parts asks in
      let c = closed_there i j p items nodes before' given (record { request = request; answer = answer } ∷ []) es is to same in
      let r = c.front in
      let there = entity_there src utf8 c.k c.bracket p r.rest r.more r.gs r.left (begins_parts w.begins).opens in
      absurd (not_cut p there.0 there.1 there.3 (declaration_parts there.5) w.n w.m w.d w.e x w.parameter request w.begins w.external w.notation past)
  in_doctype_apart W limit i j before nodes after asked given es source f is few same (in_subset p items before' _ _ _ to fits (in_answer x request answer _ asks text opens (q, t, due', lack))) =
      let w = asks_parts asks in
      let c = closed_there i j p items nodes before' given (record { request = request; answer = Some answer } ∷ []) es is to same in
      let r = c.front in
      let there = entity_there src utf8 c.k c.bracket p r.rest r.more r.gs r.left (begins_parts w.begins).opens in
      absurd (answer_apart p there.0 there.1 there.3 (declaration_parts there.5) w.n w.m w.d w.e q w.parameter request answer there.2 t f w.begins w.external (subst (SameAnswers (record { request = request; answer = Some answer } ∷ [])) there.7 r.same) opens due' lack)
  in_doctype_apart W limit i j before nodes after asked given es source f is few same (in_subset p items _ _ _ _ to fits (end_lacks _ bracket lack)) =
      let c = closed_there i j p items nodes asked given [] es is to (subst (λ (a : List Asked). SameAnswers a given) (sym (append-nil asked)) same) in
      let r = c.front in
      let at_end = ended p c.k r.rest r.more r.gs c.bracket r.left bracket in
      absurd (lack_apart (spaces_end src (c.k + 1)) f (subst (λ (p : ℕ). IsMissing src (spaces_end src (p + 1)) doctype_end f) at_end lack) c.closes)
    where
      -- Nothing that a subset holds begins with a bracket.
      ended : (p k : ℕ) (rest : Forest Item) (more : List Asked) (gs : List Entity) → byte src k ≡ 93 → Subset src p k rest more gs → byte src p ≡ 93 → p ≡ k
      ended p k rest more gs end left here =
          let b : is_space (byte src p) ≡ is_space 93 = ap is_space here in
          nothing_there src utf8 k end p rest more gs left b (λ is. absurd (let l = item_less src p is in omega arith)) (λ is. absurd (let l = passed_less src p is in omega arith))
          (false_from_ne_true _ (λ is. absurd (let l = entity_less src p is in omega arith)))

      lack_apart : (p : ℕ) (f : Fault) → IsMissing src p doctype_end f → byte src p ≡ 62 → ⊥
      lack_apart p f (none_of _ below none) closes = true≢false (sym (end_is (byte src p) closes) ∙ none)
      lack_apart p f (none_left _ past) closes = let l = within src p (λ z. omega arith) in absurd (omega arith)
  in_doctype_apart W limit i j before nodes after asked given es source f is few same (in_subset p items _ _ _ _ to fits (unknown no_space no_entity no_comment no_instruction no_declaration no_bracket inside)) =
      let c = closed_there i j p items nodes asked given [] es is to (subst (λ (a : List Asked). SameAnswers a given) (sym (append-nil asked)) same) in
      let r = c.front in
      let at_end = nothing_there src utf8 c.k c.bracket p r.rest r.more r.gs r.left no_space no_item no_declaration no_entity in
      absurd (no_bracket (ap (byte src) at_end ∙ c.bracket))
    where
      no_item : OpensItem src p → ⊥
      no_item (inl is) = true≢false (sym is ∙ no_comment)
      no_item (inr is) = true≢false (sym is ∙ no_instruction)
  in_doctype_apart W limit i j before nodes after asked given es source f is few same (in_subset p items _ _ _ _ to fits (no_root ends solid)) = grind (arith, closed_there i j p items nodes asked given [] es is to (subst (λ (a : List Asked). SameAnswers a given) (sym (append-nil asked)) same), within, nothing_there, item_less, passed_less, entity_less)
