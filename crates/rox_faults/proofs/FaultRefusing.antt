-- A refusal that is in a text refuses its parses within the limits, where the answers are the same as far as both go; and all of
-- its parses if it is not that of a limit.
use Rattle.std.proofs.Common.{◌≡◌, ℕ, zero, suc, ◌+◌, ◌-◌, ◌<◌, ◌≤◌, Bool, true, false, List, [], length, Some, refl, sym, ap, ◌∙◌, subst, arith, inl, inr, IsUtf8, true≢false}
use Rattle.rox_grammar.specs.declared.fault.Fault.{Fault}
use Rattle.rox_grammar.specs.declared.fault.Word.TheVariants as word
use Rattle.rox_grammar.specs.TextStart.{after_bom, MayHaveXmlDecl, declared, not_declared}
use Rattle.rox_grammar.specs.Due.{DueItem, IsMissing, DueInXmlDecl}
use Rattle.rox_grammar.specs.Forest.{Forest, Nil, join, size}
use Rattle.rox_grammar.specs.Written.{Item, merge, leaf}
use Rattle.rox_grammar.specs.Names.{byte}
use Rattle.rox_grammar.specs.Constructs.{AreChars}
use Rattle.rox_grammar.specs.FixedTexts.{at}
use Rattle.rox_grammar.specs.Content.{Inclusion, Value, Content}
use Rattle.rox_grammar.specs.Entities.{Replacement, Entity, text_of, Spends, no_entities, Includes, most_deep, included_in_main}
use Rattle.rox_grammar.specs.Doctype.{Asked}
use Rattle.rox_grammar.proofs.CountForms.{limits_counted}
use Rattle.rox_grammar.specs.Document.{DocumentTo, Misc, no_misc, an_item, ParseOf, IsWithinLimits, Permits, PrologTo}
use Rattle.rox_theory.specs.ParseParts.{MayHaveDoctype, doctype, no_doctype}
use Rattle.rox_grammar.specs.State as grammar
use Rattle.rox_grammar.specs.State.{root}
use Rattle.rox_grammar.specs.ContentPoints.{is_main, MayOpen, RootBegins, ContentPoint, begins, goes, enters}
use Rattle.rox_grammar.specs.Faults.{FaultFrom, no_root, unknown_ahead, at_place, in_value, unknown_behind, in_one, misc_around, one_too_many, at_point}
use Rattle.rox_grammar.specs.FaultsWithDoctype.{InDoctype, opens_at, RefusalOf, in_declaration, without, not_allowed, in_doctype, behind}
use Rattle.rox_reading.specs.WholeText.{prolog}
use Rattle.rox_reading.proofs.Forests.{join_assoc, merge-more}
use Rattle.rox_theory.specs.Answers.{SameAnswers}
use Rattle.rox_theory.specs.Openers.{AreTexts}
use Rattle.rox_theory.specs.ValidState.{IsValidState, state}
use Rattle.rox_theory.proofs.Constructions.{doctype_bytes}
use Rattle.rox_theory.proofs.Tops.{tops_merged}
use Rattle.rox_theory.proofs.Once.{opens_once}
use Rattle.rox_theory.proofs.Around.{Stops, no_spaces, element_stops, doctype_stops, prolog_complete, doctype_opens}
use Rattle.rox_theory.proofs.DoctypeAgreement.{texts_agree}
use Rattle.rox_theory.proofs.FailedReadings.{ok_one}
use Rattle.rox_faults.proofs.FaultLimits.{IsOver}
use Rattle.rox_faults.proofs.FaultWhole.{ahead_on}
use Rattle.rox_faults.proofs.FaultRefused.{Declared, values_at, contents_at, declared_on}
use Rattle.rox_faults.proofs.FaultPairs.{declaration_apart}
use Rattle.rox_faults.proofs.SubsetFronts.{doctypes_once}
use Rattle.rox_faults.proofs.FaultInDoctype.{in_doctype_apart}
use Rattle.rox_faults.proofs.FaultMisc.{misc_front, misc_at, before_end, other_at, one_misc}
use Rattle.rox_faults.proofs.FaultWay.{OpensAt}
use Rattle.rox_faults.proofs.FaultNever.{Parsed, never, fault_over, no_doctype_there}
use Rattle.rox_theory.proofs.ParseParts.{ParseParts, document_parts, prolog_parts, parts}

-- What is before a place.
place_front : (opens : ℕ → Inclusion) (es : List Entity) (text : List ℕ) (Root : ℕ → Forest Item → Type 0) (k open_around b : ℕ) (src : List ℕ) (s : grammar.State) → ContentPoint opens es text Root k open_around src b s → (p : ℕ) × (items : Forest Item) × Root p items
place_front opens es text Root k open_around b src s (begins p items is) = (p, items, is)
place_front opens es text Root k open_around b src s (goes _ _ d _ _ r _ place takes content deep) = place_front opens es text Root k open_around d src r place
place_front opens es text Root k open_around b src s (enters l other d r source t run place inner named may) = place_front opens es text Root l other d source t place

-- And before a fault.
front_of : (opens : ℕ → Inclusion) (es : List Entity) (limit : ℕ) (text : List ℕ) (behind_dtd : Bool) (PrologAt : ℕ → Forest Item → Type 0) (source : List ℕ) (f : Fault) → FaultFrom opens es limit text behind_dtd PrologAt source f
    → (p : ℕ) × (items : Forest Item) × PrologAt p items
front_of opens es limit text behind_dtd PrologAt source f h = grind (arith, place_front, document_parts)

-- A document type declaration begins where it is.
begins_there : (src : List ℕ) (i p : ℕ) (dtd : Bool) (nodes : Forest Item) (asked : List Asked) (es : List Entity) → dtd ≡ true → MayHaveDoctype src i p dtd nodes asked es → at word.DoctypeStart src i ≡ true
begins_there src i p dtd nodes asked es is k = grind (arith, doctype_opens)

-- No refusal is in a text that has a parse without one, but those of the limits.
plain_over : (limit : ℕ) (allow : Bool) (src source : List ℕ) (asked given : List Asked) (f : Fault) (tree : Forest Item) → IsUtf8 src → RefusalOf limit allow src asked source f → ParseOf src false given tree → IsOver (IsWithinLimits limit tree) f
plain_over limit allow src source asked given f tree utf8 (in_declaration _ is lacks) parse = fault_over limit src f given tree utf8 (in_declaration f is lacks) parse
plain_over limit allow src source asked given f tree utf8 (without _ ill) parse = fault_over limit src f given tree utf8 (without f ill) parse
plain_over limit allow src source asked given f tree utf8 (not_allowed i before _ ahead fits is) parse = absurd (no_doctype_there limit src given tree i before utf8 ahead is parse)
plain_over limit allow src source asked given f tree utf8 (in_doctype i before _ _ _ may ahead fits is ill) parse = absurd (no_doctype_there limit src given tree i before utf8 ahead is parse)
plain_over limit allow src source asked given f tree utf8 (behind _ es _ _ may ill) parse =
    let front = front_of _ es limit src true (Declared src asked es) source f ill in
    let a = prolog_parts src front.0 true front.1 asked es front.2 in
    absurd (no_doctype_there limit src given tree a.begun a.before utf8 a.ahead (begins_there src a.begun front.0 true a.nodes asked es refl a.doctype) parse)

-- ---- before a document type declaration

module _ (limit : ℕ) (src : List ℕ) (utf8 : IsUtf8 src) (given : List Asked) (tree : Forest Item) (p : ParseParts src true given tree) where
  -- It begins where it is.
  begins_here : at word.DoctypeStart src p.begun ≡ true
  begins_here = begins_there src p.begun p.start true p.nodes given p.entities refl p.doctype

  -- A declaration has one end.
  one_declaration : (d : ℕ) → MayHaveXmlDecl src (after_bom src) d → d ≡ p.prolog.0
  one_declaration d may = ok_one d p.prolog.0 (prolog src (after_bom src)) (prolog_complete src utf8 (after_bom src) d may) (prolog_complete src utf8 (after_bom src) p.prolog.0 p.prolog.1)

  -- What is left up to there.
  ahead_rest : (q : ℕ) (items : Forest Item) → PrologTo src q items → (rest : Forest Item) × Misc src q p.begun rest × (p.before ≡ join items rest)
  ahead_rest q items ahead =
      misc_front src utf8 p.prolog.0 q p.begun items p.before (subst (λ (d : ℕ). Misc src d q items) (one_declaration ahead.0 ahead.1) ahead.2) p.prolog.2 (doctype_stops src p.begun begins_here)

  -- The root element does not begin before it.
  no_root_here : (q : ℕ) (items : Forest Item) → PrologTo src q items → Stops src q → at word.DoctypeStart src q ≡ false → ⊥
  no_root_here q items ahead stops none = grind (arith, one_misc, one_declaration, doctype_stops, begins_here)

  no_root_begins : (q : ℕ) (items : Forest Item) → PrologTo src q items → RootBegins false src q → ⊥
  no_root_begins q items ahead root_begins =
      no_root_here q items ahead (record { no_space = no_spaces src q root_begins.0; no_comment = root_begins.1; no_instruction = root_begins.2 }) (root_begins.3 refl)

  no_root_behind : (q : ℕ) (items : Forest Item) → DocumentTo no_entities src (PrologTo src) q items → ⊥
  no_root_behind q items is =
      let back = document_parts is in
      let there = element_stops true no_entities src back.start back.end 255 back.openings_left back.one back.element in
      no_root_here back.start back.before back.ahead there.2 there.1

  -- Where the parse is within the limits all nodes are.
  few_nodes : IsWithinLimits limit tree → 1 + size (merge tree) ≤ limit
  few_nodes few = grind (arith, tops_merged)

  -- No fault is before it but those of the limits.
  ahead_over : (source : List ℕ) (f : Fault) → FaultFrom (λ k. no_entities) [] limit src false (PrologTo src) source f → IsOver (IsWithinLimits limit tree) f
  ahead_over source f (misc_around q items _ (inl ahead) fits (in_one _ ill)) = let r = ahead_rest q items ahead in absurd (misc_at src utf8 q p.begun r.0 f r.1 (doctype_stops src p.begun begins_here) ill)
  ahead_over source f (misc_around q items _ (inl ahead) fits (one_too_many j item is over)) =
      let all = join items (leaf item) in
      let r = ahead_rest j all (ahead_on src utf8 q j items (leaf item) ahead (an_item q j j item Nil is (no_misc j))) in
      let rest = join p.nodes (join p.one p.after) in
      let whole : tree ≡ join all (join r.0 rest) = p.is_tree ∙ ap (λ (f : Forest Item). join f rest) r.2 ∙ join_assoc all r.0 rest in
      let less = merge-more all (join r.0 rest) in
      grind (arith, few_nodes)
  ahead_over source f (no_root items ahead fits) =
      let r = ahead_rest (length src) items ahead in let l = before_end src utf8 (length src) p.begun r.0 r.1 (doctype_bytes src p.begun begins_here).1 in absurd (omega arith)
  ahead_over source f (unknown_ahead q items ahead fits below no_space no_less) =
      let r = ahead_rest q items ahead in absurd (other_at src utf8 q p.begun r.0 r.1 (doctype_bytes src p.begun begins_here).1 no_space no_less)
  ahead_over source f (at_point k open_around b _ s _ _ place fits (at_place _ stands)) =
      let r = place_front (λ k. no_entities) [] src (λ p items. PrologTo src p items × RootBegins false src p) k open_around b source s place in absurd (no_root_begins r.0 r.1 r.2.0 r.2.1)
  ahead_over source f (at_point k open_around b other s _ _ place fits (in_value next l i stop d _ _ opens' is ill)) =
      let r = place_front (λ k. no_entities) [] src (λ p items. PrologTo src p items × RootBegins false src p) k open_around b other s place in absurd (no_root_begins r.0 r.1 r.2.0 r.2.1)
  ahead_over source f (misc_around q items _ (inr back) fits (in_one _ ill)) = absurd (no_root_behind q items back)
  ahead_over source f (misc_around q items _ (inr back) fits (one_too_many j item is over)) = absurd (no_root_behind q items back)
  ahead_over source f (unknown_behind q items back fits below a b c) = absurd (no_root_behind q items back)

  -- Nor in the declaration.
  declaration_never : (q : ℕ) (t : DueItem) (f : Fault) → at word.XmlDeclStart src (after_bom src) ≡ true → DueInXmlDecl src (after_bom src) q t → IsMissing src q t f → ⊥
  declaration_never q t f here' due lack = declared_apart p.prolog.0 p.prolog.1
    where
      declared_apart : (d : ℕ) → MayHaveXmlDecl src (after_bom src) d → ⊥
      declared_apart d (declared _ _ is) = declaration_apart src utf8 (after_bom src) d q t f is due lack
      declared_apart d (not_declared _ none) = true≢false (sym here' ∙ none)

  -- Nor a fault in it, met after the same answers, but those of the limits.
  inside_over : (i : ℕ) (before : Forest Item) (asked : List Asked) (source : List ℕ) (f : Fault) → PrologTo src i before → at word.DoctypeStart src i ≡ true → SameAnswers asked given → InDoctype limit src i before asked source f → IsOver (IsWithinLimits limit tree) f
  inside_over i before asked source f ahead is same ill =
      let there = one_misc src utf8 ahead.0 p.prolog.0 i p.begun before p.before (one_declaration ahead.0 ahead.1) ahead.2 (doctype_stops src i is) p.prolog.2 (doctype_stops src p.begun begins_here) in
      let ill' : InDoctype limit src p.begun p.before asked source f = subst (λ (i : ℕ). InDoctype limit src i p.before asked source f) there.0 (subst (λ (b : Forest Item). InDoctype limit src i b asked source f) (sym there.1) ill) in
      by_doctype p.start true p.nodes given p.entities refl p.doctype (λ few. subst (λ (t : Forest Item). 1 + size (merge t) ≤ limit) p.is_tree (few_nodes few)) same ill'
    where
      by_doctype : (k : ℕ) (dtd : Bool) (nodes : Forest Item) (given : List Asked) (es : List Entity) → dtd ≡ true → MayHaveDoctype src p.begun k dtd nodes given es
          → (IsWithinLimits limit tree → 1 + size (merge (join p.before (join nodes (join p.one p.after)))) ≤ limit) → SameAnswers asked given → InDoctype limit src p.begun p.before asked source f
          → IsOver (IsWithinLimits limit tree) f
      by_doctype k dtd nodes given es has (doctype _ j _ items more _ _ one rest) nodes_few same ill =
          let all : IsWithinLimits limit tree → 1 + size (merge (join p.before (join items (join more (join p.one p.after))))) ≤ limit = grind (arith, join_assoc) in
          in_doctype_apart src utf8 (IsWithinLimits limit tree) limit p.begun j p.before items (join more (join p.one p.after)) asked given es source f one all same ill
      by_doctype k dtd nodes given es has (no_doctype _) nodes_few same ill = cc has

-- ---- after one

-- What is spent may be opened.
may_by : (k b r l c : ℕ) → k < most_deep → Spends (is_main k) b r l c → MayOpen k b r
may_by k b r l c more spends = (more, l, c, spends)

-- What references open, by the entities that are declared.
opened_at : (es : List Entity) (n k b c : ℕ) (name : List ℕ) (items : Forest Item) → n ≡ most_deep - k → (Includes es n (is_main k)).content name b items c
    → (t : Replacement) × (r : ℕ) × (l : ℕ) × (text_of es name ≡ Some t) × MayOpen k b r × Content false (opens_at es (suc k)) t.source t.start (length t.source) r l items
opened_at es zero k b c name items deep h = absurd h
opened_at es (suc n) k b c name items deep (t, r, l, found, spends, content) =
    let less : n ≡ most_deep - suc k = omega arith in
    (t, r, l, found, may_by k b r l c (omega arith) spends, subst (λ (n : ℕ). Content false (Includes es n false) t.source t.start (length t.source) r l items) less content)

given_at : (es : List Entity) (n k b c : ℕ) (name : List ℕ) (v : List ℕ) → n ≡ most_deep - k → (Includes es n (is_main k)).value name b v c
    → (t : Replacement) × (r : ℕ) × (l : ℕ) × (text_of es name ≡ Some t) × MayOpen k b r × AreChars t.source t.start (length t.source) × Value false (opens_at es (suc k)) t.source (length t.source) t.start r l v
given_at es zero k b c name v deep h = absurd h
given_at es (suc n) k b c name v deep (t, r, l, found, spends, chars, value) =
    let less : n ≡ most_deep - suc k = omega arith in
    (t, r, l, found, may_by k b r l c (omega arith) spends, chars, subst (λ (n : ℕ). Value false (Includes es n false) t.source (length t.source) t.start r l v) less value)

declared_opens : (es : List Entity) → AreTexts es → OpensAt (opens_at es) es
declared_opens es texts = grind (arith, values_at, contents_at, opens_once, opened_at, given_at)

module _ (src : List ℕ) (utf8 : IsUtf8 src) where
  -- Of two ways to read a document type declaration and what follows it, with the same answers, one is a front of the other.
  doctype_front : (h i p q : ℕ) (d e : Bool) (xs ys : Forest Item) (a b : List Asked) (es fs : List Entity) → d ≡ true → e ≡ true → h ≡ i → SameAnswers a b → MayHaveDoctype src h p d xs a es → MayHaveDoctype src i q e ys b fs → Stops src q
      → (rest : Forest Item) × Misc src p q rest × (ys ≡ join xs rest) × (es ≡ fs)
  doctype_front h i p q d e xs ys a b es fs has has' begin same (no_doctype _) other stops = cc has
  doctype_front h i p q d e xs ys a b es fs has has' begin same one (no_doctype _) stops = cc has'
  doctype_front h i p q d e xs ys a b es fs has has' begin same (doctype _ j _ items more _ _ one rest) (doctype _ k _ items' more' _ _ one' rest') stops = grind (arith, doctypes_once, misc_front, join_assoc)

module _ (limit : ℕ) (src : List ℕ) (utf8 : IsUtf8 src) (given : List Asked) (tree : Forest Item) (p : ParseParts src true given tree) where
  -- What is before the root element.
  abbrev before_root : Forest Item
  before_root = join p.before p.nodes

  root_stops : (byte src p.start ≡ 60) × (at word.DoctypeStart src p.start ≡ false) × Stops src p.start
  root_stops = element_stops true (included_in_main p.entities) src p.start p.end 255 p.openings_left p.one p.element

  -- The whole as a state has it.
  same_whole : tree ≡ join (join before_root p.one) p.after
  same_whole = p.is_tree ∙ sym (join_assoc p.before p.nodes (join p.one p.after)) ∙ sym (join_assoc before_root p.one p.after)

  -- Which is within the limits where the parse is.
  all_fine : IsWithinLimits limit tree → IsValidState limit (state (length src) (join (join before_root p.one) p.after) root p.openings_left)
  all_fine few =
      let counts = limits_counted limit tree few in
      let whole : IsValidState limit (state (length src) tree root p.openings_left) =
      record { nodes = few_nodes limit src utf8 given tree p few; attributes = counts.attributes; pairs = counts.namespaces; named = p.well_named } in
      subst (λ (f : Forest Item). IsValidState limit (state (length src) f root p.openings_left)) same_whole whole

  -- The entities are text.
  entities_texts : AreTexts p.entities
  entities_texts = texts_agree src utf8 p.begun p.start true p.nodes given p.entities p.doctype

  module _ (asked : List Asked) (same : SameAnswers asked given) where
    -- What is left up to the root element, and the entities are those of the parse.
    declared_rest : (es : List Entity) (q : ℕ) (items : Forest Item) → Declared src asked es q items → ((rest : Forest Item) × Misc src q p.start rest × (before_root ≡ join items rest)) × (es ≡ p.entities)
    declared_rest es q items front =
        let a = prolog_parts src q true items asked es front in
        let begun = one_misc src utf8 a.ahead.0 p.prolog.0 a.begun p.begun a.before p.before (one_declaration limit src utf8 given tree p a.ahead.0 a.ahead.1) a.ahead.2
        (doctype_stops src a.begun (begins_there src a.begun q true a.nodes asked es refl a.doctype)) p.prolog.2 (doctype_stops src p.begun (begins_here limit src utf8 given tree p)) in
        let r = doctype_front src utf8 a.begun p.begun q p.start true true a.nodes p.nodes asked given es p.entities refl refl begun.0 same a.doctype p.doctype root_stops.2 in
        ((r.0, r.1, (grind (arith, join_assoc))), r.3)

    declared_parsed : Parsed (opens_at p.entities) limit (IsWithinLimits limit tree) src (Declared src asked p.entities)
    declared_parsed = grind (arith, declared_rest, declared_on, all_fine, same_whole)

    -- So no fault is after it but those of the limits.
    behind_over : (es : List Entity) (source : List ℕ) (f : Fault) → FaultFrom (opens_at es) es limit src true (Declared src asked es) source f → IsOver (IsWithinLimits limit tree) f
    behind_over es source f ill =
        let front = front_of (opens_at es) es limit src true (Declared src asked es) source f ill in
        never (opens_at p.entities) p.entities (declared_opens p.entities entities_texts) limit (IsWithinLimits limit tree) src utf8 (Declared src asked p.entities) declared_parsed true source f
        (subst (λ (es : List Entity). FaultFrom (opens_at es) es limit src true (Declared src asked es) source f) ((declared_rest es front.0 front.1 front.2).1) ill)

-- A refusal that is in a text that has a parse is that of a limit, and the parse is not within the limits, where what was asked
-- until then had the answers that the parse has.
pub refused_over : (limit : ℕ) (allow dtd : Bool) (src source : List ℕ) (asked given : List Asked) (f : Fault) (tree : Forest Item) → IsUtf8 src → RefusalOf limit allow src asked source f → ParseOf src dtd given tree
    → Permits allow dtd → SameAnswers asked given → IsOver (IsWithinLimits limit tree) f
refused_over limit allow false src source asked given f tree utf8 ill parse permits same = plain_over limit allow src source asked given f tree utf8 ill parse
refused_over limit allow true src source asked given f tree utf8 (in_declaration _ is (q, t, due, lack)) parse permits same = absurd (declaration_never limit src utf8 given tree (parts src true given tree parse) q t f is due lack)
refused_over limit allow true src source asked given f tree utf8 (without _ ill) parse permits same = ahead_over limit src utf8 given tree (parts src true given tree parse) src f ill
refused_over limit allow true src source asked given f tree utf8 (not_allowed i before none ahead fits is) parse permits same = absurd (true≢false (sym (permits refl) ∙ none))
refused_over limit allow true src source asked given f tree utf8 (in_doctype i before _ _ _ may ahead fits is ill) parse permits same = inside_over limit src utf8 given tree (parts src true given tree parse) i before asked source f ahead is same ill
refused_over limit allow true src source asked given f tree utf8 (behind _ es _ _ may ill) parse permits same = behind_over limit src utf8 given tree (parts src true given tree parse) asked same es source f ill

-- So no refusal is in a text that has a parse within the limits.
pub refused_never : (limit : ℕ) (allow dtd : Bool) (src source : List ℕ) (asked given : List Asked) (f : Fault) (tree : Forest Item) → IsUtf8 src → RefusalOf limit allow src asked source f → ParseOf src dtd given tree
    → IsWithinLimits limit tree → Permits allow dtd → SameAnswers asked given → ⊥
refused_never limit allow dtd src source asked given f tree utf8 ill parse few permits same = (refused_over limit allow dtd src source asked given f tree utf8 ill parse permits same).1 few
