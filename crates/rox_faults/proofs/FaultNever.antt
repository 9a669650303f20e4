-- A fault that is in a text refuses it: the text has no parse within the limits, and none at all if the fault is not that of a
-- limit.
use Rattle.std.proofs.Common.{◌≡◌, ℕ, ◌+◌, ◌<◌, ◌≤◌, Bool, true, false, List, [], length, refl, sym, ap, ◌∙◌, subst, arith, inl, inr, IsUtf8, true≢false}
use Rattle.std.proofs.lemmas.Str.{IsCharBoundary-before_ascii}
use Rattle.rox_grammar.specs.declared.fault.Fault.{Fault}
use Rattle.rox_grammar.specs.declared.fault.Word.TheVariants as word
use Rattle.rox_grammar.specs.Forest.{Forest, Nil, join, size}
use Rattle.rox_grammar.specs.Written.{Item, merge, leaf}
use Rattle.rox_grammar.specs.Names.{byte}
use Rattle.rox_grammar.specs.FixedTexts.{at}
use Rattle.rox_grammar.specs.Content.{Inclusion, IsElement}
use Rattle.rox_grammar.proofs.TagParts.{tag_parts}
use Rattle.rox_grammar.specs.TextStart.{after_bom, MayHaveXmlDecl, declared, not_declared}
use Rattle.rox_grammar.specs.Entities.{Entity, no_entities, most_deep}
use Rattle.rox_grammar.specs.Doctype.{Asked}
use Rattle.rox_grammar.proofs.CountForms.{limits_counted}
use Rattle.rox_grammar.specs.Document.{DocumentTo, Misc, no_misc, an_item, ParseOf, IsWithinLimits, PrologTo}
use Rattle.rox_theory.specs.ParseParts.{no_doctype}
use Rattle.rox_grammar.specs.State as grammar
use Rattle.rox_grammar.specs.State.{root}
use Rattle.rox_grammar.specs.ContentPoints.{RootBegins, ContentPoint}
use Rattle.rox_grammar.specs.Faults.{FaultFrom, no_root, unknown_ahead, at_place, in_value, unknown_behind, in_one, misc_around, one_too_many, at_point}
use Rattle.rox_grammar.specs.FaultsWithDoctype.{RefusalOf, FaultOf, without, in_declaration, not_allowed, in_doctype}
use Rattle.rox_grammar.specs.FaultsWithDoctype as rows
use Rattle.rox_reading.specs.State.{State}
use Rattle.rox_reading.specs.Machine.{value_opener}
use Rattle.rox_reading.specs.WholeText.{prolog}
use Rattle.rox_reading.proofs.Forests.{join-nil, join_assoc, merge-more}
use Rattle.rox_theory.specs.Openers.{AgreesValue}
use Rattle.rox_theory.specs.ValidState.{AreNamed, IsValidState, state}
use Rattle.rox_theory.specs.WithoutDoctype.{ParseWithout}
use Rattle.rox_theory.proofs.Without.{parse_without}
use Rattle.rox_theory.proofs.ParseParts.{document_parts}
use Rattle.rox_theory.proofs.Basics.{within}
use Rattle.rox_theory.proofs.Constructions.{a_tag, kind_at, tag_kind, name_byte}
use Rattle.rox_theory.proofs.Leaves.{fine_before, named_before}
use Rattle.rox_theory.proofs.StepLemmas as steps
use Rattle.rox_theory.proofs.Steps.{after}
use Rattle.rox_theory.proofs.Flat.{StepsOver}
use Rattle.rox_theory.proofs.Chains.{root_drives}
use Rattle.rox_theory.proofs.Once.{one_element}
use Rattle.rox_theory.proofs.Tops.{tops_merged}
use Rattle.rox_theory.proofs.Around.{Stops, no_spaces, element_stops, end_stops, prolog_complete}
use Rattle.rox_theory.proofs.FailedReadings.{ok_one}
use Rattle.rox_faults.proofs.FaultLimits.{IsOver}
use Rattle.rox_faults.proofs.FaultPoints.{context_at}
use Rattle.rox_faults.proofs.FaultPlaces.{tagged_takes}
use Rattle.rox_faults.proofs.FaultWhole.{ahead_on}
use Rattle.rox_faults.proofs.FaultPairs.{declaration_apart}
use Rattle.rox_faults.proofs.FaultMisc.{misc_front, misc_at, doctype_at, other_at, before_end, last_at, stopped}
use Rattle.rox_faults.proofs.FaultWay.{state_of, OpensAt, Trail, stays, follows, drives_trail, Reached, place_reached}
use Rattle.rox_faults.proofs.FaultAtPlaces.{stands_apart, value_apart}

-- What a parse is made of, which is within the limits if W is so: what is before the root element, which is known of each point
-- before it, the root element, and what is after it.
pub record Parsed (opens : ℕ → Inclusion) (limit : ℕ) (W : Type 0) (text : List ℕ) (PrologAt : ℕ → Forest Item → Type 0) : Type 0 where
  pub start : ℕ
  pub before : Forest Item
  pub ahead : (p : ℕ) (items : Forest Item) → PrologAt p items → (rest : Forest Item) × Misc text p start rest × (before ≡ join items rest)
  pub on : (p q : ℕ) (items more : Forest Item) → PrologAt p items → Misc text p q more → PrologAt q (join items more)
  pub end : ℕ
  pub openings_left : ℕ
  pub one : Forest Item
  pub element : IsElement true (opens 0) text start end 255 openings_left one
  pub after : Forest Item
  pub misc_after : Misc text end (length text) after
  pub fine : W → IsValidState limit (state (length text) (join (join before one) after) root openings_left)
  pub named : AreNamed root (join (join before one) after)

module _ (opens : ℕ → Inclusion) (es : List Entity) (all : OpensAt opens es) (limit : ℕ) (W : Type 0) (text : List ℕ) (utf8 : IsUtf8 text) where
  abbrev agrees : AgreesValue es (opens 0) (value_opener es most_deep true)
  agrees = all.values most_deep 0 (omega arith)

  -- A construct of the main text moves forward.
  main_moves : (s t : State) → StepsOver true (opens 0) text 0 s t → (s.at < length text) × (s.at < t.at) × (t.at ≤ length text)
  main_moves s t takes = steps.step_moves (context_at limit es most_deep 0 0) (opens 0) agrees (all.contents limit most_deep 0 (omega arith)) text utf8 s t takes

  trail_le : (s u : State) → Trail true (opens 0) text 0 s u → s.at ≤ u.at
  trail_le s u (stays _) = omega arith
  trail_le s u (follows _ t _ takes rest) = omega (arith, main_moves s t takes, trail_le t u rest)

  module _ (PrologAt : ℕ → Forest Item → Type 0) (p : Parsed opens limit W text PrologAt) where
    -- Up to the end of the root element all is within the limits if the whole is.
    end_fine : W → IsValidState limit (state p.end (join p.before p.one) root p.openings_left)
    end_fine w = fine_before limit p.end (length text) p.openings_left p.openings_left (join p.before p.one) p.after root (p.fine w)

    -- Where the root element begins.
    root_at : (byte text p.start ≡ 60) × (at word.DoctypeStart text p.start ≡ false) × Stops text p.start
    root_at = element_stops true (opens 0) text p.start p.end 255 p.openings_left p.one p.element

    -- The way begins there.
    root_reached : Reached opens es all limit W 0 0 text (state p.start p.before root 255)
    root_reached =
        let x = root_drives (opens 0) text p.start p.end 255 p.openings_left p.one p.before p.element in
        let start = state p.start p.before root 255 in
        let end = state p.end (join p.before p.one) root p.openings_left in
        let next = after start x.0 x.2 x.3 x.1 in
        let takes = tagged_takes true (opens 0) text 0 start next (x.0, x.1, x.2, x.3, x.4, refl) in
        let rest = drives_trail (opens 0) text next end x.5 in
        let less = root_at.0 in
        let kind : kind_at text p.start ≡ a_tag = tag_kind text p.start less (name_byte text (p.start + 1) x.2.name x.2.name_end (tag_parts x.4).is_name) in
        record {
          d = most_deep;
          deep = omega arith;
          utf8 = utf8;
          cut = IsCharBoundary-before_ascii text p.start (within text p.start (λ z. omega arith)) (omega arith);
          end = end;
          trail = follows start next end takes rest;
          ends = refl;
          fine = end_fine;
          named = named_before root (join p.before p.one) p.after p.named;
          first = λ top. (omega (arith, (main_moves start next takes).1, trail_le next end rest), kind);
        }

    -- What stops before the root element is there.
    start_there : (i : ℕ) (items : Forest Item) → PrologAt i items → Stops text i → (p.start ≡ i) × (p.before ≡ items)
    start_there i items front stops = grind (arith, stopped, join-nil)

    at_root : (kind : Bool) (i : ℕ) (items : Forest Item) → PrologAt i items × RootBegins kind text i → Reached opens es all limit W 0 0 text (state i items root 255)
    at_root kind i items (front, begins) = grind (arith, no_spaces, start_there, root_reached)

    -- Each place lies on it.
    place_there : (kind : Bool) (k open_around b : ℕ) (src : List ℕ) (s : grammar.State) → ContentPoint opens es text (λ i items. PrologAt i items × RootBegins kind text i) k open_around src b s → Reached opens es all limit W k open_around src (state_of s b)
    place_there kind k open_around b src s place = place_reached opens es all limit W text (λ i items. PrologAt i items × RootBegins kind text i) (at_root kind) k open_around b src s place

    -- What is left up to the end of the text.
    record Rest (q : ℕ) (items : Forest Item) : Type 0 where
      rest : Forest Item
      misc : Misc text q (length text) rest
      whole : join (join p.before p.one) p.after ≡ join items rest

    behind_rest : (q : ℕ) (items : Forest Item) → DocumentTo (opens 0) text PrologAt q items → Rest q items
    behind_rest q items is =
        let behind = document_parts is in
        let there = element_stops true (opens 0) text behind.start behind.end 255 behind.openings_left behind.one behind.element in
        let same = start_there behind.start behind.before behind.ahead there.2 in
        let element : IsElement true (opens 0) text p.start behind.end 255 behind.openings_left behind.one = subst (λ (i : ℕ). IsElement true (opens 0) text i behind.end 255 behind.openings_left behind.one) (sym same.0) behind.element in
        let one = one_element es most_deep (opens 0) agrees (all.once 0) text utf8 p.start behind.end p.end 255 behind.openings_left p.openings_left behind.one p.one element p.element in
        let misc : Misc text p.end q behind.after = subst (λ (e : ℕ). Misc text e q behind.after) one.0 behind.misc in
        let r = misc_front text utf8 p.end q (length text) behind.after p.after misc p.misc_after (end_stops text) in
        grind (arith, join_assoc)

    -- No fault is in the text but those of the limits.
    pub never : (kind : Bool) (source : List ℕ) (f : Fault) → FaultFrom opens es limit text kind PrologAt source f → IsOver W f
    never kind source f (misc_around q items _ (inl front) fits (in_one _ ill)) = let r = p.ahead q items front in absurd (misc_at text utf8 q p.start r.0 f r.1 root_at.2 ill)
    never kind source f (misc_around q items _ (inl front) fits (one_too_many k item is over)) =
        let r = p.ahead k (join items (leaf item)) (p.on q k items (leaf item) front (an_item q k k item Nil is (no_misc k))) in
        grind (arith, merge-more)
    never kind source f (no_root items front fits) = let r = p.ahead (length text) items front in let l = before_end text utf8 (length text) p.start r.0 r.1 root_at.0 in absurd (omega arith)
    never kind source f (unknown_ahead q items front fits below no_space no_less) = let r = p.ahead q items front in absurd (other_at text utf8 q p.start r.0 r.1 root_at.0 no_space no_less)
    never kind source f (at_point k open_around b _ s _ _ place fits (at_place _ stands)) = stands_apart opens es all limit W k open_around b source s (place_there kind k open_around b source s place) f stands
    never kind source f (at_point k open_around b src s _ _ place fits (in_value next l i stop d _ _ begins part ill)) =
        let v = next.pair in
        absurd (value_apart opens es all limit W k open_around b next.read_to next.openings_left v.name_end v.first_quote v.last_quote v.end l i stop d src source s next.tag_name next.written v.name f
        (place_there kind k open_around b src s place) begins next.is_read v.is_written.0 v.is_written.1 v.is_written.2 part ill)
    never kind source f (misc_around q items _ (inr behind) fits (in_one _ ill)) = let r = behind_rest q items behind in absurd (misc_at text utf8 q (length text) r.rest f r.misc (end_stops text) ill)
    never kind source f (misc_around q items _ (inr behind) fits (one_too_many k item is over)) =
        let r = behind_rest q items behind in
        let s = misc_front text utf8 q k (length text) (leaf item) r.rest (an_item q k k item Nil is (no_misc k)) r.misc (end_stops text) in
        let whole : join (join p.before p.one) p.after ≡ join (join items (leaf item)) s.0 = r.whole ∙ ap (join items) s.2 ∙ sym (join_assoc items (leaf item) s.0) in
        grind (arith, merge-more)
    never kind source f (unknown_behind q items behind fits below no_space no_comment no_instruction) =
        let r = behind_rest q items behind in absurd (last_at text utf8 q (length text) r.rest r.misc refl below no_space no_comment no_instruction)

-- ---- without a document type declaration

-- Nothing is opened.
plain_opens : OpensAt (λ k. no_entities) []
plain_opens = grind arith

module _ (src : List ℕ) (utf8 : IsUtf8 src) (limit : ℕ) (tree : Forest Item) (p : ParseWithout src tree) where
  -- The whole as a state has it.
  same_whole : tree ≡ join (join p.before p.one) p.after
  same_whole = p.is_tree ∙ sym (join_assoc p.before p.one p.after)

  -- Which is within the limits where the parse is.
  whole_fine : IsWithinLimits limit tree → IsValidState limit (state (length src) (join (join p.before p.one) p.after) root p.openings_left)
  whole_fine few =
      let counts = limits_counted limit tree few in
      let merged : merge tree ≡ tree =
      ap merge p.is_tree ∙ tops_merged true no_entities src p.prolog.0 p.start p.start p.end (length src) 255 p.openings_left false p.before Nil p.one p.after [] [] p.prolog.2 (no_doctype p.start) p.element p.misc_after ∙ sym p.is_tree in
      let counted : 1 + size (merge tree) ≤ limit = rw merged (omega (arith, few.nodes)) in
      let whole : IsValidState limit (state (length src) tree root p.openings_left) = record { nodes = counted; attributes = counts.attributes; pairs = counts.namespaces; named = p.well_named } in
      subst (λ (f : Forest Item). IsValidState limit (state (length src) f root p.openings_left)) same_whole whole

  -- A declaration has one end.
  one_declaration : (d : ℕ) → MayHaveXmlDecl src (after_bom src) d → d ≡ p.prolog.0
  one_declaration d may = ok_one d p.prolog.0 (prolog src (after_bom src)) (prolog_complete src utf8 (after_bom src) d may) (prolog_complete src utf8 (after_bom src) p.prolog.0 p.prolog.1)

  -- What is left up to the root element.
  ahead_rest : (q : ℕ) (items : Forest Item) → PrologTo src q items → (rest : Forest Item) × Misc src q p.start rest × (p.before ≡ join items rest)
  ahead_rest q items ahead =
      let there = element_stops true no_entities src p.start p.end 255 p.openings_left p.one p.element in
      misc_front src utf8 p.prolog.0 q p.start items p.before (subst (λ (d : ℕ). Misc src d q items) (one_declaration ahead.0 ahead.1) ahead.2) p.prolog.2 there.2

  plain_parsed : Parsed (λ k. no_entities) limit (IsWithinLimits limit tree) src (PrologTo src)
  plain_parsed =
      record {
        start = p.start;
        before = p.before;
        ahead = ahead_rest;
        on = ahead_on src utf8;
        end = p.end;
        openings_left = p.openings_left;
        one = p.one;
        element = p.element;
        after = p.after;
        misc_after = p.misc_after;
        fine = whole_fine;
        named = subst (λ (f : Forest Item). AreNamed root f) same_whole p.well_named;
      }

  -- Nor does a document type declaration stand before it.
  doctype_apart : (i : ℕ) (before : Forest Item) → PrologTo src i before → at word.DoctypeStart src i ≡ true → ⊥
  doctype_apart i before ahead here = grind (arith, ahead_rest i before ahead, doctype_at, element_stops)

-- A refusal that is in a text that has a parse is that of a limit, and the parse is not within the limits.
no_doctype_over : (limit : ℕ) (src source : List ℕ) (given asked : List Asked) (f : Fault) (tree : Forest Item) → IsUtf8 src → RefusalOf limit false src given source f → ParseOf src false asked tree → IsOver (IsWithinLimits limit tree) f
no_doctype_over limit src source given asked f tree utf8 (without _ stands) parse =
    never (λ k. no_entities) [] plain_opens limit (IsWithinLimits limit tree) src utf8 (PrologTo src) (plain_parsed src utf8 limit tree (parse_without src asked tree parse).1) false src f stands
no_doctype_over limit src source given asked f tree utf8 (not_allowed q items _ ahead fits here) parse = absurd (doctype_apart src utf8 limit tree (parse_without src asked tree parse).1 q items ahead here)
no_doctype_over limit src source given asked f tree utf8 (in_doctype _ _ _ _ _ may _ _ _ _) parse = cc may
no_doctype_over limit src source given asked f tree utf8 (rows.RefusalOf.behind _ _ _ _ may _) parse = cc may
no_doctype_over limit src source given asked f tree utf8 (in_declaration _ here (q, t, due, lack)) parse = let p = (parse_without src asked tree parse).1 in absurd (declared_apart p.prolog.0 p.prolog.1)
  where
    declared_apart : (d : ℕ) → MayHaveXmlDecl src (after_bom src) d → ⊥
    declared_apart d (declared _ _ is) = declaration_apart src utf8 (after_bom src) d q t f is due lack
    declared_apart d (not_declared _ none) = true≢false (sym here ∙ none)

-- And so is a fault.
pub fault_over : (limit : ℕ) (src : List ℕ) (f : Fault) (asked : List Asked) (tree : Forest Item) → IsUtf8 src → FaultOf limit src f → ParseOf src false asked tree → IsOver (IsWithinLimits limit tree) f
fault_over limit src f asked tree utf8 stands parse = no_doctype_over limit src src [] asked f tree utf8 stands parse

-- So a fault that stands is a fault: the text has no parse within the limits.
pub no_false_faults : (limit : ℕ) (src : List ℕ) (f : Fault) (asked : List Asked) (tree : Forest Item) → IsUtf8 src → FaultOf limit src f → ParseOf src false asked tree → IsWithinLimits limit tree → ⊥
no_false_faults limit src f asked tree utf8 stands parse few = (fault_over limit src f asked tree utf8 stands parse).1 few

-- Nor a document type declaration before which such items stand.
pub no_doctype_there : (limit : ℕ) (src : List ℕ) (asked : List Asked) (tree : Forest Item) (i : ℕ) (before : Forest Item) → IsUtf8 src → PrologTo src i before → at word.DoctypeStart src i ≡ true → ParseOf src false asked tree → ⊥
no_doctype_there limit src asked tree i before utf8 ahead here parse = doctype_apart src utf8 limit tree (parse_without src asked tree parse).1 i before ahead here
