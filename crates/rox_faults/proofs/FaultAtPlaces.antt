-- At a place on the way of a parse no fault stands but those of the limits, and where it is within the limits none; nor does one
-- stand in a value of a start tag there.
use Rattle.std.proofs.Common.{◌≡◌, ◌≢◌, ℕ, suc, ◌+◌, ◌-◌, ◌<◌, ◌≤◌, ◌⊎◌, ◌==◌, Bool, true, false, List, length, Some, Ok, refl, sym, ap, ◌∙◌, subst, arith, inl, inr, IsUtf8, IsCharBoundary}
use Rattle.std.proofs.lemmas.Str.{IsCharBoundary-before_ascii, IsCharBoundary-end}
use Rattle.std.proofs.lemmas.Bool.{cases_Bool, lt-leb, le-leb, eq-eqb, eqb-true}
use Rattle.rox_grammar.specs.declared.fault.Fault.{Fault}
use Rattle.rox_grammar.specs.declared.fault.Word.TheVariants as word
use Rattle.rox_grammar.specs.declared.fault.Expected.TheVariants as expected
use Rattle.rox_grammar.specs.FixedTexts.{word_text, at}
use Rattle.rox_grammar.specs.Search.{byte_from}
use Rattle.rox_grammar.specs.Forest.{Forest, join}
use Rattle.rox_grammar.specs.Written.{Name, Attribute, Tag, Item, Element}
use Rattle.rox_grammar.specs.Tree.{listed}
use Rattle.rox_grammar.specs.Names.{byte, slice, spaces_end, IsQName}
use Rattle.rox_grammar.specs.Constructs.{AreChars, IsEq, IsAttValue, IsEnd}
use Rattle.rox_grammar.specs.Content.{Inclusion, IsMisc, Value}
use Rattle.rox_grammar.specs.Entities.{Replacement, Entity, text_of, most_deep}
use Rattle.rox_grammar.specs.State as grammar
use Rattle.rox_grammar.specs.WellNamed.{IsWellNamed}
use Rattle.rox_grammar.specs.State.{Open, root, inside, depth_of, scope_of}
use Rattle.rox_grammar.specs.Due.{DueItem, IsMissing, no_qname, DueInText}
use Rattle.rox_grammar.specs.Due as due
use Rattle.rox_grammar.specs.ContentPoints.{is_main, is_content, TagBegins, IsSpent, MayOpen, ValuePart, itself, opened, TagTo}
use Rattle.rox_grammar.specs.Faults.{InMisc, InRun, no_char, end_mark, in_reference, too_many, InValue, less, InEnd, lacks, other_name, none_open, Stands, in_run, in_section, in_misc, in_tag, in_end, unknown, unclosed, too_many_nodes, too_many_pieces}
use Rattle.rox_grammar.specs.Faults as faults
use Rattle.rox_reading.specs.State.{State}
use Rattle.rox_reading.specs.Markup.{EndTag, end_tag_at}
use Rattle.rox_reading.specs.Machine.{value_opener}
use Rattle.rox_reading.proofs.Forests.{join_assoc}
use Rattle.rox_theory.specs.ValidState.{AreNamed, IsValidState, state}
use Rattle.rox_theory.proofs.Productions.{cdata_parts, end_parts, char_data_parts}
use Rattle.rox_theory.proofs.Basics.{within}
use Rattle.rox_theory.proofs.CharTexts.{cut_behind}
use Rattle.rox_theory.proofs.LiteralLemmas.{from_here}
use Rattle.rox_theory.proofs.MarkupLemmas as markup
use Rattle.rox_theory.proofs.Constructions.{a_comment, a_cdata, an_instruction, an_end, a_tag, nothing, kind_at, comment_kind, cdata_kind, instruction_kind, end_kind, comment_bytes, cdata_bytes, instruction_bytes, end_bytes}
use Rattle.rox_theory.proofs.Standing.{item-named}
use Rattle.rox_theory.proofs.Leaves.{Adds, fine_before}
use Rattle.rox_theory.proofs.StepLemmas as steps
use Rattle.rox_theory.proofs.Steps.{after, fine_leaf, fine_opened}
use Rattle.rox_faults.proofs.PartFronts.{to_entity, SpendsOnce, value_front}
use Rattle.rox_theory.proofs.FailedReadings.{ok_one, chars_refuse}
use Rattle.rox_faults.proofs.FaultLimits.{IsOver, nodes_over}
use Rattle.rox_grammar.proofs.AtPlace.{mark_from_cut}
use Rattle.rox_faults.proofs.FaultRows.{behind, run_stops_cut}
use Rattle.rox_faults.proofs.FaultPoints.{context_at}
use Rattle.rox_faults.proofs.FaultPlaces.{Tagged}
use Rattle.rox_faults.proofs.FaultApart.{byte_stands, chars_stand, misc_begins, misc_apart, text_stands}
use Rattle.rox_faults.proofs.FaultPairs.{one_qname}
use Rattle.rox_faults.proofs.FaultReferences.{run_reference_apart, value_reference_apart, value_gives_less, value_no_less}
use Rattle.rox_faults.proofs.FaultInTags.{tag_apart, value_there}
use Rattle.rox_faults.proofs.FaultWay.{state_of, OpensAt, may_deep, same_text, Trail, stays, follows, Ends, Reached, step_there, there_by, one_step, place_within, takes_there, run_there, opened_there}
use Rattle.rox_faults.proofs.StateCounts.{too_many_counted}

-- Where a text may be opened the openings are not spent.
spent_apart : (k b r : ℕ) → MayOpen k b r → IsSpent k b → ⊥
spent_apart k b r may spent = spent r may

-- Where a start tag begins in content, one is read.
tag_here : (src : List ℕ) (i : ℕ) (x : Bool) → TagBegins src i x → x ≡ true → kind_at src i ≡ a_tag
tag_here src i x h inner = grind arith

tag_less : (src : List ℕ) (i : ℕ) (x : Bool) → TagBegins src i x → byte src i ≡ 60
tag_less src i x h = grind arith

-- The tag of the innermost open element.
tag_of : Tag → Open → Tag
tag_of tag root = tag
tag_of tag (inside start t before up) = t

-- A name and a place are those of the end tag.
end_one : (src : List ℕ) (i j k m n : ℕ) (x y : Name) → IsEnd src i x m j → IsEnd src i y n k → (x ≡ y) × (m ≡ n)
end_one src i j k m n x y a b =
    let e = ok_one (record { name = x; name_end = m }, j) (record { name = y; name_end = n }, k) (end_tag_at src i) (markup.end_complete src i j m x a) (markup.end_complete src i k n y b) in
    (ap (λ (t : EndTag × ℕ). t.0.name) e, ap (λ (t : EndTag × ℕ). t.0.name_end) e)

ends_depth : (k open_around : ℕ) (src : List ℕ) (e : State) → Ends k open_around src e → depth_of e.stack ≤ open_around
ends_depth k open_around src e ends = grind arith

module _ (opens : ℕ → Inclusion) (es : List Entity) (all : OpensAt opens es) (limit : ℕ) (W : Type 0) where
  abbrev There : (k open_around : ℕ) → List ℕ → State → Type 0
  There k open_around src s = Reached opens es all limit W k open_around src s

  value_declared : (k : ℕ) (name : List ℕ) (b c : ℕ) (v : List ℕ) → (opens k).value name b v c → (t : Replacement) × (text_of es name ≡ Some t)
  value_declared k name b c v h = let x = all.value k b c name v h in (x.0, x.3)

  -- ---- places

  module _ (k open_around b : ℕ) (src : List ℕ) (s : grammar.State) (r : There k open_around src (state_of s b)) where
    abbrev here : State
    here = state_of s b

    -- In a run.
    run_apart : (f : Fault) → s.at < length src → byte src s.at ≢ 60 → InRun es k (opens k) src s.at b f → ⊥
    run_apart f below other (faults.InRun.no_char _ lack) =
        let run = run_there opens es all limit W k open_around b src s r below other in
        chars_stand src r.utf8 s.at (byte_from (λ c. c == 60) src s.at) f r.cut (run_stops_cut src s.at below) (subst (λ (e : ℕ). AreChars src s.at e) (char_data_parts run.1).end (char_data_parts run.1).chars) lack
    run_apart f below other (end_mark e is chars before) = grind (arith, run_there opens es all limit W k open_around b src s r below other)
    run_apart f below other (faults.InRun.in_reference e q _ is from inside' ill) = grind (arith, run_there opens es all limit W k open_around b src s r below other, run_reference_apart)
    run_apart f below other (faults.InRun.too_many run spent) =
        let refers = to_entity es src run.reference run.after run.replacement run.refers in
        let found = (opened_there opens es all limit W k open_around b src s r run.run_end run.reference run.openings_left run.after run.front run.replacement run.is_run run.is_front run.within_run refers).1 in
        let x = all.content k run.openings_left found.openings_left (slice src (run.reference + 1) refers.0) found.opened found.opens in
        spent_apart k run.openings_left x.1 x.4 spent

    -- In a CDATA section.
    section_apart : (q : ℕ) (t : DueItem) (f : Fault) → at word.CDataStart src s.at ≡ true → DueInText expected.CDataEnd src (s.at + 9) q t → IsMissing src q t f → ⊥
    section_apart q t f opens' due' lack =
        let below : s.at < length src = let two = (cdata_bytes src s.at opens').0 in omega arith in
        let is = (there_by opens es all limit W k open_around src here r a_cdata below (cdata_kind src s.at opens')).2 in
        let eight : s.at + 8 + 1 ≡ s.at + 9 = omega arith in
        let cut = subst (IsCharBoundary src) eight (behind word.CDataStart src s.at 8 91 r.utf8 opens' (omega arith) refl (omega arith) (omega arith)) in
        text_stands src r.utf8 expected.CDataEnd (s.at + 9) _ q t f cut (mark_from_cut (word_text word.CDataEnd) src (s.at + 9) (omega arith) (omega arith) cut.0) (cdata_parts is).end (cdata_parts is).chars (cdata_parts is).closes due' lack

    -- In a comment or an instruction.
    item_there : (at word.CommentStart src s.at ≡ true) ⊎ (at word.PIStart src s.at ≡ true) → (j : ℕ) × (item : Item) × IsMisc src s.at j item
    item_there (inl c) = there_by opens es all limit W k open_around src here r a_comment (let two = (comment_bytes src s.at c).0 in omega arith) (comment_kind src s.at c)
    item_there (inr p) = there_by opens es all limit W k open_around src here r an_instruction (let two = (instruction_bytes src s.at p).0 in omega arith) (instruction_kind src s.at p)

    item_apart : (f : Fault) → InMisc src s.at f → ⊥
    item_apart f ill = let item = item_there (misc_begins src r.utf8 s.at f ill) in misc_apart src r.utf8 s.at item.0 item.1 f item.2 ill

    -- The end tag that is there closes the innermost open tag of its text.
    end_there : at word.EndTagStart src s.at ≡ true
        → (start : ℕ) × (tag : Tag) × (before : Forest Item) × (up : Open) × (n : ℕ) × (j : ℕ) × (s.stack ≡ inside start tag before up) × (open_around < depth_of up + 1) × IsEnd src s.at tag.name n j
    end_there is = there_by opens es all limit W k open_around src here r an_end (let two = (end_bytes src s.at is).0 in omega arith) (end_kind src s.at is)

    end_apart : (f : Fault) → InEnd open_around src s f → ⊥
    unfolding tag_of
    end_apart f (lacks _ (q, t, due.DueInEnd.its_name opens', no_qname none)) = let there = end_there opens' in none there.1.name there.4 (end_parts there.8).is_name
    end_apart f (lacks _ (q, t, due.DueInEnd.its_end name n opens' is_name, lack)) = grind (arith, end_there, one_qname, end_parts, byte_stands)
    end_apart f (other_name n j start name tag before up expected actual stack deep is apart holds holds') =
        let there = end_there (end_parts is).opens in
        let same = end_one src s.at there.5 j there.4 n there.1.name name there.8 is in
        absurd (apart (ap (λ (t : Tag). t.name) (ap (tag_of tag) (sym stack ∙ there.6)) ∙ same.0))
    end_apart f (none_open n j name none is) =
        let there = end_there (end_parts is).opens in
        let depth : depth_of s.stack ≡ depth_of there.3 + 1 = ap depth_of there.6 in
        let deep = there.7 in
        absurd (omega arith)

    -- The start tag that is there.
    tag_there : TagBegins src s.at (is_content k s.stack) → (t : State) × Tagged (is_main k) (opens k) src open_around here t × (W → IsValidState limit t) × AreNamed t.stack t.done
    tag_there begins =
        let less' = tag_less src s.at (is_content k s.stack) begins in
        let below : s.at < length src = within src s.at (λ z. omega arith) in
        let kind : kind_at src s.at ≡ a_tag = elim (cases_Bool (is_content k s.stack)) as (λ x. kind_at src s.at ≡ a_tag) [ inl inner ↦ tag_here src s.at (is_content k s.stack) begins inner | inr top ↦ (r.first top).1 ] in
        let there = step_there opens es all limit W k open_around src here r below in
        (there.to, there_by opens es all limit W k open_around src here r a_tag below kind, there.fine, there.named)

    -- What it adds.
    tag_adds : (j c : ℕ) (x : Tag) (empty : Bool) → IsValidState limit (after here j x empty c) → Adds here (Element s.at j x)
    tag_adds j c x true fine =
        let adds = (fine_leaf limit (state_of s c) j (Element s.at j x) fine).1 in
        record { attributes = adds.attributes; pairs = adds.pairs; named = adds.named }
    tag_adds j c x false fine = (fine_opened limit here j x j c fine).1

    -- And that it is well named.
    tag_named : (j c : ℕ) (x : Tag) (empty : Bool) → AreNamed (after here j x empty c).stack (after here j x empty c).done → IsWellNamed (listed (scope_of s.stack) x.declarations) x
    tag_named j c x empty named = grind (arith, item-named)

    -- Holds no fault.
    read_tag_apart : (t : State) (f : Fault) → Tagged (is_main k) (opens k) src open_around here t → (W → IsValidState limit t) → AreNamed t.stack t.done → faults.InTag (is_main k) (opens k) src s b f → IsOver W f
    read_tag_apart t f (j, c, x, empty, is, leads) fine named ill =
        let adds : W → Adds here (Element s.at j x) = λ w. tag_adds j c x empty (subst (IsValidState limit) leads (fine w)) in
        let well_named = tag_named j c x empty (subst (λ (u : State). AreNamed u.stack u.done) leads named) in
        tag_apart (context_at limit es r.d k open_around).values (opens k) (all.values r.d k r.deep) src r.utf8 s j b c empty x is well_named W (λ w. (adds w).attributes) (λ w. (adds w).pairs) f ill

    -- Past the end nothing stands.
    trail_past : (t u : State) → Trail (is_main k) (opens k) src open_around t u → length src ≤ t.at → t ≡ u
    trail_past t u (stays _) past = refl
    trail_past t u (follows _ v _ takes rest) past =
        let moves = (steps.step_moves (context_at limit es r.d k open_around) (opens k) (all.values r.d k r.deep) (all.contents limit r.d k r.deep) src r.utf8 t v takes).0 in absurd (omega arith)

    -- So no fault is at the place but those of the limits.
    pub stands_apart : (f : Fault) → Stands limit es k open_around (opens k) src s b f → IsOver W f
    stands_apart f (in_run _ inner below other ill) = absurd (run_apart f below other ill)
    stands_apart f (in_section _ inner opens' (q, t, due', lack)) = absurd (section_apart q t f opens' due' lack)
    stands_apart f (in_misc _ inner ill) = absurd (item_apart f ill)
    stands_apart f (in_tag _ begins ill) = let there = tag_there begins in read_tag_apart there.0 f there.1 there.2 there.3 ill
    stands_apart f (in_end _ inner ill) = absurd (end_apart f ill)
    stands_apart f (unknown inner less' (inl last)) =
        let is : kind_at src s.at ≡ nothing = rw ((eq-eqb _ _ less'), (le-leb (length src) (s.at + 1) (omega arith))) refl in
        absurd (there_by opens es all limit W k open_around src here r nothing (omega arith) is)
    stands_apart f (unknown inner less' (inr (mark, no_comment, no_section))) =
        let inside' = within src (s.at + 1) (λ z. omega arith) in
        let is : kind_at src s.at ≡ nothing = rw ((eq-eqb _ _ less'), (lt-leb (length src) (s.at + 1) inside'), (eq-eqb _ _ mark), no_comment, no_section) refl in
        absurd (there_by opens es all limit W k open_around src here r nothing (omega arith) is)
    stands_apart f (unclosed deep past) =
        let same : depth_of s.stack ≡ depth_of r.end.stack = ap (λ (s : State). depth_of s.stack) (trail_past here r.end r.trail past) in
        absurd (omega (arith, ends_depth k open_around src r.end r.ends))
    stands_apart f (too_many_nodes c t takes many) =
        let over = too_many_counted limit t.stack t.done many in
        let below = place_within k (opens k) src r.utf8 s t b c takes in
        let there = step_there opens es all limit W k open_around src here r below in
        nodes_over W (λ w.
        (let fine = subst (IsValidState limit) (one_step opens es all limit W k open_around src here r (state_of t c) (takes_there opens es all limit W k open_around b src s r t c takes) below) (there.fine w) in
        omega arith))
    stands_apart f (too_many_pieces to inner named many) =
        let q = to.reference in
        let c = to.openings_left in
        let stop = to.run_end in
        let front = to.front in
        let refers = to_entity es src q to.after to.replacement to.refers in
        let over = too_many_counted limit s.stack (join s.done front) many in
        let there = opened_there opens es all limit W k open_around b src s r stop q c to.after front to.replacement to.is_run to.is_front to.within_run refers in
        let run = there.0 in let found = there.1 in
        let split : join s.done run.items ≡ join (join s.done front) (join found.opened found.rest) = ap (join s.done) found.all ∙ sym (join_assoc s.done front (join found.opened found.rest)) in
        nodes_over W (λ w.
        (let fine : IsValidState limit (state stop (join (join s.done front) (join found.opened found.rest)) s.stack run.openings_left) = subst (λ (f : Forest Item). IsValidState limit (state stop f s.stack run.openings_left)) split (run.fine w) in
        let nodes = (fine_before limit q stop c run.openings_left (join s.done front) (join found.opened found.rest) s.stack fine).nodes in
        omega arith))

  -- ---- values

  -- A part of a value is read to its end.
  record PartRead (l : ℕ) (part : List ℕ) (i stop d : ℕ) : Type 0 where
    depth : ℕ
    deep : depth + l ≡ most_deep
    utf8 : IsUtf8 part
    cut : IsCharBoundary part i
    end_cut : IsCharBoundary part stop
    openings_left : ℕ
    bytes : List ℕ
    value : Value (is_main l) (opens l) part stop i d openings_left bytes
    chars : AreChars part i stop

  -- What a reference opens it opens in one way.
  spends_once : (d l : ℕ) → d + l ≡ most_deep → SpendsOnce (opens l)
  spends_once d l deep name b c e v w h h' =
      let agrees = all.values d l deep in
      let x = agrees.complete name 0 b c v h in
      let y = agrees.complete name 0 b e w h' in
      let text = same_text es name y.0 x.0 y.1 x.1 in
      let same = ok_one (v, c) (w, e) (value_opener es d (is_main l) x.0 0 b) x.2 (subst (λ (t : Replacement). value_opener es d (is_main l) t 0 b ≡ Ok (w, e)) text y.2) in
      ap (λ (p : List ℕ × ℕ). p.1) same

  part_read : (k : ℕ) (src : List ℕ) (start end b l : ℕ) (part : List ℕ) (i stop d : ℕ) → PartRead k src start end b → ValuePart opens es k src start end b l part i stop d → PartRead l part i stop d
  part_read k src start end b l part i stop d whole itself = whole
  part_read k src start end b l part i stop d whole (opened m i' stop' d' c _ p j part' front t within' to below entity may) =
      let refers = to_entity es part' p j t entity in
      let outer = part_read k src start end b m part' i' stop' d' whole within' in
      let name = slice part' (p + 1) refers.0 in
      let there = value_front (is_main m) (opens m) (spends_once outer.depth m outer.deep) part' stop' i' p refers.0 j d' c outer.openings_left front outer.bytes to outer.value below refers.1 refers.2 in
      let x = all.value m c there.1 name there.0 there.2 in
      let text = all.texts name t refers.3 in
      let value : Value false (opens (suc m)) t.source (length t.source) t.start d x.2 there.0 = grind arith in
      record {
        depth = most_deep - suc m;
        deep = let more = may_deep m c d may in omega arith;
        utf8 = text.0;
        cut = text.1;
        end_cut = IsCharBoundary-end t.source;
        openings_left = x.2;
        bytes = there.0;
        value = value;
        chars = subst (λ (t : Replacement). AreChars t.source t.start (length t.source)) (same_text es name x.0 t x.3 refers.3) x.5;
      }

  -- No fault is in it.
  part_apart : (l : ℕ) (part : List ℕ) (i stop d : ℕ) (f : Fault) → PartRead l part i stop d → InValue es l (opens l) part i stop d f → ⊥
  part_apart l part i stop d f r (faults.InValue.in_reference q _ from below ill) = value_reference_apart es (is_main l) (opens l) part r.utf8 (value_declared l) i stop d r.openings_left q r.bytes f r.value from below ill
  part_apart l part i stop d f r (faults.InValue.too_many q j c front t to below entity spent) =
      let refers = to_entity es part q j t entity in
      let there = value_front (is_main l) (opens l) (spends_once r.depth l r.deep) part stop i q refers.0 j d c r.openings_left front r.bytes to r.value below refers.1 refers.2 in
      let x = all.value l c there.1 (slice part (q + 1) refers.0) there.0 there.2 in
      spent_apart l c x.1 x.4 spent
  part_apart l part i stop d f r (less q inner from below (inl here)) = value_no_less es (is_main l) (opens l) part r.utf8 stop i q d r.openings_left r.bytes r.value from below here
  part_apart l part i stop d f r (less q inner from below (inr (j, is))) = value_gives_less es (is_main l) (opens l) part r.utf8 (value_declared l) i stop d r.openings_left q j r.bytes r.value inner from below is
  part_apart l part i stop d f r (faults.InValue.no_char q c inner from below stands ill) = chars_refuse part i stop q c r.utf8 r.cut r.end_cut from below r.chars stands ill

  -- Nor in a value of a start tag at a place.
  pub value_apart : (k open_around b p c n v e j l i stop d : ℕ) (src part : List ℕ) (s : grammar.State) (tag_name : Name) (as' : List Attribute) (name : Name) (f : Fault) → There k open_around src (state_of s b) → TagBegins src s.at (is_content k s.stack)
      → TagTo (is_main k) (opens k) src s p b c tag_name as' → IsQName src (spaces_end src p) name n → IsEq src n v → IsAttValue src v e j → ValuePart opens es k src (v + 1) e c l part i stop d → InValue es l (opens l) part i stop d f → ⊥
  value_apart k open_around b p c n v e j l i stop d src part s tag_name as' name f r begins to named eq literal is ill =
      let there = tag_there k open_around b src s r begins in
      part_apart l part i stop d f (part_read k src (v + 1) e c l part i stop d (literal_read there.0 there.1 there.2 there.3) is) ill
    where
      literal_read : (t : State) → Tagged (is_main k) (opens k) src open_around (state_of s b) t → (W → IsValidState limit t) → AreNamed t.stack t.done → PartRead k src (v + 1) e c
      literal_read t (j', c', x, empty, is', leads) fine named' =
          let adds : W → Adds (state_of s b) (Element s.at j' x) = λ w. tag_adds k open_around b src s r j' c' x empty (subst (IsValidState limit) leads (fine w)) in
          let well_named = tag_named k open_around b src s r j' c' x empty (subst (λ (u : State). AreNamed u.stack u.done) leads named') in
          let value = value_there (context_at limit es r.d k open_around).values (opens k) (all.values r.d k r.deep) src r.utf8 s j' b c' empty x is' well_named W (λ w. (adds w).attributes) (λ w. (adds w).pairs) p c n v e j tag_name as' name to named eq literal in
          let end = literal.0.1 in let closes = literal.0.2 in
          let h = from_here (λ c. c == byte src v) src (v + 1) (rw (← end) closes) in
          let same : byte src e ≡ byte src v = eqb-true _ _ (rw (← end) at h) in
          record {
            depth = r.d;
            deep = r.deep;
            utf8 = r.utf8;
            cut = cut_behind src v (byte src v) (v + 1) r.utf8 refl (omega arith) (omega arith) refl;
            end_cut = IsCharBoundary-before_ascii src e closes (omega arith);
            openings_left = value.0;
            bytes = value.1;
            value = value.2;
            chars = literal.1;
          }
