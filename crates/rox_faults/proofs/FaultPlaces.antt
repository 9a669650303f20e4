-- The place of reading is one that content reaches from the left, so a fault that is read is at a place.
use Rattle.std.proofs.Common.{◌≡◌, ℕ, zero, suc, ◌+◌, ◌<◌, ◌≤◌, max, ◌==◌, Bool, true, false, not, eqb, ltb, nat_le, List, length, refl, sym, ◌∙◌, subst, arith, inl, inr, IsUtf8, IsCharBoundary}
use Rattle.std.specs.Prelude.{Ok, Err}
use Rattle.std.specs.List.{list_any}
use Rattle.std.proofs.lemmas.Bool.{eqb-true, eqb-false, leb-false, leb-true, ltb-true, ltb-false, not-true, not-false}
use Rattle.rox_grammar.specs.declared.fault.Fault.{Fault}
use Rattle.rox_grammar.specs.declared.fault.Fault.TheVariants as fault
use Rattle.rox_grammar.specs.declared.fault.Word.TheVariants as word
use Rattle.rox_grammar.specs.FixedTexts.{word_text, at}
use Rattle.rox_grammar.specs.Forest.{Forest, join}
use Rattle.rox_grammar.specs.Written.{Name, Attribute, Tag, Item, Element, Text, Comment, PI, leaf}
use Rattle.rox_grammar.specs.NameParts.{same_qname}
use Rattle.rox_grammar.specs.Tree.{listed}
use Rattle.rox_grammar.specs.Names.{byte, spaces_end, IsQName}
use Rattle.rox_grammar.specs.Constructs.{IsEq, IsAttValue, IsEnd}
use Rattle.rox_grammar.specs.Content.{Inclusion, IsTag, literals, line_ends}
use Rattle.rox_grammar.proofs.TagParts.{tag_parts}
use Rattle.rox_grammar.specs.Entities.{Entity, most_deep}
use Rattle.rox_grammar.specs.Document.{most_attributes, most_pairs}
use Rattle.rox_grammar.specs.Counts.{listable, with_new, distinct_pairs}
use Rattle.rox_grammar.specs.WellNamed.{IsWellNamed}
use Rattle.rox_grammar.specs.State.{Open, root, inside, is_root, depth_of, scope_of, attributes_so_far, pairs_so_far, FitsLimits}
use Rattle.rox_grammar.specs.ContentPoints.{TagTo, is_content, is_main, TagBegins, in_content, StepsOver, a_run as takes_run, a_section, a_misc, an_empty_tag, a_start_tag, an_end_tag, goes}
use Rattle.rox_grammar.specs.Faults.{cut_off, Stands, lacks, other_name, none_open, in_section, in_misc, in_tag, in_end, unknown, unclosed, in_value, at_point}
use Rattle.rox_reading.specs.Refusals.{Refusal, here}
use Rattle.rox_reading.specs.State.{State}
use Rattle.rox_reading.specs.Markup.{comment_at, instruction_at, cdata_at, end_tag_at}
use Rattle.rox_reading.specs.Tags.{tag_at}
use Rattle.rox_reading.specs.Machine.{Context, counted, value_opener, comment_step, cdata_step, instruction_step, end_step, tag_step, opened_by, closed_by, name_span, step, drive, text_ends, drive_text, budget, opener}
use Rattle.rox_theory.specs.Openers.{AreTexts, AgreesValue, AgreesContent}
use Rattle.rox_theory.proofs.Productions.{cdata_parts, end_parts, char_data_parts}
use Rattle.rox_theory.proofs.Basics.{chosen}
use Rattle.rox_faults.proofs.NameSpans.{cut_behind}
use Rattle.rox_theory.proofs.DeclarationLemmas.{stands_reads}
use Rattle.rox_theory.proofs.MarkupLemmas as markup
use Rattle.rox_theory.proofs.TagLemmas as tags
use Rattle.rox_theory.proofs.Constructions.{run_within, end_bytes}
use Rattle.rox_theory.proofs.Places.{stands_two}
use Rattle.rox_theory.proofs.Standing.{IsValidState}
use Rattle.rox_theory.proofs.Leaves.{state, with_leaf, fine_there}
use Rattle.rox_theory.proofs.Flat as flat
use Rattle.rox_theory.proofs.Steps.{after, fine_leaf, fine_opened, names_same}
use Rattle.rox_theory.proofs.StepLemmas as steps
use Rattle.rox_theory.proofs.Around.{ends_cut, ends_by, misc_ends, tag_ends, comment_is, instruction_is}
use Rattle.rox_theory.proofs.FailedReadings.{bind_err, lifted_err, lifted_only, no_fault}
use Rattle.rox_faults.proofs.FaultRows.{spells, run_stops_cut, comment_fails, instruction_fails, section_fails, end_fails}
use Rattle.rox_faults.proofs.FaultPoints.{Refuses, refuses_by, refuses_here, elsewhere_err, place_of, context_at, fine_fits, named_last, AreFew, item_few, opened_few, plain_few, From, At, stand, over, spent_here, may_open, deepest}
use Rattle.rox_faults.proofs.FaultRuns.{OpenerFails, run_fails}
use Rattle.rox_faults.proofs.FaultValues.{InPart, in_part}
use Rattle.rox_faults.proofs.FaultTags.{tag_values, TagFails, itself, ill_value, tag_at_fails}
use Rattle.rox_faults.proofs.StateCounts.{fits_few}

-- The names of the open elements are after their `<`, of those that this source opens: around them so many are open.
abbrev pub AreOpened : List ℕ → ℕ → Open → Type 0
AreOpened src open_around root = Unit {0}
AreOpened src open_around (inside start tag before up) = (open_around ≤ depth_of up → (byte src start ≡ 60) × IsQName src (start + 1) tag.name tag.name_end) × AreOpened src open_around up

-- Where a source begins it has opened none.
none_opened : (src : List ℕ) (open_around : ℕ) (stack : Open) → depth_of stack ≤ open_around → AreOpened src open_around stack
none_opened src open_around root le = tt
none_opened src open_around (inside start tag before up) le = (λ deep. absurd (omega arith), none_opened src open_around up (omega arith))

-- Content is where an element is open.
is_open : (stack : Open) → is_root stack ≡ false → is_content 0 stack ≡ true
is_open stack h = grind arith

-- No element is closed that the source did not open.
takes_deep : (main : Bool) (O : Inclusion) (src : List ℕ) (open_around : ℕ) (s t : State) → flat.StepsOver main O src open_around s t → open_around ≤ depth_of s.stack → open_around ≤ depth_of t.stack
takes_deep main O src open_around s t h le = grind arith

-- ---- constructs of a text

module _ (main : Bool) (O : Inclusion) (src : List ℕ) (open_around : ℕ) where
  -- A start tag, and what it leads to.
  abbrev pub Tagged : State → State → Type 0
  Tagged s t = (j : ℕ) × (c : ℕ) × (tag : Tag) × (empty : Bool) × IsTag main O src s.at j s.openings_left c empty tag × (t ≡ after s j tag empty c)

  -- A construct.
  abbrev pub OneConstruct : State → State → Type 0
  OneConstruct s t = flat.StepsOver main O src open_around s t

  -- A tag is a construct.
  pub tagged_takes : (s t : State) → Tagged s t → OneConstruct s t
  tagged_takes s t (j, c, tag, true, is, leads) = subst (OneConstruct s) (sym leads) (flat.StepsOver.takes_empty s.at j s.openings_left c tag s.done s.stack is)
  tagged_takes s t (j, c, tag, false, is, leads) = subst (OneConstruct s) (sym leads) (flat.StepsOver.takes_start s.at j s.openings_left c tag s.done s.stack is)

  -- The names of the open elements after it.
  pub takes_opened : (s t : State) → OneConstruct s t → AreOpened src open_around s.stack → AreOpened src open_around t.stack
  takes_opened s t h opened = grind arith

  -- And a character begins there.
  pub takes_cut : IsUtf8 src → (s t : State) → OneConstruct s t → IsCharBoundary src t.at
  takes_cut utf8 s t (flat.StepsOver.takes_run i j b c items done stack is parts) = subst (IsCharBoundary src) (sym (char_data_parts is).end) (run_stops_cut src i (run_within src i j is).0)
  takes_cut utf8 s t (flat.StepsOver.takes_cdata i e j b done stack is) =
      let last : j ≡ e + 2 + 1 = omega (arith, (cdata_parts is).next) in
      ends_cut src j utf8 (ends_by src j (e + 2) 62 last (stands_reads (word_text word.CDataEnd) src e 2 (cdata_parts is).closes (omega arith)) (omega arith) (omega arith))
  takes_cut utf8 s t (flat.StepsOver.takes_misc i j b item done stack is) = ends_cut src j utf8 (misc_ends src i j item is)
  takes_cut utf8 s t (flat.StepsOver.takes_empty i j b c tag done stack is) = let p = tag_parts is in ends_cut src j utf8 (tag_ends src p.last j true p.ends)
  takes_cut utf8 s t (flat.StepsOver.takes_start i j b c tag done stack is) = let p = tag_parts is in ends_cut src j utf8 (tag_ends src p.last j false p.ends)
  takes_cut utf8 s t (flat.StepsOver.takes_end i p j b start tag done before up deep end) = ends_cut src j utf8 (ends_by src j (spaces_end src p) 62 (end_parts end).next (end_parts end).closes (omega arith) (omega arith))

module _ (opens : ℕ → Inclusion) (es : List Entity) (limit : ℕ) (text : List ℕ) (declared : Bool) (PrologAt : ℕ → Forest Item → Type 0) (most : ℕ) (less : limit ≤ most) (least : most ≤ max limit 1)
    (values : (d k : ℕ) → d + k ≡ most_deep → AgreesValue es (opens k) (value_opener es d (is_main k))) (contents : (d k : ℕ) → d + k ≡ most_deep → AgreesContent es limit (opens k) (opener limit es d (is_main k)))
    (texts : AreTexts es) where
  -- A fault that is from there on.
  abbrev P : List ℕ → Fault → Type 0
  P src f = From opens es limit text declared PrologAt src f

  -- A place where the state is.
  abbrev pub Here : (k open_around : ℕ) → List ℕ → State → Type 0
  Here k open_around src s = At opens es limit text declared PrologAt k open_around src s

  fits_at : (s : State) → IsValidState most s → FitsLimits limit s.stack s.done
  fits_at s fine = fine_fits limit most s least fine

  module _ (d k open_around : ℕ) (deep : d + k ≡ most_deep) (src : List ℕ) (utf8 : IsUtf8 src) where
    abbrev context : Context
    context = context_at limit es d k open_around

    -- What is read is one.
    pub step_takes : (s t : State) → s.at < length src → IsValidState most s → step context src s ≡ Ok t → OneConstruct (is_main k) (opens k) src open_around s t × IsValidState most t
    step_takes s t within fine h = steps.step_sound context (opens k) (values d k deep) (contents d k deep) src utf8 most s t less within fine h

    -- And moves forward.
    pub takes_moves : (s t : State) → OneConstruct (is_main k) (opens k) src open_around s t → s.at < t.at
    takes_moves s t takes = (steps.step_moves context (opens k) (values d k deep) (contents d k deep) src utf8 s t takes).1

    -- One that is read.
    pub tag_taken : (s t : State) → byte src s.at ≡ 60 → IsValidState most s → tag_step context src s ≡ Ok t → Tagged (is_main k) (opens k) src open_around s t × IsValidState most t
    tag_taken s t opens' fine h = steps.tag_read context (opens k) (values d k deep) (contents d k deep) src utf8 most s t less opens' fine h

    -- ---- what is taken is a construct of a place

    pub takes_place : (s t : State) → is_content k s.stack ≡ true → OneConstruct (is_main k) (opens k) src open_around s t → IsValidState most t → StepsOver k (opens k) src (place_of s) s.openings_left (place_of t) t.openings_left
    takes_place s t inner (flat.StepsOver.takes_run i j b c items done stack is parts) fine = takes_run j b c items inner is parts (named_last stack done items fine.named)
    takes_place s t inner (flat.StepsOver.takes_cdata i e j b done stack is) fine = a_section e j b inner is
    takes_place s t inner (flat.StepsOver.takes_misc i j b item done stack is) fine = a_misc j b item inner is
    takes_place s t inner (flat.StepsOver.takes_empty i j b c tag done stack is) fine =
        an_empty_tag j b c tag is (fine_leaf most (state i done stack c) j (Element i j tag) fine).1.named
    takes_place s t inner (flat.StepsOver.takes_start i j b c tag done stack is) fine = a_start_tag j b c tag is (fine_opened most (state i done stack b) j tag j c fine).1.named
    takes_place s t inner (flat.StepsOver.takes_end i p j b start tag done before up deep end) fine = an_end_tag p j b start tag before up refl end

    -- ---- one construct that fails

    -- A fault at a place.
    stands_here : (s : State) (f : Fault) → Here k open_around src s → IsValidState most s → Stands limit es k open_around (opens k) src (place_of s) s.openings_left f → P src f
    stands_here s f place fine is = stand opens es limit text declared PrologAt k open_around src s f place (fits_at s fine) is

    -- One node too many.
    over_here : (s t : State) (f : Fault) → Here k open_around src s → IsValidState most s → StepsOver k (opens k) src (place_of s) s.openings_left (place_of t) t.openings_left → AreFew t.stack t.done → counted limit t ≡ Err f → P src f
    over_here s t f place fine takes few h = over opens es limit text declared PrologAt k open_around src s t f place (fits_at s fine) takes few h

    -- A character begins after `</`.
    end_cut : (i : ℕ) → at word.EndTagStart src i ≡ true → IsCharBoundary src (i + 2)
    end_cut i opens =
        subst (IsCharBoundary src) (omega arith) (cut_behind src (i + 1) 47 utf8 (end_bytes src i opens).2 (omega arith) (omega arith))

    -- An end tag of another name: row 7.
    closed_fails : (i n j openings_left : ℕ) (name : Name) (done : Forest Item) (stack : Open) (f : Fault) → is_content k stack ≡ true → open_around < depth_of stack → AreOpened src open_around stack → Here k open_around src (state i done stack openings_left)
        → IsValidState most (state i done stack openings_left) → IsEnd src i name n j → closed_by i name n j done stack openings_left ≡ Err f → P src f
    unfolding closed_by
    closed_fails i n j openings_left name done root f inner deep' opened place fine end h = absurd (omega arith)
    closed_fails i n j openings_left name done (inside start tag before up) f inner deep' opened place fine end h =
        chosen (same_qname tag.name name) _ _ _ h (λ same h. no_fault _ f h)
        (λ apart h.
        let expected = name_span tag.name (start + 1) tag.name_end in
        let actual = name_span name (i + 2) n in
        let is : fault.UnexpectedCloseTag expected actual i ≡ f = cc in
        let own = opened.0 (omega arith) in
        subst (P src) is
        (stands_here (state i done (inside start tag before up) openings_left) (fault.UnexpectedCloseTag expected actual i) place fine
        (in_end (fault.UnexpectedCloseTag expected actual i) inner
        (other_name n j start name tag before up expected actual refl deep' end (λ e. let k = names_same tag.name name e in cc (sym apart ∙ k))
        (spells src (start + 1) tag.name_end tag.name utf8 (cut_behind src start 60 utf8 own.0 (omega arith) (omega arith)) own.1)
        (spells src (i + 2) n name utf8 (end_cut i (end_parts end).opens) (end_parts end).is_name)))))

    -- A start tag that is one node too many.
    opened_fails : (s : State) (tag : Tag) (j openings_left : ℕ) (empty : Bool) (f : Fault) → IsValidState most s → Here k open_around src s → IsTag (is_main k) (opens k) src s.at j s.openings_left openings_left empty tag
        → IsWellNamed (listed (scope_of s.stack) tag.declarations) tag → attributes_so_far s.stack s.done + length tag.attributes ≤ most_attributes
        → length (with_new (distinct_pairs (pairs_so_far s.stack s.done)) (listable tag)) ≤ most_pairs → opened_by limit s tag empty openings_left j ≡ Err f → P src f
    opened_fails s tag j openings_left true f fine place is named many pairs h =
        over_here s (state j (join s.done (leaf (Element s.at j tag))) s.stack openings_left) f place fine (an_empty_tag j s.openings_left openings_left tag is named) (item_few s (Element s.at j tag) many pairs) h
    opened_fails s tag j openings_left false f fine place is named many pairs h =
        over_here s (after s j tag false openings_left) f place fine (a_start_tag j s.openings_left openings_left tag is named) (opened_few s j openings_left tag many pairs) h

    -- A start tag.
    pub tag_fails : (s : State) (e : Refusal) → TagBegins src s.at (is_content k s.stack) → byte src s.at ≡ 60 → IsValidState most s → Here k open_around src s → tag_step context src s ≡ Err e → Refuses es P src e
    unfolding tag_step
    tag_fails s e begins opens' fine place h =
        let few = (fits_few limit s.stack s.done (fits_at s fine)).1 in
        let cut = cut_off (is_main k) s.stack in
        bind_err (tag_at (tag_values es d k) cut (scope_of s.stack) (attributes_so_far s.stack s.done) (distinct_pairs (pairs_so_far s.stack s.done)) src s.at s.openings_left) _ e h
        (λ bad. by_kind (tag_at_fails opens es values texts d k deep src utf8 (place_of s) s.openings_left few e opens' bad))
        (λ x read h.
        let stands = (tags.tag_sound (tag_values es d k) (opens k) (values d k deep) src utf8 cut (scope_of s.stack) (attributes_so_far s.stack s.done) (distinct_pairs (pairs_so_far s.stack s.done)) s.at x.1 s.openings_left x.0 opens' few read).0 in
        lifted_only (opened_by limit s x.0.tag x.0.empty x.0.openings_left x.1) e h
        (λ f bad is. refuses_here es P src f e is (opened_fails s x.0.tag x.1 x.0.openings_left x.0.empty f fine place stands.is_tag stands.well_named stands.attributes stands.pairs bad)))
      where
        few_pairs : length (distinct_pairs (pairs_so_far s.stack s.done)) ≤ most_pairs
        few_pairs = (fits_few limit s.stack s.done (fits_at s fine)).1

        by_kind : TagFails opens es values texts d k deep src utf8 (place_of s) s.openings_left few_pairs e → Refuses es P src e
        by_kind (itself f is ill) = refuses_here es P src f e is (stands_here s f place fine (in_tag f begins ill))
        by_kind (ill_value p c n v stop j tag_name as' name to spaces is_name eq literal ill) = refuses_by es src e (λ part f. in_one p c n v stop j tag_name as' name to spaces is_name eq literal part f) ill
          where
            in_one : (p c n v stop j : ℕ) (tag_name : Name) (as' : List Attribute) (name : Name) → TagTo (is_main k) (opens k) src (place_of s) p s.openings_left c tag_name as' → p < spaces_end src p → IsQName src (spaces_end src p) name n → IsEq src n v
                → IsAttValue src v stop j → (part : List ℕ) (f : Fault) → InPart opens es k src (v + 1) stop c part f → P part f
            in_one p c n v stop j tag_name as' name to spaces is_name eq literal part f (in_part l i stop' openings_left part_is ill) =
                at_point k open_around s.openings_left src (place_of s) part f place (fits_at s fine)
                (in_value
                (record {
                  read_to = p;
                  openings_left = c;
                  tag_name = tag_name;
                  written = as';
                  is_read = to;
                  has_space = spaces;
                  pair = record { name = name; name_end = n; first_quote = v; last_quote = stop; end = j; is_written = (is_name, eq, literal) };
                })
                l i stop' openings_left part f begins part_is ill)

    -- An end tag.
    end_step_fails : (s : State) (f : Fault) → is_content k s.stack ≡ true → open_around ≤ depth_of s.stack → AreOpened src open_around s.stack → IsValidState most s → Here k open_around src s → at word.EndTagStart src s.at ≡ true
        → end_step context src s ≡ Err f → P src f
    unfolding end_step
    end_step_fails s f inner le opened fine place is h =
        bind_err (end_tag_at src s.at) _ f h
        (λ bad. let w = end_fails src utf8 s.at f is bad in stands_here s f place fine (in_end f inner (lacks f w)))
        (λ x read h.
        let end = (markup.end_sound src s.at x.1 x.0 is read).0 in
        chosen (nat_le (depth_of s.stack) open_around) _ _ _ h
        (λ shallow h.
        let same : fault.UnexpectedEntityCloseTag s.at ≡ f = cc in
        let none : depth_of s.stack ≡ open_around = omega (arith, leb-true _ _ shallow) in
        subst (P src) same (stands_here s (fault.UnexpectedEntityCloseTag s.at) place fine (in_end (fault.UnexpectedEntityCloseTag s.at) inner (none_open x.0.name_end x.1 x.0.name none end))))
        (λ deep' h. closed_fails s.at x.0.name_end x.1 s.openings_left x.0.name s.done s.stack f inner (leb-false _ _ deep') opened place fine end h))

    -- A comment.
    comment_step_fails : (s : State) (f : Fault) → is_content k s.stack ≡ true → IsValidState most s → Here k open_around src s → at word.CommentStart src s.at ≡ true → comment_step limit src s ≡ Err f → P src f
    unfolding comment_step
    comment_step_fails s f inner fine place is h =
        bind_err (comment_at src s.at) _ f h
        (λ bad. stands_here s f place fine (in_misc f inner (comment_fails src utf8 s.at f is bad)))
        (λ x read h. over_here s (with_leaf s x.1 (Comment s.at x.1 x.0)) f place fine (a_misc x.1 s.openings_left (Comment s.at x.1 x.0) inner (comment_is src utf8 s.at x.1 x.0 is read)) (plain_few limit s (Comment s.at x.1 x.0) refl refl (fits_at s fine)) h)

    -- A processing instruction.
    instruction_step_fails : (s : State) (f : Fault) → is_content k s.stack ≡ true → IsValidState most s → Here k open_around src s → at word.PIStart src s.at ≡ true → instruction_step limit src s ≡ Err f → P src f
    unfolding instruction_step
    instruction_step_fails s f inner fine place is h =
        bind_err (instruction_at src s.at) _ f h
        (λ bad. stands_here s f place fine (in_misc f inner (instruction_fails src utf8 s.at f is bad)))
        (λ x read h. over_here s (with_leaf s x.1 (PI s.at x.1 x.0.target x.0.value)) f place fine (a_misc x.1 s.openings_left (PI s.at x.1 x.0.target x.0.value) inner (instruction_is src utf8 s.at x.1 x.0 is read))
        (plain_few limit s (PI s.at x.1 x.0.target x.0.value) refl refl (fits_at s fine)) h)

    -- A CDATA section.
    cdata_step_fails : (s : State) (f : Fault) → is_content k s.stack ≡ true → IsValidState most s → Here k open_around src s → at word.CDataStart src s.at ≡ true → cdata_step limit src s ≡ Err f → P src f
    unfolding cdata_step
    cdata_step_fails s f inner fine place is h =
        bind_err (cdata_at src s.at) _ f h
        (λ bad. let w = section_fails src utf8 s.at f is bad in stands_here s f place fine (in_section f inner is w))
        (λ x read h.
        let r = markup.cdata_sound src utf8 s.at x.1 x.0 is read in
        let item : List ℕ → Item = λ v. Text s.at x.1 (line_ends (literals v)) (not (list_any (λ b. b == 13) v)) in
        over_here s (with_leaf s x.1 (item x.0)) f place fine
        (subst (λ (v : List ℕ). StepsOver k (opens k) src (place_of s) s.openings_left (place_of (with_leaf s x.1 (item v))) s.openings_left) (sym r.2) (a_section r.0 x.1 s.openings_left inner r.1))
        (plain_few limit s (item x.0) refl refl (fits_at s fine)) h)

    -- One construct of content.
    pub step_fails : (opener_fails : OpenerFails opens es limit text declared PrologAt d k open_around most (contents d k deep) less least) (s : State) (e : Refusal) → is_content k s.stack ≡ true → open_around ≤ depth_of s.stack → s.at < length src
        → IsCharBoundary src s.at → AreOpened src open_around s.stack → IsValidState most s → Here k open_around src s → step context src s ≡ Err e → Refuses es P src e
    unfolding step
    step_fails opener_fails s e inner le within cut opened fine place h =
        chosen (not (byte src s.at == 60)) _ _ _ h
        (λ apart h. run_fails opens es limit text declared PrologAt d k open_around most (contents d k deep) less least opener_fails src utf8 s place fine inner within (eqb-false _ _ (not-true _ apart)) e cut h)
        (λ same h.
        let opens' : byte src s.at ≡ 60 = eqb-true _ _ (not-false _ same) in
        chosen (nat_le (length src) (s.at + 1)) _ _ _ h
        (λ last h. let is : here (fault.UnknownToken s.at) ≡ e = cc in
        refuses_here es P src (fault.UnknownToken s.at) e is (stands_here s (fault.UnknownToken s.at) place fine (unknown inner opens' (let l = leb-true _ _ last in inl (omega arith)))))
        (λ more h.
        let within' : s.at + 1 < length src = leb-false _ _ more in
        chosen (byte src (s.at + 1) == 33) _ _ _ h
        (λ mark h. chosen (at word.CommentStart src s.at) _ _ _ h
        (λ is h. lifted_only (comment_step limit src s) e h (λ f bad same. refuses_here es P src f e same (comment_step_fails s f inner fine place is bad)))
        (λ no h. chosen (at word.CDataStart src s.at) _ _ _ h
        (λ is h. lifted_only (cdata_step limit src s) e h (λ f bad same. refuses_here es P src f e same (cdata_step_fails s f inner fine place is bad)))
        (λ neither h. let is : here (fault.UnknownToken s.at) ≡ e = cc in
        refuses_here es P src (fault.UnknownToken s.at) e is (stands_here s (fault.UnknownToken s.at) place fine (unknown inner opens' (inr (eqb-true _ _ mark, no, neither)))))))
        (λ no_mark h. chosen (byte src (s.at + 1) == 63) _ _ _ h
        (λ mark h. lifted_only (instruction_step limit src s) e h
        (λ f bad same. refuses_here es P src f e same (instruction_step_fails s f inner fine place (stands_two 60 63 src s.at within' opens' (eqb-true _ _ mark)) bad)))
        (λ no_question h. chosen (byte src (s.at + 1) == 47) _ _ _ h
        (λ mark h. lifted_only (end_step context src s) e h
        (λ f bad same. refuses_here es P src f e same (end_step_fails s f inner le opened fine place (stands_two 60 47 src s.at within' opens' (eqb-true _ _ mark)) bad)))
        (λ no_slash h. tag_fails s e
        (subst (TagBegins src s.at) (sym inner) (in_content opens' within' (eqb-false _ _ no_mark) (eqb-false _ _ no_question) (eqb-false _ _ no_slash))) opens' fine place h)))))

  -- ---- replacement texts

  -- A replacement text ends where elements are open that it opened: row 31.
  ends_fail : (d k open_around : ℕ) (deep : d + suc k ≡ most_deep) (src : List ℕ) (utf8 : IsUtf8 src) (s : State) (e : Refusal) → open_around ≤ depth_of s.stack → IsValidState most s → Here (suc k) open_around src s → length src ≤ s.at
      → text_ends (context_at limit es d (suc k) open_around) s ≡ Err e → Refuses es P src e
  ends_fail d k open_around deep src utf8 s e le fine place past h =
      chosen (eqb (depth_of s.stack) open_around) _ _ _ h (λ same h. no_fault _ e h)
      (λ apart h.
      let more : open_around < depth_of s.stack = (let other = eqb-false _ _ apart in omega arith) in
      refuses_here es P src fault.UnexpectedEndOfStream e (cc h) (stands_here d (suc k) open_around deep src utf8 s fault.UnexpectedEndOfStream place fine (unclosed more past)))

  -- A replacement text whose content fails.
  text_fails : (d k open_around : ℕ) (deep : d + suc k ≡ most_deep) (src : List ℕ) (utf8 : IsUtf8 src) → OpenerFails opens es limit text declared PrologAt d (suc k) open_around most (contents d (suc k) deep) less least → (n : ℕ) (s : State) (e : Refusal)
      → open_around ≤ depth_of s.stack → length src ≤ s.at + n → IsCharBoundary src s.at → AreOpened src open_around s.stack → IsValidState most s → Here (suc k) open_around src s → drive_text (context_at limit es d (suc k) open_around) n src s ≡ Err e → Refuses es P src e
  unfolding drive_text
  text_fails d k open_around deep src utf8 opener_fails zero s e le enough cut opened fine place h = ends_fail d k open_around deep src utf8 s e le fine place (omega arith) h
  text_fails d k open_around deep src utf8 opener_fails (suc n) s e le enough cut opened fine place h =
      chosen (ltb s.at (length src)) _ _ _ h
      (λ below h.
      let within = ltb-true _ _ below in
      bind_err (step (context_at limit es d (suc k) open_around) src s) _ e h
      (λ bad. step_fails d (suc k) open_around deep src utf8 opener_fails s e refl le within cut opened fine place bad)
      (λ t read h.
      let one = step_takes d (suc k) open_around deep src utf8 s t within fine read in
      let moves = takes_moves d (suc k) open_around deep src utf8 s t one.0 in
      let le' = takes_deep false (opens (suc k)) src open_around s t one.0 le in
      text_fails d k open_around deep src utf8 opener_fails n t e le' (omega arith) (takes_cut false (opens (suc k)) src open_around utf8 s t one.0) (takes_opened false (opens (suc k)) src open_around s t one.0 opened) one.1
      (goes (suc k) open_around s.openings_left t.openings_left src (place_of s) (place_of t) place (takes_place d (suc k) open_around deep src utf8 s t refl one.0 one.1) refl le') h))
      (λ past h. ends_fail d k open_around deep src utf8 s e le fine place (ltb-false _ _ past) h)

  -- What is opened fails.
  opener_fails : (d k open_around : ℕ) (deep : d + k ≡ most_deep) → OpenerFails opens es limit text declared PrologAt d k open_around most (contents d k deep) less least
  unfolding opener
  opener_fails zero k open_around deep src j t name u e found fine spent place h = refuses_here es P src (fault.EntityReferenceLoop j) e (cc h) (spent (deepest k u.openings_left deep))
  opener_fails (suc d) k open_around deep src j t name u e found fine spent place h =
      let text' = texts name t found in
      lifted_err (budget (is_main k) j u.openings_left) _ e h
      (λ f bad is. let w = spent_here k j u.openings_left f bad in refuses_here es P src f e is (subst (P src) w.1 (spent w.0)))
      (λ r may h.
      let start = state t.start u.done u.stack r in
      elsewhere_err es t.source (drive_text (context_at limit es d (suc k) (depth_of u.stack)) (length t.source) t.source start) _ e h
      (λ c bad back.
      back P src (name, t, found)
      (text_fails d k (depth_of u.stack) (omega arith) t.source text'.0 (opener_fails d (suc k) (depth_of u.stack) (omega arith)) (length t.source) start c (omega arith) (omega arith) text'.1 (none_opened t.source (depth_of u.stack) u.stack (omega arith))
      (fine_there most u start refl refl fine) (place r (may_open k j u.openings_left r (omega arith) may)) bad))
      (λ x ok h. no_fault _ e h))

  -- ---- the main text

  module _ (utf8 : IsUtf8 text) where
    -- After a start tag.
    pub tag_goes : (s t : State) → Here 0 0 text s → Tagged true (opens 0) text 0 s t → IsValidState most t → is_root t.stack ≡ false → Here 0 0 text t
    tag_goes s t place (j, c, tag, empty, is, leads) fine inner =
        subst (Here 0 0 text) (sym leads) (goes_on empty is (subst (IsValidState most) leads fine) (subst (λ (t : State). is_root t.stack ≡ false) leads inner))
      where
        goes_on : (empty : Bool) → IsTag true (opens 0) text s.at j s.openings_left c empty tag → IsValidState most (after s j tag empty c) → is_root (after s j tag empty c).stack ≡ false → Here 0 0 text (after s j tag empty c)
        goes_on true is fine inner =
            goes 0 0 s.openings_left c text (place_of s) (place_of (after s j tag true c)) place
            (an_empty_tag j s.openings_left c tag is (fine_leaf most (state s.at s.done s.stack c) j (Element s.at j tag) fine).1.named) (is_open s.stack inner) (omega arith)
        goes_on false is fine inner =
            goes 0 0 s.openings_left c text (place_of s) (place_of (after s j tag false c)) place (a_start_tag j s.openings_left c tag is (fine_opened most s j tag j c fine).1.named) refl (omega arith)

    -- The main text ends at a place with an open tag: row 15.
    ends_open : (i openings_left : ℕ) (done : Forest Item) (stack : Open) → is_root stack ≡ false → length text ≤ i → Here 0 0 text (state i done stack openings_left) → IsValidState most (state i done stack openings_left) → P text fault.UnclosedRootNode
    ends_open i openings_left done root inner past place fine = cc inner
    ends_open i openings_left done (inside start tag before up) inner past place fine =
        stands_here most_deep 0 0 refl text utf8 (state i done (inside start tag before up) openings_left) fault.UnclosedRootNode place fine (unclosed (omega arith) past)

    -- Up to the end tag of the root element.
    pub drive_fails : (n : ℕ) (s : State) (e : Refusal) → (is_root s.stack ≡ false → Here 0 0 text s) → IsValidState most s → IsCharBoundary text s.at → AreOpened text 0 s.stack → length text ≤ s.at + n
        → drive (context_at limit es most_deep 0 0) n text s ≡ Err e → Refuses es P text e
    unfolding drive
    drive_fails zero s e place fine cut opened enough h = grind (arith, ends_open)
    drive_fails (suc n) s e place fine cut opened enough h =
        chosen (is_root s.stack) _ _ _ h (λ at_root h. no_fault _ e h)
        (λ inner h. chosen (ltb s.at (length text)) _ _ _ h
        (λ below h.
        let within = ltb-true _ _ below in
        let content = is_open s.stack inner in
        bind_err (step (context_at limit es most_deep 0 0) text s) _ e h
        (λ bad. step_fails most_deep 0 0 refl text utf8 (opener_fails most_deep 0 0 refl) s e content (omega arith) within cut opened fine (place inner) bad)
        (λ t read h.
        let one = step_takes most_deep 0 0 refl text utf8 s t within fine read in
        let moves = takes_moves most_deep 0 0 refl text utf8 s t one.0 in
        drive_fails n t e
        (λ inner'. goes 0 0 s.openings_left t.openings_left text (place_of s) (place_of t) (place inner) (takes_place most_deep 0 0 refl text utf8 s t content one.0 one.1) (is_open t.stack inner') (omega arith))
        one.1 (takes_cut true (opens 0) text 0 utf8 s t one.0) (takes_opened true (opens 0) text 0 s t one.0 opened) (omega arith) h))
        (λ past h. refuses_here es P text fault.UnclosedRootNode e (cc h) (ends_open s.at s.openings_left s.done s.stack inner (ltb-false _ _ past) (place inner) fine)))
