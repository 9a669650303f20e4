-- The way of a parse: the constructs of the main text, and of each replacement text that is opened in its content. Each
-- place that content reaches from the left lies on it.
use Rattle.std.proofs.Common.{◌≡◌, ◌≢◌, ℕ, zero, suc, ◌+◌, ◌-◌, ◌<◌, ◌≤◌, Bool, true, false, List, length, Some, refl, sym, ap, ◌∙◌, subst, arith, IsUtf8, IsCharBoundary}
use Rattle.rox_grammar.specs.Forest.{Forest, join}
use Rattle.rox_grammar.specs.Written.{Tag, Item}
use Rattle.rox_grammar.specs.Names.{byte, slice}
use Rattle.rox_grammar.specs.Constructs.{AreChars, IsCData, IsEnd}
use Rattle.rox_grammar.specs.FixedTexts.{at}
use Rattle.rox_grammar.specs.Content.{Inclusion, IsCharacterData, IsMisc, comment, instruction, Value, Content}
use Rattle.rox_grammar.proofs.TagParts.{tag_parts}
use Rattle.rox_grammar.proofs.RunParts.{Parts, PartsTo}
use Rattle.rox_grammar.specs.Entities.{Replacement, Entity, text_of, most_deep}
use Rattle.rox_grammar.specs.State as grammar
use Rattle.rox_grammar.specs.State.{Open, root, inside, is_root, depth_of}
use Rattle.rox_grammar.specs.ContentPoints.{is_main, is_content, StepsOver, a_run as takes_run, a_section, a_misc, an_empty_tag, a_start_tag, an_end_tag, MayOpen, ContentPoint, begins, goes, enters}
use Rattle.rox_reading.specs.State.{State}
use Rattle.rox_reading.specs.Machine.{value_opener, opener}
use Rattle.rox_reading.proofs.Forests.{join_assoc, merge-named}
use Rattle.rox_theory.specs.Openers.{AreTexts, AgreesValue, AgreesContent}
use Rattle.rox_theory.specs.ValidState.{AreNamed, IsValidState, state}
use Rattle.rox_theory.proofs.Productions.{comment_parts, pi_parts, cdata_parts, end_parts, char_data_parts}
use Rattle.rox_theory.proofs.Basics.{within}
use Rattle.rox_theory.proofs.Constructions.{Kind, a_run, a_comment, a_cdata, an_instruction, an_end, a_tag, nothing, kind_at, run_within, run_kind, comment_kind, cdata_kind, instruction_kind, end_kind, tag_kind, name_byte, cdata_bytes, end_bytes}
use Rattle.rox_theory.proofs.Standing.{item-named}
use Rattle.rox_theory.proofs.Leaves.{fine_before, named_before}
use Rattle.rox_theory.proofs.StepLemmas as steps
use Rattle.rox_theory.proofs.Flat as flat
use Rattle.rox_theory.proofs.Chains.{Drives}
use Rattle.rox_theory.proofs.Chains as chains
use Rattle.rox_theory.proofs.Around.{misc_within}
use Rattle.rox_theory.proofs.PartOnce.{OpensOnce}
use Rattle.rox_faults.proofs.PartFronts.{ToEntity, to_entity, OpenedThere, parts_front}
use Rattle.rox_theory.proofs.Once.{takes_once}
use Rattle.rox_faults.proofs.FaultPoints.{context_at}
use Rattle.rox_faults.proofs.FaultPlaces.{Tagged, takes_cut}

-- A state of the grammar, where so many texts may be opened.
abbrev pub state_of : grammar.State → ℕ → State
state_of s b = state s.at s.done s.stack b

-- What references open, by how many texts are open: in one way, and a text that is read in the same way.
pub record OpensAt (opens : ℕ → Inclusion) (es : List Entity) : Type 0 where
  pub texts : AreTexts es
  pub values : (d k : ℕ) → d + k ≡ most_deep → AgreesValue es (opens k) (value_opener es d (is_main k))
  pub contents : (limit d k : ℕ) → d + k ≡ most_deep → AgreesContent es limit (opens k) (opener limit es d (is_main k))
  pub once : (k : ℕ) → OpensOnce (opens k)
  pub content : (k b c : ℕ) (name : List ℕ) (items : Forest Item) → (opens k).content name b items c
      → (t : Replacement) × (r : ℕ) × (l : ℕ) × (text_of es name ≡ Some t) × MayOpen k b r × Content false (opens (suc k)) t.source t.start (length t.source) r l items
  pub value : (k b c : ℕ) (name : List ℕ) (v : List ℕ) → (opens k).value name b v c
      → (t : Replacement) × (r : ℕ) × (l : ℕ) × (text_of es name ≡ Some t) × MayOpen k b r × AreChars t.source t.start (length t.source)
      × Value false (opens (suc k)) t.source (length t.source) t.start r l v

-- One more text may be open.
pub may_deep : (k b r : ℕ) → MayOpen k b r → suc k ≤ most_deep
may_deep k b r may = may.0

-- A replacement text is what its name says.
pub same_text : (es : List Entity) (name : List ℕ) (t u : Replacement) → text_of es name ≡ Some t → text_of es name ≡ Some u → t ≡ u
same_text es name t u found found' = cc (sym found ∙ found')

-- ---- one construct after the other

module _ (main : Bool) (O : Inclusion) (src : List ℕ) (open_around : ℕ) where
  pub data Trail : State → State → Type 0 where
    stays : (s : State) → Trail s s
    follows : (s t u : State) → flat.StepsOver main O src open_around s t → Trail t u → Trail s u

  -- A replacement text.
  pub chain_trail : (s u : State) → flat.Chain main O src open_around s u → Trail s u
  chain_trail s u (flat.Chain.arrives _ at deep) = stays s
  chain_trail s u (flat.Chain.goes _ t _ takes rest) = follows s t u takes (chain_trail t u rest)

  -- Names that are in order after a construct were so before it.
  pub takes_named : (s t : State) → flat.StepsOver main O src open_around s t → AreNamed t.stack t.done → AreNamed s.stack s.done
  takes_named s t h named = grind (arith, named_before, item-named, merge-named)

  -- What is where a construct of a kind is taken.
  abbrev pub By : Kind → State → State → Type 0
  By a_run s t = (j : ℕ) × (items : Forest Item) × IsCharacterData src s.at j × Parts main O src s.at j s.at s.openings_left t.openings_left items × (t ≡ state j (join s.done items) s.stack t.openings_left)
  By a_comment s t = (j : ℕ) × (item : Item) × IsMisc src s.at j item
  By a_cdata s t = (e : ℕ) × (j : ℕ) × IsCData src s.at e j
  By an_instruction s t = (j : ℕ) × (item : Item) × IsMisc src s.at j item
  By an_end s t = (start : ℕ) × (tag : Tag) × (before : Forest Item) × (up : Open) × (n : ℕ) × (j : ℕ) × (s.stack ≡ inside start tag before up) × (open_around < depth_of up + 1) × IsEnd src s.at tag.name n j
  By a_tag s t = Tagged main O src open_around s t
  By nothing s t = ⊥

  -- Each construct is of the kind that is there.
  pub takes_by : (s t : State) → flat.StepsOver main O src open_around s t → By (kind_at src s.at) s t
  takes_by s t (flat.StepsOver.takes_run i j b c items done stack is parts) = grind (arith, run_within)
  takes_by s t (flat.StepsOver.takes_cdata i e j b done stack is) = subst (λ (k : Kind). By k (state i done stack b) t) (sym (cdata_kind src i (cdata_parts is).opens)) (e, j, is)
  takes_by s t (flat.StepsOver.takes_misc i j b item done stack is) = by_item item is
    where
      by_item : (item : Item) → IsMisc src i j item → By (kind_at src i) (state i done stack b) t
      by_item item (comment _ e _ is) = subst (λ (k : Kind). By k (state i done stack b) t) (sym (comment_kind src i (comment_parts is).opens)) (j, item, comment i e j is)
      by_item item (instruction _ n e _ is) = subst (λ (k : Kind). By k (state i done stack b) t) (sym (instruction_kind src i (pi_parts is).opens)) (j, item, instruction i n e j is)
  takes_by s t (flat.StepsOver.takes_empty i j b c tag done stack is) = grind (arith, tag_parts is, name_byte)
  takes_by s t (flat.StepsOver.takes_start i j b c tag done stack is) =
      let p = tag_parts is in
      subst (λ (k : Kind). By k (state i done stack b) t) (sym (tag_kind src i p.begins (name_byte src (i + 1) tag.name tag.name_end p.is_name))) (j, c, tag, false, is, refl)
  takes_by s t (flat.StepsOver.takes_end i p j b start tag done before up deep end) = grind (arith, end_kind, end_parts)

-- The main text from its root element on.
pub drives_trail : (O : Inclusion) (src : List ℕ) (s u : State) → Drives O src s u → Trail true O src 0 s u
drives_trail O src s u (chains.arrives _ at_root) = stays s
drives_trail O src s u (chains.goes _ t _ inner takes rest) = follows s t u takes (drives_trail O src t u rest)

-- A construct of a place is within the source.
pub place_within : (k : ℕ) (O : Inclusion) (src : List ℕ) (utf8 : IsUtf8 src) (s t : grammar.State) (b c : ℕ) → StepsOver k O src s b t c → s.at < length src
place_within k O src utf8 s t b c (takes_run j _ _ items inner is parts named) = (run_within src s.at j is).0
place_within k O src utf8 s t b c (a_section e j _ inner is) = let two = (cdata_bytes src s.at (cdata_parts is).opens).0 in omega arith
place_within k O src utf8 s t b c (a_misc j _ item inner is) = misc_within src utf8 s.at j item is
place_within k O src utf8 s t b c (an_empty_tag j _ _ x is named) = let begins = (tag_parts is).begins in within src s.at (λ z. omega arith)
place_within k O src utf8 s t b c (a_start_tag j _ _ x is named) = let begins = (tag_parts is).begins in within src s.at (λ z. omega arith)
place_within k O src utf8 s t b c (an_end_tag n j _ start x before up stack is) = let two = (end_bytes src s.at (end_parts is).opens).0 in omega arith

-- The elements that are open around the innermost one.
up_of : Open → Open → Open
up_of none root = none
up_of none (inside start tag before up) = up

-- ---- the way

-- Where it ends.
abbrev pub Ends : (k open_around : ℕ) → List ℕ → State → Type 0
Ends zero open_around src e = is_root e.stack ≡ true
Ends (suc k) open_around src e = (e.at ≡ length src) × (depth_of e.stack ≡ open_around)

module _ (opens : ℕ → Inclusion) (es : List Entity) (all : OpensAt opens es) (limit : ℕ) (W : Type 0) where
  -- A state lies on the way of a text, where k replacement texts are open: up to its end, which is well named, and within the limits if
  -- the parse is, which is what W says. Where no content stands the root element begins.
  pub record Reached (k open_around : ℕ) (src : List ℕ) (s : State) : Type 0 where
    pub d : ℕ
    pub deep : d + k ≡ most_deep
    pub utf8 : IsUtf8 src
    pub cut : IsCharBoundary src s.at
    pub end : State
    pub trail : Trail (is_main k) (opens k) src open_around s end
    pub ends : Ends k open_around src end
    pub fine : W → IsValidState limit end
    pub named : AreNamed end.stack end.done
    pub first : is_content k s.stack ≡ false → (s.at < end.at) × (kind_at src s.at ≡ a_tag)

  module _ (k open_around : ℕ) (src : List ℕ) (s : State) (r : Reached k open_around src s) where
    abbrev One : State → State → Type 0
    One s t = flat.StepsOver (is_main k) (opens k) src open_around s t

    -- A state on the way is within the limits if its end is.
    trail_fine : (t u : State) → Trail (is_main k) (opens k) src open_around t u → IsValidState limit u → IsValidState limit t
    trail_fine t u (stays _) fine = fine
    trail_fine t u (follows _ v _ takes rest) fine =
        steps.step_back (context_at limit es r.d k open_around) (opens k) (all.values r.d k r.deep) (all.contents limit r.d k r.deep) src r.utf8 t v takes (trail_fine v u rest fine)

    -- And its names are in order.
    trail_named : (t u : State) → Trail (is_main k) (opens k) src open_around t u → AreNamed u.stack u.done → AreNamed t.stack t.done
    trail_named t u (stays _) named = named
    trail_named t u (follows _ v _ takes rest) named = takes_named (is_main k) (opens k) src open_around t v takes (trail_named v u rest named)

    -- The construct that is there.
    pub record Step : Type 0 where
      pub to : State
      pub takes : flat.StepsOver (is_main k) (opens k) src open_around s to
      pub fine : W → IsValidState limit to
      pub named : AreNamed to.stack to.done
      pub rest : Trail (is_main k) (opens k) src open_around to r.end

    pub step_there : s.at < length src → Step
    step_there below = grind (arith, trail_fine, trail_named)

    -- Of this kind.
    pub there_by : (kind : Kind) → (below : s.at < length src) → kind_at src s.at ≡ kind → By (is_main k) (opens k) src open_around kind s (step_there below).to
    there_by kind below is = grind (arith, takes_by)

    -- Any construct that is there is the one on the way.
    pub one_step : (t : State) → flat.StepsOver (is_main k) (opens k) src open_around s t → (below : s.at < length src) → (step_there below).to ≡ t
    one_step t takes below =
        let there = step_there below in
        takes_once (context_at limit es r.d k open_around).values (opens k) (all.values r.d k r.deep) (all.once k) src r.utf8 open_around s there.to t there.takes takes

  -- ---- places

  module _ (k open_around b : ℕ) (src : List ℕ) (s : grammar.State) (r : Reached k open_around src (state_of s b)) where
    -- What is taken at a place on the way is a construct of its state.
    pub takes_there : (t : grammar.State) (c : ℕ) → StepsOver k (opens k) src s b t c → flat.StepsOver (is_main k) (opens k) src open_around (state_of s b) (state_of t c)
    unfolding up_of
    takes_there t c (takes_run j _ _ items inner is parts named) = flat.StepsOver.takes_run s.at j b c items s.done s.stack is parts
    takes_there t c (a_section e j _ inner is) = flat.StepsOver.takes_cdata s.at e j b s.done s.stack is
    takes_there t c (a_misc j _ item inner is) = flat.StepsOver.takes_misc s.at j b item s.done s.stack is
    takes_there t c (an_empty_tag j _ _ x is named) = flat.StepsOver.takes_empty s.at j b c x s.done s.stack is
    takes_there t c (a_start_tag j _ _ x is named) = flat.StepsOver.takes_start s.at j b c x s.done s.stack is
    takes_there t c (an_end_tag n j _ start x before up stack is) =
        let below : s.at < length src = let two = (end_bytes src s.at (end_parts is).opens).0 in omega arith in
        let there = there_by k open_around src (state_of s b) r an_end below (end_kind src s.at (end_parts is).opens) in
        let deep : open_around < depth_of up + 1 = subst (λ (up : Open). open_around < depth_of up + 1) (ap (up_of root) (sym there.6 ∙ stack)) there.7 in
        subst (λ (o : Open). flat.StepsOver (is_main k) (opens k) src open_around (state s.at s.done o b) (state_of t b)) (sym stack) (flat.StepsOver.takes_end s.at n j b start x s.done before up deep is)

    -- And leads on along the way.
    goes_reached : (t : grammar.State) (c : ℕ) → StepsOver k (opens k) src s b t c → is_content k t.stack ≡ true → Reached k open_around src (state_of t c)
    goes_reached t c takes inner =
        let same = one_step k open_around src (state_of s b) r (state_of t c) (takes_there t c takes) (place_within k (opens k) src r.utf8 s t b c takes) in
        grind (arith, takes_cut)

    -- The run that is there.
    pub record RunThere (stop : ℕ) : Type 0 where
      pub openings_left : ℕ
      pub items : Forest Item
      pub parts : Parts (is_main k) (opens k) src s.at stop s.at b openings_left items
      pub fine : W → IsValidState limit (state stop (join s.done items) s.stack openings_left)
      pub named : AreNamed s.stack (join s.done items)

    pub run_there : s.at < length src → byte src s.at ≢ 60 → (stop : ℕ) × IsCharacterData src s.at stop × RunThere stop
    run_there below other = grind (arith, there_by k open_around src (state_of s b) r a_run below (run_kind src s.at other))

    -- Where it is read up to a reference, that opens a text there.
    pub opened_there : (stop p c j : ℕ) (front : Forest Item) (t : Replacement) → IsCharacterData src s.at stop → PartsTo (is_main k) (opens k) src s.at stop s.at p b c front → p < stop → (refers : ToEntity es src p j t)
        → (run : RunThere stop) × OpenedThere (is_main k) (opens k) (all.once k) src s.at stop p refers.0 j c run.openings_left front run.items
    opened_there stop p c j front t is to below refers =
        let inside = run_within src s.at stop is in
        let there = run_there inside.0 inside.1 in
        let run : RunThere stop = subst RunThere ((char_data_parts there.1).end ∙ sym (char_data_parts is).end) there.2 in
        (run, parts_front (is_main k) (opens k) (all.once k) src s.at stop p s.at refers.0 j b c run.openings_left front run.items to run.parts below refers.1 refers.2)

    -- So the way leads into that text.
    enters_reached : (stop p c j q : ℕ) (front : Forest Item) (t : Replacement) → IsCharacterData src s.at stop → PartsTo (is_main k) (opens k) src s.at stop s.at p b c front → p < stop → ToEntity es src p j t → MayOpen k c q
        → Reached (suc k) (depth_of s.stack) t.source (state t.start (join s.done front) s.stack q)
    enters_reached stop p c j q front t is to below refers may =
        let there = opened_there stop p c j front t is to below refers in
        let run = there.0 in let found = there.1 in
        let x = all.content k c found.openings_left (slice src (p + 1) refers.0) found.opened found.opens in
        let text = all.texts (slice src (p + 1) refers.0) t refers.3 in
        let done = join s.done front in
        let end : State = state (length t.source) (join done found.opened) s.stack x.2 in
        let split : join s.done run.items ≡ join (join done found.opened) found.rest = grind (arith, join_assoc) in
        let fine : W → IsValidState limit (state stop (join (join done found.opened) found.rest) s.stack run.openings_left) = λ w. subst (λ (f : Forest Item). IsValidState limit (state stop f s.stack run.openings_left)) split (run.fine w) in
        let named : AreNamed s.stack (join (join done found.opened) found.rest) = subst (λ (f : Forest Item). AreNamed s.stack f) split run.named in
        let chain = flat.text_complete (opens (suc k)) t.source t.start q x.2 done found.opened s.stack (grind arith) in
        record {
          d = most_deep - suc k;
          deep = let more = may_deep k c q may in omega arith;
          utf8 = text.0;
          cut = text.1;
          end = end;
          trail = chain_trail false (opens (suc k)) t.source (depth_of s.stack) (state t.start done s.stack q) end chain;
          ends = (refl, refl);
          fine = λ w. fine_before limit (length t.source) stop x.2 run.openings_left (join done found.opened) found.rest s.stack (fine w);
          named = named_before s.stack (join done found.opened) found.rest named;
          first = λ top. cc top;
        }

  -- Each place lies on the way.
  pub place_reached : (text : List ℕ) (Root : ℕ → Forest Item → Type 0) → ((p : ℕ) (items : Forest Item) → Root p items → Reached 0 0 text (state p items root 255))
      → (k open_around b : ℕ) (src : List ℕ) (s : grammar.State) → ContentPoint opens es text Root k open_around src b s → Reached k open_around src (state_of s b)
  place_reached text Root at_root k open_around b src s (begins p items is) = at_root p items is
  place_reached text Root at_root k open_around b src s (goes _ _ c _ _ r _ place takes inner deep) = goes_reached k open_around c src r (place_reached text Root at_root k open_around c src r place) s b takes inner
  place_reached text Root at_root k open_around b src s (enters l other c _ source r run place inner named may) =
      enters_reached l other c source r (place_reached text Root at_root l other c source r place) run.run_end run.reference run.openings_left run.after b run.front run.replacement run.is_run run.is_front run.within_run
      (to_entity es source run.reference run.after run.replacement run.refers) may
