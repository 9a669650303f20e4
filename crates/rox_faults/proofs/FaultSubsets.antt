-- A document type declaration that fails, or is cut off by the end of the text: which of its rows stands, and what was asked until then.
use Rattle.std.proofs.Common.{◌≡◌, ◌≢◌, ℕ, zero, suc, ◌+◌, ◌-◌, ◌<◌, ◌≤◌, ◌⊎◌, max, ◌==◌, ◌||◌, true, false, nat_lt, nat_le, List, [], ◌++◌, length, refl, sym, ap, ◌∙◌, subst, arith, inl, inr, append_assoc, IsUtf8, IsCharBoundary, append-nil}
use Rattle.std.specs.Prelude.{Result, Ok, Err, Option, Some}
use Rattle.std.proofs.lemmas.Bool.{cases_Bool, cond_both, eqb-true, eqb-false, leb-false, leb-true, ltb-true, ltb-false, or_cases, or_parts, true≢false}
use Rattle.rox_grammar.specs.declared.fault.Fault.{Fault}
use Rattle.rox_grammar.specs.declared.fault.Fault.TheVariants as fault
use Rattle.rox_grammar.specs.declared.fault.Due.TheVariants as due
use Rattle.rox_grammar.specs.declared.fault.Word.TheVariants as word
use Rattle.rox_grammar.specs.FixedTexts.{word_text, at}
use Rattle.rox_grammar.specs.Chars.{is_space}
use Rattle.rox_grammar.specs.Search.{byte_from}
use Rattle.rox_grammar.specs.Forest.{Forest, Nil, join}
use Rattle.rox_grammar.specs.Written.{Item, Comment, PI, leaf}
use Rattle.rox_grammar.specs.Tree.{scope_in}
use Rattle.rox_grammar.specs.Names.{byte, spaces_end}
use Rattle.rox_grammar.specs.Content.{IsMisc, comment, instruction}
use Rattle.rox_grammar.specs.TextStart.{after_bom}
use Rattle.rox_grammar.specs.Entities.{Replacement, Entity}
use Rattle.rox_grammar.specs.Doctype.{Request, Asked, IsDefinition, internal, external, Subset, no_more, space, an_item, skipped_declaration, an_entity, BeginsDoctype, doctype_begins, IsDoctype, no_subset, with_subset, entry, SubsetTo, subset_to, IsPassed}
use Rattle.rox_grammar.specs.State.{root, nodes_so_far, FitsLimits}
use Rattle.rox_grammar.specs.Due.{Misses, none_left, DueInXmlDecl}
use Rattle.rox_faults.proofs.DueForms.{subset_or_end, no_end, no_subset_or_end}
use Rattle.rox_grammar.specs.Due as dues
use Rattle.rox_grammar.specs.Faults.{in_one, one_too_many}
use Rattle.rox_grammar.specs.FaultsWithDoctype.{InDoctype, head_lacks, no_name, not_passed, in_entity, entity_open, entity_cut, in_answer, end_lacks, unknown, in_subset, in_miscs}
use Rattle.rox_reading.specs.Lexical.{byte_at, space_at}
use Rattle.rox_reading.specs.Markup.{comment_at, instruction_at}
use Rattle.rox_reading.specs.Refusals.{Refusal, here, there, refused, lifted}
use Rattle.rox_reading.specs.State.{State}
use Rattle.rox_reading.specs.Machine.{with_item, comment_step, instruction_step, at_place}
use Rattle.rox_reading.specs.Doctype as reading
use Rattle.rox_reading.specs.Doctype.{Reply, Asks, asks_nothing, ◌>>>◌, Dtd, with_state, IsTextReply, AreTextReplies, next_reply, other_replies, replied, EntityHead, entity_head_at, Definition, inner, outer, definition_at, answer_text, defined, entity_step, subset_end, subset, name_or_end_at, external_id_if, doctype_head_at, doctype_step}
use Rattle.rox_reading.proofs.Forests.{join-nil, join_assoc}
use Rattle.rox_reading.proofs.Settling.{once}
use Rattle.rox_theory.specs.ValidState.{IsValidState, state}
use Rattle.rox_theory.proofs.Productions.{comment_parts, pi_parts}
use Rattle.rox_theory.proofs.Basics.{ok_same, bind_ok, chosen, run_end_le}
use Rattle.rox_faults.proofs.NameSpans.{cut_behind}
use Rattle.rox_theory.proofs.DeclarationLemmas.{stands_reads}
use Rattle.rox_theory.proofs.LiteralLemmas.{from_here}
use Rattle.rox_theory.proofs.Places.{over_spaces}
use Rattle.rox_theory.proofs.Leaves.{item_read, fine_there}
use Rattle.rox_theory.proofs.Around.{ends_cut, misc_ends, misc_moves, misc_plain, comment_is, instruction_is}
use Rattle.rox_theory.proofs.DoctypeParts.{declaration_parts, notation_past, asks_at, IsPassedOver, passed_first}
use Rattle.rox_theory.proofs.DoctypeLemmas.{head_sound, definition_sound, doctype_head_sound, space_sound, name_or_end, if_sound}
use Rattle.rox_theory.proofs.EntityLemmas.{answer_sound, EntityRead, EntityOutcome, entity_outcome, entity_moves, next_text}
use Rattle.rox_theory.proofs.Subsets.{passed_moves}
use Rattle.rox_theory.proofs.FailedReadings.{bind_err, no_fault, byte_fails}
use Rattle.rox_faults.proofs.FaultRows.{comment_fails, instruction_fails}
use Rattle.rox_faults.proofs.FaultPoints.{fine_fits}
use Rattle.rox_faults.proofs.FaultWhole.{no_more_space, declaration_fails}
use Rattle.rox_faults.proofs.FaultDeclared.{head_fails, definition_fails, doctype_head_fails}

-- ---- one after the other

-- What asks nothing.
pub nothing_by : {A B : Type 0} (P : Asks B → Type 0) (r : Result A Fault) (g : A → Asks B) → ((x : A) → r ≡ Ok x → P (g x)) → ((f : Fault) → r ≡ Err f → P ([], Err (here f))) → P (asks_nothing (lifted r) >>> g)
nothing_by P r g good bad = grind arith

-- And what asks.
pub asks_by : {A B : Type 0} (P : Asks B → Type 0) (r : Asks A) (g : A → Asks B) → ((asked : List Asked) (x : A) → r ≡ (asked, Ok x) → P (asked ++ (g x).0, (g x).1))
    → ((asked : List Asked) (e : Refusal) → r ≡ (asked, Err e) → P (asked, Err e)) → P (r >>> g)
asks_by P r g good bad = grind arith

-- A request, by its reply and the text that it gives.
outer_by : {B : Type 0} (P : Asks B → Type 0) (request : Request) (j : ℕ) (reply : Reply) (rs : List Reply) (g : Option Replacement × List Reply → Asks B) → ((message : List ℕ) → P ([], Err (refused request j message)))
    → ((answer : Option (List ℕ)) (e : Refusal) → reply ≡ Ok answer → answer_text answer ≡ Err e → P (once request answer, Err e))
    → ((answer : Option (List ℕ)) (text : Option Replacement) → reply ≡ Ok answer → answer_text answer ≡ Ok text → P (once request answer ++ (g (text, rs)).0, (g (text, rs)).1))
    → P (replied request j reply >>> (λ t. ([], Ok (t, rs))) >>> g)
outer_by P request j (Err message) rs g own ill good = own message
outer_by P request j (Ok answer) rs g own ill good = grind arith

-- What an answer's declaration lacks.
answer_fails : (answer : Option (List ℕ)) (e : Refusal) → IsTextReply (Ok answer) → answer_text answer ≡ Err e
    → (t : List ℕ) × (f : Fault) × (answer ≡ Some t) × IsUtf8 t × (there t f ≡ e) × (at word.XmlDeclStart t (after_bom t) ≡ true) × Misses t (DueInXmlDecl t (after_bom t)) f
unfolding answer_text
answer_fails answer e h k = grind (arith, declaration_fails)

-- A byte that is required past the end.
byte_past : (b : ℕ) (src : List ℕ) (i : ℕ) (f : Fault) → length src ≤ i → byte_at b src i ≡ Err f → fault.UnexpectedEndOfStream ≡ f
unfolding byte_at
byte_past b src i f past h = chosen (nat_le (length src) i) _ _ _ h (λ out h. cc) (λ inside h. absurd (omega (arith, leb-false _ _ inside)))

-- Items of two rows, one after the other.
pub subset_then : (src : List ℕ) (i j k : ℕ) (xs ys : Forest Item) (a b : List Asked) (es fs : List Entity) → Subset src i j xs a es → Subset src j k ys b fs → Subset src i k (join xs ys) (a ++ b) (es ++ fs)
subset_then src i j k xs ys a b es fs (no_more _) rest = rest
subset_then src i j k xs ys a b es fs (space _ _ _ _ _ is more) rest = space i k (join xs ys) (a ++ b) (es ++ fs) is (subset_then src (i + 1) j k xs ys a b es fs more rest)
subset_then src i j k xs ys a b es fs (an_item _ l _ item items _ _ is more) rest = an_item i l k item (join items ys) (a ++ b) (es ++ fs) is (subset_then src l j k items ys a b es fs more rest)
subset_then src i j k xs ys a b es fs (skipped_declaration _ _ _ _ _ opens closes more) rest = skipped_declaration i k (join xs ys) (a ++ b) (es ++ fs) opens closes (subset_then src _ j k xs ys a b es fs more rest)
subset_then src i j k xs ys a b es fs (an_entity _ l _ _ first asked one others is more) rest =
    subst (λ (d : List Entity). Subset src i k (join xs ys) ((first ++ asked) ++ b) d) (sym (append_assoc one others fs))
    (subst (λ (c : List Asked). Subset src i k (join xs ys) c (one ++ (others ++ fs))) (sym (append_assoc first asked b))
    (an_entity i l k (join xs ys) first (asked ++ b) one (others ++ fs) is (subset_then src l j k xs ys asked b others fs more rest)))

-- The last byte of a comment or an instruction is `>`.
misc_last : (src : List ℕ) (i j : ℕ) (item : Item) → IsMisc src i j item → is_space (byte src (j - 1)) ≡ false
misc_last src i j item (comment _ e _ is) =
    let last : j - 1 ≡ e + 2 = omega (arith, (comment_parts is).next) in
    let b : byte src (e + 2) ≡ 62 = stands_reads (word_text word.CommentEnd) src e 2 (comment_parts is).closes (omega arith) in
    rw (last, b) refl
misc_last src i j item (instruction _ n e _ is) =
    let last : j - 1 ≡ e + 1 = omega (arith, (pi_parts is).next) in
    let b : byte src (e + 1) ≡ 62 = stands_reads (word_text word.PIEnd) src e 1 (pi_parts is).closes (omega arith) in
    rw (last, b) refl

-- After a byte that is no white space.
solid_behind : (src : List ℕ) (j k b : ℕ) → j ≡ k + 1 → byte src k ≡ b → is_space b ≡ false → is_space (byte src (j - 1)) ≡ false
solid_behind src j k b next is solid = let last : j - 1 ≡ k = omega arith in rw (last, is) solid

module _ (src : List ℕ) (utf8 : IsUtf8 src) (limit most : ℕ) (less : limit ≤ most) (least : most ≤ max limit 1) (i : ℕ) (before : Forest Item) where
  abbrev In : List Asked → List ℕ → Fault → Type 0
  In asked source f = InDoctype limit src i before asked source f

  -- The refusal is in the declaration.
  abbrev pub Stands : List Asked → Refusal → Type 0
  Stands asked (here f) = In asked src f
  Stands asked (there source f) = In asked source f
  Stands asked (refused request p message) = Unit {0}

  -- After nothing that is asked.
  here_now : (asked : List Asked) (f : Fault) → In asked src f → In (asked ++ []) src f
  here_now asked f is = subst (λ (a : List Asked). In a src f) (sym (append-nil asked)) is

  -- ---- the declaration of an entity

  abbrev EntityFails : List Asked → Asks Dtd → Type 0
  EntityFails asked0 (asked, Ok e) = Unit {0}
  EntityFails asked0 (asked, Err e) = Stands (asked0 ++ asked) e

  module _ (asked0 : List Asked) (d : Dtd) (items : Forest Item) (to : SubsetTo src i d.state.at items asked0) (fits : FitsLimits limit root (join before items)) (opens : at word.EntityStart src d.state.at ≡ true)
      (texts : AreTextReplies d.replies) where
    -- The end of one that asks nothing.
    inner_fails : (head : EntityHead × ℕ) (t : Replacement) (j : ℕ) (f : Fault) → entity_head_at src d.state.at ≡ Ok head → definition_at head.0.parameter src head.1 ≡ Ok (inner t, j) → byte_at 62 src (spaces_end src j) ≡ Err f
        → In (asked0 ++ []) src f
    inner_fails head t j f is_head is ill =
        let begun = head_sound src d.state.at head opens is_head in
        let s = definition_sound head.0.parameter src head.1 (inner t, j) is in
        let definition : IsDefinition src head.0.parameter head.1 j [] (Some t) = subst (λ (t : Replacement). IsDefinition src head.0.parameter head.1 j [] (Some t)) (sym s.2) (internal head.1 s.0 j s.1) in
        in_subset d.state.at items asked0 _ _ _ to fits (entity_open begun.0 begun.1 head.1 j head.0.parameter [] (Some t) f begun.2 definition (byte_fails 62 src (spaces_end src j) f ill))

    -- And of one that asks.
    outer_fails : (head : EntityHead × ℕ) (request : Request) (j : ℕ) (answer : Option (List ℕ)) (text : Option Replacement) (f : Fault) → entity_head_at src d.state.at ≡ Ok head
        → definition_at head.0.parameter src head.1 ≡ Ok (outer request, j) → next_reply d.replies ≡ Ok answer → answer_text answer ≡ Ok text → byte_at 62 src (spaces_end src j) ≡ Err f → In (asked0 ++ once request answer) src f
    outer_fails head request j answer text f is_head is replied' read ill =
        let begun = head_sound src d.state.at head opens is_head in
        let s = definition_sound head.0.parameter src head.1 (outer request, j) is in
        let gives = answer_sound answer text (subst IsTextReply replied' (next_text d.replies texts).0) read in
        elim s.2 as (λ _. In (asked0 ++ once request answer) src f) [
          | inl may ↦ in_subset d.state.at items asked0 _ _ _ to fits (entity_open begun.0 begun.1 head.1 j head.0.parameter (once request answer) text f begun.2 (external head.1 s.0 j request answer text s.1 may gives) (byte_fails 62 src (spaces_end src j) f ill))
          | inr cuts ↦ (
              subst (In (asked0 ++ once request answer) src) (byte_past 62 src (spaces_end src j) f (omega (arith, notation_past cuts, run_end_le is_space src j)) ill)
              (in_subset d.state.at items asked0 _ _ _ to fits (entity_cut j request answer text (asks_at head.0.parameter begun.0 begun.1 head.1 s.0 begun.2 s.1 (inr cuts)) (notation_past cuts) gives)))
        ]

    -- The declaration of an answer.
    answer_stands : (head : EntityHead × ℕ) (request : Request) (j : ℕ) (answer : Option (List ℕ)) (e : Refusal) → entity_head_at src d.state.at ≡ Ok head → definition_at head.0.parameter src head.1 ≡ Ok (outer request, j)
        → next_reply d.replies ≡ Ok answer → answer_text answer ≡ Err e → Stands (asked0 ++ once request answer) e
    answer_stands head request j answer e is_head is replied' ill =
        let begun = head_sound src d.state.at head opens is_head in
        let s = definition_sound head.0.parameter src head.1 (outer request, j) is in
        let w = answer_fails answer e (subst IsTextReply replied' (next_text d.replies texts).0) ill in
        let t = w.0 in
        subst (λ (a : Option (List ℕ)). Stands (asked0 ++ once request a) e) (sym w.2)
        (subst (Stands (asked0 ++ once request (Some t))) w.4
        (in_subset d.state.at items asked0 _ _ _ to fits (in_answer j request t w.1 (asks_at head.0.parameter begun.0 begun.1 head.1 s.0 begun.2 s.1 s.2) w.3 w.5 w.6)))

    pub entity_fails : EntityFails asked0 (entity_step src d)
    unfolding entity_step
    entity_fails =
        nothing_by (EntityFails asked0) (entity_head_at src d.state.at) _
        (λ head is_head. nothing_by (EntityFails asked0) (definition_at head.0.parameter src head.1) _ (λ x is. by_definition head is_head x.0 x.1 is)
        (λ f ill.
        let begun = head_sound src d.state.at head opens is_head in
        let w = definition_fails src d.state.at begun.0 begun.1 head.1 head.0.parameter f begun.2 ill in
        here_now asked0 f (in_subset d.state.at items asked0 _ _ _ to fits (in_entity f opens w))))
        (λ f ill. let w = head_fails src d.state.at f ill in here_now asked0 f (in_subset d.state.at items asked0 _ _ _ to fits (in_entity f opens w)))
      where
        by_definition : (head : EntityHead × ℕ) → entity_head_at src d.state.at ≡ Ok head → (x : Definition) (j : ℕ) → definition_at head.0.parameter src head.1 ≡ Ok (x, j)
            → EntityFails asked0 (defined x j d.replies >>> λ text. asks_nothing (lifted (byte_at 62 src (spaces_end src j))) >>> λ end. asks_nothing (Ok (record { state = at_place end.1 d.state; entities = d.entities ++ entry head.0.name text.0; replies = text.1 })))
        by_definition head is_head (inner t) j is =
            nothing_by (EntityFails asked0) (byte_at 62 src (spaces_end src j)) _ (λ end closes. tt) (λ f ill. inner_fails head t j f is_head is ill)
        by_definition head is_head (outer request) j is =
            outer_by (EntityFails asked0) request j (next_reply d.replies) (other_replies d.replies) _ (λ message. tt)
            (λ answer e replied' ill. answer_stands head request j answer e is_head is replied' ill)
            (λ answer text replied' read. nothing_by (λ r. EntityFails asked0 (once request answer ++ r.0, r.1)) (byte_at 62 src (spaces_end src j)) _ (λ end closes. tt)
            (λ f ill. outer_fails head request j answer text f is_head is replied' read ill))

  -- ---- items

  -- What is read of the items so far.
  pub record So (s : ℕ) (asked0 : List Asked) (d : Dtd) : Type 0 where
    pub items : Forest Item
    pub read : Subset src (s + 1) d.state.at items asked0 d.entities
    pub state_is : d.state ≡ state d.state.at (join before items) root 255
    pub solid : is_space (byte src (d.state.at - 1)) ≡ false

  -- How they end: with the declaration, or with the text.
  pub data Ended (all : List Asked) (e : Dtd) : Type 0 where
    closed : (items : Forest Item) → IsDoctype src i e.state.at items all e.entities → e.state ≡ state e.state.at (join before items) root 255 → IsCharBoundary src e.state.at → IsValidState most e.state → Ended all e
    cut_off : (items : Forest Item) → SubsetTo src i (length src) items all → e.state ≡ state (length src) (join before items) root 255 → is_space (byte src (length src - 1)) ≡ false → IsValidState most e.state → Ended all e

  abbrev pub Outcome : List Asked → Asks Dtd → Type 0
  Outcome asked0 (asked, Ok e) = Ended (asked0 ++ asked) e
  Outcome asked0 (asked, Err e) = Stands (asked0 ++ asked) e

  -- After more that is asked.
  outcome_after : (a b : List Asked) (r : Asks Dtd) → Outcome (a ++ b) r → Outcome a (b ++ r.0, r.1)
  outcome_after a b r h = grind (arith, append_assoc)

  module _ (s : ℕ) (begins : BeginsDoctype src i s) (bracket : byte src s ≡ 91) where
    -- One turn: what is after white space.
    module _ (asked0 : List Asked) (d : Dtd) (so : So s asked0 d) (cut : IsCharBoundary src d.state.at) (fine : IsValidState most d.state) where
      abbrev spaced : Dtd
      spaced = with_state d (at_place (spaces_end src d.state.at) d.state)

      -- The items are read up to there.
      read_to : Subset src (s + 1) (spaces_end src d.state.at) so.items asked0 d.entities
      read_to =
          let k = spaces_end src d.state.at in
          let white : Subset src d.state.at k Nil [] [] = (over_spaces src (λ (m : ℕ). Subset src m k Nil [] []) d.state.at utf8 cut (λ m is rest. space m k Nil [] [] is rest)).1 (no_more k) in
          grind (arith, join-nil, append-nil, subset_then)

      to_here : SubsetTo src i (spaces_end src d.state.at) so.items asked0
      to_here = subset_to s d.entities begins bracket read_to

      fits : FitsLimits limit root (join before so.items)
      fits = fine_fits limit most (state d.state.at (join before so.items) root 255) least (subst (IsValidState most) so.state_is fine)

      fine_here : IsValidState most (state (spaces_end src d.state.at) (join before so.items) root 255)
      fine_here = fine_there most (state d.state.at (join before so.items) root 255) (state (spaces_end src d.state.at) (join before so.items) root 255) refl refl (subst (IsValidState most) so.state_is fine)

      -- Where reading continues after white space.
      place_is : spaced.state ≡ state (spaces_end src d.state.at) (join before so.items) root 255
      place_is = ap (λ (t : State). state (spaces_end src d.state.at) t.done t.stack t.openings_left) so.state_is

      -- A comment or an instruction.
      item_goes : (j : ℕ) (item : Item) (t : State) → IsMisc src (spaces_end src d.state.at) j item → with_item limit spaced.state j item ≡ Ok t
          → So s asked0 (with_state spaced t) × IsCharBoundary src t.at × IsValidState most t × (d.state.at < t.at)
      item_goes j item t is added =
          let k = spaces_end src d.state.at in
          let plain = misc_plain src utf8 k j item is in
          let added' : with_item limit (state k (join before so.items) root 255) j item ≡ Ok t = subst (λ (u : State). with_item limit u j item ≡ Ok t) place_is added in
          let r = item_read limit most (state k (join before so.items) root 255) t j item less plain.0 plain.1 (plain.2 (scope_in [] item)) fine_here added' in
          let one : Subset src k j (leaf item) [] [] = an_item k j j item Nil [] [] is (no_more j) in
          let read' : Subset src (s + 1) j (join so.items (leaf item)) asked0 d.entities =
          subst (λ (a : List Asked). Subset src (s + 1) j (join so.items (leaf item)) a d.entities) (append-nil asked0)
          (subst (λ (es : List Entity). Subset src (s + 1) j (join so.items (leaf item)) (asked0 ++ []) es) (append-nil d.entities) (subset_then src (s + 1) k j so.items (leaf item) asked0 [] d.entities [] read_to one)) in
          let moves = misc_moves src utf8 k j item is in
          grind (arith, run_end_le, join_assoc, misc_last, ends_cut, misc_ends)

      item_over : (j : ℕ) (item : Item) (f : Fault) → IsMisc src (spaces_end src d.state.at) j item → with_item limit spaced.state j item ≡ Err f → In (asked0 ++ []) src f
      item_over j item f is bad =
          let k = spaces_end src d.state.at in
          let bad' : with_item limit (state k (join before so.items) root 255) j item ≡ Err f = subst (λ (u : State). with_item limit u j item ≡ Err f) place_is bad in
          chosen (nat_le (nodes_so_far root (join (join before so.items) (leaf item))) limit) _ _ _ bad' (λ fewer bad. no_fault _ f bad)
          (λ more bad. let same : fault.NodesLimitReached ≡ f = cc in
          here_now asked0 f (subst (In asked0 src) same (in_subset k so.items asked0 _ _ _ to_here fits (in_miscs _ (one_too_many j item is (leb-false _ _ more))))))

      -- A comment.
      comment_taken : (t : State) → at word.CommentStart src (spaces_end src d.state.at) ≡ true → comment_step limit src spaced.state ≡ Ok t → So s asked0 (with_state spaced t) × IsCharBoundary src t.at × IsValidState most t × (d.state.at < t.at)
      unfolding comment_step
      comment_taken t is h =
          let k = spaces_end src d.state.at in
          bind_ok (comment_at src k) _ _ h (λ x read h. item_goes x.1 (Comment k x.1 x.0) t (comment_is src utf8 k x.1 x.0 is read) h)

      comment_ill : (f : Fault) → at word.CommentStart src (spaces_end src d.state.at) ≡ true → comment_step limit src spaced.state ≡ Err f → In (asked0 ++ []) src f
      unfolding comment_step
      comment_ill f is h =
          let k = spaces_end src d.state.at in
          bind_err (comment_at src k) _ f h (λ bad. here_now asked0 f (in_subset k so.items asked0 _ _ _ to_here fits (in_miscs _ (in_one f (comment_fails src utf8 k f is bad)))))
          (λ x read h. item_over x.1 (Comment k x.1 x.0) f (comment_is src utf8 k x.1 x.0 is read) h)

      -- A processing instruction.
      instruction_taken : (t : State) → at word.PIStart src (spaces_end src d.state.at) ≡ true → instruction_step limit src spaced.state ≡ Ok t → So s asked0 (with_state spaced t) × IsCharBoundary src t.at × IsValidState most t × (d.state.at < t.at)
      unfolding instruction_step
      instruction_taken t is h =
          let k = spaces_end src d.state.at in
          bind_ok (instruction_at src k) _ _ h (λ x read h. item_goes x.1 (PI k x.1 x.0.target x.0.value) t (instruction_is src utf8 k x.1 x.0 is read) h)

      instruction_ill : (f : Fault) → at word.PIStart src (spaces_end src d.state.at) ≡ true → instruction_step limit src spaced.state ≡ Err f → In (asked0 ++ []) src f
      unfolding instruction_step
      instruction_ill f is h =
          let k = spaces_end src d.state.at in
          bind_err (instruction_at src k) _ f h (λ bad. here_now asked0 f (in_subset k so.items asked0 _ _ _ to_here fits (in_miscs _ (in_one f (instruction_fails src utf8 k f is bad)))))
          (λ x read h. item_over x.1 (PI k x.1 x.0.target x.0.value) f (instruction_is src utf8 k x.1 x.0 is read) h)

      -- The end after `]`.
      end_outcome : byte src (spaces_end src d.state.at) ≡ 93 → Outcome asked0 (subset_end src spaced)
      unfolding subset_end
      end_outcome closing =
          let k = spaces_end src d.state.at in
          let e = spaces_end src (k + 1) in
          let S : Asks Dtd → Type 0 = Outcome asked0 in
          cond_both (nat_le (length src) e) _ _ S
          (λ out. here_now asked0 fault.UnexpectedEndOfStream (in_subset k so.items asked0 _ _ _ to_here fits (end_lacks fault.UnexpectedEndOfStream closing (none_left _ (leb-true _ _ out)))))
          (λ inside. cond_both (byte src e == 62) _ _ S
          (λ closes.
          let is = eqb-true _ _ closes in
          closed so.items
          (subst (λ (a : List Asked). IsDoctype src i (e + 1) so.items a d.entities) (sym (append-nil asked0)) (with_subset i s k so.items asked0 d.entities begins bracket read_to closing is))
          (ap (λ (t : State). state (e + 1) t.done t.stack t.openings_left) so.state_is) (cut_behind src e 62 utf8 is (omega arith) (omega arith))
          (fine_there most d.state (at_place (e + 1) d.state) refl refl fine))
          (λ other. here_now asked0 (fault.InvalidChar2 due.End (byte src e) e)
          (in_subset k so.items asked0 _ _ _ to_here fits (end_lacks (fault.InvalidChar2 due.End (byte src e) e) closing (no_end (leb-false _ _ inside) (eqb-false _ _ other))))))

      -- Nothing that a subset holds.
      none_outcome : (d.state.at < length src) → at word.EntityStart src (spaces_end src d.state.at) ≡ false → at word.CommentStart src (spaces_end src d.state.at) ≡ false → at word.PIStart src (spaces_end src d.state.at) ≡ false
          → (at word.ElementStart src (spaces_end src d.state.at) || (at word.AttlistStart src (spaces_end src d.state.at) || at word.NotationStart src (spaces_end src d.state.at))) ≡ false → byte src (spaces_end src d.state.at) ≢ 93
          → In (asked0 ++ []) src (fault.UnknownToken (spaces_end src d.state.at))
      none_outcome inside no_entity no_comment no_instruction no_passed no_end' =
          let k = spaces_end src d.state.at in
          let both = or_parts (at word.ElementStart src k) (at word.AttlistStart src k || at word.NotationStart src k) no_passed in
          let others = or_parts (at word.AttlistStart src k) (at word.NotationStart src k) both.1 in
          here_now asked0 (fault.UnknownToken k) (in_subset k so.items asked0 _ _ _ to_here fits
          (unknown (no_more_space src d.state.at utf8 cut) no_entity no_comment no_instruction (no_declared k both.0 others.0 others.1) no_end' (where_it_is inside)))
        where
          no_declared : (k : ℕ) → at word.ElementStart src k ≡ false → at word.AttlistStart src k ≡ false → at word.NotationStart src k ≡ false → IsPassed src k → ⊥
          no_declared k no_element no_attlist no_notation (inl is) = true≢false (sym is ∙ no_element)
          no_declared k no_element no_attlist no_notation (inr (inl is)) = true≢false (sym is ∙ no_attlist)
          no_declared k no_element no_attlist no_notation (inr (inr is)) = true≢false (sym is ∙ no_notation)

          -- After white space, where the text ends.
          where_it_is : (d.state.at < length src) → (spaces_end src d.state.at < length src) ⊎ (is_space (byte src (spaces_end src d.state.at - 1)) ≡ true)
          where_it_is inside =
              let k = spaces_end src d.state.at in
              let from = (over_spaces src (λ m. (m ≡ k) ⊎ (is_space (byte src (k - 1)) ≡ true)) d.state.at utf8 cut (λ m is q. grind arith)).1 (inl refl) in
              elim from as (λ _. (k < length src) ⊎ (is_space (byte src (k - 1)) ≡ true)) [ inl e ↦ inl (omega arith) | inr stands ↦ inr stands ]

      -- A declaration that is passed over.
      passed_outcome : (g : Dtd → Asks Dtd) → IsPassed src (spaces_end src d.state.at) → ((e : Dtd) → So s asked0 e → IsCharBoundary src e.state.at → IsValidState most e.state → e.replies ≡ d.replies → d.state.at < e.state.at → Outcome asked0 (g e))
          → Outcome asked0 (reading.skipped_declaration i src spaced >>> g)
      unfolding reading.skipped_declaration
      passed_outcome g is go =
          let k = spaces_end src d.state.at in
          let e = byte_from (λ c. c == 62) src k in
          let far = run_end_le is_space src d.state.at in
          elim (cases_Bool (nat_lt e (length src))) as (λ _. Outcome asked0 (reading.skipped_declaration i src spaced >>> g)) [
            | inl lt ↦ (
                let passed : IsPassedOver src k (e + 1) = record { opens = is; closes = ltb-true _ _ lt; next = refl } in
                let moves = passed_moves src utf8 k (e + 1) passed in
                let closes : byte src e ≡ 62 = eqb-true _ _ (from_here (λ c. c == 62) src k (ltb-true _ _ lt)) in
                let next : Dtd = record { state = at_place (e + 1) d.state; entities = d.entities; replies = d.replies } in
                let one : Subset src k (e + 1) Nil [] [] = passed_first src k (e + 1) (e + 1) Nil [] [] passed (no_more (e + 1)) in
                let read' : Subset src (s + 1) (e + 1) so.items asked0 d.entities =
                subst (λ (f : Forest Item). Subset src (s + 1) (e + 1) f asked0 d.entities) (join-nil so.items)
                (subst (λ (a : List Asked). Subset src (s + 1) (e + 1) (join so.items Nil) a d.entities) (append-nil asked0)
                (subst (λ (es : List Entity). Subset src (s + 1) (e + 1) (join so.items Nil) (asked0 ++ []) es) (append-nil d.entities) (subset_then src (s + 1) k (e + 1) so.items Nil asked0 [] d.entities [] read_to one))) in
                let so' : So s asked0 next =
                record { items = so.items; read = read'; state_is = ap (λ (t : State). state (e + 1) t.done t.stack t.openings_left) so.state_is; solid = solid_behind src (e + 1) e 62 refl closes refl } in
                rw lt (go next so' moves.2 (fine_there most d.state (at_place (e + 1) d.state) refl refl fine) refl (omega (arith, moves.0))))
            | inr ge ↦ rw ge (here_now asked0 (fault.UnknownToken i) (in_subset k so.items asked0 _ _ _ to_here fits (not_passed is (ltb-false _ _ ge))))
          ]

      -- A declaration of an entity.
      entity_goes : (first : List Asked) (e : Dtd) → EntityRead src spaced first e → So s (asked0 ++ first) e × IsCharBoundary src e.state.at × IsValidState most e.state × (d.state.at < e.state.at)
      entity_goes first e o =
          let k = spaces_end src d.state.at in
          let j = e.state.at in
          let moves = entity_moves src utf8 k j first o.es o.is in
          let far = run_end_le is_space src d.state.at in
          let one : Subset src k j Nil (first ++ []) (o.es ++ []) = an_entity k j j Nil first [] o.es [] o.is (no_more j) in
          let one' : Subset src k j Nil first o.es = subst (λ (a : List Asked). Subset src k j Nil a o.es) (append-nil first) (subst (λ (es : List Entity). Subset src k j Nil (first ++ []) es) (append-nil o.es) one) in
          let read' : Subset src (s + 1) j so.items (asked0 ++ first) e.entities =
          subst (λ (f : Forest Item). Subset src (s + 1) j f (asked0 ++ first) e.entities) (join-nil so.items)
          (subst (λ (es : List Entity). Subset src (s + 1) j (join so.items Nil) (asked0 ++ first) es) (sym o.entities_are) (subset_then src (s + 1) k j so.items Nil asked0 first d.entities o.es read_to one')) in
          let is = declaration_parts o.is in
          grind arith

      -- The text ends right after `[` or an item.
      out_outcome : length src ≤ d.state.at → Ended asked0 d
      out_outcome out =
          let same : d.state.at ≡ length src = omega (arith, cut.0) in
          cut_off so.items (subset_to s d.entities begins bracket (subst (λ (j : ℕ). Subset src (s + 1) j so.items asked0 d.entities) same so.read))
          (so.state_is ∙ ap (λ (j : ℕ). state j (join before so.items) root 255) same) (subst (λ (j : ℕ). is_space (byte src (j - 1)) ≡ false) same so.solid) fine

    -- The items, one after the other.
    pub subset_ends : (n : ℕ) (asked0 : List Asked) (d : Dtd) → So s asked0 d → IsCharBoundary src d.state.at → IsValidState most d.state → AreTextReplies d.replies → length src ≤ d.state.at + n → Outcome asked0 (subset limit i n src d)
    unfolding subset
    subset_ends zero asked0 d so cut fine texts enough = subst (λ (a : List Asked). Ended a d) (sym (append-nil asked0)) (out_outcome asked0 d so cut fine (omega (arith, enough)))
    subset_ends (suc n) asked0 d so cut fine texts enough =
        let S : Asks Dtd → Type 0 = Outcome asked0 in
        let k = spaces_end src d.state.at in
        let d' = spaced asked0 d so cut fine in
        cond_both (nat_le (length src) d.state.at) _ _ S
        (λ out. subst (λ (a : List Asked). Ended a d) (sym (append-nil asked0)) (out_outcome asked0 d so cut fine (leb-true _ _ out)))
        (λ inside. cond_both (at word.EntityStart src k) _ _ S
        (λ is. asks_by S (entity_step src d') _
        (λ first e read.
        let o : EntityRead src d' first e = subst (EntityOutcome src d') read (entity_outcome src utf8 d' is texts) in
        let next = entity_goes asked0 d so cut fine first e o in
        outcome_after asked0 first (subset limit i n src e) (subset_ends n (asked0 ++ first) e next.0 next.1 next.2 o.texts (omega (arith, enough, next.3))))
        (λ asked e read. subst (EntityFails asked0) read (entity_fails asked0 d' so.items (to_here asked0 d so cut fine) (fits asked0 d so cut fine) is texts)))
        (λ no_entity. cond_both (at word.CommentStart src k) _ _ S
        (λ is. nothing_by S (comment_step limit src d'.state) _
        (λ t read. let next = comment_taken asked0 d so cut fine t is read in subset_ends n asked0 (with_state d' t) next.0 next.1 next.2 texts (omega (arith, enough, next.3)))
        (λ f ill. comment_ill asked0 d so cut fine f is ill))
        (λ no_comment. cond_both (at word.PIStart src k) _ _ S
        (λ is. nothing_by S (instruction_step limit src d'.state) _
        (λ t read. let next = instruction_taken asked0 d so cut fine t is read in subset_ends n asked0 (with_state d' t) next.0 next.1 next.2 texts (omega (arith, enough, next.3)))
        (λ f ill. instruction_ill asked0 d so cut fine f is ill))
        (λ no_instruction. cond_both (at word.ElementStart src k || (at word.AttlistStart src k || at word.NotationStart src k)) _ _ S
        (λ is. passed_outcome asked0 d so cut fine _ (passed_word k is)
        (λ e so' cut' fine' same moves. subset_ends n asked0 e so' cut' fine' (subst AreTextReplies (sym same) texts) (omega (arith, enough, moves))))
        (λ no_passed. cond_both (byte src k == 93) _ _ S
        (λ closing. end_outcome asked0 d so cut fine (eqb-true _ _ closing))
        (λ other. none_outcome asked0 d so cut fine (leb-false _ _ inside) no_entity no_comment no_instruction no_passed (eqb-false _ _ other)))))))
      where
        passed_word : (k : ℕ) → (at word.ElementStart src k || (at word.AttlistStart src k || at word.NotationStart src k)) ≡ true → IsPassed src k
        passed_word k is =
            elim (or_cases (at word.ElementStart src k) (at word.AttlistStart src k || at word.NotationStart src k) is) as (λ _. IsPassed src k) [
              | inl a ↦ inl a
              | inr more ↦ elim (or_cases (at word.AttlistStart src k) (at word.NotationStart src k) more) as (λ _. IsPassed src k) [ inl b ↦ inr (inl b) | inr c ↦ inr (inr c) ]
            ]

  -- ---- the declaration

  -- The text ends before its subset.
  head_out : (head : Unit {0} × ℕ) → at word.DoctypeStart src i ≡ true → doctype_head_at src i ≡ Ok head → length src ≤ head.1 → In [] src fault.UnexpectedEndOfStream
  unfolding doctype_head_at
  head_out head opens h out =
      bind_ok (space_at src (i + 9)) _ _ h (λ n spaced h. bind_ok (name_or_end_at src n.1) _ _ h (λ name named h. bind_ok (external_id_if src (spaces_end src name.1)) _ _ h (λ y may h.
      let e : spaces_end src y.1 ≡ head.1 = ap (λ (p : Unit {0} × ℕ). p.1) (ok_same _ _ h) in
      let sp = space_sound src (i + 9) n spaced in
      elim (name_or_end src n.1 name named) as (λ _. In [] src fault.UnexpectedEndOfStream) [
        | inl is ↦ (
            let begins : BeginsDoctype src i head.1 = subst (BeginsDoctype src i) e (doctype_begins n.1 name.1 y.1 opens sp is.0 (if_sound src (spaces_end src name.1) y may)) in
            head_lacks fault.UnexpectedEndOfStream (head.1, subset_or_end, dues.DueInDoctype.its_end head.1 begins, none_left _ out))
        | inr cut ↦ no_name n.1 sp cut.0
      ])))

  pub doctype_ends : (rs : List Reply) → at word.DoctypeStart src i ≡ true → IsValidState most (state i before root 255) → AreTextReplies rs → Outcome [] (doctype_step limit src (record { state = state i before root 255; entities = []; replies = rs }))
  unfolding doctype_step
  doctype_ends rs opens fine texts =
      let S : Asks Dtd → Type 0 = Outcome [] in
      nothing_by S (doctype_head_at src i) _
      (λ head is. cond_both (nat_le (length src) head.1) _ _ S (λ out. head_out head opens is (leb-true _ _ out))
      (λ inside.
      let below = leb-false _ _ inside in
      let begins = doctype_head_sound src i head utf8 opens is below in
      cond_both (byte src head.1 == 62) _ _ S
      (λ closes.
      let closing = eqb-true _ _ closes in
      closed Nil (no_subset i head.1 begins closing) (ap (λ (f : Forest Item). state (head.1 + 1) f root 255) (sym (join-nil before))) (cut_behind src head.1 62 utf8 closing (omega arith) (omega arith))
      (fine_there most (state i before root 255) (state (head.1 + 1) before root 255) refl refl fine))
      (λ other. cond_both (byte src head.1 == 91) _ _ S
      (λ opened.
      let bracket = eqb-true _ _ opened in
      subset_ends head.1 begins bracket (length src) [] (record { state = state (head.1 + 1) before root 255; entities = []; replies = rs })
      (record { items = Nil; read = no_more (head.1 + 1); state_is = ap (λ (f : Forest Item). state (head.1 + 1) f root 255) (sym (join-nil before)); solid = solid_behind src (head.1 + 1) head.1 91 refl bracket refl })
      (cut_behind src head.1 91 utf8 bracket (omega arith) (omega arith)) (fine_there most (state i before root 255) (state (head.1 + 1) before root 255) refl refl fine) texts (omega arith))
      (λ neither. head_lacks (fault.InvalidChar2 due.SubsetOrEnd (byte src head.1) head.1)
      (head.1, subset_or_end, dues.DueInDoctype.its_end head.1 begins, no_subset_or_end below (eqb-false _ _ neither) (eqb-false _ _ other))))))
      (λ f ill. let w = doctype_head_fails src i f ill in head_lacks f w)
