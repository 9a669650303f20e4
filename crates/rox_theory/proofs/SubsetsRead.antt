-- The items of a document type declaration that are there are read, whatever replies follow those that they take.
use Rattle.std.proofs.Common.{◌≡◌, ◌≢◌, ℕ, zero, suc, ◌+◌, ◌<◌, ◌≤◌, ◌||◌, true, false, List, [], ◌++◌, length, Ok, refl, sym, ◌∙◌, subst, arith, inl, inr, append_assoc, IsUtf8, append-nil}
use Rattle.std.proofs.lemmas.Bool.{or_left, or_right, or_from, false_from_ne_true}
use Rattle.rox_grammar.specs.declared.fault.Word.{Word}
use Rattle.rox_grammar.specs.declared.fault.Word.TheVariants as word
use Rattle.rox_grammar.specs.FixedTexts.{word_text, at}
use Rattle.rox_grammar.specs.Chars.{is_space}
use Rattle.rox_grammar.specs.Forest.{Forest, join}
use Rattle.rox_grammar.specs.Written.{Item, leaf}
use Rattle.rox_grammar.specs.Names.{byte, spaces_end}
use Rattle.rox_grammar.specs.Content.{IsMisc, comment, instruction}
use Rattle.rox_grammar.specs.Entities.{Entity}
use Rattle.rox_grammar.specs.Doctype.{Asked, IsEntityDeclaration, Subset, no_more, space, an_item, skipped_declaration, an_entity}
use Rattle.rox_grammar.specs.State.{Open}
use Rattle.rox_reading.specs.Machine.{comment_step, instruction_step}
use Rattle.rox_reading.specs.Doctype.{Reply, Asks, Dtd, subset}
use Rattle.rox_reading.specs.Answering.{left_with, Answered, Continues}
use Rattle.rox_reading.proofs.Answering as turn
use Rattle.rox_reading.proofs.Answering.{spaced, none_yet, continued}
use Rattle.rox_reading.proofs.Forests.{join-nil, join_assoc}
use Rattle.rox_theory.specs.ValidState.{IsValidState, state}
use Rattle.rox_theory.proofs.Productions.{comment_parts, pi_parts}
use Rattle.rox_theory.proofs.Basics.{within}
use Rattle.rox_theory.proofs.NameLemmas.{run_stops}
use Rattle.rox_theory.proofs.MarkupLemmas.{comment_complete, instruction_complete}
use Rattle.rox_theory.proofs.DeclarationLemmas.{stands_reads}
use Rattle.rox_theory.proofs.Constructions.{comment_bytes, instruction_bytes}
use Rattle.rox_theory.proofs.Places.{spaces_on}
use Rattle.rox_theory.proofs.Leaves.{with_leaf, fine_before, read_item}
use Rattle.rox_theory.proofs.Around.{no_spaces, misc_moves, misc_within}
use Rattle.rox_theory.proofs.DoctypeParts.{declaration_parts, IsPassedOver, passed_end, passed_there}
use Rattle.rox_theory.proofs.EntityLemmas.{entity_moves, entity_complete}
use Rattle.rox_theory.proofs.Subsets.{passed_moves}

-- Reading is here.
abbrev pub here_at : ℕ → Forest Item → Open → ℕ → List Entity → Dtd
here_at i done stack openings_left es = record { state = state i done stack openings_left; entities = es; replies = [] }

-- ---- which word is there

-- Not one that differs in a byte from one that does.
words_apart : (v w : Word) (src : List ℕ) (i n : ℕ) → n < length (word_text v) → n < length (word_text w) → byte (word_text v) n ≢ byte (word_text w) n → at w src i ≡ true → at v src i ≡ false
words_apart v w src i n short long apart is =
    false_from_ne_true _ (λ h. apart (sym (stands_reads (word_text v) src i n h short) ∙ stands_reads (word_text w) src i n is long))

-- Nor one whose first byte is another.
byte_apart : (v : Word) (src : List ℕ) (i : ℕ) → 0 < length (word_text v) → byte (word_text v) 0 ≢ byte src i → at v src i ≡ false
byte_apart v src i some apart =
    let zero : i + 0 ≡ i = omega arith in
    false_from_ne_true _ (λ h. let b : byte src (i + 0) ≡ byte (word_text v) 0 = stands_reads (word_text v) src i 0 h some in apart (sym (rw zero at b)))

-- The first byte of a word.
word_byte : (w : Word) (src : List ℕ) (i b : ℕ) → 0 < length (word_text w) → byte (word_text w) 0 ≡ b → at w src i ≡ true → byte src i ≡ b
word_byte w src i b some first is =
    let zero : i + 0 ≡ i = omega arith in
    rw zero at (stands_reads (word_text w) src i 0 is some) ∙ first

module _ (src : List ℕ) (utf8 : IsUtf8 src) where
  -- A row of items goes forward.
  pub subset_le : (i k : ℕ) (items : Forest Item) (asked : List Asked) (es : List Entity) → Subset src i k items asked es → i ≤ k
  subset_le i k items asked es (no_more _) = omega arith
  subset_le i k items asked es (space _ _ _ _ _ is rest) = omega (arith, subset_le (i + 1) k items asked es rest)
  subset_le i k items asked es (an_item _ j _ item more _ _ is rest) = omega (arith, misc_moves src utf8 i j item is, subset_le j k more asked es rest)
  subset_le i k items asked es (skipped_declaration _ _ _ _ _ opens closes rest) = omega (arith, (passed_moves src utf8 i (passed_end src i) (passed_there opens closes)).0, subset_le (passed_end src i) k items asked es rest)
  subset_le i k items asked es (an_entity _ j _ _ first more one others is rest) = omega (arith, (entity_moves src utf8 i j first one is).1, subset_le j k items more others rest)

  module _ (limit start : ℕ) (stack : Open) (openings_left : ℕ) where
    abbrev here_run : ℕ → ℕ → Forest Item → List Entity → List Reply → Asks Dtd
    here_run n i done es rs = subset limit start n src (left_with rs (here_at i done stack openings_left es))

    -- White space in front is passed.
    space_step : (n i : ℕ) (done : Forest Item) (es : List Entity) (rs : List Reply) → is_space (byte src i) ≡ true → i + 1 < length src → here_run (suc n) i done es rs ≡ here_run (suc n) (i + 1) done es rs
    unfolding subset
    space_step n i done es rs is inside = grind (arith, spaces_on)

    -- The end of the declaration.
    end_read : (n i : ℕ) (done : Forest Item) (es : List Entity) → byte src i ≡ 93 → byte src (spaces_end src (i + 1)) ≡ 62
        → Answered (here_run (suc n) i done es) [] (here_at (spaces_end src (i + 1) + 1) done stack openings_left es)
    end_read n i done es bracket closes =
        let inside = within src i (λ z. omega arith) in
        let e : spaces_end src i ≡ i = run_stops is_space src i inside (omega arith) (rw bracket refl) in
        let none : (w : Word) → 0 < length (word_text w) → byte (word_text w) 0 ≡ 60 → at w src (spaces_end src i) ≡ false = grind (arith, byte_apart) in
        let is : byte src (spaces_end src i) ≡ 93 = rw e bracket in
        let more : spaces_end src (spaces_end src i + 1) < length src = rw e (within src (spaces_end src (i + 1)) (λ z. omega arith)) in
        let ends : byte src (spaces_end src (spaces_end src i + 1)) ≡ 62 = rw e closes in
        let r = turn.turn_end (here_run (suc n) i done es) [] limit start (suc n) n src (here_at i done stack openings_left es) (none_yet limit start (suc n) src (here_at i done stack openings_left es)) refl inside
        (none word.EntityStart (omega arith) refl) (none word.CommentStart (omega arith) refl) (none word.PIStart (omega arith) refl)
        (or_from _ _ (none word.ElementStart (omega arith) refl) (or_from _ _ (none word.AttlistStart (omega arith) refl) (none word.NotationStart (omega arith) refl))) is more ends in
        subst (λ (k : ℕ). Answered (here_run (suc n) i done es) [] (here_at (spaces_end src (k + 1) + 1) done stack openings_left es)) e r

    -- A comment or an instruction.
    item_read : (n i j : ℕ) (item : Item) (done : Forest Item) (es : List Entity) → IsMisc src i j item → IsValidState limit (state j (join done (leaf item)) stack openings_left)
        → Continues (here_run (suc n) i done es) [] limit start n src (here_at j (join done (leaf item)) stack openings_left es)
    unfolding comment_step instruction_step
    item_read n i j item done es (comment _ c _ is) fine =
        let inside = misc_within src utf8 i j item (comment i c j is) in
        let e : spaces_end src i ≡ i = no_spaces src i (comment_bytes src i (comment_parts is).opens).1 in
        let no_entity : at word.EntityStart src (spaces_end src i) ≡ false = rw e (words_apart word.EntityStart word.CommentStart src i 2 (omega arith) (omega arith) (λ h. omega arith) (comment_parts is).opens) in
        let s = state i done stack openings_left in
        let step : comment_step limit src s ≡ Ok (with_leaf s j item) = rw (comment_complete src i c j is) (read_item limit s j item fine) in
        turn.turn_comment (here_run (suc n) i done es) [] limit start (suc n) n src (here_at i done stack openings_left es) (none_yet limit start (suc n) src (here_at i done stack openings_left es)) refl inside no_entity
        (with_leaf s j item) (rw e (comment_parts is).opens) (rw e step)
    item_read n i j item done es (instruction _ t c _ is) fine =
        let inside = misc_within src utf8 i j item (instruction i t c j is) in
        let e : spaces_end src i ≡ i = no_spaces src i (instruction_bytes src i (pi_parts is).opens).1 in
        let no_entity : at word.EntityStart src (spaces_end src i) ≡ false = rw e (words_apart word.EntityStart word.PIStart src i 1 (omega arith) (omega arith) (λ h. omega arith) (pi_parts is).opens) in
        let no_comment : at word.CommentStart src (spaces_end src i) ≡ false = rw e (words_apart word.CommentStart word.PIStart src i 1 (omega arith) (omega arith) (λ h. omega arith) (pi_parts is).opens) in
        let s = state i done stack openings_left in
        let step : instruction_step limit src s ≡ Ok (with_leaf s j item) = rw (instruction_complete src i t c j is) (read_item limit s j item fine) in
        turn.turn_instruction (here_run (suc n) i done es) [] limit start (suc n) n src (here_at i done stack openings_left es) (none_yet limit start (suc n) src (here_at i done stack openings_left es)) refl inside no_entity no_comment
        (with_leaf s j item) (rw e (pi_parts is).opens) (rw e step)

    -- A declaration that is passed over: its word, which is none of those before it.
    passed_by : (w : Word) (n i j : ℕ) (done : Forest Item) (es : List Entity) (p : IsPassedOver src i j) → at w src i ≡ true → at word.EntityStart src i ≡ false → at word.CommentStart src i ≡ false
        → at word.PIStart src i ≡ false → 0 < length (word_text w) → byte (word_text w) 0 ≡ 60
        → (at word.ElementStart src i || (at word.AttlistStart src i || at word.NotationStart src i)) ≡ true → Continues (here_run (suc n) i done es) [] limit start n src (here_at j done stack openings_left es)
    passed_by w n i j done es p opens no_entity no_comment no_instruction some first skipped =
        let here = word_byte w src i 60 some first opens in
        let inside = within src i (λ z. omega arith) in
        let e : spaces_end src i ≡ i = no_spaces src i here in
        let r = turn.turn_passed (here_run (suc n) i done es) [] limit start (suc n) n src (here_at i done stack openings_left es) (none_yet limit start (suc n) src (here_at i done stack openings_left es)) refl inside
        (rw e no_entity) (rw e no_comment) (rw e no_instruction) (rw e skipped) (rw e p.closes) in
        subst (λ (k : ℕ). Continues (here_run (suc n) i done es) [] limit start n src (here_at k done stack openings_left es)) (rw e (sym p.next)) r

    passed_read : (n i j : ℕ) (done : Forest Item) (es : List Entity) → IsPassedOver src i j → Continues (here_run (suc n) i done es) [] limit start n src (here_at j done stack openings_left es)
    passed_read n i j done es p = elim p.opens as (λ _. Continues (here_run (suc n) i done es) [] limit start n src (here_at j done stack openings_left es)) [
      | inl is ↦ passed_by word.ElementStart n i j done es p is (words_apart word.EntityStart word.ElementStart src i 3 (omega arith) (omega arith) (λ h. omega arith) is)
          (words_apart word.CommentStart word.ElementStart src i 2 (omega arith) (omega arith) (λ h. omega arith) is) (words_apart word.PIStart word.ElementStart src i 1 (omega arith) (omega arith) (λ h. omega arith) is)
          (omega arith) refl (or_left _ _ is)
      | inr others ↦ elim others as (λ _. Continues (here_run (suc n) i done es) [] limit start n src (here_at j done stack openings_left es)) [
        | inl is ↦ passed_by word.AttlistStart n i j done es p is (words_apart word.EntityStart word.AttlistStart src i 2 (omega arith) (omega arith) (λ h. omega arith) is)
            (words_apart word.CommentStart word.AttlistStart src i 2 (omega arith) (omega arith) (λ h. omega arith) is) (words_apart word.PIStart word.AttlistStart src i 1 (omega arith) (omega arith) (λ h. omega arith) is)
            (omega arith) refl (or_right _ _ (or_left _ _ is))
        | inr is ↦ passed_by word.NotationStart n i j done es p is (words_apart word.EntityStart word.NotationStart src i 2 (omega arith) (omega arith) (λ h. omega arith) is)
            (words_apart word.CommentStart word.NotationStart src i 2 (omega arith) (omega arith) (λ h. omega arith) is) (words_apart word.PIStart word.NotationStart src i 1 (omega arith) (omega arith) (λ h. omega arith) is)
            (omega arith) refl (or_right _ _ (or_right _ _ is))
      ]
    ]

    -- A declaration of an entity.
    entity_read : (n i j : ℕ) (first : List Asked) (one es : List Entity) (done : Forest Item) → IsEntityDeclaration src i j first one
        → Continues (here_run (suc n) i done es) first limit start n src (here_at j done stack openings_left (es ++ one))
    entity_read n i j first one es done is =
        let opens = (declaration_parts is).head.opens in
        let here = word_byte word.EntityStart src i 60 (omega arith) refl opens in
        let inside = within src i (λ z. omega arith) in
        let e : spaces_end src i ≡ i = no_spaces src i here in
        let opens' : at word.EntityStart src (spaces_end src i) ≡ true = rw e opens in
        let d = here_at i done stack openings_left es in
        turn.turn_entity (here_run (suc n) i done es) [] limit start (suc n) n src d (none_yet limit start (suc n) src d) refl inside first (here_at j done stack openings_left (es ++ one)) opens'
        (entity_complete src utf8 (spaced src d) j first one (rw e is))

    -- The items and the end of the declaration.
    pub subset_complete : (n i k : ℕ) (items done : Forest Item) (asked : List Asked) (more es : List Entity) → Subset src i k items asked more → byte src k ≡ 93 → byte src (spaces_end src (k + 1)) ≡ 62
        → IsValidState limit (state k (join done items) stack openings_left) → length src ≤ i + n
        → Answered (here_run n i done es) asked (here_at (spaces_end src (k + 1) + 1) (join done items) stack openings_left (es ++ more))
    subset_complete zero i k items done asked more es rest bracket closes fine enough = grind (arith, within, subset_le)
    subset_complete (suc n) i k items done asked more es (no_more _) bracket closes fine enough = rw (join-nil, append-nil) (end_read n i done es bracket closes)
    subset_complete (suc n) i k items done asked more es (space _ _ _ _ _ is rest) bracket closes fine enough =
        let inside = within src k (λ z. omega arith) in
        let le = subset_le (i + 1) k items asked more rest in
        let next = subset_complete (suc n) (i + 1) k items done asked more es rest bracket closes fine (omega arith) in
        λ rs. space_step n i done es _ is (omega arith) ∙ next rs
    subset_complete (suc n) i k items done asked more es (an_item _ j _ item others _ _ is rest) bracket closes fine enough =
        let all : IsValidState limit (state k (join (join done (leaf item)) others) stack openings_left) = subst (λ (f : Forest Item). IsValidState limit (state k f stack openings_left)) (sym (join_assoc done (leaf item) others)) fine in
        let one = item_read n i j item done es is (fine_before limit j k openings_left openings_left (join done (leaf item)) others stack all) in
        let next = subset_complete n j k others (join done (leaf item)) asked more es rest bracket closes all (omega (arith, enough, (misc_moves src utf8 i j item is))) in
        let whole = continued (here_run (suc n) i done es) [] asked limit start n src (here_at j (join done (leaf item)) stack openings_left es)
        (here_at (spaces_end src (k + 1) + 1) (join (join done (leaf item)) others) stack openings_left (es ++ more)) one next in
        subst (λ (f : Forest Item). Answered (here_run (suc n) i done es) asked (here_at (spaces_end src (k + 1) + 1) f stack openings_left (es ++ more))) (join_assoc done (leaf item) others) whole
    subset_complete (suc n) i k items done asked more es (skipped_declaration _ _ _ _ _ opens ends rest) bracket closes fine enough =
        let j = passed_end src i in
        let is = passed_there opens ends in
        let next = subset_complete n j k items done asked more es rest bracket closes fine (omega (arith, enough, ((passed_moves src utf8 i j is).0))) in
        continued (here_run (suc n) i done es) [] asked limit start n src (here_at j done stack openings_left es) (here_at (spaces_end src (k + 1) + 1) (join done items) stack openings_left (es ++ more)) (passed_read n i j done es is) next
    subset_complete (suc n) i k items done asked more es (an_entity _ j _ _ first later one others is rest) bracket closes fine enough =
        let next = subset_complete n j k items done later others (es ++ one) rest bracket closes fine (omega (arith, enough, ((entity_moves src utf8 i j first one is).1))) in
        let whole = continued (here_run (suc n) i done es) first later limit start n src (here_at j done stack openings_left (es ++ one))
        (here_at (spaces_end src (k + 1) + 1) (join done items) stack openings_left ((es ++ one) ++ others)) (entity_read n i j first one es done is) next in
        subst (λ (l : List Entity). Answered (here_run (suc n) i done es) (first ++ later) (here_at (spaces_end src (k + 1) + 1) (join done items) stack openings_left l)) (append_assoc es one others) whole
