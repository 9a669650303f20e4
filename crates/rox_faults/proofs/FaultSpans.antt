-- The names in each refusal of reading are texts of the source that it counts in: the main text, a replacement text or an answer.
use Rattle.std.proofs.Common.{◌≡◌, ℕ, zero, suc, ◌+◌, ◌-◌, ◌<◌, ◌≤◌, ◌==◌, ◌||◌, max, not, Bool, true, false, cond, leb, ltb, List, [], length, refl, ap, subst, arith, IsUtf8, IsCharBoundary}
use Rattle.std.specs.Prelude.{Result, Ok, Err, Option, nat_le}
use Rattle.std.proofs.lemmas.Str.{IsCharBoundary-after_ascii}
use Rattle.std.proofs.lemmas.Bool.{eqb-true, not-false}
use Rattle.rox_grammar.specs.declared.fault.Fault.{Fault}
use Rattle.rox_grammar.specs.declared.fault.Word.{Word}
use Rattle.rox_grammar.specs.declared.fault.Expected.{Expected}
use Rattle.rox_grammar.specs.declared.fault.Word.TheVariants as word
use Rattle.rox_grammar.specs.declared.fault.Expected.TheVariants as expected
use Rattle.rox_grammar.specs.Spans.{IsTextSpan, NamesText}
use Rattle.rox_grammar.specs.Chars.{is_name_start}
use Rattle.rox_grammar.specs.FixedTexts.{word_text, at}
use Rattle.rox_grammar.specs.ExpectedTexts.{expected_text}
use Rattle.rox_grammar.specs.Runs.{begins}
use Rattle.rox_grammar.specs.Search.{stands, byte_from}
use Rattle.rox_grammar.specs.Forest.{Forest, Nil, join}
use Rattle.rox_grammar.specs.Written.{Name, Tag, Item, Element, leaf}
use Rattle.rox_grammar.specs.Names.{byte, spaces_end}
use Rattle.rox_grammar.specs.TextStart.{after_bom}
use Rattle.rox_grammar.specs.Entities.{Replacement, Entity, most_deep}
use Rattle.rox_grammar.specs.Doctype.{Request, Asked}
use Rattle.rox_grammar.specs.State.{Open, root, inside, is_root, nodes_so_far}
use Rattle.rox_reading.specs.Refusals.{Refusal, here, there, lifted, elsewhere}
use Rattle.rox_reading.specs.State.{State, depth_of}
use Rattle.rox_reading.specs.Lexical.{byte_at, space_at, quote_at, name_at, string_at, text_to, qname_at}
use Rattle.rox_reading.specs.Markup.{comment_at, instruction_at, cdata_at, EndTag, end_tag_at, pair_at, gap_at, pair_if, xml_decl_at}
use Rattle.rox_reading.specs.Values.{Next, data_part, part_text, raw_character_data_at, ReadText, value_at}
use Rattle.rox_reading.specs.Machine.{Context, counted, with_item, comment_step, instruction_step, cdata_step, with_piece, at_place, after_part, data_parts, character_data_step, opened_by, tag_step, name_span, closed_by, end_step, step, drive, text_ends, drive_text, budget, values_of, opener, main_text}
use Rattle.rox_reading.specs.Doctype.{Reply, AreTextReplies, Asks, asks_nothing, ◌>>>◌, quoted_at, system_at, public_at, external_id_at, name_or_end_at, notation_at, Definition, definition_at, kind_at, entity_head_at, answer_text, Dtd, replied, defined, entity_step, skipped_declaration, with_state, subset_end, subset, external_id_if, doctype_head_at, doctype_step}
use Rattle.rox_reading.specs.WholeText.{misc, body, finished, prolog, doctype, reading}
use Rattle.rox_theory.specs.ValidState.{IsValidState, state}
use Rattle.rox_theory.specs.Openers.{AreTexts}
use Rattle.rox_theory.proofs.Basics.{within}
use Rattle.rox_faults.proofs.NameSpans.{qname_spans}
use Rattle.rox_theory.proofs.DoctypeAgreement.{doctypes_agree}
use Rattle.rox_faults.proofs.FaultWhole.{doctype_none}
use Rattle.rox_theory.proofs.Around.{bom_cut, prolog_sound, prolog_cut, misc_sound}
use Rattle.rox_faults.proofs.TagSpans.{byte_well, quote_well, qname_well, tag_told}
use Rattle.rox_faults.proofs.ValueSpans.{Spanned, FaultSpanned, spanned_bind, spanned_cond, spanned_by, chars_spans, IsTold, Told, told_bind, told_cond, told_lifted, told_after, told_elsewhere, told_refusal, NextIsSource, run_part_spans, value_told, budget_spans, value_opener_told}

-- The elements that are open above these, and whose names are texts of the source.
pub data Rests (src : List ℕ) (bottom : Open) : Open → Type 0 where
  rests : Rests src bottom bottom
  above : (start : ℕ) (tag : Tag) (before : Forest Item) (up : Open) → IsTextSpan src (name_span tag.name (start + 1) tag.name_end) → Rests src bottom up → Rests src bottom (inside start tag before up)

-- There are at least these.
rests_le : (src : List ℕ) (bottom stack : Open) → Rests src bottom stack → depth_of bottom ≤ depth_of stack
rests_le src bottom stack rests = omega arith
rests_le src bottom stack (above start tag before up text more) = let le = rests_le src bottom up more in omega arith

-- And no more where as many are open.
rests_same : (src : List ℕ) (bottom stack : Open) → Rests src bottom stack → depth_of stack ≡ depth_of bottom → stack ≡ bottom
rests_same src bottom stack rests same = refl
rests_same src bottom stack (above start tag before up text more) same = let le = rests_le src bottom up more in absurd (omega arith)

-- ---- small steps, whose faults have no names

module _ (src : List ℕ) where
  -- A byte.
  byte_spans : (b i : ℕ) → FaultSpanned src (byte_at b src i)
  byte_spans b i = spanned_by src _ (byte_at b src i) (byte_well b src i) (λ x h. tt)

  -- A quote.
  quote_spans : (i : ℕ) → FaultSpanned src (quote_at src i)
  quote_spans i = spanned_by src _ (quote_at src i) (quote_well src i) (λ x h. tt)

  -- A name.
  name_spans : (i : ℕ) → FaultSpanned src (name_at src i)
  unfolding name_at
  name_spans i = spanned_cond src _ (begins is_name_start src i) _ _ (λ h. record { holds = tt }) (λ h. record { holds = tt })

  -- A fixed text.
  string_spans : (w : Expected) (i : ℕ) → FaultSpanned src (string_at w src i)
  unfolding string_at
  string_spans w i = spanned_cond src _ (stands (expected_text w) src i) _ _ (λ h. record { holds = tt }) (λ h. record { holds = tt })

  -- The text up to a mark.
  text_spans : (w : Expected) (i : ℕ) → FaultSpanned src (text_to w src i)
  unfolding text_to
  text_spans w i = grind (arith, chars_spans, string_spans)

  -- A qualified name.
  qname_faults : (i : ℕ) → FaultSpanned src (qname_at src i)
  qname_faults i = spanned_by src _ (qname_at src i) (qname_well src i) (λ x h. tt)

  -- A comment.
  comment_spans : (i : ℕ) → FaultSpanned src (comment_at src i)
  unfolding comment_at
  comment_spans i = grind (arith, text_spans)

  -- A processing instruction.
  instruction_spans : (i : ℕ) → FaultSpanned src (instruction_at src i)
  unfolding instruction_at
  instruction_spans i = grind (arith, name_spans, text_spans)

  -- A CDATA section.
  cdata_spans : (i : ℕ) → FaultSpanned src (cdata_at src i)
  unfolding cdata_at
  cdata_spans i = text_spans expected.CDataEnd (i + 9)

  -- A name and a value of the declaration.
  pair_spans : (i : ℕ) → FaultSpanned src (pair_at src i)
  unfolding pair_at
  pair_spans i = grind (arith, qname_faults, byte_spans, quote_spans, chars_spans)

  -- A gap after it.
  gap_spans : (i : ℕ) → FaultSpanned src (gap_at src i)
  unfolding gap_at
  gap_spans i = grind arith

  -- Both, or none.
  pair_if_spans : (w : Word) (i : ℕ) → FaultSpanned src (pair_if w src i)
  unfolding pair_if
  pair_if_spans w i = grind (arith, pair_spans, gap_spans)

  -- The last pair, or none.
  last_spans : (i : ℕ) → FaultSpanned src (cond (stands (word_text word.Standalone) src i) (pair_at src i) (Ok (tt, i)))
  last_spans i = spanned_cond src _ (stands (word_text word.Standalone) src i) _ _ (λ h. pair_spans i) (λ h. record { holds = tt })

  -- The declaration.
  declaration_spans : (i : ℕ) → FaultSpanned src (xml_decl_at src i)
  unfolding xml_decl_at
  declaration_spans i = grind (arith, pair_if_spans, last_spans, string_spans)

  -- The declaration, if it is here.
  prolog_spans : (i : ℕ) → FaultSpanned src (prolog src i)
  unfolding prolog
  prolog_spans i = grind (arith, declaration_spans)

  -- The end of the text.
  finished_spans : (x : State × Bool) → FaultSpanned src (finished src x)
  unfolding finished
  finished_spans (s, some) = grind arith

  -- ---- the document type declaration

  -- White space.
  space_spans : (i : ℕ) → FaultSpanned src (space_at src i)
  unfolding space_at
  space_spans i = grind arith

  -- A literal.
  quoted_spans : (i : ℕ) → FaultSpanned src (quoted_at src i)
  unfolding quoted_at
  quoted_spans i = grind (arith, quote_spans, byte_spans)

  system_spans : (i : ℕ) → FaultSpanned src (system_at src i)
  unfolding system_at
  system_spans i = grind (arith, space_spans, quoted_spans)

  public_spans : (i : ℕ) → FaultSpanned src (public_at src i)
  unfolding public_at
  public_spans i = grind (arith, space_spans, quoted_spans)

  -- An external id.
  external_id_spans : (i : ℕ) → FaultSpanned src (external_id_at src i)
  unfolding external_id_at
  external_id_spans i = grind (arith, system_spans, public_spans)

  name_or_end_spans : (i : ℕ) → FaultSpanned src (name_or_end_at src i)
  unfolding name_or_end_at
  name_or_end_spans i = spanned_cond src _ (leb (length src) i) _ _ (λ h. record { holds = tt }) (λ h. name_spans i)

  -- A notation.
  notation_spans : (parameter : Bool) (i : ℕ) → FaultSpanned src (notation_at parameter src i)
  unfolding notation_at
  notation_spans parameter i = grind (arith, space_spans, name_or_end_spans)

  -- What an entity is declared as.
  definition_spans : (parameter : Bool) (i : ℕ) → FaultSpanned src (definition_at parameter src i)
  unfolding definition_at
  definition_spans parameter i = grind (arith, quoted_spans, external_id_spans, notation_spans)

  kind_spans : (i : ℕ) → FaultSpanned src (kind_at src i)
  unfolding kind_at
  kind_spans i = grind (arith, space_spans)

  entity_head_spans : (i : ℕ) → FaultSpanned src (entity_head_at src i)
  unfolding entity_head_at
  entity_head_spans i = grind (arith, space_spans, kind_spans, name_spans)

  external_id_if_spans : (i : ℕ) → FaultSpanned src (external_id_if src i)
  unfolding external_id_if
  external_id_if_spans i = grind (arith, external_id_spans)

  -- From `<!DOCTYPE`, up to `[` or `>`.
  doctype_head_spans : (i : ℕ) → FaultSpanned src (doctype_head_at src i)
  unfolding doctype_head_at
  doctype_head_spans i = grind (arith, space_spans, name_or_end_spans, external_id_if_spans)

-- ---- states

module _ (src : List ℕ) (bottom : Open) where
  -- The names of the elements that are open in a state above these are texts of the source.
  abbrev pub StateNamed : State → Type 0
  StateNamed s = Rests src bottom s.stack

  -- A state within the limit.
  counted_spans : (limit : ℕ) (s : State) → StateNamed s → Spanned State src StateNamed (counted limit s)
  counted_spans limit s named = spanned_cond src _ (nat_le (nodes_so_far s.stack s.done) limit) _ _ (λ h. record { holds = named }) (λ h. record { holds = tt })

  -- One more item.
  item_spans : (limit : ℕ) (s : State) (j : ℕ) (item : Item) → StateNamed s → Spanned State src StateNamed (with_item limit s j item)
  item_spans limit s j item named = counted_spans limit (state j (join s.done (leaf item)) s.stack s.openings_left) named

  -- A comment.
  comment_step_spans : (limit : ℕ) (s : State) → StateNamed s → Spanned State src StateNamed (comment_step limit src s)
  unfolding comment_step
  comment_step_spans limit s named = grind (arith, comment_spans)

  -- A processing instruction.
  instruction_step_spans : (limit : ℕ) (s : State) → StateNamed s → Spanned State src StateNamed (instruction_step limit src s)
  unfolding instruction_step
  instruction_step_spans limit s named = grind (arith, instruction_spans)

  -- A CDATA section.
  cdata_step_spans : (limit : ℕ) (s : State) → StateNamed s → Spanned State src StateNamed (cdata_step limit src s)
  unfolding cdata_step
  cdata_step_spans limit s named = grind (arith, cdata_spans)

  -- Comments, processing instructions and white space.
  misc_spans : (n limit : ℕ) (s : State) → StateNamed s → Spanned State src StateNamed (misc limit n src s)
  unfolding misc
  misc_spans zero limit s named = record { holds = named }
  misc_spans (suc n) limit s named =
      let t : State = at_place (spaces_end src s.at) s in
      spanned_cond src _ (at word.CommentStart src t.at) _ _
      (λ h. spanned_bind src StateNamed _ (comment_step limit src t) _ (comment_step_spans limit t named) (λ u read more. misc_spans n limit u more))
      (λ h. spanned_cond src _ (at word.PIStart src t.at) _ _
      (λ h. spanned_bind src StateNamed _ (instruction_step limit src t) _ (instruction_step_spans limit t named) (λ u read more. misc_spans n limit u more))
      (λ h. record { holds = named }))

  -- After a start tag with a name.
  opened_spans : (limit : ℕ) (s : State) (tag : Tag) (empty : Bool) (openings_left j : ℕ) → IsTextSpan src (name_span tag.name (s.at + 1) tag.name_end) → StateNamed s
      → Spanned State src StateNamed (opened_by limit s tag empty openings_left j)
  opened_spans limit s tag true openings_left j name named = item_spans limit (state s.at s.done s.stack openings_left) j (Element s.at j tag) named
  opened_spans limit s tag false openings_left j name named = counted_spans limit (state j Nil (inside s.at tag s.done s.stack) openings_left) (above s.at tag s.done s.stack name named)

  -- After an end tag with a name, where an element is open above these.
  closed_spans : (i : ℕ) (name : Name) (n j : ℕ) (done : Forest Item) (stack : Open) (openings_left : ℕ) → IsTextSpan src (name_span name (i + 2) n) → depth_of bottom < depth_of stack → Rests src bottom stack
      → Spanned State src StateNamed (closed_by i name n j done stack openings_left)
  unfolding closed_by
  closed_spans i name n j done stack openings_left actual deep rests = absurd (omega arith)
  closed_spans i name n j done stack openings_left actual deep (above start tag before up text more) = grind arith

  -- The piece of a part.
  piece_spans : (limit : ℕ) (s : State) (i j : ℕ) (bs : List ℕ) → StateNamed s → Spanned State src StateNamed (with_piece limit s i j bs)
  piece_spans limit s i j bs named = grind arith

  -- The bytes of a run.
  raw_spans : (i : ℕ) → FaultSpanned src (raw_character_data_at src i)
  unfolding raw_character_data_at
  raw_spans i = grind (arith, chars_spans)

  -- The refusals of what a reference opens are told, and it leaves the open elements as they are.
  abbrev pub ContentTold : (Replacement → ℕ → State → Result State Refusal) → Type 0
  ContentTold opener = (t : Replacement) (after : ℕ) (s : State) → IsUtf8 t.source → Told State src (λ (u : State). u.stack ≡ s.stack) (opener t after s)

  module _ (utf8 : IsUtf8 src) (context : Context) (texts : AreTexts context.values.entities) (open_around : context.open_around ≡ depth_of bottom)
      (values : (i stop openings_left : ℕ) → Told (ReadText × ℕ) src (λ x. Unit {0}) (value_at context.values.main context.values.entities context.values.opener src i stop openings_left)) (opens : ContentTold context.opener) where
    -- After a part.
    after_part_told : (more : State → Result State Refusal) → ((u : State) → StateNamed u → Told State src StateNamed (more u)) → (stop : ℕ) (s : State) (next : Next) → StateNamed s → NextIsSource src utf8 next
        → Told State src StateNamed (after_part context more stop s next)
    after_part_told more rest stop s next named is = grind arith

    -- The parts of a run.
    run_parts_told : (n start stop : ℕ) (s : State) → StateNamed s → Told State src StateNamed (data_parts context n src start stop s)
    unfolding data_parts
    run_parts_told zero start stop s named = record { tells = named }
    run_parts_told (suc n) start stop s named =
        told_after src (λ (x : List ℕ × Next). NextIsSource src utf8 x.1) _ (data_part context.values.main context.values.entities (stop - s.at) src stop s.at) _
        (run_part_spans src utf8 context.values.entities texts context.values.main (stop - s.at) stop s.at) (λ x read is.
        told_after src StateNamed _ (with_piece context.limit s start stop (part_text context.values.main x.0)) _ (piece_spans context.limit s start stop (part_text context.values.main x.0) named) (λ t added named'.
        after_part_told (λ u. data_parts context n src start stop u) (λ u more. run_parts_told n start stop u more) stop t x.1 named' is))

    -- A run.
    run_step_told : (s : State) → StateNamed s → Told State src StateNamed (character_data_step context src s)
    unfolding character_data_step
    run_step_told s named = grind (arith, raw_spans, run_parts_told)

    -- A qualified name, written with its colon or without.
    written_spans : (i : ℕ) (name : Name) (n : ℕ) → IsCharBoundary src i → qname_at src i ≡ Ok (name, n) → IsTextSpan src (name_span name i n)
    written_spans i name n cut read = grind (arith, qname_spans src i name n utf8 cut read)

    -- A character begins after `</`.
    end_cut : (i : ℕ) → byte src (i + 1) ≡ 47 → IsCharBoundary src (i + 2)
    end_cut i slash =
        subst (IsCharBoundary src) (omega arith) (IsCharBoundary-after_ascii src (i + 1) utf8 (within src (i + 1) (λ z. omega arith)) (omega arith))

    -- An end tag has a name of the source.
    end_tag_spans : (i : ℕ) → byte src (i + 1) ≡ 47 → Spanned (EndTag × ℕ) src (λ x. IsTextSpan src (name_span x.0.name (i + 2) x.0.name_end)) (end_tag_at src i)
    unfolding end_tag_at
    end_tag_spans i slash = grind (arith, qname_faults, byte_spans, written_spans, end_cut)

    -- An end tag.
    end_step_spans : (s : State) → byte src (s.at + 1) ≡ 47 → StateNamed s → Spanned State src StateNamed (end_step context src s)
    unfolding end_step
    end_step_spans s slash named = grind (arith, end_tag_spans, closed_spans)

    -- A start tag.
    tag_step_told : (s : State) → byte src s.at ≡ 60 → StateNamed s → Told State src StateNamed (tag_step context src s)
    unfolding tag_step
    tag_step_told s opens' named = grind (arith, tag_told, opened_spans)

    -- One construct of content.
    step_told : (s : State) → StateNamed s → Told State src StateNamed (step context src s)
    unfolding step
    step_told s named =
        told_cond src _ (not (byte src s.at == 60)) _ _ (λ h. run_step_told s named)
        (λ opens'. told_cond src _ (leb (length src) (s.at + 1)) _ _ (λ h. record { tells = tt })
        (λ h. told_cond src _ (byte src (s.at + 1) == 33) _ _
        (λ h. told_cond src _ (at word.CommentStart src s.at) _ _ (λ h. told_lifted src StateNamed (comment_step context.limit src s) (comment_step_spans context.limit s named))
        (λ h. told_cond src _ (at word.CDataStart src s.at) _ _ (λ h. told_lifted src StateNamed (cdata_step context.limit src s) (cdata_step_spans context.limit s named)) (λ h. record { tells = tt })))
        (λ h. told_cond src _ (byte src (s.at + 1) == 63) _ _ (λ h. told_lifted src StateNamed (instruction_step context.limit src s) (instruction_step_spans context.limit s named))
        (λ h. told_cond src _ (byte src (s.at + 1) == 47) _ _ (λ slash. told_lifted src StateNamed (end_step context src s) (end_step_spans s (eqb-true _ _ slash) named))
        (λ h. tag_step_told s (eqb-true _ _ (not-false _ opens')) named)))))

    -- Content up to the end tag of the root element.
    drive_told : (n : ℕ) (s : State) → StateNamed s → Told State src StateNamed (drive context n src s)
    unfolding drive
    drive_told zero s named = told_cond src _ (is_root s.stack) _ _ (λ h. record { tells = named }) (λ h. record { tells = tt })
    drive_told (suc n) s named =
        told_cond src _ (is_root s.stack) _ _ (λ h. record { tells = named })
        (λ h. told_cond src _ (ltb s.at (length src)) _ _
        (λ h. told_bind src StateNamed _ (step context src s) _ (step_told s named) (λ t read more. drive_told n t more))
        (λ h. record { tells = tt }))

    -- A replacement text ends where as many elements are open as before it.
    ends_told : (s : State) → StateNamed s → Told State src (λ (u : State). u.stack ≡ bottom) (text_ends context s)
    ends_told s named = grind (arith, rests_same)

    -- Content of a replacement text up to its end.
    drive_text_told : (n : ℕ) (s : State) → StateNamed s → Told State src (λ (u : State). u.stack ≡ bottom) (drive_text context n src s)
    unfolding drive_text
    drive_text_told zero s named = ends_told s named
    drive_text_told (suc n) s named =
        told_cond src _ (ltb s.at (length src)) _ _
        (λ h. told_bind src StateNamed _ (step context src s) _ (step_told s named) (λ t read more. drive_text_told n t more))
        (λ h. ends_told s named)

-- What a reference opens in content, by how many may still be open.
opener_told : (limit : ℕ) (es : List Entity) → AreTexts es → (d : ℕ) (main : Bool) (src : List ℕ) (t : Replacement) (after : ℕ) (s : State) → IsUtf8 t.source
    → Told State src (λ (u : State). u.stack ≡ s.stack) (opener limit es d main t after s)
unfolding opener
opener_told limit es texts zero main src t after s utf8 = record { tells = tt }
opener_told limit es texts (suc d) main src t after s utf8 =
    let inner = t.source in
    told_after src (λ (r : ℕ). Unit {0}) _ (budget main after s.openings_left) _ (budget_spans src main after s.openings_left) (λ r read h.
    let context : Context = record { limit = limit; values = values_of es d false; open_around = depth_of s.stack; opener = opener limit es d false } in
    let start : State = state t.start s.done s.stack r in
    told_bind src (λ (u : State). u.stack ≡ s.stack) _ (elsewhere inner (drive_text context (length inner) inner start)) _
    (told_elsewhere src inner _ (drive_text context (length inner) inner start)
    (drive_text_told inner s.stack utf8 context texts refl
    (λ i stop openings_left. value_told inner utf8 es texts (values_of es d false).opener (λ t after openings_left utf8. value_opener_told es texts d false inner t after openings_left utf8) false i stop openings_left)
    (λ t after s utf8. opener_told limit es texts d false inner t after s utf8) (length inner) start rests))
    (λ u read same. record { tells = same }))

-- ---- whole texts

-- Of what is asked and what comes of it.
told_asks : {A B : Type 0} (src : List ℕ) (P : A → Type 0) (Q : B → Type 0) (r : Asks A) (f : A → Asks B) → Told A src P r.1 → ((x : A) → r.1 ≡ Ok x → P x → Told B src Q (f x).1) → Told B src Q (r >>> f).1
told_asks src P Q r f h go = grind arith

-- And of a choice.
asks_cond : {A : Type 0} (src : List ℕ) (P : A → Type 0) (b : Bool) (x y : Asks A) → (b ≡ true → Told A src P x.1) → (b ≡ false → Told A src P y.1) → Told A src P (cond b x y).1
asks_cond src P b x y holds fails = grind arith

-- What opens nothing.
asks_lifted : {A B : Type 0} (src : List ℕ) (P : A → Type 0) (Q : B → Type 0) (r : Result A Fault) (f : A → Asks B) → Spanned A src P r → ((x : A) → r ≡ Ok x → P x → Told B src Q (f x).1)
    → Told B src Q (asks_nothing (lifted r) >>> f).1
asks_lifted src P Q r f h go = grind arith

module _ (src : List ℕ) where
  -- No element is open.
  abbrev AtTop : Dtd → Type 0
  AtTop d = Rests src root d.state.stack

  -- An answer.
  answer_told : (answer : Option (List ℕ)) → Told (Option Replacement) src (λ x. Unit {0}) (answer_text answer)
  unfolding answer_text
  answer_told answer = grind (arith, declaration_spans)

  replied_told : (request : Request) (p : ℕ) (reply : Reply) → Told (Option Replacement) src (λ x. Unit {0}) (replied request p reply).1
  replied_told request p (Err message) = record { tells = tt }
  replied_told request p (Ok answer) = answer_told answer

  defined_told : (definition : Definition) (p : ℕ) (replies : List Reply) → Told (Option Replacement × List Reply) src (λ x. Unit {0}) (defined definition p replies).1
  defined_told definition p replies = grind (arith, replied_told)

  -- An entity.
  entity_told : (d : Dtd) → AtTop d → Told Dtd src AtTop (entity_step src d).1
  unfolding entity_step
  entity_told d top = grind (arith, entity_head_spans, definition_spans, defined_told, byte_spans)

  passed_told : (i : ℕ) (d : Dtd) → AtTop d → Told Dtd src AtTop (skipped_declaration i src d).1
  unfolding skipped_declaration
  passed_told i d top = asks_cond src _ (ltb (byte_from (λ c. c == 62) src d.state.at) (length src)) _ _ (λ h. record { tells = top }) (λ h. record { tells = tt })

  end_told : (d : Dtd) → AtTop d → Told Dtd src AtTop (subset_end src d).1
  unfolding subset_end
  end_told d top = grind arith

  -- The items.
  subset_told : (n limit i : ℕ) (d : Dtd) → AtTop d → Told Dtd src AtTop (subset limit i n src d).1
  unfolding subset
  subset_told zero limit i d top = record { tells = top }
  subset_told (suc n) limit i d top =
      let s = at_place (spaces_end src d.state.at) d.state in
      let StackAt : State → Type 0 = λ t. Rests src root t.stack in
      asks_cond src _ (leb (length src) d.state.at) _ _ (λ h. record { tells = top })
      (λ h. asks_cond src _ (at word.EntityStart src s.at) _ _
      (λ h. told_asks src AtTop _ (entity_step src (with_state d s)) _ (entity_told (with_state d s) top) (λ e read top'. subset_told n limit i e top'))
      (λ h. asks_cond src _ (at word.CommentStart src s.at) _ _
      (λ h. asks_lifted src StackAt _ (comment_step limit src s) _ (comment_step_spans src root limit s top) (λ t read top'. subset_told n limit i (with_state d t) top'))
      (λ h. asks_cond src _ (at word.PIStart src s.at) _ _
      (λ h. asks_lifted src StackAt _ (instruction_step limit src s) _ (instruction_step_spans src root limit s top) (λ t read top'. subset_told n limit i (with_state d t) top'))
      (λ h. asks_cond src _ (at word.ElementStart src s.at || (at word.AttlistStart src s.at || at word.NotationStart src s.at)) _ _
      (λ h. told_asks src AtTop _ (skipped_declaration i src (with_state d s)) _ (passed_told i (with_state d s) top) (λ e read top'. subset_told n limit i e top'))
      (λ h. asks_cond src _ (byte src s.at == 93) _ _ (λ h. end_told (with_state d s) top) (λ h. record { tells = tt }))))))

  doctype_step_told : (limit : ℕ) (d : Dtd) → AtTop d → Told Dtd src AtTop (doctype_step limit src d).1
  unfolding doctype_step
  doctype_step_told limit d top = grind (arith, doctype_head_spans, subset_told)

  -- The document type declaration, and what follows it.
  doctype_told : (limit : ℕ) (allow : Bool) (d : Dtd) → AtTop d → Told Dtd src AtTop (doctype limit allow src d).1
  unfolding doctype
  doctype_told limit allow d top = grind (arith, doctype_step_told, misc_spans)

  module _ (utf8 : IsUtf8 src) where
    -- The root element and what follows it.
    body_told : (limit : ℕ) (es : List Entity) (s : State) → (byte src s.at ≡ 60 → AreTexts es) → Rests src root s.stack → Told (State × Bool) src (λ x. Unit {0}) (body limit es src s)
    unfolding body
    body_told limit es s entities named =
        let context = main_text limit es in
        let Named : State → Type 0 = λ u. Rests src root u.stack in
        told_cond src _ (byte src s.at == 60) _ _
        (λ opens.
        let is = eqb-true _ _ opens in
        let texts = entities is in
        let values : (i stop openings_left : ℕ) → Told (ReadText × ℕ) src (λ x. Unit {0}) (value_at true es context.values.opener src i stop openings_left) =
        λ i stop openings_left. value_told src utf8 es texts context.values.opener (λ t after openings_left utf8. value_opener_told es texts most_deep true src t after openings_left utf8) true i stop openings_left in
        let opener' : (t : Replacement) (after : ℕ) (s : State) → IsUtf8 t.source → Told State src (λ (u : State). u.stack ≡ s.stack) (context.opener t after s) =
        λ t after s utf8. opener_told limit es texts most_deep true src t after s utf8 in
        told_bind src Named _ (tag_step context src s) _ (tag_step_told src root utf8 context texts refl values opener' s is named) (λ t read more.
        told_bind src Named _ (drive context (length src) src t) _ (drive_told src root utf8 context texts refl values opener' (length src) t more) (λ u read more.
        told_after src Named _ (misc limit (length src) src u) _ (misc_spans src root (length src) limit u more) (λ v read h. record { tells = tt }))))
        (λ h. record { tells = tt })

    -- A whole text, if the entities of a document type declaration that is read are text.
    whole_told : (limit : ℕ) (allow : Bool) (replies : List Reply)
        → ((i : ℕ) (s : State) (d : Dtd) → prolog src (after_bom src) ≡ Ok i → misc limit (length src) src (state i Nil root 255) ≡ Ok s
        → (doctype limit allow src (record { state = s; entities = []; replies = replies })).1 ≡ Ok d → byte src d.state.at ≡ 60 → AreTexts d.entities)
        → Told (Forest Item) src (λ x. Unit {0}) (reading limit allow replies src).1
    unfolding reading
    whole_told limit allow replies entities =
        asks_lifted src (λ (i : ℕ). Unit {0}) _ (prolog src (after_bom src)) _ (prolog_spans src (after_bom src)) (λ i declared h.
        asks_lifted src (λ (t : State). Rests src root t.stack) _ (misc limit (length src) src (state i Nil root 255)) _ (misc_spans src root (length src) limit (state i Nil root 255) rests) (λ s first top.
        let before : Dtd = record { state = s; entities = []; replies = replies } in
        told_asks src AtTop _ (doctype limit allow src before) _ (doctype_told limit allow before top) (λ d passed top'.
        told_asks src (λ (x : State × Bool). Unit {0}) _ (asks_nothing (body limit d.entities src d.state)) _ (body_told limit d.entities d.state (entities i s d declared first passed) top') (λ x read h.
        told_lifted src (λ (t : Forest Item). Unit {0}) (finished src x) (finished_spans src x)))))

    -- Its entities are text where the replies are.
    pub reading_told : (limit : ℕ) (allow : Bool) (replies : List Reply) (asked : List Asked) (e : Refusal) → AreTextReplies replies → reading limit allow replies src ≡ (asked, Err e) → IsTold src e
    reading_told limit allow replies asked e texts h =
        told_refusal src (λ (t : Forest Item). Unit {0}) (reading limit allow replies src).1 e (whole_told limit allow replies entities) (ap (λ (x : Asks (Forest Item)). x.1) h)
      where
        -- Those that are read.
        entities : (i : ℕ) (s : State) (d : Dtd) → prolog src (after_bom src) ≡ Ok i → misc limit (length src) src (state i Nil root 255) ≡ Ok s
            → (doctype limit allow src (record { state = s; entities = []; replies = replies })).1 ≡ Ok d → byte src d.state.at ≡ 60 → AreTexts d.entities
        entities i s d declared first passed opens =
            let most = max limit 1 in
            let before : State → Dtd = λ s. record { state = s; entities = []; replies = replies } in
            let start : IsValidState most (state i Nil root 255) = record { nodes = omega arith; attributes = omega arith; pairs = omega arith; named = tt } in
            let cut = prolog_cut src utf8 (after_bom src) i (bom_cut src utf8) (prolog_sound src utf8 (after_bom src) i declared) in
            let m = misc_sound src utf8 (length src) limit most 255 i Nil s (omega arith) cut start first in
            let s_is : s ≡ state s.at m.0 root 255 = m.2 in
            let fine = subst (IsValidState most) s_is m.3 in
            let passed' : (doctype limit allow src (before (state s.at m.0 root 255))).1 ≡ Ok d = subst (λ (s : State). (doctype limit allow src (before s)).1 ≡ Ok d) s_is passed in
            let asked' = (doctype limit allow src (before (state s.at m.0 root 255))).0 in
            let whole : doctype limit allow src (before (state s.at m.0 root 255)) ≡ (asked', Ok d) = ap (λ (r : Result Dtd Refusal). (asked', r)) passed' in
            let doctypes = doctypes_agree src utf8 allow in
            let dtd = doctypes.sound limit most s.at m.0 replies asked' d (omega arith) texts fine whole (within src d.state.at (λ z. omega arith)) in
            doctypes.texts s.at d.state.at dtd.0 dtd.1 asked' d.entities dtd.2 dtd.3

    -- Where none is allowed nothing is declared, whatever the replies.
    pub plain_told : (limit : ℕ) (replies : List Reply) (asked : List Asked) (e : Refusal) → reading limit false replies src ≡ (asked, Err e) → IsTold src e
    plain_told limit replies asked e h =
        told_refusal src (λ (t : Forest Item). Unit {0}) (reading limit false replies src).1 e
        (whole_told limit false replies (λ i s d declared first passed opens.
        let same : [] ≡ d.entities = ap (λ (d : Dtd). d.entities) (doctype_none src utf8 limit (record { state = s; entities = []; replies = replies }) d passed).1 in
        subst AreTexts same (λ name t found. cc found)))
        (ap (λ (x : Asks (Forest Item)). x.1) h)

-- The names in the refusal of a text that may have no document type declaration are texts of it.
pub plain_names : (limit : ℕ) (replies : List Reply) (src : List ℕ) (asked : List Asked) (f : Fault) → IsUtf8 src → reading limit false replies src ≡ (asked, Err (here f)) → NamesText src f
plain_names limit replies src asked f utf8 h = plain_told src utf8 limit replies asked (here f) h

-- Those of a text whose replies are text: of the text itself.
pub names_here : (limit : ℕ) (allow : Bool) (replies : List Reply) (src : List ℕ) (asked : List Asked) (f : Fault) → IsUtf8 src → AreTextReplies replies → reading limit allow replies src ≡ (asked, Err (here f)) → NamesText src f
names_here limit allow replies src asked f utf8 texts h = reading_told src utf8 limit allow replies asked (here f) texts h

-- And of a replacement text or an answer.
pub names_there : (limit : ℕ) (allow : Bool) (replies : List Reply) (src source : List ℕ) (asked : List Asked) (f : Fault) → IsUtf8 src → AreTextReplies replies → reading limit allow replies src ≡ (asked, Err (there source f)) → NamesText source f
names_there limit allow replies src source asked f utf8 texts h = reading_told src utf8 limit allow replies asked (there source f) texts h
