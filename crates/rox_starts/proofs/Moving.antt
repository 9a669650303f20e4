-- What is read of content moves on in the source.
use Rattle.std.proofs.Common.{◌≡◌, ◌≢◌, ℕ, zero, suc, ◌+◌, ◌<◌, ◌≤◌, Bool, nat_le, bytes_eq, leb, List, length, Result, Ok, sym, ap, ◌∙◌, arith, IsUtf8}
use Rattle.rox_grammar.specs.declared.fault.Fault.{Fault}
use Rattle.rox_grammar.specs.declared.fault.Word.TheVariants as word
use Rattle.rox_grammar.specs.Content.{is_verbatim}
use Rattle.rox_grammar.specs.FixedTexts.{word_text}
use Rattle.rox_grammar.specs.Forest.{Forest}
use Rattle.rox_grammar.specs.NameParts.{same_qname}
use Rattle.rox_grammar.specs.Names.{byte, spaces_end}
use Rattle.rox_grammar.specs.State.{Open, inside, root}
use Rattle.rox_grammar.specs.Tree.{listed}
use Rattle.rox_grammar.specs.Written.{Item, Name, NamespaceDecl, Tag}
use Rattle.rox_reading.specs.Lexical.{qname_at}
use Rattle.rox_reading.specs.Machine.{Context, after_part, cdata_step, character_data_step, closed_by, comment_step, data_parts, end_step, instruction_step, opened_by, step, tag_step, with_item, with_piece}
use Rattle.rox_reading.specs.Markup.{RawAttribute, TagItem, more, opened, closed, cdata_at, comment_at, end_tag_at, instruction_at, tag_item_at}
use Rattle.rox_reading.specs.Refusals.{Refusal}
use Rattle.rox_reading.specs.State.{State, depth_of}
use Rattle.rox_reading.specs.Tags.{TagRead, TagRest, TagSoFar, Values, after_tag_item, attribute_with, attributes_at, tag_at, tag_tested, taken}
use Rattle.rox_reading.specs.Values.{Next, data_part, part_text, raw_character_data_at, value_at}
use Rattle.rox_theory.proofs.AttributeLemmas.{RawStands, TurnStands, turn_sound}
use Rattle.rox_theory.proofs.Basics.{bind_lifted, bind_lifted_only, bind_ok, chosen, ok_same, run_end_le}
use Rattle.rox_theory.proofs.Constructions.{Kind, Means, a_comment, a_cdata, a_run, a_tag, an_end, an_instruction, kind_at, kind_means, nothing, step_by, step_is}
use Rattle.rox_theory.proofs.MarkupLemmas.{cdata_sound, comment_sound, end_sound, instruction_sound}
use Rattle.rox_theory.proofs.NameLemmas.{qname_le, qname_sound}
use Rattle.rox_theory.proofs.Productions.{char_data_parts}
use Rattle.rox_theory.proofs.RunLemmas.{raw_sound}
use Rattle.rox_theory.proofs.TagLemmas.{ends_inside}

-- ---- start tags

raw_moves : (src : List ℕ) (i j : ℕ) (raw : RawAttribute) → RawStands src i j raw → i ≤ j
raw_moves src i j raw r = grind (arith, qname_le, run_end_le)

turn_moves : (src : List ℕ) (next : ℕ → ℕ → TagSoFar → Result (TagRest × ℕ) Refusal)
    → ((j l : ℕ) (held : TagSoFar) (x : TagRest × ℕ) → next j l held ≡ Ok x → j < x.1)
    → (context : Values) (known : List NamespaceDecl) (i l : ℕ) (h : TagSoFar) (t : TagItem) (j : ℕ) (x : TagRest × ℕ)
    → TurnStands src i t j → after_tag_item next context known src l h t j ≡ Ok x → i < x.1
turn_moves src next rest context known i l h (more raw) j x stands is =
    bind_ok (value_at context.main context.entities context.opener src raw.value_start raw.value_end l) _ _ is (λ v read is.
    bind_lifted (taken known (attribute_with raw v.0) h) _ _ is (λ held first is.
    omega (arith, stands.0, raw_moves src (spaces_end src i) j raw stands.1, rest j v.1 held x is)))
turn_moves src next rest context known i l h opened j x stands is = grind (arith, ends_inside)
turn_moves src next rest context known i l h closed j x stands is = omega (arith, (ends_inside src i _ j stands).1, ap (λ (y : TagRest × ℕ). y.1) (ok_same _ _ is))

attributes_move : (src : List ℕ) → IsUtf8 src
    → (n : ℕ) (context : Values) (cut : Fault) (known : List NamespaceDecl) (i l : ℕ) (h : TagSoFar) (x : TagRest × ℕ)
    → attributes_at n context cut known src i l h ≡ Ok x → i < x.1
unfolding attributes_at
attributes_move src utf8 zero context cut known i l h x is = cc is
attributes_move src utf8 (suc n) context cut known i l h x is =
    chosen (leb (length src) i) _ _ _ is (λ out is. cc) (λ inside is. bind_lifted (tag_item_at src i) _ _ is (λ t turn is.
    turn_moves src (λ j l held. attributes_at n context cut known src j l held)
    (λ j l held y. attributes_move src utf8 n context cut known j l held y) context known i l h t.0 t.1 x
    (turn_sound src utf8 i t turn) is))

pub tag_moves : (src : List ℕ) → IsUtf8 src
    → (context : Values) (cut : Fault) (above : List NamespaceDecl) (count : ℕ) (known : List NamespaceDecl) (i l : ℕ) (x : TagRead × ℕ)
    → tag_at context cut above count known src i l ≡ Ok x → i < x.1
unfolding tag_at
tag_moves src utf8 context cut above count known i l x h =
    bind_lifted (qname_at src (i + 1)) _ _ h (λ n named h.
    chosen (bytes_eq n.0.prefix (word_text word.Xmlns)) _ _ _ h (λ reserved h. cc) (λ free h.
    bind_ok (attributes_at (length src) context cut known src n.1 l _) _ _ h (λ y rest h.
    bind_lifted (tag_tested (listed above y.0.held.own) count i n.0 y.0.held.attributes) _ _ h (λ u tested h.
    omega (
      arith,
      qname_le src (i + 1) n.0 n.1 (qname_sound src (i + 1) n named),
      attributes_move src utf8 (length src) context cut known n.1 l _ y rest,
      ap (λ (z : TagRead × ℕ). z.1) (ok_same _ _ h),
    )))))

-- ---- constructs

-- a state stands where it was made
made_at : {E : Type 0} (s t : State) → ◌≡◌ {A = Result State E} (Ok s) (Ok t) → t.at ≡ s.at
made_at s t h = sym (ap (λ (u : State). u.at) (ok_same _ _ h))

-- so it does within the limit
item_at : (limit : ℕ) (s t : State) (j : ℕ) (item : Item) → with_item limit s j item ≡ Ok t → t.at ≡ j
item_at limit s t j item h = chosen (nat_le _ limit) _ _ _ h (λ few e. made_at _ t e) (λ many e. cc)

opened_at : (limit : ℕ) (s t : State) (tag : Tag) (empty : Bool) (l j : ℕ) → opened_by limit s tag empty l j ≡ Ok t → t.at ≡ j
opened_at limit s t tag empty l j h = grind arith

-- the parts of a run end where it does
part_at : (context : Context) (rest : State → Result State Refusal) (stop : ℕ) (t : State) → ((v : State) → rest v ≡ Ok t → t.at ≡ stop)
    → (u : State) (next : Next) → after_part context rest stop u next ≡ Ok t → t.at ≡ stop
part_at context rest stop t on u next h = grind arith

parts_at : (context : Context) (n : ℕ) (src : List ℕ) (start stop : ℕ) (s t : State) → data_parts context n src start stop s ≡ Ok t
    → t.at ≡ stop
unfolding data_parts
parts_at context zero src start stop s t h = made_at _ t h
parts_at context (suc n) src start stop s t h =
    bind_lifted (data_part context.values.main context.values.entities _ src stop s.at) _ _ h (λ x read h.
    bind_lifted (with_piece context.limit s start stop (part_text context.values.main x.0)) _ _ h (λ u piece h.
    part_at context (λ v. data_parts context n src start stop v) stop t (λ v rest. parts_at context n src start stop v t rest) u x.1 h))

run_moves : (context : Context) (src : List ℕ) (s t : State) → IsUtf8 src → s.at < length src → byte src s.at ≢ 60
    → character_data_step context src s ≡ Ok t → s.at < t.at
unfolding character_data_step
run_moves context src s t utf8 here other h =
    bind_lifted (raw_character_data_at src s.at) _ _ h (λ x read h.
    let some = (char_data_parts (raw_sound src utf8 s.at x here other read).0).some in
    chosen (is_verbatim x.0) _ _ _ h
    (λ whole h. bind_lifted_only (with_item context.limit s x.1 _) t h (λ adds. omega (arith, some, item_at context.limit s t x.1 _ adds)))
    (λ parted h. omega (arith, some, parts_at context (length src) src s.at x.1 s t h)))

close_at : (i : ℕ) (name : Name) (n j : ℕ) (done : Forest Item) (o : Open) (l : ℕ) (t : State) → closed_by i name n j done o l ≡ Ok t
    → t.at ≡ j
unfolding closed_by
close_at i name n j done root l t h = cc
close_at i name n j done (inside start tag before up) l t h =
    chosen (same_qname tag.name name) _ _ _ h (λ same e. made_at _ t e) (λ other e. cc)

kind_moves : (context : Context) (src : List ℕ) (s t : State) (k : Kind) → IsUtf8 src → s.at < length src → Means src s.at k
    → step_by k context src s ≡ Ok t → s.at < t.at
unfolding comment_step cdata_step instruction_step end_step tag_step
kind_moves context src s t a_run utf8 here means h = run_moves context src s t utf8 here means h
kind_moves context src s t a_comment utf8 here means h =
    bind_lifted_only (comment_step context.limit src s) t h (λ h. bind_ok (comment_at src s.at) _ _ h (λ x read h.
    omega (arith, (comment_sound src utf8 s.at x.1 x.0 means read).3, item_at context.limit s t x.1 _ h)))
kind_moves context src s t a_cdata utf8 here means h =
    bind_lifted_only (cdata_step context.limit src s) t h (λ h. bind_ok (cdata_at src s.at) _ _ h (λ x read h.
    omega (arith, (cdata_sound src utf8 s.at x.1 x.0 means read).3, item_at context.limit s t x.1 _ h)))
kind_moves context src s t an_instruction utf8 here means h =
    bind_lifted_only (instruction_step context.limit src s) t h (λ h. bind_ok (instruction_at src s.at) _ _ h (λ x read h.
    omega (arith, (instruction_sound src utf8 s.at x.1 x.0 means read).4, item_at context.limit s t x.1 _ h)))
kind_moves context src s t an_end utf8 here means h =
    bind_lifted_only (end_step context src s) t h (λ h. bind_ok (end_tag_at src s.at) _ _ h (λ x read h.
    chosen (nat_le (depth_of s.stack) context.open_around) _ _ _ h (λ around h. cc) (λ inner h.
    omega (arith, (end_sound src s.at x.1 x.0 means read).1, close_at s.at x.0.name x.0.name_end x.1 s.done s.stack s.openings_left t h))))
kind_moves context src s t a_tag utf8 here means h =
    bind_ok (tag_at context.values _ _ _ _ src s.at s.openings_left) _ _ h (λ x read h.
    bind_lifted_only (opened_by context.limit s x.0.tag x.0.empty x.0.openings_left x.1) t h (λ h.
    let opens = opened_at context.limit s t x.0.tag x.0.empty x.0.openings_left x.1 h in
    omega (arith, tag_moves src utf8 context.values _ _ _ _ s.at s.openings_left x read, opens)))
kind_moves context src s t nothing utf8 here means h = cc

pub step_moves : (context : Context) (src : List ℕ) (s t : State) → IsUtf8 src → s.at < length src → step context src s ≡ Ok t → s.at < t.at
step_moves context src s t utf8 here h =
    kind_moves context src s t (kind_at src s.at) utf8 here (kind_means src s.at) (sym (step_is context src s) ∙ h)
