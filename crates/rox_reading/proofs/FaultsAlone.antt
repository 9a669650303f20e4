-- After the document type declaration a text is refused by its own faults alone: nothing is asked there.
use Rattle.std.proofs.Common.{◌≡◌, subst, ℕ, zero, suc, ◌+◌, ◌-◌, ◌==◌, Bool, true, false, cond, nat_lt, nat_le, List, [], length, Result, Ok, Err, arith}
use Rattle.std.specs.Prelude.{bytes_eq}
use Rattle.rox_grammar.specs.declared.fault.Fault.{Fault}
use Rattle.rox_grammar.specs.declared.fault.Word.TheVariants as word
use Rattle.rox_grammar.specs.FixedTexts.{word_text}
use Rattle.rox_grammar.specs.Written.{NamespaceDecl}
use Rattle.rox_grammar.specs.Tree.{listed}
use Rattle.rox_grammar.specs.Names.{byte, slice}
use Rattle.rox_grammar.specs.Content.{is_verbatim, is_verbatim_value}
use Rattle.rox_grammar.specs.Entities.{Replacement, Entity, most_deep}
use Rattle.rox_grammar.specs.State.{is_root}
use Rattle.rox_reading.specs.Lexical.{◌>>=◌, qname_at}
use Rattle.rox_reading.specs.Refusals.{Refusal, here, lifted, elsewhere}
use Rattle.rox_reading.specs.Answering.{IsTextRefusal}
use Rattle.rox_reading.specs.State.{State, depth_of}
use Rattle.rox_reading.specs.Markup.{TagItem, more, opened, closed, tag_item_at}
use Rattle.rox_reading.specs.Values.{Bit, bytes_of, opens, Next, at_end, opening, data_part, part_text, raw_character_data_at, value_bit_at, ValueInclusion, after_value_bit, value_text, value_at}
use Rattle.rox_reading.specs.Tags.{TagSoFar, Values, TagRest, after_tag_item, attributes_at, taken, attribute_with, tag_tested, tag_at}
use Rattle.rox_reading.specs.Machine.{Context, with_piece, after_part, data_parts, character_data_step, tag_step, step, drive, text_ends, drive_text, budget, value_opener, values_of, opener, main_text}
use Rattle.rox_reading.specs.WholeText.{misc, body}

-- It is not a refusal of the resolver.
pub record Alone (A : Type 0) (r : Result A Refusal) : Type 0 where
  pub is : (e : Refusal) → r ≡ Err e → IsTextRefusal e

pub good : {A : Type 0} (x : A) → Alone A (Ok x)
good x = record { is = λ e h. cc h }

bad : {A : Type 0} (f : Fault) → Alone A (Err (here f))
bad f = record { is = λ e h. (let same : here f ≡ e = cc in subst IsTextRefusal same tt) }

pub alone_lifted : {A : Type 0} (r : Result A Fault) → Alone A (lifted r)
alone_lifted r = grind arith

-- One after the other.
alone_bind : {A B : Type 0} (r : Result A Refusal) (f : A → Result B Refusal) → Alone A r → ((x : A) → Alone B (f x)) → Alone B (r >>= f)
alone_bind r f h k = grind arith

alone_after : {A B : Type 0} (r : Result A Fault) (f : A → Result B Refusal) → ((x : A) → Alone B (f x)) → Alone B (lifted r >>= f)
alone_after r f go = alone_bind (lifted r) f (alone_lifted r) go

-- A choice.
alone_cond : {A : Type 0} (b : Bool) (x y : Result A Refusal) → Alone A x → Alone A y → Alone A (cond b x y)
alone_cond b x y h k = grind arith

-- Of another source.
alone_elsewhere : {A : Type 0} (source : List ℕ) (r : Result A Refusal) → Alone A r → Alone A (elsewhere source r)
alone_elsewhere source r h = grind arith

-- ---- values

module _ (main : Bool) (es : List Entity) (open' : ValueInclusion) (opens_alone : (t : Replacement) (j l : ℕ) → Alone (List ℕ × ℕ) (open' t j l)) where
  value_alone : (n : ℕ) (src : List ℕ) (stop i openings_left : ℕ) → Alone (List ℕ × ℕ) (value_text main es open' n src stop i openings_left)
  unfolding value_text
  value_alone zero src stop i openings_left = good _
  value_alone (suc n) src stop i openings_left =
      alone_cond (nat_lt i stop) _ _ (alone_after (value_bit_at main es src stop i) _ (λ x. bit x.0 x.1 (λ j l. value_alone n src stop j l))) (good _)
    where
      bit : (b : Bit) (j : ℕ) → ((j l : ℕ) → Alone (List ℕ × ℕ) (value_text main es open' n src stop j l)) → Alone (List ℕ × ℕ) (after_value_bit open' (λ j l. value_text main es open' n src stop j l) openings_left b j)
      bit (bytes_of bs) j next = alone_bind _ _ (next j openings_left) (λ rest. good _)
      bit (opens t) j next = alone_bind _ _ (opens_alone t j openings_left) (λ x. alone_bind _ _ (next j x.1) (λ rest. good _))

  value_at_alone : (src : List ℕ) (i stop openings_left : ℕ) → Alone _ (value_at main es open' src i stop openings_left)
  unfolding value_at
  value_at_alone src i stop openings_left = alone_cond (is_verbatim_value (slice src i stop)) _ _ (good _) (alone_bind _ _ (value_alone (stop - i) src stop i openings_left) (λ x. good _))

value_opener_alone : (es : List Entity) (d : ℕ) (main : Bool) (t : Replacement) (j l : ℕ) → Alone (List ℕ × ℕ) (value_opener es d main t j l)
unfolding value_opener
value_opener_alone es zero main t j l = bad _
value_opener_alone es (suc d) main t j l =
    alone_after (budget main j l) _ (λ r. alone_bind _ _ (alone_elsewhere t.source _ (value_alone false es (value_opener es d false) (λ t j l. value_opener_alone es d false t j l) (length t.source) t.source (length t.source) t.start r)) (λ x. good _))

-- ---- tags

module _ (context : Values) (opens_alone : (t : Replacement) (j l : ℕ) → Alone (List ℕ × ℕ) (context.opener t j l)) where
  attributes_alone : (n : ℕ) (cut : Fault) (known : List NamespaceDecl) (src : List ℕ) (i openings_left : ℕ) (h : TagSoFar) → Alone (TagRest × ℕ) (attributes_at n context cut known src i openings_left h)
  unfolding attributes_at
  attributes_alone zero cut known src i openings_left h = bad cut
  attributes_alone (suc n) cut known src i openings_left h =
      alone_cond (nat_le (length src) i) _ _ (bad cut) (alone_after (tag_item_at src i) _ (λ x. turn x.0 x.1 (λ j l held. attributes_alone n cut known src j l held)))
    where
      turn : (t : TagItem) (j : ℕ) → ((j l : ℕ) (held : TagSoFar) → Alone (TagRest × ℕ) (attributes_at n context cut known src j l held))
          → Alone (TagRest × ℕ) (after_tag_item (λ j l held. attributes_at n context cut known src j l held) context known src openings_left h t j)
      turn (more raw) j next =
          alone_bind _ _ (value_at_alone context.main context.entities context.opener opens_alone src raw.value_start raw.value_end openings_left) (λ v. alone_after (taken known (attribute_with raw v.0) h) _ (λ held. next j v.1 held))
      turn opened j next = good _
      turn closed j next = good _

  tag_alone : (cut : Fault) (above : List NamespaceDecl) (count : ℕ) (known : List NamespaceDecl) (src : List ℕ) (i openings_left : ℕ) → Alone _ (tag_at context cut above count known src i openings_left)
  unfolding tag_at
  tag_alone cut above count known src i openings_left =
      alone_after (qname_at src (i + 1)) _ (λ name. alone_cond (bytes_eq name.0.prefix (word_text word.Xmlns)) _ _ (bad _)
      (alone_bind _ _ (attributes_alone (length src) cut known src name.1 openings_left (record { own = []; attributes = [] }))
      (λ x. alone_after (tag_tested (listed above x.0.held.own) count i name.0 x.0.held.attributes) _ (λ u. good _))))

-- ---- content

module _ (context : Context) (values_alone : (t : Replacement) (j l : ℕ) → Alone (List ℕ × ℕ) (context.values.opener t j l)) (opens_alone : (t : Replacement) (j : ℕ) (s : State) → Alone State (context.opener t j s)) where
  parts_alone : (n : ℕ) (src : List ℕ) (start stop : ℕ) (s : State) → Alone State (data_parts context n src start stop s)
  unfolding data_parts
  parts_alone zero src start stop s = good _
  parts_alone (suc n) src start stop s =
      alone_after (data_part context.values.main context.values.entities (stop - s.at) src stop s.at) _ (λ x.
      alone_after (with_piece context.limit s start stop (part_text context.values.main x.0)) _ (λ t. part x.1 t (λ u. parts_alone n src start stop u)))
    where
      part : (x : Next) (t : State) → ((u : State) → Alone State (data_parts context n src start stop u)) → Alone State (after_part context (λ u. data_parts context n src start stop u) stop t x)
      part at_end t next = good _
      part (opening r j) t next = alone_bind _ _ (opens_alone r j t) next

  run_alone : (src : List ℕ) (s : State) → Alone State (character_data_step context src s)
  unfolding character_data_step
  run_alone src s = alone_after (raw_character_data_at src s.at) _ (λ x. alone_cond (is_verbatim x.0) _ _ (alone_lifted _) (parts_alone (length src) src s.at x.1 s))

  tag_step_alone : (src : List ℕ) (s : State) → Alone State (tag_step context src s)
  unfolding tag_step
  tag_step_alone src s = grind (arith, alone_bind, tag_alone)

  step_alone : (src : List ℕ) (s : State) → Alone State (step context src s)
  unfolding step
  step_alone src s = grind (arith, run_alone, bad, alone_lifted, tag_step_alone)

  drive_alone : (n : ℕ) (src : List ℕ) (s : State) → Alone State (drive context n src s)
  unfolding drive
  drive_alone zero src s = alone_cond (is_root s.stack) _ _ (good _) (bad _)
  drive_alone (suc n) src s =
      alone_cond (is_root s.stack) _ _ (good _) (alone_cond (nat_lt s.at (length src)) _ _ (alone_bind _ _ (step_alone src s) (λ t. drive_alone n src t)) (bad _))

  ends_alone : (s : State) → Alone State (text_ends context s)
  ends_alone s = alone_cond (depth_of s.stack == context.open_around) _ _ (good _) (bad _)

  text_alone : (n : ℕ) (src : List ℕ) (s : State) → Alone State (drive_text context n src s)
  unfolding drive_text
  text_alone zero src s = ends_alone s
  text_alone (suc n) src s = alone_cond (nat_lt s.at (length src)) _ _ (alone_bind _ _ (step_alone src s) (λ t. text_alone n src t)) (ends_alone s)

opener_alone : (limit : ℕ) (es : List Entity) (d : ℕ) (main : Bool) (t : Replacement) (j : ℕ) (s : State) → Alone State (opener limit es d main t j s)
unfolding opener
opener_alone limit es zero main t j s = bad _
opener_alone limit es (suc d) main t j s =
    alone_after (budget main j s.openings_left) _ (λ r. alone_bind _ _
    (alone_elsewhere t.source _ (text_alone (record { limit = limit; values = values_of es d false; open_around = depth_of s.stack; opener = opener limit es d false })
    (λ t j l. value_opener_alone es d false t j l) (λ t j s. opener_alone limit es d false t j s) (length t.source) t.source _)) (λ u. good _))

-- The root element and what follows it.
pub body_alone : (limit : ℕ) (es : List Entity) (src : List ℕ) (s : State) → Alone (State × Bool) (body limit es src s)
unfolding body
body_alone limit es src s =
    let values : (t : Replacement) (j l : ℕ) → Alone (List ℕ × ℕ) ((main_text limit es).values.opener t j l) = λ t j l. value_opener_alone es most_deep true t j l in
    let texts : (t : Replacement) (j : ℕ) (s : State) → Alone State ((main_text limit es).opener t j s) = λ t j s. opener_alone limit es most_deep true t j s in
    alone_cond (byte src s.at == 60) _ _
    (alone_bind _ _ (tag_step_alone (main_text limit es) values texts src s) (λ t. alone_bind _ _ (drive_alone (main_text limit es) values texts (length src) src t) (λ u.
    alone_after (misc limit (length src) src u) _ (λ v. good _)))) (good _)
