use Rattle.std.proofs.Common.{◌≡◌, ◌<◌, ◌≤◌, ◌+◌, ◌-◌, suc, ℕ, Bool, true, false, List, Ok, length, refl, sym, ap, subst, ◌∙◌, arith, rules, IsCharBoundary, leb-true, leb-false}
use Rattle.std.proofs.lemmas.Grind.{common_steps}
use Rattle.std.proofs.lemmas.Result.{err_from_is_err_and}
use Rattle.rox_grammar.specs.Content.{is_verbatim}
use Rattle.rox_grammar.specs.Entities.{Entity, Replacement}
use Rattle.rox_reading.specs.Machine.{opener}
use Rattle.rox_reading.specs.State.{State, depth_of}
use Rattle.rox_reading.specs.Values.{ReadText}
use Rattle.rox_scan.specs.Views.{replacement_view}
use Rattle.rox_values.specs.Contexts.{context_of}
use Rattle.rox_builder.specs.BuilderState.{GoesOn}
use Rattle.rox_builder.proofs.Stepping.{fine_open, state_kept, two_stand, step_is_run, step_is_markup, plain_run, parted_run, run_fails, text_stepped, same_shows}
use Rattle.rox_builder.proofs.Parting.{rests_of, parting_ends, parting_on, parting_fails, parting_stops, parting_out}
use Rattle.rox_builder.proofs.TextLooping.{opened_depth, text_on, text_fails, text_at_end, text_spent}
use Rattle.rox_builder.proofs.TextOpening.{inner_state, outer_state, opens_err, opens_reads, opens_refuses, opener_at}
use Rattle.rox_constructs.proofs.ParsedResults.{goes_too, parses_too, whatever_it_is}
use Rattle.rox_build.proofs.content.+content.Goals as goal

-- ---- character data

pub character_data_pieces-returns-in_err-raw : goal.character_data_pieces-returns-in_err-raw
character_data_pieces-returns-in_err-raw t c = grind (arith, run_fails)

pub character_data_pieces-returns-then-raw : goal.character_data_pieces-returns-then-raw
character_data_pieces-returns-then-raw t c = record {
  value = λ limit end es s declared h.
      let b = c.args.builder.now in
      let raw = c.in_ok-raw.raw.text.now in
      let j = c.raw_character_data.new.cursor.pos in
      let plain : is_verbatim raw ≡ true = sym c.in_ok-raw.ensures.verbatim ∙ c.if-raw.true in
      let text : ReadText = record { value = raw; borrowed = true } in
      rw (plain_run (context_of limit es c.args.context) c.args.cursor.now.text.now s c.args.cursor.now.pos j raw h.here c.in_ok-raw.ensures.read.value plain)
      (parses_too limit end _ _ _ _ _ c.parsed.ensures
      (text_stepped limit end s c.args.cursor.now c.raw_character_data.new.cursor b c.piece.new.self c.piece.result text h c.piece.ensures.kept.tables c.piece.ensures.kept.limit c.piece.ensures.kept.openings_left
      (c.piece.ensures.value end j s h.shows)));
  goes =
      let on : GoesOn c.args.cursor.now c.raw_character_data.new.cursor c.piece.new.self = record { source = c.in_ok-raw.ensures.read.source; fine = fine_open c.args.builder.now c.piece.new.self c.piece.ensures.kept c.requires.fine } in
      whatever_it_is _ _ on;
}

pub character_data_pieces-returns : goal.character_data_pieces-returns
character_data_pieces-returns t c = record {
  value = λ limit end es s declared h.
      let raw = c.in_ok-raw.raw.text.now in
      let j = c.raw_character_data.new.cursor.pos in
      let same = ap (λ t. t.now) c.in_ok-raw.ensures.read.source in
      let other : is_verbatim raw ≡ false = sym c.in_ok-raw.ensures.verbatim ∙ c.if-raw.false in
      rw (parted_run (context_of limit es c.args.context) c.args.cursor.now.text.now s c.args.cursor.now.pos j raw h.here c.in_ok-raw.ensures.read.value other, ← same)
      (c.data_parts.ensures.value limit end es s declared (record { here = h.here; limit_is = h.limit_is; shows = h.shows; namespaces = h.namespaces; attributes = h.attributes; openings_left_is = h.openings_left_is }));
  goes = search rules;
}

pub character_data-returns-in_err-character_data_pieces : goal.character_data-returns-in_err-character_data_pieces
character_data-returns-in_err-character_data_pieces t c = grind arith

pub character_data-returns : goal.character_data-returns
character_data-returns t c = record {
  value = λ limit end es s declared h.
      let r = c.in_ok-character_data_pieces.ensures.value limit end es s declared h in
      let k = r.2 in (
        r.0,
        r.1,
        record {
          here = k.here;
          limit_is = c.end_run.ensures.kept.limit ∙ k.limit_is;
          shows = c.in_ok-end_run.ensures.ok end r.0.stack r.0.done k.shows;
          namespaces = rw c.end_run.ensures.kept.tables k.namespaces;
          attributes = rw c.end_run.ensures.kept.tables k.attributes;
          openings_left_is = c.end_run.ensures.kept.openings_left ∙ k.openings_left_is;
        },
      );
  goes = search rules;
}

-- ---- its parts

opened_place : (limit : ℕ) (es : List Entity) (depth_left : ℕ) (main : Bool) (t : Replacement) (after : ℕ) (s u : State) → opener limit es depth_left main t after s ≡ Ok u → after ≡ u.at
opened_place limit es depth_left main t after s u is = sym (opener_at limit es depth_left main t after s u is)

pub data_parts-returns-in_err-text : goal.data_parts-returns-in_err-text
data_parts-returns-in_err-text t c = record {
  value = λ limit end es s declared h.
      let src = c.args.cursor.now.text.now in
      let context = context_of limit es c.args.context in
      let n = length src - c.loop-turn._turn in
      let one : n ≡ suc (n - 1) = omega arith in
      let s0 = ap (λ t. t.now) c.loop-turn.invariant.source in
      let g = c.loop-turn.invariant.reads limit end es s declared h in
      let p = err_from_is_err_and c.from_residual.result c.from_residual.ensures.1 in
      rw (p.1, p.2) (parting_fails context end src c.args.start c.args.stop _ n (n - 1) c.loop-turn.cursor c.loop-turn.builder c.in_err-text.field-0.0 g one (rw s0 at (c.in_err-text.ensures.value limit end es g.s declared g.sees)));
  goes = let p = err_from_is_err_and c.from_residual.result c.from_residual.ensures.1 in rw p.1 tt;
}

pub data_parts-returns-in_err-open_text-in-Some : goal.data_parts-returns-in_err-open_text-in-Some
data_parts-returns-in_err-open_text-in-Some t c = record {
  value = λ limit end es s declared h.
      let src = c.args.cursor.now.text.now in
      let context = context_of limit es c.args.context in
      let n = length src - c.loop-turn._turn in
      let one : n ≡ suc (n - 1) = omega arith in
      let g = c.loop-turn.invariant.reads limit end es s declared h in
      let part = rw ((ap (λ t. t.now) c.loop-turn.invariant.source), c.in-Some.is) at (c.in_ok-text.ensures.value limit end es g.s declared g.sees) in
      let p = err_from_is_err_and c.from_residual-in_err-open_text-in-Some.result c.from_residual-in_err-open_text-in-Some.ensures.1 in
      rw (p.1, p.2) (parting_stops context end src c.args.start c.args.stop _ n (n - 1) c.loop-turn.cursor c.loop-turn.builder part.0 (replacement_view c.in-Some.text) c.part_piece.new.cursor.pos c.in_err-open_text-in-Some.field-0.0 g one part.1
      (c.in_err-open_text-in-Some.ensures.value limit end es part.0 declared part.2));
  goes = let p = err_from_is_err_and c.from_residual-in_err-open_text-in-Some.result c.from_residual-in_err-open_text-in-Some.ensures.1 in rw p.1 tt;
}

pub data_parts-returns-in-None : goal.data_parts-returns-in-None
data_parts-returns-in-None t c = record {
  value = λ limit end es s declared h.
      let src = c.args.cursor.now.text.now in
      let context = context_of limit es c.args.context in
      let n = length src - c.loop-turn._turn in
      let g = c.loop-turn.invariant.reads limit end es s declared h in
      let part = rw ((ap (λ t. t.now) c.loop-turn.invariant.source), c.in-None.is) at (c.in_ok-text.ensures.value limit end es g.s declared g.sees) in
      parting_ends context end src c.args.start c.args.stop _ n (n - 1) c.loop-turn.cursor _ c.loop-turn.builder c.part_piece.new.builder part.0 g (omega arith) part.1 part.2 refl;
  goes = search rules;
}

pub data_parts-loop-turn-preserved : goal.data_parts-loop-turn-preserved
data_parts-loop-turn-preserved t c = record {
  source = c.in_ok-text.ensures.goes.source ∙ c.loop-turn.invariant.source;
  fine = c.in_ok-open_text-in-Some.ensures.fine;
  reads = λ limit end es s declared h.
      let src = c.args.cursor.now.text.now in
      let context = context_of limit es c.args.context in
      let n = length src - c.loop-turn._turn in
      let one : n ≡ suc (length src - (c.loop-turn._turn + 1)) = omega arith in
      let g = c.loop-turn.invariant.reads limit end es s declared h in
      let part = rw ((ap (λ t. t.now) c.loop-turn.invariant.source), c.in-Some.is) at (c.in_ok-text.ensures.value limit end es g.s declared g.sees) in
      let text = replacement_view c.in-Some.text in
      let after = c.part_piece.new.cursor.pos in
      let opened = c.in_ok-open_text-in-Some.ensures.value limit end es part.0 declared part.2 in
      parting_on context end src c.args.start c.args.stop _ n (length src - (c.loop-turn._turn + 1)) c.loop-turn.cursor c.part_piece.new.cursor c.loop-turn.builder c.open_text.new.builder part.0 opened.0 text after g one part.1 opened.1
      (opened_place limit es c.args.context.depth_left c.args.context.main text after part.0 opened.0 opened.1) opened.2;
}

pub data_parts-returns : goal.data_parts-returns
data_parts-returns t c = record {
  value = λ limit end es s declared h.
      let src = c.args.cursor.now.text.now in
      let over = c.loop-turn-test.false in
      let none : length src - c.loop-turn._turn ≡ 0 = omega arith in
      parting_out (context_of limit es c.args.context) end src c.args.start c.args.stop _ _ c.loop-turn.cursor _ c.loop-turn.builder (c.loop-turn.invariant.reads limit end es s declared h) none refl;
  goes = search rules;
}

-- ---- a replacement text

pub open_text-returns-then-joined : goal.open_text-returns-then-joined
open_text-returns-then-joined t c = grind arith

pub open_text-returns : goal.open_text-returns
open_text-returns t c = grind arith

pub open_other_text-returns-in_err-within : goal.open_other_text-returns-in_err-within
open_other_text-returns-in_err-within t c = grind (arith, opens_err)

pub open_other_text-returns-in-Ok : goal.open_other_text-returns-in-Ok
open_other_text-returns-in-Ok t c = record {
  value = λ limit end es s declared h.
      let b = c.args.builder.now in
      let w = c.in_ok-within.ensures.context in
      let k = b.opened.ok.0 in
      let deep = opened_depth limit end s b h in
      let base : c.len.result ≡ depth_of s.stack = omega arith in
      let text = replacement_view c.args.text in
      let read = rw (w, base) at (c.in-Ok.ensures.value limit end es (inner_state text s c.in_ok-within.inner) (rw w declared)
      (record { limit_is = h.limit_is; shows = same_shows end s.stack s.done b _ h.shows refl refl refl refl refl; namespaces = h.namespaces; attributes = h.attributes; openings_left_is = refl }) refl) in
      let u = read.0 in (
        outer_state c.args.context.main c.args.after s u,
        opens_reads limit es c.args.context.depth_left (c.args.context.depth_left - 1) c.args.context.main text c.args.after s u c.in_ok-within.inner refl (rw h.openings_left_is at c.in_ok-within.ensures.value) read.1,
        record {
          limit_is = read.2.limit_is;
          shows = same_shows end u.stack u.done c.content_text.new.builder _ read.2.shows refl refl refl refl refl;
          namespaces = read.2.namespaces;
          attributes = read.2.attributes;
          openings_left_is = rw (h.openings_left_is, read.2.openings_left_is) at c.left_behind-builder.ensures;
        },
      );
  fine = c.in-Ok.ensures.fine;
}

pub open_other_text-returns-in-Err : goal.open_other_text-returns-in-Err
open_other_text-returns-in-Err t c = record {
  value = λ limit end es s declared h.
      let b = c.args.builder.now in
      let w = c.in_ok-within.ensures.context in
      let k = b.opened.ok.0 in
      let deep = opened_depth limit end s b h in
      let base : c.len.result ≡ depth_of s.stack = omega arith in
      let read = rw (w, base) at (c.in-Err.ensures.value limit end es (inner_state (replacement_view c.args.text) s c.in_ok-within.inner) (rw w declared)
      (record { limit_is = h.limit_is; shows = same_shows end s.stack s.done b _ h.shows refl refl refl refl refl; namespaces = h.namespaces; attributes = h.attributes; openings_left_is = refl }) refl) in
      rw c.within.ensures
      (opens_refuses limit es c.args.context.depth_left (c.args.context.depth_left - 1) c.args.context.main c.args.text.text c.args.text.pos c.args.after s c.in_ok-within.inner c.in-Err.refused refl (rw h.openings_left_is at c.in_ok-within.ensures.value) read);
  fine = tt;
}

pub content_text-returns-then-is_at_end : goal.content_text-returns-then-is_at_end
content_text-returns-then-is_at_end t c = record {
  value = λ limit end es s declared h at.
      let src = c.args.text.text.now in
      let g = c.loop-turn.invariant.reads limit end es s declared h at in
      let past : length src ≤ g.s.at = rw ((ap (λ t. t.now) c.loop-turn.invariant.source), g.sees.here) at (leb-true _ _ (sym c.is_at_end.ensures ∙ c.if-is_at_end.true)) in
      text_at_end (context_of limit es c.args.context) end src _ _ c.loop-turn.cursor c.loop-turn.builder c.text_end.result g past (c.text_end.ensures limit end es g.s (rests_of limit end g.s c.loop-turn.cursor c.loop-turn.builder g.sees));
  fine = first_of (search rules, grind (arith, common_steps));
}

pub content_text-returns-in_err-step : goal.content_text-returns-in_err-step
content_text-returns-in_err-step t c = record {
  value = λ limit end es s declared h at.
      let src = c.args.text.text.now in
      let n = length src - c.loop-turn._turn in
      let one : n ≡ suc (n - 1) = omega arith in
      let s0 = ap (λ t. t.now) c.loop-turn.invariant.source in
      let s1 = ap (λ t. t.now) c.quick_markup_of_text.ensures.goes.source ∙ s0 in
      let g = c.loop-turn.invariant.reads limit end es s declared h at in
      let more : g.s.at < length src = rw (s0, g.sees.here) at (leb-false _ _ (sym c.is_at_end.ensures ∙ c.if-is_at_end.false)) in
      let still = (let o = c.quick_markup_of_text.ensures.other c.if-quick_markup_of_text.false in state_kept limit end g.s _ _ _ _ g.sees o.0 o.1) in
      let p = err_from_is_err_and c.from_residual.result c.from_residual.ensures.1 in
      rw (p.1, p.2) (text_fails (context_of limit es c.args.context) end src _ n (n - 1) c.loop-turn.cursor c.loop-turn.builder c.in_err-step.field-0.0 g one more (rw s1 at (c.in_err-step.ensures.value limit end es g.s declared still)));
  fine = let p = err_from_is_err_and c.from_residual.result c.from_residual.ensures.1 in rw p.1 tt;
}

pub content_text-loop-turn-preserved : goal.content_text-loop-turn-preserved
content_text-loop-turn-preserved t c = record {
  source = c.in_ok-step.ensures.goes.source ∙ c.quick_markup_of_text.ensures.goes.source ∙ c.loop-turn.invariant.source;
  fine = c.in_ok-step.ensures.goes.fine;
  reads = λ limit end es s declared h at.
      let src = c.args.text.text.now in
      let n = length src - c.loop-turn._turn in
      let s0 = ap (λ t. t.now) c.loop-turn.invariant.source in
      let s1 = ap (λ t. t.now) c.quick_markup_of_text.ensures.goes.source ∙ s0 in
      let g = c.loop-turn.invariant.reads limit end es s declared h at in
      let more : g.s.at < length src = rw (s0, g.sees.here) at (leb-false _ _ (sym c.is_at_end.ensures ∙ c.if-is_at_end.false)) in
      let still = (let o = c.quick_markup_of_text.ensures.other c.if-quick_markup_of_text.false in state_kept limit end g.s _ _ _ _ g.sees o.0 o.1) in
      let went = rw s1 at (c.in_ok-step.ensures.value limit end es g.s declared still) in
      text_on (context_of limit es c.args.context) end src _ n (length src - (c.loop-turn._turn + 1)) c.loop-turn.cursor _ c.loop-turn.builder _ _ g (omega arith) more went;
}

pub content_text-loop-turn-preserved-then-quick_markup_of_text : goal.content_text-loop-turn-preserved-then-quick_markup_of_text
content_text-loop-turn-preserved-then-quick_markup_of_text t c = record {
  source = c.quick_markup_of_text.ensures.goes.source ∙ c.loop-turn.invariant.source;
  fine = c.quick_markup_of_text.ensures.goes.fine;
  reads = λ limit end es s declared h at.
      let src = c.args.text.text.now in
      let context = context_of limit es c.args.context in
      let s0 = ap (λ t. t.now) c.loop-turn.invariant.source in
      let g = c.loop-turn.invariant.reads limit end es s declared h at in
      let more : g.s.at < length src = rw (s0, g.sees.here) at (leb-false _ _ (sym c.is_at_end.ensures ∙ c.if-is_at_end.false)) in
      let went = rw s0 at (c.quick_markup_of_text.ensures.value c.if-quick_markup_of_text.true context end g.s refl g.sees) in
      text_on context end src _ (length src - c.loop-turn._turn) (length src - (c.loop-turn._turn + 1)) c.loop-turn.cursor _ c.loop-turn.builder _ tt g (omega arith) more went;
}

pub content_text-returns : goal.content_text-returns
content_text-returns t c = record {
  value = λ limit end es s declared h at.
      let src = c.args.text.text.now in
      let g = c.loop-turn.invariant.reads limit end es s declared h at in
      let over = c.loop-turn-test.false in
      let none : length src - c.loop-turn._turn ≡ 0 = omega arith in
      text_spent (context_of limit es c.args.context) end src _ _ c.loop-turn.cursor c.loop-turn.builder c.text_end-2.result g none (c.text_end-2.ensures limit end es g.s (rests_of limit end g.s c.loop-turn.cursor c.loop-turn.builder g.sees));
  fine = first_of (search rules, grind (arith, common_steps));
}

-- ---- one construct

pub step-end_tag-requires : goal.step-end_tag-requires
step-end_tag-requires t c = grind (arith, two_stand)

pub step-returns-then-bytes-cursor-ne60 : goal.step-returns-then-bytes-cursor-ne60
step-returns-then-bytes-cursor-ne60 t c = grind (arith, step_is_run)

pub step-returns-then-next-eq47 : goal.step-returns-then-next-eq47
step-returns-then-next-eq47 t c = record {
  value = λ limit end es s declared h.
      rw (step_is_markup (context_of limit es c.args.context) c.args.cursor.now.text.now _ s c.args.cursor.now.pos 47 c.as_bytes-bytes.ensures.value h.here c.if-bytes-cursor-ne60.false c.if-cursor-bytes.false c.if-next-eq47.true (λ e. cc e))
      (parses_too limit end _ _ _ _ _ c.parsed.ensures (c.end_tag.ensures.value limit end es s h));
  goes = goes_too _ _ _ c.parsed.ensures c.end_tag.ensures.goes;
}

pub data_parts-part_piece-requires : goal.data_parts-part_piece-requires
data_parts-part_piece-requires t c = record { stop = rw c.loop-turn.invariant.source c.requires.stop; fine = c.loop-turn.invariant.fine }

pub open_other_text-invariant_of-builder : goal.open_other_text-invariant_of-builder
open_other_text-invariant_of-builder t c = record { few = c.args.builder.now.few; counted = c.args.builder.now.counted; shallow = c.args.builder.now.shallow }

pub open_other_text-invariant_of-builder-in-Ok : goal.open_other_text-invariant_of-builder-in-Ok
open_other_text-invariant_of-builder-in-Ok t c = record { few = c.content_text.new.builder.few; counted = c.content_text.new.builder.counted; shallow = c.content_text.new.builder.shallow }

pub character_data_pieces-invariant_of-cursor : goal.character_data_pieces-invariant_of-cursor
character_data_pieces-invariant_of-cursor t c = record { utf8 = c.raw_character_data.new.cursor.utf8; cut = subst (λ (xs : List ℕ). IsCharBoundary xs c.args.cursor.now.pos) (sym (ap (λ t. t.now) c.in_ok-raw.ensures.read.source)) c.args.cursor.now.cut }

pub data_parts-invariant_of-cursor : goal.data_parts-invariant_of-cursor
data_parts-invariant_of-cursor t c = record { utf8 = c.part_piece.new.cursor.utf8; cut = subst (λ (xs : List ℕ). IsCharBoundary xs c.args.stop) (sym (ap (λ t. t.now) (c.in_ok-text.ensures.goes.source ∙ c.loop-turn.invariant.source))) c.requires.stop }

pub data_parts-invariant_of-cursor-2 : goal.data_parts-invariant_of-cursor-2
data_parts-invariant_of-cursor-2 t c = record { utf8 = c.loop-turn.cursor.utf8; cut = subst (λ (xs : List ℕ). IsCharBoundary xs c.args.stop) (sym (ap (λ t. t.now) c.loop-turn.invariant.source)) c.requires.stop }
