use Rattle.std.proofs.Common.{◌≡◌, ℕ, List, subst, ◌<◌, ◌≤◌, false, Ok, refl, sym, ap, ◌∙◌, arith, length, rules, leb-true, leb-false}
use Rattle.std.proofs.lemmas.Result.{err_from_is_err_and}
use Rattle.rox_values.specs.Refusals.{IsRefusal}
use Rattle.rox_grammar.specs.State.{is_root}
use Rattle.rox_reading.specs.Machine.{step}
use Rattle.rox_values.specs.Contexts.{context_of}
use Rattle.rox_sections.specs.PlainSteps.{Reads}
use Rattle.rox_build.proofs.Looping.{drives_on, drive_fails, drive_done, drive_cut, drives_beyond, drives_past}
use Rattle.rox_builder.specs.BuilderState.{ParsesTo}
use Rattle.rox_builder.proofs.Stepping.{fine_open, rows_kept, state_kept}
use Rattle.rox_build.proofs.content.content.Goals as goal

pub loop-turn-init : goal.loop-turn-init
loop-turn-init c = grind arith

pub returns-then-is_at_root : goal.returns-then-is_at_root
returns-then-is_at_root c = record {
  value = λ limit end es s declared sees.
      let src = c.args.cursor.now.text.now in
      let context = context_of limit es c.args.context in
      let g0 = c.loop-turn.invariant.reads limit end es s declared sees in
      let read = rw (ap (λ t. t.now) c.loop-turn.invariant.source) at (c.quick_constructs-read.ensures.value context end g0.s (record { limit = limit; entities = es; declared = declared; is = refl }) g0.sees) in
      let g = drives_past context end src _ c.loop-turn._turn read.0 _ _ _ _ g0 c.args.cursor.now.utf8 read.1 in
      drive_done context end src _ _ _ _ g (sym (c.is_at_root.ensures end g.s.stack g.s.done g.sees.shows) ∙ c.if-is_at_root.true);
  goes = search rules;
}

pub returns-then-is_at_end : goal.returns-then-is_at_end
returns-then-is_at_end c = record {
  value = λ limit end es s declared sees.
      let src = c.args.cursor.now.text.now in
      let context = context_of limit es c.args.context in
      let s0 = ap (λ t. t.now) c.loop-turn.invariant.source in
      let s1 = ap (λ t. t.now) c.quick_constructs-read.ensures.goes.source ∙ s0 in
      let g0 = c.loop-turn.invariant.reads limit end es s declared sees in
      let read = rw s0 at (c.quick_constructs-read.ensures.value context end g0.s (record { limit = limit; entities = es; declared = declared; is = refl }) g0.sees) in
      let g = drives_past context end src _ c.loop-turn._turn read.0 _ _ _ _ g0 c.args.cursor.now.utf8 read.1 in
      let inner : is_root g.s.stack ≡ false = sym (c.is_at_root.ensures end g.s.stack g.s.done g.sees.shows) ∙ c.if-is_at_root.false in
      let past : length src ≤ g.s.at = rw (s1, g.sees.here) at (leb-true _ _ (sym c.is_at_end.ensures ∙ c.if-is_at_end.true)) in
      drive_cut context end src _ _ _ _ g inner past;
  goes = search rules;
}

pub loop-turn-preserved-then-rows_left-lt2 : goal.loop-turn-preserved-then-rows_left-lt2
loop-turn-preserved-then-rows_left-lt2 c = record {
  source = c.quick_constructs-read.ensures.goes.source ∙ c.loop-turn.invariant.source;
  fine = fine_open c.quick_constructs-read.new.builder c.make_room.new.self c.make_room.ensures.kept c.quick_constructs-read.ensures.goes.fine;
  reads = λ limit end es s declared sees.
      let moved : c.loop-turn.cursor.pos < c.quick_constructs-read.new.cursor.pos = search rules in
      let context = context_of limit es c.args.context in
      let g0 = c.loop-turn.invariant.reads limit end es s declared sees in
      let read = rw (ap (λ t. t.now) c.loop-turn.invariant.source) at (c.quick_constructs-read.ensures.value context end g0.s (record { limit = limit; entities = es; declared = declared; is = refl }) g0.sees) in
      let g = drives_past context end c.args.cursor.now.text.now _ c.loop-turn._turn read.0 _ _ _ _ g0 c.args.cursor.now.utf8 read.1 in
      record {
        s = g.s;
        sees = rows_kept limit end g.s _ c.quick_constructs-read.new.builder c.make_room.new.self c.make_room.ensures g.sees;
        n = g.n;
        same = g.same;
        enough = g.enough;
        onward = omega (arith, g0.onward, g0.sees.here, g.sees.here, moved);
      };
}

pub loop-turn-preserved : goal.loop-turn-preserved
loop-turn-preserved c = record {
  source = c.in_ok-step.ensures.goes.source ∙ c.in_ok-joined.ensures.goes.source ∙ c.quick_constructs-read.ensures.goes.source ∙ c.loop-turn.invariant.source;
  fine = c.in_ok-step.ensures.goes.fine;
  reads = λ limit end es s declared sees.
      let src = c.args.cursor.now.text.now in
      let context = context_of limit es c.args.context in
      let s0 = ap (λ t. t.now) c.loop-turn.invariant.source in
      let s1 = ap (λ t. t.now) c.quick_constructs-read.ensures.goes.source ∙ s0 in
      let s2 = ap (λ t. t.now) c.in_ok-joined.ensures.goes.source ∙ s1 in
      let g0 = c.loop-turn.invariant.reads limit end es s declared sees in
      let read = rw s0 at (c.quick_constructs-read.ensures.value context end g0.s (record { limit = limit; entities = es; declared = declared; is = refl }) g0.sees) in
      let g = drives_past context end src _ c.loop-turn._turn read.0 _ _ _ _ g0 c.args.cursor.now.utf8 read.1 in
      let still = (let o = c.in_ok-joined.ensures.other c.if-joined.false in state_kept limit end g.s _ _ _ _ g.sees o.0 o.1) in
      let inner : is_root g.s.stack ≡ false = sym (c.is_at_root.ensures end g.s.stack g.s.done g.sees.shows) ∙ c.if-is_at_root.false in
      let inside : g.s.at < length src = rw (s1, g.sees.here) at (leb-false _ _ (sym c.is_at_end.ensures ∙ c.if-is_at_end.false)) in
      let stepped : ParsesTo limit end (Ok tt) c.step.new.cursor c.step.new.builder (step context src g.s) =
      subst (λ (x : List ℕ). ParsesTo limit end (Ok tt) c.step.new.cursor c.step.new.builder (step context x g.s)) s2 (c.in_ok-step.ensures.value limit end es g.s declared still) in
      drives_on context end src _ c.loop-turn._turn _ _ _ _ tt g c.args.cursor.now.utf8 inner inside stepped;
}

pub loop-turn-preserved-then-joined : goal.loop-turn-preserved-then-joined
loop-turn-preserved-then-joined c = record {
  source = c.in_ok-joined.ensures.goes.source ∙ c.quick_constructs-read.ensures.goes.source ∙ c.loop-turn.invariant.source;
  fine = c.in_ok-joined.ensures.goes.fine;
  reads = λ limit end es s declared sees.
      let src = c.args.cursor.now.text.now in
      let context = context_of limit es c.args.context in
      let s0 = ap (λ t. t.now) c.loop-turn.invariant.source in
      let s1 = ap (λ t. t.now) c.quick_constructs-read.ensures.goes.source ∙ s0 in
      let g0 = c.loop-turn.invariant.reads limit end es s declared sees in
      let read = rw s0 at (c.quick_constructs-read.ensures.value context end g0.s (record { limit = limit; entities = es; declared = declared; is = refl }) g0.sees) in
      let g = drives_past context end src _ c.loop-turn._turn read.0 _ _ _ _ g0 c.args.cursor.now.utf8 read.1 in
      let inner : is_root g.s.stack ≡ false = sym (c.is_at_root.ensures end g.s.stack g.s.done g.sees.shows) ∙ c.if-is_at_root.false in
      let more = subst (λ (x : List ℕ). (n : ℕ) × Reads context end n c.join_section.new.cursor c.join_section.new.builder x g.s) s1 (c.in_ok-joined.ensures.value c.if-joined.true context end g.s inner g.sees) in
      drives_beyond context end src _ c.loop-turn._turn more.0 _ _ _ _ g c.args.cursor.now.utf8 more.1 _ g.sees.here (c.in_ok-joined.ensures.moves c.if-joined.true);
}

pub step-requires : goal.step-requires
step-requires c = grind arith

pub join_section-requires : goal.join_section-requires
join_section-requires c = grind arith

pub returns-in_err-step : goal.returns-in_err-step
returns-in_err-step c = record {
  value = λ limit end es s declared sees.
      let src = c.args.cursor.now.text.now in
      let context = context_of limit es c.args.context in
      let s0 = ap (λ t. t.now) c.loop-turn.invariant.source in
      let s1 = ap (λ t. t.now) c.quick_constructs-read.ensures.goes.source ∙ s0 in
      let s2 = ap (λ t. t.now) c.in_ok-joined.ensures.goes.source ∙ s1 in
      let g0 = c.loop-turn.invariant.reads limit end es s declared sees in
      let read = rw s0 at (c.quick_constructs-read.ensures.value context end g0.s (record { limit = limit; entities = es; declared = declared; is = refl }) g0.sees) in
      let g = drives_past context end src _ c.loop-turn._turn read.0 _ _ _ _ g0 c.args.cursor.now.utf8 read.1 in
      let still = (let o = c.in_ok-joined.ensures.other c.if-joined.false in state_kept limit end g.s _ _ _ _ g.sees o.0 o.1) in
      let inner : is_root g.s.stack ≡ false = sym (c.is_at_root.ensures end g.s.stack g.s.done g.sees.shows) ∙ c.if-is_at_root.false in
      let inside : g.s.at < length src = rw (s1, g.sees.here) at (leb-false _ _ (sym c.is_at_end.ensures ∙ c.if-is_at_end.false)) in
      let q = err_from_is_err_and c.from_residual-in_err-step.result c.from_residual-in_err-step.ensures.1 in
      let fails : IsRefusal c.in_err-step.field-0.0 (step context src g.s) = subst (λ (x : List ℕ). IsRefusal c.in_err-step.field-0.0 (step context x g.s)) s2 (c.in_err-step.ensures.value limit end es g.s declared still) in
      rw (q.1, q.2) (drive_fails context end src _ c.loop-turn._turn _ _ c.in_err-step.field-0.0 g inner inside fails);
  goes = let q = err_from_is_err_and c.from_residual-in_err-step.result c.from_residual-in_err-step.ensures.1 in rw q.1 tt;
}

pub returns-then-is_at_root-2 : goal.returns-then-is_at_root-2
returns-then-is_at_root-2 c = record {
  value = λ limit end es s declared sees.
      let g = c.loop-turn.invariant.reads limit end es s declared sees in
      drive_done (context_of limit es c.args.context) end c.args.cursor.now.text.now _ _ c.loop-turn.cursor c.loop-turn.builder g (sym (c.is_at_root-2.ensures end g.s.stack g.s.done g.sees.shows) ∙ c.if-is_at_root-2.true);
  goes = search rules;
}

pub returns-else-is_at_root-2 : goal.returns-else-is_at_root-2
returns-else-is_at_root-2 c = record {
  value = λ limit end es s declared sees.
      let src = c.args.cursor.now.text.now in
      let g = c.loop-turn.invariant.reads limit end es s declared sees in
      let inner : is_root g.s.stack ≡ false = sym (c.is_at_root-2.ensures end g.s.stack g.s.done g.sees.shows) ∙ c.if-is_at_root-2.false in
      drive_cut (context_of limit es c.args.context) end src _ _ c.loop-turn.cursor c.loop-turn.builder g inner (omega (arith, c.loop-turn-test.false, g.onward));
  goes = search rules;
}
