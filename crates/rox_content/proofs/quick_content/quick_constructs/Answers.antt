use Rattle.std.proofs.Common.{◌≡◌, ℕ, ◌+◌, ◌^◌, ◌<◌, false, length, List, slice_index, vec_len, refl, ap, subst, sym, ltb-true, ◌∙◌, arith}
use Rattle.rox_grammar.specs.State.{is_root}
use Rattle.rox_scan.specs.declared.cursor.Cursor.{Cursor}
use Rattle.rox_builder.specs.BuilderState.{GoesOn, IsReadyTo}
use Rattle.rox_builder.proofs.Stepping.{step_is_run, state_kept}
use Rattle.rox_sections.proofs.Twice.{Between, ready_within, reads_none, reads_run, reads_markup, reads_kept}
use Rattle.rox_content.proofs.PlainElements.{main_context, main_text}
use Rattle.rox_content.proofs.quick_content.quick_constructs.Goals as goal
use Rattle.rox_content.proofs.quick_content.quick_constructs.Goals.{else-loop-builder-test, then-loop-builder-test+then-is_at_root, then-loop-builder-test+else-is_at_root+then-here-bytes, then-loop-builder-test+else-is_at_root+else-here-bytes+then-bytes-here-ne60+then-not-put_character_data, then-loop-builder-test+else-is_at_root+else-here-bytes+then-not-quick_markup, then-bytes-here-ne60+else-not-put_character_data, else-bytes-here-ne60}

pub returns-then-cursor-gt-MOST_BYTES : goal.returns-then-cursor-gt-MOST_BYTES
returns-then-cursor-gt-MOST_BYTES c = record {
  value = λ context end s like h. (0, reads_none context end c.args.cursor.now.text.now s c.args.cursor.now c.args.builder.now h);
  moves = λ yes. absurd (cc yes);
  goes = record { source = refl; fine = c.requires.fine };
}

pub returns-then-not-context : goal.returns-then-not-context
returns-then-not-context c = record {
  value = λ context end s like h. (0, reads_none context end c.args.cursor.now.text.now s c.args.cursor.now c.args.builder.now h);
  moves = λ yes. absurd (cc yes);
  goes = record { source = refl; fine = c.requires.fine };
}

pub returns-then-not-stands_apart : goal.returns-then-not-stands_apart
returns-then-not-stands_apart c = record {
  value = λ context end s like h. (0, reads_none context end c.args.cursor.now.text.now s c.args.cursor.now c.args.builder.now h);
  moves = λ yes. absurd (cc yes);
  goes = record { source = refl; fine = c.requires.fine };
}

pub loop-builder-init : goal.loop-builder-init
loop-builder-init c = record {
  source = refl;
  fine = c.requires.fine;
  ready = λ some. subst (λ (n : ℕ). IsReadyTo (n + c.args.rows) c.args.builder.now) (sym c.len.ensures.rows) (c.requires.ready (omega (arith, some, c.len.ensures.rows)));
  apart = c.stands_apart.ensures c.if-not-stands_apart.false;
  reads = λ context end s like h. (0, reads_none context end c.args.cursor.now.text.now s c.args.cursor.now c.args.builder.now h);
}

pub put_character_data-requires : goal.put_character_data-requires
put_character_data-requires c = grind arith

pub quick_markup-requires : goal.quick_markup-requires
quick_markup-requires c = record {
  here = elim c.if-bytes-here-ne60.branch [
    | then-bytes-here-ne60+else-not-put_character_data w ↦ rw (w.here-is, w.put_character_data.ensures.goes.source) (w.put_character_data.ensures.behind w.if-not-put_character_data.false)
    | else-bytes-here-ne60 w ↦ rw (w.here-is) (ap (λ (xs : List ℕ). slice_index xs c.loop-builder.here.pos) (sym c.as_bytes-bytes.ensures.value) ∙ w.if-bytes-here-ne60.false)
  ];
  room =
      let most = c.len.result + c.args.rows in
      let some : vec_len c.loop-builder.builder.nodes.rows + 1 < most = omega (arith, c.loop-builder-test.true, c.len-in-loop-builder.ensures.rows) in
      let ready = c.loop-builder.invariant.ready some in
      let fine = c.loop-builder.invariant.fine in
      let short : length c.args.cursor.now.text.now < 2 ^ 32 = omega (arith, c.if-cursor-gt-MOST_BYTES.false) in
      elim c.if-bytes-here-ne60.branch [
        | then-bytes-here-ne60+else-not-put_character_data w ↦ (
            let yes = w.if-not-put_character_data.false in
            record {
              short = rw (w.here-is, w.put_character_data.ensures.goes.source, c.loop-builder.invariant.source) short;
              ready = rw w.builder-is (ready_within most 1 w.put_character_data.new.builder (omega (arith, some, w.put_character_data.ensures.rows yes)) (w.put_character_data.ensures.ready yes most ready));
              fine = rw w.builder-is w.put_character_data.ensures.goes.fine;
            })
        | else-bytes-here-ne60 w ↦ record {
          short = rw (w.here-is, c.loop-builder.invariant.source) short;
          ready = rw w.builder-is (ready_within most 1 c.loop-builder.builder (omega (arith, some)) ready);
          fine = rw w.builder-is fine;
        }
      ];
}

pub loop-builder-smaller : goal.loop-builder-smaller
loop-builder-smaller c = grind arith

pub loop-builder-preserved : goal.loop-builder-preserved
loop-builder-preserved c =
    let src = c.args.cursor.now.text.now in
    let s0 = ap (λ t. t.now) c.loop-builder.invariant.source in
    let source : c.if-bytes-here-ne60.here.text ≡ c.args.cursor.now.text = elim c.if-bytes-here-ne60.branch [
      | then-bytes-here-ne60+else-not-put_character_data w ↦ ap (λ (x : Cursor). x.text) w.here-is ∙ w.put_character_data.ensures.goes.source ∙ c.loop-builder.invariant.source
      | else-bytes-here-ne60 w ↦ ap (λ (x : Cursor). x.text) w.here-is ∙ c.loop-builder.invariant.source
    ] in
    let most = c.len.result + c.args.rows in
    let some : vec_len c.loop-builder.builder.nodes.rows + 1 < most = omega (arith, c.loop-builder-test.true, c.len-in-loop-builder.ensures.rows) in
    let ready : IsReadyTo most c.if-bytes-here-ne60.builder = elim c.if-bytes-here-ne60.branch [
      | then-bytes-here-ne60+else-not-put_character_data w ↦ rw w.builder-is (w.put_character_data.ensures.ready w.if-not-put_character_data.false most (c.loop-builder.invariant.ready some))
      | else-bytes-here-ne60 w ↦ rw w.builder-is (c.loop-builder.invariant.ready some)
    ] in
    record {
      source = c.quick_markup.ensures.reads.goes.source ∙ source;
      fine = c.quick_markup.ensures.reads.goes.fine;
      ready = λ _. c.quick_markup.ensures.ready c.if-not-quick_markup.false most ready;
      apart = c.quick_markup.ensures.apart c.if-not-quick_markup.false;
      reads = λ context end s like h.
          let read = c.loop-builder.invariant.reads context end s like h in
          let g = read.1 in
          let inner : is_root g.behind.stack ≡ false = sym (c.is_at_root.ensures end g.behind.stack g.behind.done g.sees.shows) ∙ c.if-is_at_root.false in
          let within : g.behind.at < length src = omega (arith, c.if-here-bytes.false, (ap length (c.as_bytes-bytes.ensures.value ∙ s0)), g.sees.here) in
          let between : (n : ℕ) × Between context end n c.if-bytes-here-ne60.here c.if-bytes-here-ne60.builder src s = elim c.if-bytes-here-ne60.branch [
            | then-bytes-here-ne60+else-not-put_character_data w ↦ (
                let yes = w.if-not-put_character_data.false in
                rw (w.here-is, w.builder-is) (
                  read.0 + 1,
                  reads_run context end read.0 src s c.loop-builder.here w.put_character_data.new.cursor c.loop-builder.builder w.put_character_data.new.builder (g, inner, within) w.put_character_data.ensures.opened
                      (rw (step_is_run context src _ g.behind c.loop-builder.here.pos (c.as_bytes-bytes.ensures.value ∙ s0) g.sees.here w.if-bytes-here-ne60.true) (rw s0 at (w.put_character_data.ensures.value yes context end g.behind (main_text _ context like c.if-not-context.false) g.sees)))
                      (rw s0 at (w.put_character_data.ensures.behind yes)),
                ))
            | else-bytes-here-ne60 w ↦ rw (w.here-is, w.builder-is) (read.0, (g, inner, within))
          ] in (
            between.0 + 1,
            reads_markup context end between.0 src s c.if-bytes-here-ne60.here c.quick_markup.new.cursor c.if-bytes-here-ne60.builder c.quick_markup.new.builder between.1
                (λ t sees. rw (ap (λ t. t.now) source) at (c.quick_markup.ensures.reads.value c.if-not-quick_markup.false context end t (main_context _ context like c.if-not-context.false) sees)),
          );
    }

pub returns : goal.returns
returns c = record {
  value = λ context end s like h.
      let src = c.args.cursor.now.text.now in
      let s0 = ap (λ t. t.now) c.loop-builder.invariant.source in
      let read = c.loop-builder.invariant.reads context end s like h in
      let g = read.1 in
      elim c.loop-builder-test.branch [
        | else-loop-builder-test w ↦ rw (w.here-is, w.builder-is) read
        | then-loop-builder-test+then-is_at_root w ↦ rw (w.here-is, w.builder-is) read
        | then-loop-builder-test+else-is_at_root+then-here-bytes w ↦ rw (w.here-is, w.builder-is) read
        | then-loop-builder-test+else-is_at_root+else-here-bytes+then-bytes-here-ne60+then-not-put_character_data w ↦ (
            rw (w.here-is, w.builder-is) (
              read.0,
              reads_kept context end read.0 src s c.loop-builder.here w.put_character_data.new.cursor c.loop-builder.builder w.put_character_data.new.builder read.1
                  (λ t sees. (
                  let o = w.put_character_data.ensures.other w.if-not-put_character_data.true in
                  state_kept context.limit end t _ _ _ _ sees o.0 o.1)),
            ))
        | then-loop-builder-test+else-is_at_root+else-here-bytes+then-not-quick_markup w ↦ (
            let inner : is_root g.behind.stack ≡ false = sym (w.is_at_root.ensures end g.behind.stack g.behind.done g.sees.shows) ∙ w.if-is_at_root.false in
            let within : g.behind.at < length src = omega (arith, w.if-here-bytes.false, (ap length (w.as_bytes-bytes.ensures.value ∙ s0)), g.sees.here) in
            let between : (n : ℕ) × Between context end n w.if-bytes-here-ne60.here w.if-bytes-here-ne60.builder src s = elim w.if-bytes-here-ne60.branch [
              | then-bytes-here-ne60+else-not-put_character_data v ↦ (
                  let yes = v.if-not-put_character_data.false in
                  rw (v.here-is, v.builder-is) (
                    read.0 + 1,
                    reads_run context end read.0 src s c.loop-builder.here v.put_character_data.new.cursor c.loop-builder.builder v.put_character_data.new.builder (g, inner, within) v.put_character_data.ensures.opened
                        (rw (step_is_run context src _ g.behind c.loop-builder.here.pos (w.as_bytes-bytes.ensures.value ∙ s0) g.sees.here v.if-bytes-here-ne60.true) (rw s0 at (v.put_character_data.ensures.value yes context end g.behind (main_text _ context like c.if-not-context.false) g.sees)))
                        (rw s0 at (v.put_character_data.ensures.behind yes)),
                  ))
              | else-bytes-here-ne60 v ↦ rw (v.here-is, v.builder-is) (read.0, (g, inner, within))
            ] in
            rw (w.here-is, w.builder-is) (
              between.0,
              reads_kept context end between.0 src s w.if-bytes-here-ne60.here w.quick_markup.new.cursor w.if-bytes-here-ne60.builder w.quick_markup.new.builder between.1.0
                  (λ t sees. (
                  let o = w.quick_markup.ensures.reads.other w.if-not-quick_markup.true in
                  state_kept context.limit end t _ _ _ _ sees o.0 o.1)),
            ))
      ];
  moves = λ yes. ltb-true _ _ yes;
  goes =
      let base : GoesOn c.args.cursor.now c.loop-builder.here c.loop-builder.builder = record { source = c.loop-builder.invariant.source; fine = c.loop-builder.invariant.fine } in
      elim c.loop-builder-test.branch [
        | else-loop-builder-test w ↦ rw (w.here-is, w.builder-is) base
        | then-loop-builder-test+then-is_at_root w ↦ rw (w.here-is, w.builder-is) base
        | then-loop-builder-test+else-is_at_root+then-here-bytes w ↦ rw (w.here-is, w.builder-is) base
        | then-loop-builder-test+else-is_at_root+else-here-bytes+then-bytes-here-ne60+then-not-put_character_data w ↦ (
            rw (w.here-is, w.builder-is) (record { source = w.put_character_data.ensures.goes.source ∙ c.loop-builder.invariant.source; fine = w.put_character_data.ensures.goes.fine }))
        | then-loop-builder-test+else-is_at_root+else-here-bytes+then-not-quick_markup w ↦ (
            let source : w.if-bytes-here-ne60.here.text ≡ c.args.cursor.now.text = elim w.if-bytes-here-ne60.branch [
              | then-bytes-here-ne60+else-not-put_character_data v ↦ ap (λ (x : Cursor). x.text) v.here-is ∙ v.put_character_data.ensures.goes.source ∙ c.loop-builder.invariant.source
              | else-bytes-here-ne60 v ↦ ap (λ (x : Cursor). x.text) v.here-is ∙ c.loop-builder.invariant.source
            ] in
            rw (w.here-is, w.builder-is) (record { source = w.quick_markup.ensures.reads.goes.source ∙ source; fine = w.quick_markup.ensures.reads.goes.fine }))
      ];
}
