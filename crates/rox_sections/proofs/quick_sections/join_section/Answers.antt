use Rattle.std.proofs.Common.{◌≡◌, ◌<◌, ◌+◌, true, false, List, Ok, ℕ, length, refl, ap, sym, subst, ◌∙◌, arith, string_bytes}
use Rattle.rox_bytes.proofs.MarkLemmas.{stands_fits}
use Rattle.rox_grammar.specs.State.{is_root}
use Rattle.rox_grammar.specs.declared.fault.Word.TheVariants as word
use Rattle.rox_grammar.specs.FixedTexts.{word_text}
use Rattle.rox_grammar.specs.Search.{stands}
use Rattle.rox_reading.specs.Machine.{step}
use Rattle.rox_reading.specs.Markup.{cdata_at}
use Rattle.rox_theory.proofs.MarkupLemmas.{cdata_sound}
use Rattle.rox_values.specs.Values.{piece_view}
use Rattle.rox_builder.specs.BuilderState.{KeepsOpen, ScansTo}
use Rattle.rox_builder.proofs.Stepping.{cdata_is, fine_open, rows_kept, same_shows, text_stepped}
use Rattle.rox_sections.specs.PlainSteps.{Reads}
use Rattle.rox_sections.proofs.PlainSections.{step_is_section}
use Rattle.rox_sections.proofs.Twice.{inside_still, reads_kept, reads_one, reads_then}
use Rattle.rox_sections.proofs.quick_sections.join_section.Goals as goal

pub returns : goal.returns
returns c =
    let src = c.args.cursor.now.text.now in
    let i = c.args.cursor.now.pos in
    let b = c.args.builder.now in
    let new = c.section_piece.new.cursor in
    let j = new.pos in
    let source_kept : new.text ≡ c.args.cursor.now.text = rw c.in-Some.is at c.in_ok-piece.ensures.source in
    let section = rw c.in-Some.is at c.in_ok-piece.ensures.read in
    let raw = section.0 in
    let source : new.text.now ≡ src = ap (λ t. t.now) source_kept in
    let opens : stands (word_text word.CDataStart) src i ≡ true = sym c.starts.ensures ∙ c.if-not-starts.false in
    let read : cdata_at src i ≡ Ok (raw, j) = section.1 in
    let u = c.waiting_piece.new.self in
    let k = c.waiting_piece.ensures.kept in
    let kept : KeepsOpen b u = record { opened = k.opened; tables = k.tables; limit = k.limit; openings_left = k.openings_left } in
    record {
      value = λ _ context end s inner h.
          let t = piece_view c.in-Some.piece (string_bytes c.section_piece.new.scratch) in
          let a = c.in_ok-waits.ensures.value c.if-not-waits.false end j s (same_shows end s.stack s.done b _ h.shows refl refl refl refl refl) in
          let within : s.at < length src = omega (arith, stands_fits (word_text word.CDataStart) src i (omega arith) opens, h.here) in
          let stepped : ScansTo context.limit end (Ok tt) new u (step context src s) =
          rw (step_is_section context src s i h.here opens, cdata_is context.limit src s i j raw t h.here read section.2)
          (text_stepped context.limit end s c.args.cursor.now new b u (Ok tt) t h kept.tables kept.limit kept.openings_left a) in
          let x : Reads context end 1 new u src s = reads_one context end src s new u inner within stepped in
          let still : is_root x.behind.stack ≡ false = inside_still end s x.behind b u h.shows x.sees.shows kept.opened inner in
          let y : (n : ℕ) × Reads context end n c.join_run.new.cursor c.join_run.new.builder src x.behind =
          subst (λ (xs : List ℕ). (n : ℕ) × Reads context end n c.join_run.new.cursor c.join_run.new.builder xs x.behind) source (c.in_ok-join_run.ensures.value context end x.behind still x.sees) in (
            1 + y.0,
            reads_kept context end (1 + y.0) src s c.join_run.new.cursor _ c.join_run.new.builder c.end_run.new.self
                (reads_then context end 1 y.0 src s new c.join_run.new.cursor u c.join_run.new.builder x y.1)
                (λ r sees. rows_kept context.limit end r _ c.join_run.new.builder c.end_run.new.self (record { shows = c.in_ok-end_run.ensures.ok; kept = c.end_run.ensures.kept }) sees),
          );
      other = λ no. absurd (cc no);
      moves = λ _. omega (arith, (cdata_sound src c.args.cursor.now.utf8 i j raw opens read).3, c.in_ok-join_run.ensures.onward);
      goes = record {
        source = c.in_ok-join_run.ensures.source ∙ source_kept;
        fine = fine_open c.join_run.new.builder c.end_run.new.self c.end_run.ensures.kept (fine_open u c.join_run.new.builder c.join_run.ensures.kept (fine_open b u kept c.requires.fine));
      };
    }
