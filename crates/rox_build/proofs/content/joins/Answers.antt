use Rattle.std.specs.Prelude.{IfOk}
use Rattle.rox_reading.specs.Values.{raw_character_data_at}
use Rattle.rox_scan.specs.Lookahead.{IsLookahead, ends_run, changes_run}
use Rattle.std.proofs.Common.{ℕ, List, Result, Ok, ◌≡◌, true, length, slice_index, slice_range, refl, ap, ◌∙◌, arith}
use Rattle.rox_grammar.specs.Content.{is_verbatim}
use Rattle.rox_scan.specs.Views.{replacement_view}
use Rattle.rox_scan.proofs.ShortLemmas.{longer_run}
use Rattle.rox_builder.proofs.Joining.{nothing_opened, run_opened}
use Rattle.rox_sections.proofs.PlainReads.{kept_rests}
use Rattle.rox_build.proofs.content.joins.Goals as goal

if_ok : {A E : Type 0} {P Q : A → Type 0} (r : Result A E) → IfOk r P → ((a : A) → P a → Q a) → IfOk r Q
if_ok r h f = grind arith

pub returns-then-start-end : goal.returns-then-start-end
returns-then-start-end c = grind (arith, nothing_opened)

-- a run that stands for itself, up to the end of its source
read_to_end : (src : List ℕ) (i : ℕ) → IsLookahead (ends_run src) changes_run src i (length src) true
    → (raw_character_data_at src i ≡ Ok (slice_range src i (length src), length src)) × (is_verbatim (slice_range src i (length src)) ≡ true)
read_to_end src i look = grind (arith, longer_run)

pub returns : goal.returns
returns c = record {
  value = if_ok c.waiting_piece.result c.waiting_piece.ensures.value (λ yes adds is limit end after es s h.
      let src = c.args.text.text.now in
      let i = c.args.text.pos in
      let read = read_to_end src i (c.if-not-is_plain_to_end.ensures refl) in
      run_opened limit end es c.args.context.depth_left c.args.context.main (replacement_view c.args.text) after s c.args.builder.now _ c.if-not-context.false c.if-context-eq0.false h
      c.waiting_piece.ensures.kept.tables c.waiting_piece.ensures.kept.limit c.waiting_piece.ensures.kept.openings_left
      (rw c.range.ensures.value at (adds is end (length src) s h.shows)) (omega (arith, c.if-start-end.false))
      (λ is. c.if-as_bytes-start-eq60.false (ap (λ xs. slice_index xs i) c.as_bytes.ensures.value ∙ is)) read.0 read.1);
  other = if_ok c.waiting_piece.result c.waiting_piece.ensures.other (λ yes kept no limit end s h. kept_rests limit end s c.args.builder.now c.waiting_piece.new.self (kept no) c.waiting_piece.ensures.kept.tables h);
  tables = c.waiting_piece.ensures.kept.tables;
  opened = c.waiting_piece.ensures.kept.opened;
}
