use Rattle.std.proofs.Common.{ℕ, List, ◌++◌, ap, subst, ◌∙◌, append-nil, Ok, rules, arith, string_bytes}
use Rattle.std.proofs.lemmas.Grind.{common_steps}
use Rattle.std.proofs.lemmas.Result.{err_from_is_err_and}
use Rattle.rox_reading.specs.Machine.{with_piece}
use Rattle.rox_grammar.specs.Failures.{Fails}
use Rattle.rox_values.specs.Contexts.{context_of}
use Rattle.rox_builder.specs.PendingText.{text_before}
use Rattle.rox_builder.specs.BuilderState.{Adds}
use Rattle.rox_builder.proofs.Parting.{rests_of}
use Rattle.rox_builder.proofs.Joining.{part_appended, part_piece_over}
use Rattle.rox_constructs.proofs.data_parts.part_piece.Goals as goal

pub returns-in_err-end_part : goal.returns-in_err-end_part
returns-in_err-end_part c = record {
  value = λ limit end es s declared h.
      let src = c.args.cursor.now.text.now in
      let b = c.args.builder.now in
      let begun = c.begin_part-before.ensures in
      let p = err_from_is_err_and c.from_residual-in_err-end_part.result c.from_residual-in_err-end_part.ensures.1 in
      let e = c.in_err-end_part.field-0.0 in
      rw (p.1, p.2) (part_piece_over (context_of limit es c.args.context) end src c.args.start c.args.stop s (string_bytes c.begin_part-before.new.self.joined.text) (string_bytes c.data_part.new.out) c.data_part.new.cursor b e c.in_ok-next.next c.if-context.true (rests_of limit end s c.args.cursor.now b h)
      (λ bs is. subst (λ (n : ℕ). Fails e (with_piece n s c.args.start c.args.stop bs)) begun.limit (c.in_err-end_part.ensures.value end s bs b h.shows (record {
        unwritten = begun.unwritten;
        bytes = is ∙ ap (λ (xs : List ℕ). xs ++ bs) (begun.bytes ∙ append-nil (text_before b.pending (string_bytes b.joined.text)));
        count = begun.count;
        start = begun.start;
        end = begun.end;
        slice = begun.slice;
        pending = begun.pending;
        nodes = begun.nodes;
        opened = begun.opened;
        tables = begun.tables;
        limit = begun.limit;
        openings_left = begun.openings_left;
      })))
      (rw h.here at (c.in_ok-next.ensures.value es declared)));
  goes = let p = err_from_is_err_and c.from_residual-in_err-end_part.result c.from_residual-in_err-end_part.ensures.1 in rw p.1 tt;
}

pub returns-then-not-is_written : goal.returns-then-not-is_written
returns-then-not-is_written c = record {
  value = λ limit end es s declared h.
      let src = c.args.cursor.now.text.now in
      let b = c.args.builder.now in
      let begun = c.begin_part-before.ensures in
      let kept = c.end_part.ensures.kept in
      part_appended (context_of limit es c.args.context) end src c.args.start c.args.stop s (string_bytes c.begin_part-before.new.self.joined.text) (string_bytes c.data_part.new.out) c.data_part.new.cursor b c.end_part.new.self tt c.in_ok-next.next c.if-context.true (rests_of limit end s c.args.cursor.now b h)
      (kept.tables ∙ begun.tables) (kept.limit ∙ begun.limit) (kept.openings_left ∙ begun.openings_left)
      (λ bs is. subst (λ (n : ℕ). Adds end (Ok tt) c.end_part.new.self (with_piece n s c.args.start c.args.stop bs)) begun.limit (c.in_ok-end_part.ensures.value end s bs b h.shows (record {
        unwritten = begun.unwritten;
        bytes = is ∙ ap (λ (xs : List ℕ). xs ++ bs) (begun.bytes ∙ append-nil (text_before b.pending (string_bytes b.joined.text)));
        count = begun.count;
        start = begun.start;
        end = begun.end;
        slice = begun.slice;
        pending = begun.pending;
        nodes = begun.nodes;
        opened = begun.opened;
        tables = begun.tables;
        limit = begun.limit;
        openings_left = begun.openings_left;
      })))
      (rw h.here at (c.in_ok-next.ensures.value es declared));
  goes = first_of (search rules, grind (arith, common_steps));
}
