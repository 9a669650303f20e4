use Rattle.std.proofs.Common.{Bool, Result, sym, subst, ap, ◌∙◌, rules, arith, eqb-true}
use Rattle.std.proofs.lemmas.Grind.{common_steps}
use Rattle.std.proofs.lemmas.Result.{err_from_is_err_and, on_ok_weaker}
use Rattle.rox_prolog.specs.Requests.{Allows}
use Rattle.rox_prolog.specs.Asking.{ItemOutcome}
use Rattle.rox_builder.specs.BuilderState.{GoesOn}
use Rattle.rox_values.specs.declared.parse_error.ParseError.{ParseError}
use Rattle.rox_constructs.proofs.ParsedResults.{goes_too, whatever_it_is}
use Rattle.rox_prolog.proofs.Items.{ended_too, goes_ended, entity_turn, comment_turn, instruction_turn, passed_turn, passed_stops, unknown_stops, end_turn, end_stops}
use Rattle.rox_prolog.proofs.dtd.item.Goals as goal

pub returns-then-starts : goal.returns-then-starts
returns-then-starts g c = record {
  value = λ limit end n m run one going.
      subst (λ (q : Result Bool ParseError). ItemOutcome limit end c.args.start m c.args.cursor.now.text.now (Allows g.R.EntityResolver.allows c.args.resolver.now) run c.entity.new.cursor c.args.builder.now c.entity.new.entities q) (sym c.ended.ensures)
      (entity_turn limit end c.args.start n m c.args.cursor.now.text.now (Allows g.R.EntityResolver.allows c.args.resolver.now) run one c.args.cursor.now c.spaces.new.self c.args.builder.now c.args.entities.now going c.requires.here.there (ap (λ t. t.now) c.spaces.ensures.source) c.spaces.ensures.place c.entity.result (sym c.starts.ensures ∙ c.if-starts.true) c.entity.new.cursor c.entity.new.entities c.entity.ensures.value);
  goes =
      let on : GoesOn c.args.cursor.now c.entity.new.cursor c.args.builder.now = record { source = c.entity.ensures.source ∙ c.spaces.ensures.source; fine = c.requires.here.fine } in
      goes_ended _ c.entity.result _ c.ended.ensures (whatever_it_is _ c.entity.result on);
}

pub returns-then-starts-2 : goal.returns-then-starts-2
returns-then-starts-2 g c = record {
  value = λ limit end n m run one going.
      ended_too (λ (q : Result Bool ParseError). ItemOutcome limit end c.args.start m c.args.cursor.now.text.now (Allows g.R.EntityResolver.allows c.args.resolver.now) run c.comment.new.cursor c.comment.new.builder c.args.entities.now q) c.comment.result c.parsed.result _ c.parsed.ensures c.ended-then-starts-2.ensures
      (comment_turn limit end c.args.start n m c.args.cursor.now.text.now (Allows g.R.EntityResolver.allows c.args.resolver.now) run one c.args.cursor.now c.spaces.new.self c.args.builder.now c.args.entities.now going c.requires.here.there (ap (λ t. t.now) c.spaces.ensures.source) c.spaces.ensures.place (sym c.starts.ensures ∙ c.if-starts.false) c.comment.new.cursor c.comment.new.builder c.comment.result (sym c.starts-2.ensures ∙ c.if-starts-2.true) (c.comment.ensures.value limit end _));
  goes =
      let on : GoesOn c.spaces.new.self c.comment.new.cursor c.comment.new.builder → GoesOn c.args.cursor.now c.comment.new.cursor c.comment.new.builder = λ g. record { source = g.source ∙ c.spaces.ensures.source; fine = g.fine } in
      goes_ended _ c.parsed.result _ c.ended-then-starts-2.ensures (goes_too _ c.comment.result _ c.parsed.ensures (on_ok_weaker c.comment.result on c.comment.ensures.goes));
}

pub returns-then-starts-3 : goal.returns-then-starts-3
returns-then-starts-3 g c = record {
  value = λ limit end n m run one going.
      ended_too (λ (q : Result Bool ParseError). ItemOutcome limit end c.args.start m c.args.cursor.now.text.now (Allows g.R.EntityResolver.allows c.args.resolver.now) run c.instruction.new.cursor c.instruction.new.builder c.args.entities.now q) c.instruction.result c.parsed-then-starts-3.result _ c.parsed-then-starts-3.ensures c.ended-then-starts-3.ensures
      (instruction_turn limit end c.args.start n m c.args.cursor.now.text.now (Allows g.R.EntityResolver.allows c.args.resolver.now) run one c.args.cursor.now c.spaces.new.self c.args.builder.now c.args.entities.now going c.requires.here.there (ap (λ t. t.now) c.spaces.ensures.source) c.spaces.ensures.place (sym c.starts.ensures ∙ c.if-starts.false) (sym c.starts-2.ensures ∙ c.if-starts-2.false) c.instruction.new.cursor c.instruction.new.builder c.instruction.result (sym c.starts-3.ensures ∙ c.if-starts-3.true) (c.instruction.ensures.value limit end _));
  goes =
      let on : GoesOn c.spaces.new.self c.instruction.new.cursor c.instruction.new.builder → GoesOn c.args.cursor.now c.instruction.new.cursor c.instruction.new.builder = λ g. record { source = g.source ∙ c.spaces.ensures.source; fine = g.fine } in
      goes_ended _ c.parsed-then-starts-3.result _ c.ended-then-starts-3.ensures (goes_too _ c.instruction.result _ c.parsed-then-starts-3.ensures (on_ok_weaker c.instruction.result on c.instruction.ensures.goes));
}

pub returns-in_err-skip_declaration : goal.returns-in_err-skip_declaration
returns-in_err-skip_declaration g c = record {
  value = λ limit end n m run one going.
      let q = err_from_is_err_and c.from_residual.result c.from_residual.ensures.1 in
      rw (q.1, q.2)
      (going.asked, going.given, passed_stops limit end c.args.start n m c.args.cursor.now.text.now (Allows g.R.EntityResolver.allows c.args.resolver.now) run one c.args.cursor.now c.spaces.new.self c.args.builder.now c.args.entities.now going c.requires.here.there (ap (λ t. t.now) c.spaces.ensures.source) c.spaces.ensures.place (sym c.starts.ensures ∙ c.if-starts.false) (sym c.starts-2.ensures ∙ c.if-starts-2.false) (sym c.starts-3.ensures ∙ c.if-starts-3.false) c.in_err-skip_declaration.field-0.0 (sym c.is_skipped_declaration.ensures ∙ c.if-is_skipped_declaration.true) c.in_err-skip_declaration.ensures.value);
  goes = let p = err_from_is_err_and c.from_residual.result c.from_residual.ensures.1 in rw p.1 tt;
}

pub returns-then-is_skipped_declaration : goal.returns-then-is_skipped_declaration
returns-then-is_skipped_declaration g c = grind (arith, passed_turn)

pub returns-then-not-is_at : goal.returns-then-not-is_at
returns-then-not-is_at g c = record {
  value = λ limit end n m run one going.
      (going.asked, going.given, unknown_stops limit end c.args.start n m c.args.cursor.now.text.now (Allows g.R.EntityResolver.allows c.args.resolver.now) run one c.args.cursor.now c.spaces.new.self c.args.builder.now c.args.entities.now going c.requires.here.there (ap (λ t. t.now) c.spaces.ensures.source) c.spaces.ensures.place (sym c.starts.ensures ∙ c.if-starts.false) (sym c.starts-2.ensures ∙ c.if-starts-2.false) (sym c.starts-3.ensures ∙ c.if-starts-3.false) (sym c.is_skipped_declaration.ensures ∙ c.if-is_skipped_declaration.false) (sym c.is_at.ensures ∙ c.if-not-is_at.true));
  goes = first_of (search rules, grind (arith, common_steps));
}

pub returns-in_err-subset_end : goal.returns-in_err-subset_end
returns-in_err-subset_end g c = record {
  value = λ limit end n m run one going.
      let q = err_from_is_err_and c.from_residual-in_err-subset_end.result c.from_residual-in_err-subset_end.ensures.1 in
      rw (q.1, q.2)
      (going.asked, going.given, end_stops limit end c.args.start n m c.args.cursor.now.text.now (Allows g.R.EntityResolver.allows c.args.resolver.now) run one c.args.cursor.now c.spaces.new.self c.args.builder.now c.args.entities.now going c.requires.here.there (ap (λ t. t.now) c.spaces.ensures.source) c.spaces.ensures.place (sym c.starts.ensures ∙ c.if-starts.false) (sym c.starts-2.ensures ∙ c.if-starts-2.false) (sym c.starts-3.ensures ∙ c.if-starts-3.false) (sym c.is_skipped_declaration.ensures ∙ c.if-is_skipped_declaration.false) (eqb-true _ _ (sym c.is_at.ensures ∙ c.if-not-is_at.false)) c.in_err-subset_end.field-0.0 c.in_err-subset_end.ensures.value);
  goes = let p = err_from_is_err_and c.from_residual-in_err-subset_end.result c.from_residual-in_err-subset_end.ensures.1 in rw p.1 tt;
}

pub returns : goal.returns
returns g c = record {
  value = λ limit end n m run one going.
      (going.asked, going.given, end_turn limit end c.args.start n m c.args.cursor.now.text.now (Allows g.R.EntityResolver.allows c.args.resolver.now) run one c.args.cursor.now c.spaces.new.self c.args.builder.now c.args.entities.now going c.requires.here.there (ap (λ t. t.now) c.spaces.ensures.source) c.spaces.ensures.place (sym c.starts.ensures ∙ c.if-starts.false) (sym c.starts-2.ensures ∙ c.if-starts-2.false) (sym c.starts-3.ensures ∙ c.if-starts-3.false) (sym c.is_skipped_declaration.ensures ∙ c.if-is_skipped_declaration.false) (eqb-true _ _ (sym c.is_at.ensures ∙ c.if-not-is_at.false)) c.subset_end.new.cursor c.in_ok-subset_end.ensures.value);
  goes = first_of (search rules, grind (arith, common_steps));
}

pub comment-requires : goal.comment-requires
comment-requires g c = record { here = sym c.starts-2.ensures ∙ c.if-starts-2.true; fine = c.requires.here.fine }

pub instruction-requires : goal.instruction-requires
instruction-requires g c = record { here = sym c.starts-3.ensures ∙ c.if-starts-3.true; fine = c.requires.here.fine }
