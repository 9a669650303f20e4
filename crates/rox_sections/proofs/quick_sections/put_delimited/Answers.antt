use Rattle.std.proofs.Common.{length, ap, sym, ◌∙◌, arith}
use Rattle.rox_builder.proofs.Stepping.{step_is_comment}
use Rattle.rox_sections.proofs.Twice.{stands_there, scans_there}
use Rattle.rox_sections.proofs.quick_sections.put_delimited.Goals as goal

pub returns : goal.returns
returns c = record {
  value = λ _ context end s here behind start stop h.
      rw (step_is_comment context c.args.text.now s c.args.start (sym start ∙ h.here) (sym c.starts.ensures ∙ c.if-not-starts.false))
      (scans_there context.limit end c.put_comment.new.cursor behind c.put_comment.new.builder _ stop
      (c.put_comment.ensures.value c.if-not-put_comment.false context end s tt (stands_there context.limit end s here _ c.args.builder.now (sym start) h)));
  other = λ no. absurd (omega (arith, no, c.requires.room.short, c.put_comment.new.cursor.cut.0, ap (λ t. length t.now) c.put_comment.ensures.goes.source));
  cut = λ _. rw (ap (λ t. t.now) c.put_comment.ensures.goes.source) at c.put_comment.new.cursor.cut;
  ready = λ _ most h. (c.put_comment.ensures.ready c.if-not-put_comment.false most h).ready;
  apart = λ _ _. (c.put_comment.ensures.ready c.if-not-put_comment.false _ c.requires.room.ready).apart;
  moves = λ _. c.put_comment.ensures.moves c.if-not-put_comment.false;
  fine = c.put_comment.ensures.goes.fine;
}
