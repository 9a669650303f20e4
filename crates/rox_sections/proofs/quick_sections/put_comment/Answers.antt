use Rattle.std.proofs.Common.{refl, ap, ℕ, Ok, rules}
use Rattle.rox_grammar.specs.Tree as tree
use Rattle.rox_grammar.specs.Written.{Item, Comment}
use Rattle.rox_theory.proofs.MarkupLemmas.{comment_sound}
use Rattle.rox_builder.proofs.Stepping.{comment_is, item_stepped}
use Rattle.rox_sections.proofs.PlainReads.{fine_same}
use Rattle.rox_sections.proofs.quick_sections.put_comment.Goals as goal

pub returns : goal.returns
returns c = record {
  value = λ _ context end s _ h.
      let text = c.in-Some.whole.text.now in
      let j = c.in-Some.whole.end in
      let b = c.args.builder.now in
      let i : Item = Comment s.at j text in
      let a = c.put_leaf.ensures.adds.value end j s i h.shows (record { is = ap (λ (n : ℕ). tree.Comment n j text) h.here; within = refl; no_text = refl }) in
      rw (comment_is context.limit c.args.cursor.now.text.now s c.args.cursor.now.pos j text h.here c.in-Some.ensures.read)
      (item_stepped context.limit end s c.args.cursor.now _ b c.put_leaf.new.self (Ok tt) i h refl refl c.put_leaf.ensures.adds.kept.tables c.put_leaf.ensures.adds.kept.limit c.put_leaf.ensures.adds.kept.openings_left a);
  other = λ no. absurd (cc no);
  ready = λ _. c.put_leaf.ensures.ready;
  moves = λ _. (comment_sound c.args.cursor.now.text.now c.args.cursor.now.utf8 c.args.cursor.now.pos c.in-Some.whole.end c.in-Some.whole.text.now c.requires.here c.in-Some.ensures.read).3;
  goes = record { source = search rules; fine = fine_same c.args.builder.now c.put_leaf.new.self c.requires.room.fine c.put_leaf.ensures.adds.kept.tables c.put_leaf.ensures.adds.kept.opened };
}
