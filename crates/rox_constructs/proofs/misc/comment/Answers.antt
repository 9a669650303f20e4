use Rattle.std.proofs.Common.{refl, ap, ℕ, rules, arith}
use Rattle.rox_grammar.specs.Tree as tree
use Rattle.rox_grammar.specs.Written.{Item, Comment}
use Rattle.rox_builder.proofs.Stepping.{comment_is, comment_fails, item_stepped}
use Rattle.rox_constructs.proofs.misc.comment.Goals as goal

pub returns : goal.returns
returns c = record {
  value = λ limit end s h.
      let text = c.in_ok-text.text.now in
      let j = c.comment.new.cursor.pos in
      let b = c.args.builder.now in
      let i : Item = Comment s.at j text in
      let a = c.leaf.ensures.value end j s i h.shows (record { is = ap (λ (n : ℕ). tree.Comment n j text) h.here; within = refl; no_text = refl }) in
      rw (comment_is limit c.args.cursor.now.text.now s c.args.cursor.now.pos j text h.here c.in_ok-text.ensures.value)
      (item_stepped limit end s c.args.cursor.now c.comment.new.cursor b c.leaf.new.self c.leaf.result i h refl refl c.leaf.ensures.kept.tables c.leaf.ensures.kept.limit c.leaf.ensures.kept.openings_left a);
  goes = search rules;
}

pub returns-in_err-text : goal.returns-in_err-text
returns-in_err-text c = grind (arith, comment_fails)
