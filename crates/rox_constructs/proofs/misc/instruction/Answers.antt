use Rattle.std.proofs.Common.{refl, ap, ℕ, rules, arith}
use Rattle.rox_grammar.specs.Tree as tree
use Rattle.rox_grammar.specs.Written.{Item, PI}
use Rattle.rox_markup.specs.Views.{instruction_view}
use Rattle.rox_builder.proofs.Stepping.{instruction_is, instruction_fails, item_stepped}
use Rattle.rox_constructs.proofs.misc.instruction.Goals as goal

pub returns : goal.returns
returns c = record {
  value = λ limit end s h.
      let p = instruction_view c.in_ok-pi.pi in
      let j = c.processing_instruction.new.cursor.pos in
      let b = c.args.builder.now in
      let i : Item = PI s.at j p.target p.value in
      let a = c.leaf.ensures.value end j s i h.shows (record { is = ap (λ (n : ℕ). tree.PI n j p.target p.value) h.here; within = tt; no_text = refl }) in
      rw (instruction_is limit c.args.cursor.now.text.now s c.args.cursor.now.pos j p h.here c.in_ok-pi.ensures.value)
      (item_stepped limit end s c.args.cursor.now c.processing_instruction.new.cursor b c.leaf.new.self c.leaf.result i h refl refl c.leaf.ensures.kept.tables c.leaf.ensures.kept.limit c.leaf.ensures.kept.openings_left a);
  goes = search rules;
}

pub returns-in_err-pi : goal.returns-in_err-pi
returns-in_err-pi c = grind (arith, instruction_fails)
