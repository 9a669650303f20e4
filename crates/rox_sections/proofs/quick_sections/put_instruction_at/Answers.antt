use Rattle.std.proofs.Common.{◌≡◌, ◌≤◌, true, Ok, ℕ, length, refl, ap, sym, ◌∙◌, arith}
use Rattle.rox_grammar.specs.declared.fault.Word.TheVariants as word
use Rattle.rox_grammar.specs.FixedTexts.{word_text}
use Rattle.rox_grammar.specs.Search.{stands}
use Rattle.rox_grammar.specs.Tree as tree
use Rattle.rox_grammar.specs.Written.{Item, PI}
use Rattle.rox_reading.specs.Markup.{instruction_at}
use Rattle.rox_markup.specs.Views.{instruction_view}
use Rattle.rox_theory.proofs.MarkupLemmas.{instruction_sound}
use Rattle.rox_builder.proofs.Stepping.{instruction_is, item_stepped}
use Rattle.rox_sections.proofs.PlainReads.{fine_same}
use Rattle.rox_sections.proofs.PlainSections.{step_is_instruction}
use Rattle.rox_sections.proofs.Twice.{scans_there}
use Rattle.rox_sections.proofs.quick_sections.put_instruction_at.Goals as goal

pub returns : goal.returns
returns c =
    let src = c.args.text.now in
    let b = c.args.builder.now in
    let p = instruction_view c.in-Ok.read in
    let new = c.processing_instruction.new.cursor in
    let u = c.put_instruction.new.self in
    let j = new.pos in
    let source : new.text.now ≡ src = ap (λ t. t.now) c.in-Ok.ensures.source in
    let opens : stands (word_text word.PIStart) src c.args.start ≡ true = sym c.starts.ensures ∙ c.if-not-starts.false in
    let read : instruction_at src c.args.start ≡ Ok (p, j) = c.in-Ok.ensures.value in
    let within : j ≤ length src = rw source at new.cut.0 in
    let adds = c.put_instruction.ensures.adds in
    record {
      value = λ _ context end s here behind start stop h.
          let from : c.args.start ≡ s.at = sym start ∙ h.here in
          let i : Item = PI s.at j p.target p.value in
          let a = adds.value end j s i h.shows (record { is = ap (λ (n : ℕ). tree.PI n j p.target p.value) from; within = tt; no_text = refl }) in
          rw (step_is_instruction context src s c.args.start from opens, instruction_is context.limit src s c.args.start j p from read)
          (scans_there context.limit end new behind u _ stop
          (item_stepped context.limit end s here new b u (Ok tt) i h refl refl adds.kept.tables adds.kept.limit adds.kept.openings_left a));
      other = λ no. absurd (omega (arith, no, c.requires.room.short, within));
      cut = λ _. rw source at new.cut;
      ready = λ _ most h. (c.put_instruction.ensures.ready most h).ready;
      apart = λ _ _. (c.put_instruction.ensures.ready _ c.requires.room.ready).apart;
      moves = λ _. (instruction_sound src c.utf8.text c.args.start j p opens read).4;
      fine = fine_same b u c.requires.room.fine adds.kept.tables adds.kept.opened;
    }
