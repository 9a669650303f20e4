use Rattle.std.proofs.Common.{◌≡◌, true, Ok, sym, ◌∙◌, arith, eqb-true}
use Rattle.rox_grammar.specs.declared.fault.Word.TheVariants as word
use Rattle.rox_grammar.specs.FixedTexts.{word_text}
use Rattle.rox_grammar.specs.Search.{stands}
use Rattle.rox_reading.specs.Markup.{cdata_at}
use Rattle.rox_reading.specs.Values.{ReadText}
use Rattle.rox_theory.proofs.MarkupLemmas.{cdata_sound}
use Rattle.rox_builder.proofs.Stepping.{cdata_is}
use Rattle.rox_sections.proofs.PlainReads.{fine_same}
use Rattle.rox_sections.proofs.PlainSections.{step_is_section}
use Rattle.rox_sections.proofs.Twice.{text_stepped_at}
use Rattle.rox_sections.proofs.quick_sections.put_section_at.Goals as goal

pub returns : goal.returns
returns c =
    let src = c.args.text.now in
    let b = c.args.builder.now in
    let section = c.in-Some.section in
    let raw = section.text.now in
    let j = section.end in
    let opens : stands (word_text word.CDataStart) src c.args.start ≡ true = sym c.starts.ensures ∙ c.if-not-starts.false in
    let read : cdata_at src c.args.start ≡ Ok (raw, j) = c.in-Some.ensures.read in
    let adds = c.put_text.ensures.adds in
    let text : ReadText = record { value = raw; borrowed = true } in
    record {
      value = λ _ context end s here behind start stop h.
          let from : c.args.start ≡ s.at = sym start ∙ h.here in
          rw (step_is_section context src s c.args.start from opens, cdata_is context.limit src s c.args.start j raw text from read c.in-Some.ensures.plain)
          (text_stepped_at context.limit end s here behind c.args.start j b c.put_text.new.self (Ok tt) text start stop h adds.kept
          (adds.value end j s h.shows));
      other = λ no. absurd (omega (arith, no, c.requires.room.short, c.in-Some.ensures.cut.0));
      cut = λ _. c.in-Some.ensures.cut;
      ready = λ _. c.put_text.ensures.ready;
      apart = λ _ other. absurd (other (eqb-true _ _ (sym c.is_at.ensures ∙ c.if-not-is_at.false)));
      moves = λ _. (cdata_sound src c.utf8.text c.args.start j raw opens read).3;
      fine = fine_same b c.put_text.new.self c.requires.room.fine adds.kept.tables adds.kept.opened;
    }
