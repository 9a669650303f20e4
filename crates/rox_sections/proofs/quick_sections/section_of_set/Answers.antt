use Rattle.std.proofs.Common.{◌≡◌, true, refl, arith}
use Rattle.rox_grammar.specs.FixedTexts.{word_text}
use Rattle.rox_grammar.specs.Search.{stands}
use Rattle.rox_grammar.specs.declared.fault.Word.TheVariants as word
use Rattle.rox_bytes.proofs.MarkLemmas.{stands_cut}
use Rattle.rox_sections.proofs.SetSections.{end_cut, set_read, set_verbatim}
use Rattle.rox_sections.proofs.quick_sections.section_of_set.Goals as goal

pub range-requires-clause-end_boundary : goal.range-requires-clause-end_boundary
range-requires-clause-end_boundary c = end_cut c.args.from.text.now c.in_ok-end.end (c.is_section_end.ensures c.if-not-is_section_end.false)

pub returns : goal.returns
returns c =
    let src = c.args.from.text.now in
    let e = c.in_ok-end.end in
    let n = c.in_ok-end.ensures.ends in
    let u = c.skip.new.self in
    let here : stands (word_text word.CDataEnd) src e ≡ true = c.is_section_end.ensures c.if-not-is_section_end.false in
    let cut = end_cut src e here in
    record {
      read = rw c.range.ensures.value (set_read src c.args.from.pos u.pos e c.args.from.utf8 (rw c.skip.ensures.source at u.cut) c.skip.ensures.place n.onward cut n.passes here);
      plain = rw c.range.ensures.value (set_verbatim src u.pos e n.onward n.within n.passes);
      cut = stands_cut (word_text word.CDataEnd) src e 2 refl c.args.from.utf8 (omega arith) here;
    }
