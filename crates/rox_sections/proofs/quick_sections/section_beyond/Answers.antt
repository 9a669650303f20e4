use Rattle.std.proofs.Common.{◌≡◌, ◌==◌, length, sym, ap, ◌∙◌, arith}
use Rattle.std.specs.List.{position_or_len}
use Rattle.rox_values.proofs.SectionLemmas.{section_plain}
use Rattle.rox_sections.proofs.quick_sections.section_beyond.Goals as goal

pub returns : goal.returns
returns c =
    let raw = c.in-Ok.raw.now in
    let full : c.before_byte.result ≡ length c.as_bytes-bytes.result.now = omega (arith, c.if-before_byte-bytes.false, c.before_byte.ensures.within) in
    let none : position_or_len (λ x. x == 13) raw ≡ length raw = rw c.as_bytes-bytes.ensures.value at (sym c.before_byte.ensures.value ∙ full) in
    record {
      read = c.in-Ok.ensures.value;
      plain = section_plain raw none;
      cut = rw (ap (λ t. t.now) c.in-Ok.ensures.source) at c.cdata.new.cursor.cut;
    }
