use Rattle.std.proofs.Common.{sym, ◌∙◌}
use Rattle.rox_values.proofs.SectionLemmas.{section_plain}
use Rattle.rox_values.proofs.text_value.cdata_text.Goals as goal

pub returns-then-before_byte-bytes : goal.returns-then-before_byte-bytes
returns-then-before_byte-bytes c =
    sym (section_plain c.args.raw.now (rw c.as_bytes-bytes.ensures.value at (sym c.before_byte.ensures.value ∙ c.if-before_byte-bytes.true)))
