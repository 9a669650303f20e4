use Rattle.std.proofs.Common.{sym, ◌∙◌, rules}
use Rattle.rox_scan.proofs.NearReads.{short_chars}
use Rattle.rox_bytes.proofs.NearLemmas.{value_cut}
use Rattle.rox_markup.proofs.xml_decl.value.Goals as goal

pub returns-then-is_at : goal.returns-then-is_at
returns-then-is_at c =
    let s = c.args.cursor.now in
    let near = c.skip_set-near.ensures in
    record {
      value = rw c.range.ensures.value (short_chars s.text.now s.pos c.skip_set-near.result c.args.quote.byte s.utf8 s.cut c.args.quote.is near.onward (value_cut s.text.now s.pos _ s.utf8 s.cut near.onward near.within near.passes) near.passes (sym c.is_at.ensures ∙ c.if-is_at.true));
      source = search rules;
      onward = search rules;
    }
