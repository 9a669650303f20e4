use Rattle.std.proofs.Common.{◌≡◌, ◌∙◌, rules}
use Rattle.rox_reading.specs.Markup.{pair_at}
use Rattle.rox_markup.proofs.xml_decl.pair.Goals as goal

pub returns : goal.returns
unfolding pair_at
returns c =
    let s = c.args.cursor.now in
    let t1 : c.qname.new.self.text ≡ s.text = c.qname.ensures.source in
    let t2 : c.spaces.new.self.text ≡ s.text = c.spaces.ensures.source ∙ t1 in
    let t3 : c.byte.new.self.text ≡ s.text = c.byte.ensures.source ∙ t2 in
    let t4 : c.spaces-2.new.self.text ≡ s.text = c.spaces-2.ensures.source ∙ t3 in
    let t5 : c.quote.new.self.text ≡ s.text = c.quote.ensures.source ∙ t4 in
    let t6 : c.value.new.cursor.text ≡ s.text = c.value.ensures.source ∙ t5 in
    let equals = rw (t2, c.spaces.ensures.place, t1) at c.in_ok-byte.ensures.value in
    let quote = rw (t4, c.spaces-2.ensures.place, t3) at c.in_ok-quote.ensures.value in
    let value = rw t5 at c.in_ok-_value.ensures.value in
    record {
      value = rw (c.in_ok-_name.ensures.value, equals, quote, value) (rw t6 at c.byte-2.ensures.value);
      source = search rules;
      onward = search rules;
    }
