use Rattle.std.proofs.Common.{◌≡◌, ◌-◌, ◌+◌, slice_index, refl, ap, ◌∙◌, arith}
use Rattle.rox_grammar.specs.Failures.{name_view}
use Rattle.rox_verbatim.specs.PlainValues.{IsValueStart}
use Rattle.rox_verbatim.proofs.Verbatim.{attribute_reads, value_is, value_starts}
use Rattle.rox_bytes.proofs.NearLemmas.{not_zero}
use Rattle.rox_tags.proofs.own_declaration.plain_declaration.Goals as goal

pub returns : goal.returns
returns c =
    let src = c.args.text.now in
    let found = c.in_ok-name.ensures in
    let n = c.in_ok-name.name.end in
    let s = n + 2 in
    let q = c.quote_before-quote.result in
    let is_quote = c.quote_before-quote.ensures.quote in
    let w = c.in_ok-value.ensures in
    let j = c.in_ok-value.value.end in
    let e = c.after_byte-end.result in
    let there : slice_index src (n + 1) ≡ q = ap (slice_index src) (omega arith) ∙ c.quote_before-quote.ensures.here in
    let v : IsValueStart src n s = value_starts src n c.utf8.text found.named.inside found.named.equals found.named.quote in
    let here : slice_index src (s - 1) ≡ q = ap (slice_index src) (omega arith) ∙ there in
    let done = c.after_byte-end.ensures.place in
    let fits = w.cut.0 in
    let inside = found.named.inside in
    let local = found.named.local in
    record {
      plain = record {
        value_end = j;
        read = attribute_reads src c.args.start (name_view c.in_ok-name.name.name) n s q j e found.named.value v here is_quote (not_zero q is_quote) w.read w.here done;
        start = refl;
        end = done;
        value = λ values is openings_left. rw w.is (value_is values.main values.entities values.opener src s j openings_left w.verbatim);
        cut = c.after_byte-end.ensures.cut;
        onward = omega arith;
        local = local;
        gap = omega arith;
      };
      is = found.is;
    }

pub unchanged_value-requires : goal.unchanged_value-requires
unchanged_value-requires c =
    let named = c.in_ok-name.ensures.named in
    let v = value_starts c.args.text.now c.in_ok-name.name.end c.utf8.text named.inside named.equals named.quote in
    record { cut = v.cut; near = c.skip_set-near.ensures; quote = c.quote_before-quote.ensures.quote }
