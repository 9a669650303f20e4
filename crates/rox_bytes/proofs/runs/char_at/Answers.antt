use Rattle.std.proofs.Common.{◌≡◌, ◌++◌, drop, ◌∙◌, sym, ap, refl, arith, encode_utf8}
use Rattle.std.proofs.lemmas.Str.{drop_past_char, IsUtf8-drop, chars_past_char, IsCharBoundary-past_char}
use Rattle.rox_bytes.proofs.runs.char_at.Goals as goal

pub returns : goal.returns
returns c =
    let stood : drop c.args.at c.args.text.now ≡ encode_utf8 c.in-Some.c ++ c.next.new.self.rest.now = sym c.range_from.ensures.value ∙ sym c.chars.ensures.rest ∙ c.in-Some.ensures.steps.0 in
    let utf8 = IsUtf8-drop c.args.text.now c.args.at c.utf8.text c.requires.cut in
    let all = chars_past_char (drop c.args.at c.args.text.now) _ c.in-Some.c utf8 stood in
    record {
      stands = stood ∙ ap (λ r. encode_utf8 c.in-Some.c ++ r) (sym (drop_past_char c.args.text.now _ c.args.at c.in-Some.c stood));
      first = rw all refl;
      cut = IsCharBoundary-past_char c.args.text.now _ c.args.at c.in-Some.c (omega arith) utf8 stood;
    }
