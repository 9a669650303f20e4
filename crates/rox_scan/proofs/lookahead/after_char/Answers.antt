use Rattle.std.proofs.Common.{◌≡◌, ℕ, List, true, ◌<◌, slice_index, ap, sym, ◌∙◌, arith}
use Rattle.std.proofs.lemmas.Str.{IsCharBoundary-after_ascii}
use Rattle.rox_grammar.specs.Chars.{is_char}
use Rattle.rox_scan.proofs.CharLemmas.{no_step, one_char, ascii_char, wide_bytes}
use Rattle.rox_bytes.proofs.RunLemmas.{begins_at, begins_ascii}
use Rattle.rox_scan.proofs.lookahead.after_char.Goals as goal

pub returns-then-has_byte : goal.returns-then-has_byte
returns-then-has_byte c =
    let src = c.args.text.now in
    let i = c.args.at in
    let read = ap (λ (l : List ℕ). slice_index l i) c.as_bytes.ensures.value in
    let ascii : slice_index src i < 128 = omega (arith, c.if-here-lt128.true, read) in
    let passes : is_char (slice_index src i) ≡ true = ap is_char (sym read) ∙ sym c.has_byte.ensures ∙ c.if-has_byte.true in
    record {
      step = record {
        onward = omega arith;
        chars = ascii_char src i c.utf8.text c.requires.within ascii passes;
        cut = IsCharBoundary-after_ascii src i c.utf8.text c.requires.within ascii;
        wide = λ k more below. absurd (omega (arith, more, below));
      };
      stops = λ same. absurd (omega (arith, same));
    }

pub returns-else-has_byte : goal.returns-else-has_byte
returns-else-has_byte c = grind (arith, no_step, begins_ascii)

pub returns-then-has : goal.returns-then-has
returns-then-has c = grind (arith, one_char, wide_bytes)

pub returns-else-has : goal.returns-else-has
returns-else-has c = grind (arith, no_step, begins_at)
