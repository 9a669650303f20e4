use Rattle.std.proofs.Common.{◌<◌, ℕ, List, length, sym, subst, ap, ◌∙◌}
use Rattle.rox_bytes.proofs.MarkLemmas.{mark_found, word_first}
use Rattle.rox_grammar.specs.ExpectedTexts.{expected_text}
use Rattle.rox_grammar.specs.Search.{before_mark}
use Rattle.rox_scan.proofs.MarkSearch.{mark_first, near_first}
use Rattle.rox_scan.proofs.cursor.mark_from.Goals as goal

pub returns-then-starts_with : goal.returns-then-starts_with
returns-then-starts_with c =
    let rest = c.as_bytes-rest.result.now in
    let needle = c.text-needle.result.now in
    let hay = c.as_bytes-rest.ensures.value ∙ c.range_from.ensures.value in
    let first = word_first c.args.mark in
    let some : 0 < length needle = subst (λ (m : List ℕ). 0 < length m) (sym c.text-needle.ensures) first.0 in
    let here = rw c.split_at.ensures.back at (sym c.starts_with.ensures.value ∙ c.if-starts_with.true) in
    let near = near_first needle rest c.before_byte-near.result some c.before_byte-near.ensures.value c.before_byte-near.ensures.within here in
    let is = sym near ∙ ap (λ (m : List ℕ). before_mark m rest) c.text-needle.ensures ∙ ap (λ (h : List ℕ). before_mark (expected_text c.args.mark) h) hay in
    mark_first (expected_text c.args.mark) c.args.from.text.now c.args.from.pos c.before_byte-near.result c.args.from.cut first.0 first.1 is

pub returns : goal.returns
returns c =
    let hay = c.as_bytes-rest.ensures.value ∙ c.range_from.ensures.value in
    let first = word_first c.args.mark in
    let found = rw (hay, c.text-needle.ensures) at c.find.ensures in
    rw (c.unwrap_or.ensures, hay) (mark_found _ c.args.from.text.now c.args.from.pos c.find.result c.args.from.cut first.0 first.1 found)
