use Rattle.std.proofs.Common.{ap, subst, sym, ◌∙◌, ◌==◌, ◌||◌, ◌+◌, arith}
use Rattle.rox_bytes.proofs.NearLemmas.{part_stops}
use Rattle.rox_verbatim.specs.PlainValues.{IsValueStart}
use Rattle.rox_verbatim.proofs.Verbatim.{ascii_begins, value_starts}
use Rattle.rox_attributes.proofs.quick_attribute.name_and_value_start.Goals as goal

pub name_without_prefix-requires : goal.name_without_prefix-requires
name_without_prefix-requires c = grind (arith, part_stops, ascii_begins)

pub returns-then-quote_after_equals-ne0-clause-value : goal.returns-then-quote_after_equals-ne0-clause-value
returns-then-quote_after_equals-ne0-clause-value c =
    let seen = c.quote_after_equals.ensures.found (omega arith) in
    subst (λ e. IsValueStart c.args.text.now e (c.args.place.part + 2)) (sym c.name_without_prefix.ensures.end)
    (value_starts c.args.text.now c.args.place.part c.utf8.text seen.within seen.equals (ap (λ n. n == 39 || n == 34) seen.here ∙ seen.quote))
