use Rattle.std.proofs.Common.{ap, ◌∙◌, ◌==◌, ◌||◌, arith}
use Rattle.rox_verbatim.proofs.Verbatim.{value_starts}
use Rattle.rox_verbatim.proofs.quick_value.any_value_start.Goals as goal

pub returns-then-quote_after_equals-ne0 : goal.returns-then-quote_after_equals-ne0
returns-then-quote_after_equals-ne0 c = λ some.
    let seen = c.quote_after_equals.ensures.found (omega arith) in
    value_starts c.args.text.now c.args.at c.utf8.text seen.within seen.equals (ap (λ n. n == 39 || n == 34) seen.here ∙ seen.quote)
