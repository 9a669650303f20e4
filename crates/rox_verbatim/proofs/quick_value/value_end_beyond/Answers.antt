use Rattle.std.proofs.Common.{◌≡◌, sym, ◌∙◌, arith}
use Rattle.rox_scan.proofs.LongerLemmas.{quoted_near}
use Rattle.rox_verbatim.proofs.quick_value.value_end_beyond.Goals as goal

pub returns-then-is_at : goal.returns-then-is_at
returns-then-is_at c = λ some.
    let n = c.skip_set-end.ensures in
    let double : c.args.quote ≡ 34 = omega (arith, c.if-quote-ne34.false) in
    record {
      looked = rw double (quoted_near c.args.text.now c.args.at _ c.utf8.text c.requires.cut n.onward n.within n.passes n.stops);
      here = rw double (sym c.is_at.ensures ∙ c.if-is_at.true);
    }
