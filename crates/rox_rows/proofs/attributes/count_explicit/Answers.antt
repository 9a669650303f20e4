use Rattle.std.proofs.Common.{◌+◌, ap, sym, ◌∙◌, if◌then◌else◌, arith}
use Rattle.rox_rows.proofs.AttributeRows.{count_next}
use Rattle.rox_rows.proofs.attributes.count_explicit.Goals as goal
use Rattle.rox_rows.proofs.attributes.count_explicit.Goals.{then-has_explicit_places, else-has_explicit_places}

pub loop-row-preserved : goal.loop-row-preserved
loop-row-preserved c =
    let l = c.loop-row in
    let next = count_next c.args.rows.now l.row-index c.row-item.result c.has_explicit_places.result l.count c.loop-row-test.true c.row-item.is c.has_explicit_places.ensures.explicit l.invariant.value in
    elim c.if-has_explicit_places.branch [
      | then-has_explicit_places w ↦ record {
        value = w.count-is ∙ ap (λ b. if b then l.count + 1 else l.count) (sym w.if-has_explicit_places.true) ∙ next;
        few = omega (arith, l.invariant.few, w.count-is);
      }
      | else-has_explicit_places w ↦ record {
        value = w.count-is ∙ ap (λ b. if b then l.count + 1 else l.count) (sym w.if-has_explicit_places.false) ∙ next;
        few = omega (arith, l.invariant.few, w.count-is);
      }
    ]
