use Rattle.std.proofs.Common.{◌<◌, length, map, drop, ap, ◌∙◌, arith}
use Rattle.std.proofs.lemmas.Result.{err_from_is_err_and}
use Rattle.rox_rows.specs.Rows.{attribute_rows, AttributeRow}
use Rattle.rox_scopes.specs.NamespaceViews.{namespace_view}
use Rattle.rox_names.specs.declared.unresolved_attribute.UnresolvedAttribute.{UnresolvedAttribute}
use Rattle.rox_names.proofs.Resolving.{ends, refuses_or, moves, resolves, starts, resolves_first, read_again}
use Rattle.rox_names.proofs.Seeing.{sees_start, sees_next}
use Rattle.rox_names.proofs.resolve.resolve_many.Goals as goal

pub loop-turn-init : goal.loop-turn-init
loop-turn-init c = record {
  moving = starts (length c.args.namespaces.now) c.args.taken.now.items (attribute_rows c.args.attributes.now);
  resolving = λ ds h. resolves_first (map namespace_view c.args.namespaces.now) ds c.args.taken.now.items (attribute_rows c.args.attributes.now);
  sees = sees_start (map namespace_view c.args.namespaces.now) c.new-seen.result.keys (attribute_rows c.args.attributes.now) c.new-seen.ensures.empty;
}

pub returns-in_err-namespace : goal.returns-in_err-namespace
returns-in_err-namespace c = λ ds h.
    let l = c.loop-turn in
    let old = attribute_rows c.args.attributes.now in
    let p = err_from_is_err_and c.from_residual.result c.from_residual.ensures.1 in
    rw (p.1, p.2) (refuses_or (length c.args.namespaces.now) (map namespace_view c.args.namespaces.now) ds c.args.taken.now.items old l.turn l.taken.items (attribute_rows l.attributes)
    c.index.result.now c.in_err-namespace.field-0.0 l.invariant.moving (l.invariant.resolving ds h) (omega arith) c.index.ensures
    (λ before rest shown. c.in_err-namespace.ensures.tested ds (drop (length old) (attribute_rows l.attributes)) before rest h l.invariant.sees shown))

pub loop-turn-preserved : goal.loop-turn-preserved
loop-turn-preserved c =
    let l = c.loop-turn in
    let n = length c.args.namespaces.now in
    let namespaces = map namespace_view c.args.namespaces.now in
    let initial = c.args.taken.now.items in
    let old = attribute_rows c.args.attributes.now in
    let here : l.turn < length l.taken.items = omega arith in
    let same = read_again l.taken.items l.turn c.index.result.now c.index_mut.result.now here c.index.ensures c.index_mut.ensures.value in
    let m = l.invariant.moving in
    record {
      moving = moves n initial old l.turn l.taken.items (attribute_rows l.attributes) c.index.result.now c.index_mut.result.now c.move_row-row.new.taken c.in_ok-namespace.namespace c.move_row-row.result (attribute_rows c.put.new.self)
          m here c.index.ensures c.in_ok-namespace.ensures.found.within c.move_row-row.ensures (c.put.ensures.put c.if-not-put.false);
      resolving = λ ds h. resolves n namespaces ds initial old l.turn l.taken.items (attribute_rows l.attributes)
          c.index.result.now c.index_mut.result.now c.in_ok-namespace.namespace c.move_row-row.result (attribute_rows c.put.new.self)
          m (l.invariant.resolving ds h) here c.index.ensures
          (λ before rest shown. c.in_ok-namespace.ensures.tested ds (drop (length old) (attribute_rows l.attributes)) before rest h l.invariant.sees shown)
          (c.in_ok-namespace.ensures.found.there ds h) c.index_mut.ensures.value c.move_row-row.ensures (c.put.ensures.put c.if-not-put.false);
      sees = sees_next namespaces l.seen.keys c.seen_namespace.new.seen.keys old m.done (attribute_rows l.attributes) (attribute_rows c.put.new.self) c.move_row-row.result m.table_is (c.put.ensures.put c.if-not-put.false) l.invariant.sees
          (λ h. c.in_ok-namespace.ensures.more _ c.move_row-row.result.0 h (ap (λ (r : AttributeRow). r.0.namespace) c.move_row-row.ensures)
          (ap (λ (r : AttributeRow). r.0.local) c.move_row-row.ensures ∙ ap (λ (t : UnresolvedAttribute). t.name.local) same));
    }

pub returns : goal.returns
returns c = λ ds h.
    let l = c.loop-turn in
    ends (length c.args.namespaces.now) (map namespace_view c.args.namespaces.now) ds c.args.taken.now.items (attribute_rows c.args.attributes.now) l.turn l.taken.items (attribute_rows l.attributes)
    l.invariant.moving (l.invariant.resolving ds h) (omega arith)
