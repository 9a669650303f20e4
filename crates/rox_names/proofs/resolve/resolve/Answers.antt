use Rattle.std.proofs.Common.{rules, ◌≡◌, ◌<◌, length, length-append, map, drop, sym, ap, ◌∙◌, subst, arith, vec_len, eqb-true}
use Rattle.std.proofs.lemmas.Result.{err_from_is_err_and}
use Rattle.rox_rows.specs.Rows.{AttributeRow, attribute_rows, NamespaceWithin}
use Rattle.rox_scopes.specs.NamespaceViews.{namespace_view}
use Rattle.rox_names.specs.ResolvedNames.{row_of_unresolved}
use Rattle.rox_seen.specs.SeenNames.{HasNameOf, SeesName}
use Rattle.rox_seen.proofs.SeenCodes.{seen_more}
use Rattle.rox_rows.proofs.AttributeRows.{data_behind, all_behind, all_column}
use Rattle.rox_names.proofs.Resolving.{ends, refuses, moves, resolves, starts, resolves_first, read_again}
use Rattle.rox_names.proofs.resolve.resolve.Goals as goal

pub returns-in_err-namespace : goal.returns-in_err-namespace
returns-in_err-namespace c = λ ds h.
    let l = c.loop-turn in
    let behind = data_behind l.attributes c.deref.result.now (attribute_rows c.args.attributes.now) l.seen.from c.deref.ensures.value l.invariant.from in
    let p = err_from_is_err_and c.from_residual.result c.from_residual.ensures.1 in
    rw (p.1, p.2) (refuses (length c.args.namespaces.now) (map namespace_view c.args.namespaces.now) ds c.args.taken.now.items (attribute_rows c.args.attributes.now) l.turn l.taken.items (attribute_rows l.attributes)
    c.index.result.now c.in_err-namespace.field-0.0 l.invariant.moving (l.invariant.resolving ds h) (omega arith) c.index.ensures
    (λ before rest shown. c.in_err-namespace.ensures.tested ds (drop (length (attribute_rows c.args.attributes.now)) (attribute_rows l.attributes)) before rest h behind shown))

pub loop-turn-preserved : goal.loop-turn-preserved
loop-turn-preserved c =
    let l = c.loop-turn in
    let n = length c.args.namespaces.now in
    let initial = c.args.taken.now.items in
    let old = attribute_rows c.args.attributes.now in
    let from = l.invariant.from in
    let behind = data_behind l.attributes c.deref.result.now old l.seen.from c.deref.ensures.value from in
    let here : l.turn < length l.taken.items = omega arith in
    let long = ap length l.invariant.moving.table_is ∙ length-append old l.invariant.moving.done in
    let same = read_again l.taken.items l.turn c.index.result.now c.index_mut.result.now here c.index.ensures c.index_mut.ensures.value in
    let made : c.move_row-row.result ≡ row_of_unresolved c.index.result.now c.in_ok-namespace.namespace = c.move_row-row.ensures ∙ ap (λ v. row_of_unresolved v c.in_ok-namespace.namespace) same in
    let sees = subst (λ (r : AttributeRow). SeesName l.seen c.tested_namespace.new.seen r.0.local.now) (sym made) c.in_ok-namespace.ensures.sees in
    record {
      from = c.in_ok-namespace.ensures.from ∙ from;
      seen = seen_more l.seen c.tested_namespace.new.seen (attribute_rows l.attributes) _ c.move_row-row.result (c.put.ensures.put c.if-not-put.false) (omega (arith, from, long)) sees l.invariant.seen;
      moving = moves n initial old l.turn l.taken.items (attribute_rows l.attributes) c.index.result.now c.index_mut.result.now c.move_row-row.new.taken c.in_ok-namespace.namespace c.move_row-row.result (attribute_rows c.put.new.self)
          l.invariant.moving here c.index.ensures c.in_ok-namespace.ensures.found.within c.move_row-row.ensures (c.put.ensures.put c.if-not-put.false);
      resolving = λ ds h. resolves n (map namespace_view c.args.namespaces.now) ds initial old l.turn l.taken.items (attribute_rows l.attributes)
          c.index.result.now c.index_mut.result.now c.in_ok-namespace.namespace c.move_row-row.result (attribute_rows c.put.new.self)
          l.invariant.moving (l.invariant.resolving ds h) here c.index.ensures
          (λ before rest shown. c.in_ok-namespace.ensures.tested ds (drop (length old) (attribute_rows l.attributes)) before rest h behind shown)
          (c.in_ok-namespace.ensures.found.there ds h) c.index_mut.ensures.value c.move_row-row.ensures (c.put.ensures.put c.if-not-put.false);
    }

pub returns : goal.returns
returns c = λ ds h.
    let l = c.loop-turn in
    ends (length c.args.namespaces.now) (map namespace_view c.args.namespaces.now) ds c.args.taken.now.items (attribute_rows c.args.attributes.now) l.turn l.taken.items (attribute_rows l.attributes)
    l.invariant.moving (l.invariant.resolving ds h) (omega arith)

pub tested_namespace-requires : goal.tested_namespace-requires
tested_namespace-requires c = record {
  within = search rules;
  done =
      let l = c.loop-turn in
      let m = l.invariant.moving in
      all_behind (λ d. NamespaceWithin (length c.args.namespaces.now) d.namespace) l.attributes c.deref.result.now _ m.done l.seen.from c.deref.ensures.value m.table_is l.invariant.from m.within;
  seen =
      let l = c.loop-turn in
      all_column (λ d. HasNameOf l.seen.codes d) l.attributes c.deref.result.now l.seen.from c.deref.ensures.value l.invariant.seen;
}

pub returns-then-is_empty : goal.returns-then-is_empty
returns-then-is_empty c = λ ds _.
    let taken = c.args.taken.now in
    let n = length c.args.namespaces.now in
    let old = attribute_rows c.args.attributes.now in
    let none = eqb-true (vec_len taken) 0 (sym c.is_empty.ensures ∙ c.if-is_empty.true) in
    ends n (map namespace_view c.args.namespaces.now) ds taken.items old 0 taken.items old
    (starts n taken.items old) (resolves_first (map namespace_view c.args.namespaces.now) ds taken.items old) (omega (arith, none, taken.ok.0))
