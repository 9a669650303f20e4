use Rattle.std.proofs.Common.{◌<◌, ◌≤◌, length, map, get_or, refl, arith}
use Rattle.rox_scopes.specs.NamespaceViews.{namespace_view}
use Rattle.rox_scopes.specs.Scopes.{prefix_view}
use Rattle.rox_scopes.specs.Hidden.{listed_by}
use Rattle.rox_scopes.proofs.Pairs.{place_at}
use Rattle.rox_scopes.proofs.Hiding.{once_others}
use Rattle.rox_scopes.proofs.HidingOwn.{hides_none, hides_more, hides_xml, hides_own, absent_bound}
use Rattle.rox_scopes.proofs.hidden.hide_own.Goals as goal

pub loop-turn-init : goal.loop-turn-init
loop-turn-init c = hides_none (map namespace_view c.args.tables.namespaces.now) c.args.tables.listed.now c.args.scopes.now.items c.args.scope c.args.own.from c.requires.scope.scopes c.requires.scope.within

pub bounds-tables-place : goal.bounds-tables-place
bounds-tables-place c = let lt : c.loop-turn.turn < length c.args.tables.listed.now = omega arith in place_at (length c.args.tables.namespaces.now) c.args.tables.listed.now c.loop-turn.turn 0 c.requires.scope.places lt

pub hide-requires : goal.hide-requires
hide-requires c = grind (arith, once_others, absent_bound)

pub loop-turn-preserved : goal.loop-turn-preserved
loop-turn-preserved c =
    let rows = c.args.tables.namespaces.now in
    let place = get_or c.args.tables.listed.now c.loop-turn.turn 0 in
    let p = prefix_view (get_or rows place c.index-tables-place.result).name in
    let ds = listed_by c.args.tables c.args.scopes.now.items c.args.scope in
    hides_more rows c.args.tables.listed.now c.args.scopes.now.items c.loop-turn.scopes.items c.hide.new.scopes.items c.args.own.from c.loop-turn.turn place c.loop-turn.left c.in_ok-left.left c.index-tables-place.result p ds
    (omega arith) (omega arith) c.requires.scope.places refl refl c.loop-turn.invariant c.in_ok-left.ensures

pub hide-requires-then-own : goal.hide-requires-then-own
hide-requires-then-own c = grind (arith, once_others, absent_bound)

pub returns-in_ok-left-2 : goal.returns-in_ok-left-2
returns-in_ok-left-2 c =
    let namespaces = map namespace_view c.args.tables.namespaces.now in
    let ds = listed_by c.args.tables c.args.scopes.now.items c.args.scope in
    hides_xml namespaces c.args.tables.listed.now c.args.scopes.now.items c.loop-turn.scopes.items c.hide-then-own.new.scopes.items c.args.own.from c.loop-turn.turn c.loop-turn.left c.in_ok-left-2.left c.args.own.xml ds
    (omega arith) c.if-own.true c.loop-turn.invariant c.in_ok-left-2.ensures

pub returns-else-own : goal.returns-else-own
returns-else-own c =
    let namespaces = map namespace_view c.args.tables.namespaces.now in
    let ds = listed_by c.args.tables c.args.scopes.now.items c.args.scope in
    let all : length c.args.tables.listed.now ≤ c.loop-turn.turn = omega arith in
    hides_own namespaces c.args.tables.listed.now c.args.scopes.now.items c.loop-turn.scopes.items c.args.own.from c.loop-turn.turn c.loop-turn.left c.args.own.xml ds all c.if-own.false c.loop-turn.invariant
