use Rattle.std.proofs.Common.{false, map, slice_range}
use Rattle.rox_scopes.specs.NamespaceViews.{namespace_view}
use Rattle.rox_scopes.specs.Scopes.{entries, others}
use Rattle.rox_scopes.specs.Hidden.{listed_by, AddsRows}
use Rattle.rox_scopes.proofs.hidden.hide_own.Given as goal

abbrev pub invariant-loop-turn : goal.invariant-loop-turn
invariant-loop-turn l = AddsRows l.fn.tables l.fn.scopes.items l.scopes.items l.left
    (others (entries (map namespace_view l.fn.tables.namespaces.now) (slice_range l.fn.tables.listed.now l.own.from l.turn)) false (listed_by l.fn.tables l.fn.scopes.items l.scope))
