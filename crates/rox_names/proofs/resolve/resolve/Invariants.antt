use Rattle.std.proofs.Common.{◌≡◌, List, length, map}
use Rattle.rox_grammar.specs.Written.{NamespaceDecl}
use Rattle.rox_rows.specs.Rows.{attribute_rows}
use Rattle.rox_scopes.specs.NamespaceViews.{namespace_view}
use Rattle.rox_scopes.specs.Bindings.{FindsBinding, places_view}
use Rattle.rox_seen.specs.SeenNames.{HaveCodes}
use Rattle.rox_names.proofs.Resolving.{Moving, Resolving}
use Rattle.rox_names.proofs.resolve.resolve.Given as goal

abbrev pub invariant-loop-turn : goal.invariant-loop-turn
invariant-loop-turn l = record {
  from : l.seen.from ≡ length (attribute_rows l.fn.attributes);
  seen : HaveCodes l.seen (attribute_rows l.attributes);
  moving : Moving (length l.namespaces) l.fn.taken.items (attribute_rows l.fn.attributes) l.turn l.taken.items (attribute_rows l.attributes);
  resolving : (ds : List NamespaceDecl) → FindsBinding (map namespace_view l.namespaces) (places_view l.few) l.present ds → Resolving (map namespace_view l.namespaces) ds l.fn.taken.items (attribute_rows l.fn.attributes) l.turn (attribute_rows l.attributes);
}
