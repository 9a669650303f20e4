use Rattle.std.proofs.Common.{List, length, map, drop}
use Rattle.rox_grammar.specs.Written.{NamespaceDecl}
use Rattle.rox_rows.specs.Rows.{attribute_rows, AttributeRow}
use Rattle.rox_scopes.specs.NamespaceViews.{namespace_view}
use Rattle.rox_scopes.specs.Bindings.{FindsBinding, places_view}
use Rattle.rox_names.specs.ExpandedNames.{HasExpandedNames}
use Rattle.rox_names.proofs.Resolving.{Moving, Resolving}
use Rattle.rox_names.proofs.resolve.resolve_many.Given as goal

abbrev pub invariant-loop-turn : goal.invariant-loop-turn
invariant-loop-turn l = record {
  moving : Moving (length l.namespaces) l.fn.taken.items (attribute_rows l.fn.attributes) l.turn l.taken.items (attribute_rows l.attributes);
  resolving : (ds : List NamespaceDecl) → FindsBinding (map namespace_view l.namespaces) (places_view l.few) l.present ds → Resolving (map namespace_view l.namespaces) ds l.fn.taken.items (attribute_rows l.fn.attributes) l.turn (attribute_rows l.attributes);
  sees : HasExpandedNames (map namespace_view l.namespaces) l.seen.keys (map (λ (r : AttributeRow). r.0) (drop (length (attribute_rows l.fn.attributes)) (attribute_rows l.attributes)));
}
