use Rattle.std.proofs.Common.{◌≡◌, false, map, take}
use Rattle.std.specs.List.{list_any}
use Rattle.rox_scopes.specs.NamespaceViews.{namespace_view}
use Rattle.rox_rows.specs.StoredAttributes.{data_of}
use Rattle.rox_seen.specs.SeenNames.{has_expanded}
use Rattle.rox_names.proofs.resolve.is_among.Given as goal

abbrev pub invariant-loop-attribute : goal.invariant-loop-attribute
invariant-loop-attribute l = list_any (λ a. has_expanded (map namespace_view l.namespaces) l.namespace l.local (data_of a)) (take l.attribute-index l.done) ≡ false
