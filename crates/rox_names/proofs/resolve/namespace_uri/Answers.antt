use Rattle.std.proofs.Common.{◌<◌, Some, length, map, sym, ap, ◌∙◌, subst}
use Rattle.rox_grammar.specs.Written.{NamespaceDecl}
use Rattle.rox_rows.specs.declared.row.AttributeNamespace.{AttributeNamespace}
use Rattle.rox_rows.specs.Rows.{attribute_uri, NamespaceWithin}
use Rattle.rox_scopes.specs.NamespaceViews.{namespace_view}
use Rattle.rox_scopes.specs.declared.namespace.Namespace.{Namespace}
use Rattle.rox_scopes.proofs.Pairs.{namespace_at-get}
use Rattle.rox_names.proofs.resolve.namespace_uri.Goals as goal

pub returns-in-Listed : goal.returns-in-Listed
returns-in-Listed c =
    let rows = c.args.namespaces.now in
    let place = c.in-Listed.place in
    let lt : place < length rows = subst (λ (s : AttributeNamespace). NamespaceWithin (length rows) s) c.in-Listed.is c.requires in
    ap Some (c.uri.ensures ∙ ap (λ (n : Namespace). (namespace_view n).uri) c.index-namespaces-place.is ∙ ap (λ (d : NamespaceDecl). d.uri) (sym (namespace_at-get rows place c.index-namespaces-place.result lt)))
    ∙ ap (attribute_uri (map namespace_view rows)) (sym c.in-Listed.is)
