use Rattle.std.proofs.Common.{ap, ◌∙◌, Some, option_map}
use Rattle.rox_grammar.specs.Written.{NamespaceDecl}
use Rattle.rox_scopes.specs.Scopes.{prefix_view}
use Rattle.rox_lists.proofs.ListedFirst.{uri_of_first}
use Rattle.roxmltree.specs.NodeParts.{listed_of}
use Rattle.roxmltree.specs.NodeRef.{item_of}
use Rattle.roxmltree.proofs.nodes.Node.lookup_namespace_uri.Goals as goal

pub returns-in-Some : goal.returns-in-Some
returns-in-Some c =
    ap Some c.uri.ensures ∙ ap (option_map (λ (d : NamespaceDecl). d.uri)) c.in-Some.ensures ∙ uri_of_first (listed_of (item_of c.args.self.now)) (prefix_view c.args.prefix)

pub returns-in-None : goal.returns-in-None
returns-in-None c = ap (option_map (λ (d : NamespaceDecl). d.uri)) c.in-None.ensures ∙ uri_of_first (listed_of (item_of c.args.self.now)) (prefix_view c.args.prefix)
