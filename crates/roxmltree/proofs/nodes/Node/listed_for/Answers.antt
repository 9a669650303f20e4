use Rattle.std.proofs.Common.{◌≡◌, length, ap, sym, ◌∙◌, List, eqb-true}
use Rattle.rox_grammar.specs.Written.{NamespaceDecl}
use Rattle.rox_scopes.specs.Scopes.{prefix_view}
use Rattle.rox_lists.specs.ExpandedNames.{first_with_prefix}
use Rattle.roxmltree.proofs.Parts.{row_listed, row_no_listed, row_lists_nothing, element_within}
use Rattle.rox_rows.specs.StoredNodes.{kind_of}
use Rattle.rox_rows.proofs.StoredNodes.{lent_element}
use Rattle.roxmltree.proofs.NodeRows.{row_here}
use Rattle.roxmltree.proofs.nodes.Node.listed_for.Goals as goal

pub first_in_scope-requires : goal.first_in_scope-requires
first_in_scope-requires c =
    let n = c.args.self.now in
    record {
      within = rw c.as_slice-scopes.ensures.value ((element_within n.tables.now n.document.now.tree _ _ _ n.placed.holds n.in_tree (row_here n) (sym c.kind-node_kind.ensures ∙ ap kind_of c.in-Element.is)).2);
      scopes = rw (c.as_slice-scopes.ensures.value, c.as_slice-listed.ensures.value) n.placed.holds.sound.scopes;
      places = rw (c.as_slice-listed.ensures.value, c.as_slice-namespaces.ensures.value) n.placed.holds.sound.listed;
    }

pub returns : goal.returns
returns c =
    let n = c.args.self.now in
    rw (c.first_in_scope.ensures, c.as_slice-scopes.ensures.value, c.as_slice-listed.ensures.value, c.as_slice-namespaces.ensures.value)
    (ap (λ (ds : List NamespaceDecl). first_with_prefix (prefix_view c.args.prefix) ds) (row_listed n.tables.now n.document.now.tree _ _ _ n.placed.holds n.in_tree (row_here n) (sym c.kind-node_kind.ensures ∙ ap kind_of c.in-Element.is)))

pub returns-in_default : goal.returns-in_default
returns-in_default c =
    let n = c.args.self.now in
    ap (λ (ds : List NamespaceDecl). first_with_prefix (prefix_view c.args.prefix) ds) (row_no_listed n.tables.now n.document.now.tree _ _ n.placed.holds n.in_tree (row_here n) (λ e h. c.in_default.not-Element e (lent_element _ e (c.kind-node_kind.ensures ∙ h))))

pub returns-then-is_empty : goal.returns-then-is_empty
returns-then-is_empty c =
    let n = c.args.self.now in
    let none : length n.tables.now.namespaces.items ≡ 0 = ap length (sym c.as_slice-namespaces.ensures.value) ∙ eqb-true _ _ (sym c.is_empty.ensures ∙ c.if-is_empty.true) in
    ap (λ (ds : List NamespaceDecl). first_with_prefix (prefix_view c.args.prefix) ds) (row_lists_nothing n.tables.now n.document.now.tree _ _ n.placed.holds n.in_tree (row_here n) none)
