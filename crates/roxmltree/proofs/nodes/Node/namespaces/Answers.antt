use Rattle.std.proofs.Common.{ap, sym, ◌∙◌}
use Rattle.roxmltree.proofs.Parts.{row_listed, row_no_listed, element_within}
use Rattle.rox_rows.specs.StoredNodes.{kind_of}
use Rattle.rox_rows.proofs.StoredNodes.{lent_element}
use Rattle.roxmltree.proofs.NodeRows.{row_here}
use Rattle.roxmltree.proofs.nodes.Node.namespaces.Goals as goal

pub all_of_scope-requires : goal.all_of_scope-requires
all_of_scope-requires c =
    let n = c.args.self.now in
    record {
      within = rw c.as_slice-scopes.ensures.value ((element_within n.tables.now n.document.now.tree _ _ _ n.placed.holds n.in_tree (row_here n) (sym c.kind.ensures ∙ ap kind_of c.in-Element.is)).2);
      scopes = rw (c.as_slice-scopes.ensures.value, c.as_slice-listed.ensures.value) n.placed.holds.sound.scopes;
      places = rw (c.as_slice-listed.ensures.value, c.as_slice-namespaces.ensures.value) n.placed.holds.sound.listed;
    }

pub returns-clause-value : goal.returns-clause-value
returns-clause-value c =
    let n = c.args.self.now in
    rw (c.all_of_scope.ensures.value, c.as_slice-scopes.ensures.value, c.as_slice-listed.ensures.value, c.as_slice-namespaces.ensures.value) (row_listed n.tables.now n.document.now.tree _ _ _ n.placed.holds n.in_tree (row_here n) (sym c.kind.ensures ∙ ap kind_of c.in-Element.is))

pub returns-in_default-clause-value : goal.returns-in_default-clause-value
returns-in_default-clause-value c =
    let n = c.args.self.now in
    rw c.no_namespaces.ensures (row_no_listed n.tables.now n.document.now.tree _ _ n.placed.holds n.in_tree (row_here n) (λ e h. c.in_default.not-Element e (lent_element _ e (c.kind.ensures ∙ h))))
