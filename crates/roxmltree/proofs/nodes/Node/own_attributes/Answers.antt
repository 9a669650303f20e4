use Rattle.std.proofs.Common.{ap, sym, ◌∙◌}
use Rattle.roxmltree.proofs.Parts.{row_attributes, row_no_attributes, element_within}
use Rattle.rox_rows.specs.StoredNodes.{kind_of}
use Rattle.rox_rows.proofs.StoredNodes.{lent_element}
use Rattle.roxmltree.proofs.NodeRows.{row_here}
use Rattle.roxmltree.proofs.nodes.Node.own_attributes.Goals as goal

pub attributes_at-requires-in-Element : goal.attributes_at-requires-in-Element
attributes_at-requires-in-Element c =
    let n = c.args.self.now in
    record {
      ordered = (element_within n.tables.now n.document.now.tree _ _ _ n.placed.holds n.in_tree (row_here n) (sym c.kind.ensures ∙ ap kind_of c.in-Element.is)).0;
      within = (element_within n.tables.now n.document.now.tree _ _ _ n.placed.holds n.in_tree (row_here n) (sym c.kind.ensures ∙ ap kind_of c.in-Element.is)).1;
      each = n.placed.holds.sound.attributes;
    }

pub returns-in-Element : goal.returns-in-Element
returns-in-Element c =
    let n = c.args.self.now in
    rw c.attributes_at-in-Element.ensures (row_attributes n.tables.now n.document.now.tree _ _ _ n.placed.holds n.in_tree (row_here n) (sym c.kind.ensures ∙ ap kind_of c.in-Element.is))

pub returns-in_default : goal.returns-in_default
returns-in_default c =
    let n = c.args.self.now in
    rw c.attributes_at-in_default.ensures (row_no_attributes n.tables.now n.document.now.tree _ _ n.placed.holds n.in_tree (row_here n) (λ e h. c.in_default.not-Element e (lent_element _ e (c.kind.ensures ∙ h))))
