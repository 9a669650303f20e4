use Rattle.std.proofs.Common.{subst}
use Rattle.roxmltree.specs.DocumentView.{DocumentView}
use Rattle.rox_path.specs.NodeMarks.{Laws}
use Rattle.rox_path.proofs.selection.laws.Goals as goal

pub returns : goal.returns
returns c =
    let laws : Laws c.document-document.result.now.tree = record {
      in_order = c.descendants_are_in_order.ensures;
      within = c.ids_are_places.ensures.within;
      below = c.descendants_are_below.ensures.leads;
      parents = c.parents_are_the_nearest_above.ensures.above;
    } in
    subst (λ (d : DocumentView). Laws d.tree) c.document-document.ensures laws
