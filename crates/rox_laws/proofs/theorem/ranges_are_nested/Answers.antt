use Rattle.std.proofs.Common.{length}
use Rattle.rox_laws.proofs.Nested.{ranges_nested}
use Rattle.rox_laws.proofs.RangeSteps.{range_in_parent, range_before_next}
use Rattle.roxmltree.proofs.Plain.{plain_document}
use Rattle.rox_laws.proofs.theorem.ranges_are_nested.Goals as goal

pub returns-clause-nested : goal.returns-clause-nested
returns-clause-nested c none = ranges_nested _ _ _ (plain_document c.args.document.now c.document_is_whole.ensures.utf8 none c.document_is_whole.ensures.parsed)

pub returns-clause-in_parent : goal.returns-clause-in_parent
returns-clause-in_parent c none i q =
    let d = c.args.document.now in range_in_parent d.tree (length d.text) i q (ranges_nested _ _ _ (plain_document c.args.document.now c.document_is_whole.ensures.utf8 none c.document_is_whole.ensures.parsed))

pub returns-clause-before_next : goal.returns-clause-before_next
returns-clause-before_next c none i j =
    let d = c.args.document.now in range_before_next d.tree (length d.text) i j (ranges_nested _ _ _ (plain_document c.args.document.now c.document_is_whole.ensures.utf8 none c.document_is_whole.ensures.parsed))
