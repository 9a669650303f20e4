use Rattle.std.proofs.Common.{arith, refl}
use Rattle.rox_content.proofs.PlainElements.{may_open_at}
use Rattle.rox_sections.proofs.PlainReads.{reads_kept}
use Rattle.rox_content.proofs.quick_elements.element_in_scope.Goals as goal

pub head_in_scope-requires : goal.head_in_scope-requires
head_in_scope-requires c = grind (arith, may_open_at)

pub returns-in_default : goal.returns-in_default
returns-in_default c = reads_kept _ _ _ _ c.args.builder.now _ _ (record { nodes = refl; opened = refl; pending = refl; joined = refl; limit = refl; openings_left = refl; others = refl; attributes = refl }) c.element_repeating.ensures

pub returns-then-end-le-MOST_BYTES : goal.returns-then-end-le-MOST_BYTES
returns-then-end-le-MOST_BYTES c = reads_kept _ _ _ _ c.args.builder.now _ _ (record { nodes = refl; opened = refl; pending = refl; joined = refl; limit = refl; openings_left = refl; others = refl; attributes = refl }) c.element_of_head-end.ensures

pub returns : goal.returns
returns c = reads_kept _ _ _ _ c.args.builder.now _ _ (record { nodes = refl; opened = refl; pending = refl; joined = refl; limit = refl; openings_left = refl; others = refl; attributes = refl })
    (reads_kept _ _ _ _ _ _ _ (c.element_of_head-end.ensures.other (omega arith)) c.element_repeating-2.ensures)
