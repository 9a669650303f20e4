use Rattle.std.proofs.Common.{arith, refl}
use Rattle.rox_content.proofs.PlainElements.{may_open_at, may_read_head}
use Rattle.rox_sections.proofs.PlainReads.{reads_kept, reads_not}
use Rattle.rox_content.proofs.quick_elements.element_repeating.Goals as goal

pub head_repeating-requires : goal.head_repeating-requires
head_repeating-requires c = grind (arith, may_open_at)

pub element_of_head-requires : goal.element_of_head-requires
element_of_head-requires c = may_read_head _ _ _ c.args.builder.now _ c.index-parent.result.now _ c.requires.here c.requires.start c.requires.room (c.has_room_to_open.ensures c.if-not-has_room_to_open.false) (omega arith) (omega arith) c.index-parent.ensures c.in-Some.ensures (record { nodes = refl; opened = refl; pending = refl; joined = refl; limit = refl; openings_left = refl }) refl refl

pub returns : goal.returns
returns c = reads_kept _ _ _ _ c.args.builder.now _ _ (record { nodes = refl; opened = refl; pending = refl; joined = refl; limit = refl; openings_left = refl; others = refl; attributes = refl }) c.element_of_head.ensures

pub returns-then-len-le-SCOPES_OF_ROOT : goal.returns-then-len-le-SCOPES_OF_ROOT
returns-then-len-le-SCOPES_OF_ROOT c = reads_not _ _ _ _ _ _ (omega arith) (record { nodes = refl; opened = refl; pending = refl; joined = refl; limit = refl; openings_left = refl; others = refl; attributes = refl }) c.requires.room.fine

pub returns-then-depth-eq0 : goal.returns-then-depth-eq0
returns-then-depth-eq0 c = reads_not _ _ _ _ _ _ (omega arith) (record { nodes = refl; opened = refl; pending = refl; joined = refl; limit = refl; openings_left = refl; others = refl; attributes = refl }) c.requires.room.fine

pub returns-in_default : goal.returns-in_default
returns-in_default c = reads_not _ _ _ _ _ _ (omega arith) (record { nodes = refl; opened = refl; pending = refl; joined = refl; limit = refl; openings_left = refl; others = refl; attributes = refl }) c.requires.room.fine
