use Rattle.std.proofs.Common.{arith, refl}
use Rattle.rox_content.proofs.TakenBack.{fine_same}
use Rattle.rox_content.proofs.PlainElements.{IsTried, tried_may_put, tried_reads, tried_back}
use Rattle.rox_sections.proofs.PlainReads.{reads_not}
use Rattle.rox_content.proofs.quick_elements.element_of_head.Goals as goal
use Rattle.rox_content.proofs.quick_elements.element_of_head.Goals.{After-start_tag}

tried : (c : After-start_tag) → IsTried c.args.context.now c.args.text.now c.args.start c.args.builder.now c.args.head c.start_tag.new.elements c.len-from.result c.start_tag.result
tried c = record {
  utf8 = c.utf8.text;
  may = c.requires;
  held_all = c.len-from.ensures;
  tag = c.start_tag.ensures c.requires.parent.scope c.requires.head;
}

pub start_tag-requires : goal.start_tag-requires
start_tag-requires c = record {
  here = c.requires.here;
  attributes = record { cut = c.requires.head.cut; short = c.requires.room.short; begins = c.requires.head.begins.scope };
}

pub put_element-requires : goal.put_element-requires
put_element-requires c = tried_may_put _ _ c.in-Some.read (tried (goal.at.put_element-requires c).After-start_tag) c.in-Some.is refl (record { nodes = refl; opened = refl; pending = refl; joined = refl; limit = refl; openings_left = refl }) refl c.parent-parent.ensures

pub returns : goal.returns
returns c = tried_reads _ _ _ c.in-Some.read (tried (goal.at.returns c).After-start_tag) c.in-Some.is refl (record { nodes = refl; opened = refl; pending = refl; joined = refl; limit = refl; openings_left = refl }) c.put_element.ensures

pub returns-in_default : goal.returns-in_default
returns-in_default c =
    let same = tried_back (tried (goal.at.returns-in_default c).After-start_tag) (record c.start_tag.new.elements { attributes = c.truncate.new.self }) refl c.truncate.ensures in
    reads_not _ _ _ _ _ _ (omega arith) (record { nodes = refl; opened = refl; pending = refl; joined = refl; limit = refl; openings_left = refl; others = same.others; attributes = same.attributes })
    (fine_same _ _ _ same c.requires.room.fine)
