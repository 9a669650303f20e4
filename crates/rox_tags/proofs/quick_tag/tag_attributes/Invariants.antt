use Rattle.std.proofs.Common.{◌≡◌, ◌-◌, length, IsCharBoundary}
use Rattle.rox_rows.specs.Rows.{attribute_rows}
use Rattle.rox_seen.specs.SeenNames.{AreSeen}
use Rattle.rox_values.specs.DeclaredEntities.{AreMainValues}
use Rattle.rox_tags.specs.TagAttributes.{HoldsSoFar}
use Rattle.rox_tags.proofs.quick_tag.tag_attributes.Given as goal

abbrev pub invariant-loop-at : goal.invariant-loop-at
invariant-loop-at l = record {
  from : l.seen.from ≡ length (attribute_rows l.fn.elements.attributes);
  seen : AreSeen l.seen (attribute_rows l.elements.attributes);
  cut : IsCharBoundary l.text l.at;
  holds : HoldsSoFar (AreMainValues l.tag.context.now) l.tag.declares l.tag.scope l.fn.elements l.elements l.text l.start l.at;
}

abbrev pub decreases-loop-at : goal.decreases-loop-at
decreases-loop-at l = length l.text - l.at
