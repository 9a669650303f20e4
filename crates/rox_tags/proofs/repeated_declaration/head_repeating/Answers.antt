use Rattle.rox_tags.proofs.Repeating.{begins_repeating}
use Rattle.rox_tags.proofs.repeated_declaration.head_repeating.Goals as goal

pub returns : goal.returns
returns c =
    let below = c.requires.here.below in
    let one = c.in_ok-one.one in
    record {
      own = _;
      begins = begins_repeating c.args.elements.now c.args.parent.now c.args.text.now c.in_ok-name.name.end one c.in_ok-scope.scope below c.in_ok-scope.ensures c.in_ok-one.ensures;
      cut = c.in_ok-one.ensures.read.plain.cut;
      named = c.in_ok-name.ensures.name.value;
      other = c.in_ok-name.ensures.other;
      space = c.in_ok-namespace.ensures.is;
      known = c.in_ok-namespace.ensures.known;
      few = below.few;
      kept = below.kept;
    }
