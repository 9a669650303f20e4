use Rattle.std.proofs.Common.{arith}
use Rattle.std.proofs.lemmas.Str.{IsCharBoundary-after_ascii}
use Rattle.rox_bytes.proofs.RunLemmas.{stands_within}
use Rattle.rox_names.proofs.SpelledNames.{name_apart}
use Rattle.rox_tags.proofs.WholeTags.{begins_plain}
use Rattle.rox_tags.proofs.quick_tag.head_in_scope.Goals as goal

pub tag_namespace-requires : goal.tag_namespace-requires
tag_namespace-requires c = grind (arith, name_apart, IsCharBoundary-after_ascii, stands_within)

pub returns : goal.returns
returns c =
    let below = c.requires.here.below in
    record {
      own = _;
      begins = begins_plain c.args.elements.now c.args.parent.now c.args.text.now c.in_ok-name.name.end below;
      cut = c.in_ok-name.ensures.name.cut;
      named = c.in_ok-name.ensures.name.value;
      other = c.in_ok-name.ensures.other;
      space = c.in_ok-namespace.ensures.is;
      known = c.in_ok-namespace.ensures.known;
      few = below.few;
      kept = below.kept;
    }
