use Rattle.std.proofs.Common.{sym, ◌∙◌, arith}
use Rattle.rox_names.proofs.NameTests.{empty_is}
use Rattle.rox_names.proofs.SpelledNames.{name_apart}
use Rattle.rox_tags.proofs.WholeTags.{begins_plain}
use Rattle.rox_tags.proofs.quick_tag.head_with_prefix.Goals as goal

pub namespace_below-requires : goal.namespace_below-requires
namespace_below-requires c = grind (arith, name_apart, empty_is)

pub returns : goal.returns
returns c =
    let below = c.requires.here.below in
    record {
      own = _;
      begins = begins_plain c.args.elements.now c.args.parent.now c.args.text.now c.in_ok-name.name.end below;
      cut = c.in_ok-name.ensures.cut;
      named = rw c.after_byte.ensures.place at c.in_ok-name.ensures.value;
      other = sym c.same_text.ensures ∙ c.if-same_text.false;
      space = c.in_ok-namespace.ensures.is;
      known = c.in_ok-namespace.ensures.known;
      few = below.few;
      kept = below.kept;
    }
