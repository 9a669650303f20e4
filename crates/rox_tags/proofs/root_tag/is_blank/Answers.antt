use Rattle.std.proofs.Common.{length, ap, arith}
use Rattle.rox_tags.proofs.RootTags.{blank}
use Rattle.rox_tags.proofs.root_tag.is_blank.Goals as goal

pub returns : goal.returns
returns c = λ one.
    let t = c.args.elements.now in
    blank t (omega (arith, ap length c.as_slice.ensures.value)) (omega (arith, t.listed.ok.0)) (omega (arith, t.scopes.ok.0)) (c.is_of_none.ensures one)
