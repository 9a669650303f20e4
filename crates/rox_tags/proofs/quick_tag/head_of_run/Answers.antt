use Rattle.std.proofs.Common.{arith}
use Rattle.std.proofs.lemmas.Str.{IsCharBoundary-after_ascii}
use Rattle.rox_bytes.proofs.RunLemmas.{stands_within}
use Rattle.rox_tags.proofs.quick_tag.head_of_run.Goals as goal

pub head_with_prefix-requires-clause-prefix : goal.head_with_prefix-requires-clause-prefix
head_with_prefix-requires-clause-prefix c =
    let src = c.args.text.now in
    let i = c.args.start in
    let here = c.requires.here.here in
    record {
      start = IsCharBoundary-after_ascii src i c.utf8.text (stands_within src i 60 here (omega arith)) (omega (arith, here));
      run = c.requires.run;
      letter = c.requires.letter;
      colon = rw c.as_bytes.ensures.value at c.if-stop-eq58.true;
    }
