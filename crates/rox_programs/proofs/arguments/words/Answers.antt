use Rattle.std.proofs.Common.{ap, Some}
use Rattle.std.specs.Vec.Iter.{into_iter_items}
use Rattle.std.proofs.lemmas.Iterator.{items_from_collect}
use Rattle.std.proofs.lemmas.Iterator.Adapters.{YieldsList-from_skip, YieldsList-from_vec}
use Rattle.rox_programs.proofs.arguments.words.Goals as goal

pub returns-in_ok-collect-in-Ok-clause-words : goal.returns-in_ok-collect-in-Ok-clause-words
returns-in_ok-collect-in-Ok-clause-words c =
    let given = c.in-Ok.arguments in
    let source = YieldsList-from_vec (into_iter_items given) (ap into_iter_items c.skip.ensures.source) (rw c.skip.ensures.source given.rest.ok.0) in
    let items = items_from_collect c.collect.result c.collect.ensures.ran (YieldsList-from_skip 1 source c.skip.ensures.count) in
    rw c.in-Ok.is (ap Some (rw c.in_ok-collect-in-Ok.was at items))
