use Rattle.std.specs.Prelude.{is_ok}
use Rattle.rox_values.proofs.ListedLemmas.{listed_more}
use Rattle.rox_values.proofs.entities.Entities.list.Goals as goal

pub invariant_of-self-then-count-lt-MOST_LISTED : goal.invariant_of-self-then-count-lt-MOST_LISTED
invariant_of-self-then-count-lt-MOST_LISTED c = record {
  held = rw c.push.ensures.items (listed_more (is_ok c.push.result) c.args.self.now.texts c.args.self.now.listed.items _ c.args.self.now.held c.requires);
}
