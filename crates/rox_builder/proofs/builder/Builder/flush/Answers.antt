use Rattle.std.proofs.Common.{ap, refl, arith}
use Rattle.rox_builder.specs.PendingText.{waiting}
use Rattle.rox_builder.proofs.Showing.{settled_none}
use Rattle.rox_builder.proofs.builder.Builder.flush.Goals as goal

pub returns-in-None : goal.returns-in-None
returns-in-None c = record {
  ok = λ end stack done sh. settled_none end stack done c.args.self.now _ sh c.in-None.is refl refl refl c.in-None.is;
  empty = ap waiting c.in-None.is;
  count = omega (arith, ap waiting c.in-None.is);
  kept = record { opened = refl; tables = refl; limit = refl; openings_left = refl };
}
