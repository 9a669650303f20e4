use Rattle.std.proofs.Common.{refl}
use Rattle.rox_builder.proofs.Showing.{settled}
use Rattle.rox_builder.proofs.builder.Builder.settle.Goals as goal

pub returns : goal.returns
returns c = record {
  ok = λ end stack done sh. settled end stack done c.args.self.now _ sh c.requires refl refl refl refl;
  nodes = refl;
  kept = record { opened = refl; tables = refl; limit = refl; openings_left = refl };
  empty = refl;
}
