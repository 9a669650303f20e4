use Rattle.std.proofs.Common.{rules, refl, arith}
use Rattle.rox_tags.proofs.own_declaration.declared.Goals as goal

pub returns-in-Ok-true : goal.returns-in-Ok-true
returns-in-Ok-true c =
    let read = c.in_ok-one.ensures.read in
    record {
      others = search rules;
      lists = record {
        one = c.in_ok-one.one;
        plain = read.plain;
        is = read.is;
        end = refl;
        listed = grind arith;
      };
      kept = c.in_ok-one.ensures.kept;
    }
