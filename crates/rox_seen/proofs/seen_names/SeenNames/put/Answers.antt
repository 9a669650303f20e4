use Rattle.std.proofs.Common.{rules, arith}
use Rattle.rox_seen.proofs.SeenCodes.{is_there, not_there, only_there, put_there, stays_there}
use Rattle.rox_seen.proofs.seen_names.SeenNames.put.Goals as goal

pub returns : goal.returns
returns c = record {
  fresh = λ no has.
      not_there c.args.self.now.codes c.name_code-code.result no (rw c.name_code-code.ensures.is has);
  again = λ yes.
      rw c.name_code-code.ensures.is at (is_there c.args.self.now.codes c.name_code-code.result yes);
  only = λ code has apart.
      only_there c.args.self.now.codes c.name_code-code.result (omega arith) code has (rw (← c.name_code-code.ensures.is) at apart);
  others = search rules;
  sees = record {
    from = search;
    kept = λ code has. stays_there c.args.self.now.codes c.name_code-code.result (omega arith) code has;
    put = rw (← c.name_code-code.ensures.is) (put_there c.args.self.now.codes c.name_code-code.result (omega arith));
  };
}
