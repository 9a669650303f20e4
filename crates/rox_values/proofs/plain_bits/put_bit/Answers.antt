use Rattle.rox_values.proofs.plain_bits.put_bit.Goals as goal

pub returns-then-matches-clause-stops : goal.returns-then-matches-clause-stops
returns-then-matches-clause-stops c = c.put_space.ensures.stops c.args.main
