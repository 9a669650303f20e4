use Rattle.std.proofs.Common.{rules}
use Rattle.rox_grammar.specs.Positions.{row_of, col_of}
use Rattle.rox_error.proofs.CountLemmas.{characters_are_firsts}
use Rattle.rox_error.proofs.position.text_pos_at.Goals as goal

pub returns-clause-row : goal.returns-clause-row
unfolding row_of
returns-clause-row c = search rules

pub returns-clause-col : goal.returns-clause-col
unfolding col_of
returns-clause-col c = search (rules, characters_are_firsts)
