-- What is true of every state that reading reaches: its names are valid, and it is within its limits.
use Rattle.std.specs.Prelude.{ℕ, ◌≤◌, [], length}
use Rattle.rox_grammar.specs.Forest.{Forest}
use Rattle.rox_grammar.specs.Written.{Item}
use Rattle.rox_grammar.specs.Tree.{listed}
use Rattle.rox_grammar.specs.WellNamed.{IsWellNamed, AreWellNamed}
use Rattle.rox_grammar.specs.Document.{most_attributes, most_pairs}
use Rattle.rox_grammar.specs.Counts.{distinct_pairs}
use Rattle.rox_grammar.specs.State.{Open, root, inside, scope_of, nodes_so_far, attributes_so_far, pairs_so_far}
use Rattle.rox_reading.specs.State.{State}

-- The names of all that is read so far are valid.
abbrev pub AreNamed : Open → Forest Item → Type 0
AreNamed root done = AreWellNamed [] done
AreNamed (inside start tag before up) done =
    AreNamed up before × IsWellNamed (listed (scope_of up) tag.declarations) tag × AreWellNamed (listed (scope_of up) tag.declarations) done

-- The limits allow the state, and its names are valid.
pub record IsValidState (limit : ℕ) (s : State) : Type 0 where
  pub nodes : nodes_so_far s.stack s.done ≤ limit
  pub attributes : attributes_so_far s.stack s.done ≤ most_attributes
  pub pairs : length (distinct_pairs (pairs_so_far s.stack s.done)) ≤ most_pairs
  pub named : AreNamed s.stack s.done

-- The state with these fields.
abbrev pub state : ℕ → Forest Item → Open → ℕ → State
state i done stack openings_left = record { at = i; done = done; stack = stack; openings_left = openings_left }
