-- The parts of a whole run, and those before a reference to an entity.
use Rattle.std.specs.Prelude.{ℕ, Bool, false, List}
use Rattle.rox_grammar.specs.Forest.{Forest}
use Rattle.rox_grammar.specs.Written.{Item}
use Rattle.rox_grammar.specs.Names.{slice}
use Rattle.rox_grammar.specs.Content.{Inclusion, is_verbatim}
use Rattle.rox_grammar.specs.Content as content

-- The items of the whole run from `start` up to `stop`, read from `i` on.
abbrev pub Parts : Bool → Inclusion → List ℕ → (start stop i b c : ℕ) → Forest Item → Type 0
Parts main Includes src start stop i b c items = content.Parts main Includes src (is_verbatim (slice src start stop)) start stop stop i b c items

-- The items of the run from `i` up to `p`, where a reference to an entity may follow.
abbrev pub PartsTo : Bool → Inclusion → List ℕ → (start stop i p b c : ℕ) → Forest Item → Type 0
PartsTo main Includes src start stop i p b c front = content.Parts main Includes src false start stop p i b c front
