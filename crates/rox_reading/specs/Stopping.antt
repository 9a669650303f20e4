-- Where a reading that asks for external entities stops, whatever replies follow those that it takes.
use Rattle.std.specs.Prelude.{◌≡◌, List, ◌∷◌, ◌++◌, Err}
use Rattle.rox_grammar.specs.Doctype.{Asked}
use Rattle.rox_reading.specs.Refusals.{Refusal, here, there, refused}
use Rattle.rox_reading.specs.Doctype.{Reply, Asks, replies_of}

-- The replies after the answers, if the reading stops with this refusal. If the resolver refused, its message is the first of
-- them.
abbrev pub with_refusal : Refusal → List Reply → List Reply
with_refusal (here f) more = more
with_refusal (there source f) more = more
with_refusal (refused request at message) more = Err message ∷ more

-- The reading makes these requests, and then stops with this refusal.
abbrev pub Stops : {A : Type 0} → (run : List Reply → Asks A) → List Asked → Refusal → Type 0
Stops run asked e = (more : List Reply) → run (replies_of asked ++ with_refusal e more) ≡ (asked, Err e)
