-- The result of a reading that asks for external entities, whatever replies follow those that it takes.
use Rattle.std.specs.Prelude.{◌≡◌, ℕ, List, ◌++◌, Ok}
use Rattle.rox_grammar.specs.Doctype.{Asked}
use Rattle.rox_reading.specs.Refusals.{Refusal, here, there, refused}
use Rattle.rox_reading.specs.Doctype.{Reply, Asks, Dtd, replies_of, subset}

-- The state `d` with these replies left.
abbrev pub left_with : List Reply → Dtd → Dtd
left_with replies d = record { state = d.state; entities = d.entities; replies = replies }

-- The result `r` of a reading after these requests were made.
abbrev pub having_asked : {A : Type 0} → List Asked → Asks A → Asks A
having_asked asked r = (asked ++ r.0, r.1)

-- The reading makes these requests and gives `d`. The replies after those to the requests are left.
abbrev pub Answered : (run : List Reply → Asks Dtd) → List Asked → Dtd → Type 0
Answered run asked d = (more : List Reply) → run (replies_of asked ++ more) ≡ (asked, Ok (left_with more d))

-- The reading makes these requests and gives `x`, which has no replies.
abbrev pub Yields : {A : Type 0} → (run : List Reply → Asks A) → List Asked → A → Type 0
Yields run asked x = (more : List Reply) → run (replies_of asked ++ more) ≡ (asked, Ok x)

-- The refusal says what is wrong with the text: it is not the resolver's own.
abbrev pub IsTextRefusal : Refusal → Type 0
IsTextRefusal (here f) = Unit {0}
IsTextRefusal (there source f) = Unit {0}
IsTextRefusal (refused request at message) = ⊥

-- The items of the declaration that starts at `i`: these requests are made, and then at most `n` more items are read, from the
-- state `d` on.
abbrev pub Continues : (run : List Reply → Asks Dtd) → List Asked → (limit i n : ℕ) → List ℕ → Dtd → Type 0
Continues run asked limit i n src d = (more : List Reply) → run (replies_of asked ++ more) ≡ having_asked asked (subset limit i n src (left_with more d))
