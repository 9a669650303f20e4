-- The answers of a resolver, call by call.
use Rattle.std.specs.Prelude.{ℕ, ◌-◌, Bool, false, List, Option, Some, None, Result, Ok, Err, ◌==◌, length, string_bytes, slice_get}
use Rattle.std.specs.Option.{option_or}
use Rattle.rox_dump.specs.declared.answers.Answer.{Answer}
use Rattle.rox_dump.specs.declared.answers.Answer.TheVariants as answer
use Rattle.rox_dump.specs.declared.answers.Answers.{Answers}
use Rattle.rox_dump.specs.declared.answers.Answers.TheVariants as answers

-- Whether there is no resolver: there are no answers.
abbrev pub is_none : Answers → Bool
is_none (answers.InOrder each) = length each.now == 0
is_none (answers.Each text) = false

-- The reply of an answer: a text, no text, or a refusal with its words.
abbrev pub reply_of : Option Answer → Result (Option (List ℕ)) (List ℕ)
reply_of None = Ok None
reply_of (Some (answer.Text text)) = Ok (Some (string_bytes text))
reply_of (Some answer.Nothing) = Ok None
reply_of (Some (answer.Refusal words)) = Err (string_bytes words)

-- The answer to a call, where 0 is the first call. After the last answer, that answer repeats.
abbrev pub reply_at : Answers → ℕ → Result (Option (List ℕ)) (List ℕ)
reply_at (answers.InOrder each) call = reply_of (option_or (slice_get each.now call) (slice_get each.now (length each.now - 1)))
reply_at (answers.Each text) call = Ok (Some text.now)
