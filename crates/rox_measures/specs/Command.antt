use Rattle.std.specs.Prelude.{ℕ, ◌≡◌, ◌<◌, ◌^◌, List, [], ◌∷◌, Option, Some, None, string_bytes, if◌then◌else◌, MatchOption}
use Rattle.std.specs.Str.Parse.{IsNumeral, digits_value, without_leading_plus}
use Rattle.rox_programs.specs.Words.{begins_with_dash}
use Rattle.rox_measures.specs.declared.arguments.Command.{Command}

-- What is asked for: the file that is measured, and for how many seconds.
pub record CommandView : Type 0 where
  pub file : List ℕ
  pub seconds : ℕ

-- The meaning of a command.
abbrev pub meaning : Command → CommandView
meaning c = record { file = string_bytes c.file; seconds = c.seconds }

-- The meaning of a file and a number of seconds.
abbrev pub with_file : List ℕ → Option ℕ → Option CommandView
with_file file None = None
with_file file (Some n) = (if begins_with_dash file then None else Some (record { file = file; seconds = n }))

-- The word is a number of seconds: digits, after a plus sign or not, that give a number below 2^32.
abbrev pub IsSeconds : List ℕ → Type 0
IsSeconds word = IsNumeral 10 (without_leading_plus word) × (digits_value 10 (without_leading_plus word) < 2 ^ 32)

-- The word gives this number of seconds, or `None` if it is not a number of seconds.
abbrev pub Gives : List ℕ → Option ℕ → Type 0
Gives word seconds = MatchOption seconds (¬ IsSeconds word) (λ n. IsSeconds word × (n ≡ digits_value 10 (without_leading_plus word)))

-- The meaning of the words after the program's name: `FILE [SECONDS]`. Without `SECONDS` it is 4 seconds. It is `None` if a word
-- is wrong.
abbrev pub AsksFor : List (List ℕ) → Option CommandView → Type 0
AsksFor [] asked = asked ≡ None
AsksFor (file ∷ []) asked = asked ≡ with_file file (Some 4)
AsksFor (file ∷ word ∷ []) asked = (seconds : Option ℕ) × Gives word seconds × (asked ≡ with_file file seconds)
AsksFor (_ ∷ _ ∷ _ ∷ _) asked = asked ≡ None
