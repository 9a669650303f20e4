-- The words of a program's arguments.
use Rattle.std.specs.Prelude.{ℕ, Bool, false, List, [], ◌∷◌, ◌==◌}

-- Whether a word starts with `-`. Such a word is not a file.
abbrev pub begins_with_dash : List ℕ → Bool
begins_with_dash [] = false
begins_with_dash (byte ∷ _) = byte == 45
