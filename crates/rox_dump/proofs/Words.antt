-- What words ask for, a word after another.
use Rattle.std.proofs.Common.{◌≡◌, ℕ, List, [], ◌∷◌, Some, None, rules}
use Rattle.rox_dump.specs.Command.{CommandView, with_flag, with_value, with_file, command_with}

flag_is_no_file : (a b : CommandView) (word : List ℕ) → with_flag a word ≡ Some b → with_file a word ≡ None
flag_is_no_file a b word e = search rules

pub command_with_flag : (a b : CommandView) (word : List ℕ) (words : List (List ℕ)) → with_flag a word ≡ Some b → command_with a (word ∷ words) ≡ command_with b words
command_with_flag a b word [] e = flag_is_no_file a b word e
command_with_flag a b word (next ∷ words) e = search rules

pub command_with_value : (a b : CommandView) (word value : List ℕ) (words : List (List ℕ)) → with_flag a word ≡ None → with_value a word value ≡ Some b → command_with a (word ∷ value ∷ words) ≡ command_with b words
command_with_value a b word value words f e = search rules
