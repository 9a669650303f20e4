use Rattle.std.specs.Prelude.{ℕ, Bool, true, false, List, [], ◌∷◌, Option, Some, None, codes, string_bytes, bytes_eq, if◌then◌else◌, option_map}
use Rattle.rox_programs.specs.Words.{begins_with_dash}
use Rattle.xmltree.specs.declared.options.Command.{Command}

-- What is asked for: whether a document type declaration is allowed, the path, if there is one, and the file, or `None` for
-- standard input.
pub record CommandView : Type 0 where
  pub allow_dtd : Bool
  pub path : Option (List ℕ)
  pub file : Option (List ℕ)

-- The meaning of a command.
abbrev pub meaning : Command → CommandView
meaning c = record { allow_dtd = c.allow_dtd; path = option_map string_bytes c.path; file = option_map string_bytes c.file }

-- The last words are one file, or there are none. Other words are wrong.
abbrev pub command_with : Bool → Option (List ℕ) → List (List ℕ) → Option CommandView
command_with dtd path [] = Some (record { allow_dtd = dtd; path = path; file = None })
command_with dtd path (word ∷ []) = (if begins_with_dash word then None else Some (record { allow_dtd = dtd; path = path; file = Some word }))
command_with dtd path (_ ∷ _ ∷ _) = None

-- Before the last words may be `--path` and a path, which is any word.
unfoldable pub command_behind : Bool → List (List ℕ) → Option CommandView
command_behind dtd [] = command_with dtd None []
command_behind dtd (word ∷ []) = command_with dtd None (word ∷ [])
command_behind dtd (word ∷ path ∷ words) =
    (if bytes_eq word (codes "--path") then command_with dtd (Some path) words else command_with dtd None (word ∷ path ∷ words))

-- The meaning of the words after the program's name: `[--allow-dtd] [--path P] [FILE]`. It is `None` if one of them is wrong.
abbrev pub command_of : List (List ℕ) → Option CommandView
command_of [] = command_behind false []
command_of (word ∷ words) = (if bytes_eq word (codes "--allow-dtd") then command_behind true words else command_behind false (word ∷ words))
