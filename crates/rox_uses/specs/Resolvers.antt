-- The replies to requests for external entities by texts that were read before, each with its name.
use Rattle.std.specs.Prelude.{◌≡◌, ℕ, List, Option, Some, None, Ok, Err, bytes_eq, option_map, find}
use Rattle.std.specs.Borrow.{Bor}
use Rattle.roxmltree.specs.Doctype.{Request}
use Rattle.roxmltree.specs.Requests.{Reply}

-- The first text with this name, if there is one.
abbrev pub text_of_name : List (Bor (List ℕ) × Bor (List ℕ)) → List ℕ → Option (List ℕ)
text_of_name texts name = option_map (λ t. t.1.now) (find (λ t. bytes_eq t.0.now name) texts)

-- The reply is the text whose name is the system identifier, or a refusal if there is none.
abbrev pub IsReplyOf : List (Bor (List ℕ) × Bor (List ℕ)) → Request → Reply → Type 0
IsReplyOf texts request (Ok answer) = (text : List ℕ) × (answer ≡ Some text) × (text_of_name texts request.uri ≡ Some text)
IsReplyOf texts request (Err words) = text_of_name texts request.uri ≡ None
