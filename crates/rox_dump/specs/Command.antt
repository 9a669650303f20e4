use Rattle.std.specs.Prelude.{ℕ, ◌^◌, true, false, List, [], ◌∷◌, ◌++◌, Option, Some, None, codes, map, bytes_eq, nat_lt, option_map, option_and_then, if◌then◌else◌, is_some}
use Rattle.rox_programs.specs.Words.{begins_with_dash}
use Rattle.rox_dump.specs.Numbers.{number_of}
use Rattle.rox_dump.specs.declared.options.Options.{Options}
use Rattle.rox_dump.specs.declared.options.AnswerWord.{AnswerWord}
use Rattle.rox_dump.specs.declared.options.AnswerWord.TheVariants as word
use Rattle.rox_dump.specs.declared.options.Command.{Command}
use Rattle.rox_dump.specs.declared.arguments.Change.{Change}
use Rattle.rox_dump.specs.declared.arguments.Change.TheVariants as change

-- The answer that a word asks the resolver to give: the text of a file, no text, or a refusal with these words.
pub data Answer : Type 0 where
  text_of : List ℕ → Answer
  nothing : Answer
  refusal : List ℕ → Answer

abbrev pub answer_of : AnswerWord → Answer
answer_of (word.File path) = text_of path.now
answer_of word.Nothing = nothing
answer_of (word.Refusal text) = refusal text.now

-- What is asked for: the options, the answers of the resolver in order, the main text's file, if the texts of the input are
-- answers, and the file, or `None` for standard input.
pub record CommandView : Type 0 where
  pub options : Options
  pub answers : List Answer
  pub main : Option (List ℕ)
  pub file : Option (List ℕ)

-- The meaning of a command.
abbrev pub meaning : Command → CommandView
meaning c = record { options = c.options; answers = map answer_of c.answers.items; main = option_map (λ s. s.now) c.main; file = option_map (λ s. s.now) c.file }

-- The options if no word gives one.
abbrev pub no_options : Options
no_options = record { allow_dtd = false; nodes_limit = 4294967295; axes = false; lookups = false; batch = false }

abbrev pub nothing_asked : CommandView
nothing_asked = record { options = no_options; answers = []; main = None; file = None }

abbrev pub with_options : CommandView → Options → CommandView
with_options a o = record a { options = o }

abbrev pub with_answer : CommandView → Answer → CommandView
with_answer a answer = record a { answers = a.answers ++ (answer ∷ []) }

abbrev pub with_main : CommandView → List ℕ → CommandView
with_main a path = record a { main = Some path }

abbrev pub changed : CommandView → Change → CommandView
changed a change.AllowDtd = with_options a (record a.options { allow_dtd = true })
changed a (change.NodesLimit n) = with_options a (record a.options { nodes_limit = n })
changed a change.Axes = with_options a (record a.options { axes = true })
changed a change.Lookups = with_options a (record a.options { lookups = true })
changed a change.Batch = with_options a (record a.options { batch = true })
changed a (change.Answer answer) = with_answer a (answer_of answer)
changed a (change.Main path) = with_main a path.now

-- A limit is a number below 2^32.
abbrev pub limit_of : List ℕ → Option ℕ
limit_of word = option_and_then (λ n. if nat_lt n (2 ^ 32) then Some n else None) (number_of word)

-- The meaning of one more word that takes no value. It is `None` for another word.
abbrev pub with_flag : CommandView → List ℕ → Option CommandView
with_flag a word =
    (if bytes_eq word (codes "--allow-dtd") then Some (with_options a (record a.options { allow_dtd = true }))
    else if bytes_eq word (codes "--axes") then Some (with_options a (record a.options { axes = true }))
    else if bytes_eq word (codes "--lookups") then Some (with_options a (record a.options { lookups = true }))
    else if bytes_eq word (codes "--batch") then Some (with_options a (record a.options { batch = true }))
    else if bytes_eq word (codes "--ans-none") then Some (with_answer a nothing)
    else None)

-- The meaning of one more word and its value. It is `None` for another word or a wrong value.
abbrev pub with_value : CommandView → List ℕ → List ℕ → Option CommandView
with_value a word value =
    (if bytes_eq word (codes "--nodes-limit") then option_map (λ n. with_options a (record a.options { nodes_limit = n })) (limit_of value)
    else if bytes_eq word (codes "--ans-file") then Some (with_answer a (text_of value))
    else if bytes_eq word (codes "--ans-err") then Some (with_answer a (refusal value))
    else if bytes_eq word (codes "--main") then Some (with_main a value)
    else None)

-- The meaning of the file's word. `-` is standard input, and no other word that starts with `-` is a file.
abbrev pub with_file : CommandView → List ℕ → Option CommandView
with_file a word =
    (if bytes_eq word (codes "-") then Some a
    else if begins_with_dash word then None
    else Some (record a { file = Some word }))

-- The meaning of the words after the last option: they are one file, or wrong.
abbrev pub with_last : CommandView → List (List ℕ) → Option CommandView
with_last a [] = None
with_last a (word ∷ []) = with_file a word
with_last a (_ ∷ _ ∷ _) = None

-- The meaning of further words, after words that mean `a`.
abbrev pub command_with : CommandView → List (List ℕ) → Option CommandView
command_with a [] = None
command_with a (word ∷ []) = with_file a word
command_with a (word ∷ next ∷ words) =
    (if is_some (with_flag a word) then option_and_then (λ b. command_with b (next ∷ words)) (with_flag a word)
    else option_and_then (λ b. command_with b words) (with_value a word next))

-- The meaning of the words after the program's name: `[--allow-dtd] [--nodes-limit N] [--axes] [--lookups] [--batch] [--ans-file
-- PATH] [--ans-none] [--ans-err TEXT] [--main MAIN] FILE`, with the options in any order. It is `None` if a word is wrong.
abbrev pub command_of : List (List ℕ) → Option CommandView
command_of words = command_with nothing_asked words
