use Rattle.rox_dump.proofs.Words.{command_with_flag, command_with_value}
use Rattle.std.proofs.Common.{rules, ◌≡◌, map, string_bytes, ◌∷◌, Some, None}
use Rattle.rox_dump.specs.Command.{changed, with_flag, with_value}
use Rattle.rox_dump.proofs.arguments.next_option.Goals as goal

pub returns-in-Some-clause-some : goal.returns-in-Some-clause-some
returns-in-Some-clause-some c = λ a.
    let e : map string_bytes c.args.words.now ≡ string_bytes c.in_ok-word.word.now ∷ map string_bytes c.in_ok-word.rest.now = search rules in
    let f : with_flag a (string_bytes c.in_ok-word.word.now) ≡ Some (changed a c.in-Some.change) = search (rules, c.flag.ensures a) in
    rw e (command_with_flag a (changed a c.in-Some.change) (string_bytes c.in_ok-word.word.now) (map string_bytes c.in_ok-word.rest.now) f)

pub returns-clause-some : goal.returns-clause-some
returns-clause-some c = λ a.
    let e : map string_bytes c.args.words.now ≡ string_bytes c.in_ok-word.word.now ∷ map string_bytes c.in_ok-word.rest.now = search rules in
    let f : map string_bytes c.in_ok-word.rest.now ≡ string_bytes c.in_ok-value.value.now ∷ map string_bytes c.in_ok-value.rest.now = search rules in
    let n : with_flag a (string_bytes c.in_ok-word.word.now) ≡ None = search (rules, c.flag.ensures a) in
    let v : with_value a (string_bytes c.in_ok-word.word.now) (string_bytes c.in_ok-value.value.now) ≡ Some (changed a c.in_ok-change.change) = search (rules, c.valued.ensures a) in
    rw (e, f) (command_with_value a (changed a c.in_ok-change.change) (string_bytes c.in_ok-word.word.now) (string_bytes c.in_ok-value.value.now) (map string_bytes c.in_ok-value.rest.now) n v)
