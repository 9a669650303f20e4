-- What `parse` gives of digits.
use Rattle.std.proofs.Common.{◌≡◌, ℕ, ◌<◌, ◌^◌, length, List, Result, Ok, Err, true, rules}
use Rattle.std.specs.List.{list_all}
use Rattle.std.specs.Char.{is_ascii_digit}
use Rattle.std.specs.Result.{result_ok}
use Rattle.std.specs.Str.Parse.{digits_value, ParsesUnsigned}
use Rattle.std.proofs.lemmas.Str.Parse.{IsNumeralModel, IsDigitsTest, numerals_by_value, parse_digits}
use Rattle.rox_dump.specs.Numbers.{number_of}

tells_all : IsDigitsTest (λ ds. list_all is_ascii_digit ds ≡ true)
tells_all = search rules

pub own : IsNumeralModel (λ ds. list_all is_ascii_digit ds ≡ true) (digits_value 10)
own = numerals_by_value _ tells_all

pub number_of_digits : {E : Type 0} (bs : List ℕ) (r : Result ℕ E) → ParsesUnsigned 64 10 bs r → list_all is_ascii_digit bs ≡ true → result_ok r ≡ number_of bs
number_of_digits {E} bs (Ok n) h digits =
    let k : ((0 < length bs) × (digits_value 10 bs < 2 ^ 64)) × (n ≡ digits_value 10 bs) = parse_digits own {E = E} 64 bs (Ok n) h digits in
    search (rules, digits, k.0.0, k.0.1, k.1)
number_of_digits {E} bs (Err e) h digits =
    let k : ¬ ((0 < length bs) × (digits_value 10 bs < 2 ^ 64)) = parse_digits own {E = E} 64 bs (Err e) h digits in
    search (rules, digits, k)
