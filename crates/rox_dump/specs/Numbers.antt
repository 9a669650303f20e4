use Rattle.std.specs.Prelude.{ℕ, ◌^◌, List, Option, Some, None, nat_lt, length, if◌then◌else◌, ◌&&◌}
use Rattle.std.specs.List.{list_all}
use Rattle.std.specs.Char.{is_ascii_digit}
use Rattle.std.specs.Str.Parse.{digits_value}

-- The number that decimal digits give. It is `None` if there is no digit, another character, or a number of 2^64 or more.
abbrev pub number_of : List ℕ → Option ℕ
number_of digits =
    (if list_all is_ascii_digit digits && nat_lt 0 (length digits) && nat_lt (digits_value 10 digits) (2 ^ 64)
    then Some (digits_value 10 digits)
    else None)
