-- What a result that refers to no entity is for a caller that opens entities.
use Rattle.std.specs.Prelude.{Bool, false, Result, Ok, Err}
use Rattle.rox_grammar.specs.declared.failure.Failure.{Failure}
use Rattle.rox_values.specs.Refusals.{of_failure}
use Rattle.rox_values.specs.declared.parse_error.ParseError.{ParseError}

abbrev pub parsed_of : Result (Unit {0}) Failure → Result (Unit {0}) ParseError
parsed_of (Ok x) = Ok x
parsed_of (Err e) = Err (of_failure e)

-- What an item of an internal subset that was read so is, if it does not end the declaration.
abbrev pub ended : Result (Unit {0}) ParseError → Result Bool ParseError
ended (Ok x) = Ok false
ended (Err e) = Err e
