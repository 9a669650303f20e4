-- What opens no entity, as it is read where entities may be opened.
use Rattle.std.proofs.Common.{◌≡◌, Result, Ok, Err, arith}
use Rattle.rox_grammar.specs.declared.fault.Fault.{Fault}
use Rattle.rox_reading.specs.Refusals.{Refusal, here, lifted}
use Rattle.rox_grammar.specs.declared.failure.Failure.{Failure}
use Rattle.rox_values.specs.Refusals.{IsFailure, IsRefusal, of_failure}

pub lifted_ok : {A : Type 0} (r : Result A Fault) (x : A) → lifted r ≡ Ok x → r ≡ Ok x
lifted_ok r x h = grind arith

pub lifted_err : {A : Type 0} (r : Result A Fault) (f : Fault) → lifted r ≡ Err (here f) → r ≡ Err f
lifted_err r f h = grind arith

pub refused_too : {A : Type 0} (e : Failure) (r : Result A Refusal) → IsFailure e r → IsRefusal (of_failure e) r
refused_too e r h = grind arith
