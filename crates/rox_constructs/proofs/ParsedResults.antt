-- What a call did that refers to no entity, it did for a caller that opens entities.
use Rattle.std.proofs.Common.{◌≡◌, ℕ, Result, Ok, Err, sym, subst, OnOk}
use Rattle.rox_grammar.specs.declared.failure.Failure.{Failure}
use Rattle.rox_reading.specs.Refusals.{Refusal}
use Rattle.rox_reading.specs.State.{State}
use Rattle.rox_scan.specs.declared.cursor.Cursor.{Cursor}
use Rattle.rox_values.proofs.Lifting.{refused_too}
use Rattle.rox_values.specs.declared.parse_error.ParseError.{ParseError}
use Rattle.rox_builder.specs.BuilderState.{ParsesTo, ScansTo}
use Rattle.rox_builder.specs.declared.builder.Builder.{Builder}
use Rattle.rox_constructs.specs.ParsedResults.{parsed_of}

pub parses_too : (limit end : ℕ) (r : Result (Unit {0}) Failure) (p : Result (Unit {0}) ParseError) (c : Cursor) (b : Builder) (read : Result State Refusal) → p ≡ parsed_of r → ScansTo limit end r c b read → ParsesTo limit end p c b read
parses_too limit end (Ok x) p c b read is h = subst (λ q. ParsesTo limit end q c b read) (sym is) h
parses_too limit end (Err e) p c b read is h = subst (λ q. ParsesTo limit end q c b read) (sym is) (refused_too e read h)

pub goes_too : (G : Type 0) (r : Result (Unit {0}) Failure) (p : Result (Unit {0}) ParseError) → p ≡ parsed_of r → OnOk r G → OnOk p G
goes_too G (Ok x) p is h = subst (λ q. OnOk q G) (sym is) h
goes_too G (Err e) p is h = subst (λ q. OnOk q G) (sym is) tt

pub whatever_it_is : (G : Type 0) (p : Result (Unit {0}) ParseError) → G → OnOk p G
whatever_it_is G (Ok x) g = g
whatever_it_is G (Err e) g = tt
