-- A replacement text that is opened as a part of a value.
use Rattle.std.proofs.Common.{◌≡◌, ℕ, zero, suc, ◌-◌, Bool, false, List, Result, Ok, Err, length, refl, ap, ◌∙◌, arith, Bor}
use Rattle.rox_grammar.specs.declared.fault.Fault.{Fault}
use Rattle.rox_grammar.specs.Entities.{Replacement, Entity}
use Rattle.rox_reading.specs.Lexical.{◌>>=◌}
use Rattle.rox_reading.specs.Refusals as refusal
use Rattle.rox_reading.specs.Refusals.{Refusal, elsewhere}
use Rattle.rox_reading.specs.Values.{value_text}
use Rattle.rox_reading.specs.Machine.{left_behind, value_opener}
use Rattle.rox_values.specs.DeclaredEntities.{opened_at}
use Rattle.rox_values.specs.Refusals.{IsRefusal, seen_from}
use Rattle.rox_values.specs.Values.{text_behind}
use Rattle.rox_values.specs.declared.parse_error.ParseError.{ParseError}

-- it may not be opened
pub opens_err : (es : List Entity) (depth_left : ℕ) (main : Bool) (t : Replacement) (after openings_left : ℕ) (f : Fault) → opened_at depth_left main after openings_left ≡ Err f → value_opener es depth_left main t after openings_left ≡ Err (refusal.here f)
unfolding value_opener
opens_err es zero main t after openings_left f h = cc h
opens_err es (suc d) main t after openings_left f h = rw h refl

-- what it is read as, within its own source
abbrev pub inner_value : List Entity → ℕ → Replacement → ℕ → Result (List ℕ × ℕ) Refusal
inner_value es d t r = value_text false es (value_opener es d false) (length t.source) t.source (length t.source) t.start r

abbrev behind_it : (main : Bool) → (openings_left : ℕ) → List ℕ → Result (List ℕ × ℕ) Refusal → Result (List ℕ × ℕ) Refusal
behind_it main openings_left source read = elsewhere source read >>= λ x. Ok (x.0, left_behind main openings_left x.1)

opens_ok : (es : List Entity) (depth_left d : ℕ) (main : Bool) (t : Replacement) (after openings_left r : ℕ) → d ≡ depth_left - 1 → opened_at depth_left main after openings_left ≡ Ok r
    → value_opener es depth_left main t after openings_left ≡ behind_it main openings_left t.source (inner_value es d t r)
unfolding value_opener
opens_ok es zero d main t after openings_left r below h = cc h
opens_ok es (suc k) d main t after openings_left r below h = let e : d ≡ k = omega arith in rw (h, e) refl

appended : (front new : List ℕ) (source : List ℕ) (main : Bool) (openings_left inner : ℕ) (read : Result (List ℕ × ℕ) Refusal) → text_behind front read ≡ Ok (new, inner)
    → text_behind front (behind_it main openings_left source read) ≡ Ok (new, left_behind main openings_left inner)
appended front new source main openings_left inner read h = grind arith

-- it was read
pub opens_reads : (es : List Entity) (depth_left d : ℕ) (main : Bool) (t : Replacement) (after openings_left r inner : ℕ) (front new : List ℕ) → d ≡ depth_left - 1 → opened_at depth_left main after openings_left ≡ Ok r
    → text_behind front (inner_value es d t r) ≡ Ok (new, inner) → text_behind front (value_opener es depth_left main t after openings_left) ≡ Ok (new, left_behind main openings_left inner)
opens_reads es depth_left d main t after openings_left r inner front new below h read =
    ap (text_behind front) (opens_ok es depth_left d main t after openings_left r below h) ∙ appended front new t.source main openings_left inner (inner_value es d t r) read

refused_there : (source : Bor (List ℕ)) (main : Bool) (openings_left : ℕ) (e : ParseError) (read : Result (List ℕ × ℕ) Refusal) → IsRefusal e read → IsRefusal (seen_from source e) (behind_it main openings_left source.now read)
refused_there source main openings_left e read h = grind arith

-- it was refused
pub opens_refuses : (es : List Entity) (depth_left d : ℕ) (main : Bool) (source : Bor (List ℕ)) (start after openings_left r : ℕ) (e : ParseError) → d ≡ depth_left - 1 → opened_at depth_left main after openings_left ≡ Ok r
    → IsRefusal e (inner_value es d (record { source = source.now; start = start }) r) → IsRefusal (seen_from source e) (value_opener es depth_left main (record { source = source.now; start = start }) after openings_left)
opens_refuses es depth_left d main source start after openings_left r e below h read =
    rw (opens_ok es depth_left d main (record { source = source.now; start = start }) after openings_left r below h) (refused_there source main openings_left e (inner_value es d (record { source = source.now; start = start }) r) read)
