-- A replacement text that is opened in content.
use Rattle.std.proofs.Common.{◌≡◌, ℕ, zero, suc, ◌-◌, Bool, false, List, Result, Ok, Err, length, refl, sym, ap, ◌∙◌, arith, Bor}
use Rattle.rox_grammar.specs.declared.fault.Fault.{Fault}
use Rattle.rox_grammar.specs.Entities.{Replacement, Entity}
use Rattle.rox_reading.specs.Lexical.{◌>>=◌}
use Rattle.rox_reading.specs.Refusals as refusal
use Rattle.rox_reading.specs.Refusals.{Refusal, elsewhere}
use Rattle.rox_reading.specs.State.{State, depth_of}
use Rattle.rox_reading.specs.Machine.{Context, left_behind, values_of, opener, drive_text}
use Rattle.rox_values.specs.DeclaredEntities.{opened_at}
use Rattle.rox_values.specs.Refusals.{IsRefusal, seen_from}
use Rattle.rox_values.specs.declared.parse_error.ParseError.{ParseError}

-- it may not be opened
pub opens_err : (limit : ℕ) (es : List Entity) (depth_left : ℕ) (main : Bool) (t : Replacement) (after : ℕ) (s : State) (f : Fault) → opened_at depth_left main after s.openings_left ≡ Err f → opener limit es depth_left main t after s ≡ Err (refusal.here f)
unfolding opener
opens_err limit es zero main t after s f h = cc h
opens_err limit es (suc d) main t after s f h = rw h refl

-- how it is read, and from where
abbrev pub inner_context : ℕ → List Entity → ℕ → State → Context
inner_context limit es d s = record { limit = limit; values = values_of es d false; open_around = depth_of s.stack; opener = opener limit es d false }

abbrev pub inner_state : Replacement → State → ℕ → State
inner_state t s r = record { at = t.start; done = s.done; stack = s.stack; openings_left = r }

-- what is left behind it
abbrev pub outer_state : (main : Bool) → (after : ℕ) → State → State → State
outer_state main after s u = record { at = after; done = u.done; stack = u.stack; openings_left = left_behind main s.openings_left u.openings_left }

abbrev behind_it : (main : Bool) → (after : ℕ) → State → List ℕ → Result State Refusal → Result State Refusal
behind_it main after s source read = elsewhere source read >>= λ u. Ok (outer_state main after s u)

opens_ok : (limit : ℕ) (es : List Entity) (depth_left d : ℕ) (main : Bool) (t : Replacement) (after : ℕ) (s : State) (r : ℕ) → d ≡ depth_left - 1 → opened_at depth_left main after s.openings_left ≡ Ok r
    → opener limit es depth_left main t after s ≡ behind_it main after s t.source (drive_text (inner_context limit es d s) (length t.source) t.source (inner_state t s r))
unfolding opener
opens_ok limit es zero d main t after s r below h = cc h
opens_ok limit es (suc k) d main t after s r below h = let e : d ≡ k = omega arith in rw (h, e) refl

pub opens_reads : (limit : ℕ) (es : List Entity) (depth_left d : ℕ) (main : Bool) (t : Replacement) (after : ℕ) (s u : State) (r : ℕ) → d ≡ depth_left - 1 → opened_at depth_left main after s.openings_left ≡ Ok r
    → drive_text (inner_context limit es d s) (length t.source) t.source (inner_state t s r) ≡ Ok u → opener limit es depth_left main t after s ≡ Ok (outer_state main after s u)
opens_reads limit es depth_left d main t after s u r below h read = opens_ok limit es depth_left d main t after s r below h ∙ rw read refl

refused_there : (source : Bor (List ℕ)) (main : Bool) (after : ℕ) (s : State) (e : ParseError) (read : Result State Refusal) → IsRefusal e read → IsRefusal (seen_from source e) (behind_it main after s source.now read)
refused_there source main after s e read h = grind arith

pub opens_refuses : (limit : ℕ) (es : List Entity) (depth_left d : ℕ) (main : Bool) (source : Bor (List ℕ)) (start after : ℕ) (s : State) (r : ℕ) (e : ParseError) → d ≡ depth_left - 1 → opened_at depth_left main after s.openings_left ≡ Ok r
    → IsRefusal e (drive_text (inner_context limit es d s) (length source.now) source.now (inner_state (record { source = source.now; start = start }) s r))
    → IsRefusal (seen_from source e) (opener limit es depth_left main (record { source = source.now; start = start }) after s)
opens_refuses limit es depth_left d main source start after s r e below h read =
    rw (opens_ok limit es depth_left d main (record { source = source.now; start = start }) after s r below h)
    (refused_there source main after s e (drive_text (inner_context limit es d s) (length source.now) source.now (inner_state (record { source = source.now; start = start }) s r)) read)

-- where reading goes on behind it
pub opener_at : (limit : ℕ) (es : List Entity) (depth_left : ℕ) (main : Bool) (t : Replacement) (after : ℕ) (s u : State) → opener limit es depth_left main t after s ≡ Ok u → u.at ≡ after
opener_at limit es depth_left main t after s u h = by_opened (opened_at depth_left main after s.openings_left) refl
  where
    back : (read : Result State Refusal) → behind_it main after s t.source read ≡ Ok u → u.at ≡ after
    back (Ok v) k = let e : outer_state main after s v ≡ u = cc k in sym (ap (λ (w : State). w.at) e)
    back (Err (refusal.here f)) k = cc k
    back (Err (refusal.there o f)) k = cc k
    back (Err (refusal.refused request at message)) k = cc k

    by_opened : (r : Result ℕ Fault) → r ≡ opened_at depth_left main after s.openings_left → u.at ≡ after
    by_opened (Ok r) e = back (drive_text (inner_context limit es (depth_left - 1) s) (length t.source) t.source (inner_state t s r)) (sym (opens_ok limit es depth_left (depth_left - 1) main t after s r refl (sym e)) ∙ h)
    by_opened (Err f) e = let k = opens_err limit es depth_left main t after s f (sym e) in cc (k, h)
