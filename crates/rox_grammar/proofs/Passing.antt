-- Characters that all pass, by the bytes of a run.
use Rattle.std.proofs.Common.{◌≡◌, ℕ, ◌≤◌, Bool, true, List, [], ◌∷◌, length, refl, arith, inl, inr, length-append, encode_utf8}
use Rattle.std.specs.List.{list_all}
use Rattle.std.proofs.Math.Utf8.{encodes}
use Rattle.std.proofs.lemmas.Bool.{and_parts, and_from, cases_Bool}
use Rattle.std.proofs.lemmas.Str.{length-encode, len_utf8_bounds}
use Rattle.rox_grammar.specs.Runs.{passing}

-- If each passes, as many bytes pass as there are.
pub all_passing : (p : ℕ → Bool) (cs : List ℕ) → list_all p cs ≡ true → passing p cs ≡ length (encodes cs)
all_passing p [] h = refl
all_passing p (c ∷ cs) h =
    let both = and_parts (p c) (list_all p cs) h in
    rw both.0 (omega (arith, length-append (encode_utf8 c) (encodes cs), length-encode c, all_passing p cs both.1))

-- Where as many bytes pass as there are, each character passes.
pub all_pass : (p : ℕ → Bool) (cs : List ℕ) → length (encodes cs) ≤ passing p cs → list_all p cs ≡ true
all_pass p [] h = refl
all_pass p (c ∷ cs) h =
    let long = length-append (encode_utf8 c) (encodes cs) in
    let one = length-encode c in
    let some = len_utf8_bounds c in
    elim (cases_Bool (p c)) as (λ s. list_all p (c ∷ cs) ≡ true) [
      | inl passes ↦ and_from (p c) (list_all p cs) passes (all_pass p cs (let h' = rw passes at h in omega arith))
      | inr fails ↦ absurd (let h' = rw fails at h in omega arith)
    ]
