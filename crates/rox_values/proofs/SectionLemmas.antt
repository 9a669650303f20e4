-- The parts of a CDATA section's text.
use Rattle.std.proofs.Common.{◌≡◌, ◌≢◌, ℕ, suc, ◌+◌, ◌-◌, ◌<◌, ◌==◌, true, false, List, [], ◌∷◌, ◌++◌, length, get_or, take, drop, slice_range, refl, sym, ap, ◌∙◌, arith, inl, inr, append_assoc, append-nil, get_or-drop, ne_eqb}
use Rattle.std.specs.List.{position_or_len, list_any}
use Rattle.std.proofs.lemmas.Bool.Decides.{eqb_tells}
use Rattle.std.proofs.lemmas.List.{drop_more, drop_all, take_all, drop-drop}
use Rattle.rox_grammar.specs.Search.{byte_from}
use Rattle.rox_grammar.specs.Runs.{first_passes}
use Rattle.rox_grammar.specs.Content.{is_literal, literals, line_ends}
use Rattle.rox_values.specs.Values.{section_rest, section_text}

-- up to the next CR all stays as it is
stretch : (xs : List ℕ) (n : ℕ) → n ≡ position_or_len (λ c. c == 13) xs → line_ends (literals xs) ≡ take n xs ++ line_ends (literals (drop n xs))
stretch [] n is = rw is refl
stretch (x ∷ xs) n is =
    elim (eqb_tells x 13) [
      | inl cr ↦ let none : n ≡ 0 = rw cr.1 at is in rw (none, cr.1) refl
      | inr other ↦
          let more : n ≡ suc (position_or_len (λ c. c == 13) xs) = omega (arith, (rw other.0 at is)) in
          rw (more, other.0) (ap (λ l. x ∷ l) (stretch xs _ refl))
    ]

-- no LF is in front
apart : (xs : List ℕ) → get_or xs 0 0 ≢ 10 → first_passes (is_literal 10) (literals xs) ≡ false
apart [] h = refl
apart (x ∷ xs) h = ne_eqb x 10 h

rest_stretch : (raw : List ℕ) (i n : ℕ) → n ≡ position_or_len (λ c. c == 13) (drop i raw) → section_rest raw i ≡ slice_range raw i (i + n) ++ section_rest raw (i + n)
rest_stretch raw i n is =
    let less : i + n - i ≡ n = omega arith in
    rw (less, ← drop-drop n i raw) (stretch (drop i raw) n is)

-- all up to the next CR
pub part_stretch : (old new raw : List ℕ) (i e : ℕ) → e ≡ byte_from (λ c. c == 13) raw i → new ≡ old ++ slice_range raw i e → new ++ section_rest raw e ≡ old ++ section_rest raw i
unfolding byte_from
part_stretch old new raw i e place is =
    rw (is, place) (append_assoc old _ _ ∙ ap (λ l. old ++ l) (sym (rest_stretch raw i (position_or_len (λ c. c == 13) (drop i raw)) refl)))

-- it is not empty
pub stretch_moves : (raw : List ℕ) (i e : ℕ) → e ≡ byte_from (λ c. c == 13) raw i → i < length raw → get_or raw i 0 ≢ 13 → i < e
unfolding byte_from
stretch_moves raw i e place within other =
    let some : position_or_len (λ c. c == 13) (drop i raw) ≡ 1 + position_or_len (λ c. c == 13) (drop (i + 1) raw) = rw (drop_more raw i 0 within, ne_eqb (get_or raw i 0) 13 other) refl in
    omega (arith, some, place)

-- a CR and a LF
pub part_feed : (old raw : List ℕ) (i : ℕ) → get_or raw i 0 ≡ 13 → get_or raw (i + 1) 0 ≡ 10 → i + 1 < length raw → (old ++ 10 ∷ []) ++ section_rest raw (i + 1 + 1) ≡ old ++ section_rest raw i
part_feed old raw i cr feed within = grind (arith, drop_more, append_assoc)

-- a CR alone
pub part_return : (old raw : List ℕ) (i : ℕ) → get_or raw i 0 ≡ 13 → get_or raw (i + 1) 0 ≢ 10 → i < length raw → (old ++ 10 ∷ []) ++ section_rest raw (i + 1) ≡ old ++ section_rest raw i
part_return old raw i cr other within = grind (arith, drop_more, get_or-drop, append_assoc, apart)

-- whether a CR stands somewhere
any_before : (xs : List ℕ) → position_or_len (λ c. c == 13) xs ≡ length xs → list_any (λ b. b == 13) xs ≡ false
any_before [] h = refl
any_before (x ∷ xs) h =
    elim (eqb_tells x 13) [
      | inl cr ↦ let none = rw cr.0 at h in absurd (omega arith)
      | inr other ↦ let more = rw other.0 at h in rw other.0 (any_before xs (omega arith))
    ]

-- a section without CR
pub section_plain : (raw : List ℕ) → position_or_len (λ c. c == 13) raw ≡ length raw → section_text raw ≡ record { value = raw; borrowed = true }
section_plain raw h =
    let all : line_ends (literals raw) ≡ raw = rw (take_all (length raw) raw (omega arith), drop_all (length raw) raw (omega arith), append-nil) at (stretch raw (length raw) (sym h)) in
    rw (any_before raw h, all) refl
