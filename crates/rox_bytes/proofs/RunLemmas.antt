-- One step of a run.
use Rattle.std.proofs.Common.{◌≡◌, ℕ, ◌+◌, ◌<◌, ◌≤◌, Bool, true, false, List, [], ◌∷◌, length, get_or, drop, refl, arith, add-zero, add_assoc, inl, inr, get_or-drop, chars, IsUtf8, IsCharBoundary}
use Rattle.std.specs.Char.{len_utf8}
use Rattle.std.proofs.Math.Utf8.{encodes}
use Rattle.std.proofs.lemmas.Bool.{cases_lt}
use Rattle.std.proofs.lemmas.Str.{chars-nil, encodes-chars, chars_past_char, encode_ascii, len_utf8_ascii, IsUtf8-drop, IsCharBoundary-start, IsCharBoundary-before_ascii, IsCharBoundary-after_ascii}
use Rattle.std.proofs.lemmas.List.{drop_more, drop_all, get_or_past}
use Rattle.rox_grammar.specs.Chars.{is_space}
use Rattle.rox_grammar.specs.Runs.{passing, run_end, begins, StandsAt}
use Rattle.std.specs.Prelude.{slice_index}
use Rattle.rox_grammar.specs.Search.{stands}
use Rattle.rox_grammar.proofs.AtPlace.{run_at_end, space_ascii}

pub chars_at : (src : List ℕ) (i c : ℕ) → IsUtf8 src → IsCharBoundary src i → StandsAt c src i → chars (drop i src) ≡ c ∷ chars (drop (i + len_utf8 c) src)
chars_at src i c utf8 cut stands = chars_past_char (drop i src) (drop (i + len_utf8 c) src) c (IsUtf8-drop src i utf8 cut) stands

pub run_on : (p : ℕ → Bool) (src : List ℕ) (i c : ℕ) → IsUtf8 src → IsCharBoundary src i → StandsAt c src i → p c ≡ true → run_end p src (i + len_utf8 c) ≡ run_end p src i
unfolding run_end
run_on p src i c utf8 cut stands passes = rw (chars_at src i c utf8 cut stands, passes) (add_assoc i (len_utf8 c) (passing p (chars (drop (i + len_utf8 c) src))))

pub run_stops : (p : ℕ → Bool) (src : List ℕ) (i c : ℕ) → IsUtf8 src → IsCharBoundary src i → StandsAt c src i → p c ≡ false → run_end p src i ≡ i
unfolding run_end
run_stops p src i c utf8 cut stands fails = rw (chars_at src i c utf8 cut stands, fails) (add-zero i)

-- an ASCII byte is a character
pub stands_ascii : (src : List ℕ) (i : ℕ) → i < length src → get_or src i 0 < 128 → StandsAt (get_or src i 0) src i
stands_ascii src i within ascii = grind (arith, encode_ascii, drop_more)

pub run_on_ascii : (p : ℕ → Bool) (src : List ℕ) (i : ℕ) → IsUtf8 src → i < length src → get_or src i 0 < 128 → p (get_or src i 0) ≡ true → run_end p src (i + 1) ≡ run_end p src i
run_on_ascii p src i utf8 within ascii passes =
    let step = run_on p src i (get_or src i 0) utf8 (IsCharBoundary-before_ascii src i within ascii) (stands_ascii src i within ascii) passes in
    rw (len_utf8_ascii (get_or src i 0) ascii) at step

pub run_stops_ascii : (p : ℕ → Bool) (src : List ℕ) (i : ℕ) → IsUtf8 src → i < length src → get_or src i 0 < 128 → p (get_or src i 0) ≡ false → run_end p src i ≡ i
run_stops_ascii p src i utf8 within ascii fails =
    run_stops p src i (get_or src i 0) utf8 (IsCharBoundary-before_ascii src i within ascii) (stands_ascii src i within ascii) fails

none_passes : (cs : List ℕ) → 128 ≤ get_or (encodes cs) 0 0 → passing is_space cs ≡ 0
none_passes [] wide = refl
none_passes (c ∷ cs) wide = grind (arith, encode_ascii)

wide_stops : (src : List ℕ) (i : ℕ) → IsUtf8 src → IsCharBoundary src i → 128 ≤ get_or src i 0 → run_end is_space src i ≡ i
unfolding run_end
wide_stops src i utf8 cut wide =
    let read : get_or (drop i src) 0 0 ≡ get_or src i 0 = rw (get_or-drop i src 0 0, add-zero) refl in
    omega (arith, none_passes (chars (drop i src)) (rw ((encodes-chars (drop i src) (IsUtf8-drop src i utf8 cut)), read) wide))

pub space_on : (src : List ℕ) (i : ℕ) → IsUtf8 src → i < length src → is_space (get_or src i 0) ≡ true → run_end is_space src (i + 1) ≡ run_end is_space src i
space_on src i utf8 within passes = run_on_ascii is_space src i utf8 within (space_ascii _ passes) passes

pub space_stops : (src : List ℕ) (i : ℕ) → IsUtf8 src → IsCharBoundary src i → i < length src → is_space (get_or src i 0) ≡ false → run_end is_space src i ≡ i
space_stops src i utf8 cut within fails =
    elim (cases_lt (get_or src i 0) 128) [ inl ascii ↦ run_stops_ascii is_space src i utf8 within ascii fails | inr wide ↦ wide_stops src i utf8 cut wide ]

pub space_cut : (src : List ℕ) (i : ℕ) → IsUtf8 src → i < length src → is_space (get_or src i 0) ≡ true → IsCharBoundary src (i + 1)
space_cut src i utf8 within passes = IsCharBoundary-after_ascii src i utf8 within (space_ascii _ passes)

pub begins_at : (p : ℕ → Bool) (src : List ℕ) (i c : ℕ) → IsUtf8 src → IsCharBoundary src i → StandsAt c src i → begins p src i ≡ p c
unfolding begins
begins_at p src i c utf8 cut stands = rw (chars_at src i c utf8 cut stands)

pub begins_ascii : (p : ℕ → Bool) (src : List ℕ) (i : ℕ) → IsUtf8 src → i < length src → get_or src i 0 < 128 → begins p src i ≡ p (get_or src i 0)
begins_ascii p src i utf8 within ascii =
    begins_at p src i (get_or src i 0) utf8 (IsCharBoundary-before_ascii src i within ascii) (stands_ascii src i within ascii)

pub begins_no_end : (p : ℕ → Bool) (src : List ℕ) (i : ℕ) → length src ≤ i → begins p src i ≡ false
unfolding begins
begins_no_end p src i past = rw (drop_all i src past, chars-nil)

pub ruleset space_steps = (space_on, space_stops, run_at_end, space_cut)

pub ruleset begin_steps = (begins_at, begins_ascii, begins_no_end)

-- the second part of `IsCharBoundary-start` alone, which is the goal that `search` meets
pub lead_at_start : (src : List ℕ) → IsUtf8 src → 0 < length src → 128 ≤ get_or src 0 0 → 192 ≤ get_or src 0 0
lead_at_start src utf8 more wide = (IsCharBoundary-start src utf8).1 more wide

pub lead_after_first : (src : List ℕ) → IsUtf8 src → get_or src 0 0 < 128 → 1 < length src → 128 ≤ get_or src 1 0 → 192 ≤ get_or src 1 0
lead_after_first src utf8 ascii more wide = (IsCharBoundary-after_ascii src 0 utf8 (omega arith) ascii).1 more wide

pub ruleset first_cuts = (lead_at_start, lead_after_first)

-- ---- the declaration around its subset

-- a byte but 0 stands in the text
pub stands_within : (src : List ℕ) (p b : ℕ) → slice_index src p ≡ b → 0 < b → p < length src
stands_within src p b is some = grind (arith, get_or_past)
