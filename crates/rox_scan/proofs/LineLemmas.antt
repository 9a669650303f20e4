-- A run that is a line end and bytes that stand for themselves.
use Rattle.std.proofs.Common.{◌≡◌, ◌==◌, ◌||◌, ℕ, ◌+◌, ◌<◌, ◌≤◌, true, false, List, length, get_or, take, refl, sym, ap, ◌∙◌, arith, inl, inr, IsUtf8, IsCharBoundary}
use Rattle.std.proofs.lemmas.Bool.{cases_eq, cases_lt, false≢true}
use Rattle.std.proofs.lemmas.List.{get_or-take, get_or_past, length-take-le}
use Rattle.rox_bytes.specs.ByteSets.{AllPass, EndsSet, is_text_byte}
use Rattle.rox_scan.specs.Lookahead.{EndsLine, IsLine, IsLineRun, IsLookahead, changes_run, ends_run}
use Rattle.rox_scan.proofs.CharLemmas.{ascii_char}
use Rattle.rox_scan.proofs.LongerLemmas.{no_run_end, run_near, run_on, run_same}
use Rattle.rox_scan.proofs.ShortLemmas.{longer_run}
use Rattle.rox_bytes.proofs.NearLemmas.{near_found}

return_stops : is_text_byte 13 ≡ false
unfolding is_text_byte
return_stops = refl

feed_passes : is_text_byte 10 ≡ true
unfolding is_text_byte
feed_passes = refl

-- a longer look passes it
pub line_looked : (src : List ℕ) (i e : ℕ) → IsUtf8 src → IsCharBoundary src i → i < length src → get_or src i 0 ≡ 13 → IsCharBoundary src (i + 1)
    → i + 1 ≤ e → e ≤ length src → AllPass is_text_byte src (i + 1) e → (e < length src → is_text_byte (get_or src e 0) ≡ false)
    → IsLookahead (ends_run src) changes_run src i e false
line_looked src i e utf8 start within cr cut le past all stops =
    let none = run_near src i i utf8 start (omega arith) (omega arith) (λ k low high. absurd (omega arith)) (λ more. rw cr return_stops) in
    let chars = ascii_char src i utf8 within (omega (arith, cr)) (rw cr refl) in
    let here : ends_run src i ≡ false = no_run_end src i (rw cr refl) (λ h. absurd (omega (arith, h, cr))) in
    let whole = run_on src i i (i + 1) e true utf8 start none (omega arith) cut chars (λ k low high. absurd (omega arith)) here le past all stops in
    rw cr at whole

-- and its parts
pub line_is : (src : List ℕ) (i e : ℕ) → get_or src i 0 ≡ 13 → get_or src (i + 1) 0 ≡ 10 → i + 1 < length src → i + 1 ≤ e → e ≤ length src → AllPass is_text_byte src (i + 1) e
    → (e < length src → is_text_byte (get_or src e 0) ≡ false) → IsLine src i e
line_is src i e cr feed within le past all stops =
    let some : i + 1 < e = elim (cases_eq e (i + 1)) [
      | inl same ↦ absurd (false≢true (sym (rw same at (stops (omega arith))) ∙ ap is_text_byte feed ∙ feed_passes))
      | inr more ↦ omega arith
    ] in
    let long = length-take-le e src past in
    let rest = near_found is_text_byte changes_run (take e src) (i + 1 + 1) e (omega arith) (omega (arith, long))
    (λ k low high. rw (get_or-take e src k 0 high) (all k (omega arith) high)) run_same (λ more. absurd (omega (arith, long))) in
    record { some = some; within = past; cr = cr; feed = feed; rest = rest }

-- a byte that is not 0 is in the text
within : (src : List ℕ) (i b : ℕ) → get_or src i 0 ≡ b → 0 < b → i < length src
within src i b is some = elim (cases_lt i (length src)) [ inl more ↦ more | inr past ↦ absurd (omega (arith, is, get_or_past src i 0 past)) ]

-- a line end, and then bytes that stand for themselves up to the end of the character data
pub line_run : (src : List ℕ) (i j e : ℕ) → IsUtf8 src → IsCharBoundary src i → EndsLine src i j → EndsSet is_text_byte src j e → (e == length src || get_or src e 0 == 60) ≡ true → IsLineRun src i e
line_run src i j e utf8 cut l n ends =
    let onward : i + 1 ≤ e = rw l.next at n.onward in
    let passes : AllPass is_text_byte src (i + 1) e = rw l.next at n.passes in
    let feed : get_or src (i + 1) 0 ≡ 10 = rw l.next at l.feed in
    let look = line_looked src i e utf8 cut (within src i 13 l.cr (omega arith)) l.cr (rw l.next at l.cut) onward n.within passes n.stops in
    record {
      line = line_is src i e l.cr feed (within src (i + 1) 10 feed (omega arith)) onward n.within passes n.stops;
      value = longer_run src i e false look ends;
      verbatim = sym look.verbatim_is;
      cut = look.cut;
    }
