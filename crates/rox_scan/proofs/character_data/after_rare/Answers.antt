use Rattle.std.proofs.Common.{◌≡◌, ◌<◌, ℕ, List, false, get_or, refl, sym, ap, ◌+◌, ◌∙◌, arith, ne_eqb}
use Rattle.std.proofs.lemmas.Str.{IsCharBoundary-after_ascii}
use Rattle.rox_scan.specs.Lookahead.{ends_run}
use Rattle.rox_scan.proofs.CharLemmas.{ascii_char}
use Rattle.rox_scan.proofs.LongerLemmas.{run_none, run_step, wide_no_run_end}
use Rattle.rox_scan.proofs.character_data.after_rare.Goals as goal

pub returns-then-here : goal.returns-then-here
returns-then-here c = grind (arith, run_step, wide_no_run_end)

pub returns-then-not-is_mark_at : goal.returns-then-not-is_mark_at
returns-then-not-is_mark_at c =
    let src = c.args.text.now in
    let i = c.args.at in
    let utf8 = c.utf8.text in
    let within = c.requires.within in
    let bracket : get_or src i 0 ≡ 93 = sym (ap (λ (l : List ℕ). get_or l i 0) c.as_bytes.ensures.value) ∙ c.if-here-eq93.true in
    let ascii : get_or src i 0 < 128 = omega (arith, bracket) in
    let no_tag = ne_eqb (get_or src i 0) 60 (λ h. absurd (omega (arith, h, bracket))) in
    let here : ends_run src i ≡ false = rw (no_tag, ← c.is_mark_at.ensures, c.if-not-is_mark_at.true) refl in
    run_step src i (i + 1) utf8 c.requires.cut (omega arith) (IsCharBoundary-after_ascii src i utf8 within ascii) (ascii_char src i utf8 within ascii (rw bracket refl)) (λ k more below. absurd (omega (arith, more, below))) here (rw bracket refl)

pub returns : goal.returns
returns c = run_none c.args.text.now c.args.at c.utf8.text c.requires.cut
