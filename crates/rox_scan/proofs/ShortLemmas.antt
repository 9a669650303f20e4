-- A run whose end stands there.
use Rattle.std.proofs.Common.{◌≡◌, ℕ, ◌<◌, ◌==◌, ◌||◌, Bool, true, false, List, Ok, length, get_or, slice_range, refl, sym, arith}
use Rattle.std.proofs.lemmas.Bool.{eq-eqb, eqb-true, ne_eqb, or_right}
use Rattle.rox_grammar.specs.Content.{is_verbatim}
use Rattle.rox_reading.specs.Values.{raw_character_data_at}
use Rattle.rox_scan.specs.Lookahead.{EndsRun, IsLookahead, ends_run, changes_run}
use Rattle.rox_scan.proofs.LongerLemmas.{looked_run}

or_second : (a b : Bool) → (a || b) ≡ true → a ≡ false → b ≡ true
or_second a b h other = cc

-- what a run is read as that a longer look passes
pub longer_run : (src : List ℕ) (i e : ℕ) (verbatim : Bool) → IsLookahead (ends_run src) changes_run src i e verbatim → (e == length src || get_or src e 0 == 60) ≡ true → raw_character_data_at src i ≡ Ok (slice_range src i e, e)
unfolding raw_character_data_at
longer_run src i e verbatim f here =
    let at : e < length src → get_or src e 0 ≡ 60 = λ more. eqb-true _ _ (or_second _ _ here (ne_eqb e (length src) (λ same. absurd (omega arith)))) in
    let read = looked_run src i e verbatim f at in
    rw (read.0, read.1, read.2) refl

-- and one that needs no replacement
pub ended_run : (src : List ℕ) (i e : ℕ) → EndsRun src i e → (raw_character_data_at src i ≡ Ok (slice_range src i e, e)) × (is_verbatim (slice_range src i e) ≡ true)
ended_run src i e f = (longer_run src i e true f.looked (or_right (e == length src) (get_or src e 0 == 60) (eq-eqb _ _ f.here)), sym f.looked.verbatim_is)
