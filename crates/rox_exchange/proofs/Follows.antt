-- What is at a place of a source stands wherever the same bytes follow: bytes, runs, marks, slices.
use Rattle.std.proofs.Common.{◌≡◌, ℕ, ◌+◌, ◌-◌, ◌≤◌, ◌==◌, Bool, List, length, take, drop, sym, ap, ◌∙◌, subst, arith, length-drop, chars}
use Rattle.std.specs.List.{starts_with}
use Rattle.std.proofs.lemmas.List.{drop-drop, drop-take}
use Rattle.std.proofs.lemmas.Grind.{common_steps}
use Rattle.rox_grammar.specs.Runs.{run_end, begins, first_passes}
use Rattle.rox_grammar.specs.Search.{stands, mark_from, byte_from}
use Rattle.rox_grammar.specs.Names.{byte, slice}
use Rattle.rox_grammar.specs.References.{bytes_end}
use Rattle.rox_grammar.specs.Constructs.{AreChars}
use Rattle.rox_grammar.specs.Exchange.{Move, moved}
use Rattle.rox_exchange.specs.Local.{Follows}

module _ (m : Move) (src to : List ℕ) where
  -- So it does further on.
  pub on : (i k n : ℕ) → Follows m src i to k → Follows m src (i + n) to (k + n)
  on i k n f = record { same = sym (drop-drop n i src) ∙ ap (drop n) f.same ∙ drop-drop n k to; at = omega arith }

  -- Where a place moves to.
  pub lands : (i k : ℕ) → Follows m src i to k → moved m i ≡ k
  lands i k f = let is = f.at in omega arith

  -- And from each later place on.
  pub from : (i k j : ℕ) → i ≤ j → Follows m src i to k → Follows m src j to (moved m j)
  from i k j le f =
      subst (λ (x : ℕ). Follows m src j to x) (omega arith) (subst (λ (x : ℕ). Follows m src x to (k + (j - i))) (omega arith) (on i k (j - i) f))

  -- A byte.
  pub byte_moves : (i k : ℕ) → Follows m src i to k → byte src i ≡ byte to k
  byte_moves i k f = grind (arith, common_steps)

  -- How much is left.
  pub rest_moves : (i k : ℕ) → Follows m src i to k → length src - i ≡ length to - k
  rest_moves i k f = sym (length-drop i src) ∙ ap length f.same ∙ length-drop k to

  -- A fixed text.
  pub stands_moves : (mark : List ℕ) (i k : ℕ) → Follows m src i to k → stands mark src i ≡ stands mark to k
  unfolding stands
  stands_moves mark i k f = ap (λ (bs : List ℕ). starts_with ◌==◌ bs mark) f.same

  -- The first place of a fixed text.
  pub mark_moves : (mark : List ℕ) (i k e : ℕ) → Follows m src i to k → e ≡ mark_from mark src i → moved m e ≡ mark_from mark to k
  unfolding mark_from
  mark_moves mark i k e f is = grind arith

  -- The first place of a byte.
  pub byte_from_moves : (p : ℕ → Bool) (i k e : ℕ) → Follows m src i to k → e ≡ byte_from p src i → moved m e ≡ byte_from p to k
  unfolding byte_from
  byte_from_moves p i k e f is = grind arith

  -- The end of a stretch of bytes.
  pub bytes_end_moves : (p : ℕ → Bool) (i k e : ℕ) → Follows m src i to k → e ≡ bytes_end p src i → moved m e ≡ bytes_end p to k
  unfolding bytes_end
  bytes_end_moves p i k e f is = grind arith

  -- The end of a run of characters.
  pub run_end_moves : (p : ℕ → Bool) (i k e : ℕ) → Follows m src i to k → e ≡ run_end p src i → moved m e ≡ run_end p to k
  unfolding run_end
  run_end_moves p i k e f is = grind arith

  -- Its first character.
  pub begins_moves : (p : ℕ → Bool) (i k : ℕ) → Follows m src i to k → begins p src i ≡ begins p to k
  unfolding begins
  begins_moves p i k f = ap (λ (bs : List ℕ). first_passes p (chars bs)) f.same

  -- What is up to a place, from another on.
  pub front_moves : (i k e : ℕ) → i ≤ e → Follows m src i to k → drop i (take e src) ≡ drop k (take (moved m e) to)
  front_moves i k e le f =
      let d = e - i in
      ap (λ (n : ℕ). drop i (take n src)) (sym (omega arith)) ∙ drop-take i d src ∙ ap (take d) f.same ∙ sym (drop-take k d to) ∙ ap (λ (n : ℕ). drop k (take n to)) (omega arith)

  -- Chars.
  pub chars_move : (i k e : ℕ) → i ≤ e → Follows m src i to k → AreChars src i e → AreChars to k (moved m e)
  unfolding run_end
  chars_move i k e le f are = grind (arith, front_moves)

  -- A byte of what is up to a place.
  pub markup_moves : (p : ℕ → Bool) (i k e : ℕ) → i ≤ e → Follows m src i to k → e ≡ byte_from p (take e src) i → moved m e ≡ byte_from p (take (moved m e) to) k
  unfolding byte_from
  markup_moves p i k e le f is = grind (arith, front_moves)

  -- A slice.
  pub slice_moves : (i k e : ℕ) → i ≤ e → Follows m src i to k → slice src i e ≡ slice to k (moved m e)
  slice_moves i k e le f = grind arith
