-- How the result of a step of the cursor relates to what is read.
use Rattle.std.specs.Prelude.{◌≡◌, ◌≤◌, ℕ, List, slice_range, Result, Ok, Err, IfOk}
use Rattle.std.specs.Borrow.{Bor}
use Rattle.rox_grammar.specs.declared.fault.Fault.{Fault}
use Rattle.rox_reading.specs.Lexical.{Read, chars_up_to}
use Rattle.rox_scan.specs.declared.cursor.Cursor.{Cursor}

-- The result, as `view` shows it, and the offset after it are what is read. After a fault the cursor's position is unspecified.
abbrev pub Reads : {A B : Type 0} → (A → B) → Cursor → Result A Fault → Read B → Type 0
Reads view after (Ok x) read = read ≡ Ok (view x, after.pos)
Reads view after (Err f) read = read ≡ Err f

-- A step of a cursor reads `read` from its offset, as `Reads` says. The source stays, and the cursor never goes back.
pub record Steps {A B : Type 0} (view : A → B) (old new : Cursor) (result : Result A Fault) (read : List ℕ → ℕ → Read B) : Type 0 where
  pub value : Reads view new result (read old.text.now old.pos)
  pub source : new.text ≡ old.text
  pub onward : old.pos ≤ new.pos

-- The cursor is at the offset `at` of the source `text`.
pub record IsAt (text : Bor (List ℕ)) (at : ℕ) (cursor : Cursor) : Type 0 where
  pub place : cursor.pos ≡ at
  pub source : cursor.text ≡ text

-- The cursor moved on to the offset `to` of its source.
pub record MovesTo (to : ℕ) (old new : Cursor) : Type 0 where
  pub place : new.pos ≡ to
  pub source : new.text ≡ old.text
  pub onward : old.pos ≤ new.pos

-- The text up to `end` is read if all its characters are Chars.
pub record ReadsChars (end : ℕ) (old new : Cursor) (result : Result (Bor (List ℕ)) Fault) : Type 0 where
  pub read : Steps (λ x. x.now) old new result (chars_up_to end)
  pub text : IfOk result (λ x. (x.now ≡ slice_range old.text.now old.pos end) × (new.pos ≡ end))
