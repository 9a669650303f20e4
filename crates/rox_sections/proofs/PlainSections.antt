-- A step at `<![CDATA[`, and a fast path that reads nothing.
use Rattle.std.proofs.Common.{◌≡◌, ◌+◌, ℕ, true, false, List, length, slice_index, leb, refl, ap, ◌∙◌, arith, subst}
use Rattle.std.proofs.lemmas.Bool.{lt-leb}
use Rattle.rox_grammar.specs.declared.fault.Word.TheVariants as word
use Rattle.rox_grammar.specs.FixedTexts.{word_text}
use Rattle.rox_grammar.specs.Search.{stands}
use Rattle.rox_bytes.proofs.MarkLemmas.{fails, stands_fits, stands_reads}
use Rattle.rox_reading.specs.Machine.{Context, cdata_step, instruction_step, step}
use Rattle.rox_reading.specs.Refusals.{lifted}
use Rattle.rox_reading.specs.State.{State}

-- `<![CDATA[` starts a CDATA section.
pub step_is_section : (context : Context) (src : List ℕ) (s : State) (i : ℕ) → i ≡ s.at → stands (word_text word.CDataStart) src i ≡ true → step context src s ≡ lifted (cdata_step context.limit src s)
unfolding step
step_is_section context src s i e section =
    let mark = word_text word.CDataStart in
    let l : stands mark src s.at ≡ true = subst (λ (n : ℕ). stands mark src n ≡ true) e section in
    let x : slice_index src s.at ≡ 60 = ap (slice_index src) (omega arith) ∙ stands_reads mark src s.at 0 l (omega arith) in
    let bracket : slice_index src (s.at + 2) ≡ 91 = stands_reads mark src s.at 2 l (omega arith) in
    let other : stands (word_text word.CommentStart) src s.at ≡ false = fails _ (λ h. absurd (omega (arith, bracket, stands_reads (word_text word.CommentStart) src s.at 2 h (omega arith)))) in
    let k : leb (length src) (s.at + 1) ≡ false = lt-leb (length src) (s.at + 1) (omega (arith, stands_fits mark src s.at (omega arith) l)) in
    rw (x, k, (stands_reads mark src s.at 1 l (omega arith)), other, l) refl

-- `<?` starts a processing instruction.
pub step_is_instruction : (context : Context) (src : List ℕ) (s : State) (i : ℕ) → i ≡ s.at → stands (word_text word.PIStart) src i ≡ true → step context src s ≡ lifted (instruction_step context.limit src s)
unfolding step
step_is_instruction context src s i e instruction =
    let mark = word_text word.PIStart in
    let l : stands mark src s.at ≡ true = subst (λ (n : ℕ). stands mark src n ≡ true) e instruction in
    let x : slice_index src s.at ≡ 60 = ap (slice_index src) (omega arith) ∙ stands_reads mark src s.at 0 l (omega arith) in
    let k : leb (length src) (s.at + 1) ≡ false = lt-leb (length src) (s.at + 1) (omega (arith, stands_fits mark src s.at (omega arith) l)) in
    rw (x, k, (stands_reads mark src s.at 1 l (omega arith))) refl
