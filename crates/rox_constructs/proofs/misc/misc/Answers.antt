use Rattle.std.proofs.Common.{◌≡◌, ◌-◌, ◌+◌, suc, true, false, sym, ap, ◌∙◌, arith, length, rules}
use Rattle.std.proofs.lemmas.Result.{err_from_is_err_and}
use Rattle.rox_grammar.specs.declared.fault.Word.TheVariants as word
use Rattle.rox_grammar.specs.Names.{spaces_end}
use Rattle.rox_grammar.specs.FixedTexts.{at}
use Rattle.rox_reading.specs.Refusals.{lifted}
use Rattle.rox_values.specs.Refusals.{IsFailure}
use Rattle.rox_scan.specs.declared.cursor.Cursor.{Cursor}
use Rattle.rox_reading.specs.Machine.{comment_step, instruction_step}
use Rattle.rox_constructs.proofs.MiscLoop.{spaced, sees_spaced, comment_on, instruction_on, comment_fails, instruction_fails, misc_done, misc_spent}
use Rattle.rox_constructs.proofs.misc.misc.Goals as goal
use Rattle.rox_constructs.proofs.misc.misc.Goals.{then-starts+in_ok-comment, else-starts+then-starts-2+in_ok-instruction}

pub returns-in_err-comment : goal.returns-in_err-comment
returns-in_err-comment c = record {
  value = λ limit end s sees.
      let src = c.args.cursor.now.text.now in
      let n = length src - c.loop-turn._turn in
      let s0 = ap (λ t. t.now) c.loop-turn.invariant.source in
      let sp = ap (λ t. t.now) c.spaces.ensures.source ∙ s0 in
      let g = c.loop-turn.invariant.reads limit end s sees in
      let next : c.spaces.new.self.pos ≡ spaces_end src c.loop-turn.cursor.pos = rw s0 at c.spaces.ensures.place in
      let seen = sees_spaced limit end src g.s c.loop-turn.cursor c.spaces.new.self c.loop-turn.builder g.sees next in
      let is : at word.CommentStart src (spaces_end src g.s.at) ≡ true = rw (sp, (next ∙ ap (spaces_end src) g.sees.here)) at (sym c.starts.ensures ∙ c.if-starts.true) in
      let q = err_from_is_err_and c.from_residual.result c.from_residual.ensures.1 in
      let fails : IsFailure c.in_err-comment.field-0.0 (lifted (comment_step limit src (spaced src g.s))) = rw sp at (c.in_err-comment.ensures.value limit end (spaced src g.s) seen) in
      rw (q.1, q.2) (comment_fails limit end src _ n (n - 1) c.loop-turn.cursor c.loop-turn.builder c.in_err-comment.field-0.0 g (omega arith) is fails);
  goes = let q = err_from_is_err_and c.from_residual.result c.from_residual.ensures.1 in rw q.1 tt;
}

pub returns-in_err-instruction : goal.returns-in_err-instruction
returns-in_err-instruction c = record {
  value = λ limit end s sees.
      let src = c.args.cursor.now.text.now in
      let n = length src - c.loop-turn._turn in
      let s0 = ap (λ t. t.now) c.loop-turn.invariant.source in
      let sp = ap (λ t. t.now) c.spaces.ensures.source ∙ s0 in
      let g = c.loop-turn.invariant.reads limit end s sees in
      let next : c.spaces.new.self.pos ≡ spaces_end src c.loop-turn.cursor.pos = rw s0 at c.spaces.ensures.place in
      let seen = sees_spaced limit end src g.s c.loop-turn.cursor c.spaces.new.self c.loop-turn.builder g.sees next in
      let p : c.spaces.new.self.pos ≡ spaces_end src g.s.at = next ∙ ap (spaces_end src) g.sees.here in
      let other : at word.CommentStart src (spaces_end src g.s.at) ≡ false = rw (sp, p) at (sym c.starts.ensures ∙ c.if-starts.false) in
      let is : at word.PIStart src (spaces_end src g.s.at) ≡ true = rw (sp, p) at (sym c.starts-else-starts.ensures ∙ c.if-starts-2.true) in
      let q = err_from_is_err_and c.from_residual-in_err-instruction.result c.from_residual-in_err-instruction.ensures.1 in
      let fails : IsFailure c.in_err-instruction.field-0.0 (lifted (instruction_step limit src (spaced src g.s))) = rw sp at (c.in_err-instruction.ensures.value limit end (spaced src g.s) seen) in
      rw (q.1, q.2) (instruction_fails limit end src _ n (n - 1) c.loop-turn.cursor c.loop-turn.builder c.in_err-instruction.field-0.0 g (omega arith) other is fails);
  goes = let q = err_from_is_err_and c.from_residual-in_err-instruction.result c.from_residual-in_err-instruction.ensures.1 in rw q.1 tt;
}

pub returns-else-starts-2 : goal.returns-else-starts-2
returns-else-starts-2 c = record {
  value = λ limit end s sees.
      let src = c.args.cursor.now.text.now in
      let n = length src - c.loop-turn._turn in
      let s0 = ap (λ t. t.now) c.loop-turn.invariant.source in
      let sp = ap (λ t. t.now) c.spaces.ensures.source ∙ s0 in
      let g = c.loop-turn.invariant.reads limit end s sees in
      let next : c.spaces.new.self.pos ≡ spaces_end src c.loop-turn.cursor.pos = rw s0 at c.spaces.ensures.place in
      let p : c.spaces.new.self.pos ≡ spaces_end src g.s.at = next ∙ ap (spaces_end src) g.sees.here in
      let other : at word.CommentStart src (spaces_end src g.s.at) ≡ false = rw (sp, p) at (sym c.starts.ensures ∙ c.if-starts.false) in
      let also : at word.PIStart src (spaces_end src g.s.at) ≡ false = rw (sp, p) at (sym c.starts-else-starts.ensures ∙ c.if-starts-2.false) in
      misc_done limit end src _ n (n - 1) c.loop-turn.cursor c.spaces.new.self c.loop-turn.builder g (omega arith) other also next;
  goes = search rules;
}

pub loop-turn-preserved : goal.loop-turn-preserved
loop-turn-preserved c = elim c.if-starts.branch [
  | then-starts+in_ok-comment w ↦ record {
    source = ap (λ (x : Cursor). x.text) w.cursor-is ∙ w.in_ok-comment.ensures.goes.source ∙ c.spaces.ensures.source ∙ c.loop-turn.invariant.source;
    fine = rw w.builder-is w.in_ok-comment.ensures.goes.fine;
    reads = λ limit end s sees.
        let src = c.args.cursor.now.text.now in
        let n = length src - c.loop-turn._turn in
        let one : n ≡ suc (length src - (c.loop-turn._turn + 1)) = omega arith in
        let s0 = ap (λ t. t.now) c.loop-turn.invariant.source in
        let sp = ap (λ t. t.now) c.spaces.ensures.source ∙ s0 in
        let g = c.loop-turn.invariant.reads limit end s sees in
        let next : c.spaces.new.self.pos ≡ spaces_end src c.loop-turn.cursor.pos = rw s0 at c.spaces.ensures.place in
        let seen = sees_spaced limit end src g.s c.loop-turn.cursor c.spaces.new.self c.loop-turn.builder g.sees next in
        let p : c.spaces.new.self.pos ≡ spaces_end src g.s.at = next ∙ ap (spaces_end src) g.sees.here in
        let is : at word.CommentStart src (spaces_end src g.s.at) ≡ true = rw (sp, p) at (sym c.starts.ensures ∙ w.if-starts.true) in
        let stepped = rw sp at (w.in_ok-comment.ensures.value limit end (spaced src g.s) seen) in
        rw (w.cursor-is, w.builder-is) (comment_on limit end src _ n (length src - (c.loop-turn._turn + 1)) c.loop-turn.cursor _ c.loop-turn.builder _ _ g one is stepped);
  }
  | else-starts+then-starts-2+in_ok-instruction w ↦ record {
    source = ap (λ (x : Cursor). x.text) w.cursor-is ∙ w.in_ok-instruction.ensures.goes.source ∙ c.spaces.ensures.source ∙ c.loop-turn.invariant.source;
    fine = rw w.builder-is w.in_ok-instruction.ensures.goes.fine;
    reads = λ limit end s sees.
        let src = c.args.cursor.now.text.now in
        let n = length src - c.loop-turn._turn in
        let one : n ≡ suc (length src - (c.loop-turn._turn + 1)) = omega arith in
        let s0 = ap (λ t. t.now) c.loop-turn.invariant.source in
        let sp = ap (λ t. t.now) c.spaces.ensures.source ∙ s0 in
        let g = c.loop-turn.invariant.reads limit end s sees in
        let next : c.spaces.new.self.pos ≡ spaces_end src c.loop-turn.cursor.pos = rw s0 at c.spaces.ensures.place in
        let seen = sees_spaced limit end src g.s c.loop-turn.cursor c.spaces.new.self c.loop-turn.builder g.sees next in
        let p : c.spaces.new.self.pos ≡ spaces_end src g.s.at = next ∙ ap (spaces_end src) g.sees.here in
        let other : at word.CommentStart src (spaces_end src g.s.at) ≡ false = rw (sp, p) at (sym c.starts.ensures ∙ w.if-starts.false) in
        let is : at word.PIStart src (spaces_end src g.s.at) ≡ true = rw (sp, p) at (sym w.starts-else-starts.ensures ∙ w.if-starts-2.true) in
        let stepped = rw sp at (w.in_ok-instruction.ensures.value limit end (spaced src g.s) seen) in
        rw (w.cursor-is, w.builder-is) (instruction_on limit end src _ n (length src - (c.loop-turn._turn + 1)) c.loop-turn.cursor _ c.loop-turn.builder _ _ g one other is stepped);
  }
]

pub returns : goal.returns
returns c = record {
  value = λ limit end s sees.
      let t = c.loop-turn-test.false in
      misc_spent limit end c.args.cursor.now.text.now _ _ c.loop-turn.cursor c.loop-turn.builder (c.loop-turn.invariant.reads limit end s sees) (omega arith);
  goes = search rules;
}

pub comment-requires : goal.comment-requires
comment-requires c = record { here = sym c.starts.ensures ∙ c.if-starts.true; fine = c.loop-turn.invariant.fine }

pub instruction-requires : goal.instruction-requires
instruction-requires c = record { here = sym c.starts-else-starts.ensures ∙ c.if-starts-2.true; fine = c.loop-turn.invariant.fine }
