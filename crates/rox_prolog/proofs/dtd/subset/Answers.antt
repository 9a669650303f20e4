use Rattle.std.proofs.Common.{◌≡◌, ℕ, suc, ◌+◌, ◌-◌, ◌≤◌, List, Bool, Ok, Err, Result, sym, ap, ◌∙◌, refl, length, arith, rules, leb-true}
use Rattle.std.proofs.lemmas.Grind.{common_steps}
use Rattle.std.proofs.lemmas.Result.{err_from_is_err_and}
use Rattle.rox_reading.specs.Doctype as reading
use Rattle.rox_reading.specs.Doctype.{Asks, Dtd}
use Rattle.rox_reading.specs.Answering.{left_with}
use Rattle.rox_prolog.specs.Requests.{Reply, Allows}
use Rattle.rox_prolog.specs.Asking.{IsSubsetSoFar, ItemOutcome}
use Rattle.rox_builder.specs.declared.builder.Builder.{Builder}
use Rattle.rox_values.specs.declared.entities.Entities.{Entities}
use Rattle.rox_values.specs.declared.parse_error.ParseError.{ParseError}
use Rattle.rox_scan.specs.declared.cursor.Cursor.{Cursor}
use Rattle.rox_prolog.proofs.Items.{none_yet, text_ends, turns_end}
use Rattle.rox_prolog.proofs.dtd.subset.Goals as goal

pub loop-turn-init : goal.loop-turn-init
loop-turn-init g c = record {
  source = refl;
  fine = c.requires.fine;
  reads = λ limit end d sees declared.
      let src = c.args.cursor.now.text.now in
      let all : length src - 0 ≡ length src = omega arith in
      none_yet limit end c.args.start (length src - 0) src (Allows g.R.EntityResolver.allows c.args.resolver.now) d c.args.cursor.now c.args.builder.now c.args.entities.now all sees declared;
}

pub returns-then-is_at_end : goal.returns-then-is_at_end
returns-then-is_at_end g c = record {
  value = λ limit end d sees declared.
      let src = c.args.cursor.now.text.now in
      let n = length src - c.loop-turn._turn in
      let k = c.loop-turn.invariant.reads limit end d sees declared in
      let outside : length src ≤ c.loop-turn.cursor.pos = rw (ap (λ t. t.now) c.loop-turn.invariant.source) at (leb-true _ _ (sym c.is_at_end.ensures ∙ c.if-is_at_end.true)) in
      (k.asked, k.given, text_ends limit end c.args.start n src _ _ c.loop-turn.cursor c.loop-turn.builder c.loop-turn.entities k (n - 1) (omega arith) outside);
  goes = first_of (search rules, grind (arith, common_steps));
}

-- the item's turn, over the text as it was at the start
turned : (limit end i n m : ℕ) (src text : List ℕ) (allows : _) (run : List Reply → Asks Dtd) (c e : Cursor) (b u : Builder) (es fs : Entities) (r : Result Bool ParseError) → text ≡ src
    → (IsSubsetSoFar limit end i n text allows run c b es → ItemOutcome limit end i m text allows run e u fs r) → IsSubsetSoFar limit end i n src allows run c b es → ItemOutcome limit end i m src allows run e u fs r
turned limit end i n m src text allows run c e b u es fs r same item going = grind arith

pub returns-in_err-item : goal.returns-in_err-item
returns-in_err-item g c = record {
  value = λ limit end d sees declared.
      let q = err_from_is_err_and c.from_residual.result c.from_residual.ensures.1 in
      let src = c.args.cursor.now.text.now in
      let n = length src - c.loop-turn._turn in
      let one : n ≡ suc (n - 1) = omega arith in
      let k = c.loop-turn.invariant.reads limit end d sees declared in
      let run : List Reply → Asks Dtd = λ replies. reading.subset limit c.args.start (length src) src (left_with replies d) in
      rw (q.1, q.2)
      (turned limit end c.args.start n (n - 1) src c.loop-turn.cursor.text.now (Allows g.R.EntityResolver.allows c.args.resolver.now) run c.loop-turn.cursor c.item.new.cursor c.loop-turn.builder
      c.item.new.builder c.loop-turn.entities c.item.new.entities (Err c.in_err-item.field-0.0) (ap (λ t. t.now) c.loop-turn.invariant.source) (c.in_err-item.ensures.value limit end n (n - 1) run one) k);
  goes = let p = err_from_is_err_and c.from_residual.result c.from_residual.ensures.1 in rw p.1 tt;
}

pub returns-then-branch : goal.returns-then-branch
returns-then-branch g c = record {
  value = λ limit end d sees declared.
      let src = c.args.cursor.now.text.now in
      let n = length src - c.loop-turn._turn in
      let one : n ≡ suc (n - 1) = omega arith in
      let k = c.loop-turn.invariant.reads limit end d sees declared in
      let run : List Reply → Asks Dtd = λ replies. reading.subset limit c.args.start (length src) src (left_with replies d) in
      rw c.if-branch.true at
      (turned limit end c.args.start n (n - 1) src c.loop-turn.cursor.text.now (Allows g.R.EntityResolver.allows c.args.resolver.now) run c.loop-turn.cursor c.item.new.cursor c.loop-turn.builder
      c.item.new.builder c.loop-turn.entities c.item.new.entities (Ok c.in_ok-item.field-0) (ap (λ t. t.now) c.loop-turn.invariant.source) (c.in_ok-item.ensures.value limit end n (n - 1) run one) k);
  goes = first_of (search rules, grind (arith, common_steps));
}

pub loop-turn-preserved : goal.loop-turn-preserved
loop-turn-preserved g c = record {
  source = c.in_ok-item.ensures.goes.source ∙ c.loop-turn.invariant.source;
  fine = c.in_ok-item.ensures.goes.fine;
  reads = λ limit end d sees declared.
      let src = c.args.cursor.now.text.now in
      let n = length src - c.loop-turn._turn in
      let m = length src - (c.loop-turn._turn + 1) in
      let one : n ≡ suc m = omega arith in
      let k = c.loop-turn.invariant.reads limit end d sees declared in
      let run : List Reply → Asks Dtd = λ replies. reading.subset limit c.args.start (length src) src (left_with replies d) in
      rw c.if-branch.false at
      (turned limit end c.args.start n m src c.loop-turn.cursor.text.now (Allows g.R.EntityResolver.allows c.args.resolver.now) run c.loop-turn.cursor c.item.new.cursor c.loop-turn.builder
      c.item.new.builder c.loop-turn.entities c.item.new.entities (Ok c.in_ok-item.field-0) (ap (λ t. t.now) c.loop-turn.invariant.source) (c.in_ok-item.ensures.value limit end n m run one) k);
}

pub returns : goal.returns
returns g c = record {
  value = λ limit end d sees declared.
      let src = c.args.cursor.now.text.now in
      let t = c.loop-turn-test.false in
      let k = c.loop-turn.invariant.reads limit end d sees declared in
      (k.asked, k.given, turns_end limit end c.args.start (length src - c.loop-turn._turn) src _ _ c.loop-turn.cursor c.loop-turn.builder c.loop-turn.entities k (omega arith));
  goes = first_of (search rules, grind (arith, common_steps));
}

pub item-requires : goal.item-requires
item-requires g c = grind arith
