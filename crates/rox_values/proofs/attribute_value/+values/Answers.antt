use Rattle.std.proofs.Common.{◌≡◌, ◌+◌, ◌-◌, ◌++◌, ℕ, false, List, Ok, length, ap, sym, ◌∙◌, arith, refl, string_bytes}
use Rattle.std.proofs.lemmas.Result.{err_from_is_err_and}
use Rattle.rox_reading.specs.Machine.{value_opener}
use Rattle.rox_scan.specs.Views.{replacement_view}
use Rattle.rox_values.proofs.PartLemmas.{value_opens, value_fails, value_opens_fails, value_done}
use Rattle.rox_values.proofs.PlainTexts.{plain_reads, to_end}
use Rattle.rox_values.proofs.ValueOpening.{opens_err, opens_reads, opens_refuses}
use Rattle.rox_values.proofs.attribute_value.+values.Goals as goal

pub open_value-returns-in_err-within : goal.open_value-returns-in_err-within
open_value-returns-in_err-within t c = grind (arith, opens_err)

pub open_value-returns-then-skip_set-text : goal.open_value-returns-then-skip_set-text
open_value-returns-then-skip_set-text t c = λ es declared.
    let src = c.args.text.text.now in
    let inner = c.in_ok-within.inner in
    let old = string_bytes c.args.out.now in
    let put = (rw (c.is_err.ensures.negation, c.if-is_err.false) at c.push_str.ensures.bytes) ∙ ap (λ (xs : List ℕ). old ++ xs) (c.range_from.ensures.value ∙ to_end src c.args.text.pos) in
    let depth = c.args.context.depth_left - 1 in
    let read = plain_reads src c.args.text.pos inner es (value_opener es depth false) old c.args.text.utf8 c.args.text.cut (λ k low high. c.skip_set.ensures.passes k low (omega (arith, high, c.if-skip_set-text.true))) in
    rw c.left_behind.ensures
    (opens_reads es c.args.context.depth_left depth c.args.context.main (replacement_view c.args.text) c.args.after c.args.openings_left inner inner old (string_bytes c.push_str.new.self) refl
    c.in_ok-within.ensures.value (read ∙ ap (λ (xs : List ℕ). Ok (xs, inner)) (sym put)))

pub open_value-returns-in-Ok : goal.open_value-returns-in-Ok
open_value-returns-in-Ok t c = λ es declared.
    let w = c.in_ok-within.ensures.context in
    let read = rw w at (c.in-Ok.ensures es (length c.args.text.text.now) (rw w declared) (omega arith)) in
    rw c.left_behind-in-Ok.ensures
    (opens_reads es c.args.context.depth_left (c.args.context.depth_left - 1) c.args.context.main (replacement_view c.args.text) c.args.after c.args.openings_left c.in_ok-within.inner c.in-Ok.inner (string_bytes c.args.out.now) (string_bytes c.value_text.new.out) refl
    c.in_ok-within.ensures.value read)

pub open_value-returns-in-Err : goal.open_value-returns-in-Err
open_value-returns-in-Err t c = λ es declared.
    let w = c.in_ok-within.ensures.context in
    let read = rw w at (c.in-Err.ensures es (length c.args.text.text.now) (rw w declared) (omega arith)) in
    grind (arith, opens_refuses)

pub value_text-bits-init : goal.value_text-bits-init
value_text-bits-init t c = record {
  cut = c.args.from.cut;
  reads = λ es bits declared enough. (bits, (enough, refl));
}

pub value_text-returns : goal.value_text-returns
value_text-returns t c = λ es bits declared enough.
    let l = c.bits in
    sym (l.invariant.reads es bits declared enough).1.1 ∙ value_done c.args.context.main es _ l.openings_left (string_bytes l.out) _ _ _ _ (omega arith)

pub value_text-returns-then-at-stop : goal.value_text-returns-then-at-stop
value_text-returns-then-at-stop t c = λ es bits declared enough.
    let l = c.bits in
    let main = c.args.context.main in
    let opener = value_opener es c.args.context.depth_left main in
    let r = l.invariant.reads es bits declared enough in
    let p = c.put_plain_bits-at.ensures.puts.reads r.0 r.1.0 in
    sym (p.1.1 es opener l.openings_left ∙ r.1.1) ∙ value_done main es opener l.openings_left (string_bytes c.put_plain_bits-at.new.out) _ _ _ _ (omega arith)

pub value_text-returns-in_err-named : goal.value_text-returns-in_err-named
value_text-returns-in_err-named t c = λ es bits declared enough.
    let p = err_from_is_err_and c.from_residual.result c.from_residual.ensures.1 in
    let main = c.args.context.main in
    let opener = value_opener es c.args.context.depth_left main in
    let r = c.bits.invariant.reads es bits declared enough in
    let q = c.put_plain_bits-at.ensures.puts.reads r.0 r.1.0 in
    rw (p.1, p.2) (grind (arith, value_fails))

pub value_text-returns-in_err-openings_left : goal.value_text-returns-in_err-openings_left
value_text-returns-in_err-openings_left t c = λ es bits declared enough.
    let p = err_from_is_err_and c.from_residual-in_err-openings_left.result c.from_residual-in_err-openings_left.ensures.1 in
    let main = c.args.context.main in
    let opener = value_opener es c.args.context.depth_left main in
    let r = c.bits.invariant.reads es bits declared enough in
    let q = c.put_plain_bits-at.ensures.puts.reads r.0 r.1.0 in
    rw (p.1, p.2) (grind (arith, value_opens_fails))

pub value_text-bits-preserved : goal.value_text-bits-preserved
value_text-bits-preserved t c = record {
  cut = c.in_ok-named.ensures.cut;
  reads = λ es bits declared enough.
      let main = c.args.context.main in
      let opener = value_opener es c.args.context.depth_left main in
      let r = c.bits.invariant.reads es bits declared enough in
      let q = c.put_plain_bits-at.ensures.puts.reads r.0 r.1.0 in
      let left = q.0 in
      let room = q.1.0 in
      let on = c.in_ok-named.ensures.onward in
      let one : (left - 1) + 1 ≡ left = omega arith in (
        left - 1,
        (grind (arith, value_opens)),
      );
}
