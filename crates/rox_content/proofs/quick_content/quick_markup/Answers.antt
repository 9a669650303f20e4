use Rattle.std.proofs.Common.{ℕ, List, ◌+◌, ◌<◌, ◌^◌, slice_index, ne_eqb, refl, ap, ◌∙◌, arith}
use Rattle.rox_builder.specs.BuilderState.{IsInState, IsReady, IsReadyTo}
use Rattle.rox_builder.proofs.Stepping.{step_is_markup}
use Rattle.rox_sections.proofs.PlainReads.{keeps_same}
use Rattle.rox_values.proofs.MainValues.{of_main}
use Rattle.rox_content.proofs.quick_content.quick_markup.Goals as goal

pub returns-then-next-eq47 : goal.returns-then-next-eq47
returns-then-next-eq47 c = record {
  reads = record {
    value = λ yes context end s like h.
        rw (step_is_markup context c.args.cursor.now.text.now _ s c.args.cursor.now.pos 47 c.as_bytes-bytes.ensures.value h.here (ap (λ (xs : List ℕ). slice_index xs c.args.cursor.now.pos) c.as_bytes-bytes.ensures.value ∙ c.requires.here) c.if-cursor-bytes.false c.if-next-eq47.true (λ e. cc e))
        (c.close_element.ensures.value yes context end s like.around h);
    other = λ no. let o = c.close_element.ensures.other no in (o.0, keeps_same _ _ o.1);
    goes = c.close_element.ensures.goes;
  };
  ready = λ yes most h. (c.close_element.ensures.ready yes most h).ready;
  apart = λ yes _. (c.close_element.ensures.ready yes _ c.requires.room.ready).apart;
  moves = c.close_element.ensures.moves;
}

pub returns-then-next-le63 : goal.returns-then-next-le63
returns-then-next-le63 c = record {
  reads = record {
    value = λ _ context end s like h.
        c.put_delimited-behind.ensures.value (omega (arith, c.if-behind-gt-MOST_BYTES.false)) context end s c.args.cursor.now _ refl refl h;
    other = λ no. absurd (cc no);
    goes = record { source = refl; fine = c.put_delimited-behind.ensures.fine };
  };
  ready = λ _. c.put_delimited-behind.ensures.ready (omega (arith, c.if-behind-gt-MOST_BYTES.false));
  apart = λ _. c.put_delimited-behind.ensures.apart (omega (arith, c.if-behind-gt-MOST_BYTES.false));
  moves = λ _. c.put_delimited-behind.ensures.moves (omega (arith, c.if-behind-gt-MOST_BYTES.false));
}

pub returns-then-behind-gt-MOST_BYTES : goal.returns-then-behind-gt-MOST_BYTES
returns-then-behind-gt-MOST_BYTES c = grind arith

pub returns-then-element_of_name : goal.returns-then-element_of_name
returns-then-element_of_name c = record {
  reads = record {
    value = λ _ context end s like h.
        let i = c.args.cursor.now.pos in
        let b = slice_index c.as_bytes-bytes.result.now (i + 1) in
        let is = step_is_markup context c.args.cursor.now.text.now _ s i b c.as_bytes-bytes.ensures.value h.here (ap (λ (xs : List ℕ). slice_index xs c.args.cursor.now.pos) c.as_bytes-bytes.ensures.value ∙ c.requires.here) c.if-cursor-bytes.false refl (λ e. absurd (omega (arith, c.if-next-le63.false, e))) in
        rw (is, ne_eqb b 63 (λ e. absurd (omega (arith, c.if-next-le63.false, e))), ne_eqb b 47 (λ e. absurd (omega (arith, c.if-next-le63.false, e)))) (c.element_of_name.ensures.value c.if-element_of_name.true context end s (of_main _ context.values like.values) h);
    other = λ no. absurd (cc no);
    goes = c.element_of_name.ensures.goes;
  };
  ready = λ _ most h. (c.element_of_name.ensures.ready c.if-element_of_name.true most h).ready;
  apart = λ _ _. (c.element_of_name.ensures.ready c.if-element_of_name.true _ c.requires.room.ready).apart;
  moves = λ _. c.element_of_name.ensures.moves c.if-element_of_name.true;
}

pub returns : goal.returns
returns c =
    let same = (c.element_of_name.ensures.other c.if-element_of_name.false).1 in
    let read = c.element-end.ensures in
    let less : c.element-end.result < 2 ^ 32 = omega (arith, c.if-end-gt-MOST_BYTES.false) in
    record {
      reads = record {
        value = λ _ context end s like h.
            let i = c.args.cursor.now.pos in
            let b = slice_index c.as_bytes-bytes.result.now (i + 1) in
            let is = step_is_markup context c.args.cursor.now.text.now _ s i b c.as_bytes-bytes.ensures.value h.here (ap (λ (xs : List ℕ). slice_index xs c.args.cursor.now.pos) c.as_bytes-bytes.ensures.value ∙ c.requires.here) c.if-cursor-bytes.false refl (λ e. absurd (omega (arith, c.if-next-le63.false, e))) in
            let sees : IsInState context.limit end s c.args.cursor.now c.element_of_name.new.builder = rw same h in
            rw (is, ne_eqb b 63 (λ e. absurd (omega (arith, c.if-next-le63.false, e))), ne_eqb b 47 (λ e. absurd (omega (arith, c.if-next-le63.false, e))))
            (read.value less context end s c.args.cursor.now _ like.values refl refl sees);
        other = λ no. absurd (cc no);
        goes = record { source = c.element_of_name.ensures.goes.source; fine = read.fine };
      };
      ready = λ _ most h.
          let ready : IsReadyTo most c.element_of_name.new.builder = rw same h in
          (read.ready less most ready).ready;
      apart = λ _ _.
          let ready : IsReady 1 c.element_of_name.new.builder = rw same c.requires.room.ready in
          (read.ready less _ ready).apart;
      moves = λ _. read.moves less;
    }

pub returns-then-end-gt-MOST_BYTES : goal.returns-then-end-gt-MOST_BYTES
returns-then-end-gt-MOST_BYTES c = grind arith

pub element-end-requires : goal.element-end-requires
element-end-requires c = grind arith

pub invariant_of-cursor : goal.invariant_of-cursor
invariant_of-cursor c = grind arith

pub invariant_of-cursor-2 : goal.invariant_of-cursor-2
invariant_of-cursor-2 c = grind arith
