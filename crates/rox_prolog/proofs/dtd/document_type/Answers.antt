use Rattle.std.proofs.Common.{◌≡◌, ◌+◌, ◌<◌, ◌≤◌, ◌==◌, [], false, Ok, Err, sym, ap, ◌∙◌, length, lit<, rules, arith, leb-true, leb-false, eqb-true, ne_eqb}
use Rattle.std.proofs.lemmas.Grind.{common_steps}
use Rattle.std.specs.Prelude.{slice_index}
use Rattle.std.proofs.lemmas.Result.{err_from_is_err_and}
use Rattle.rox_reading.specs.Doctype.{with_state, doctype_head_at}
use Rattle.rox_reading.specs.Machine.{at_place}
use Rattle.rox_reading.proofs.Settling.{doctype_head_stops, doctype_cut_stops, doctype_plain, doctype_other_stops}
use Rattle.rox_prolog.specs.Requests.{Allows}
use Rattle.rox_prolog.proofs.Asking.{none_given}
use Rattle.rox_prolog.proofs.Items.{sees_at, with_subset}
use Rattle.rox_bytes.proofs.RunLemmas.{stands_within}
use Rattle.rox_prolog.proofs.dtd.document_type.Goals as goal

pub returns-in_err-doctype_head : goal.returns-in_err-doctype_head
returns-in_err-doctype_head g c = record {
  value = λ limit end d sees declared.
      let q = err_from_is_err_and c.from_residual.result c.from_residual.ensures.1 in
      let src = c.args.cursor.now.text.now in
      let h : doctype_head_at src d.state.at ≡ Err c.in_err-doctype_head.field-0.0 = rw sees.here at c.in_err-doctype_head.ensures.value in
      ([], none_given (Allows g.R.EntityResolver.allows c.args.resolver.now), rw (q.1, q.2) (doctype_head_stops limit src d c.in_err-doctype_head.field-0.0 h));
  goes = let p = err_from_is_err_and c.from_residual.result c.from_residual.ensures.1 in rw p.1 tt;
}

pub returns-then-is_at : goal.returns-then-is_at
returns-then-is_at g c = record {
  value = λ limit end d sees declared.
      let src = c.args.cursor.now.text.now in
      let same : c.doctype_head.new.cursor.text.now ≡ src = ap (λ t. t.now) c.doctype_head.ensures.source in
      let text : c.advance.new.self.text.now ≡ src = ap (λ t. t.now) c.advance.ensures.source ∙ same in
      let p = c.doctype_head.new.cursor.pos in
      let h : doctype_head_at src d.state.at ≡ Ok (tt, p) = rw sees.here at c.in_ok-doctype_head.ensures.value in
      let opens : slice_index src p ≡ 91 = rw same at (eqb-true _ _ (sym c.is_at.ensures ∙ c.if-is_at.true)) in
      let inside = stands_within src p 91 opens (lit< tt) in
      let seen = sees_at limit end d.state c.args.cursor.now c.advance.new.self c.args.builder.now (p + 1) sees c.advance.ensures.place in
      let k = c.subset.ensures.value limit end (with_state d (at_place (p + 1) d.state)) seen declared in
      with_subset limit end src (Allows g.R.EntityResolver.allows c.args.resolver.now) d p c.subset.new.cursor c.subset.new.builder c.subset.new.entities c.subset.result h inside opens (rw (text, sees.here) at k);
  goes = first_of (search rules, grind (arith, common_steps));
}

pub returns-then-is_at_end : goal.returns-then-is_at_end
returns-then-is_at_end g c = record {
  value = λ limit end d sees declared.
      let src = c.args.cursor.now.text.now in
      let p = c.doctype_head.new.cursor.pos in
      let out : length src ≤ p = rw (ap (λ t. t.now) c.doctype_head.ensures.source) at (leb-true _ _ (sym c.is_at_end.ensures ∙ c.if-is_at_end.true)) in
      ([], none_given (Allows g.R.EntityResolver.allows c.args.resolver.now), doctype_cut_stops limit src d tt p (rw sees.here at c.in_ok-doctype_head.ensures.value) out);
  goes = first_of (search rules, grind (arith, common_steps));
}

pub returns-then-here-ne62 : goal.returns-then-here-ne62
returns-then-here-ne62 g c = record {
  value = λ limit end d sees declared.
      let src = c.args.cursor.now.text.now in
      let same : c.doctype_head.new.cursor.text.now ≡ src = ap (λ t. t.now) c.doctype_head.ensures.source in
      let bytes : c.as_bytes.result.now ≡ src = c.as_bytes.ensures.value ∙ same in
      let p = c.doctype_head.new.cursor.pos in
      let h : doctype_head_at src d.state.at ≡ Ok (tt, p) = rw sees.here at c.in_ok-doctype_head.ensures.value in
      let inside : p < length src = rw same at (leb-false _ _ (sym c.is_at_end.ensures ∙ c.if-is_at_end.false)) in
      let other : (slice_index src p == 91) ≡ false = rw same at (sym c.is_at.ensures ∙ c.if-is_at.false) in
      let unclosed : (slice_index src p == 62) ≡ false = rw bytes at (ne_eqb _ _ c.if-here-ne62.true) in
      ([], none_given (Allows g.R.EntityResolver.allows c.args.resolver.now), rw bytes (doctype_other_stops limit src d tt p h inside unclosed other));
  goes = first_of (search rules, grind (arith, common_steps));
}

pub returns : goal.returns
returns g c = record {
  value = λ limit end d sees declared.
      let src = c.args.cursor.now.text.now in
      let same : c.doctype_head.new.cursor.text.now ≡ src = ap (λ t. t.now) c.doctype_head.ensures.source in
      let p = c.doctype_head.new.cursor.pos in
      let inside : p < length src = rw same at (leb-false _ _ (sym c.is_at_end.ensures ∙ c.if-is_at_end.false)) in
      let closes : slice_index src p ≡ 62 = rw (c.as_bytes.ensures.value ∙ same) at c.if-here-ne62.false in (
        [],
        none_given (Allows g.R.EntityResolver.allows c.args.resolver.now),
        record {
          dtd = with_state d (at_place (p + 1) d.state);
          answered = doctype_plain limit src d tt p (rw sees.here at c.in_ok-doctype_head.ensures.value) inside closes;
          sees = sees_at limit end d.state c.args.cursor.now c.advance-2.new.self c.args.builder.now (p + 1) sees c.advance-2.ensures.place;
          declared = declared;
        },
      );
  goes = first_of (search rules, grind (arith, common_steps));
}
