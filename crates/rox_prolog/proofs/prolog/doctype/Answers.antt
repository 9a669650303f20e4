use Rattle.std.proofs.Common.{◌≡◌, [], true, false, sym, ap, ◌∙◌, rules, arith}
use Rattle.std.proofs.lemmas.Grind.{common_steps}
use Rattle.std.proofs.lemmas.Result.{err_from_is_err_and}
use Rattle.rox_grammar.specs.declared.fault.Word.TheVariants as word
use Rattle.rox_grammar.specs.FixedTexts.{at}
use Rattle.rox_reading.specs.Doctype.{with_state}
use Rattle.rox_reading.proofs.Settling.{no_doctype_here, forbidden_stops, doctype_stops, doctype_read, doctype_run, step_run}
use Rattle.rox_prolog.specs.Requests.{Allows}
use Rattle.rox_prolog.proofs.Asking.{none_given, stops_by}
use Rattle.rox_values.proofs.Lifting.{lifted_ok}
use Rattle.rox_prolog.proofs.Prologs.{behind_fails}
use Rattle.rox_prolog.proofs.prolog.doctype.Goals as goal

pub returns-then-not-starts : goal.returns-then-not-starts
returns-then-not-starts g c = record {
  value = λ limit end d sees declared.
      let src = c.args.cursor.now.text.now in
      let h : at word.DoctypeStart src d.state.at ≡ false = rw sees.here at (sym c.starts.ensures ∙ c.if-not-starts.true) in (
        [],
        none_given (Allows g.R.EntityResolver.allows c.args.resolver.now),
        record { read = record { dtd = d; answered = no_doctype_here limit c.args.allow src d h; sees = sees; declared = declared }; told = sym h },
      );
  goes = first_of (search rules, grind (arith, common_steps));
}

pub returns-then-not-allow : goal.returns-then-not-allow
returns-then-not-allow g c = record {
  value = λ limit end d sees declared.
      let src = c.args.cursor.now.text.now in
      let h : at word.DoctypeStart src d.state.at ≡ true = rw sees.here at (sym c.starts.ensures ∙ c.if-not-starts.false) in
      ([], none_given (Allows g.R.EntityResolver.allows c.args.resolver.now), forbidden_stops limit c.args.allow src d h c.if-not-allow.true);
  goes = first_of (search rules, grind (arith, common_steps));
}

pub returns-in_err-document_type : goal.returns-in_err-document_type
returns-in_err-document_type g c = record {
  value = λ limit end d sees declared.
      let q = err_from_is_err_and c.from_residual.result c.from_residual.ensures.1 in
      let src = c.args.cursor.now.text.now in
      let h : at word.DoctypeStart src d.state.at ≡ true = rw sees.here at (sym c.starts.ensures ∙ c.if-not-starts.false) in
      let x = c.in_err-document_type.ensures.value limit end d sees declared in (
        x.0,
        x.1,
        rw (q.1, q.2)
            (stops_by (Allows g.R.EntityResolver.allows c.args.resolver.now) (step_run limit src d) (doctype_run limit c.args.allow src d) x.0 x.0
            (λ f k. doctype_stops limit c.args.allow src d h c.if-not-allow.false x.0 f k) c.in_err-document_type.field-0.0 x.2),
      );
  goes = let p = err_from_is_err_and c.from_residual.result c.from_residual.ensures.1 in rw p.1 tt;
}

pub returns-in_err-misc : goal.returns-in_err-misc
returns-in_err-misc g c = record {
  value = λ limit end d sees declared.
      let q = err_from_is_err_and c.from_residual-in_err-misc.result c.from_residual-in_err-misc.ensures.1 in
      let src = c.args.cursor.now.text.now in
      let h : at word.DoctypeStart src d.state.at ≡ true = rw sees.here at (sym c.starts.ensures ∙ c.if-not-starts.false) in
      let x = c.in_ok-document_type.ensures.value limit end d sees declared in
      let same = ap (λ t. t.now) c.in_ok-document_type.ensures.goes.source in
      let k = c.in_err-misc.ensures.value limit end x.2.dtd.state x.2.sees in (
        x.0,
        x.1,
        rw (q.1, q.2)
            (behind_fails (Allows g.R.EntityResolver.allows c.args.resolver.now) limit c.args.allow src d x.2.dtd x.0 c.in_err-misc.field-0.0 h c.if-not-allow.false x.2.answered (rw same at k)),
      );
  goes = let p = err_from_is_err_and c.from_residual-in_err-misc.result c.from_residual-in_err-misc.ensures.1 in rw p.1 tt;
}

pub returns : goal.returns
returns g c = record {
  value = λ limit end d sees declared.
      let src = c.args.cursor.now.text.now in
      let h : at word.DoctypeStart src d.state.at ≡ true = rw sees.here at (sym c.starts.ensures ∙ c.if-not-starts.false) in
      let x = c.in_ok-document_type.ensures.value limit end d sees declared in
      let k = c.in_ok-misc.ensures.value limit end x.2.dtd.state x.2.sees in
      let m = lifted_ok _ k.0 (rw (ap (λ t. t.now) c.in_ok-document_type.ensures.goes.source) at k.1) in (
        x.0,
        x.1,
        record {
          read = record {
            dtd = with_state x.2.dtd k.0;
            answered = doctype_read limit c.args.allow src d h c.if-not-allow.false x.0 x.2.dtd k.0 x.2.answered m;
            sees = k.2;
            declared = x.2.declared;
          };
          told = sym h;
        },
      );
  goes = first_of (search rules, grind (arith, common_steps));
}

pub document_type-requires : goal.document_type-requires
document_type-requires g c = let may = c.requires.may c.if-not-allow.false in grind (arith, may)
