use Rattle.std.proofs.Common.{ap, refl, rules, arith}
use Rattle.std.proofs.lemmas.Grind.{common_steps}
use Rattle.std.proofs.lemmas.Result.{err_from_is_err_and}
use Rattle.rox_reading.specs.State.{start_state}
use Rattle.rox_prolog.proofs.Prologs.{declaration_fails, declaration_read}
use Rattle.rox_prolog.proofs.Items.{sees_at}
use Rattle.rox_prolog.proofs.prolog.prolog_start.Goals as goal

pub returns-in_err-xml_decl_if : goal.returns-in_err-xml_decl_if
returns-in_err-xml_decl_if c = record {
  value = λ limit end here sees.
      let q = err_from_is_err_and c.from_residual.result c.from_residual.ensures.1 in
      rw (q.1, q.2) (declaration_fails limit c.args.cursor.now.text.now c.in_err-xml_decl_if.field-0.0 (rw here at c.in_err-xml_decl_if.ensures.value));
  goes = let p = err_from_is_err_and c.from_residual.result c.from_residual.ensures.1 in rw p.1 tt;
}

pub returns : goal.returns
returns c = record {
  value = λ limit end here sees.
      let j = c.xml_decl_if.new.cursor.pos in
      let k = c.misc.ensures.value limit end (start_state j) (sees_at limit end (start_state c.args.cursor.now.pos) c.args.cursor.now c.xml_decl_if.new.cursor c.args.builder.now j sees refl) in
      rw (declaration_read limit c.args.cursor.now.text.now j (rw here at c.in_ok-xml_decl_if.ensures.value)) (rw (ap (λ t. t.now) c.xml_decl_if.ensures.source) at k);
  goes = first_of (search rules, grind (arith, common_steps));
}
