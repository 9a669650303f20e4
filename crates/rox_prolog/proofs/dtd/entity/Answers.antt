use Rattle.std.proofs.Common.{◌≡◌, ℕ, List, [], Ok, Err, sym, ap, subst, ◌∙◌, refl, rules, arith, append-nil}
use Rattle.std.proofs.lemmas.Grind.{common_steps}
use Rattle.std.proofs.lemmas.Result.{err_from_is_err_and}
use Rattle.std.specs.Prelude.{option_map}
use Rattle.rox_grammar.specs.Names.{spaces_end}
use Rattle.rox_grammar.specs.Entities.{Entity}
use Rattle.rox_reading.specs.Doctype.{EntityHead, entity_head_at, definition_at, defined}
use Rattle.rox_reading.specs.Lexical.{byte_at}
use Rattle.rox_reading.proofs.Settling.{entity_run, head_stops, definition_stops, declared_there}
use Rattle.rox_prolog.specs.Requests.{Allows}
use Rattle.rox_markup.specs.DoctypeViews.{definition_view, head_view}
use Rattle.rox_scan.specs.Views.{replacement_view}
use Rattle.rox_values.specs.DeclaredEntities.{AreDeclared}
use Rattle.rox_prolog.proofs.Asking.{none_given, stops_by, definition_refused, entity_unclosed, entity_read}
use Rattle.rox_prolog.proofs.dtd.entity.Goals as goal
use Rattle.rox_prolog.proofs.dtd.entity.Goals.{in-Some+in_ok-declare, in_default}

pub returns-in_err-head : goal.returns-in_err-head
returns-in_err-head g c = record {
  value = λ d at es.
      let q = err_from_is_err_and c.from_residual.result c.from_residual.ensures.1 in
      let src = c.args.cursor.now.text.now in
      let h = subst (λ (n : ℕ). entity_head_at src n ≡ Err c.in_err-head.field-0.0) at c.in_err-head.ensures.value in
      ([], none_given (Allows g.R.EntityResolver.allows c.args.resolver.now), rw (q.1, q.2) (head_stops src d c.in_err-head.field-0.0 h));
  source = first_of (search rules, grind (arith, common_steps));
}

pub returns-in_err-definition : goal.returns-in_err-definition
returns-in_err-definition g c = record {
  value = λ d at es.
      let q = err_from_is_err_and c.from_residual-in_err-definition.result c.from_residual-in_err-definition.ensures.1 in
      let src = c.args.cursor.now.text.now in
      let same = ap (λ t. t.now) c.entity_head.ensures.source in
      let head : EntityHead × ℕ = (head_view c.in_ok-head.head, c.entity_head.new.cursor.pos) in
      let h = subst (λ (n : ℕ). entity_head_at src n ≡ Ok head) at c.in_ok-head.ensures.value in
      let k : definition_at c.in_ok-head.head.parameter src c.entity_head.new.cursor.pos ≡ Err c.in_err-definition.field-0.0 = rw same at c.in_err-definition.ensures.value in
      ([], none_given (Allows g.R.EntityResolver.allows c.args.resolver.now), rw (q.1, q.2) (definition_stops src d head h c.in_err-definition.field-0.0 k));
  source = first_of (search rules, grind (arith, common_steps));
}

pub returns-in_err-text : goal.returns-in_err-text
returns-in_err-text g c = record {
  value = λ d at es.
      let allows = Allows g.R.EntityResolver.allows c.args.resolver.now in
      let q = err_from_is_err_and c.from_residual-in_err-text.result c.from_residual-in_err-text.ensures.1 in
      let src = c.args.cursor.now.text.now in
      let same = ap (λ t. t.now) c.entity_head.ensures.source in
      let head : EntityHead × ℕ = (head_view c.in_ok-head.head, c.entity_head.new.cursor.pos) in
      let h = subst (λ (n : ℕ). entity_head_at src n ≡ Ok head) at c.in_ok-head.ensures.value in
      let definition = definition_view c.in_ok-definition.definition in
      let j = c.entity_def.new.cursor.pos in
      let k : definition_at c.in_ok-head.head.parameter src c.entity_head.new.cursor.pos ≡ Ok (definition, j) = rw same at c.in_ok-definition.ensures.value in
      let x = c.in_err-text.ensures in (
        x.0,
        x.1,
        rw (q.1, q.2) (stops_by allows (defined definition j) (entity_run src d) x.0 x.0 (definition_refused src d head h definition j k x.0) c.in_err-text.field-0.0 x.2),
      );
  source = first_of (search rules, grind (arith, common_steps));
}

pub returns-in_err-byte : goal.returns-in_err-byte
returns-in_err-byte g c = record {
  value = λ d at es.
      let q = err_from_is_err_and c.from_residual-in_err-byte.result c.from_residual-in_err-byte.ensures.1 in
      let src = c.args.cursor.now.text.now in
      let same = ap (λ t. t.now) c.entity_head.ensures.source in
      let head : EntityHead × ℕ = (head_view c.in_ok-head.head, c.entity_head.new.cursor.pos) in
      let h = subst (λ (n : ℕ). entity_head_at src n ≡ Ok head) at c.in_ok-head.ensures.value in
      let definition = definition_view c.in_ok-definition.definition in
      let j = c.entity_def.new.cursor.pos in
      let k : definition_at c.in_ok-head.head.parameter src c.entity_head.new.cursor.pos ≡ Ok (definition, j) = rw same at c.in_ok-definition.ensures.value in
      let same2 : c.entity_def.new.cursor.text.now ≡ src = ap (λ t. t.now) c.entity_def.ensures.source ∙ same in
      let place : c.spaces.new.self.pos ≡ spaces_end src j = rw same2 at c.spaces.ensures.place in
      let b : byte_at 62 src (spaces_end src j) ≡ Err c.in_err-byte.field-0.0 = rw ((ap (λ t. t.now) c.spaces.ensures.source ∙ same2), place) at c.in_err-byte.ensures.value in
      let x = c.in_ok-text.ensures in
      (x.0, x.1, rw (q.1, q.2) (entity_unclosed src d head h definition j k x.0 (option_map replacement_view c.in_ok-text.text) x.2 c.in_err-byte.field-0.0 b));
  source = first_of (search rules, grind (arith, common_steps));
}

pub returns : goal.returns
returns g c = record {
  value = λ d at es.
      let src = c.args.cursor.now.text.now in
      let same = ap (λ t. t.now) c.entity_head.ensures.source in
      let head : EntityHead × ℕ = (head_view c.in_ok-head.head, c.entity_head.new.cursor.pos) in
      let h = subst (λ (n : ℕ). entity_head_at src n ≡ Ok head) at c.in_ok-head.ensures.value in
      let j = c.entity_def.new.cursor.pos in
      let same2 : c.entity_def.new.cursor.text.now ≡ src = ap (λ t. t.now) c.entity_def.ensures.source ∙ same in
      let place : c.spaces.new.self.pos ≡ spaces_end src j = rw same2 at c.spaces.ensures.place in
      let e : ℕ = c.byte.new.self.pos in
      let b : byte_at 62 src (spaces_end src j) ≡ Ok (tt, e) = rw ((ap (λ t. t.now) c.spaces.ensures.source ∙ same2), place) at c.in_ok-byte.ensures.value in
      let x = c.in_ok-text.ensures in
      let text = option_map replacement_view c.in_ok-text.text in (
        x.0,
        x.1,
        record {
          dtd = declared_there d head.0 text e;
          answered = entity_read src d head h (definition_view c.in_ok-definition.definition) j (rw same at c.in_ok-definition.ensures.value) x.0 text x.2 tt e b;
          state = refl;
          declared = elim c.match-text.branch [
            | in-Some+in_ok-declare w ↦ rw (w.entities-is, w.in-Some.is) (w.in_ok-declare.ensures d.entities es)
            | in_default w ↦ rw (w.entities-is, w.in_default.is) (subst (λ (ds : List Entity). AreDeclared ds c.args.entities.now) (sym (append-nil d.entities)) es)
          ];
        },
      );
  source = first_of (search rules, grind (arith, common_steps));
}
