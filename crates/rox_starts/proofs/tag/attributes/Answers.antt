use Rattle.std.proofs.Common.{◌≡◌, ◌<◌, ◌≤◌, ◌+◌, ◌-◌, suc, refl, sym, ap, subst, ◌∙◌, arith, length, Ok, Err, List, ℕ, leb-true, leb-false}
use Rattle.std.proofs.lemmas.Result.{err_from_is_err_and}
use Rattle.rox_values.specs.Refusals.{IsRefusal, of_failure}
use Rattle.rox_values.specs.DeclaredEntities.{values_in}
use Rattle.rox_starts.specs.TagState.{GivesTagPart}
use Rattle.rox_starts.specs.declared.tag.TagPart.{TagPart}
use Rattle.rox_starts.specs.declared.tag.TagPart.TheVariants as part
use Rattle.rox_starts.proofs.Taking.{one_more, took_one, refused_one, kept_scopes, going_cut, going_none, going_ends, going_on, going_stops, going_refused}
use Rattle.rox_starts.proofs.tag.attributes.Goals as goal

pub returns-then-is_at_end : goal.returns-then-is_at_end
returns-then-is_at_end c = record {
  tables = tt;
  kept = tt;
  source = c.attributes.invariant.source;
  took = λ es known before h declared o hold.
      let src = c.args.cursor.now.text.now in
      let g = c.attributes.invariant.reads es known before h declared o hold in
      let past : length src ≤ c.attributes.cursor.pos = rw (ap (λ t. t.now) c.attributes.invariant.source) at (leb-true _ _ (sym c.is_at_end.ensures ∙ c.if-is_at_end.true)) in
      going_cut (values_in es c.args.context) known before c.args.tag.cut src _ _ c.attributes.cursor.pos c.attributes.openings_left _ _ _ _ g past;
}

pub returns-in_err-one : goal.returns-in_err-one
returns-in_err-one c = record {
  tables = let p = err_from_is_err_and c.from_residual.result c.from_residual.ensures.1 in rw p.1 tt;
  kept = let p = err_from_is_err_and c.from_residual.result c.from_residual.ensures.1 in rw p.1 tt;
  source = c.tag_part.ensures.source ∙ c.attributes.invariant.source;
  took = λ es known before h declared o hold.
      let src = c.args.cursor.now.text.now in
      let n = length src - c.attributes._turn in
      let s = ap (λ t. t.now) c.attributes.invariant.source in
      let g = c.attributes.invariant.reads es known before h declared o hold in
      let inside : c.attributes.cursor.pos < length src = rw s at (leb-false _ _ (sym c.is_at_end.ensures ∙ c.if-is_at_end.false)) in
      let p = err_from_is_err_and c.from_residual.result c.from_residual.ensures.1 in
      let one : n ≡ suc (n - 1) = omega arith in
      let read = subst (λ (t : List ℕ). GivesTagPart (values_in es c.args.context) t c.attributes.cursor.pos c.attributes.openings_left c.tag_part.new.cursor (Err c.in_err-one.field-0.0)) s (c.in_err-one.ensures.part es declared) in
      rw (p.1, p.2) (going_refused (values_in es c.args.context) known before c.args.tag.cut src _ n (n - 1) c.attributes.cursor.pos c.attributes.openings_left _ _ _ _ c.tag_part.new.cursor c.in_err-one.field-0.0 g one inside read);
}

pub returns-in_err-xml-in-One : goal.returns-in_err-xml-in-One
returns-in_err-xml-in-One c = record {
  tables = let p = err_from_is_err_and c.from_residual-in_err-xml-in-One.result c.from_residual-in_err-xml-in-One.ensures.1 in rw p.1 tt;
  kept = let p = err_from_is_err_and c.from_residual-in_err-xml-in-One.result c.from_residual-in_err-xml-in-One.ensures.1 in rw p.1 tt;
  source = c.tag_part.ensures.source ∙ c.attributes.invariant.source;
  took = λ es known before h declared o hold.
      let src = c.args.cursor.now.text.now in
      let n = length src - c.attributes._turn in
      let s = ap (λ t. t.now) c.attributes.invariant.source in
      let g = c.attributes.invariant.reads es known before h declared o hold in
      let inside : c.attributes.cursor.pos < length src = rw s at (leb-false _ _ (sym c.is_at_end.ensures ∙ c.if-is_at_end.false)) in
      let one : n ≡ suc (n - 1) = omega arith in
      let there : GivesTagPart (values_in es c.args.context) c.attributes.cursor.text.now c.attributes.cursor.pos c.attributes.openings_left c.tag_part.new.cursor (Ok (part.One c.in-One.one c.in-One.left)) =
      subst (λ (x : TagPart). GivesTagPart (values_in es c.args.context) c.attributes.cursor.text.now c.attributes.cursor.pos c.attributes.openings_left c.tag_part.new.cursor (Ok x)) c.in-One.is (c.in_ok-one.ensures.part es declared) in
      let read = subst (λ (t : List ℕ). GivesTagPart (values_in es c.args.context) t c.attributes.cursor.pos c.attributes.openings_left c.tag_part.new.cursor (Ok (part.One c.in-One.one c.in-One.left))) s there in
      let p = err_from_is_err_and c.from_residual-in_err-xml-in-One.result c.from_residual-in_err-xml-in-One.ensures.1 in
      let e = c.in_err-xml-in-One.field-0.0 in
      let fails : IsRefusal (of_failure e) (one_more (values_in es c.args.context) known src read.0 c.attributes.openings_left g.h) =
      refused_one (values_in es c.args.context) known src read.0 c.attributes.openings_left c.in-One.left g.h c.in-One.one e read.2 (c.in_err-xml-in-One.ensures.took known before g.h o g.holding) in
      rw (p.1, p.2) (going_stops (values_in es c.args.context) known before c.args.tag.cut src _ n (n - 1) c.attributes.cursor.pos c.tag_part.new.cursor.pos c.attributes.openings_left _ _ _ _ read.0 (of_failure e) g one inside read.1 fails);
}

pub returns-in-End : goal.returns-in-End
returns-in-End c = record {
  tables = c.attributes.invariant.tables;
  kept = c.attributes.invariant.kept;
  source = c.tag_part.ensures.source ∙ c.attributes.invariant.source;
  took = λ es known before h declared o hold.
      let src = c.args.cursor.now.text.now in
      let n = length src - c.attributes._turn in
      let s = ap (λ t. t.now) c.attributes.invariant.source in
      let g = c.attributes.invariant.reads es known before h declared o hold in
      let inside : c.attributes.cursor.pos < length src = rw s at (leb-false _ _ (sym c.is_at_end.ensures ∙ c.if-is_at_end.false)) in
      let there : GivesTagPart (values_in es c.args.context) c.attributes.cursor.text.now c.attributes.cursor.pos c.attributes.openings_left c.tag_part.new.cursor (Ok (part.End c.in-End.empty)) =
      subst (λ (x : TagPart). GivesTagPart (values_in es c.args.context) c.attributes.cursor.text.now c.attributes.cursor.pos c.attributes.openings_left c.tag_part.new.cursor (Ok x)) c.in-End.is (c.in_ok-one.ensures.part es declared) in
      let read = subst (λ (t : List ℕ). GivesTagPart (values_in es c.args.context) t c.attributes.cursor.pos c.attributes.openings_left c.tag_part.new.cursor (Ok (part.End c.in-End.empty))) s there in
      let one : n ≡ suc (n - 1) = omega arith in
      going_ends (values_in es c.args.context) known before c.args.tag.cut src _ n (n - 1) c.attributes.cursor.pos c.tag_part.new.cursor.pos c.attributes.openings_left _ _ _ c.in-End.empty _ _ g one inside read refl;
}

pub attributes-preserved : goal.attributes-preserved
attributes-preserved c = record {
  source = c.tag_part.ensures.source ∙ c.attributes.invariant.source;
  tables = c.in_ok-xml-in-One.ensures.tables;
  kept = kept_scopes c.in_ok-xml-in-One.ensures.kept c.attributes.invariant.kept;
  reads = λ es known before h declared o hold.
      let src = c.args.cursor.now.text.now in
      let n = length src - c.attributes._turn in
      let s = ap (λ t. t.now) c.attributes.invariant.source in
      let g = c.attributes.invariant.reads es known before h declared o hold in
      let inside : c.attributes.cursor.pos < length src = rw s at (leb-false _ _ (sym c.is_at_end.ensures ∙ c.if-is_at_end.false)) in
      let there : GivesTagPart (values_in es c.args.context) c.attributes.cursor.text.now c.attributes.cursor.pos c.attributes.openings_left c.tag_part.new.cursor (Ok (part.One c.in-One.one c.in-One.left)) =
      subst (λ (x : TagPart). GivesTagPart (values_in es c.args.context) c.attributes.cursor.text.now c.attributes.cursor.pos c.attributes.openings_left c.tag_part.new.cursor (Ok x)) c.in-One.is (c.in_ok-one.ensures.part es declared) in
      let read = subst (λ (t : List ℕ). GivesTagPart (values_in es c.args.context) t c.attributes.cursor.pos c.attributes.openings_left c.tag_part.new.cursor (Ok (part.One c.in-One.one c.in-One.left))) s there in
      let one : n ≡ suc (length src - (c.attributes._turn + 1)) = omega arith in
      let took = took_one (values_in es c.args.context) known before _ _ _ _ src read.0 c.attributes.openings_left c.in-One.left g.h c.in-One.one read.2 (c.in_ok-xml-in-One.ensures.took known before g.h o g.holding) in
      going_on (values_in es c.args.context) known before c.args.tag.cut src _ n (length src - (c.attributes._turn + 1)) c.attributes.cursor.pos c.tag_part.new.cursor.pos c.attributes.openings_left _ _ _ _ _ _ _ _ _ read.0 g one inside read.1 took;
}

pub returns : goal.returns
returns c = record {
  tables = tt;
  kept = tt;
  source = c.attributes.invariant.source;
  took = λ es known before h declared o hold.
      let src = c.args.cursor.now.text.now in
      let g = c.attributes.invariant.reads es known before h declared o hold in
      let t = c.attributes-test.false in
      going_none (values_in es c.args.context) known before c.args.tag.cut src _ _ c.attributes.cursor.pos c.attributes.openings_left _ _ _ _ g (omega arith);
}
