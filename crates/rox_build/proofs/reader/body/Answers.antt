use Rattle.std.proofs.Common.{◌≡◌, ◌≤◌, ℕ, List, Ok, sym, ap, subst, ◌∙◌, length, slice_index, arith}
use Rattle.std.proofs.lemmas.List.{get_or_past}
use Rattle.std.proofs.lemmas.Result.{err_from_is_err_and}
use Rattle.rox_reading.specs.Refusals.{lifted}
use Rattle.rox_reading.specs.Machine.{main_text, drive}
use Rattle.rox_reading.specs.WholeText.{misc}
use Rattle.rox_values.specs.Refusals.{IsFailure, IsRefusal}
use Rattle.rox_values.specs.DeclaredEntities.{AreDeclared}
use Rattle.rox_values.specs.Contexts.{context_of}
use Rattle.rox_values.specs.declared.context.Context.{Context}
use Rattle.rox_build.proofs.Wholes.{no_body, tag_fails_body, content_fails_body, misc_fails_body, a_body}
use Rattle.rox_build.proofs.reader.body.Goals as goal

nothing : (src : List ℕ) (i : ℕ) → length src ≤ i → slice_index src i ≡ 60 → ⊥
nothing src i past is = let k = get_or_past src i 0 past in cc (k, is)

less_than : (src xs : List ℕ) (i at : ℕ) → xs ≡ src → i ≡ at → slice_index xs i ≡ 60 → slice_index src at ≡ 60
less_than src xs i at e here is = ap (λ (k : ℕ). slice_index src k) (sym here) ∙ ap (λ (ys : List ℕ). slice_index ys i) (sym e) ∙ is

pub returns-then-is_at_end : goal.returns-then-is_at_end
returns-then-is_at_end c = grind (arith, nothing, no_body)

pub returns-in_err-root_start : goal.returns-in_err-root_start
returns-in_err-root_start c = record {
  value = λ limit end es s declared sees.
      let src = c.args.cursor.now.text.now in
      let w = context_of limit es c.main_text-context.result in
      let main : w ≡ main_text limit es = ap (context_of limit es) c.main_text-context.ensures in
      let held : AreDeclared es c.main_text-context.result.entities.now = subst (λ (h : Context). AreDeclared es h.entities.now) (sym c.main_text-context.ensures) declared in
      let here = less_than src _ _ s.at c.as_bytes.ensures.value sees.here c.if-as_bytes-cursor-ne60.false in
      let q = err_from_is_err_and c.from_residual.result c.from_residual.ensures.1 in
      rw (q.1, q.2) (tag_fails_body limit es w src s c.in_err-root_start.field-0.0 main here (c.in_err-root_start.ensures.value limit end es s held sees));
  goes = let p = err_from_is_err_and c.from_residual.result c.from_residual.ensures.1 in rw p.1 tt;
}

pub returns-in_err-content : goal.returns-in_err-content
returns-in_err-content c = record {
  value = λ limit end es s declared sees.
      let src = c.args.cursor.now.text.now in
      let w = context_of limit es c.main_text-context.result in
      let held : AreDeclared es c.main_text-context.result.entities.now = subst (λ (h : Context). AreDeclared es h.entities.now) (sym c.main_text-context.ensures) declared in
      let here = less_than src _ _ s.at c.as_bytes.ensures.value sees.here c.if-as_bytes-cursor-ne60.false in
      let s1 = ap (λ t. t.now) c.in_ok-root_start.ensures.goes.source in
      let e1 = c.in_ok-root_start.ensures.value limit end es s held sees in
      let q = err_from_is_err_and c.from_residual-in_err-content.result c.from_residual-in_err-content.ensures.1 in
      let fails : IsRefusal c.in_err-content.field-0.0 (drive w (length src) src e1.0) = subst (λ (x : List ℕ). IsRefusal c.in_err-content.field-0.0 (drive w (length x) x e1.0)) s1 (c.in_err-content.ensures.value limit end es e1.0 held e1.2) in
      rw (q.1, q.2) (content_fails_body limit es w src s e1.0 c.in_err-content.field-0.0 (ap (context_of limit es) c.main_text-context.ensures) here e1.1 fails);
  goes = let p = err_from_is_err_and c.from_residual-in_err-content.result c.from_residual-in_err-content.ensures.1 in rw p.1 tt;
}

pub returns-in_err-misc : goal.returns-in_err-misc
returns-in_err-misc c = record {
  value = λ limit end es s declared sees.
      let src = c.args.cursor.now.text.now in
      let w = context_of limit es c.main_text-context.result in
      let held : AreDeclared es c.main_text-context.result.entities.now = subst (λ (h : Context). AreDeclared es h.entities.now) (sym c.main_text-context.ensures) declared in
      let here = less_than src _ _ s.at c.as_bytes.ensures.value sees.here c.if-as_bytes-cursor-ne60.false in
      let s1 = ap (λ t. t.now) c.in_ok-root_start.ensures.goes.source in
      let e1 = c.in_ok-root_start.ensures.value limit end es s held sees in
      let s2 = ap (λ t. t.now) c.in_ok-content.ensures.goes.source ∙ s1 in
      let e2 = c.in_ok-content.ensures.value limit end es e1.0 held e1.2 in
      let inner : drive w (length src) src e1.0 ≡ Ok e2.0 = subst (λ (x : List ℕ). drive w (length x) x e1.0 ≡ Ok e2.0) s1 e2.1 in
      let q = err_from_is_err_and c.from_residual-in_err-misc.result c.from_residual-in_err-misc.ensures.1 in
      let fails : IsFailure c.in_err-misc.field-0.0 (lifted (misc limit (length src) src e2.0)) = subst (λ (x : List ℕ). IsFailure c.in_err-misc.field-0.0 (lifted (misc limit (length x) x e2.0))) s2 (c.in_err-misc.ensures.value limit end e2.0 e2.2) in
      rw (q.1, q.2) (misc_fails_body limit es w src s e1.0 e2.0 c.in_err-misc.field-0.0 (ap (context_of limit es) c.main_text-context.ensures) here e1.1 inner fails);
  goes = let p = err_from_is_err_and c.from_residual-in_err-misc.result c.from_residual-in_err-misc.ensures.1 in rw p.1 tt;
}

pub returns : goal.returns
returns c = record {
  value = λ limit end es s declared sees.
      let src = c.args.cursor.now.text.now in
      let w = context_of limit es c.main_text-context.result in
      let held : AreDeclared es c.main_text-context.result.entities.now = subst (λ (h : Context). AreDeclared es h.entities.now) (sym c.main_text-context.ensures) declared in
      let here = less_than src _ _ s.at c.as_bytes.ensures.value sees.here c.if-as_bytes-cursor-ne60.false in
      let s1 = ap (λ t. t.now) c.in_ok-root_start.ensures.goes.source in
      let e1 = c.in_ok-root_start.ensures.value limit end es s held sees in
      let s2 = ap (λ t. t.now) c.in_ok-content.ensures.goes.source ∙ s1 in
      let e2 = c.in_ok-content.ensures.value limit end es e1.0 held e1.2 in
      let inner : drive w (length src) src e1.0 ≡ Ok e2.0 = subst (λ (x : List ℕ). drive w (length x) x e1.0 ≡ Ok e2.0) s1 e2.1 in
      let e3 = c.in_ok-misc.ensures.value limit end e2.0 e2.2 in
      let after : lifted (misc limit (length src) src e2.0) ≡ Ok e3.0 = subst (λ (x : List ℕ). lifted (misc limit (length x) x e2.0) ≡ Ok e3.0) s2 e3.1 in
      (e3.0, a_body limit es w src s e1.0 e2.0 e3.0 (ap (context_of limit es) c.main_text-context.ensures) here e1.1 inner after, e3.2);
  goes = record { source = c.in_ok-misc.ensures.goes.source ∙ c.in_ok-content.ensures.goes.source ∙ c.in_ok-root_start.ensures.goes.source; fine = c.in_ok-misc.ensures.goes.fine };
}
