use Rattle.std.proofs.Common.{◌≡◌, ℕ, subst, Bool, true, false, cond, Option, Some, None, get_or, refl, sym, ap, ◌∙◌, bytes_eq, arith}
use Rattle.std.specs.Prelude.{Result, OnOk, option_map, is_some}
use Rattle.std.specs.BTreeMap.{get_by, is_at}
use Rattle.std.specs.Map.{lookup}
use Rattle.std.specs.Cmp.Lexicographic.{slice_cmp}
use Rattle.std.specs.Ordering.{nat_cmp, ordering_then}
use Rattle.rox_values.specs.HeldEntities.{code_of, named_cmp}
use Rattle.rox_grammar.specs.Entities.{Replacement, Entity}
use Rattle.rox_scan.specs.Views.{replacement_view}
use Rattle.rox_scan.specs.declared.cursor.Cursor.{Cursor}
use Rattle.rox_values.proofs.Binding.{declared_again, declared_first}
use Rattle.rox_values.proofs.Naming.{named_alike}
use Rattle.rox_values.proofs.ListedLemmas.{another_put, on_either}
use Rattle.rox_values.proofs.entities.Entities.declare.Goals as goal

seen_some : (o : Option Cursor) → is_some (option_map replacement_view o) ≡ is_some o
seen_some o = grind arith

seen_none : (o : Option Cursor) → is_some o ≡ false → option_map replacement_view o ≡ None
seen_none o h = grind arith

seen_choice : (b : Bool) (c : Cursor) (o : Option Cursor) → option_map replacement_view (cond b (Some c) o) ≡ cond b (Some (replacement_view c)) (option_map replacement_view o)
seen_choice b c o = grind arith

when_ok : {A E P : Type 0} (r : Result A E) → P → OnOk r P
when_ok r p = grind arith

pub returns-then-contains_key : goal.returns-then-contains_key
returns-then-contains_key c = λ es h. record {
  texts = λ q.
      let name = c.args.name.now in
      let o = get_by (named_cmp name) c.args.self.now.texts in
      let some : is_some o ≡ true = subst (λ (k : ℕ). is_some (get_by (λ y. ordering_then (nat_cmp k y.0) (slice_cmp nat_cmp name y.1.now)) c.args.self.now.texts) ≡ c.contains_key.result) c.code.ensures (sym c.contains_key.ensures) ∙ c.if-contains_key.true in
      h.texts q ∙ sym (declared_again es (record { name = name; text = replacement_view c.args.text }) q (ap is_some (sym (h.texts name)) ∙ seen_some o ∙ some));
}

pub returns-in-Ok : goal.returns-in-Ok
returns-in-Ok c = λ es h. when_ok c.list.result (record {
  texts = λ q.
      let name = c.args.name.now in
      let text = c.args.text in
      let e : Entity = record { name = name; text = replacement_view text } in
      let o = get_by (named_cmp name) c.args.self.now.texts in
      let p = get_by (named_cmp q) c.args.self.now.texts in
      let none : is_some o ≡ false = subst (λ (k : ℕ). is_some (get_by (λ y. ordering_then (nat_cmp k y.0) (slice_cmp nat_cmp name y.1.now)) c.args.self.now.texts) ≡ c.contains_key.result) c.code.ensures (sym c.contains_key.ensures) ∙ c.if-contains_key.false in
      let there : get_by (named_cmp q) c.insert.new.self ≡ cond (bytes_eq name q) (Some text) p = c.in-Ok.ensures.updates.0 (code_of q, record { ref_ptr = (0, 0); now = q }) ∙ ap (λ (b : Bool). cond b (Some text) p) (rw c.code-2.ensures (named_alike name q)) in
      let first = declared_first es e q (sym (h.texts name) ∙ seen_none o none) in
      ap (λ m. option_map replacement_view (get_by (named_cmp q) m)) c.list.ensures ∙ ap (option_map replacement_view) there ∙ seen_choice (bytes_eq name q) text p ∙ ap (λ (t : Option Replacement). cond (bytes_eq name q) (Some e.text) t) (h.texts q) ∙ sym first;
})

pub invariant_of-self : goal.invariant_of-self
invariant_of-self c = record {
  held = λ i d more.
      let name = c.args.name.now in
      let old = c.args.self.now.texts in
      let x = get_or c.args.self.now.listed.items i d in
      let q = x.name.now in
      let was = c.args.self.now.held i d more in
      on_either c.insert.result c.insert.ensures.updates c.insert.ensures.err
      (λ u.
      let p = get_by (named_cmp q) old in
      let none : is_some (get_by (named_cmp name) old) ≡ false = subst (λ (k : ℕ). is_some (get_by (λ y. ordering_then (nat_cmp k y.0) (slice_cmp nat_cmp name y.1.now)) old) ≡ c.contains_key.result) c.code.ensures (sym c.contains_key.ensures) ∙ c.if-contains_key.false in
      let there : get_by (named_cmp q) c.insert.new.self ≡ cond (bytes_eq name q) (Some c.args.text) p = u.0 (code_of q, record { ref_ptr = (0, 0); now = q }) ∙ ap (λ (b : Bool). cond b (Some c.args.text) p) (rw c.code-2.ensures (named_alike name q)) in
      there ∙ another_put (bytes_eq name q) name q old c.args.text x.text refl none was)
      (λ e. ap (λ es. lookup (is_at (named_cmp q)) es) e ∙ was);
}
