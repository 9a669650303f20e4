use Rattle.std.proofs.Common.{rules, ◌++◌, sym, ap, ◌∙◌, arith, option_to_list}
use Rattle.std.specs.Prelude.{Option, not}
use Rattle.rox_storage.specs.Storage.{is_borrowed}
use Rattle.rox_rows.specs.declared.stored_attribute.StoredAttribute.{StoredAttribute}
use Rattle.rox_rows.proofs.AttributeRows.{owned_cut, lent_cut}
use Rattle.rox_rows.proofs.attributes.take_last.Goals as goal

pub returns-in-Some : goal.returns-in-Some
returns-in-Some c = grind (arith, lent_cut)

pub returns-then-is_owned : goal.returns-then-is_owned
returns-then-is_owned c = record {
  count = search rules;
  taken = record {
    rows = search rules;
    listed =
        owned_cut c.args.items.now.items c.pop.new.self.items c.in-Some.row c.args.owned.now.items c.pop-place.new.self.items _
        (c.pop.ensures.items ∙ ap (λ (o : Option StoredAttribute). c.pop.new.self.items ++ option_to_list o) c.in-Some.is)
        (ap is_borrowed (sym c.into_inner-value.ensures) ∙ c.is_owned.ensures ∙ ap not c.if-is_owned.true) (omega (arith, c.args.owned.now.ok.0)) c.pop-place.ensures.rest;
  };
}
