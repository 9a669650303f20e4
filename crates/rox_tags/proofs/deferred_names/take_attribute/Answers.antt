use Rattle.std.proofs.Common.{refl, sym, ◌∙◌}
use Rattle.rox_tags.proofs.deferred_names.take_attribute.Goals as goal

pub returns : goal.returns
returns c = record {
  one = c.in_ok-one.one;
  plain = c.in_ok-one.ensures.read;
  other = sym c.is_namespace_decl.ensures ∙ c.if-is_namespace_decl.false;
  end = refl;
  items = rw (c.is_err.ensures.negation, c.if-is_err.false) at c.push_with_room.ensures.items;
}
