use Rattle.std.proofs.Common.{rules, length, map, sym, ap, ◌∙◌}
use Rattle.std.specs.List.{list_any}
use Rattle.rox_rows.specs.Rows.{NamespaceWithin}
use Rattle.rox_scopes.specs.NamespaceViews.{namespace_view}
use Rattle.rox_seen.specs.SeenNames.{has_expanded}
use Rattle.rox_seen.specs.declared.seen_names.SeenNames.{SeenNames}
use Rattle.rox_names.proofs.NameTests.{any_column}
use Rattle.rox_rows.proofs.AttributeRows.{column_behind, all_column, any_data}
use Rattle.rox_names.proofs.resolve.is_refused.Goals as goal

pub is_among-requires : goal.is_among-requires
is_among-requires c = record {
  done =
      rw c.as_slice.ensures.value
      (all_column (λ d. NamespaceWithin (length c.args.namespaces.now.items.items) d.namespace) c.args.attributes.now c.deref.result.now c.count_again.new.self.from c.deref.ensures.value (rw (ap (λ (s : SeenNames). s.from) c.count_again.ensures) c.requires.done));
  other = search rules;
}

pub returns : goal.returns
returns c = record {
  first = λ other.
      let P = has_expanded (map namespace_view c.args.namespaces.now.items.items) c.args.namespace c.args.local.now in
      let column = column_behind c.args.attributes.now c.deref.result.now c.count_again.new.self.from c.deref.ensures.value in
      rw (ap (λ (s : SeenNames). s.from) c.count_again.ensures) at (any_column P _ ∙ ap (list_any P) column ∙ any_data P _ ∙ rw c.as_slice.ensures.value at (sym c.is_among.ensures) ∙ other);
  kept = search rules;
}
