use Rattle.std.proofs.Common.{◌≡◌, map, rules, arith}
use Rattle.std.proofs.lemmas.Grind.{common_steps}
use Rattle.rox_grammar.specs.Failures.{name_view}
use Rattle.rox_rows.specs.Rows.{numbered_place}
use Rattle.rox_scopes.specs.NamespaceViews.{namespace_view}
use Rattle.rox_names.specs.OpenElements.{open_name}
use Rattle.rox_names.specs.TagScopes.{scope_in_tables}
use Rattle.rox_tags.proofs.PlainTags.{named_by, numbered_some}
use Rattle.rox_tags.proofs.quick_tag.namespace_below.Goals as goal

pub returns-then-has_prefix : goal.returns-then-has_prefix
returns-then-has_prefix c = record {
  is = first_of (search rules, grind (arith, common_steps));
  known =
      let t = c.args.elements.now in
      let o = c.args.parent.now in
      let name = c.args.name in
      let same : (open_name o).prefix ≡ name.prefix.now = c.has_prefix.ensures c.if-has_prefix.true in
      named_by (map namespace_view t.namespaces.items.items) (scope_in_tables t o.scope) (name_view name) (numbered_place o.namespace) (numbered_some o.namespace c.if-above-ne0.true) (rw same at c.requires.below.parent.is);
}
