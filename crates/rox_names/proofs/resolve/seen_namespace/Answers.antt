use Rattle.std.proofs.Common.{rules, Err, map, refl, sym, ap, ◌∙◌}
use Rattle.rox_grammar.specs.declared.fault.Span.{Span}
use Rattle.rox_grammar.specs.declared.fault.Fault.TheVariants as fault
use Rattle.rox_scopes.specs.NamespaceViews.{namespace_view}
use Rattle.rox_names.specs.TagDeclarations.{unresolved_view}
use Rattle.rox_names.proofs.NameTests.{repeated_is, tested_unknown, tested_again, tested_on}
use Rattle.rox_names.proofs.Seeing.{sees_is, sees_more}
use Rattle.rox_names.proofs.resolve.seen_namespace.Goals as goal

pub returns-in_default : goal.returns-in_default
returns-in_default c = record {
  found = search rules;
  tested = λ ds rows before rest h seen shown.
      let a = unresolved_view c.args.taken.now in
      tested_unknown ds before a rest (c.in_default.ensures.unknown ds h)
      ∙ ap (λ (s : Span). Err (fault.UnknownNamespace s a.start)) (sym (c.prefix_span.ensures a.name refl));
  more = search rules;
}

pub returns-then-branch : goal.returns-then-branch
returns-then-branch c = record {
  found = search rules;
  tested = λ ds rows before rest h seen shown.
      let namespaces = map namespace_view c.args.namespaces.now in
      let a = unresolved_view c.args.taken.now in
      let again = sym (repeated_is namespaces ds c.in-Some.namespace a.name rows before (c.in-Some.ensures.found.there ds h) shown)
      ∙ sym (sees_is namespaces c.args.seen.now.keys _ c.in-Some.namespace a.name.local _ seen c.namespace_uri.ensures) ∙ sym c.in_ok-is_repeated_name.ensures.value ∙ c.if-branch.true in
      tested_again ds before a rest (c.in-Some.ensures.found.known ds h) again
      ∙ ap (λ (s : Span). Err (fault.DuplicatedAttribute s a.start)) (sym (c.local_span.ensures a.name refl));
  more = search rules;
}

pub returns : goal.returns
returns c = record {
  found = search rules;
  tested = λ ds rows before rest h seen shown.
      let namespaces = map namespace_view c.args.namespaces.now in
      let a = unresolved_view c.args.taken.now in
      let first = sym (repeated_is namespaces ds c.in-Some.namespace a.name rows before (c.in-Some.ensures.found.there ds h) shown)
      ∙ sym (sees_is namespaces c.args.seen.now.keys _ c.in-Some.namespace a.name.local _ seen c.namespace_uri.ensures) ∙ sym c.in_ok-is_repeated_name.ensures.value ∙ c.if-branch.false in
      tested_on ds before a rest (c.in-Some.ensures.found.known ds h) first;
  more = λ done a seen space local.
      let namespaces = map namespace_view c.args.namespaces.now in
      sees_more namespaces c.args.seen.now.keys c.is_repeated_name.new.seen.keys done a (c.args.taken.now.name.local, c.namespace_uri.result) seen
      (c.in_ok-is_repeated_name.ensures.more c.if-branch.false)
      (c.namespace_uri.ensures ∙ ap (Rattle.rox_rows.specs.Rows.attribute_uri namespaces) (sym space))
      (ap (λ (p : Rattle.std.proofs.Common.Bor (Rattle.std.proofs.Common.List Rattle.std.proofs.Common.ℕ)). p.now) (sym local));
}
