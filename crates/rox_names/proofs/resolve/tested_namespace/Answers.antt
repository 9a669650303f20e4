use Rattle.std.proofs.Common.{rules, Err, map, refl, sym, ap, ◌∙◌}
use Rattle.std.specs.List.{list_any}
use Rattle.rox_grammar.specs.declared.fault.Span.{Span}
use Rattle.rox_grammar.specs.declared.fault.Fault.TheVariants as fault
use Rattle.rox_scopes.specs.NamespaceViews.{namespace_view}
use Rattle.rox_names.specs.TagDeclarations.{unresolved_view}
use Rattle.rox_seen.specs.SeenNames.{has_expanded}
use Rattle.rox_rows.proofs.AttributeRows.{any_data}
use Rattle.rox_names.proofs.NameTests.{repeated_is, tested_unknown, tested_again, tested_on}
use Rattle.rox_seen.proofs.SeenCodes.{none_has}
use Rattle.rox_names.proofs.resolve.tested_namespace.Goals as goal

pub returns-in_default : goal.returns-in_default
returns-in_default c = record {
  found = search rules;
  tested = λ ds rows before rest h column shown.
      let a = unresolved_view c.args.taken.now in
      tested_unknown ds before a rest (c.in_default.ensures.unknown ds h)
      ∙ ap (λ (s : Span). Err (fault.UnknownNamespace s a.start)) (sym (c.prefix_span.ensures a.name refl));
  sees = search rules;
  from = search rules;
}

pub returns-then-is_among : goal.returns-then-is_among
returns-then-is_among c = record {
  found = search rules;
  tested = λ ds rows before rest h column shown.
      let namespaces = map namespace_view c.args.namespaces.now in
      let a = unresolved_view c.args.taken.now in
      let P = has_expanded namespaces c.in-Some.namespace a.name.local in
      let again = sym (repeated_is namespaces ds c.in-Some.namespace a.name rows before (c.in-Some.ensures.found.there ds h) shown)
      ∙ ap (list_any P) column ∙ any_data P c.args.done.now ∙ sym c.is_among.ensures ∙ c.if-is_among.true in
      tested_again ds before a rest (c.in-Some.ensures.found.known ds h) again
      ∙ ap (λ (s : Span). Err (fault.DuplicatedAttribute s a.start)) (sym (c.local_span-span.ensures a.name refl));
  sees = search rules;
  from = search rules;
}

pub returns-else-is_among : goal.returns-else-is_among
returns-else-is_among c = record {
  found = search rules;
  tested = λ ds rows before rest h column shown.
      let namespaces = map namespace_view c.args.namespaces.now in
      let a = unresolved_view c.args.taken.now in
      let P = has_expanded namespaces c.in-Some.namespace a.name.local in
      let first = sym (repeated_is namespaces ds c.in-Some.namespace a.name rows before (c.in-Some.ensures.found.there ds h) shown)
      ∙ ap (list_any P) column ∙ any_data P c.args.done.now ∙ sym c.is_among.ensures ∙ c.if-is_among.false in
      tested_on ds before a rest (c.in-Some.ensures.found.known ds h) first;
  sees = search rules;
  from = search rules;
}

pub returns-else-put : goal.returns-else-put
returns-else-put c = record {
  found = search rules;
  tested = λ ds rows before rest h column shown.
      let namespaces = map namespace_view c.args.namespaces.now in
      let a = unresolved_view c.args.taken.now in
      let P = has_expanded namespaces c.in-Some.namespace a.name.local in
      let none = none_has namespaces c.in-Some.namespace a.name.local c.args.seen.now.codes c.args.done.now c.requires.seen (c.put.ensures.fresh c.if-put.false) in
      let first = sym (repeated_is namespaces ds c.in-Some.namespace a.name rows before (c.in-Some.ensures.found.there ds h) shown)
      ∙ ap (list_any P) column ∙ any_data P c.args.done.now ∙ none in
      tested_on ds before a rest (c.in-Some.ensures.found.known ds h) first;
  sees = search rules;
  from = search rules;
}
