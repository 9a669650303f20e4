use Rattle.std.proofs.Common.{rules, ◌≡◌, refl, sym, ap, ◌∙◌, map, bytes_eq, [], false}
use Rattle.rox_grammar.specs.declared.fault.Span.{Span}
use Rattle.rox_grammar.specs.declared.fault.Fault.TheVariants as fault
use Rattle.rox_grammar.specs.Failures.{name_view}
use Rattle.rox_scopes.specs.NamespaceViews.{namespace_view}
use Rattle.rox_names.proofs.NameTests.{empty_is, element_some, element_none}
use Rattle.rox_names.proofs.resolve.element_namespace.Goals as goal

pub returns-in-Some : goal.returns-in-Some
returns-in-Some c = record {
  within = search rules;
  ok = λ ds h.
      let filled : bytes_eq c.args.name.prefix.now [] ≡ false = empty_is c.args.name.prefix.now c.is_empty.result c.is_empty.ensures ∙ c.if-is_empty.false in
      element_some (map namespace_view c.args.namespaces.now) ds (name_view c.args.name) c.in-Some.place filled (sym (h.uris _) ∙ sym c.in-Some.ensures.value);
  err = search rules;
}

pub returns-in-None : goal.returns-in-None
returns-in-None c = record {
  within = search rules;
  ok = search rules;
  err = λ ds h.
      let filled : bytes_eq c.args.name.prefix.now [] ≡ false = empty_is c.args.name.prefix.now c.is_empty.result c.is_empty.ensures ∙ c.if-is_empty.false in (
        ap (λ (s : Span). fault.UnknownNamespace s c.args.at) (c.prefix_span.ensures (name_view c.args.name) refl),
        element_none ds (name_view c.args.name) filled (sym (h.uris _) ∙ sym c.in-None.ensures.value),
      );
}
