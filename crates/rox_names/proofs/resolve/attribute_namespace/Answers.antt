use Rattle.std.proofs.Common.{rules, sym, ◌∙◌}
use Rattle.rox_grammar.specs.Failures.{name_view}
use Rattle.rox_names.proofs.NameTests.{empty_is, known_some, known_none}
use Rattle.rox_names.proofs.resolve.attribute_namespace.Goals as goal

pub returns-in-Some : goal.returns-in-Some
returns-in-Some c = record {
  found = record {
    within = c.in-Some.ensures.within;
    there = λ ds h.
        let filled = empty_is c.args.name.prefix.now c.is_empty.result c.is_empty.ensures ∙ c.if-is_empty.false in
        rw (filled, (sym c.same_text.ensures ∙ c.if-same_text.false)) (c.in-Some.ensures.value ∙ h.uris _);
    known = λ ds h. known_some ds (name_view c.args.name) _ (sym (h.uris _) ∙ sym c.in-Some.ensures.value);
  };
  unknown = search rules;
}

pub returns-in-None : goal.returns-in-None
returns-in-None c = record {
  found = search rules;
  unknown = λ ds h.
      known_none ds (name_view c.args.name)
      (empty_is c.args.name.prefix.now c.is_empty.result c.is_empty.ensures ∙ c.if-is_empty.false) (sym c.same_text.ensures ∙ c.if-same_text.false) (sym (h.uris _) ∙ sym c.in-None.ensures.value);
}
