-- An attribute and a namespace, from the results of their calls.
use Rattle.std.specs.Option.{option_map}
use Rattle.roxmltree.specs.Written.{NamespaceDecl}
use Rattle.roxmltree.specs.Tree.{Attribute}
use Rattle.rox_uses.specs.declared.answers.AttributeAnswers.{AttributeAnswers}
use Rattle.rox_uses.specs.declared.answers.NamespaceAnswers.{NamespaceAnswers}

-- The attribute whose calls return these results.
abbrev pub attribute_answered : AttributeAnswers → Attribute
attribute_answered a = record {
  start = a.start;
  name_end = a.name_end;
  value_start = a.value_start;
  end = a.end;
  namespace = option_map (λ u. u.now) a.namespace;
  local = a.name.now;
  value = a.value.now;
  borrowed = a.borrowed;
}

-- The namespace whose calls return these results.
abbrev pub namespace_answered : NamespaceAnswers → NamespaceDecl
namespace_answered n = record { prefix = option_map (λ p. p.now) n.name; uri = n.uri.now }
