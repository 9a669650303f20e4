-- Declarations and attributes as codes, which the kit compares views by.
use Rattle.std.specs.Prelude.{ℕ, List, Bool, Option, refl}
use Rattle.std.specs.Coded.{Coded, code_by, coded×, coded_ℕ, coded_list, coded_bool, coded_option}
use Rattle.rox_grammar.specs.Written.{NamespaceDecl}
use Rattle.rox_grammar.specs.Tree.{Attribute}

-- A declaration as a tuple.
abbrev pub namespace_decl_code : Coded NamespaceDecl
namespace_decl_code =
    code_by (Option (List ℕ) × List ℕ) (coded× (coded_option (coded_list coded_ℕ)) (coded_list coded_ℕ))
    (λ d. (d.prefix, d.uri)) (λ p. record { prefix = p.0; uri = p.1 }) (λ _. refl)

-- An attribute as a tuple.
abbrev pub AttributeKey : Type 0
AttributeKey = (ℕ × (ℕ × (ℕ × ℕ))) × (Option (List ℕ) × (List ℕ × (List ℕ × Bool)))

abbrev pub attribute_key_code : Coded AttributeKey
attribute_key_code =
    coded× (coded× coded_ℕ (coded× coded_ℕ (coded× coded_ℕ coded_ℕ)))
    (coded× (coded_option (coded_list coded_ℕ)) (coded× (coded_list coded_ℕ) (coded× (coded_list coded_ℕ) coded_bool)))

abbrev pub attribute_code : Coded Attribute
attribute_code =
    code_by AttributeKey attribute_key_code
    (λ a. ((a.start, (a.name_end, (a.value_start, a.end))), (a.namespace, (a.local, (a.value, a.borrowed)))))
    (λ p. record {
      start = p.0.0;
      name_end = p.0.1.0;
      value_start = p.0.1.1.0;
      end = p.0.1.1.1;
      namespace = p.1.0;
      local = p.1.1.0;
      value = p.1.1.1.0;
      borrowed = p.1.1.1.1;
    })
    (λ _. refl)
