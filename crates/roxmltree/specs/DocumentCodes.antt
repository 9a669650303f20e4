-- Documents and lists of nodes as codes, which the kit compares views by.
use Rattle.std.specs.Prelude.{ℕ, Bool, List, refl}
use Rattle.std.specs.Coded.{Coded, code_by, coded×, coded_ℕ, coded_bool, coded_list}
use Rattle.rox_grammar.specs.Forest.{Forest}
use Rattle.rox_grammar.specs.Tree.{Node}
use Rattle.roxmltree.specs.TreeCodes.{forest_code}
use Rattle.roxmltree.specs.DocumentView.{DocumentView}

abbrev pub document_code : Coded DocumentView
document_code =
    code_by (Forest Node × (List ℕ × (ℕ × Bool))) (coded× forest_code (coded× (coded_list coded_ℕ) (coded× coded_ℕ coded_bool)))
    (λ d. (d.tree, (d.text, (d.key, d.dtd)))) (λ p. record { tree = p.0; text = p.1.0; key = p.1.1.0; dtd = p.1.1.1 }) (λ _. refl)

abbrev pub node_refs_code : Coded (List (DocumentView × ℕ))
node_refs_code = coded_list (coded× document_code coded_ℕ)
