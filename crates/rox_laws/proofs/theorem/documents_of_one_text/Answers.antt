use Rattle.std.proofs.Common.{◌≡◌, false, [], subst, sym, ◌∙◌, List, ℕ}
use Rattle.rox_grammar.specs.Doctype.{Asked}
use Rattle.rox_grammar.specs.Document.{IsTreeOf}
use Rattle.roxmltree.proofs.Parsed.{one_tree, one_dtd, plain_tree}
use Rattle.rox_laws.proofs.theorem.documents_of_one_text.Goals as goal

-- the other document is one of the same text
other_parsed : (c : goal.After-document_is_whole-2) → c.args.one.now.text ≡ c.args.other.now.text → (asked : List Asked) × IsTreeOf c.args.one.now.text c.args.other.now.dtd asked 4294967295 c.args.other.now.tree
other_parsed c same =
    let other = c.args.other.now in
    subst (λ (text : List ℕ). (asked : List Asked) × IsTreeOf text other.dtd asked 4294967295 other.tree) (sym same) c.document_is_whole-2.ensures.parsed

pub returns-clause-dtd : goal.returns-clause-dtd
returns-clause-dtd c same =
    one_dtd c.args.one.now.text _ _ _ _ 4294967295 4294967295 _ _ c.document_is_whole.ensures.utf8 c.document_is_whole.ensures.parsed.1 (other_parsed c same).1

pub returns-clause-tree : goal.returns-clause-tree
returns-clause-tree c same none =
    let text = c.args.one.now.text in
    let h = plain_tree text _ _ 4294967295 _ c.document_is_whole.ensures.utf8 none c.document_is_whole.ensures.parsed.1 in
    let k = plain_tree text _ _ 4294967295 _ c.document_is_whole.ensures.utf8 (sym (returns-clause-dtd c same) ∙ none) (other_parsed c same).1 in
    one_tree text false false [] 4294967295 4294967295 _ _ c.document_is_whole.ensures.utf8 h k
