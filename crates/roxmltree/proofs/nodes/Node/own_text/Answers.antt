use Rattle.std.proofs.Common.{ℕ, List, sym, subst, arith, IsCharBoundary}
use Rattle.roxmltree.specs.NodeRef.{id_of, document_of, tree_of}
use Rattle.roxmltree.proofs.Sliced.{starts, stops, cut}
use Rattle.roxmltree.proofs.Plain.{alone_tree, alone_contained}
use Rattle.roxmltree.proofs.nodes.Node.own_text.Goals as goal

pub range-requires-clause-start_le_end : goal.range-requires-clause-start_le_end
range-requires-clause-start_le_end c =
    let n = c.args.self.now in
    let between = cut (document_of n).text (tree_of n) (id_of n) c.whole.ensures.utf8 (alone_tree (document_of n) (id_of n) c.whole.ensures.utf8 c.requires c.whole.ensures.parsed) n.in_tree (alone_contained (document_of n) (id_of n) c.requires) in
    let lt = between.0 in
    omega (arith, c.range-range.ensures.start, c.range-range.ensures.end)

pub range-requires-clause-start_boundary : goal.range-requires-clause-start_boundary
range-requires-clause-start_boundary c some =
    let n = c.args.self.now in
    let between = cut (document_of n).text (tree_of n) (id_of n) c.whole.ensures.utf8 (alone_tree (document_of n) (id_of n) c.whole.ensures.utf8 c.requires c.whole.ensures.parsed) n.in_tree (alone_contained (document_of n) (id_of n) c.requires) in
    subst (λ (text : List ℕ). IsCharBoundary text c.range-range.result.start) (sym c.input_text.ensures) (subst (IsCharBoundary (document_of n).text) (sym c.range-range.ensures.start) between.1)

pub range-requires-clause-end_boundary : goal.range-requires-clause-end_boundary
range-requires-clause-end_boundary c =
    let n = c.args.self.now in
    let between = cut (document_of n).text (tree_of n) (id_of n) c.whole.ensures.utf8 (alone_tree (document_of n) (id_of n) c.whole.ensures.utf8 c.requires c.whole.ensures.parsed) n.in_tree (alone_contained (document_of n) (id_of n) c.requires) in
    subst (λ (text : List ℕ). IsCharBoundary text c.range-range.result.end) (sym c.input_text.ensures) (subst (IsCharBoundary (document_of n).text) (sym c.range-range.ensures.end) between.2)

pub returns : goal.returns
returns c = grind (arith, starts, alone_tree, stops)
