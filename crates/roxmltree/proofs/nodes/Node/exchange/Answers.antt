use Rattle.std.proofs.Common.{◌≡◌, ℕ, List, ◌++◌, take, drop, ◌-◌, arith, sym, ap, ◌∙◌, subst, string_bytes, IsCharBoundary, append_assoc}
use Rattle.rox_grammar.specs.Names.{slice}
use Rattle.rox_grammar.specs.Exchange.{start_at, end_at, text_with, IsExchange}
use Rattle.roxmltree.specs.DocumentView.{DocumentView}
use Rattle.roxmltree.specs.NodeRef.{id_of, document_of, tree_of}
use Rattle.roxmltree.specs.Elements.{root_id}
use Rattle.roxmltree.proofs.Sliced.{starts, stops, cut, is_exchange}
use Rattle.roxmltree.proofs.Plain.{alone_tree, alone_contained}
use Rattle.roxmltree.proofs.nodes.Node.exchange.Goals as goal

pub range-requires-clause-end_boundary : goal.range-requires-clause-end_boundary
range-requires-clause-end_boundary c =
    let n = c.args.self.now in
    let between = cut (document_of n).text (tree_of n) (id_of n) c.whole.ensures.utf8 (alone_tree (document_of n) (id_of n) c.whole.ensures.utf8 c.requires.mine c.whole.ensures.parsed) n.in_tree (alone_contained (document_of n) (id_of n) c.requires.mine) in
    subst (λ (text : List ℕ). IsCharBoundary text c.range-range.result.start) (sym c.input_text-text.ensures) (subst (IsCharBoundary (document_of n).text) (sym c.range-range.ensures.start) between.1)

pub range_from-requires : goal.range_from-requires
range_from-requires c some =
    let n = c.args.self.now in
    let between = cut (document_of n).text (tree_of n) (id_of n) c.whole.ensures.utf8 (alone_tree (document_of n) (id_of n) c.whole.ensures.utf8 c.requires.mine c.whole.ensures.parsed) n.in_tree (alone_contained (document_of n) (id_of n) c.requires.mine) in
    subst (λ (text : List ℕ). IsCharBoundary text c.range-range.result.end) (sym c.input_text-text.ensures) (subst (IsCharBoundary (document_of n).text) (sym c.range-range.ensures.end) between.2)

pub returns : goal.returns
returns c =
    let n = c.args.self.now in
    let text = (document_of n).text in
    let other = c.args.other.now in
    let at = root_id other.tree in
    let new = slice other.text (start_at other.tree at) (end_at other.tree at) in
    let start = c.range-range.ensures.start ∙ starts text (tree_of n) (id_of n) c.whole.ensures.utf8 (alone_tree (document_of n) (id_of n) c.whole.ensures.utf8 c.requires.mine c.whole.ensures.parsed) n.in_tree (alone_contained (document_of n) (id_of n) c.requires.mine) in
    let stop = c.range-range.ensures.end ∙ stops text (tree_of n) (id_of n) c.whole.ensures.utf8 (alone_tree (document_of n) (id_of n) c.whole.ensures.utf8 c.requires.mine c.whole.ensures.parsed) n.in_tree (alone_contained (document_of n) (id_of n) c.requires.mine) in
    let before : c.range.result.now ≡ take (start_at (tree_of n) (id_of n)) text =
    let from_start : c.range-range.result.start - 0 ≡ c.range-range.result.start = omega arith in
    c.range.ensures.value ∙ ap (λ (k : ℕ). take k c.input_text-text.result.now) from_start ∙ ap (take c.range-range.result.start) c.input_text-text.ensures ∙ ap (λ (k : ℕ). take k text) start in
    let after : c.range_from.result.now ≡ drop (end_at (tree_of n) (id_of n)) text =
    c.range_from.ensures.value ∙ ap (drop c.range-range.result.end) c.input_text-text.ensures ∙ ap (λ (k : ℕ). drop k text) stop in
    let middle : c.own_text.result.now ≡ new =
    c.own_text.ensures ∙ ap (λ (d : DocumentView). slice d.text (start_at d.tree (id_of c.root_element.result)) (end_at d.tree (id_of c.root_element.result))) c.root_element.ensures.document
    ∙ ap (λ (k : ℕ). slice other.text (start_at other.tree k) (end_at other.tree k)) c.root_element.ensures.id in
    let first : string_bytes c.push_str.new.self ≡ take (start_at (tree_of n) (id_of n)) text ++ new =
    c.in_ok-push_str.ensures.bytes ∙ ap (λ (l : List ℕ). l ++ c.own_text.result.now) (c.in_ok-answer.ensures.ok ∙ before) ∙ ap (λ (l : List ℕ). take (start_at (tree_of n) (id_of n)) text ++ l) middle in
    let all : string_bytes c.push_str-2.new.self ≡ text_with (tree_of n) text (id_of n) other.tree other.text at =
    c.in_ok-push_str-2.ensures.bytes ∙ ap (λ (l : List ℕ). l ++ c.range_from.result.now) first ∙ ap (λ (l : List ℕ). (take (start_at (tree_of n) (id_of n)) text ++ new) ++ l) after
    ∙ append_assoc (take (start_at (tree_of n) (id_of n)) text) new (drop (end_at (tree_of n) (id_of n)) text) in
    let is = is_exchange text (tree_of n) (id_of n) other.text other.tree at c.whole.ensures.utf8 (alone_tree (document_of n) (id_of n) c.whole.ensures.utf8 c.requires.mine c.whole.ensures.parsed) (alone_contained (document_of n) (id_of n) c.requires.mine) c.whole-2.ensures.utf8 (alone_tree other at c.whole-2.ensures.utf8 c.requires.others c.whole-2.ensures.parsed) (alone_contained other at c.requires.others) in
    subst (IsExchange (tree_of n) text (id_of n) other.tree other.text at) (sym all) is
