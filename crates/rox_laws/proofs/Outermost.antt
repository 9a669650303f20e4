-- The outermost element of a document stands by itself.
use Rattle.std.proofs.Common.{◌≡◌, ℕ, suc, ◌+◌, ◌-◌, ◌<◌, true, false, List, [], ◌∷◌, length, refl, sym, ap, ◌∙◌, subst, arith, lt-ltb, le-ltb}
use Rattle.rox_grammar.specs.Forest.{Forest, Nil, Cons, size}
use Rattle.rox_grammar.specs.Tree.{Node, Root, Element, Text, Comment, PI}
use Rattle.rox_grammar.specs.Document.{IsTreeOf}
use Rattle.rox_grammar.specs.Doctype.{Asked}
use Rattle.rox_grammar.specs.Exchange.{self_contained}
use Rattle.roxmltree.specs.DocumentView.{DocumentView}
use Rattle.roxmltree.specs.Places.{preorder, place, ids}
use Rattle.roxmltree.specs.NodeParts.{is_element_node, node_at}
use Rattle.roxmltree.specs.Elements.{first_element, root_id}
use Rattle.roxmltree.specs.SelfContained.{stands_alone}
use Rattle.roxmltree.proofs.Preorder.{Sits}
use Rattle.roxmltree.proofs.Tops.{HasElement, IsDocument, whole_sits, is_document}

-- the first element of nodes side by side, of which the first has the id b, is self-contained among them
abbrev FirstStands : Forest Node → ℕ → Forest Node → Type 0
FirstStands tree b f = (k : ℕ) × (first_element tree (ids b f) ≡ b + k) × (k < size f) × (self_contained f k ≡ true)

-- it is not this node
later : (tree : Forest Node) (b : ℕ) (x : Node) (c r : Forest Node) → is_element_node (node_at tree b) ≡ false → FirstStands tree (b + (1 + size c)) r → FirstStands tree b (Cons x c r)
later tree b x c r none (k, is, inside, stands) =
    let same : size c + k - size c ≡ k = omega arith in
    (suc (size c + k), rw none (is ∙ (omega arith)), omega (arith, inside), rw ((le-ltb (size c + k) (size c) (omega arith)), same) stands)

first_stands : (tree : Forest Node) (up left : List ℕ) (b : ℕ) (f : Forest Node) → Sits (preorder tree) up left b f → HasElement f → FirstStands tree b f
unfolding place
first_stands tree up left b Nil s h = absurd h
first_stands tree up left b (Cons (Element start end namespace local listed attributes) c r) s h =
    (0, rw (ap (λ p. is_element_node p.item) s.0) (omega arith), omega arith, refl)
first_stands tree up left b (Cons (Root end) c r) s h =
    later tree b (Root end) c r (ap (λ p. is_element_node p.item) s.0) (first_stands tree up (b ∷ left) (b + (1 + size c)) r s.3 h)
first_stands tree up left b (Cons (Text start end value borrowed) c r) s h =
    later tree b (Text start end value borrowed) c r (ap (λ p. is_element_node p.item) s.0) (first_stands tree up (b ∷ left) (b + (1 + size c)) r s.3 h)
first_stands tree up left b (Cons (Comment start end text) c r) s h =
    later tree b (Comment start end text) c r (ap (λ p. is_element_node p.item) s.0) (first_stands tree up (b ∷ left) (b + (1 + size c)) r s.3 h)
first_stands tree up left b (Cons (PI start end target value) c r) s h =
    later tree b (PI start end target value) c r (ap (λ p. is_element_node p.item) s.0) (first_stands tree up (b ∷ left) (b + (1 + size c)) r s.3 h)

-- above it is the root node alone, which lists nothing
pub root_contained : (tree : Forest Node) (n : ℕ) → IsDocument n tree → self_contained tree (root_id tree) ≡ true
unfolding place
root_contained tree n w =
    let s : Sits (preorder tree) [] [] 0 (Cons (Root n) w.tops Nil) = subst (λ (f : Forest Node). Sits (preorder tree) [] [] 0 f) w.rooted (whole_sits tree) in
    let first = first_stands tree (0 ∷ []) [] 1 w.tops s.2 w.element in
    let id : root_id tree ≡ suc first.0 = ap (first_element tree) (ap (λ p. p.children) s.0) ∙ first.1 ∙ (omega arith) in
    ap (self_contained tree) id ∙ subst (λ (f : Forest Node). self_contained f (suc first.0) ≡ true) (sym w.rooted) (rw (lt-ltb first.0 (size w.tops) first.2) first.3)

pub root_stands : (d : DocumentView) → (asked : List Asked) × IsTreeOf d.text d.dtd asked 4294967295 d.tree → d.dtd ≡ false → stands_alone d (root_id d.tree) ≡ true
root_stands d parsed none = rw none (root_contained d.tree (length d.text) (is_document d.text 4294967295 d.tree parsed.1))
