-- An element is among the top nodes of a document.
use Rattle.std.proofs.Common.{◌≡◌, ℕ, ◌+◌, ◌<◌, Bool, List, [], ◌∷◌, length, None, false, ap, subst, arith, length-append}
use Rattle.rox_grammar.specs.Forest.{Forest, Nil, Cons, size}
use Rattle.rox_grammar.specs.Written as written
use Rattle.rox_grammar.specs.Written.{NamespaceDecl}
use Rattle.rox_grammar.specs.Tree.{Node, Root, Element, Text, Comment, PI, resolved}
use Rattle.rox_grammar.specs.Document.{IsTreeOf}
use Rattle.rox_theory.specs.Apart.{AnyElement}
use Rattle.rox_theory.proofs.Apart.{parse_has}
use Rattle.rox_theory.proofs.ParseParts.{tree_parts}
use Rattle.rox_grammar.specs.Doctype.{Asked}
use Rattle.roxmltree.specs.DocumentView.{DocumentView}
use Rattle.roxmltree.specs.Places.{preorder, place, first, parent, ids, children}
use Rattle.roxmltree.specs.NodeParts.{is_element_node}
use Rattle.roxmltree.specs.NodeRef.{node_refs}
use Rattle.roxmltree.specs.Elements.{nearest_element}
use Rattle.roxmltree.proofs.Preorder.{Sits, sits, length-places}
use Rattle.roxmltree.proofs.Siblings.{above_ends}

-- there is an element among these nodes side by side
abbrev pub HasElement : Forest Node → Type 0
HasElement Nil = ⊥
HasElement (Cons (Element start end namespace local listed attributes) children rest) = Unit {0}
HasElement (Cons (Root end) children rest) = HasElement rest
HasElement (Cons (Text start end value borrowed) children rest) = HasElement rest
HasElement (Cons (Comment start end text) children rest) = HasElement rest
HasElement (Cons (PI start end target value) children rest) = HasElement rest

-- a document is one node, the root node, whose range is a text of this length, and an element is among the nodes below it
pub record IsDocument (end : ℕ) (tree : Forest Node) : Type 0 where
  pub tops : Forest Node
  pub rooted : tree ≡ Cons (Root end) tops Nil
  pub element : HasElement tops

-- what is none from here on is none after
nearest_after : (d : DocumentView) (i : ℕ) (xs : List ℕ) → is_element_node (place d.tree i).item ≡ false → nearest_element (node_refs d (i ∷ xs)) ≡ None → nearest_element (node_refs d xs) ≡ None
nearest_after d i xs e h = rw e at h

-- where an element is among nodes side by side, one is the nearest
none_among : (d : DocumentView) (up left : List ℕ) (b : ℕ) (f : Forest Node) → Sits (preorder d.tree) up left b f → HasElement f → nearest_element (node_refs d (ids b f)) ≡ None → ⊥
unfolding place
none_among d up left b Nil s h e = h
none_among d up left b (Cons (Element start end namespace local listed attributes) c r) s h e = cc
none_among d up left b (Cons (Root end) c r) s h e =
    none_among d up (b ∷ left) (b + (1 + size c)) r s.3 h (nearest_after d b (ids (b + (1 + size c)) r) (ap (λ p. is_element_node p.item) s.0) e)
none_among d up left b (Cons (Text start end value borrowed) c r) s h e =
    none_among d up (b ∷ left) (b + (1 + size c)) r s.3 h (nearest_after d b (ids (b + (1 + size c)) r) (ap (λ p. is_element_node p.item) s.0) e)
none_among d up left b (Cons (Comment start end text) c r) s h e =
    none_among d up (b ∷ left) (b + (1 + size c)) r s.3 h (nearest_after d b (ids (b + (1 + size c)) r) (ap (λ p. is_element_node p.item) s.0) e)
none_among d up left b (Cons (PI start end target value) c r) s h e =
    none_among d up (b ∷ left) (b + (1 + size c)) r s.3 h (nearest_after d b (ids (b + (1 + size c)) r) (ap (λ p. is_element_node p.item) s.0) e)

-- a tree stands in its own preorder list
pub whole_sits : (f : Forest Node) → Sits (preorder f) [] [] 0 f
unfolding preorder
whole_sits f = grind (arith, sits, length-places)

-- the root node has all nodes below it, and no other has none above it
root_sits : (n : ℕ) (f : Forest Node) (d : IsDocument n f) → Sits (preorder f) [] [] 0 (Cons (Root n) d.tops Nil)
root_sits n f d = subst (λ g. Sits (preorder f) [] [] 0 g) d.rooted (whole_sits f)

pub none_above : (n : ℕ) (f : Forest Node) → IsDocument n f → parent f 0 ≡ None
unfolding place
none_above n f d = ap (λ p. first p.above) (root_sits n f d).0

pub some_above : (n : ℕ) (f : Forest Node) (i : ℕ) → IsDocument n f → i < size f → 0 < i → 0 < length (place f i).above
unfolding place
some_above n f i d l low =
    let k = above_ends (preorder f) (0 ∷ []) [] 1 d.tops (root_sits n f d).2 i (omega arith) (omega (arith, ap size d.rooted)) in
    omega (arith, ap length k.1, length-append k.0 (0 ∷ []))

pub all_below : (n : ℕ) (f : Forest Node) → IsDocument n f → 0 + (place f 0).count ≡ size f
unfolding place
all_below n f d = omega (arith, ap (λ p. p.count) (root_sits n f d).0, ap size d.rooted)

-- a document has an outermost element
pub root_element_there : (d : DocumentView) (n : ℕ) → IsDocument n d.tree → nearest_element (node_refs d (children d.tree 0)) ≡ None → ⊥
unfolding place
root_element_there d n w h =
    let s = root_sits n d.tree w in
    none_among d (0 ∷ []) [] 1 w.tops s.2 w.element (rw (ap (λ p. p.children) s.0) at h)

-- an element is one still with the names resolved
element_stays : (above : List NamespaceDecl) (f : Forest written.Item) → AnyElement f → HasElement (resolved above f)
element_stays above Nil h = h
element_stays above (Cons (written.Element start end tag) c r) h = tt
element_stays above (Cons (written.Text start end value borrowed) c r) h = element_stays above r h
element_stays above (Cons (written.Comment start end text) c r) h = element_stays above r h
element_stays above (Cons (written.PI start end target value) c r) h = element_stays above r h

-- the tree of a text is a document
pub is_document : {dtd : Bool} {asked : List Asked} (src : List ℕ) (limit : ℕ) (tree : Forest Node) → IsTreeOf src dtd asked limit tree → IsDocument (length src) tree
is_document src limit tree is =
    let h = tree_parts is in
    record { tops = resolved [] h.written; rooted = h.shown; element = element_stays [] h.written (parse_has src _ _ h.written h.parse) }
