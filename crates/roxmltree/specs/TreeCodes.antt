-- A forest of nodes as a list: each node with the number of its descendants, in preorder.
use Rattle.std.specs.Prelude.{◌≡◌, ℕ, zero, suc, ◌-◌, List, [], ◌∷◌, ◌++◌, refl, Bool, false, Option, None}
use Rattle.std.proofs.Common.{sym, ◌∙◌, ap, arith, append_assoc, append-nil}
use Rattle.std.specs.Coded.{Coded, code_by, coded×, coded_ℕ, coded_list, coded_bool, coded_option}
use Rattle.rox_grammar.specs.Forest.{Forest, Nil, Cons, size, join}
use Rattle.rox_grammar.specs.Written.{NamespaceDecl}
use Rattle.rox_grammar.specs.Tree.{Node, Attribute, Root, Element, Text, Comment, PI}
use Rattle.rox_lists.specs.ListCodes.{namespace_decl_code, attribute_code}

-- The first siblings with their descendants, `n` nodes in all.
abbrev pub front : ℕ → Forest Node → Forest Node
front n Nil = Nil
front zero (Cons item children rest) = Nil
front (suc n) (Cons item children rest) = Cons item children (front (n - size children) rest)

-- The siblings after the first `n` nodes.
abbrev pub back : ℕ → Forest Node → Forest Node
back n Nil = Nil
back zero (Cons item children rest) = Cons item children rest
back (suc n) (Cons item children rest) = back (n - size children) rest

-- The list of a forest.
abbrev pub flattened : Forest Node → List (ℕ × Node)
flattened Nil = []
flattened (Cons item children rest) = (size children, item) ∷ (flattened children ++ flattened rest)

-- The forest of such a list.
abbrev pub unflattened : List (ℕ × Node) → Forest Node
unflattened [] = Nil
unflattened ((n, item) ∷ nodes) = Cons item (front n (unflattened nodes)) (back n (unflattened nodes))

-- The first nodes of a joined forest are those of the first forest.
pub front-join : (f g : Forest Node) (n : ℕ) → n ≡ size f → front n (join f g) ≡ f
front-join Nil Nil n h = refl
front-join Nil (Cons i c r) n h = rw h
front-join (Cons i c r) g zero h = absurd (omega arith)
front-join (Cons i c r) g (suc n) h = ap (Cons i c) (front-join r g (n - size c) (omega arith))

-- The other nodes are those of the second forest.
pub back-join : (f g : Forest Node) (n : ℕ) → n ≡ size f → back n (join f g) ≡ g
back-join Nil Nil n h = refl
back-join Nil (Cons i c r) n h = rw h
back-join (Cons i c r) g zero h = absurd (omega arith)
back-join (Cons i c r) g (suc n) h = back-join r g (n - size c) (omega arith)

-- Joining an empty forest changes nothing.
pub join-nil : (f : Forest Node) → join f Nil ≡ f
join-nil Nil = refl
join-nil (Cons i c r) = ap (Cons i c) (join-nil r)

-- The list of a forest with more nodes after it is read as the forest joined with those nodes.
pub unflattened-append : (f : Forest Node) (nodes : List (ℕ × Node)) → unflattened (flattened f ++ nodes) ≡ join f (unflattened nodes)
unflattened-append Nil nodes = refl
unflattened-append (Cons i c r) nodes =
    let below = ap unflattened (append_assoc (flattened c) (flattened r) nodes) ∙ unflattened-append c (flattened r ++ nodes) ∙ ap (join c) (unflattened-append r nodes) in
    let g = join r (unflattened nodes) in
    rw below (rw (front-join c g (size c) refl, back-join c g (size c) refl))

-- The list of a forest is read as that forest.
pub unflattened-flattened : (f : Forest Node) → unflattened (flattened f) ≡ f
unflattened-flattened f = ap unflattened (sym (append-nil (flattened f))) ∙ unflattened-append f [] ∙ join-nil f

-- A node as a tuple: its kind, its range, a text, an optional text, its namespaces and attributes, and a mark.
abbrev pub NodeKey : Type 0
NodeKey = (ℕ × (ℕ × ℕ)) × (List ℕ × (Option (List ℕ) × (List NamespaceDecl × (List Attribute × Bool))))

abbrev pub node_key : Node → NodeKey
node_key (Root end) = ((0, (0, end)), ([], (None, ([], ([], false)))))
node_key (Element start end namespace local listed attributes) = ((1, (start, end)), (local, (namespace, (listed, (attributes, false)))))
node_key (Text start end value borrowed) = ((2, (start, end)), (value, (None, ([], ([], borrowed)))))
node_key (Comment start end text) = ((3, (start, end)), (text, (None, ([], ([], false)))))
node_key (PI start end target value) = ((4, (start, end)), (target, (value, ([], ([], false)))))

abbrev pub node_by : ℕ → (start end : ℕ) → List ℕ → Option (List ℕ) → List NamespaceDecl → List Attribute → Bool → Node
node_by zero start end bytes option listed attributes mark = Root end
node_by (suc zero) start end bytes option listed attributes mark = Element start end option bytes listed attributes
node_by (suc (suc zero)) start end bytes option listed attributes mark = Text start end bytes mark
node_by (suc (suc (suc zero))) start end bytes option listed attributes mark = Comment start end bytes
node_by (suc (suc (suc (suc n)))) start end bytes option listed attributes mark = PI start end bytes option

abbrev pub node_of_key : NodeKey → Node
node_of_key k = node_by k.0.0 k.0.1.0 k.0.1.1 k.1.0 k.1.1.0 k.1.1.1.0 k.1.1.1.1.0 k.1.1.1.1.1

-- The key of a node is read as that node.
pub node_of_key-key : (i : Node) → node_of_key (node_key i) ≡ i
node_of_key-key (Root end) = refl
node_of_key-key (Element start end namespace local listed attributes) = refl
node_of_key-key (Text start end value borrowed) = refl
node_of_key-key (Comment start end text) = refl
node_of_key-key (PI start end target value) = refl

abbrev pub node_key_code : Coded NodeKey
node_key_code =
    coded× (coded× coded_ℕ (coded× coded_ℕ coded_ℕ))
    (coded× (coded_list coded_ℕ) (coded× (coded_option (coded_list coded_ℕ)) (coded× (coded_list namespace_decl_code) (coded× (coded_list attribute_code) coded_bool))))

abbrev pub node_code : Coded Node
node_code = code_by NodeKey node_key_code node_key node_of_key node_of_key-key

abbrev pub forest_code : Coded (Forest Node)
forest_code = code_by (List (ℕ × Node)) (coded_list (coded× coded_ℕ node_code)) flattened unflattened unflattened-flattened
