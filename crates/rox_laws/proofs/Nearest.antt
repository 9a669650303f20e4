-- What an element lists for a prefix is what the nearest declaration says.
use Rattle.std.proofs.Common.{◌≡◌, ◌≢◌, ◌↔◌, ℕ, suc, ◌+◌, ◌<◌, ◌≤◌, Bool, true, false, List, [], ◌∷◌, ◌++◌, Option, Some, None, length, map, get_or, refl, sym, ap, ◌∙◌, subst, arith, ⊎_elim, All, Contains}
use Rattle.std.proofs.lemmas.Bool.{cases_lt, cases_eq}
use Rattle.std.proofs.lemmas.List.{get_or_append_left, get_or-append-add, get_or_past, length-append}
use Rattle.std.proofs.lemmas.List.Elements.{All-nil, All-cons, All-head, All-tail}
use Rattle.std.proofs.lemmas.Grind.{common_steps}
use Rattle.rox_grammar.specs.Forest.{Forest, Nil, Cons, size}
use Rattle.rox_grammar.specs.Written.{NamespaceDecl, Item}
use Rattle.rox_grammar.specs.Tree.{Node, is_declared, uri_of, scope_in, node_in, resolved, document_tree}
use Rattle.rox_grammar.specs.WellNamed.{AreWellNamed}
use Rattle.rox_grammar.proofs.NamesApart.{DeclarableBehind}
use Rattle.rox_grammar.specs.Doctype.{Asked}
use Rattle.rox_grammar.specs.Document.{ParseOf}
use Rattle.rox_reading.proofs.Forests.{size-resolved}
use Rattle.roxmltree.specs.Places.{Place, nowhere, preorder, place}
use Rattle.roxmltree.specs.NodeParts.{is_element_node, listed_of}
use Rattle.rox_theory.proofs.ParseParts.{well_named}
use Rattle.rox_laws.specs.NearestDeclaration.{declared_at, declared_in, upwards, NoneDeclares, IsNearest, IsElementAt, xml, listed_uri}
use Rattle.roxmltree.proofs.Preorder.{at, Sits, length-preorder}
use Rattle.roxmltree.proofs.Tops.{whole_sits}
use Rattle.roxmltree.specs.EachNode.{EachNode}
use Rattle.roxmltree.proofs.Everywhere.{at_each}
use Rattle.rox_laws.proofs.Scopes.{undeclared, declared, declared_if_some, says_declared, declared_says, item_declares, nearest, Agree, agree_more, HasNoXml, scope_no_xml}

-- ---- what is declared at each id

-- the row of an id
abbrev row : List (List NamespaceDecl) → ℕ → List NamespaceDecl
row rows id = get_or rows id []

-- the rows have what these items declare, from this id on
abbrev Rows : List (List NamespaceDecl) → ℕ → Forest Item → Type 0
Rows rows id Nil = Unit {0}
Rows rows id (Cons item children rest) = (row rows id ≡ declared_at item) × Rows rows (id + 1) children × Rows rows (id + (1 + size children)) rest

length-declared_in : (f : Forest Item) → length (declared_in f) ≡ size f
length-declared_in Nil = refl
length-declared_in (Cons item c r) = omega (arith, length-append (declared_in c) (declared_in r), length-declared_in c, length-declared_in r)

have_rows : (rows : List (List NamespaceDecl)) (b : ℕ) (f : Forest Item) → ((k : ℕ) → k < size f → row rows (b + k) ≡ row (declared_in f) k) → Rows rows b f
have_rows rows b Nil h = tt
have_rows rows b (Cons item c r) h =
    let inner = declared_in c in
    let behind = declared_in r in
    let count : length inner ≡ size c = length-declared_in c in
    let e0 : b + 0 ≡ b = omega arith in (
      rw e0 at (h 0 (omega arith)),
      have_rows rows (b + 1) c
          (λ k l. let e : (b + 1) + k ≡ b + suc k = omega arith in
          rw e (h (suc k) (omega arith) ∙ get_or_append_left inner behind [] k (omega arith))),
      have_rows rows (b + (1 + size c)) r
          (λ k l. let e : (b + (1 + size c)) + k ≡ b + suc (length inner + k) = omega arith in
          rw e (h (suc (length inner + k)) (omega arith) ∙ get_or-append-add inner behind k [])),
    )

-- each of them may be declared
rows_declarable : (above : List NamespaceDecl) (f : Forest Item) → AreWellNamed above f → All (DeclarableBehind []) (declared_in f)
rows_declarable above Nil h = All-nil (DeclarableBehind [])
rows_declarable above (Cons item c r) h = grind (arith, common_steps, rows_declarable (scope_in above item) c h.1, rows_declarable above r h.2, item_declares)

row_declarable : (rows : List (List NamespaceDecl)) → All (DeclarableBehind []) rows → (id : ℕ) → DeclarableBehind [] (row rows id)
row_declarable rows h id = grind (arith, get_or_past)

-- ---- each element

-- an element lists its scope, and other nodes list nothing
lists : (scope : List NamespaceDecl) (item : Item) → is_element_node (node_in scope item) ≡ true → listed_of (node_in scope item) ≡ scope
lists scope item e = grind arith

-- if an element stands at this id, it lists what the rows say upwards from it
abbrev Follows : List (List NamespaceDecl) → Place → ℕ → Type 0
Follows rows p id = is_element_node p.item ≡ true → Agree (listed_of p.item) (map (row rows) (id ∷ p.above))

all_follow : (T : List Place) (rows : List (List NamespaceDecl)) (above : List NamespaceDecl) (up left : List ℕ) (b : ℕ) (f : Forest Item)
    → Sits T up left b (resolved above f) → Rows rows b f → Agree above (map (row rows) up) → (id : ℕ) → b ≤ id → id < b + size f → Follows rows (at T id) id
all_follow T rows above up left b Nil s d a id l m = absurd (omega arith)
all_follow T rows above up left b (Cons item c r) s d a id l m =
    let scope = scope_in above item in
    let inner : Agree scope (map (row rows) (b ∷ up)) = rw d.0 (agree_more above (map (row rows) up) item a) in
    ⊎_elim
    (λ same. rw same (rw s.0 (λ e. rw (lists scope item e) inner)))
    (λ other. ⊎_elim
    (λ low. all_follow T rows scope (b ∷ up) [] (b + 1) c s.2 d.1 inner id (omega arith) (omega arith))
    (λ high. all_follow T rows above up (b ∷ left) (b + (1 + size c)) r (rw (size-resolved scope c) at s.3) d.2 a id high (omega arith))
    (cases_lt id (b + (1 + size c))))
    (cases_eq id b)

-- in a document of these top items
follows : (n : ℕ) (tops : Forest Item) (id : ℕ) → Follows ([] ∷ declared_in tops) (place (document_tree n tops) id) id
unfolding place
follows n tops id =
    let tree = document_tree n tops in
    let rows = [] ∷ declared_in tops in
    let s = whole_sits tree in
    let d : Rows rows 1 tops = have_rows rows 1 tops (λ k l. let e : 1 + k ≡ suc k = omega arith in rw e refl) in
    let count = length-preorder tree in
    let below = size-resolved [] tops in
    ⊎_elim
    (λ root. rw root (rw s.0 (λ e. cc e)))
    (λ other. ⊎_elim
    (λ low. all_follow (preorder tree) rows [] (0 ∷ []) [] 1 tops s.2 d (λ p n. refl) id (omega arith) (omega arith))
    (λ high. rw (get_or_past (preorder tree) id nowhere (omega arith)) (λ e. cc e))
    (cases_lt id (1 + size tops)))
    (cases_eq id 0)

-- ---- the first row that declares, as a relation

module _ (rows : List (List NamespaceDecl)) (p : Option (List ℕ)) where
  -- the row of this id does not declare it
  abbrev Silent : ℕ → Type 0
  Silent id = is_declared p (row rows id) ≡ false

  -- some of these rows do not declare it, and then one declares it as this URI
  record First (u : List ℕ) (ids : List ℕ) : Type 0 where
    pub nearer : List ℕ
    pub declarer : ℕ
    pub farther : List ℕ
    pub way : ids ≡ nearer ++ declarer ∷ farther
    pub none_nearer : All Silent nearer
    pub declares : Contains (row rows declarer) (record { prefix = p; uri = u })

  first_found : (u : List ℕ) (ids : List ℕ) → nearest p (map (row rows) ids) ≡ Some u → First u ids
  first_found u [] e = cc e
  first_found u (i ∷ ids) e = by_test (first_found u ids) (is_declared p (row rows i)) refl
    where
      later : Silent i → First u ids → First u (i ∷ ids)
      later n h = record {
        nearer = i ∷ h.nearer;
        declarer = h.declarer;
        farther = h.farther;
        way = ap (λ ids. i ∷ ids) h.way;
        none_nearer = All-cons Silent i h.nearer n h.none_nearer;
        declares = h.declares;
      }

      by_test : (nearest p (map (row rows) ids) ≡ Some u → First u ids) → (x : Bool) → is_declared p (row rows i) ≡ x → First u (i ∷ ids)
      by_test rest true s = record {
        nearer = [];
        declarer = i;
        farther = ids;
        way = refl;
        none_nearer = All-nil Silent;
        declares = says_declared p u (row rows i) (rw s at e);
      }
      by_test rest false s = later s (rest (rw s at e))

  first_is : All (DeclarableBehind []) rows → (u : List ℕ) (nearer : List ℕ) (i : ℕ) (farther : List ℕ)
      → All Silent nearer → Contains (row rows i) (record { prefix = p; uri = u }) → nearest p (map (row rows) (nearer ++ i ∷ farther)) ≡ Some u
  first_is w u [] i farther n h =
      let uri : uri_of (row rows i) p ≡ Some u = declared_says p u [] (row rows i) (row_declarable rows w i) h in
      rw (declared_if_some p u (row rows i) uri) uri
  first_is w u (j ∷ nearer) i farther n h = rw (All-head Silent j nearer n) (first_is w u nearer i farther (All-tail Silent j nearer n) h)

  none_found : (ids : List ℕ) → nearest p (map (row rows) ids) ≡ None → All Silent ids
  none_found [] e = All-nil Silent
  none_found (i ∷ ids) e = by_test (none_found ids) (is_declared p (row rows i)) refl
    where
      by_test : (nearest p (map (row rows) ids) ≡ None → All Silent ids) → (x : Bool) → is_declared p (row rows i) ≡ x → All Silent (i ∷ ids)
      by_test rest true s = let k : uri_of (row rows i) p ≡ None = rw s at e in absurd (declared p (row rows i) s k)
      by_test rest false s = All-cons Silent i ids s (rest (rw s at e))

  none_is : (ids : List ℕ) → All Silent ids → nearest p (map (row rows) ids) ≡ None
  none_is [] h = refl
  none_is (i ∷ ids) h = rw (All-head Silent i ids h) (none_is ids (All-tail Silent i ids h))

-- ---- a document

-- the URI that an element lists is that of the nearest declaration
found_in : (n : ℕ) (tops : Forest Item) → AreWellNamed [] tops → (id : ℕ) (p : Option (List ℕ)) (u : List ℕ) → IsElementAt (document_tree n tops) id → p ≢ xml
    → (listed_uri (document_tree n tops) id p ≡ Some u) ↔ IsNearest tops (document_tree n tops) id p u
found_in n tops w id p u e x =
    let rows = [] ∷ declared_in tops in
    let all : All (DeclarableBehind []) rows = All-cons (DeclarableBehind []) [] (declared_in tops) tt (rows_declarable [] tops w) in
    let agree = follows n tops id e p x in (
      (λ found. grind (arith, first_found rows p u (upwards (document_tree n tops) id) (sym agree ∙ found))),
      (λ h. agree ∙ (ap (λ (ids : List ℕ). nearest p (map (row rows) ids)) h.way ∙ first_is rows p all u h.nearer h.declarer h.farther h.none_nearer h.declares)),
    )

-- and it lists none where none is declared
none_in : (n : ℕ) (tops : Forest Item) (id : ℕ) (p : Option (List ℕ)) → IsElementAt (document_tree n tops) id → p ≢ xml
    → (listed_uri (document_tree n tops) id p ≡ None) ↔ NoneDeclares tops p (upwards (document_tree n tops) id)
none_in n tops id p e x =
    let tree = document_tree n tops in
    let rows = [] ∷ declared_in tops in
    let agree = follows n tops id e p x in
    ((λ none. none_found rows p (upwards tree id) (sym agree ∙ none)), (λ h. agree ∙ none_is rows p (upwards tree id) h))

-- with the names resolved a node lists `xml` no more than its scope has it
node_no_xml : (scope : List NamespaceDecl) (item : Item) → HasNoXml scope → HasNoXml (listed_of (node_in scope item))
node_no_xml scope item h = grind arith

all_no_xml : (above : List NamespaceDecl) (f : Forest Item) → HasNoXml above → EachNode (λ node. HasNoXml (listed_of node)) (resolved above f)
all_no_xml above Nil h = tt
all_no_xml above (Cons item c r) h =
    let inner = scope_no_xml above item h in
    (node_no_xml (scope_in above item) item inner, all_no_xml (scope_in above item) c inner, all_no_xml above r h)

xml_in : (n : ℕ) (tops : Forest Item) (id : ℕ) → listed_uri (document_tree n tops) id xml ≡ None
xml_in n tops id =
    let tree = document_tree n tops in
    undeclared xml (listed_of (place tree id).item) (at_each (λ node. HasNoXml (listed_of node)) tree (refl, all_no_xml [] tops refl, tt) refl id)

-- ---- the tree of a document, however it is given

module _ (src : List ℕ) (tops : Forest Item) (tree : Forest Node) (shown : tree ≡ document_tree (length src) tops) where
  pub found_is_nearest : {dtd : Bool} {asked : List Asked} → ParseOf src dtd asked tops → (id : ℕ) (p : Option (List ℕ)) (u : List ℕ) → IsElementAt tree id → p ≢ xml → (listed_uri tree id p ≡ Some u) ↔ IsNearest tops tree id p u
  found_is_nearest parse id p u =
      subst (λ (t : Forest Node). IsElementAt t id → p ≢ xml → (listed_uri t id p ≡ Some u) ↔ IsNearest tops t id p u) (sym shown) (found_in (length src) tops (well_named parse) id p u)

  pub none_is_declared : (id : ℕ) (p : Option (List ℕ)) → IsElementAt tree id → p ≢ xml → (listed_uri tree id p ≡ None) ↔ NoneDeclares tops p (upwards tree id)
  none_is_declared id p = grind (arith, none_in)

  pub xml_is_never_listed : (id : ℕ) → listed_uri tree id xml ≡ None
  xml_is_never_listed id = subst (λ (t : Forest Node). listed_uri t id xml ≡ None) (sym shown) (xml_in (length src) tops id)
