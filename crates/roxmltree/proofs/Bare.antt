-- What a node says by itself, its namespaces and attributes set aside.
use Rattle.std.proofs.Common.{◌≡◌, ℕ, ◌<◌, List, [], get_or, ap, ◌∙◌, length, sym, subst, false, arith}
use Rattle.std.proofs.lemmas.List.Elements.{All-from_recursion}
use Rattle.rox_rows.specs.StoredNodes.{is_element, is_text}
use Rattle.rox_grammar.specs.Forest.{Forest, size}
use Rattle.rox_grammar.specs.Tree.{Node}
use Rattle.rox_rows.specs.Rows.{KindWithin, node, attribute_rows, AttributeRow, node_rows}
use Rattle.rox_names.specs.Tables.{HoldsTree, names_of, scopes_of}
use Rattle.rox_rows.specs.declared.row.NodeKind.{NodeKind}
use Rattle.rox_rows.specs.declared.row.NodeData.{NodeData}
use Rattle.rox_names.specs.declared.tables.Tables.{Tables}
use Rattle.rox_grammar.specs.Written.{NamespaceDecl}
use Rattle.roxmltree.specs.Places.{place}
use Rattle.roxmltree.specs.Stripped.{stripped, stripped_row, content_in}
use Rattle.roxmltree.specs.NodeParts.{is_root_node, is_element_node, is_text_node, is_comment_node, is_pi_node, start_of, end_of, local_of, pi_of, text_content, content_of, attributes_of}
use Rattle.roxmltree.specs.Kinds.{type_of}
use Rattle.roxmltree.proofs.Rows.{row_line, in_rows}

bare_node : (az : List AttributeRow) (namespaces : List NamespaceDecl) (lists : List (List NamespaceDecl)) (start end : ℕ) (k : NodeKind) → stripped_row start end k ≡ stripped (node az namespaces lists start end k)
bare_node az namespaces lists start end k = grind arith

-- a row's node is the tree's
pub row_item : (t : Tables) (f : Forest Node) (i : ℕ) (x : NodeData) → HoldsTree t f → i < size f → x ≡ get_or (node_rows t.nodes) i x → stripped_row x.start x.end x.kind ≡ stripped (place f i).item
row_item t f i x h l e =
    bare_node (attribute_rows t.attributes) (names_of t) (scopes_of t) x.start x.end x.kind ∙ ap (λ r. stripped r.node) (row_line t f i x h (in_rows t f i h l) e)

-- The namespaces and attributes of `i` are no part of these.
record IsBare (i : Node) : Type 0 where
  root : is_root_node i ≡ is_root_node (stripped i)
  element : is_element_node i ≡ is_element_node (stripped i)
  text : is_text_node i ≡ is_text_node (stripped i)
  comment : is_comment_node i ≡ is_comment_node (stripped i)
  pi : is_pi_node i ≡ is_pi_node (stripped i)
  start : start_of i ≡ start_of (stripped i)
  end : end_of i ≡ end_of (stripped i)
  local : local_of i ≡ local_of (stripped i)
  instruction : pi_of i ≡ pi_of (stripped i)
  type : type_of i ≡ type_of (stripped i)
  content : text_content i ≡ text_content (stripped i)

is_bare : (i : Node) → IsBare i
is_bare i = grind arith

pub says_root_bare : (i : Node) → is_root_node i ≡ is_root_node (stripped i)
says_root_bare i = (is_bare i).root

pub says_element_bare : (i : Node) → is_element_node i ≡ is_element_node (stripped i)
says_element_bare i = (is_bare i).element

pub says_text_bare : (i : Node) → is_text_node i ≡ is_text_node (stripped i)
says_text_bare i = (is_bare i).text

pub says_comment_bare : (i : Node) → is_comment_node i ≡ is_comment_node (stripped i)
says_comment_bare i = (is_bare i).comment

pub says_pi_bare : (i : Node) → is_pi_node i ≡ is_pi_node (stripped i)
says_pi_bare i = (is_bare i).pi

pub start_of_bare : (i : Node) → start_of i ≡ start_of (stripped i)
start_of_bare i = (is_bare i).start

pub end_of_bare : (i : Node) → end_of i ≡ end_of (stripped i)
end_of_bare i = (is_bare i).end

pub local_of_bare : (i : Node) → local_of i ≡ local_of (stripped i)
local_of_bare i = (is_bare i).local

pub pi_of_bare : (i : Node) → pi_of i ≡ pi_of (stripped i)
pi_of_bare i = (is_bare i).instruction

pub type_of_bare : (i : Node) → type_of i ≡ type_of (stripped i)
type_of_bare i = (is_bare i).type

pub text_content_bare : (i : Node) → text_content i ≡ text_content (stripped i)
text_content_bare i = (is_bare i).content

-- whether a row is an element's, or a text's, is whether its node is one
element_row : (s e : ℕ) (k : NodeKind) → is_element k ≡ is_element_node (stripped_row s e k)
element_row s e k = grind arith

text_row : (s e : ℕ) (k : NodeKind) → is_text k ≡ is_text_node (stripped_row s e k)
text_row s e k = grind arith

pub row_element : (t : Tables) (f : Forest Node) (i : ℕ) (x : NodeData) → HoldsTree t f → i < size f → x ≡ get_or (node_rows t.nodes) i x → is_element x.kind ≡ is_element_node (place f i).item
row_element t f i x h l e = element_row x.start x.end x.kind ∙ ap is_element_node (row_item t f i x h l e) ∙ sym (says_element_bare (place f i).item)

pub row_text : (t : Tables) (f : Forest Node) (i : ℕ) (x : NodeData) → HoldsTree t f → i < size f → x ≡ get_or (node_rows t.nodes) i x → is_text x.kind ≡ is_text_node (place f i).item
row_text t f i x h l e = text_row x.start x.end x.kind ∙ ap is_text_node (row_item t f i x h l e) ∙ sym (says_text_bare (place f i).item)

-- a row without its places says the rest
placed : (s e : ℕ) (k : NodeKind) (n : Node) → start_of (stripped n) ≡ s → end_of (stripped n) ≡ e → stripped_row s e k ≡ stripped n → stripped_row (start_of n) (end_of n) k ≡ stripped n
placed s e k n starts ends h = rw (start_of_bare n ∙ starts, end_of_bare n ∙ ends) h

pub stripped_again : (s e : ℕ) (k : NodeKind) (n : Node) → stripped_row s e k ≡ stripped n → stripped_row (start_of n) (end_of n) k ≡ stripped n
stripped_again s e k n h = grind arith

-- what a text's or a comment's row says of its text
content_kind : (az : List AttributeRow) (namespaces : List NamespaceDecl) (lists : List (List NamespaceDecl)) (a n l start end : ℕ) (k : NodeKind) → KindWithin a n l k → content_in k ≡ content_of (node az namespaces lists start end k)
content_kind az namespaces lists a n l start end k w = grind arith

-- what a row names is in the tables
pub row_within : (t : Tables) (f : Forest Node) (i : ℕ) (x : NodeData) → HoldsTree t f → i < size f → x ≡ get_or (node_rows t.nodes) i x → KindWithin (length (attribute_rows t.attributes)) (length t.namespaces.items) (length t.scopes.items) x.kind
row_within t f i x h l e =
    let P : NodeData → Type 0 = λ r. KindWithin (length (attribute_rows t.attributes)) (length t.namespaces.items) (length t.scopes.items) r.kind in
    subst P (sym e) (All-from_recursion P (node_rows t.nodes) h.sound.nodes i x (in_rows t f i h l))

pub row_content : (t : Tables) (f : Forest Node) (i : ℕ) (x : NodeData) → HoldsTree t f → i < size f → x ≡ get_or (node_rows t.nodes) i x → content_in x.kind ≡ content_of (place f i).item
row_content t f i x h l e =
    content_kind (attribute_rows t.attributes) (names_of t) (scopes_of t) _ _ _ x.start x.end x.kind (row_within t f i x h l e)
    ∙ ap (λ r. content_of r.node) (row_line t f i x h (in_rows t f i h l) e)

-- a node that is no element has none
pub attributes_none : (i : Node) → is_element_node i ≡ false → attributes_of i ≡ []
attributes_none i h = grind arith
