-- The parts of a node.
use Rattle.std.specs.Prelude.{ℕ, Bool, true, false, List, [], Option, None, Some, if◌then◌else◌, option_map}
use Rattle.rox_grammar.specs.Forest.{Forest}
use Rattle.rox_grammar.specs.Written.{NamespaceDecl}
use Rattle.rox_grammar.specs.Tree.{Node, Attribute, Root, Element, Text, Comment, PI}
pub use Rattle.rox_grammar.specs.NodeRanges.{is_element_node, start_of, end_of}
use Rattle.roxmltree.specs.Places.{place, first_child, next_sibling}

-- The node of this id.
abbrev pub node_at : Forest Node → ℕ → Node
node_at tree id = (place tree id).item

abbrev pub is_root_node : Node → Bool
is_root_node (Root end) = true
is_root_node other = false

abbrev pub is_text_node : Node → Bool
is_text_node (Text start end value borrowed) = true
is_text_node other = false

abbrev pub is_comment_node : Node → Bool
is_comment_node (Comment start end text) = true
is_comment_node other = false

abbrev pub is_pi_node : Node → Bool
is_pi_node (PI start end target value) = true
is_pi_node other = false

-- The local name of an element, and nothing for other nodes.
abbrev pub local_of : Node → List ℕ
local_of (Element start end namespace local listed attributes) = local
local_of other = []

-- The namespace of an element's name, and `None` for other nodes.
abbrev pub namespace_of : Node → Option (List ℕ)
namespace_of (Element start end namespace local listed attributes) = namespace
namespace_of other = None

-- The namespaces that an element lists, and none for other nodes.
abbrev pub listed_of : Node → List NamespaceDecl
listed_of (Element start end namespace local listed attributes) = listed
listed_of other = []

-- The attributes of an element, and none for other nodes.
abbrev pub attributes_of : Node → List Attribute
attributes_of (Element start end namespace local listed attributes) = attributes
attributes_of other = []

-- The target and the value of a processing instruction.
abbrev pub pi_of : Node → Option (List ℕ × Option (List ℕ))
pi_of (PI start end target value) = Some (target, value)
pi_of other = None

-- The text of a text node, and whether it is `Borrowed`.
abbrev pub text_content : Node → Option (List ℕ × Bool)
text_content (Text start end value borrowed) = Some (value, borrowed)
text_content other = None

-- The text of a text node or a comment, and whether it is `Borrowed`. That of a comment always is.
abbrev pub content_of : Node → Option (List ℕ × Bool)
content_of (Text start end value borrowed) = Some (value, borrowed)
content_of (Comment start end text) = Some (text, true)
content_of other = None

-- The text of the node of this id, if it is a text node.
abbrev pub stored_under : Forest Node → Option ℕ → Option (List ℕ × Bool)
stored_under tree None = None
stored_under tree (Some id) = text_content (node_at tree id)

-- The text of an element's first child if that is a text node, and the own text of a text node or a comment.
abbrev pub stored_text : Forest Node → ℕ → Option (List ℕ × Bool)
stored_text tree id = if is_element_node (node_at tree id) then stored_under tree (first_child tree id) else content_of (node_at tree id)

-- The text of an element's next sibling if that is a text node.
abbrev pub stored_tail : Forest Node → ℕ → Option (List ℕ × Bool)
stored_tail tree id = if is_element_node (node_at tree id) then stored_under tree (next_sibling tree id) else None

-- The text of `stored_text`. `tail` is that of `stored_tail`.
abbrev pub text : Forest Node → ℕ → Option (List ℕ)
text tree id = option_map (λ t. t.0) (stored_text tree id)

abbrev pub tail : Forest Node → ℕ → Option (List ℕ)
tail tree id = option_map (λ t. t.0) (stored_tail tree id)
