-- The kinds of node.
use Rattle.rox_grammar.specs.Tree.{Node, Root, Element, Text, Comment, PI}
use Rattle.roxmltree.specs.declared.node_content.NodeType.{NodeType}
use Rattle.roxmltree.specs.declared.node_content.NodeType.TheVariants as type

-- The kind of a node.
abbrev pub type_of : Node → NodeType
type_of (Root end) = type.Root
type_of (Element start end namespace local listed attributes) = type.Element
type_of (Text start end value borrowed) = type.Text
type_of (Comment start end text) = type.Comment
type_of (PI start end target value) = type.PI
