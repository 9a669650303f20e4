-- What is true of the tree of every document.
use Rattle.std.specs.Prelude.{◌≡◌, Bool, false, ◌&&◌, bytes_eq, All, IfSome}
use Rattle.std.specs.List.{IsDistinct}
pub use Rattle.rox_grammar.specs.CharText.{IsCharText, NamespaceDeclChars}
use Rattle.rox_grammar.specs.Forest.{Forest, Nil, Cons}
use Rattle.rox_grammar.specs.Tree.{Node, Attribute, Root, Element, Text, Comment, PI, same_prefix}
use Rattle.roxmltree.specs.NodeParts.{is_text_node, listed_of, attributes_of}
use Rattle.roxmltree.specs.EachNode.{EachNode}

-- Whether the first of these nodes is a text.
abbrev pub begins_with_text : Forest Node → Bool
begins_with_text Nil = false
begins_with_text (Cons node children rest) = is_text_node node

-- No text is followed by a text, at any depth.
abbrev pub TextsApart : Forest Node → Type 0
TextsApart Nil = Unit {0}
TextsApart (Cons node children rest) = ((is_text_node node && begins_with_text rest) ≡ false) × TextsApart children × TextsApart rest

-- NS 6.3: whether both have one local name, and both have no namespace or one namespace.
abbrev pub same_attribute_name : Attribute → Attribute → Bool
same_attribute_name a b = same_prefix a.namespace b.namespace && bytes_eq a.local b.local

-- Each node lists a prefix, or the default, at most once, and has at most one attribute of an expanded name.
abbrev pub NamesDistinct : Forest Node → Type 0
NamesDistinct tree = EachNode (λ node. IsDistinct (λ d e. same_prefix d.prefix e.prefix) (listed_of node) × IsDistinct same_attribute_name (attributes_of node)) tree

-- The namespace of an attribute, if it has one, its local name and its value are texts of Chars.
pub record AttributeChars (a : Attribute) : Type 0 where
  pub namespace : IfSome a.namespace IsCharText
  pub local : IsCharText a.local
  pub value : IsCharText a.value

-- The names and values of a node are texts of Chars.
abbrev pub NodeChars : Node → Type 0
NodeChars (Root end) = Unit {0}
NodeChars (Element start end namespace local listed attributes) =
    IfSome namespace IsCharText × IsCharText local × All NamespaceDeclChars listed × All AttributeChars attributes
NodeChars (Text start end value borrowed) = IsCharText value
NodeChars (Comment start end text) = IsCharText text
NodeChars (PI start end target value) = IsCharText target × IfSome value IsCharText

-- The names and values of these nodes, at any depth, are texts of Chars.
abbrev pub AllChars : Forest Node → Type 0
AllChars tree = EachNode NodeChars tree
