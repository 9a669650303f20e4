-- Whether a node is an element, and its range.
use Rattle.std.specs.Prelude.{ℕ, Bool, true, false}
use Rattle.rox_grammar.specs.Tree.{Node, Root, Element, Text, Comment, PI}

abbrev pub is_element_node : Node → Bool
is_element_node (Element start end namespace local listed attributes) = true
is_element_node other = false

-- The start and the end of a node's range, in bytes of its source.
abbrev pub start_of : Node → ℕ
start_of (Root end) = 0
start_of (Element start end namespace local listed attributes) = start
start_of (Text start end value borrowed) = start
start_of (Comment start end text) = start
start_of (PI start end target value) = start

abbrev pub end_of : Node → ℕ
end_of (Root end) = end
end_of (Element start end namespace local listed attributes) = end
end_of (Text start end value borrowed) = end
end_of (Comment start end text) = end
end_of (PI start end target value) = end
