-- A node without what other tables than that of nodes have of it.
use Rattle.std.specs.Prelude.{ℕ, Bool, List, [], Option, Some, None, option_map}
use Rattle.rox_grammar.specs.Tree.{Node, Root, Element, Text, Comment, PI}
use Rattle.rox_storage.specs.Storage.{storage_bytes, is_borrowed}
use Rattle.rox_lists.specs.StoredText.{stored}
use Rattle.rox_rows.specs.declared.row.NodeKind.{NodeKind}
use Rattle.rox_rows.specs.declared.row.NodeKind.TheVariants as kind

-- The node without namespaces and attributes.
abbrev pub stripped : Node → Node
stripped (Root end) = Root end
stripped (Element start end namespace local listed attributes) = Element start end None local [] []
stripped (Text start end value borrowed) = Text start end value borrowed
stripped (Comment start end text) = Comment start end text
stripped (PI start end target value) = PI start end target value

-- The node of a row, without namespaces and attributes.
abbrev pub stripped_row : (start end : ℕ) → NodeKind → Node
stripped_row start end kind.Root = Root end
stripped_row start end (kind.Element e) = Element start end None e.local.now [] []
stripped_row start end (kind.Text value) = Text start end (storage_bytes value) (is_borrowed value)
stripped_row start end (kind.Comment text) = Comment start end (storage_bytes text)
stripped_row start end (kind.PI pi) = PI start end pi.target.now (option_map (λ v. v.now) pi.value)

-- The text of a text node's or a comment's row, and whether it is `Borrowed`.
abbrev pub content_in : NodeKind → Option (List ℕ × Bool)
content_in (kind.Text value) = Some (stored value)
content_in (kind.Comment text) = Some (stored text)
content_in other = None
