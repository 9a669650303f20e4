-- How the contracts on nodes say that a node is returned.
use Rattle.std.specs.Prelude.{◌≡◌, ℕ, Option, Some, None, MatchOption}
use Rattle.roxmltree.specs.declared.nodes.Node.{Node}

-- The result is the node of the id `answer`, in the document of `from`. It is `None` if `answer` is.
abbrev pub GivesNode : Node → Option ℕ → Option Node → Type 0
GivesNode from answer result =
    MatchOption result (answer ≡ None) (λ node. (answer ≡ Some node.id.0) × (node.document ≡ from.document))
