-- Elements with an `id`.
use Rattle.std.specs.Prelude.{ℕ, Bool, List, Some, bytes_eq, codes}
use Rattle.std.specs.Option.{option_eq}
use Rattle.roxmltree.specs.DocumentView.{DocumentView}
use Rattle.rox_uses.specs.Nodes.{value_at}

-- Whether the attribute `id` of the node, without a namespace, has this value.
abbrev pub has_id : List ℕ → DocumentView × ℕ → Bool
has_id id node_ref = option_eq bytes_eq (value_at (codes "id") node_ref) (Some id)
