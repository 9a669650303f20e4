-- The pairs of a prefix and a URI, counted one by one from left to right.
use Rattle.std.specs.Prelude.{Bool, List, [], ◌∷◌, ◌++◌, if◌then◌else◌}
use Rattle.std.specs.List.{list_any}
use Rattle.rox_grammar.specs.Written.{NamespaceDecl, Tag}
use Rattle.rox_grammar.specs.Tree.{listable_of}
use Rattle.rox_grammar.specs.Document.{same_pair}
pub use Rattle.rox_grammar.specs.Document.{own_attributes, own_pairs, attributes_in as attribute_count, pairs_in as pairs}

-- The declarations of a tag that its element lists.
abbrev pub listable : Tag → List NamespaceDecl
listable t = listable_of t.declarations

-- Whether a pair of a prefix, or the default, and a URI is among these.
abbrev pub has_pair : List NamespaceDecl → NamespaceDecl → Bool
has_pair ds d = list_any (λ e. same_pair e d) ds

-- The declarations `ds`, and after them each different pair of the others that is not among them.
abbrev pub with_new : List NamespaceDecl → List NamespaceDecl → List NamespaceDecl
with_new ds [] = ds
with_new ds (e ∷ es) = if has_pair ds e then with_new ds es else with_new (ds ++ e ∷ []) es

-- Each different pair of a prefix, or the default, and a URI, once.
abbrev pub distinct_pairs : List NamespaceDecl → List NamespaceDecl
distinct_pairs ds = with_new [] ds
