-- The ranges of nodes and attributes in the text of a document.
use Prim.Native.Char.{code}
use Rattle.std.specs.Prelude.{◌≡◌, ◌≢◌, ◌⊎◌, ℕ, ◌-◌, ◌<◌, ◌≤◌, true, List, [], ◌∷◌, ◌++◌, All, length}
use Rattle.rox_grammar.specs.Forest.{Forest, Nil, Cons}
use Rattle.rox_grammar.specs.Written as written
use Rattle.rox_grammar.specs.Written.{NamespaceDecl}
use Rattle.rox_grammar.specs.Tree.{Node, Attribute, attribute_in}
use Rattle.rox_grammar.specs.Names.{byte, slice}
use Rattle.rox_grammar.specs.Content.{IsAttribute}
use Rattle.rox_grammar.specs.Entities.{no_entities, most_within}
use Rattle.roxmltree.specs.NodeParts.{start_of, end_of, listed_of, attributes_of}
use Rattle.roxmltree.specs.EachNode.{EachNode}

-- Siblings between the offsets `from` and `to`, in order. Each has at least one byte, and starts at or after the end of the one
-- before it. The first starts at or after `from`, and the last ends at or before `to`. The children of each are nested in its
-- range.
abbrev pub RangesNested : ℕ → ℕ → Forest Node → Type 0
RangesNested from to Nil = from ≤ to
RangesNested from to (Cons node children rest) =
    (from ≤ start_of node) × (start_of node < end_of node) × RangesNested (start_of node) (end_of node) children × RangesNested (end_of node) to rest

-- Attributes between the offsets `from` and `to`, in order. Each has at least one byte. At least one byte separates it from the
-- next, from `from` and from `to`.
abbrev pub AreInOrder : ℕ → ℕ → List Attribute → Type 0
AreInOrder from to [] = Unit {0}
AreInOrder from to (a ∷ as') = (from < a.start) × (a.start < a.end) × (a.end < to) × AreInOrder a.end to as'

-- The attributes of each element are in order within its range.
abbrev pub AttributesInOrder : Forest Node → Type 0
AttributesInOrder tree = EachNode (λ node. AreInOrder (start_of node) (end_of node) (attributes_of node)) tree

-- XML 3.1: the attribute is written in the text from its start up to its end, and `scope` gives its namespace. It refers to no
-- entity, so the openings that are left do not change.
abbrev pub IsWritten : List ℕ → List NamespaceDecl → Attribute → Type 0
IsWritten text scope a = (w : written.Attribute) × IsAttribute true no_entities text a.start a.end most_within most_within w × (a ≡ attribute_in scope w)

-- Each attribute of the tree is written in the text, as in `IsWritten`.
abbrev pub AttributesWritten : List ℕ → Forest Node → Type 0
AttributesWritten text tree = EachNode (λ node. All (IsWritten text (listed_of node)) (attributes_of node)) tree

-- NS 4: a name as written is a local part. Or it is a prefix, which may be empty, a colon, and the local part.
abbrev pub SpellsName : List ℕ → List ℕ → Type 0
SpellsName local bytes = (bytes ≡ local) ⊎ ((prefix : List ℕ) × (bytes ≡ prefix ++ code ":" ∷ local))

-- The ranges of an attribute are those of its name as written and of the raw value between its quotes.
pub record SelectsAttribute (text : List ℕ) (a : Attribute) : Type 0 where
  pub inside : (a.start ≤ a.name_end) × (a.name_end < a.value_start - 1) × (a.value_start < a.end) × (a.end ≤ length text)
  pub name : SpellsName a.local (slice text a.start a.name_end)
  -- A quote is before the value.
  pub opens : (byte text (a.value_start - 1) ≡ code "'") ⊎ (byte text (a.value_start - 1) ≡ code "\"")
  pub closes : byte text (a.end - 1) ≡ byte text (a.value_start - 1)
  -- The raw value does not contain its quote, nor `<`.
  pub between : (k : ℕ) → a.value_start ≤ k → k < a.end - 1 → (byte text k ≢ byte text (a.value_start - 1)) × (byte text k ≢ code "<")
  -- The raw value is the value, if that is a slice of the text.
  pub value : a.borrowed ≡ true → a.value ≡ slice text a.value_start (a.end - 1)

-- The ranges of each attribute of the tree are as in `SelectsAttribute`.
abbrev pub RangesSelect : List ℕ → Forest Node → Type 0
RangesSelect text tree = EachNode (λ node. All (SelectsAttribute text) (attributes_of node)) tree
