-- Empty text nodes.
use Prim.Native.Char.{code}
use Rattle.std.specs.Prelude.{◌≡◌, ℕ, ◌+◌, false, List, []}
use Rattle.rox_grammar.specs.Forest.{Forest}
use Rattle.rox_grammar.specs.Tree.{Node, Text}
use Rattle.rox_grammar.specs.Names.{byte}
use Rattle.rox_grammar.specs.Constructs.{text_at, IsCData}
use Rattle.rox_grammar.specs.Entities.{Entity}
use Rattle.rox_theory.specs.Pieces.{IsSourceIn, IsEmptySection}
use Rattle.roxmltree.specs.EachNode.{EachNode}

-- XML 2.7: from the offset `i` on, the text has one or more empty CDATA sections, and then markup that is not a CDATA section.
pub data EmptySections (text : List ℕ) : ℕ → Type 0 where
  last : (i : ℕ) → IsCData text i (i + 9) (i + 12) → byte text (i + 12) ≡ code "<" → text_at "<![CDATA[" text (i + 12) ≡ false → EmptySections text i
  more : (i : ℕ) → IsCData text i (i + 9) (i + 12) → EmptySections text (i + 12) → EmptySections text i

-- If the node is an empty text, it is written as empty CDATA sections only.
abbrev pub EmptyIsSections : List ℕ → Node → Type 0
EmptyIsSections text (Text start end value borrowed) = value ≡ [] → EmptySections text start
EmptyIsSections text other = Unit {0}

-- Each empty text of the tree is written as empty CDATA sections only.
abbrev pub EmptyTextsAreSections : List ℕ → Forest Node → Type 0
EmptyTextsAreSections text tree = EachNode (EmptyIsSections text) tree

-- If the node is an empty text, its range is that of an empty CDATA section, the first of its pieces. It is in the text, or in
-- the source of an entity.
abbrev pub BeginsWithSection : (text : List ℕ) (es : List Entity) → Node → Type 0
BeginsWithSection text es (Text start end value borrowed) = value ≡ [] → (source : List ℕ) × IsSourceIn text es source × IsEmptySection source start end
BeginsWithSection text es other = Unit {0}
