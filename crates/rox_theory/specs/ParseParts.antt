-- A part of a prolog that has one form with and without a document type declaration.
use Rattle.std.specs.Prelude.{ℕ, Bool, true, false, List, []}
use Rattle.rox_grammar.specs.Forest.{Forest, Nil, join}
use Rattle.rox_grammar.specs.Written.{Item}
use Rattle.rox_grammar.specs.Entities.{Entity}
use Rattle.rox_grammar.specs.Doctype.{Asked, IsDoctype}
use Rattle.rox_grammar.specs.Document.{Misc}

-- A document type declaration with what follows it, or nothing: whether there is one, its nodes, the requests for its entities,
-- and the entities.
pub data MayHaveDoctype (src : List ℕ) : ℕ → ℕ → Bool → Forest Item → List Asked → List Entity → Type 0 where
  doctype : (i j k : ℕ) (items more : Forest Item) (asked : List Asked) (es : List Entity) → IsDoctype src i j items asked es → Misc src j k more
      → MayHaveDoctype src i k true (join items more) asked es
  no_doctype : (i : ℕ) → MayHaveDoctype src i i false Nil [] []
