-- The text of paths: offsets in the bytes of a text, from 0.
use Prim.Native.Char.{code}
use Rattle.std.specs.Prelude.{◌≡◌, ◌≢◌, ◌⊎◌, ℕ, ◌+◌, ◌<◌, ◌==◌, ◌||◌, List, [], ◌∷◌, Some, None, length}
use Rattle.rox_grammar.specs.Search.{byte_from}
use Rattle.rox_grammar.specs.Names.{byte, slice}
use Rattle.rox_path.specs.Steps.{Expanded, PathStep, child, descendant}

-- The end of a local name that starts at `i`: the next `/`, `{` or `}`, or the end of the text.
abbrev pub local_end : List ℕ → ℕ → ℕ
local_end text i = byte_from (λ c. c == code "/" || c == code "{" || c == code "}") text i

-- The end of a URI that starts at `i`: the next `}`, or the end of the text.
abbrev pub uri_end : List ℕ → ℕ → ℕ
uri_end text i = byte_from (λ c. c == code "}") text i

-- A name from `i` up to `j`: a local name, or `{`, a URI, `}` and a local name. A local name is not empty.
pub data IsStepName (text : List ℕ) (i : ℕ) : ℕ → Expanded → Type 0 where
  local_alone : i < local_end text i → IsStepName text i (local_end text i) (None, slice text i (local_end text i))
  with_uri : (u : ℕ) → byte text i ≡ code "{" → u ≡ uri_end text (i + 1) → u < length text → u + 1 < local_end text (u + 1)
      → IsStepName text i (local_end text (u + 1)) (Some (slice text (i + 1) u), slice text (u + 1) (local_end text (u + 1)))

-- A step from `i` up to `j`: `/` or `//`, and a name.
pub data IsStep (text : List ℕ) (i j : ℕ) : PathStep → Type 0 where
  one_slash : (name : Expanded) → byte text i ≡ code "/" → IsStepName text (i + 1) j name → IsStep text i j (child name)
  two_slashes : (name : Expanded) → byte text i ≡ code "/" → byte text (i + 1) ≡ code "/" → IsStepName text (i + 2) j name → IsStep text i j (descendant name)

-- One or more steps reach from `i` to the end of the text.
pub data IsPath (text : List ℕ) : ℕ → List PathStep → Type 0 where
  last_step : (i : ℕ) (s : PathStep) → IsStep text i (length text) s → IsPath text i (s ∷ [])
  then_steps : (i j : ℕ) (s : PathStep) (steps : List PathStep) → IsStep text i j s → IsPath text j steps → IsPath text i (s ∷ steps)

-- Steps, or none, reach from the start of the text to this offset.
pub data StepsTo (text : List ℕ) : ℕ → Type 0 where
  no_step : StepsTo text 0
  one_more : (i j : ℕ) (s : PathStep) → StepsTo text i → IsStep text i j s → StepsTo text j

-- A name is required at this offset, in a step that starts at `i`.
pub data NameDue (text : List ℕ) (i : ℕ) : ℕ → Type 0 where
  behind_one : byte text i ≡ code "/" → byte text (i + 1) ≢ code "/" → NameDue text i (i + 1)
  behind_two : byte text i ≡ code "/" → byte text (i + 1) ≡ code "/" → NameDue text i (i + 2)

-- A name is required at `n`, and this is the offset of its fault: a local name is missing there, or it is that of a `{` without
-- `}`.
pub data IsBadName (text : List ℕ) (n : ℕ) : ℕ → Type 0 where
  no_local : byte text n ≢ code "{" → local_end text n ≡ n → IsBadName text n n
  no_brace : byte text n ≡ code "{" → uri_end text (n + 1) ≡ length text → IsBadName text n n
  no_local_behind : (u : ℕ) → byte text n ≡ code "{" → u ≡ uri_end text (n + 1) → u < length text → local_end text (u + 1) ≡ u + 1
      → IsBadName text n (u + 1)

-- A step is required at `i`, and this is the offset of its fault: `/` is missing there, or its name has a fault there.
pub data IsBadStep (text : List ℕ) (i : ℕ) : ℕ → Type 0 where
  no_slash : byte text i ≢ code "/" → IsBadStep text i i
  no_name : (n k : ℕ) → NameDue text i n → IsBadName text n k → IsBadStep text i k

-- The text is not a path, and this is the offset where a required `/` or local name is missing, or that of a `{` without `}`. A
-- step is required at the start, and after each step that ends before the text does.
pub data IsBadAt (text : List ℕ) : ℕ → Type 0 where
  bad_step : (i k : ℕ) → StepsTo text i → (i ≡ 0) ⊎ (i < length text) → IsBadStep text i k → IsBadAt text k
