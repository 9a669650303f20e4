-- A replacement text is read as the grammar opens it at a reference.
use Prim.Native.Char.{code}
use Rattle.std.specs.Prelude.{◌≡◌, ◌⊎◌, ◌≤◌, ℕ, List, Some, Result, Ok, IsUtf8, IsCharBoundary}
use Rattle.rox_grammar.specs.Forest.{Forest, join}
use Rattle.rox_grammar.specs.Written.{Item}
use Rattle.rox_grammar.specs.Content.{Inclusion}
use Rattle.rox_grammar.specs.Entities.{Replacement, Entity, text_of}
use Rattle.rox_reading.specs.Refusals.{Refusal}
use Rattle.rox_reading.specs.State.{State}
use Rattle.rox_reading.specs.Values.{ValueInclusion}
use Rattle.rox_theory.specs.ValidState.{IsValidState, state}

-- The byte is `<` or a quote: it ends a run or a value.
abbrev pub IsStop : ℕ → Type 0
IsStop b = (b ≡ code "<") ⊎ ((b ≡ code "'") ⊎ (b ≡ code "\""))

-- Each replacement text is in UTF-8, and starts and ends between two characters of its source.
abbrev pub AreTexts : List Entity → Type 0
AreTexts es = (name : List ℕ) (t : Replacement) → text_of es name ≡ Some t → IsUtf8 t.source × IsCharBoundary t.source t.start

-- In values, the opener reads replacement texts as `O` says. The offset after the reference matters only for a fault.
pub record AgreesValue (es : List Entity) (O : Inclusion) (opener : ValueInclusion) : Type 0 where
  pub sound : (name : List ℕ) (t : Replacement) (after b c : ℕ) (w : List ℕ) → text_of es name ≡ Some t → opener t after b ≡ Ok (w, c) → O.value name b w c
  pub complete : (name : List ℕ) (after b c : ℕ) (w : List ℕ) → O.value name b w c → (t : Replacement) × (text_of es name ≡ Some t) × (opener t after b ≡ Ok (w, c))

-- In content, the opener reads replacement texts as `O` says, over the state of the text around the reference. The offset after
-- the reference matters only for a fault and for where reading continues. The offset of the state does not matter.
pub record AgreesContent (es : List Entity) (limit : ℕ) (O : Inclusion) (opener : Replacement → ℕ → State → Result State Refusal) : Type 0 where
  pub sound : (most : ℕ) (name : List ℕ) (t : Replacement) (after : ℕ) (s u : State) → limit ≤ most → text_of es name ≡ Some t → IsValidState most s → opener t after s ≡ Ok u
      → (items : Forest Item) × (c : ℕ) × O.content name s.openings_left items c × (u ≡ state after (join s.done items) s.stack c) × IsValidState most u
  pub complete : (name : List ℕ) (after c : ℕ) (items : Forest Item) (s : State) → O.content name s.openings_left items c → IsValidState limit (state after (join s.done items) s.stack c)
      → (t : Replacement) × (text_of es name ≡ Some t) × (opener t after s ≡ Ok (state after (join s.done items) s.stack c))
