-- The number of replacement texts that the references of a text open, and the length of the longest replacement text.
use Rattle.std.specs.Prelude.{◌≡◌, ℕ, zero, suc, ◌+◌, ◌-◌, false, List, [], ◌∷◌, Some, length, max}
use Rattle.rox_grammar.specs.Constructs.{AreChars}
use Rattle.rox_grammar.specs.Content.{Inclusion, Content, Value}
use Rattle.rox_grammar.specs.Entities.{Replacement, Entity, text_of, no_entities}

-- Like `Includes`, but with no limit except `depth_left`. The numbers count the replacement texts that were opened before the
-- reference, and up to its end.
abbrev pub Counts : List Entity → (depth_left : ℕ) → Inclusion
Counts es zero = no_entities
Counts es (suc d) =
    record {
      content = λ name b items c.
          (t : Replacement) × (text_of es name ≡ Some t) × Content false (Counts es d) t.source t.start (length t.source) (b + 1) c items;
      value = λ name b v c.
          (t : Replacement) × (text_of es name ≡ Some t) × AreChars t.source t.start (length t.source)
          × Value false (Counts es d) t.source (length t.source) t.start (b + 1) c v;
    }

-- The length in bytes of the longest replacement text.
abbrev pub longest : List Entity → ℕ
longest [] = 0
longest (e ∷ es) = max (length e.text.source - e.text.start) (longest es)
