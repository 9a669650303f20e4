-- Entities, and what a reference to one opens (XML 4.4). A replacement text is read as a source of its own, which ends where the
-- text ends. Its offsets count in the source that contains it: the main text, or the rest of a resolver's answer.
use Rattle.std.specs.Prelude.{◌≡◌, ℕ, zero, suc, ◌+◌, Bool, true, false, List, Option, Some, length, bytes_eq, find, option_map}
use Rattle.rox_grammar.specs.Constructs.{AreChars}
use Rattle.rox_grammar.specs.Content.{Inclusion, Content, Value}

-- A replacement text, from `start` up to the end of `source`, which is cut off there. Departure: it is the text as it is written,
-- where XML 4.5 opens the character references of a literal beforehand.
pub record Replacement : Type 0 where
  pub source : List ℕ
  pub start : ℕ

-- An entity that is declared: its name and its replacement text.
pub record Entity : Type 0 where
  pub name : List ℕ
  pub text : Replacement

-- XML 4.2: the first of several declarations of a name is binding. Departures: those of parameter entities count too, whose names
-- section 4 keeps apart. The five names of 4.6 are not searched for here, so a declaration of one of them, as of `lt`, has no effect.
abbrev pub text_of : List Entity → List ℕ → Option Replacement
text_of es name = option_map (λ e. e.text) (find (λ e. bytes_eq e.name name) es)

-- The maximum number of openings inside the text that a reference in the main text opens.
abbrev pub most_within : ℕ
most_within = 255

-- The openings that are left: `before` a reference, `first` at the start of the text that it opens, `last` at the end of that
-- text, and `after` the reference. A reference in the main text has `most_within` of its own. A reference in a replacement text
-- takes one of those that are left.
abbrev pub Spends : (main : Bool) (before first last after : ℕ) → Type 0
Spends true before first last after = (first ≡ most_within) × (after ≡ before)
Spends false before first last after = (before ≡ first + 1) × (after ≡ last)

-- The meaning of references where no entity is declared, or no replacement text may be opened: they have none.
abbrev pub no_entities : Inclusion
no_entities = record { content = λ name b items c. ⊥; value = λ name b v c. ⊥ }

-- XML 4.4.2, 4.4.5: the meaning of a reference, in the main text or in a replacement text, where `depth_left` replacement texts
-- may be opened inside one another. In content the whole replacement text is content. In a value it is a part of the value, of
-- Chars. Departures: XML has no such bound. The text may be an external entity's in a value too, which 3.1 (No External Entity
-- References) forbids.
abbrev pub Includes : List Entity → (depth_left : ℕ) → (main : Bool) → Inclusion
Includes es zero main = no_entities
Includes es (suc d) main = record {
  content = λ name before items after. (t : Replacement) × (first : ℕ) × (last : ℕ) × (text_of es name ≡ Some t) × Spends main before first last after
      × Content false (Includes es d false) t.source t.start (length t.source) first last items;
  value = λ name before v after. (t : Replacement) × (first : ℕ) × (last : ℕ) × (text_of es name ≡ Some t) × Spends main before first last after
      × AreChars t.source t.start (length t.source) × Value false (Includes es d false) t.source (length t.source) t.start first last v;
}

-- The maximum number of replacement texts that are open at once.
abbrev pub most_deep : ℕ
most_deep = 10

-- The meaning of a reference in the main text.
abbrev pub included_in_main : List Entity → Inclusion
included_in_main es = Includes es most_deep true
