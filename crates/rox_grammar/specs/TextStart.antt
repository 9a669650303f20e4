-- The start of a text: of the main text, or of a resolver's answer.
use Rattle.std.specs.Prelude.{◌≡◌, ℕ, ◌==◌, false, List, [], ◌∷◌, if◌then◌else◌}
use Rattle.std.specs.List.{starts_with}
use Rattle.rox_grammar.specs.Constructs.{text_at, IsXmlDecl}

-- XML 4.3.3: the byte order mark in UTF-8.
abbrev pub bom : List ℕ
bom = 0xEF ∷ 0xBB ∷ 0xBF ∷ []

-- The offset after a byte order mark, or 0 if there is none.
abbrev pub after_bom : List ℕ → ℕ
after_bom src = if starts_with ◌==◌ src bom then 3 else 0

-- XML 2.8 [23], 4.3.1 [77]: a declaration if `<?xml` and a space are at `i`, else nothing. Departure: the declaration of an
-- answer is read like that of the main text, where [77] requires `encoding`, lets `version` be missing, and has no `standalone`.
pub data MayHaveXmlDecl (src : List ℕ) : (i j : ℕ) → Type 0 where
  declared : (i j : ℕ) → IsXmlDecl src i j → MayHaveXmlDecl src i j
  not_declared : (i : ℕ) → text_at "<?xml " src i ≡ false → MayHaveXmlDecl src i i
