-- The answers for the external entities of a text.
use Rattle.std.specs.Prelude.{◌≡◌, ◌≤◌, ℕ, List, [], ◌∷◌, IfSome, length}
use Rattle.rox_grammar.specs.Doctype.{Asked}

-- The answers in both lists are equal one by one, as far as both go.
abbrev pub SameAnswers : List Asked → List Asked → Type 0
SameAnswers [] b = Unit {0}
SameAnswers (x ∷ a) [] = Unit {0}
SameAnswers (x ∷ a) (y ∷ b) = (x.answer ≡ y.answer) × SameAnswers a b

-- Each answer that is a text has at most `most` bytes.
abbrev pub AreShort : (most : ℕ) → List Asked → Type 0
AreShort most [] = Unit {0}
AreShort most (a ∷ as') = IfSome a.answer (λ text. length text ≤ most) × AreShort most as'
