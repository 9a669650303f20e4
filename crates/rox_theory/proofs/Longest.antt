-- How long a replacement text can be: it lies in the text, or in an answer.
use Rattle.std.proofs.Common.{◌+◌, ◌-◌, ◌≤◌, ℕ, Bool, List, [], ◌∷◌, ◌++◌, length, arith, length-drop, length-take}
use Rattle.std.specs.Prelude.{max, Some, None, IfSome, Option}
use Rattle.rox_grammar.specs.Forest.{Forest}
use Rattle.rox_grammar.specs.Written.{Item}
use Rattle.rox_grammar.specs.Entities.{Replacement, Entity}
use Rattle.rox_grammar.specs.Doctype.{Asked, GivesReplacement, nothing, the_rest, IsDefinition, IsEntityDeclaration, entity_declaration, Subset, no_more, space, an_item, skipped_declaration, an_entity, IsDoctype}
use Rattle.rox_grammar.specs.Document.{ParseOf}
use Rattle.rox_theory.specs.ParseParts.{MayHaveDoctype}
use Rattle.rox_grammar.specs.Expansion.{longest}
use Rattle.rox_theory.specs.Answers.{AreShort}
use Rattle.rox_theory.proofs.DoctypeParts.{passed_end}
use Rattle.rox_theory.proofs.ParseParts.{parts}

short_parts : (most : ℕ) (first later : List Asked) → AreShort most (first ++ later) → AreShort most first × AreShort most later
short_parts most [] later h = (tt, h)
short_parts most (a ∷ first) later h = let x = short_parts most first later h.1 in ((h.0, x.0), x.1)

longest_both : (n : ℕ) (one others : List Entity) → longest one ≤ n → longest others ≤ n → longest (one ++ others) ≤ n
longest_both n [] others h k = k
longest_both n (e ∷ one) others h k =
    omega (arith, h, (longest_both n one others (omega (arith, h)) k))

module _ (src : List ℕ) (most : ℕ) where
  -- No longer than the text, or than an answer.
  abbrev IsShort : Option Replacement → Type 0
  IsShort None = Unit {0}
  IsShort (Some t) = length t.source - t.start ≤ max (length src) most

  given_short : (answer : Option (List ℕ)) (text : Option Replacement) → GivesReplacement answer text → IfSome answer (λ a. length a ≤ most) → IsShort text
  given_short answer text nothing h = tt
  given_short answer text (the_rest whole d utf8 stands) h = let l = length-drop d whole in omega (arith, l, h)

  definition_short : (parameter : Bool) (i j : ℕ) (asked : List Asked) (text : Option Replacement) → IsDefinition src parameter i j asked text → AreShort most asked → IsShort text
  definition_short parameter i j asked text h k = grind (arith, length-take, given_short)

  declaration_short : (i j : ℕ) (asked : List Asked) (declared : List Entity) → IsEntityDeclaration src i j asked declared → AreShort most asked → longest declared ≤ max (length src) most
  declaration_short i j asked declared (entity_declaration parameter n m d e _ text begins definition closes) h = grind (arith, definition_short)

  subset_short : (i j : ℕ) (items : Forest Item) (asked : List Asked) (es : List Entity) → Subset src i j items asked es → AreShort most asked → longest es ≤ max (length src) most
  subset_short i j items asked es (no_more _) h = omega arith
  subset_short i j items asked es (space _ _ _ _ _ here rest) h = subset_short (i + 1) j items asked es rest h
  subset_short i j items asked es (an_item _ k _ item more _ _ is rest) h = subset_short k j more asked es rest h
  subset_short i j items asked es (skipped_declaration _ _ _ _ _ opens closes rest) h = subset_short (passed_end src i) j items asked es rest h
  subset_short i j items asked es (an_entity _ k _ _ first later one others is rest) h =
      let x = short_parts most first later h in
      longest_both (max (length src) most) one others (declaration_short i k first one is x.0) (subset_short k j items later others rest x.1)

  itself_short : (i j : ℕ) (items : Forest Item) (asked : List Asked) (es : List Entity) → IsDoctype src i j items asked es → AreShort most asked → longest es ≤ max (length src) most
  itself_short i j items asked es h k = grind (arith, subset_short)

  doctype_short : (i j : ℕ) (dtd : Bool) (items : Forest Item) (asked : List Asked) (es : List Entity) → MayHaveDoctype src i j dtd items asked es → AreShort most asked → longest es ≤ max (length src) most
  doctype_short i j dtd items asked es h k = grind (arith, itself_short)

pub parse_short : (src : List ℕ) (dtd : Bool) (asked : List Asked) (tree : Forest Item) (p : ParseOf src dtd asked tree) (most : ℕ) → AreShort most asked → longest p.entities ≤ max (length src) most
parse_short src dtd asked tree whole most h = grind (arith, parts src dtd asked tree whole, doctype_short)
