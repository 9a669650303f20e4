-- An element inside an element, and another in its place: what is proved of `reparse` and of `exchange`.
use Rattle.std.specs.Prelude.{ℕ, ◌==◌, true, false, List, nat_lt, if◌then◌else◌}
use Rattle.rox_grammar.specs.Forest.{Forest, Nil, Cons, join}
use Rattle.rox_grammar.specs.Written.{Tag, Item, Element, Text, Comment, PI, merge}
use Rattle.rox_grammar.specs.Constructs.{IsEnd}
use Rattle.rox_grammar.specs.Content.{IsTag, Content}
use Rattle.rox_grammar.specs.Entities.{no_entities}
use Rattle.rox_grammar.specs.Exchange.{Move, moved}
use Rattle.rox_exchange.specs.Local.{moved_items}

mutual
  -- An element from `i` up to `j` that is, or contains, an element from `s` up to `e`. Its items have `hole` in the place of that
  -- element.
  pub data ElementWith (src : List ℕ) (s e : ℕ) (hole : Forest Item) : ℕ → ℕ → Forest Item → Type 0 where
    here : ElementWith src s e hole s e hole
    inside : (i j m p k : ℕ) (t : Tag) (kids : Forest Item) → IsTag true no_entities src i j 255 255 false t → ContentWith src s e hole j m kids → IsEnd src m t.name p k
        → ElementWith src s e hole i k (Cons (Element i k t) (merge kids) Nil)

  -- Content that contains such an element: content before it, the element, and content after it.
  pub data ContentWith (src : List ℕ) (s e : ℕ) (hole : Forest Item) : ℕ → ℕ → Forest Item → Type 0 where
    between : (i j k l : ℕ) (before one after : Forest Item) → Content true no_entities src i j 255 255 before → ElementWith src s e hole j k one → Content true no_entities src k l 255 255 after
        → ContentWith src s e hole i l (join before (join one after))

-- The siblings with `one` in the place of the element that starts at `s`. What follows it is moved, and so are the ends of its
-- ancestors.
abbrev pub exchanged_items : Move → Forest Item → ℕ → Forest Item → Forest Item
exchanged_items m one s Nil = Nil
exchanged_items m one s (Cons (Element a z t) children rest) =
    if a == s then join one (moved_items m rest)
    else if nat_lt s z then Cons (Element a (moved m z) t) (exchanged_items m one s children) (moved_items m rest)
    else Cons (Element a z t) children (exchanged_items m one s rest)
exchanged_items m one s (Cons (Text a z v borrowed) children rest) = Cons (Text a z v borrowed) children (exchanged_items m one s rest)
exchanged_items m one s (Cons (Comment a z v) children rest) = Cons (Comment a z v) children (exchanged_items m one s rest)
exchanged_items m one s (Cons (PI a z v o) children rest) = Cons (PI a z v o) children (exchanged_items m one s rest)
