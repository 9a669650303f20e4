-- Elements stand one after the other and within one another, and nothing else has items below it.
use Rattle.std.proofs.Common.{◌≡◌, ℕ, ◌+◌, ◌<◌, ◌≤◌, Bool, true, false, List, refl, arith}
use Rattle.rox_grammar.specs.Forest.{Forest, Nil, Cons, join}
use Rattle.rox_grammar.specs.Written.{Item, Element, Text, Comment, PI, glue, merge}
use Rattle.rox_grammar.specs.Content.{IsMisc, IsElement, empty, nest, Content, ends, run, cdata, misc, node}
use Rattle.rox_grammar.proofs.RunParts.{Parts}
use Rattle.rox_grammar.specs.Entities.{no_entities}
use Rattle.rox_grammar.specs.Document.{Misc, no_misc, space, an_item}
use Rattle.rox_exchange.proofs.Order.{tag_lt, end_lt, misc_lt, content_le, cdata_le}
use Rattle.rox_theory.proofs.Productions.{cdata_parts, char_data_parts}

-- Between two places.
abbrev pub Ordered : ℕ → ℕ → Forest Item → Type 0
Ordered i j Nil = i ≤ j
Ordered i j (Cons (Element a z t) children rest) = (i ≤ a) × (a < z) × Ordered (a + 1) z children × Ordered z j rest
Ordered i j (Cons (Text a z v borrowed) children rest) = (children ≡ Nil) × Ordered i j rest
Ordered i j (Cons (Comment a z v) children rest) = (children ≡ Nil) × Ordered i j rest
Ordered i j (Cons (PI a z v o) children rest) = (children ≡ Nil) × Ordered i j rest

pub ordered_le : (i j : ℕ) (f : Forest Item) → Ordered i j f → i ≤ j
ordered_le i j Nil is = is
ordered_le i j (Cons (Element a z t) children rest) (le, lt, low, beside) = omega (arith, ordered_le z j rest beside)
ordered_le i j (Cons (Text a z v borrowed) children rest) (bare, beside) = ordered_le i j rest beside
ordered_le i j (Cons (Comment a z v) children rest) (bare, beside) = ordered_le i j rest beside
ordered_le i j (Cons (PI a z v o) children rest) (bare, beside) = ordered_le i j rest beside

-- Between places further apart.
pub wider : (i j k l : ℕ) (f : Forest Item) → k ≤ i → j ≤ l → Ordered i j f → Ordered k l f
wider i j k l Nil left right is = omega arith
wider i j k l (Cons (Element a z t) children rest) left right (le, lt, low, beside) = (omega arith, lt, low, wider z j z l rest (omega arith) right beside)
wider i j k l (Cons (Text a z v borrowed) children rest) left right (bare, beside) = (bare, wider i j k l rest left right beside)
wider i j k l (Cons (Comment a z v) children rest) left right (bare, beside) = (bare, wider i j k l rest left right beside)
wider i j k l (Cons (PI a z v o) children rest) left right (bare, beside) = (bare, wider i j k l rest left right beside)

pub ordered_join : (i j k : ℕ) (f g : Forest Item) → Ordered i j f → Ordered j k g → Ordered i k (join f g)
ordered_join i j k Nil g is more = wider j k i k g is (omega arith) more
ordered_join i j k (Cons (Element a z t) children rest) g (le, lt, low, beside) more = (le, lt, low, ordered_join z j k rest g beside more)
ordered_join i j k (Cons (Text a z v borrowed) children rest) g (bare, beside) more = (bare, ordered_join i j k rest g beside more)
ordered_join i j k (Cons (Comment a z v) children rest) g (bare, beside) more = (bare, ordered_join i j k rest g beside more)
ordered_join i j k (Cons (PI a z v o) children rest) g (bare, beside) more = (bare, ordered_join i j k rest g beside more)

-- A text in front.
ordered_glue : (i j a z : ℕ) (v : List ℕ) (borrowed : Bool) (f : Forest Item) → Ordered i j f → Ordered i j (glue (Text a z v borrowed) Nil f)
ordered_glue i j a z v borrowed g is = grind arith

pub ordered_merge : (i j : ℕ) (f : Forest Item) → Ordered i j f → Ordered i j (merge f)
ordered_merge i j Nil is = is
ordered_merge i j (Cons (Text a z v borrowed) children rest) (bare, beside) = rw bare (ordered_glue i j a z v borrowed (merge rest) (ordered_merge i j rest beside))
ordered_merge i j (Cons (Element a z t) children rest) (le, lt, low, beside) = (le, lt, low, ordered_merge z j rest beside)
ordered_merge i j (Cons (Comment a z t) children rest) (bare, beside) = (bare, ordered_merge i j rest beside)
ordered_merge i j (Cons (PI a z t o) children rest) (bare, beside) = (bare, ordered_merge i j rest beside)

module _ (src : List ℕ) where
  misc_ordered : (i j : ℕ) (item : Item) (rest : Forest Item) (k l : ℕ) → IsMisc src i j item → Ordered k l rest → Ordered k l (Cons item Nil rest)
  misc_ordered i j item rest k l g more = grind arith

  parts_ordered : (start stop i b c k l : ℕ) (items : Forest Item) → k ≤ l → Parts true no_entities src start stop i b c items → Ordered k l items
  parts_ordered start stop i b c k l items le j = grind arith

  mutual
    pub content_ordered : (i j b c : ℕ) (items : Forest Item) → Content true no_entities src i j b c items → Ordered i j items
    content_ordered i j b c items (ends _ _) = omega arith
    content_ordered i j b c items (run _ k _ _ d _ one more is parts rest) =
        let some = (char_data_parts is).some in
        ordered_join i k j one more (parts_ordered i k i b d i k one (omega arith) parts) (content_ordered k j d c more rest)
    content_ordered i j b c items (cdata _ e k _ _ _ more is rest) =
        let next = (cdata_parts is).next in
        (refl, wider k j i j more (omega (arith, cdata_le src i e k is)) (omega arith) (content_ordered k j b c more rest))
    content_ordered i j b c items (misc _ k _ _ _ item more is rest) =
        misc_ordered i k item more i j is (wider k j i j more (omega (arith, misc_lt src i k item is)) (omega arith) (content_ordered k j b c more rest))
    content_ordered i j b c items (node _ k _ _ d _ one more is rest) =
        ordered_join i k j one more (element_ordered i k b d one is) (content_ordered k j d c more rest)

    pub element_ordered : (i j b c : ℕ) (one : Forest Item) → IsElement true no_entities src i j b c one → Ordered i j one
    element_ordered i j b c one (empty _ _ _ _ t is) =
        let lt = tag_lt src true no_entities i j b c true t is in
        (omega arith, lt, omega arith, omega arith)
    element_ordered i j b c one (nest _ k n p _ _ d _ t kids is inner end) =
        let lt = tag_lt src true no_entities i k b d false t is in
        let le = content_le src true no_entities k n d c kids inner in
        let lt' = end_lt src n t.name p j end in
        (omega arith, omega arith, wider k n (i + 1) j (merge kids) (omega arith) (omega arith) (ordered_merge k n kids (content_ordered k n d c kids inner)), omega arith)

  -- What is around the root element.
  pub around_ordered : (i j : ℕ) (items : Forest Item) → Misc src i j items → Ordered i j items
  around_ordered i j items (no_misc _) = omega arith
  around_ordered i j items (space _ _ _ white rest) = wider (i + 1) j i j items (omega arith) (omega arith) (around_ordered (i + 1) j items rest)
  around_ordered i j items (an_item _ k _ item more is rest) = grind (arith, around_ordered k j more rest, misc_ordered, wider, misc_lt)
