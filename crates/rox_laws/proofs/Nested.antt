-- The ranges of a document's nodes are nested and in order.
use Rattle.std.proofs.Common.{◌≡◌, ℕ, ◌+◌, ◌<◌, ◌≤◌, Bool, true, false, List, [], length, refl, sym, subst, arith}
use Rattle.rox_grammar.specs.Forest.{Forest, Nil, Cons, join}
use Rattle.rox_grammar.specs.Written.{NamespaceDecl, Item, Element, Text, Comment, PI, glue, merge}
use Rattle.rox_grammar.specs.Tree.{Node, scope_in, resolved}
use Rattle.rox_grammar.specs.Content.{IsMisc, IsElement, empty, nest, Content, ends, run, cdata, misc, node}
use Rattle.rox_grammar.proofs.RunParts.{Parts}
use Rattle.rox_grammar.specs.Document.{Misc, no_misc, space, an_item, ParseOf, IsTreeOf}
use Rattle.rox_theory.proofs.Productions.{char_data_parts}
use Rattle.rox_theory.proofs.Without.{parse_without}
use Rattle.rox_grammar.specs.Entities.{no_entities}
use Rattle.rox_reading.proofs.Forests.{join-nil}
use Rattle.rox_laws.specs.RangeLaws.{RangesNested}
use Rattle.rox_laws.proofs.Forward.{misc_forward, cdata_forward, end_forward, tag_forward}

-- items between two places, as `RangesNested` has it of nodes, and nothing is below a text
abbrev Nested : ℕ → ℕ → Forest Item → Type 0
Nested from to Nil = from ≤ to
Nested from to (Cons (Text a e v b) children rest) = (from ≤ a) × (a < e) × (children ≡ Nil) × Nested e to rest
Nested from to (Cons (Element a e t) children rest) = (from ≤ a) × (a < e) × Nested a e children × Nested e to rest
Nested from to (Cons (Comment a e t) children rest) = (from ≤ a) × (a < e) × Nested a e children × Nested e to rest
Nested from to (Cons (PI a e t o) children rest) = (from ≤ a) × (a < e) × Nested a e children × Nested e to rest

-- the places are in order
nested_le : (from to : ℕ) (f : Forest Item) → Nested from to f → from ≤ to
nested_le from to Nil h = h
nested_le from to (Cons (Text a e v b) c r) h = omega (arith, h.0, h.1, nested_le e to r h.3)
nested_le from to (Cons (Element a e t) c r) h = omega (arith, h.0, h.1, nested_le e to r h.3)
nested_le from to (Cons (Comment a e t) c r) h = omega (arith, h.0, h.1, nested_le e to r h.3)
nested_le from to (Cons (PI a e t o) c r) h = omega (arith, h.0, h.1, nested_le e to r h.3)

-- the first may be nearer to the start
from_before : (k from to : ℕ) (f : Forest Item) → k ≤ from → Nested from to f → Nested k to f
from_before k from to Nil le h = omega (arith, h)
from_before k from to (Cons (Text a e v b) c r) le h = (omega (arith, h.0), h.1, h.2, h.3)
from_before k from to (Cons (Element a e t) c r) le h = (omega (arith, h.0), h.1, h.2, h.3)
from_before k from to (Cons (Comment a e t) c r) le h = (omega (arith, h.0), h.1, h.2, h.3)
from_before k from to (Cons (PI a e t o) c r) le h = (omega (arith, h.0), h.1, h.2, h.3)

-- one row behind another
nested_join : (from mid to : ℕ) (f g : Forest Item) → Nested from mid f → Nested mid to g → Nested from to (join f g)
nested_join from mid to Nil g h k = from_before from mid to g h k
nested_join from mid to (Cons (Text a e v b) c r) g h k = (h.0, h.1, h.2, nested_join e mid to r g h.3 k)
nested_join from mid to (Cons (Element a e t) c r) g h k = (h.0, h.1, h.2, nested_join e mid to r g h.3 k)
nested_join from mid to (Cons (Comment a e t) c r) g h k = (h.0, h.1, h.2, nested_join e mid to r g h.3 k)
nested_join from mid to (Cons (PI a e t o) c r) g h k = (h.0, h.1, h.2, nested_join e mid to r g h.3 k)

-- the second place may be later
to_after : (from to k : ℕ) (f : Forest Item) → to ≤ k → Nested from to f → Nested from k f
to_after from to k f le h = subst (λ (f : Forest Item). Nested from k f) (join-nil f) (nested_join from to k f Nil h le)

-- a text in front, which takes in one that it touches, keeps its own range
glue_nested : (from a e to : ℕ) (v : List ℕ) (b : Bool) (c f : Forest Item) → from ≤ a → a < e → c ≡ Nil → Nested e to f → Nested from to (glue (Text a e v b) c f)
glue_nested from a e to v b c f before some n h = grind (arith, from_before)

merge_nested : (from to : ℕ) (f : Forest Item) → Nested from to f → Nested from to (merge f)
merge_nested from to Nil h = h
merge_nested from to (Cons (Text a e v b) c r) h = glue_nested from a e to v b c (merge r) h.0 h.1 h.2 (merge_nested e to r h.3)
merge_nested from to (Cons (Element a e t) c r) h = (h.0, h.1, h.2, merge_nested e to r h.3)
merge_nested from to (Cons (Comment a e t) c r) h = (h.0, h.1, h.2, merge_nested e to r h.3)
merge_nested from to (Cons (PI a e t o) c r) h = (h.0, h.1, h.2, merge_nested e to r h.3)

parts_nested : (src : List ℕ) (start stop i b c : ℕ) (items : Forest Item) → start < stop → Parts true no_entities src start stop i b c items
    → Nested start stop items
parts_nested src start stop i b c items some k = grind arith

-- a comment or an instruction in front
misc_nested : (src : List ℕ) (i j to : ℕ) (item : Item) (more : Forest Item) → IsMisc src i j item → Nested j to more → Nested i to (Cons item Nil more)
misc_nested src i j to item more h k = grind (arith, misc_forward)

mutual
  content_nested : (src : List ℕ) (i j b c : ℕ) (items : Forest Item) → Content true no_entities src i j b c items → Nested i j items
  content_nested src i j b c items (ends _ _) = omega arith
  content_nested src i j b c items (run _ k _ _ d _ front more is parts inner) =
      nested_join i k j front more (parts_nested src i k i b d front (char_data_parts is).some parts) (content_nested src k j d c more inner)
  content_nested src i j b c items (cdata _ e k _ _ _ more is inner) =
      (omega arith, cdata_forward src i e k is, refl, content_nested src k j b c more inner)
  content_nested src i j b c items (misc _ k _ _ _ item more is inner) =
      misc_nested src i k j item more is (content_nested src k j b c more inner)
  content_nested src i j b c items (node _ k _ _ d _ one more is inner) =
      nested_join i k j one more (element_nested src i k b d one is) (content_nested src k j d c more inner)

  element_nested : (src : List ℕ) (i j b c : ℕ) (one : Forest Item) → IsElement true no_entities src i j b c one → Nested i j one
  element_nested src i j b c one (empty _ _ _ _ t tag) =
      let some = tag_forward src i j b c true t tag in (omega arith, some, omega (arith, some), omega arith)
  element_nested src i j b c one (nest _ k m p _ _ d _ t kids tag inner end) =
      let inside = merge_nested k m kids (content_nested src k m d c kids inner) in
      let before = tag_forward src i k b d false t tag in
      let after = end_forward src m t.name p j end in
      let order = nested_le k m (merge kids) inside in
      (omega arith, omega (arith, before, order, after), from_before i k j (merge kids) (omega (arith, before)) (to_after k m j (merge kids) (omega (arith, after)) inside), omega arith)

pub content_forward : (src : List ℕ) (i j b c : ℕ) (items : Forest Item) → Content true no_entities src i j b c items → i ≤ j
content_forward src i j b c items is = nested_le i j items (content_nested src i j b c items is)

-- comments, instructions and white space among the top nodes
top_nested : (src : List ℕ) (i j : ℕ) (items : Forest Item) → Misc src i j items → Nested i j items
top_nested src i j items (no_misc _) = omega arith
top_nested src i j items (space _ _ _ is rest) = from_before i (i + 1) j items (omega arith) (top_nested src (i + 1) j items rest)
top_nested src i j items (an_item _ k _ item others is rest) = misc_nested src i k j item others is (top_nested src k j others rest)

parse_nested : (src : List ℕ) (tops : Forest Item) → ParseOf src false [] tops → Nested 0 (length src) tops
parse_nested src tops q =
    let p = (parse_without src [] tops q).1 in
    let front = from_before 0 p.prolog.0 p.start p.before (omega arith) (top_nested src p.prolog.0 p.start p.before p.prolog.2) in
    let one = element_nested src p.start p.end 255 p.openings_left p.one p.element in
    let back = top_nested src p.end (length src) p.after p.misc_after in
    let all = nested_join 0 p.start (length src) p.before (join p.one p.after) front (nested_join p.start p.end (length src) p.one p.after one back) in
    subst (λ (f : Forest Item). Nested 0 (length src) f) (sym p.is_tree) all

-- a text with a parse has a byte
parse_some : (src : List ℕ) (tops : Forest Item) → ParseOf src false [] tops → 0 < length src
parse_some src tops q =
    let p = (parse_without src [] tops q).1 in
    let back = nested_le p.end (length src) p.after (top_nested src p.end (length src) p.after p.misc_after) in
    omega (arith, back, element_some p.start p.end 255 p.openings_left p.one p.element)
  where
    element_some : (i j b c : ℕ) (one : Forest Item) → IsElement true no_entities src i j b c one → i < j
    element_some i j b c one (empty _ _ _ _ t tag) = tag_forward src i j b c true t tag
    element_some i j b c one (nest _ k m p _ _ d _ t kids tag inner end) =
        omega (arith, tag_forward src i k b d false t tag, (nested_le k m kids (content_nested src k m d c kids inner)), end_forward src m t.name p j end)

-- names resolved move nothing
resolved_nested : (above : List NamespaceDecl) (from to : ℕ) (f : Forest Item) → Nested from to f → RangesNested from to (resolved above f)
resolved_nested above from to Nil h = h
resolved_nested above from to (Cons (Text a e v b) c r) h = grind (arith, resolved_nested above e to r h.3)
resolved_nested above from to (Cons (Element a e t) c r) h = grind (arith, resolved_nested (scope_in above (Element a e t)) a e c h.2, resolved_nested above e to r h.3)
resolved_nested above from to (Cons (Comment a e t) c r) h = (h.0, h.1, resolved_nested above a e c h.2, resolved_nested above e to r h.3)
resolved_nested above from to (Cons (PI a e t o) c r) h = (h.0, h.1, resolved_nested above a e c h.2, resolved_nested above e to r h.3)

-- in a document
pub ranges_nested : (src : List ℕ) (limit : ℕ) (tree : Forest Node) → IsTreeOf src false [] limit tree → RangesNested 0 (length src) tree
ranges_nested src limit tree is = grind (arith, resolved_nested, parse_nested, parse_some)
