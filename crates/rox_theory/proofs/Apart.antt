-- No text of a document is followed by a text, also where entities give texts; and a document has an element at its top.
use Rattle.std.proofs.Common.{◌≡◌, ℕ, zero, suc, ◌+◌, Bool, true, false, List, length, refl, sym, subst, arith}
use Rattle.rox_grammar.specs.Forest.{Forest, Nil, Cons, join}
use Rattle.rox_grammar.specs.Written.{Item, Element, Text, Comment, PI, glue, merge}
use Rattle.rox_grammar.specs.References.{entity_reference}
use Rattle.rox_grammar.specs.Content.{Inclusion, DataByte, piece, last_part, then_entity, IsMisc, IsElement, empty, nest, Content, ends, run, cdata, misc, node}
use Rattle.rox_grammar.proofs.RunParts.{Parts}
use Rattle.rox_grammar.specs.Entities.{Entity, Includes, included_in_main, most_deep}
use Rattle.rox_grammar.specs.Doctype.{Asked, Subset, no_more as no_item, space as subset_space, an_item as subset_item, skipped_declaration, an_entity, IsDoctype}
use Rattle.rox_grammar.specs.Document.{Misc, no_misc, space, an_item, ParseOf}
use Rattle.rox_theory.specs.ParseParts.{MayHaveDoctype}
use Rattle.rox_reading.proofs.Forests.{join-nil, join_assoc}
use Rattle.rox_theory.specs.Apart.{Apart, AnyElement}
use Rattle.rox_theory.proofs.ParseParts.{parts}

-- So is what is below each of these, and nothing is below a text.
abbrev Below : Forest Item → Type 0
Below Nil = Unit {0}
Below (Cons (Text a e v b) children rest) = (children ≡ Nil) × Below rest
Below (Cons (Element a e t) children rest) = Apart children × Below rest
Below (Cons (Comment a e t) children rest) = Apart children × Below rest
Below (Cons (PI a e t o) children rest) = Apart children × Below rest

-- Also of two rows together.
below_join : (f g : Forest Item) → Below f → Below g → Below (join f g)
below_join Nil g h k = k
below_join (Cons (Text a e v b) c r) g (n, h) k = (n, below_join r g h k)
below_join (Cons (Element a e t) c r) g (n, h) k = (n, below_join r g h k)
below_join (Cons (Comment a e t) c r) g (n, h) k = (n, below_join r g h k)
below_join (Cons (PI a e t o) c r) g (n, h) k = (n, below_join r g h k)

-- A text in front takes in the one that it touches.
glue_apart : (a e : ℕ) (v : List ℕ) (b : Bool) (c f : Forest Item) → c ≡ Nil → Apart f → Apart (glue (Text a e v b) c f)
glue_apart a e v b c f n h = grind arith

-- What is merged is apart.
merge_apart : (f : Forest Item) → Below f → Apart (merge f)
merge_apart Nil h = tt
merge_apart (Cons (Text a e v b) c r) (n, h) = glue_apart a e v b c (merge r) n (merge_apart r h)
merge_apart (Cons (Element a e t) c r) (n, h) = (refl, n, merge_apart r h)
merge_apart (Cons (Comment a e t) c r) (n, h) = (refl, n, merge_apart r h)
merge_apart (Cons (PI a e t o) c r) (n, h) = (refl, n, merge_apart r h)

piece_below : (start stop : ℕ) (borrowed : Bool) (ss : List DataByte) → Below (piece start stop borrowed ss)
piece_below start stop borrowed ss = grind arith

-- A comment or an instruction in front.
misc_below : (src : List ℕ) (i j : ℕ) (item : Item) (more : Forest Item) → IsMisc src i j item → Below more → Below (Cons item Nil more)
misc_below src i j item more h k = grind arith

-- What a reference opens has apart what is below its items.
pub record OpensApart (O : Inclusion) : Type 0 where
  pub content : (name : List ℕ) (b : ℕ) (items : Forest Item) (c : ℕ) → O.content name b items c → Below items

module _ (main : Bool) (O : Inclusion) (opens : OpensApart O) (src : List ℕ) where
  -- A run is texts, and what references open.
  parts_below : (start stop i b c : ℕ) (items : Forest Item) → Parts main O src start stop i b c items → Below items
  parts_below start stop i b c items (last_part _ _ ss part) = piece_below start stop _ ss
  parts_below start stop i b d items (then_entity _ p j _ c _ _ ss inner more part (entity_reference n reference unknown) opened rest) = grind (arith, parts_below start stop j c d more rest, below_join)

  mutual
    -- Below each item of content its texts are apart.
    content_below : (i j b c : ℕ) (items : Forest Item) → Content main O src i j b c items → Below items
    content_below i j b c items (ends _ _) = tt
    content_below i j b c items (run _ k _ _ d _ front more is parts inner) =
        below_join front more (parts_below i k i b d front parts) (content_below k j d c more inner)
    content_below i j b c items (cdata _ e k _ _ _ more is inner) = (refl, content_below k j b c more inner)
    content_below i j b c items (misc _ k _ _ _ item more is inner) = misc_below src i k item more is (content_below k j b c more inner)
    content_below i j b c items (node _ k _ _ d _ one more is inner) =
        below_join one more (element_below i k b d one is) (content_below k j d c more inner)

    -- And below an element.
    element_below : (i j b c : ℕ) (one : Forest Item) → IsElement main O src i j b c one → Below one
    element_below i j b c one (empty _ _ _ _ t tag) = (tt, tt)
    element_below i j b c one (nest _ k m p _ _ d _ t kids tag inner end) = (merge_apart kids (content_below k m d c kids inner), tt)

  -- An element among the top nodes.
  top_element : (i j b c : ℕ) (one back : Forest Item) → IsElement main O src i j b c one → Apart back → Apart (join one back)
  top_element i j b c one back (empty _ _ _ _ t tag) h = (refl, tt, h)
  top_element i j b c one back (nest _ k m p _ _ d _ t kids tag inner end) h = (refl, merge_apart kids (content_below k m d c kids inner), h)

-- ---- what references open, by the number of texts that may still be open

opens_apart : (es : List Entity) (d : ℕ) (main : Bool) → OpensApart (Includes es d main)
opens_apart es zero main = record { content = λ name b items c h. absurd h }
opens_apart es (suc d) main =
    let inner = opens_apart es d false in
    record { content = λ name b items c (t, r, l, found, spends, is). content_below false (Includes es d false) inner t.source t.start (length t.source) r l items is }

-- ---- the top nodes

-- Comments and instructions among them.
top_item : (src : List ℕ) (i j : ℕ) (item : Item) (back : Forest Item) → IsMisc src i j item → Apart back → Apart (Cons item Nil back)
top_item src i j item back h k = grind arith

top_misc : (src : List ℕ) (i j : ℕ) (items back : Forest Item) → Misc src i j items → Apart back → Apart (join items back)
top_misc src i j items back (no_misc _) h = h
top_misc src i j items back (space _ _ _ is rest) h = top_misc src (i + 1) j items back rest h
top_misc src i j items back (an_item _ k _ item others is rest) h = top_item src i k item (join others back) is (top_misc src k j others back rest h)

-- Those of a document type declaration.
top_subset : (src : List ℕ) (i j : ℕ) (items : Forest Item) (asked : List Asked) (es : List Entity) (back : Forest Item) → Subset src i j items asked es → Apart back → Apart (join items back)
top_subset src i j items asked es back (no_item _) h = h
top_subset src i j items asked es back (subset_space _ _ _ _ _ here rest) h = top_subset src (i + 1) j items asked es back rest h
top_subset src i j items asked es back (subset_item _ k _ item more _ _ is rest) h = top_item src i k item (join more back) is (top_subset src k j more asked es back rest h)
top_subset src i j items asked es back (skipped_declaration _ _ _ _ _ _ _ rest) h = top_subset src _ j items asked es back rest h
top_subset src i j items asked es back (an_entity _ k _ _ front more one others is rest) h = top_subset src k j items more others back rest h

top_itself : (src : List ℕ) (i j : ℕ) (items : Forest Item) (asked : List Asked) (es : List Entity) (back : Forest Item) → IsDoctype src i j items asked es → Apart back → Apart (join items back)
top_itself src i j items asked es back h k = grind (arith, top_subset)

top_doctype : (src : List ℕ) (i j : ℕ) (dtd : Bool) (items : Forest Item) (asked : List Asked) (es : List Entity) (back : Forest Item) → MayHaveDoctype src i j dtd items asked es → Apart back → Apart (join items back)
top_doctype src i j dtd items asked es back h k = grind (arith, join_assoc, top_itself, top_misc)

-- The texts of a parse are apart.
pub parse_apart : (src : List ℕ) (dtd : Bool) (asked : List Asked) (tree : Forest Item) → ParseOf src dtd asked tree → Apart tree
parse_apart src dtd asked tree whole =
    let p = parts src dtd asked tree whole in
    let after : Apart (join p.after Nil) = top_misc src p.end (length src) p.after Nil p.misc_after tt in
    let one = top_element true (included_in_main p.entities) (opens_apart p.entities most_deep true) src p.start p.end 255 p.openings_left p.one p.after p.element (subst (λ (f : Forest Item). Apart f) (join-nil p.after) after) in
    let nodes = top_doctype src p.begun p.start dtd p.nodes asked p.entities (join p.one p.after) p.doctype one in
    let all = top_misc src p.prolog.0 p.begun p.before (join p.nodes (join p.one p.after)) p.prolog.2 nodes in
    subst (λ (f : Forest Item). Apart f) (sym p.is_tree) all

-- What is after stays there.
any_behind : (front back : Forest Item) → AnyElement back → AnyElement (join front back)
any_behind Nil back h = h
any_behind (Cons (Element start end tag) c r) back h = tt
any_behind (Cons (Text start end value borrowed) c r) back h = any_behind r back h
any_behind (Cons (Comment start end text) c r) back h = any_behind r back h
any_behind (Cons (PI start end target value) c r) back h = any_behind r back h

-- A parse has an element at its top.
pub parse_has : (src : List ℕ) (dtd : Bool) (asked : List Asked) (tree : Forest Item) → ParseOf src dtd asked tree → AnyElement tree
parse_has src dtd asked tree whole = grind (arith, parts src dtd asked tree whole, any_behind)
