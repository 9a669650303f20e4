-- Each element of a document without a document type declaration begins with a `<` and ends behind a `>`.
use Rattle.std.proofs.Common.{◌≡◌, ℕ, ◌+◌, ◌-◌, ◌<◌, ◌≤◌, Bool, true, false, true≢false, List, [], length, sym, subst, arith, IsUtf8, IsCharBoundary}
use Rattle.rox_grammar.specs.Forest.{Forest, join}
use Rattle.rox_grammar.specs.Written.{NamespaceDecl, Tag, Item, Element, Text, Comment, PI}
use Rattle.rox_grammar.specs.Tree as tree
use Rattle.rox_grammar.specs.Tree.{Node, node_in}
use Rattle.rox_grammar.specs.Names.{byte, spaces_end}
use Rattle.rox_grammar.specs.Content.{TagEnds, IsTag, start_tag, IsMisc, IsElement, empty, nest, Content, ends, run, cdata, misc, node}
use Rattle.rox_grammar.proofs.RunParts.{Parts}
use Rattle.rox_grammar.specs.Document.{Misc, no_misc, space, an_item, ParseOf, IsTreeOf}
use Rattle.rox_grammar.specs.Entities.{no_entities}
use Rattle.rox_theory.proofs.CharTexts.{cut_at, cut_behind}
use Rattle.rox_theory.proofs.Productions.{end_parts}
use Rattle.rox_theory.proofs.Without.{parse_without}
use Rattle.rox_theory.proofs.ParseParts.{tree_parts}
use Rattle.roxmltree.specs.EachNode.{EachNode}
use Rattle.roxmltree.specs.NodeParts.{node_at, is_element_node, start_of, end_of}
use Rattle.roxmltree.proofs.Everywhere.{at_each}
use Rattle.rox_laws.proofs.EachNodeLemmas.{each_join, each_merge, each_resolved}
use Rattle.rox_laws.proofs.Forward.{tag_forward, end_forward}
use Rattle.rox_laws.proofs.Nested.{content_forward}

record IsMarked (src : List ℕ) (a e : ℕ) : Type 0 where
  some : a < e
  opens : byte src a ≡ 60
  closes : byte src (e - 1) ≡ 62

abbrev MarkedItem : List ℕ → Item → Type 0
MarkedItem src (Text a e v b) = Unit {0}
MarkedItem src (Element a e t) = IsMarked src a e
MarkedItem src (Comment a e t) = Unit {0}
MarkedItem src (PI a e t o) = Unit {0}

abbrev MarkedNode : List ℕ → Node → Type 0
MarkedNode src (tree.Root end) = Unit {0}
MarkedNode src (tree.Element start end namespace local listed attributes) = IsMarked src start end
MarkedNode src (tree.Text start end value borrowed) = Unit {0}
MarkedNode src (tree.Comment start end text) = Unit {0}
MarkedNode src (tree.PI start end target value) = Unit {0}

ends_marked : (src : List ℕ) (i j : ℕ) (closes : Bool) → TagEnds src i closes j → byte src (j - 1) ≡ 62
ends_marked src i j closes h = grind arith

tag_marked : (src : List ℕ) (i j b c : ℕ) (closes : Bool) (t : Tag) → IsTag true no_entities src i j b c closes t → (byte src i ≡ 60) × (byte src (j - 1) ≡ 62)
tag_marked src i j b c closes _ (start_tag n last name written begin is_name list end) = (begin, ends_marked src last j closes end)

-- an end tag ends so too
end_marked : (src : List ℕ) (k j : ℕ) → byte src k ≡ 62 → j ≡ k + 1 → byte src (j - 1) ≡ 62
end_marked src k j closes next = let e : j - 1 ≡ k = omega arith in rw e closes

misc_marked : (src : List ℕ) (i j : ℕ) (item : Item) → IsMisc src i j item → MarkedItem src item
misc_marked src i j item h = grind arith

parts_marked : (src : List ℕ) (start stop i b c : ℕ) (items : Forest Item) → Parts true no_entities src start stop i b c items → EachNode (MarkedItem src) items
parts_marked src start stop i b c items h = grind arith

mutual
  content_marked : (src : List ℕ) (i j b c : ℕ) (items : Forest Item) → Content true no_entities src i j b c items → EachNode (MarkedItem src) items
  content_marked src i j b c items (ends _ _) = tt
  content_marked src i j b c items (run _ k _ _ d _ front more is parts inner) =
      each_join (MarkedItem src) front more (parts_marked src i k i b d front parts) (content_marked src k j d c more inner)
  content_marked src i j b c items (cdata _ e k _ _ _ more is inner) = (tt, tt, content_marked src k j b c more inner)
  content_marked src i j b c items (misc _ k _ _ _ item more is inner) = (misc_marked src i k item is, tt, content_marked src k j b c more inner)
  content_marked src i j b c items (node _ k _ _ d _ one more is inner) =
      each_join (MarkedItem src) one more (element_marked src i k b d one is) (content_marked src k j d c more inner)

  element_marked : (src : List ℕ) (i j b c : ℕ) (one : Forest Item) → IsElement true no_entities src i j b c one → EachNode (MarkedItem src) one
  element_marked src i j b c one (empty _ _ _ _ t tag) =
      let marks = tag_marked src i j b c true t tag in
      (record { some = tag_forward src i j b c true t tag; opens = marks.0; closes = marks.1 }, tt, tt)
  element_marked src i j b c one (nest _ k m p _ _ d _ t kids tag inner end) =
      let before = tag_forward src i k b d false t tag in
      let inside = content_forward src k m d c kids inner in
      let after = end_forward src m t.name p j end in
      let marks = tag_marked src i k b d false t tag in (
        record { some = omega (arith, before, inside, after); opens = marks.0; closes = end_marked src (spaces_end src p) j (end_parts end).closes (end_parts end).next },
        each_merge (MarkedItem src) (λ a e v b. tt) kids (content_marked src k m d c kids inner),
        tt,
      )

top_marked : (src : List ℕ) (i j : ℕ) (items : Forest Item) → Misc src i j items → EachNode (MarkedItem src) items
top_marked src i j items (no_misc _) = tt
top_marked src i j items (space _ _ _ is rest) = top_marked src (i + 1) j items rest
top_marked src i j items (an_item _ k _ item others is rest) = (misc_marked src i k item is, tt, top_marked src k j others rest)

parse_marked : (src : List ℕ) (tops : Forest Item) → ParseOf src false [] tops → EachNode (MarkedItem src) tops
parse_marked src tops q =
    let p = (parse_without src [] tops q).1 in
    let front = top_marked src p.prolog.0 p.start p.before p.prolog.2 in
    let one = element_marked src p.start p.end 255 p.openings_left p.one p.element in
    let back = top_marked src p.end (length src) p.after p.misc_after in
    let all = each_join (MarkedItem src) p.before (join p.one p.after) front (each_join (MarkedItem src) p.one p.after one back) in
    subst (λ (f : Forest Item). EachNode (MarkedItem src) f) (sym p.is_tree) all

node_marked : (src : List ℕ) (scope : List NamespaceDecl) (item : Item) → MarkedItem src item → MarkedNode src (node_in scope item)
node_marked src scope item h = grind arith

marked : (src : List ℕ) (limit : ℕ) (f : Forest Node) → IsTreeOf src false [] limit f → (id : ℕ) → MarkedNode src (node_at f id)
marked src limit f is id =
    let h = tree_parts is in
    let tops = each_resolved (MarkedItem src) (MarkedNode src) (node_marked src) [] h.written (parse_marked src h.written h.parse) in
    at_each (MarkedNode src) f (subst (λ (f : Forest Node). EachNode (MarkedNode src) f) (sym h.shown) (tt, tops, tt)) tt id

-- what is so marked is a slice
slice_of : (src : List ℕ) (n : Node) → IsUtf8 src → is_element_node n ≡ true → MarkedNode src n → (start_of n ≤ end_of n) × IsCharBoundary src (start_of n) × IsCharBoundary src (end_of n)
slice_of src (tree.Root end) utf8 is h = absurd (true≢false (sym is))
slice_of src (tree.Element start end namespace local listed attributes) utf8 is h =
    (omega (arith, h.some), cut_at src start 60 h.opens (omega arith) (omega arith), cut_behind src (end - 1) 62 end utf8 h.closes (omega arith) (omega arith) (omega (arith, h.some)))
slice_of src (tree.Text start end value borrowed) utf8 is h = absurd (true≢false (sym is))
slice_of src (tree.Comment start end text) utf8 is h = absurd (true≢false (sym is))
slice_of src (tree.PI start end target value) utf8 is h = absurd (true≢false (sym is))

pub element_slice : (src : List ℕ) (limit : ℕ) (f : Forest Node) → IsUtf8 src → IsTreeOf src false [] limit f → (id : ℕ) → is_element_node (node_at f id) ≡ true
    → (start_of (node_at f id) ≤ end_of (node_at f id)) × IsCharBoundary src (start_of (node_at f id)) × IsCharBoundary src (end_of (node_at f id))
element_slice src limit f utf8 is id element = slice_of src (node_at f id) utf8 element (marked src limit f is id)
