-- The attributes of a document's nodes stand in its text.
use Rattle.std.proofs.Common.{◌≡◌, ◌≢◌, inl, inr, ℕ, ◌+◌, ◌-◌, ◌<◌, ◌≤◌, ◌==◌, ◌||◌, Bool, true, false, not, List, [], ◌∷◌, ◌++◌, map, length, refl, sym, ap, ◌∙◌, subst, arith}
use Rattle.std.specs.Prelude.{All, filter}
use Rattle.std.proofs.lemmas.Bool.{not-true}
use Rattle.std.proofs.lemmas.List.Elements.{All-nil, All-cons}
use Rattle.rox_grammar.specs.Chars.{is_space, is_part_char}
use Rattle.rox_grammar.specs.Forest.{Forest}
use Rattle.rox_grammar.specs.Written.{Name, Attribute, NamespaceDecl, Tag, Item, Element, Text, Comment, PI, is_namespace_decl}
use Rattle.rox_grammar.specs.Tree as tree
use Rattle.rox_grammar.specs.Tree.{Node, attribute_in, node_in}
use Rattle.rox_grammar.specs.Names.{byte, slice, spaces_end, IsQName, unprefixed, prefixed, colon_first}
use Rattle.rox_grammar.specs.References.{entity_reference}
use Rattle.rox_grammar.specs.Content.{is_verbatim_value, Value, value_ends, line_end, white, other, a_character, an_entity, IsAttribute, attribute, Attributes, no_more, one_more, IsTag, IsMisc, IsElement, empty, nest, Content, ends, run, cdata, misc, node, start_tag}
use Rattle.rox_grammar.proofs.RunParts.{Parts}
use Rattle.rox_grammar.specs.Document.{Misc, no_misc, space, an_item, ParseOf, IsTreeOf}
use Rattle.rox_theory.proofs.Productions.{ncname_parts}
use Rattle.rox_theory.proofs.Without.{parse_without}
use Rattle.rox_grammar.specs.Entities.{no_entities}
use Rattle.rox_theory.proofs.Basics.{run_end_le}
use Rattle.rox_theory.proofs.NameLemmas.{slice_nil, qname_le}
use Rattle.rox_theory.proofs.LiteralLemmas.{from_before, literal_plain, literal_closes, literal_le}
use Rattle.rox_theory.proofs.StretchLemmas.{slice_cons, slice_none}
use Rattle.rox_theory.proofs.AttributeParts.{AttributeParts, parts_of}
use Rattle.rox_theory.proofs.ReferenceLemmas.{character_opens}
use Rattle.rox_theory.proofs.ParseParts.{tree_parts}
use Rattle.roxmltree.specs.NodeParts as says
use Rattle.roxmltree.specs.EachNode.{EachNode}
use Rattle.rox_laws.specs.RangeLaws.{AreInOrder, AttributesInOrder, IsWritten, AttributesWritten, SpellsName, SelectsAttribute, RangesSelect}
use Rattle.rox_laws.proofs.Forward.{attribute_forward, attributes_forward, ends_forward, end_forward}
use Rattle.rox_laws.proofs.Nested.{content_forward}
use Rattle.rox_laws.proofs.EachNodeLemmas.{each_join, each_merge, each_resolved}
use Rattle.rox_faults.proofs.FaultRows.{slice_split}

-- ---- one attribute

-- a colon and a local part
after_colon : (src : List ℕ) (k j : ℕ) → byte src k ≡ 58 → k < j → j ≤ length src → slice src k j ≡ 58 ∷ slice src (k + 1) j
after_colon src k j colon some inside = slice_cons src k j some inside ∙ ap (λ (b : ℕ). b ∷ slice src (k + 1) j) colon

-- a name as it is written
spelled : (src : List ℕ) (i : ℕ) (name : Name) (j : ℕ) → IsQName src i name j → j ≤ length src → SpellsName name.local (slice src i j)
spelled src i name j (unprefixed _ _ n last) inside = inl refl
spelled src i name j (prefixed _ k _ n colon m last) inside =
    let some : k < j = omega (arith, (ncname_parts m).longest, run_end_le is_part_char src (k + 1)) in
    let before : i ≤ k = omega (arith, (ncname_parts n).longest, run_end_le is_part_char src i) in
    inr (slice src i k, slice_split src (k - i) i k j (omega arith) (omega arith) inside ∙ ap (λ (r : List ℕ). slice src i k ++ r) (after_colon src k j colon some inside))
spelled src i name j (colon_first _ _ colon m last) inside = grind (arith, after_colon)

-- a byte of a value that stands for itself
abbrev IsOrdinary : ℕ → Type 0
IsOrdinary b = (b ≢ 38) × (b ≢ 9) × (b ≢ 10) × (b ≢ 13)

is_ordinary : (b : ℕ) → (b == 38 || (b == 9 || (b == 10 || b == 13))) ≡ false → IsOrdinary b
is_ordinary b h = grind arith

module _ (src : List ℕ) (stop : ℕ) where
  -- a value takes no openings, so as many may be left as one likes
  openings : (i b c : ℕ) (v : List ℕ) → Value true no_entities src stop i b c v → (d : ℕ) → Value true no_entities src stop i d d v
  openings i b c v (value_ends _) d = value_ends d
  openings i b c v (line_end _ _ _ _ lt cr lf p) d = line_end i d d v lt cr lf (openings (i + 1) b c v p d)
  openings i b c v (white _ _ _ rest lt is p) d = white i d d rest lt is (openings (i + 1) b c rest p d)
  openings i b c v (other _ _ _ rest lt amp tab lf cr tag p) d = other i d d rest lt amp tab lf cr tag (openings (i + 1) b c rest p d)
  openings i b c v (a_character _ n x _ _ rest r inside any p) d = a_character i n x d d rest r inside any (openings n b c rest p d)
  openings i b c v (an_entity _ k _ e _ _ w rest (entity_reference n r none) inside opens p) d = absurd opens

  -- a value where each byte stands for itself is a slice
  value_slice : (i b c : ℕ) (v : List ℕ) → stop ≤ length src → ((k : ℕ) → i ≤ k → k < stop → IsOrdinary (byte src k)) → Value true no_entities src stop i b c v
      → v ≡ slice src i stop
  value_slice i b c v long plain (value_ends _) = sym (slice_nil src stop)
  value_slice i b c v long plain (line_end _ _ _ _ lt cr lf p) = absurd ((plain i (omega arith) (omega arith)).3 cr)
  value_slice i b c v long plain (white _ _ _ rest lt (inl tab) p) = absurd ((plain i (omega arith) lt).1 tab)
  value_slice i b c v long plain (white _ _ _ rest lt (inr (inl lf)) p) = absurd ((plain i (omega arith) lt).2 lf)
  value_slice i b c v long plain (white _ _ _ rest lt (inr (inr cr)) p) = absurd ((plain i (omega arith) lt).3 cr.0)
  value_slice i b c v long plain (other _ _ _ rest lt amp tab lf cr tag p) = grind (arith, value_slice (i + 1) b c rest long (λ k from below. plain k (omega arith) below) p, slice_cons)
  value_slice i b c v long plain (a_character _ n x _ _ rest r inside any p) =
      let opens = character_opens src i x n r in absurd ((plain i (omega arith) (omega (arith, opens.1))).0 opens.0)
  value_slice i b c v long plain (an_entity _ k _ e _ _ w rest (entity_reference n r none) inside opens p) = absurd opens

-- an attribute from its own start to its own end
own_places : (src : List ℕ) (i j b c : ℕ) (w : Attribute) → IsAttribute true no_entities src i j b c w → IsAttribute true no_entities src w.start w.end 255 255 w
own_places src i j b c w (attribute n v e name value is read) = attribute n v e name value is (openings src e (v + 1) b c value read 255)

-- what its ranges select
parts_select : (src : List ℕ) (scope : List NamespaceDecl) (w : Attribute) → AttributeParts true no_entities src w.start w.end 255 255 w → SelectsAttribute src (attribute_in scope w)
parts_select src scope w is =
    let name_le = qname_le src w.start w.name w.name_end is.is_name in
    let equals_le = run_end_le is_space src w.name_end in
    let quote_le = run_end_le is_space src (spaces_end src w.name_end + 1) in
    let value_le = literal_le src is.v is.e w.end is.literal in
    let v : w.value_start - 1 ≡ is.v = omega (arith, is.value_start) in
    let e : w.end - 1 ≡ is.e = omega (arith, is.literal.0.3) in
    let long : is.e ≤ length src = omega (arith, is.literal.0.2) in
    record {
      inside = (omega arith);
      name = spelled src w.start w.name w.name_end is.is_name (omega (arith, is.eq.1, equals_le, quote_le, value_le, long));
      opens = rw v is.literal.0.0;
      closes = rw (v, e) (literal_closes src is.v is.e w.end is.literal);
      between = λ k from below. rw v (between k (omega (arith, is.value_start)) (omega (arith, e)));
      value = λ borrowed. rw (is.value_start, e) (value_slice src is.e (is.v + 1) 255 255 w.value long (λ k from below. ordinary k (sym is.borrowed ∙ borrowed) long from below) is.value);
    }
  where
    between : (k : ℕ) → is.v + 1 ≤ k → k < is.e → (byte src k ≢ byte src is.v) × (byte src k ≢ 60)
    between k from below = (grind (arith, from_before, literal_plain))

    ordinary : (k : ℕ) → is_verbatim_value (slice src (is.v + 1) is.e) ≡ true → is.e ≤ length src → is.v + 1 ≤ k → k < is.e → IsOrdinary (byte src k)
    ordinary k plain long from below = is_ordinary (byte src k) (slice_none (λ b. b == 38 || (b == 9 || (b == 10 || b == 13))) src (is.v + 1) is.e k long (not-true _ plain) from below)

selects : (src : List ℕ) (scope : List NamespaceDecl) (w : Attribute) → IsAttribute true no_entities src w.start w.end 255 255 w → SelectsAttribute src (attribute_in scope w)
selects src scope w is = parts_select src scope w (parts_of true no_entities src w.start w.end 255 255 w is)

-- ---- the attributes of a tag

-- attributes between two places, as `AreInOrder` has it, each of which stands in the text
abbrev Stand : List ℕ → ℕ → ℕ → List Attribute → Type 0
Stand src from to [] = Unit {0}
Stand src from to (w ∷ ws) = (from < w.start) × (w.end < to) × IsAttribute true no_entities src w.start w.end 255 255 w × Stand src w.end to ws

-- the places may lie further apart
further : (src : List ℕ) (k from to m : ℕ) (ws : List Attribute) → k ≤ from → to ≤ m → Stand src from to ws → Stand src k m ws
further src k from to m [] before after h = tt
further src k from to m (w ∷ ws) before after h = (omega (arith, h.0), omega (arith, h.1), h.2, further src w.end w.end to m ws (omega arith) after h.3)

-- some of them
some_stand : (src : List ℕ) (from to : ℕ) (q : Attribute → Bool) (ws : List Attribute) → Stand src from to ws → Stand src from to (filter q ws)
some_stand src from to q [] h = tt
some_stand src from to q (w ∷ ws) h = grind (arith, some_stand src w.end to q ws h.3, further, attribute_forward)

all_stand : (src : List ℕ) (i j to b c : ℕ) (ws : List Attribute) → j < to → Attributes true no_entities src i j b c ws → Stand src i to ws
all_stand src i j to b c ws before (no_more _ _) = tt
all_stand src i j to b c ws before (one_more _ k _ _ d _ _ rest some (attribute n v e name value is read) more) =
    let le = attributes_forward src k j d c rest more in
    (omega arith, omega (arith, le), own_places src (spaces_end src i) k b d _ (attribute n v e name value is read), all_stand src k j to d c rest before more)

tag_stands : (src : List ℕ) (i j b c : ℕ) (is_empty : Bool) (t : Tag) → IsTag true no_entities src i j b c is_empty t → Stand src i j t.attributes
tag_stands src i j b c is_empty _ (start_tag n last name written begin is_name list end) =
    let all = all_stand src n last j b c written (ends_forward src last j is_empty end) list in
    let kept = some_stand src n j (λ a. not (is_namespace_decl a.name)) written all in
    further src i n j j (filter (λ a. not (is_namespace_decl a.name)) written) (omega (arith, qname_le src (i + 1) name n is_name)) (omega arith) kept

-- ---- all elements

-- the attributes of an element stand within its range
abbrev Has : List ℕ → Item → Type 0
Has src (Element a e t) = Stand src a e t.attributes
Has src (Text a e v b) = Unit {0}
Has src (Comment a e t) = Unit {0}
Has src (PI a e t o) = Unit {0}

parts_have : (src : List ℕ) (start stop i b c : ℕ) (items : Forest Item) → Parts true no_entities src start stop i b c items → EachNode (Has src) items
parts_have src start stop i b c items h = grind arith

misc_has : (src : List ℕ) (i j : ℕ) (item : Item) → IsMisc src i j item → Has src item
misc_has src i j item h = grind arith

mutual
  content_has : (src : List ℕ) (i j b c : ℕ) (items : Forest Item) → Content true no_entities src i j b c items → EachNode (Has src) items
  content_has src i j b c items (ends _ _) = tt
  content_has src i j b c items (run _ k _ _ d _ front more is parts inner) =
      each_join (Has src) front more (parts_have src i k i b d front parts) (content_has src k j d c more inner)
  content_has src i j b c items (cdata _ e k _ _ _ more is inner) = (tt, tt, content_has src k j b c more inner)
  content_has src i j b c items (misc _ k _ _ _ item more is inner) = (misc_has src i k item is, tt, content_has src k j b c more inner)
  content_has src i j b c items (node _ k _ _ d _ one more is inner) =
      each_join (Has src) one more (element_has src i k b d one is) (content_has src k j d c more inner)

  element_has : (src : List ℕ) (i j b c : ℕ) (one : Forest Item) → IsElement true no_entities src i j b c one → EachNode (Has src) one
  element_has src i j b c one (empty _ _ _ _ t tag) = (tag_stands src i j b c true t tag, tt, tt)
  element_has src i j b c one (nest _ k m p _ _ d _ t kids tag inner end) =
      let le = content_forward src k m d c kids inner in
      let own = further src i i k j t.attributes (omega arith) (omega (arith, le, end_forward src m t.name p j end)) (tag_stands src i k b d false t tag) in
      (own, each_merge (Has src) (λ a e v b. tt) kids (content_has src k m d c kids inner), tt)

top_has : (src : List ℕ) (i j : ℕ) (items : Forest Item) → Misc src i j items → EachNode (Has src) items
top_has src i j items (no_misc _) = tt
top_has src i j items (space _ _ _ is rest) = top_has src (i + 1) j items rest
top_has src i j items (an_item _ k _ item others is rest) = (misc_has src i k item is, tt, top_has src k j others rest)

parse_has : (src : List ℕ) (tops : Forest Item) → ParseOf src false [] tops → EachNode (Has src) tops
parse_has src tops q =
    let p = (parse_without src [] tops q).1 in
    let front = top_has src p.prolog.0 p.start p.before p.prolog.2 in
    let one = element_has src p.start p.end 255 p.openings_left p.one p.element in
    let back = top_has src p.end (length src) p.after p.misc_after in
    grind (arith, each_join)

-- ---- with the names resolved

-- what holds of each attribute that stands in the text, in its scope
all_resolved : (src : List ℕ) (scope : List NamespaceDecl) (P : tree.Attribute → Type 0)
    → ((w : Attribute) → IsAttribute true no_entities src w.start w.end 255 255 w → P (attribute_in scope w))
    → (from to : ℕ) (ws : List Attribute) → Stand src from to ws → All P (map (attribute_in scope) ws)
all_resolved src scope P holds from to [] h = All-nil P
all_resolved src scope P holds from to (w ∷ ws) h = All-cons P _ _ (holds w h.2) (all_resolved src scope P holds w.end to ws h.3)

-- of what a document's nodes have, what follows of each node of its own
each_node : (src : List ℕ) (limit : ℕ) (f : Forest Node) (Q : Node → Type 0) → IsTreeOf src false [] limit f → Q (tree.Root (length src))
    → ((scope : List NamespaceDecl) (item : Item) → Has src item → Q (node_in scope item)) → EachNode Q f
each_node src limit f Q is root has =
    let h = tree_parts is in
    subst (λ (f : Forest Node). EachNode Q f) (sym h.shown) (root, each_resolved (Has src) Q has [] h.written (parse_has src h.written h.parse), tt)

pub attributes_written : (src : List ℕ) (limit : ℕ) (f : Forest Node) → IsTreeOf src false [] limit f → AttributesWritten src f
attributes_written src limit f h = each_node src limit f _ h (All-nil _) has
  where
    has : (scope : List NamespaceDecl) (item : Item) → Has src item → All (IsWritten src (says.listed_of (node_in scope item))) (says.attributes_of (node_in scope item))
    has scope (Element a e t) own = all_resolved src scope (IsWritten src scope) (λ w is. (w, is, refl)) a e t.attributes own
    has scope (Text a e v b) own = All-nil _
    has scope (Comment a e t) own = All-nil _
    has scope (PI a e t o) own = All-nil _

pub ranges_select : (src : List ℕ) (limit : ℕ) (f : Forest Node) → IsTreeOf src false [] limit f → RangesSelect src f
ranges_select src limit f h = each_node src limit f _ h (All-nil _) has
  where
    has : (scope : List NamespaceDecl) (item : Item) → Has src item → All (SelectsAttribute src) (says.attributes_of (node_in scope item))
    has scope (Element a e t) own = all_resolved src scope (SelectsAttribute src) (selects src scope) a e t.attributes own
    has scope (Text a e v b) own = All-nil _
    has scope (Comment a e t) own = All-nil _
    has scope (PI a e t o) own = All-nil _

pub attributes_in_order : (src : List ℕ) (limit : ℕ) (f : Forest Node) → IsTreeOf src false [] limit f → AttributesInOrder f
attributes_in_order src limit f h = each_node src limit f _ h tt has
  where
    in_order : (scope : List NamespaceDecl) (from to : ℕ) (ws : List Attribute) → Stand src from to ws → AreInOrder from to (map (attribute_in scope) ws)
    in_order scope from to [] h = tt
    in_order scope from to (w ∷ ws) h = (h.0, attribute_forward src w.start w.end 255 255 w h.2, h.1, in_order scope w.end to ws h.3)

    has : (scope : List NamespaceDecl) (item : Item) → Has src item
        → AreInOrder (says.start_of (node_in scope item)) (says.end_of (node_in scope item)) (says.attributes_of (node_in scope item))
    has scope (Element a e t) own = in_order scope a e t.attributes own
    has scope (Text a e v b) own = tt
    has scope (Comment a e t) own = tt
    has scope (PI a e t o) own = tt
