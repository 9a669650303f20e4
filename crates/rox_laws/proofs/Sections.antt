-- A text of a document is empty only where all its pieces are empty CDATA sections.
use Rattle.std.proofs.Common.{◌≡◌, ◌≢◌, ℕ, ◌+◌, ◌<◌, Bool, true, false, List, [], ◌∷◌, ◌++◌, length, refl, sym, ◌∙◌, subst, arith, encode_utf8}
use Rattle.std.proofs.lemmas.Bool.{false_from_ne_true}
use Rattle.std.proofs.lemmas.Bool.Decides.{nat_tests}
use Rattle.std.proofs.lemmas.Grind.{common_steps}
use Rattle.rox_grammar.specs.declared.fault.Word.TheVariants as word
use Rattle.rox_grammar.specs.FixedTexts.{word_text, at}
use Rattle.rox_grammar.specs.Forest.{Forest, Nil, Cons, join}
use Rattle.rox_grammar.specs.Written.{Name, NamespaceDecl, Tag, Item, Element, Text, Comment, PI, glue, merge}
use Rattle.rox_grammar.specs.Tree.{Node, node_in}
use Rattle.rox_grammar.specs.Names.{byte, slice}
use Rattle.rox_grammar.specs.Constructs.{IsCData, IsEnd}
use Rattle.rox_grammar.specs.Content.{DataByte, data_bytes_of, piece, Part, part_ends, as_written, from_reference, IsTag, start_tag, IsMisc, comment, instruction, IsElement, empty, nest, Content, ends, run, cdata, misc, node}
use Rattle.rox_grammar.proofs.RunParts.{Parts}
use Rattle.rox_grammar.specs.Document.{Misc, no_misc, space, an_item, ParseOf, IsTreeOf}
use Rattle.rox_theory.proofs.Productions.{comment_parts, pi_parts, end_parts, char_data_parts}
use Rattle.rox_theory.proofs.Without.{parse_without}
use Rattle.rox_grammar.specs.Entities.{no_entities}
use Rattle.rox_theory.proofs.Pieces.{no_bytes, empty_section}
use Rattle.rox_theory.proofs.DeclarationLemmas.{stands_reads}
use Rattle.rox_theory.proofs.PartLemmas.{encode_some}
use Rattle.rox_theory.proofs.Constructions.{comment_bytes, instruction_bytes, end_bytes, cdata_bytes, name_byte}
use Rattle.rox_theory.proofs.ParseParts.{tree_parts}
use Rattle.roxmltree.specs.EachNode.{EachNode}
use Rattle.rox_laws.specs.EmptySections.{EmptySections, last, more, EmptyIsSections, EmptyTextsAreSections}
use Rattle.rox_laws.proofs.EachNodeLemmas.{each_join, each_resolved}

-- ---- merging

-- markup that is no section
abbrev IsMarkup : List ℕ → ℕ → Type 0
IsMarkup src i = (byte src i ≡ 60) × (at word.CDataStart src i ≡ false)

-- an empty section
abbrev IsEmpty : List ℕ → ℕ → ℕ → Type 0
IsEmpty src a e = IsCData src a (a + 9) (a + 12) × (e ≡ a + 12)

-- an item is made of empty sections alone if it is an empty text
abbrev Sound : List ℕ → Item → Type 0
Sound src (Text a e v b) = v ≡ [] → EmptySections src a
Sound src (Element a e t) = Unit {0}
Sound src (Comment a e t) = Unit {0}
Sound src (PI a e t o) = Unit {0}

-- Items that are not merged yet, from this place up to that: each begins where the one before it ends, an empty text is an
-- empty section, and any other item begins with markup.
abbrev Covers : List ℕ → ℕ → ℕ → Forest Item → Type 0
Covers src from to Nil = from ≡ to
Covers src from to (Cons (Text a e v b) c r) = (a ≡ from) × (v ≡ [] → IsEmpty src a e) × (c ≡ Nil) × Covers src e to r
Covers src from to (Cons (Element a e t) c r) = (a ≡ from) × IsMarkup src a × EachNode (Sound src) c × Covers src e to r
Covers src from to (Cons (Comment a e t) c r) = (a ≡ from) × IsMarkup src a × EachNode (Sound src) c × Covers src e to r
Covers src from to (Cons (PI a e t o) c r) = (a ≡ from) × IsMarkup src a × EachNode (Sound src) c × Covers src e to r

-- one row behind another
covers_join : (src : List ℕ) (from mid to : ℕ) (f g : Forest Item) → Covers src from mid f → Covers src mid to g → Covers src from to (join f g)
covers_join src from mid to Nil g h k = subst (λ (n : ℕ). Covers src n to g) (sym h) k
covers_join src from mid to (Cons (Text a e v b) c r) g h k = (h.0, h.1, h.2, covers_join src e mid to r g h.3 k)
covers_join src from mid to (Cons (Element a e t) c r) g h k = (h.0, h.1, h.2, covers_join src e mid to r g h.3 k)
covers_join src from mid to (Cons (Comment a e t) c r) g h k = (h.0, h.1, h.2, covers_join src e mid to r g h.3 k)
covers_join src from mid to (Cons (PI a e t o) c r) g h k = (h.0, h.1, h.2, covers_join src e mid to r g h.3 k)

-- merged items begin with a text at this place, or with markup
abbrev Begins : List ℕ → ℕ → Forest Item → Type 0
Begins src i Nil = IsMarkup src i
Begins src i (Cons (Text a e v b) c r) = a ≡ i
Begins src i (Cons (Element a e t) c r) = IsMarkup src i
Begins src i (Cons (Comment a e t) c r) = IsMarkup src i
Begins src i (Cons (PI a e t o) c r) = IsMarkup src i

-- where two texts together are empty, each is
pub both_empty : (v w : List ℕ) → v ++ w ≡ [] → (v ≡ []) × (w ≡ [])
both_empty [] w h = (refl, h)
both_empty (x ∷ v) w h = cc h

-- before markup an empty text is one section
one_section : (src : List ℕ) (a e : ℕ) (v : List ℕ) → (v ≡ [] → IsEmpty src a e) → IsMarkup src e → v ≡ [] → EmptySections src a
one_section src a e v section markup none =
    let s = section none in last a s.0 (subst (λ (i : ℕ). byte src i ≡ 60) s.1 markup.0) (subst (λ (i : ℕ). at word.CDataStart src i ≡ false) s.1 markup.1)

-- before another text it is one more
one_more_section : (src : List ℕ) (a e x : ℕ) (v w : List ℕ) → (v ≡ [] → IsEmpty src a e) → x ≡ e → (w ≡ [] → EmptySections src x) → v ++ w ≡ [] → EmptySections src a
one_more_section src a e x v w section touches rest none =
    let both = both_empty v w none in
    let s = section both.0 in
    more a s.0 (subst (λ (i : ℕ). EmptySections src i) (touches ∙ s.1) (rest both.1))

-- a text in front
glue_sound : (src : List ℕ) (a e : ℕ) (v : List ℕ) (b : Bool) (c f : Forest Item) → (v ≡ [] → IsEmpty src a e) → c ≡ Nil → Begins src e f → EachNode (Sound src) f
    → EachNode (Sound src) (glue (Text a e v b) c f) × Begins src a (glue (Text a e v b) c f)
glue_sound src a e v b c f section none begins h = glued f begins h
  where
    nothing : EachNode (Sound src) c
    nothing = subst (λ (c : Forest Item). EachNode (Sound src) c) (sym none) tt

    glued : (f : Forest Item) → Begins src e f → EachNode (Sound src) f → EachNode (Sound src) (glue (Text a e v b) c f) × Begins src a (glue (Text a e v b) c f)
    glued Nil markup h = ((one_section src a e v section markup, nothing, tt), refl)
    glued (Cons (Text x y w p) d r) touches h =
        ((one_more_section src a e x v w section touches h.0, each_join (Sound src) c d nothing h.1, h.2), refl)
    glued (Cons (Element x y t) d r) markup h = ((one_section src a e v section markup, nothing, h), refl)
    glued (Cons (Comment x y t) d r) markup h = ((one_section src a e v section markup, nothing, h), refl)
    glued (Cons (PI x y t o) d r) markup h = ((one_section src a e v section markup, nothing, h), refl)

merge_sound : (src : List ℕ) (from to : ℕ) (f : Forest Item) → IsMarkup src to → Covers src from to f → EachNode (Sound src) (merge f) × Begins src from (merge f)
merge_sound src from to Nil markup h = (tt, subst (λ (i : ℕ). IsMarkup src i) (sym h) markup)
merge_sound src from to (Cons (Text a e v b) c r) markup h = grind (arith, common_steps, merge_sound src e to r markup h.3, glue_sound)
merge_sound src from to (Cons (Element a e t) c r) markup h = grind (arith, merge_sound src e to r markup h.3)
merge_sound src from to (Cons (Comment a e t) c r) markup h = grind (arith, merge_sound src e to r markup h.3)
merge_sound src from to (Cons (PI a e t o) c r) markup h = grind (arith, merge_sound src e to r markup h.3)

-- ---- pieces

-- bytes have signs
some_signs : (src : List ℕ) (i stop : ℕ) (ss : List DataByte) → i < stop → Part true src stop i ss → ss ≡ [] → ⊥
some_signs src i stop ss below part_ends none = absurd (omega (arith, below))
some_signs src i stop ss below (as_written _ rest lt no_amp p) none = cc none
some_signs src i stop ss below (from_reference _ n c rest r inside p) none = kept_some (encode_utf8 c) (encode_some c) none
  where
    kept_some : (bs : List ℕ) → 0 < length bs → data_bytes_of true bs ++ rest ≡ [] → ⊥
    kept_some [] some none = omega arith
    kept_some (b ∷ bs) some none = cc none

-- a run is a text that is not empty
piece_covers : (src : List ℕ) (i stop : ℕ) (borrowed : Bool) (ss : List DataByte) → (ss ≡ [] → ⊥) → Covers src i stop (piece i stop borrowed ss)
piece_covers src i stop borrowed ss some = grind (arith, nat_tests)

parts_cover : (src : List ℕ) (i stop b c : ℕ) (items : Forest Item) → i < stop → Parts true no_entities src i stop i b c items → Covers src i stop items
parts_cover src i stop b c items below k = grind (arith, piece_covers, some_signs)

-- a section without a byte is empty
section_empty : (src : List ℕ) (i e j : ℕ) → IsCData src i e j → slice src (i + 9) e ≡ [] → IsEmpty src i j
section_empty src i e j is none = grind (arith, empty_section)

-- ---- markup

-- `<` and a byte other than `!`
other_mark : (src : List ℕ) (i : ℕ) → byte src i ≡ 60 → byte src (i + 1) ≢ 33 → IsMarkup src i
other_mark src i opens other = (opens, false_from_ne_true _ (λ h. other (cdata_bytes src i h).2))

misc_markup : (src : List ℕ) (i j : ℕ) (item : Item) → IsMisc src i j item → IsMarkup src i
misc_markup src i j item (comment _ e _ is) = (
  (comment_bytes src i (comment_parts is).opens).1,
  false_from_ne_true _ (λ h.
      (let dash : byte src (i + 2) ≡ 45 = stands_reads (word_text word.CommentStart) src i 2 (comment_parts is).opens (omega arith) in
      let bracket : byte src (i + 2) ≡ 91 = stands_reads (word_text word.CDataStart) src i 2 h (omega arith) in
      omega arith)),
)
misc_markup src i j item (instruction _ n e _ is) =
    let bytes = instruction_bytes src i (pi_parts is).opens in other_mark src i bytes.1 (λ mark. omega (arith, bytes.2, mark))

tag_markup : (src : List ℕ) (i j b c : ℕ) (is_empty : Bool) (t : Tag) → IsTag true no_entities src i j b c is_empty t → IsMarkup src i
tag_markup src i j b c is_empty _ (start_tag n _ name written begin is_name list end) = other_mark src i begin (name_byte src (i + 1) name n is_name).no_mark

end_markup : (src : List ℕ) (i : ℕ) (name : Name) (n j : ℕ) → IsEnd src i name n j → IsMarkup src i
end_markup src i name n j is = let bytes = end_bytes src i (end_parts is).opens in other_mark src i bytes.1 (λ mark. omega (arith, bytes.2, mark))

-- ---- content

misc_covers : (src : List ℕ) (i j to : ℕ) (item : Item) (rest : Forest Item) → IsMisc src i j item → Covers src j to rest → Covers src i to (Cons item Nil rest)
misc_covers src i j to item rest h k = grind (arith, misc_markup)

mutual
  content_covers : (src : List ℕ) (i j b c : ℕ) (items : Forest Item) → Content true no_entities src i j b c items → Covers src i j items
  content_covers src i j b c items (ends _ _) = refl
  content_covers src i j b c items (run _ k _ _ d _ front rest is parts inner) =
      covers_join src i k j front rest (parts_cover src i k b d front (char_data_parts is).some parts) (content_covers src k j d c rest inner)
  content_covers src i j b c items (cdata _ e k _ _ _ rest is inner) =
      (refl, λ none. section_empty src i e k is (no_bytes (slice src (i + 9) e) none), refl, content_covers src k j b c rest inner)
  content_covers src i j b c items (misc _ k _ _ _ item rest is inner) = misc_covers src i k j item rest is (content_covers src k j b c rest inner)
  content_covers src i j b c items (node _ k _ _ d _ one rest is inner) =
      covers_join src i k j one rest (element_covers src i k b d one is) (content_covers src k j d c rest inner)

  element_covers : (src : List ℕ) (i j b c : ℕ) (one : Forest Item) → IsElement true no_entities src i j b c one → Covers src i j one
  element_covers src i j b c one (empty _ _ _ _ t tag) = (refl, tag_markup src i j b c true t tag, tt, refl)
  element_covers src i j b c one (nest _ k m p _ _ d _ t kids tag inner end) = (
    refl,
    tag_markup src i k b d false t tag,
    (merge_sound src k m kids (end_markup src m t.name p j end) (content_covers src k m d c kids inner)).0,
    refl,
  )

-- the items of a row that begin with markup
element_sound : (src : List ℕ) (i j b c : ℕ) (one : Forest Item) → IsElement true no_entities src i j b c one → EachNode (Sound src) one
element_sound src i j b c one (empty _ _ _ _ t tag) = (tt, tt, tt)
element_sound src i j b c one (nest _ k m p _ _ d _ t kids tag inner end) =
    (tt, (merge_sound src k m kids (end_markup src m t.name p j end) (content_covers src k m d c kids inner)).0, tt)

misc_sound : (src : List ℕ) (i j : ℕ) (item : Item) → IsMisc src i j item → Sound src item
misc_sound src i j item h = grind arith

top_sound : (src : List ℕ) (i j : ℕ) (items : Forest Item) → Misc src i j items → EachNode (Sound src) items
top_sound src i j items (no_misc _) = tt
top_sound src i j items (space _ _ _ is rest) = top_sound src (i + 1) j items rest
top_sound src i j items (an_item _ k _ item others is rest) = (misc_sound src i k item is, tt, top_sound src k j others rest)

parse_sound : (src : List ℕ) (tops : Forest Item) → ParseOf src false [] tops → EachNode (Sound src) tops
parse_sound src tops q =
    let p = (parse_without src [] tops q).1 in
    let front = top_sound src p.prolog.0 p.start p.before p.prolog.2 in
    let one = element_sound src p.start p.end 255 p.openings_left p.one p.element in
    let back = top_sound src p.end (length src) p.after p.misc_after in
    grind (arith, each_join)

-- in a document
pub empty_texts : (src : List ℕ) (limit : ℕ) (f : Forest Node) → IsTreeOf src false [] limit f → EmptyTextsAreSections src f
empty_texts src limit f is =
    let h = tree_parts is in
    subst (λ (f : Forest Node). EachNode (EmptyIsSections src) f) (sym h.shown)
    (tt, each_resolved (Sound src) (EmptyIsSections src) has [] h.written (parse_sound src h.written h.parse), tt)
  where
    has : (scope : List NamespaceDecl) (item : Item) → Sound src item → EmptyIsSections src (node_in scope item)
    has scope (Text a e v b) own = own
    has scope (Element a e t) own = tt
    has scope (Comment a e t) own = tt
    has scope (PI a e t o) own = tt
