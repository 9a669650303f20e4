-- The top nodes of a document are no texts, so nothing is merged there.
use Rattle.std.proofs.Common.{◌≡◌, ℕ, ◌+◌, Bool, false, List, refl, ap, arith}
use Rattle.rox_grammar.specs.Forest.{Forest, Nil, Cons, join}
use Rattle.rox_grammar.specs.Written.{Item, Element, Text, Comment, PI, merge, is_text}
use Rattle.rox_grammar.specs.Content.{Inclusion, IsMisc, IsElement}
use Rattle.rox_grammar.specs.Entities.{Entity}
use Rattle.rox_grammar.specs.Doctype.{Asked, Subset, IsDoctype, no_more, skipped_declaration, an_entity}
use Rattle.rox_grammar.specs.Doctype as dtd
use Rattle.rox_grammar.specs.Document.{Misc, no_misc, space, an_item, ParseOf}
use Rattle.rox_theory.specs.ParseParts.{MayHaveDoctype}
use Rattle.rox_theory.proofs.ParseParts.{parts}

-- No item of the row is a text.
abbrev pub HasNoText : Forest Item → Type 0
HasNoText Nil = Unit {0}
HasNoText (Cons i c r) = (is_text i ≡ false) × HasNoText r

no_text-join : (f g : Forest Item) → HasNoText f → HasNoText g → HasNoText (join f g)
no_text-join Nil g h k = k
no_text-join (Cons i c r) g (a, h) k = (a, no_text-join r g h k)

misc_no_text : (src : List ℕ) (i j : ℕ) (item : Item) → IsMisc src i j item → is_text item ≡ false
misc_no_text src i j item h = grind arith

all_misc_no_text : (src : List ℕ) (i j : ℕ) (items : Forest Item) → Misc src i j items → HasNoText items
all_misc_no_text src i j items (no_misc _) = tt
all_misc_no_text src i j items (space _ _ _ s m) = all_misc_no_text src _ j items m
all_misc_no_text src i j items (an_item _ k _ item more one m) = (misc_no_text src i k item one, all_misc_no_text src k j more m)

subset_no_text : (src : List ℕ) (i j : ℕ) (items : Forest Item) (asked : List Asked) (es : List Entity) → Subset src i j items asked es → HasNoText items
subset_no_text src i j items asked es (no_more _) = tt
subset_no_text src i j items asked es (dtd.space _ _ _ _ _ s m) = subset_no_text src (i + 1) j items asked es m
subset_no_text src i j items asked es (dtd.an_item _ k _ item more _ _ one m) = (misc_no_text src i k item one, subset_no_text src k j more asked es m)
subset_no_text src i j items asked es (skipped_declaration _ _ _ _ _ _ _ m) = subset_no_text src _ j items asked es m
subset_no_text src i j items asked es (an_entity _ k _ _ first later one others is m) = subset_no_text src k j items later others m

doctype_itself_no_text : (src : List ℕ) (i j : ℕ) (items : Forest Item) (asked : List Asked) (es : List Entity) → IsDoctype src i j items asked es → HasNoText items
doctype_itself_no_text src i j items asked es h = grind (arith, subset_no_text)

pub doctype_no_text : (src : List ℕ) (i j : ℕ) (is : Bool) (items : Forest Item) (asked : List Asked) (es : List Entity) → MayHaveDoctype src i j is items asked es → HasNoText items
doctype_no_text src i j is items asked es h = grind (arith, no_text-join, doctype_itself_no_text, all_misc_no_text)

no_text_merge : (f : Forest Item) → HasNoText f → merge f ≡ f
no_text_merge Nil h = refl
no_text_merge (Cons (Text x y w p) c r) (a, h) = cc a
no_text_merge (Cons (Element x y t) c r) (a, h) = ap (Cons (Element x y t) c) (no_text_merge r h)
no_text_merge (Cons (Comment x y t) c r) (a, h) = ap (Cons (Comment x y t) c) (no_text_merge r h)
no_text_merge (Cons (PI x y t o) c r) (a, h) = ap (Cons (PI x y t o) c) (no_text_merge r h)

-- Nor of what is at the top.
pub tops_merged : (main : Bool) (O : Inclusion) (src : List ℕ) (h i j k l b c : ℕ) (is : Bool) (before nodes one after : Forest Item) (asked : List Asked) (es : List Entity) → Misc src h i before
    → MayHaveDoctype src i j is nodes asked es → IsElement main O src j k b c one → Misc src k l after → merge (join before (join nodes (join one after))) ≡ join before (join nodes (join one after))
tops_merged main O src h i j k l b c is before nodes one after asked es first declares element last = grind (arith, no_text_merge, no_text-join, all_misc_no_text, doctype_no_text)

-- Merging changes nothing of a parse.
pub parse_merged : (src : List ℕ) (is : Bool) (asked : List Asked) (t : Forest Item) → ParseOf src is asked t → merge t ≡ t
parse_merged src is asked t whole = grind (arith, parts src is asked t whole, tops_merged)
