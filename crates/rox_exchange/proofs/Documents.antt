-- A document with another element in the place of one of its own.
use Rattle.std.proofs.Common.{◌≡◌, ℕ, suc, ◌+◌, ◌-◌, ◌≤◌, Bool, true, false, List, [], ◌∷◌, length, sym, ap, ◌∙◌, subst, arith, inl, inr, cond, length-drop, length-append, IsUtf8}
use Rattle.std.proofs.lemmas.Bool.{cases_Bool, cases_lt}
use Rattle.rox_grammar.specs.declared.fault.Word.TheVariants as word
use Rattle.rox_grammar.specs.FixedTexts.{word_text, at}
use Rattle.rox_grammar.specs.Search.{stands}
use Rattle.rox_grammar.specs.Forest.{Forest, Nil, Cons, join}
use Rattle.rox_grammar.specs.Written.{Tag, Item, Element, leaf}
use Rattle.rox_grammar.specs.Names.{byte, slice}
use Rattle.rox_grammar.specs.Content.{comment, instruction, IsElement}
use Rattle.rox_grammar.specs.WellNamed.{AreWellNamed}
use Rattle.rox_grammar.specs.TextStart.{after_bom, MayHaveXmlDecl, declared, not_declared, bom}
use Rattle.rox_grammar.specs.Entities.{no_entities}
use Rattle.rox_grammar.specs.Document.{Misc, no_misc, space, an_item}
use Rattle.rox_grammar.specs.Exchange.{Move, moved, replaced}
use Rattle.rox_grammar.proofs.AtPlace.{stands_reads}
use Rattle.rox_theory.specs.WithoutDoctype.{ParseWithout}
use Rattle.rox_exchange.specs.Local.{Fronts, moved_items}
use Rattle.rox_exchange.specs.ElementWith.{ElementWith, exchanged_items}
use Rattle.rox_exchange.specs.SourceKinds.{StandsInEach}
use Rattle.rox_exchange.specs.SelfContained.{is_contained}
use Rattle.rox_exchange.proofs.Order.{element_lt}
use Rattle.rox_exchange.proofs.Follows.{from}
use Rattle.rox_exchange.proofs.Cuts.{stands_cut}
use Rattle.rox_exchange.proofs.CutsDeclaration.{IsMissing, word_cut, declaration_cut}
use Rattle.rox_exchange.proofs.MovedItems.{moved_named}
use Rattle.rox_exchange.proofs.Context.{EndUpTo, past_front, one_element, element_bounds}
use Rattle.rox_exchange.proofs.Found.{stands_join, in_none, no_misc_item, element_found}
use Rattle.rox_exchange.proofs.Alone.{element_begins, undeclared}
use Rattle.rox_exchange.proofs.Around.{around_le, around_moves, around_cut}
use Rattle.rox_exchange.proofs.Named.{named_exchanged}
use Rattle.rox_exchange.proofs.Ordered.{Ordered, ordered_join, wider, around_ordered, element_ordered}
use Rattle.rox_exchange.proofs.Put.{sizes, put, behind, in_front, exchanged_whole}

-- ---- in front of the root element

lacks_bom : IsMissing 60 bom
lacks_bom = ((λ e. omega arith), ((λ e. omega arith), ((λ e. omega arith), tt)))

-- After its first byte the start of a declaration has no `<`.
abbrev behind_first : List ℕ
behind_first = 63 ∷ 120 ∷ 109 ∷ 108 ∷ 32 ∷ []

module _ (src to : List ℕ) (s : ℕ) (f : Fronts src to (s + 1)) (begins : byte src s ≡ 60) (begins' : byte to s ≡ 60) (none_there : at word.XmlDeclStart to s ≡ false) where
  -- A byte order mark.
  bom_cut : after_bom src ≡ after_bom to
  unfolding stands
  bom_cut = ap (λ (b : Bool). cond b 3 0) (word_cut src to (s + 1) f 60 bom 0 s (omega arith) lacks_bom (omega arith) (omega arith) begins)

  -- No declaration.
  undeclared_cut : (i : ℕ) → i ≤ s → at word.XmlDeclStart src i ≡ false → at word.XmlDeclStart to i ≡ false
  undeclared_cut i le none =
      elim (cases_Bool (at word.XmlDeclStart to i)) as (λ q. at word.XmlDeclStart to i ≡ false) [
        | inr out ↦ out
        | inl here ↦ elim (cases_lt s (i + 6)) as (λ q. at word.XmlDeclStart to i ≡ false) [
          | inr far ↦ sym (stands_cut src to (s + 1) f.same (word_text word.XmlDeclStart) i (omega arith)) ∙ none
          | inl near ↦ grind (arith, stands_reads (word_text word.XmlDeclStart) to i (suc (s - i - 1)) here (omega arith))
        ]
      ]

  may_declare_cut : (i j : ℕ) → j ≤ s → MayHaveXmlDecl src i j → MayHaveXmlDecl to i j
  may_declare_cut i j le (declared _ _ is) = declared i j (declaration_cut src to (s + 1) f i j (omega arith) is)
  may_declare_cut i j le (not_declared _ none) = not_declared i (undeclared_cut i le none)

-- ---- around it there is no element

module _ (src : List ℕ) (s e : ℕ) (t : Tag) (kids : Forest Item) where
  none_around : (i j : ℕ) (items : Forest Item) → Misc src i j items → StandsInEach s e t kids items → ⊥
  none_around i j items (no_misc _) is = in_none s e t kids is
  none_around i j items (space _ _ _ white rest) is = none_around (i + 1) j items rest is
  none_around i j items (an_item _ k _ item more one rest) is =
      elim (stands_join s e t kids (leaf item) more is) as (λ q. ⊥) [ inl early ↦ no_misc_item src s e t kids i k item one early | inr late ↦ none_around k j more rest late ]

  -- So an element of the document is in the root element.
  pub in_root : (tops : Forest Item) (p : ParseWithout src tops) → StandsInEach s e t kids tops → StandsInEach s e t kids p.one
  in_root tops p is = grind (arith, stands_join, none_around)

up_to_around : (src : List ℕ) (s i j : ℕ) (items : Forest Item) → Misc src i j items → EndUpTo s items
up_to_around src s i j items (no_misc _) = tt
up_to_around src s i j items (space _ _ _ white rest) = up_to_around src s (i + 1) j items rest
up_to_around src s i j items (an_item _ k _ _ more (comment _ x _ is) rest) = up_to_around src s k j more rest
up_to_around src s i j items (an_item _ k _ _ more (instruction _ n x _ is) rest) = up_to_around src s k j more rest

-- The top nodes of a document are in order.
pub tops_ordered : (src : List ℕ) (tops : Forest Item) → ParseWithout src tops → Ordered 0 (length src) tops
tops_ordered src tops p =
    let one = ordered_join p.start p.end (length src) p.one p.after (element_ordered src p.start p.end 255 p.openings_left p.one p.element) (around_ordered src p.end (length src) p.after p.misc_after) in
    let all = ordered_join p.prolog.0 p.start (length src) p.before (join p.one p.after) (around_ordered src p.prolog.0 p.start p.before p.prolog.2) one in
    subst (Ordered 0 (length src)) (sym p.is_tree) (wider p.prolog.0 (length src) 0 (length src) (join p.before (join p.one p.after)) (omega arith) (omega arith) all)

-- ---- the whole document

module _ (src other : List ℕ) (s e a z : ℕ) (t : Tag) (kids one : Forest Item) (utf8 : IsUtf8 src) (utf8' : IsUtf8 other) (new : IsElement true no_entities other a z 255 255 one) (named : AreWellNamed [] one)
    (tops : Forest Item) (p : ParseWithout src tops) (is : StandsInEach s e t kids tops) (contained : is_contained s tops ≡ true) where
  abbrev hole : Forest Item
  hole = Cons (Element s e t) kids Nil

  -- Where the element is.
  placed : ElementWith src s e hole p.start p.end p.one × IsElement true no_entities src s e 255 255 hole
  placed = element_found src s e t kids p.start p.end 255 p.openings_left p.one p.element (in_root src s e t kids tops p is)

  -- The items of the new text.
  items_are : exchanged_items (record { add = z - a; sub = e - s }) (moved_items (record { add = s; sub = a }) one) s tops
      ≡ join p.before (join (exchanged_items (record { add = z - a; sub = e - s }) (moved_items (record { add = s; sub = a }) one) s p.one) (moved_items (record { add = z - a; sub = e - s }) p.after))
  items_are = grind (arith, element_bounds, placed, element_lt, one_element, past_front, up_to_around)

  -- How long it is.
  pub long_exchanged : moved (record { add = z - a; sub = e - s }) (length src) ≡ length (replaced src s e (slice other a z))
  long_exchanged = grind (arith, sizes, placed, length-append, length-drop)

  pub parse_exchanged : ParseWithout (replaced src s e (slice other a z)) (exchanged_items (record { add = z - a; sub = e - s }) (moved_items (record { add = s; sub = a }) one) s tops)
  parse_exchanged =
      let mv : Move = record { add = z - a; sub = e - s } in
      let put_in = moved_items (record { add = s; sub = a }) one in
      let text = replaced src s e (slice other a z) in
      let with_hole = placed.0 in
      let is_hole = placed.1 in
      let b = element_bounds src s e hole p.start p.end p.one with_hole in
      let b1 = b.1 in
      let there = put src other s e a z utf8 utf8' hole one is_hole new in
      let front = in_front src other s e a z utf8 utf8' hole one is_hole new in
      let back = behind src other s e a z utf8 utf8' hole one is_hole new in
      let first = element_begins src s e 255 255 hole is_hole in
      let second = element_begins text s (moved mv e) 255 255 put_in there in
      let none_there = undeclared text s (moved mv e) 255 255 put_in there in
      let le_root = around_le src p.prolog.0 p.start p.before p.prolog.2 in
      let mark = bom_cut src text s front first.0 second.0 none_there in
      record {
        start = p.start;
        before = p.before;
        prolog = (p.prolog.0, subst (λ (k : ℕ). MayHaveXmlDecl text k p.prolog.0) mark (may_declare_cut src text s front first.0 second.0 none_there (after_bom src) p.prolog.0 (omega arith) p.prolog.1), around_cut src text (s + 1) front p.prolog.0 p.start p.before (omega arith) p.prolog.2);
        end = moved mv p.end;
        openings_left = 255;
        one = exchanged_items mv put_in s p.one;
        element = exchanged_whole src other s e a z utf8 utf8' hole one is_hole new p.start p.end p.one with_hole;
        after = moved_items mv p.after;
        misc_after = subst (λ (k : ℕ). Misc text (moved mv p.end) k (moved_items mv p.after)) long_exchanged
            (around_moves mv src text p.end (length src) p.after (from mv src text e (moved mv e) p.end b1 back) p.misc_after);
        is_tree = items_are;
        well_named = named_exchanged mv put_in s (moved_named (record { add = s; sub = a }) [] one named) tops contained p.well_named;
      }
