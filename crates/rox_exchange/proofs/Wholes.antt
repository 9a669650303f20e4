-- A document, its elements as documents, and an element of another document in the place of one of its own: by ids.
use Rattle.std.proofs.Common.{◌≡◌, ℕ, suc, ◌-◌, ◌<◌, true, false, List, [], ◌++◌, length, take, drop, nat_lt, sym, ap, ◌∙◌, subst, arith, IsUtf8, IsCharBoundary}
use Rattle.std.proofs.lemmas.Str.{IsUtf8-take, IsUtf8-drop, IsUtf8-append}
use Rattle.std.proofs.lemmas.Grind.{common_steps}
use Rattle.rox_grammar.specs.Forest.{Forest, Nil, Cons, size}
use Rattle.rox_grammar.specs.Written.{Item, Element}
use Rattle.rox_grammar.specs.Tree.{Node, Root, resolved, document_tree}
use Rattle.rox_grammar.specs.Names.{slice}
use Rattle.rox_grammar.specs.Content.{IsElement}
use Rattle.rox_grammar.specs.WellNamed.{AreWellNamed}
use Rattle.rox_grammar.specs.Entities.{no_entities}
use Rattle.rox_grammar.proofs.CountForms.{limits_counted, counts_limited}
use Rattle.rox_grammar.specs.Document.{IsWithinLimits, IsTreeOf}
use Rattle.rox_grammar.specs.Exchange.{Move, shifted, subtree, exchanged, self_contained, row_start, row_end, start_at, end_at, replaced, HasTree, with_other, text_with}
use Rattle.rox_theory.specs.WithoutDoctype.{ParseWithout}
use Rattle.rox_theory.proofs.Without.{parse_without, parse_with}
use Rattle.rox_theory.proofs.OneParse.{one_plain_parse}
use Rattle.rox_theory.proofs.Around.{element_ends, ends_cut}
use Rattle.rox_theory.proofs.ParseParts.{tree_parts, parts_tree}
use Rattle.rox_exchange.specs.Local.{moved_items}
use Rattle.rox_exchange.specs.ElementWith.{exchanged_items}
use Rattle.rox_exchange.proofs.MovedItems.{moved_resolved, moved_size, moved_pairs, moved_attributes}
use Rattle.rox_exchange.proofs.Found.{element_found}
use Rattle.rox_exchange.proofs.Alone.{element_begins, alone_utf8, parse_alone, shown_alone, reparse_at}
use Rattle.rox_exchange.proofs.Ids.{Found, find}
use Rattle.rox_exchange.proofs.Limits.{part_within}
use Rattle.rox_exchange.proofs.Documents.{in_root, tops_ordered, long_exchanged, parse_exchanged}

-- A self-contained node of a document: the element where it is.
pub record Whole (text : List ℕ) (tree : Forest Node) (id : ℕ) : Type 0 where
  pub tops : Forest Item
  pub parse : ParseWithout text tops
  pub shown : tree ≡ document_tree (length text) tops
  pub below : ℕ
  pub is_below : id ≡ suc below
  pub inside : nat_lt below (size (resolved [] tops)) ≡ true
  pub found : Found 0 (length text) tops below

whole_at : (text : List ℕ) (tops : Forest Item) (id : ℕ) → ParseWithout text tops → self_contained (document_tree (length text) tops) id ≡ true → Whole text (document_tree (length text) tops) id
whole_at text tops c p is = grind (arith, find, tops_ordered)

pub whole : (text : List ℕ) (tree : Forest Node) (id : ℕ) → HasTree text tree → self_contained tree id ≡ true → Whole text tree id
whole text tree id h is =
    subst (λ (f : Forest Node). Whole text f id) (sym h.shown) (whole_at text h.written id (parse_without text [] h.written h.parse).1 (subst (λ (f : Forest Node). self_contained f id ≡ true) h.shown is))

module _ (text : List ℕ) (tree : Forest Node) (id : ℕ) (utf8 : IsUtf8 text) (w : Whole text tree id) where
  abbrev pub own : Forest Item
  own = Cons (Element w.found.start w.found.end w.found.tag) w.found.kids Nil

  pub subtree_is : subtree tree id ≡ resolved [] own
  subtree_is = cc

  pub element_is : IsElement true no_entities text w.found.start w.found.end 255 255 own
  element_is =
      let p = w.parse in
      (element_found text w.found.start w.found.end w.found.tag w.found.kids p.start p.end 255 p.openings_left p.one p.element
      (in_root text w.found.start w.found.end w.found.tag w.found.kids w.tops p w.found.stands)).1

  pub named_is : AreWellNamed [] own
  named_is = w.found.named w.parse.well_named

  abbrev back : Move
  back = record { add = 0; sub = w.found.start }

  -- Alone it is a document.
  pub reparse_whole : HasTree (slice text (start_at tree id) (end_at tree id))
      (Cons (Root (end_at tree id - start_at tree id)) (shifted (record { add = 0; sub = start_at tree id }) (subtree tree id)) Nil)
  reparse_whole = grind (arith, reparse_at, element_is)

  -- Within the limits that the whole is within.
  own_within : (limit : ℕ) → IsWithinLimits limit w.tops → IsWithinLimits limit (moved_items back own)
  own_within limit within =
      let part = limits_counted limit own (part_within w.found.start w.found.end w.found.tag w.found.kids limit w.tops w.found.stands within) in
      counts_limited limit (moved_items back own) (grind (arith, common_steps, moved_size, moved_attributes, moved_pairs))

  pub reparse_within : (limit : ℕ) → IsTreeOf text false [] limit tree → IsTreeOf (slice text (start_at tree id) (end_at tree id)) false [] limit
      (Cons (Root (end_at tree id - start_at tree id)) (shifted (record { add = 0; sub = start_at tree id }) (subtree tree id)) Nil)
  reparse_within limit tree_is =
      let t = tree_parts tree_is in
      let same : t.written ≡ w.tops = one_plain_parse text utf8 [] [] t.written w.tops t.parse (parse_with text w.tops w.parse) in
      subst (λ (f : Forest Node). IsTreeOf (slice text (row_start f) (row_end f)) false [] limit (Cons (Root (row_end f - row_start f)) (shifted (record { add = 0; sub = row_start f }) f) Nil))
      (sym subtree_is) (parts_tree (record {
        written = moved_items back own;
        parse = parse_with (slice text w.found.start w.found.end) (moved_items back own) (parse_alone text w.found.start w.found.end 255 own utf8 element_is named_is);
        within = own_within limit (subst (IsWithinLimits limit) same t.within);
        shown = shown_alone text w.found.start w.found.end 255 own utf8 element_is;
      }))

  -- It begins and ends between characters of the text.
  pub cut_is : (start_at tree id < end_at tree id) × IsCharBoundary text (start_at tree id) × IsCharBoundary text (end_at tree id)
  cut_is = grind (arith, element_is, ends_cut, element_ends, element_begins)

-- A text has one tree.
pub same_tree : (text : List ℕ) (s t : Forest Node) → IsUtf8 text → HasTree text s → HasTree text t → s ≡ t
same_tree text s t utf8 a b = grind (arith, one_plain_parse text utf8 [] [] a.written b.written a.parse b.parse)

-- The tree of a text, the limits aside.
pub tree_of_text : (text : List ℕ) (limit : ℕ) (tree : Forest Node) → IsTreeOf text false [] limit tree → HasTree text tree
tree_of_text text limit tree is = let t = tree_parts is in record { written = t.written; parse = t.parse; shown = t.shown }

module _ (text : List ℕ) (tree : Forest Node) (id : ℕ) (other_text : List ℕ) (other : Forest Node) (at : ℕ) (utf8 : IsUtf8 text) (utf8' : IsUtf8 other_text)
    (w : Whole text tree id) (w' : Whole other_text other at) where
  abbrev one : Forest Item
  one = Cons (Element w'.found.start w'.found.end w'.found.tag) w'.found.kids Nil

  abbrev grows : Move
  grows = record { add = w'.found.end - w'.found.start; sub = w.found.end - w.found.start }

  abbrev goes : Move
  goes = record { add = w.found.start; sub = w'.found.start }

  new_is : IsElement true no_entities other_text w'.found.start w'.found.end 255 255 one
  new_is = element_is other_text other at utf8' w'

  shown_exchanged : exchanged grows (shifted goes (resolved [] one)) tree id
      ≡ document_tree (length (replaced text w.found.start w.found.end (slice other_text w'.found.start w'.found.end))) (exchanged_items grows (moved_items goes one) w.found.start w.tops)
  shown_exchanged =
      let put_in = moved_items goes one in
      ap (λ (f : Forest Node). exchanged grows f tree id) (sym (moved_resolved goes [] one)) ∙ ap (λ (f : Forest Node). exchanged grows (resolved [] put_in) f id) w.shown
      ∙ ap (exchanged grows (resolved [] put_in) (document_tree (length text) w.tops)) w.is_below ∙ (grind arith)
      ∙ ap (λ (n : ℕ). document_tree n (exchanged_items grows put_in w.found.start w.tops))
      (long_exchanged text other_text w.found.start w.found.end w'.found.start w'.found.end w.found.tag w.found.kids one utf8 utf8' new_is (named_is other_text other at utf8' w') w.tops w.parse w.found.stands w.found.contained)

  -- The text with the other node in its place has the tree with it.
  pub exchange_whole : HasTree (text_with tree text id other other_text at) (with_other tree id other at)
  exchange_whole =
      subst (λ (f : Forest Node). HasTree (replaced text (row_start f) (row_end f) (slice other_text (start_at other at) (end_at other at)))
      (exchanged (record { add = end_at other at - start_at other at; sub = row_end f - row_start f }) (shifted (record { add = row_start f; sub = start_at other at }) (subtree other at)) tree id))
      (sym (subtree_is text tree id utf8 w))
      (subst (λ (g : Forest Node). HasTree (replaced text w.found.start w.found.end (slice other_text (row_start g) (row_end g)))
      (exchanged (record { add = row_end g - row_start g; sub = w.found.end - w.found.start }) (shifted (record { add = w.found.start; sub = row_start g }) g) tree id))
      (sym (subtree_is other_text other at utf8' w'))
      (record {
        written = exchanged_items grows (moved_items goes one) w.found.start w.tops;
        parse = parse_with (replaced text w.found.start w.found.end (slice other_text w'.found.start w'.found.end)) (exchanged_items grows (moved_items goes one) w.found.start w.tops)
            (parse_exchanged text other_text w.found.start w.found.end w'.found.start w'.found.end w.found.tag w.found.kids one utf8 utf8' new_is (named_is other_text other at utf8' w') w.tops w.parse w.found.stands w.found.contained);
        shown = shown_exchanged;
      }))

  -- And is text.
  pub utf8_exchanged : IsUtf8 (text_with tree text id other other_text at)
  utf8_exchanged =
      let cut = cut_is text tree id utf8 w in
      let u = alone_utf8 other_text w'.found.start w'.found.end 255 one utf8' new_is in
      let middle : IsUtf8 (slice other_text (start_at other at) (end_at other at)) = subst (λ (g : Forest Node). IsUtf8 (slice other_text (row_start g) (row_end g))) (sym (subtree_is other_text other at utf8' w')) u.1 in
      IsUtf8-append (take (start_at tree id) text) (slice other_text (start_at other at) (end_at other at) ++ drop (end_at tree id) text) (IsUtf8-take text (start_at tree id) utf8 cut.1)
      (IsUtf8-append (slice other_text (start_at other at) (end_at other at)) (drop (end_at tree id) text) middle (IsUtf8-drop text (end_at tree id) utf8 cut.2))
