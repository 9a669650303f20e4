-- An element alone is a document.
use Rattle.std.proofs.Common.{◌≡◌, ◌≢◌, ℕ, ◌+◌, ◌-◌, ◌≤◌, true, false, List, [], length, take, drop, sym, ap, ◌∙◌, subst, arith, inl, inr, length-drop, length-take, IsUtf8}
use Rattle.std.proofs.lemmas.Bool.{cases_Bool}
use Rattle.std.proofs.lemmas.List.{drop-take, take-take, get_or-take}
use Rattle.std.proofs.lemmas.Str.{IsUtf8-take, IsUtf8-drop, IsCharBoundary-before_ascii}
use Rattle.rox_grammar.specs.declared.fault.Word.TheVariants as word
use Rattle.rox_grammar.specs.FixedTexts.{word_text, at}
use Rattle.rox_grammar.specs.Search.{stands}
use Rattle.rox_grammar.specs.Forest.{Forest, Nil, Cons}
use Rattle.rox_grammar.specs.Written.{Item}
use Rattle.rox_grammar.specs.Tree.{Root, resolved, document_tree}
use Rattle.rox_grammar.specs.Names.{byte, slice}
use Rattle.rox_grammar.specs.Content.{IsElement}
use Rattle.rox_grammar.specs.WellNamed.{AreWellNamed}
use Rattle.rox_grammar.specs.TextStart.{after_bom, MayHaveXmlDecl, not_declared}
use Rattle.rox_grammar.specs.Entities.{no_entities}
use Rattle.rox_grammar.specs.Document.{Misc, no_misc}
use Rattle.rox_theory.proofs.Constructions.{name_byte}
use Rattle.rox_theory.proofs.Around.{element_ends, ends_cut}
use Rattle.rox_theory.specs.WithoutDoctype.{ParseWithout}
use Rattle.rox_theory.proofs.Without.{parse_with}
use Rattle.rox_grammar.specs.Exchange.{Move, shifted, HasTree}
use Rattle.rox_grammar.proofs.AtPlace.{stands_reads}
use Rattle.rox_exchange.specs.Local.{Follows, Fronts, moved_items}
use Rattle.rox_exchange.proofs.Order.{element_lt}
use Rattle.rox_exchange.proofs.MovesContent.{element_moves}
use Rattle.rox_exchange.proofs.CutsContent.{element_cut}
use Rattle.rox_exchange.proofs.MovedItems.{moved_named, moved_resolved}
use Rattle.rox_exchange.proofs.Context.{join_nil}

-- The first two bytes of an element.
pub element_begins : (src : List ℕ) (i j b c : ℕ) (one : Forest Item) → IsElement true no_entities src i j b c one → (byte src i ≡ 60) × (byte src (i + 1) ≢ 63)
element_begins src i j b c one g = grind (arith, name_byte)

-- No declaration begins with it.
pub undeclared : (src : List ℕ) (i j b c : ℕ) (one : Forest Item) → IsElement true no_entities src i j b c one → at word.XmlDeclStart src i ≡ false
undeclared src i j b c one is =
    elim (cases_Bool (at word.XmlDeclStart src i)) as (λ s. at word.XmlDeclStart src i ≡ false) [
      | inl there ↦ absurd ((element_begins src i j b c one is).1 (stands_reads (word_text word.XmlDeclStart) src i 1 there (omega arith)))
      | inr out ↦ out
    ]

-- Nor a byte order mark.
unmarked : (src : List ℕ) → byte src 0 ≡ 60 → after_bom src ≡ 0
unfolding stands
unmarked src first = grind arith

-- What it is written in.
pub alone_utf8 : (src : List ℕ) (s e openings_left : ℕ) (one : Forest Item) → IsUtf8 src → IsElement true no_entities src s e 255 openings_left one → (e ≤ length src) × IsUtf8 (slice src s e)
alone_utf8 src s e openings_left one utf8 is =
    let ends = element_ends true no_entities src s e 255 openings_left one is in
    let cut = ends_cut src e utf8 ends in
    let lt = element_lt src true no_entities s e 255 openings_left one is in
    let first = element_begins src s e 255 openings_left one is in
    let n = length-take e src in
    let same = get_or-take e src s 0 lt in
    let start = IsCharBoundary-before_ascii (take e src) s (omega arith) (omega arith) in
    let d : drop s (take e src) ≡ slice src s e = ap (λ (k : ℕ). drop s (take k src)) (sym (omega arith)) ∙ drop-take s (e - s) src in
    (cut.0, subst IsUtf8 d (IsUtf8-drop (take e src) s (IsUtf8-take src e utf8 cut) start))

-- An element of the slice.
pub element_alone : (src : List ℕ) (s e openings_left : ℕ) (one : Forest Item) → IsUtf8 src → IsElement true no_entities src s e 255 openings_left one
    → IsElement true no_entities (slice src s e) 0 (e - s) 255 openings_left (moved_items (record { add = 0; sub = s }) one)
element_alone src s e openings_left one utf8 is =
    let mv : Move = record { add = 0; sub = s } in
    let a = alone_utf8 src s e openings_left one utf8 is in
    let z : s + 0 - s ≡ 0 = omega arith in
    let f : Follows mv src s (drop s src) (s + 0 - s) = record { same = ap (λ (k : ℕ). drop k (drop s src)) (sym z); at = omega arith } in
    let there = element_moves mv src (drop s src) s e 255 openings_left one f is in
    let front : Fronts (drop s src) (slice src s e) (e - s) = grind (arith, take-take, length-drop) in
    let cut = element_cut (drop s src) (slice src s e) (e - s) front (s + 0 - s) (e + 0 - s) 255 openings_left (moved_items mv one) (omega arith) there in
    grind arith

-- How long it is.
alone_long : (src : List ℕ) (s e openings_left : ℕ) (one : Forest Item) → IsUtf8 src → IsElement true no_entities src s e 255 openings_left one → e - s ≡ length (slice src s e)
alone_long src s e openings_left one utf8 is = grind (arith, alone_utf8, length-take, length-drop)

-- A parse of it.
pub parse_alone : (src : List ℕ) (s e openings_left : ℕ) (one : Forest Item) → IsUtf8 src → IsElement true no_entities src s e 255 openings_left one → AreWellNamed [] one
    → ParseWithout (slice src s e) (moved_items (record { add = 0; sub = s }) one)
parse_alone src s e openings_left one utf8 is named =
    let mv : Move = record { add = 0; sub = s } in
    let text = slice src s e in
    let own = element_alone src s e openings_left one utf8 is in
    let first = element_begins text 0 (e - s) 255 openings_left (moved_items mv one) own in
    record {
      start = 0;
      before = Nil;
      prolog = (0, subst (λ (k : ℕ). MayHaveXmlDecl text k 0) (sym (unmarked text first.0)) (not_declared 0 (undeclared text 0 (e - s) 255 openings_left (moved_items mv one) own)), no_misc 0);
      end = e - s;
      openings_left = openings_left;
      one = moved_items mv one;
      element = own;
      after = Nil;
      misc_after = subst (λ (k : ℕ). Misc text (e - s) k Nil) (alone_long src s e openings_left one utf8 is) (no_misc (e - s));
      is_tree = sym (join_nil (moved_items mv one));
      well_named = moved_named mv [] one named;
    }

-- Its tree.
pub shown_alone : (src : List ℕ) (s e openings_left : ℕ) (one : Forest Item) → IsUtf8 src → IsElement true no_entities src s e 255 openings_left one
    → Cons (Root (e - s)) (shifted (record { add = 0; sub = s }) (resolved [] one)) Nil ≡ document_tree (length (slice src s e)) (moved_items (record { add = 0; sub = s }) one)
shown_alone src s e openings_left one utf8 is = grind (arith, alone_long, moved_resolved)

-- A document of it.
pub reparse_at : (src : List ℕ) (s e openings_left : ℕ) (one : Forest Item) → IsUtf8 src → IsElement true no_entities src s e 255 openings_left one → AreWellNamed [] one
    → HasTree (slice src s e) (Cons (Root (e - s)) (shifted (record { add = 0; sub = s }) (resolved [] one)) Nil)
reparse_at src s e openings_left one utf8 is named = grind (arith, parse_with, parse_alone, shown_alone)
