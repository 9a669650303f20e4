-- A text has at most one parse for the same answers, whatever the limits are.
use Rattle.std.proofs.Common.{◌≡◌, ℕ, ◌+◌, ◌≤◌, Bool, true, false, List, [], ◌∷◌, ◌++◌, length, Ok, refl, sym, ap, ◌∙◌, subst, arith, IsUtf8}
use Rattle.std.specs.Prelude.{Option, map}
use Rattle.std.proofs.lemmas.Bool.{false≢true}
use Rattle.rox_grammar.specs.declared.fault.Word.TheVariants as word
use Rattle.rox_grammar.specs.FixedTexts.{at}
use Rattle.rox_grammar.specs.Forest.{Forest, Nil, Cons, join, size}
use Rattle.rox_grammar.specs.Written.{Item, merge}
use Rattle.rox_grammar.specs.Content.{IsMisc, IsElement}
use Rattle.rox_grammar.specs.TextStart.{after_bom}
use Rattle.rox_grammar.specs.Entities.{Entity, included_in_main}
use Rattle.rox_grammar.specs.Doctype.{Asked, Subset, IsDoctype, no_more, skipped_declaration, an_entity}
use Rattle.rox_grammar.specs.Doctype as dtd
use Rattle.rox_grammar.specs.Document.{Misc, no_misc, space, an_item, ParseOf, IsTreeOf, Permits}
use Rattle.rox_grammar.specs.Counts.{attribute_count, pairs}
use Rattle.rox_theory.specs.ParseParts.{MayHaveDoctype, doctype, no_doctype}
use Rattle.rox_grammar.specs.Tree.{Node, document_tree}
use Rattle.rox_grammar.specs.WellNamed.{AreWellNamed}
use Rattle.rox_grammar.specs.State.{root}
use Rattle.rox_reading.specs.State.{State}
use Rattle.rox_reading.specs.Doctype.{Reply, replies_of, Asks, Dtd}
use Rattle.rox_reading.specs.WholeText.{prolog}
use Rattle.rox_reading.specs.WholeText as whole
use Rattle.rox_reading.proofs.Forests.{pairs-join, attribute_count-join, named-left, named-right}
use Rattle.rox_theory.specs.ValidState.{IsValidState, state}
use Rattle.rox_theory.proofs.Basics.{ok_same}
use Rattle.rox_theory.proofs.FailedReadings.{ok_one}
use Rattle.rox_theory.proofs.Whole.{asks_nothing_there}
use Rattle.rox_theory.proofs.Once.{element_once}
use Rattle.rox_theory.proofs.Around.{Stops, DoctypesAgree, none_agree, element_stops, end_stops, begins_stop, dtd_begins, misc_complete, prolog_complete}
use Rattle.rox_theory.proofs.ParseParts.{ParseParts, tree_parts, parts}

-- The same answers are the same replies.
pub same_replies : (a b : List Asked) → map (λ x. x.answer) a ≡ map (λ x. x.answer) b → replies_of a ≡ replies_of b
same_replies [] [] h = refl
same_replies [] (y ∷ b) h = cc h
same_replies (x ∷ a) [] h = cc h
same_replies (x ∷ a) (y ∷ b) h =
    let first : x.answer ≡ y.answer = cc in
    let rest : map (λ x. x.answer) a ≡ map (λ x. x.answer) b = cc in
    ap (λ (o : Option (List ℕ)). Ok o ∷ replies_of a) first ∙ ap (λ (rs : List Reply). Ok y.answer ∷ rs) (same_replies a b rest)

-- ---- what is around the root element has no attributes

abbrev IsBare : Forest Item → Type 0
IsBare f = (attribute_count f ≡ 0) × (pairs f ≡ [])

bare_item : (src : List ℕ) (i j : ℕ) (item : Item) (more : Forest Item) → IsMisc src i j item → IsBare more → IsBare (Cons item Nil more)
bare_item src i j item more h k = grind arith

bare_join : (f g : Forest Item) → IsBare f → IsBare g → IsBare (join f g)
bare_join f g h k = let none = h.1 in let none' = k.1 in (omega (arith, attribute_count-join f g, h.0, k.0), rw (pairs-join, none, none') refl)

bare_misc : (src : List ℕ) (i j : ℕ) (items : Forest Item) → Misc src i j items → IsBare items
bare_misc src i j items (no_misc _) = (refl, refl)
bare_misc src i j items (space _ _ _ s m) = bare_misc src (i + 1) j items m
bare_misc src i j items (an_item _ k _ item more one m) = bare_item src i k item more one (bare_misc src k j more m)

bare_subset : (src : List ℕ) (i j : ℕ) (items : Forest Item) (asked : List Asked) (es : List Entity) → Subset src i j items asked es → IsBare items
bare_subset src i j items asked es (no_more _) = (refl, refl)
bare_subset src i j items asked es (dtd.space _ _ _ _ _ s m) = bare_subset src (i + 1) j items asked es m
bare_subset src i j items asked es (dtd.an_item _ k _ item more _ _ one m) = bare_item src i k item more one (bare_subset src k j more asked es m)
bare_subset src i j items asked es (skipped_declaration _ _ _ _ _ _ _ m) = bare_subset src _ j items asked es m
bare_subset src i j items asked es (an_entity _ k _ _ first later one others is m) = bare_subset src k j items later others m

bare_itself : (src : List ℕ) (i j : ℕ) (items : Forest Item) (asked : List Asked) (es : List Entity) → IsDoctype src i j items asked es → IsBare items
bare_itself src i j items asked es h = grind (arith, bare_subset)

bare_doctype : (src : List ℕ) (i j : ℕ) (is : Bool) (items : Forest Item) (asked : List Asked) (es : List Entity) → MayHaveDoctype src i j is items asked es → IsBare items
bare_doctype src i j is items asked es (doctype _ k _ own more _ _ one after) = bare_join own more (bare_itself src i k own asked es one) (bare_misc src k j more after)
bare_doctype src i j is items asked es (no_doctype _) = (refl, refl)

module _ (src : List ℕ) (utf8 : IsUtf8 src) where
  -- Comments and instructions up to a stop are read in one way.
  one_misc : (h i j k : ℕ) (xs ys : Forest Item) → h ≡ i → Misc src h j xs → Stops src j → Misc src i k ys → Stops src k → (j ≡ k) × (xs ≡ ys)
  one_misc h i j k xs ys same m stops n stops' =
      let limit = (size (merge xs) + 1) + (size (merge ys) + 1) in
      let m' : Misc src i j xs = subst (λ (i : ℕ). Misc src i j xs) same m in
      let x = misc_complete src utf8 (length src) limit 255 i j xs Nil m' stops (omega arith) (omega arith) in
      let y = misc_complete src utf8 (length src) limit 255 i k ys Nil n stops' (omega arith) (omega arith) in
      let e = ok_one (state j xs root 255) (state k ys root 255) _ x y in
      (ap (λ (s : State). s.at) e, ap (λ (s : State). s.done) e)

  module _ (allow : Bool) (doctypes : DoctypesAgree src allow) where
    -- What comes before the root element is within limits that are wide enough.
    bare_fine : (limit j : ℕ) (items : Forest Item) → IsBare items → AreWellNamed [] items → 1 + size (merge items) ≤ limit → IsValidState limit (state j items root 255)
    bare_fine limit j items bare named fits = grind arith

    -- The items of a document type declaration are well named.
    named_there : (is : Bool) (asked : List Asked) (t : Forest Item) (p : ParseParts src is asked t) → AreWellNamed [] p.nodes
    named_there is asked t p = grind (arith, named-left, named-right)

    -- A document type declaration is read in one way.
    one_doctype : (h i j k : ℕ) (d e : Bool) (xs ys : Forest Item) (a b : List Asked) (es fs : List Entity) → h ≡ i → replies_of a ≡ replies_of b → AreWellNamed [] xs → AreWellNamed [] ys
        → MayHaveDoctype src h j d xs a es → Stops src j → at word.DoctypeStart src j ≡ false → Permits allow d → MayHaveDoctype src i k e ys b fs → Stops src k → at word.DoctypeStart src k ≡ false → Permits allow e
        → (a ≡ b) × (j ≡ k) × (xs ≡ ys) × (es ≡ fs)
    one_doctype h i j k d e xs ys a b es fs same answers named named' m stops none permits n stops' none' permits' =
        let limit = (size (merge xs) + 1) + (size (merge ys) + 1) in
        let m' : MayHaveDoctype src i j d xs a es = subst (λ (i : ℕ). MayHaveDoctype src i j d xs a es) same m in
        let x = doctypes.complete limit i j d Nil xs a es [] m' stops none permits (bare_fine limit j xs (bare_doctype src i j d xs a es m') named (omega arith)) in
        let y = doctypes.complete limit i k e Nil ys b fs [] n stops' none' permits' (bare_fine limit k ys (bare_doctype src i k e ys b fs n) named' (omega arith)) in
        let y' = subst (λ (rs : List Reply). whole.doctype limit allow src (record { state = state i Nil root 255; entities = []; replies = rs ++ [] }) ≡ (b, Ok (record { state = state k ys root 255; entities = fs; replies = [] }))) (sym answers) y in
        let both = sym x ∙ y' in
        let read = ok_same _ _ (ap (λ (r : Asks Dtd). r.1) both) in
        (ap (λ (r : Asks Dtd). r.0) both, ap (λ (d : Dtd). d.state.at) read, ap (λ (d : Dtd). d.state.done) read, ap (λ (d : Dtd). d.entities) read)

    same_joined : {a b c d e f g h : Forest Item} → a ≡ b → c ≡ d → e ≡ f → g ≡ h → join a (join c (join e g)) ≡ join b (join d (join f h))
    same_joined p q r s = rw (p, q, r, s) refl

    -- For the same answers there is one parse.
    pub one_parse : (d e : Bool) (a b : List Asked) (t u : Forest Item) → ParseOf src d a t → ParseOf src e b u → Permits allow d → Permits allow e → replies_of a ≡ replies_of b
        → (d ≡ e) × (a ≡ b) × (t ≡ u)
    one_parse d e a b t u first second permits permits' answers =
        let p = parts src d a t first in
        let q = parts src e b u second in
        let declared = ok_one p.prolog.0 q.prolog.0 (prolog src (after_bom src)) (prolog_complete src utf8 (after_bom src) p.prolog.0 p.prolog.1) (prolog_complete src utf8 (after_bom src) q.prolog.0 q.prolog.1) in
        let stops = element_stops true (included_in_main p.entities) src p.start p.end 255 p.openings_left p.one p.element in
        let stops' = element_stops true (included_in_main q.entities) src q.start q.end 255 q.openings_left q.one q.element in
        let before = one_misc p.prolog.0 q.prolog.0 p.begun q.begun p.before q.before declared p.prolog.2 (begins_stop src p.begun p.start d p.nodes a p.entities p.doctype stops.2)
        q.prolog.2 (begins_stop src q.begun q.start e q.nodes b q.entities q.doctype stops'.2) in
        let kind : d ≡ e = sym (dtd_begins src p.begun p.start d p.nodes a p.entities p.doctype stops.1) ∙ ap (at word.DoctypeStart src) before.0 ∙ dtd_begins src q.begun q.start e q.nodes b q.entities q.doctype stops'.1 in
        let declares = one_doctype p.begun q.begun p.start q.start d e p.nodes q.nodes a b p.entities q.entities before.0 answers (named_there d a t p) (named_there e b u q)
        p.doctype stops.2 stops.1 permits q.doctype stops'.2 stops'.1 permits' in
        let texts = doctypes.texts p.begun p.start d p.nodes a p.entities p.doctype permits in
        let other : IsElement true (included_in_main p.entities) src p.start q.end 255 q.openings_left q.one =
        subst (λ (es : List Entity). IsElement true (included_in_main es) src p.start q.end 255 q.openings_left q.one) (sym declares.3) (subst (λ (i : ℕ). IsElement true (included_in_main q.entities) src i q.end 255 q.openings_left q.one) (sym declares.1) q.element) in
        let element = element_once p.entities texts src utf8 p.start p.end q.end 255 p.openings_left q.openings_left p.one q.one p.element other in
        let after = one_misc p.end q.end (length src) (length src) p.after q.after element.0 p.misc_after (end_stops src) q.misc_after (end_stops src) in
        (kind, declares.0, p.is_tree ∙ same_joined before.1 declares.2 element.1 after.1 ∙ sym q.is_tree)

    -- And its readers see one tree.
    pub one_tree : (limit most : ℕ) (d e : Bool) (a b : List Asked) (t u : Forest Node) → IsTreeOf src d a limit t → IsTreeOf src e b most u → Permits allow d → Permits allow e → replies_of a ≡ replies_of b
        → t ≡ u
    one_tree limit most d e a b t u one other permits permits' answers =
        let p = tree_parts one in
        let q = tree_parts other in
        p.shown ∙ ap (document_tree (length src)) (one_parse d e a b p.written q.written p.parse q.parse permits permits' answers).2 ∙ sym q.shown

  -- Without a document type declaration there is one parse.
  pub one_plain_parse : (a b : List Asked) (t u : Forest Item) → ParseOf src false a t → ParseOf src false b u → t ≡ u
  one_plain_parse a b t u p q =
      let none = asks_nothing_there src utf8 a t p in
      let none' = asks_nothing_there src utf8 b u q in
      (one_parse false (none_agree src) false false a b t u p q (λ no. absurd (false≢true no)) (λ no. absurd (false≢true no)) (ap replies_of none ∙ sym (ap replies_of none'))).2
