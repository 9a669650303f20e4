-- Reading a whole text is its grammar.
use Rattle.std.proofs.Common.{◌≡◌, ℕ, ◌+◌, ◌-◌, ◌≤◌, ◌==◌, Bool, true, false, nat_lt, List, [], ◌++◌, length, Ok, refl, sym, ap, ◌∙◌, subst, arith, ltb-false, le-ltb, eqb-true, eq-eqb, IsUtf8, append-nil}
use Rattle.std.specs.Prelude.{Result, Err}
use Rattle.std.proofs.lemmas.Bool.{false≢true}
use Rattle.rox_grammar.specs.declared.fault.Word.TheVariants as word
use Rattle.rox_grammar.specs.Forest.{Forest, Nil, join, size}
use Rattle.rox_grammar.specs.Written.{Item, merge}
use Rattle.rox_grammar.specs.Names.{byte}
use Rattle.rox_grammar.specs.FixedTexts.{at}
use Rattle.rox_grammar.specs.Content.{IsElement}
use Rattle.rox_grammar.specs.TextStart.{after_bom}
use Rattle.rox_grammar.specs.Entities.{Entity, most_deep, included_in_main}
use Rattle.rox_grammar.specs.Doctype.{Asked}
use Rattle.rox_grammar.proofs.CountForms.{limits_counted, counts_limited}
use Rattle.rox_grammar.specs.Document.{Misc, ParseOf, IsWithinLimits, Permits}
use Rattle.rox_grammar.specs.State.{root}
use Rattle.rox_reading.specs.Refusals.{Refusal, here, there, refused}
use Rattle.rox_reading.specs.Answering.{IsTextRefusal}
use Rattle.rox_reading.specs.State.{State}
use Rattle.rox_reading.specs.Machine.{tag_step, drive, main_text}
use Rattle.rox_reading.specs.Doctype.{Reply, replies_of, AreTextReplies, Asks, Dtd}
use Rattle.rox_reading.specs.WholeText.{misc, body, finished, prolog, doctype, reading}
use Rattle.rox_reading.specs.HasDoctype.{has_doctype}
use Rattle.rox_reading.specs.Stopping.{with_refusal, Stops as StopsWith}
use Rattle.rox_reading.proofs.Answering.{replies_then}
use Rattle.rox_reading.proofs.Forests.{join_assoc, size-join}
use Rattle.rox_theory.specs.Openers.{AreTexts}
use Rattle.rox_theory.specs.ValidState.{IsValidState, state}
use Rattle.rox_theory.proofs.Basics.{within, ok_same, bind_ok, bind_lifted, chosen}
use Rattle.rox_theory.proofs.Openers.{values_agree}
use Rattle.rox_theory.proofs.Contents.{StepsAgree}
use Rattle.rox_theory.proofs.ContentOpeners.{steps_agree, openers_agree}
use Rattle.rox_theory.proofs.Leaves.{fine_there, fine_before}
use Rattle.rox_theory.proofs.Steps.{after}
use Rattle.rox_theory.proofs.StepLemmas.{tag_read, read_tag}
use Rattle.rox_theory.proofs.Chains.{Drives, drive_sound, drive_complete, drives_back, root_drives}
use Rattle.rox_theory.proofs.Derivations.{root_element}
use Rattle.rox_theory.proofs.Tops.{tops_merged, parse_merged}
use Rattle.rox_theory.proofs.SameReplies.{SettledWhole, reading_same}
use Rattle.rox_theory.proofs.Asking.{ok_lifted, nothing_ok, nothing_lifted_ok, asks_none, asking_ok}
use Rattle.rox_theory.proofs.Around.{DoctypesAgree, element_stops, end_stops, none_agree, begins_stop, dtd_begins, ends_cut, element_ends, bom_cut, misc_sound, misc_complete, prolog_sound, prolog_complete, prolog_cut}
use Rattle.rox_theory.proofs.ParseParts.{ParseParts, parts, parsed}

-- An element is a node at least.
element_size : (src : List ℕ) (i j b c : ℕ) (es : List Entity) (one : Forest Item) → IsElement true (included_in_main es) src i j b c one → 1 ≤ size one
element_size src i j b c es one h = grind arith

-- The size of a row of four.
size_four : (t a b c d : Forest Item) → t ≡ join a (join b (join c d)) → size t ≡ size a + (size b + (size c + size d))
size_four t a b c d is = rw is (omega (arith, size-join a (join b (join c d)), size-join b (join c d), size-join c d))

-- A refusal is not a value.
err_not_ok : {A : Type 0} (e : Refusal) (x : A) → ◌≡◌ {A = Result A Refusal} (Err e) (Ok x) → ⊥
err_not_ok e x h = cc h

module _ (src : List ℕ) (utf8 : IsUtf8 src) where
  -- What is read up to the end.
  record Found (most : ℕ) (es : List Entity) (i : ℕ) (before : Forest Item) (t : Forest Item) : Type 0 where
    pub end : ℕ
    pub openings_left : ℕ
    pub one : Forest Item
    pub element : IsElement true (included_in_main es) src i end 255 openings_left one
    pub after : Forest Item
    pub misc_after : Misc src end (length src) after
    pub is_tree : t ≡ join (join before one) after
    pub fine : IsValidState most (state (length src) t root openings_left)

  -- A text that is read has come to its end.
  finished_is : (v : State) (t : Forest Item) → finished src (v, true) ≡ Ok t → (length src ≤ v.at) × (v.done ≡ t)
  unfolding finished
  finished_is v t h = chosen (nat_lt v.at (length src)) _ _ _ h (λ more h. cc) (λ all h. (ltb-false _ _ all, cc))

  -- With no element none is read.
  unfinished : (v : State) (t : Forest Item) → finished src (v, false) ≡ Ok t → ⊥
  unfolding finished
  unfinished v t h = chosen (nat_lt v.at (length src)) _ _ _ h (λ more h. cc) (λ all h. cc)

  -- So an element begins there.
  body_begins : (limit : ℕ) (es : List Entity) (s : State) (x : State × Bool) (t : Forest Item) → body limit es src s ≡ Ok x → finished src x ≡ Ok t → byte src s.at ≡ 60
  unfolding body
  body_begins limit es s x t h last = grind (arith, unfinished)

  -- A step of the main text is a construct.
  steps : (limit : ℕ) (es : List Entity) → AreTexts es → StepsAgree (main_text limit es) (included_in_main es) src
  steps limit es texts = steps_agree (main_text limit es) (included_in_main es) (values_agree es texts most_deep true) (openers_agree limit es texts most_deep true) src utf8

  -- What is read from the root element on is there.
  body_sound : (limit most : ℕ) (es : List Entity) (i : ℕ) (before t : Forest Item) (x : State × Bool) → limit ≤ most → AreTexts es → IsValidState most (state i before root 255)
      → body limit es src (state i before root 255) ≡ Ok x → finished src x ≡ Ok t → Found most es i before t
  unfolding body
  body_sound limit most es i before t x more texts fine h last =
      let s = state i before root 255 in
      let context = main_text limit es in
      chosen (byte src i == 60) _ _ _ h
      (λ here h. bind_ok (tag_step context src s) _ _ h (λ v read h. bind_ok (drive context (length src) src v) _ _ h (λ u driven h. bind_lifted (misc limit (length src) src u) _ _ h (λ w rest h.
      let tag = tag_read context (included_in_main es) (values_agree es texts most_deep true) (openers_agree limit es texts most_deep true) src utf8 most s v more (eqb-true _ _ here) fine read in
      let chain = drive_sound limit es src (steps limit es texts) (length src) most v u more tag.1 driven in
      let begun = tag.0 in
      let chain' : Drives (included_in_main es) src (after s begun.0 begun.2 begun.3 begun.1) u = subst (λ (v : State). Drives (included_in_main es) src v u) begun.5 chain.0 in
      let element = root_element (included_in_main es) src i begun.0 255 begun.1 before begun.2 begun.3 u begun.4 chain' in
      let e : (w, true) ≡ x = ok_same _ _ h in
      let done = finished_is w t (rw (← e) at last) in
      let u_is = element.2 in
      let cut = ends_cut src u.at utf8 (element_ends true (included_in_main es) src i u.at 255 u.openings_left element.0 element.1) in
      let behind = misc_sound src utf8 (length src) limit most u.openings_left u.at (join before element.0) w more cut (subst (IsValidState most) u_is chain.1) (subst (λ (u : State). misc limit (length src) src u ≡ Ok w) u_is rest) in
      let at_end : w.at ≡ length src = let far = behind.4.0 in let near = done.0 in omega arith in
      let tree : t ≡ join (join before element.0) behind.0 = sym done.1 ∙ ap (λ (s : State). s.done) behind.2 in
      let all : IsValidState most (state w.at (join (join before element.0) behind.0) root u.openings_left) = subst (IsValidState most) behind.2 behind.3 in
      record {
        end = u.at;
        openings_left = u.openings_left;
        one = element.0;
        element = element.1;
        after = behind.0;
        misc_after = subst (λ (k : ℕ). Misc src u.at k behind.0) at_end behind.1;
        is_tree = tree;
        fine = fine_there most (state w.at (join (join before element.0) behind.0) root u.openings_left) (state (length src) t root u.openings_left) (sym tree) refl all;
      }))))
      (λ none h. let e : (s, false) ≡ x = ok_same _ _ h in absurd (unfinished s t (rw (← e) at last)))

  module _ (allow : Bool) (doctypes : DoctypesAgree src allow) where
    -- What is read is a parse within the limits, with a document type declaration only where one is allowed.
    pub read_is_parse : (limit : ℕ) (replies : List Reply) (asked : List Asked) (t : Forest Item) → AreTextReplies replies → reading limit allow replies src ≡ (asked, Ok t)
        → (dtd : Bool) × ParseOf src dtd asked t × IsWithinLimits limit t × Permits allow dtd
    unfolding reading
    read_is_parse limit replies asked t texts h =
        let most = limit + (1 - limit) in
        let start_dtd : State → Dtd = λ s. record { state = s; entities = []; replies = replies } in
        nothing_lifted_ok (prolog src (after_bom src)) _ _ _ h (λ i declared h.
        nothing_lifted_ok (misc limit (length src) src (state i Nil root 255)) _ _ _ h (λ s first h.
        asking_ok (doctype limit allow src (start_dtd s)) _ asked t (λ d. asks_none (body limit d.entities src d.state) _ (λ x. refl)) h (λ d declares h.
        nothing_ok (body limit d.entities src d.state) _ _ _ h (λ x main last.
        let may = prolog_sound src utf8 (after_bom src) i declared in
        let start : IsValidState most (state i Nil root 255) = record { nodes = omega arith; attributes = omega arith; pairs = omega arith; named = tt } in
        let ahead = misc_sound src utf8 (length src) limit most 255 i Nil s (omega arith) (prolog_cut src utf8 (after_bom src) i (bom_cut src utf8) may) start first in
        let s_is : s ≡ state s.at ahead.0 root 255 = ahead.2 in
        let begins = body_begins limit d.entities d.state x t main (ok_lifted (finished src x) [] t last) in
        let dtd = doctypes.sound limit most s.at ahead.0 replies asked d (omega arith) texts (subst (IsValidState most) s_is ahead.3)
        (subst (λ (s : State). doctype limit allow src (start_dtd s) ≡ (asked, Ok d)) s_is declares) (within src d.state.at (λ z. omega arith)) in
        let d_is : d.state ≡ state d.state.at (join ahead.0 dtd.1) root 255 = dtd.4 in
        let found = body_sound limit most d.entities d.state.at (join ahead.0 dtd.1) t x (omega arith) (doctypes.texts s.at d.state.at dtd.0 dtd.1 asked d.entities dtd.2 dtd.3) (subst (IsValidState most) d_is dtd.5)
        (subst (λ (s : State). body limit d.entities src s ≡ Ok x) d_is main) (ok_lifted (finished src x) [] t last) in
        let tree : t ≡ join ahead.0 (join dtd.1 (join found.one found.after)) = found.is_tree ∙ ap (λ (f : Forest Item). join f found.after) (join_assoc ahead.0 dtd.1 found.one)
        ∙ join_assoc ahead.0 (join dtd.1 found.one) found.after ∙ ap (join ahead.0) (join_assoc dtd.1 found.one found.after) in
        let merged : merge t ≡ t = ap merge tree
        ∙ tops_merged true (included_in_main d.entities) src i s.at d.state.at found.end (length src) 255 found.openings_left dtd.0 ahead.0 dtd.1 found.one found.after asked d.entities ahead.1 dtd.2 found.element found.misc_after ∙ sym tree in
        let sizes : size t ≡ size ahead.0 + (size dtd.1 + (size found.one + size found.after)) = size_four t ahead.0 dtd.1 found.one found.after tree in
        let some = element_size src d.state.at found.end 255 found.openings_left d.entities found.one found.element in
        let counted : 1 + size t ≤ most = subst (λ (f : Forest Item). 1 + size f ≤ most) merged found.fine.nodes in (
          dtd.0,
          parsed src dtd.0 asked t (record {
            begun = s.at;
            before = ahead.0;
            prolog = (i, may, ahead.1);
            start = d.state.at;
            nodes = dtd.1;
            entities = d.entities;
            doctype = dtd.2;
            end = found.end;
            openings_left = found.openings_left;
            one = found.one;
            element = found.element;
            after = found.after;
            misc_after = found.misc_after;
            is_tree = tree;
            well_named = found.fine.named;
          }),
          counts_limited limit t (record { nodes = omega arith; attributes = found.fine.attributes; namespaces = found.fine.pairs }),
          dtd.3,
        )))))

  -- At the end the text is read.
  finishes : (done : Forest Item) (openings_left : ℕ) → finished src (state (length src) done root openings_left, true) ≡ Ok done
  unfolding finished
  finishes done openings_left = rw (le-ltb (length src) (length src) (omega arith)) refl

  -- What is there from the root element on is read.
  body_complete : (limit : ℕ) (es : List Entity) (i j c : ℕ) (before one behind : Forest Item) → AreTexts es → IsElement true (included_in_main es) src i j 255 c one → Misc src j (length src) behind
      → IsValidState limit (state (length src) (join (join before one) behind) root c)
      → body limit es src (state i before root 255) ≡ Ok (state (length src) (join (join before one) behind) root c, true)
  unfolding body
  body_complete limit es i j c before one behind texts element last fine =
      let context = main_text limit es in
      let agree = steps limit es texts in
      let s = state i before root 255 in
      let u = state j (join before one) root c in
      let chain = root_drives (included_in_main es) src i j 255 c one before element in
      let there : IsValidState limit u = fine_before limit j (length src) c c (join before one) behind root fine in
      let next = drives_back limit es src agree (after s chain.0 chain.2 chain.3 chain.1) u chain.5 there in
      let read = read_tag context (included_in_main es) (values_agree es texts most_deep true) (openers_agree limit es texts most_deep true) src utf8 s chain.0 chain.1 chain.2 chain.3 chain.4 next in
      let driven = drive_complete limit es src agree (length src) (after s chain.0 chain.2 chain.3 chain.1) u chain.5 there (omega arith) in
      let rest = misc_complete src utf8 (length src) limit c j (length src) behind (join before one) last (end_stops src) (omega (arith, fine.nodes)) (omega arith) in
      rw (eq-eqb _ _ (element_stops true (included_in_main es) src i j 255 c one element).0, read, driven, rest) refl

  -- What the limits allow of a parse they allow where its text has been read.
  parse_fine : (limit : ℕ) (dtd : Bool) (asked : List Asked) (t : Forest Item) (p : ParseParts src dtd asked t) → IsWithinLimits limit t
      → IsValidState limit (state (length src) (join (join (join p.before p.nodes) p.one) p.after) root p.openings_left) × (t ≡ join (join (join p.before p.nodes) p.one) p.after)
  parse_fine limit dtd asked t p within = grind (arith, parse_merged src dtd asked t (parsed src dtd asked t p), limits_counted limit t within, join_assoc)

  -- What comes before a document type declaration is read, and one begins after it, if there is one.
  before_read : (limit : ℕ) (dtd : Bool) (asked : List Asked) (t : Forest Item) (p : ParseParts src dtd asked t) → IsWithinLimits limit t
      → (prolog src (after_bom src) ≡ Ok p.prolog.0) × (misc limit (length src) src (state p.prolog.0 Nil root 255) ≡ Ok (state p.begun p.before root 255)) × (at word.DoctypeStart src p.begun ≡ dtd)
  before_read limit dtd asked t p within =
      let stops = element_stops true (included_in_main p.entities) src p.start p.end 255 p.openings_left p.one p.element in
      let fine = (parse_fine limit dtd asked t p within).0 in
      let behind = fine_before limit p.end (length src) p.openings_left p.openings_left (join (join p.before p.nodes) p.one) p.after root fine in
      let element = fine_before limit p.start p.end 255 p.openings_left (join p.before p.nodes) p.one root behind in
      let front = fine_before limit p.begun p.start 255 255 p.before p.nodes root element in (
        prolog_complete src utf8 (after_bom src) p.prolog.0 p.prolog.1,
        misc_complete src utf8 (length src) limit 255 p.prolog.0 p.begun p.before Nil p.prolog.2 (begins_stop src p.begun p.start dtd p.nodes asked p.entities p.doctype stops.2)
            (omega (arith, front.nodes)) (omega arith),
        dtd_begins src p.begun p.start dtd p.nodes asked p.entities p.doctype stops.1,
      )

  -- Whether there is a document type declaration is seen.
  pub doctype_seen : (limit : ℕ) (dtd : Bool) (asked : List Asked) (t : Forest Item) → ParseOf src dtd asked t → IsWithinLimits limit t → has_doctype limit src ≡ dtd
  unfolding has_doctype
  doctype_seen limit dtd asked t p within =
      let b = before_read limit dtd asked t (parts src dtd asked t p) within in
      rw (b.0, b.1) b.2

  module _ (allow : Bool) (doctypes : DoctypesAgree src allow) where
    -- The entities of a parse are text.
    pub parse_texts : (dtd : Bool) (asked : List Asked) (t : Forest Item) (p : ParseOf src dtd asked t) → Permits allow dtd → AreTexts p.entities
    parse_texts dtd asked t whole permits =
        let p = parts src dtd asked t whole in
        doctypes.texts p.begun p.start dtd p.nodes asked p.entities p.doctype permits

    -- A parse within the limits is read, with any replies after the answers.
    pub parse_is_read : (limit : ℕ) (dtd : Bool) (asked : List Asked) (more : List Reply) (t : Forest Item) → ParseOf src dtd asked t → IsWithinLimits limit t → Permits allow dtd
        → reading limit allow (replies_of asked ++ more) src ≡ (asked, Ok t)
    unfolding reading
    parse_is_read limit dtd asked more t read within permits =
        let p = parts src dtd asked t read in
        let b = before_read limit dtd asked t p within in
        let f = parse_fine limit dtd asked t p within in
        let fine = f.0 in
        let stops = element_stops true (included_in_main p.entities) src p.start p.end 255 p.openings_left p.one p.element in
        let behind = fine_before limit p.end (length src) p.openings_left p.openings_left (join (join p.before p.nodes) p.one) p.after root fine in
        let element = fine_before limit p.start p.end 255 p.openings_left (join p.before p.nodes) p.one root behind in
        let declared = doctypes.complete limit p.begun p.start dtd p.before p.nodes asked p.entities more p.doctype stops.2 stops.1 permits element in
        let main = body_complete limit p.entities p.start p.end p.openings_left (join p.before p.nodes) p.one p.after (parse_texts dtd asked t read permits) p.element p.misc_after fine in
        let done = finishes (join (join (join p.before p.nodes) p.one) p.after) p.openings_left in
        rw (b.0, b.1, declared, main, done, (append-nil asked)) (ap (λ (f : Forest Item). (asked, Ok f)) (sym f.1))

    -- What is read is a parse with the document type declaration that is seen.
    pub seen_parse : (limit : ℕ) (replies : List Reply) (asked : List Asked) (t : Forest Item) → AreTextReplies replies → reading limit allow replies src ≡ (asked, Ok t)
        → ParseOf src (has_doctype limit src) asked t × IsWithinLimits limit t × Permits allow (has_doctype limit src)
    seen_parse limit replies asked t texts h =
        let r = read_is_parse allow doctypes limit replies asked t texts h in
        let seen = sym (doctype_seen limit r.0 asked t r.1 r.2) in
        (subst (λ (dtd : Bool). ParseOf src dtd asked t) seen r.1, r.2, subst (Permits allow) seen r.3)

    -- A text that is refused has no parse within the limits whose answers begin with those that were given.
    pub refused_has_none : (limit : ℕ) (replies : List Reply) (asked later : List Asked) (e : Refusal) (dtd : Bool) (t : Forest Item) → reading limit allow replies src ≡ (asked, Err e) → IsTextRefusal e
        → ParseOf src dtd (asked ++ later) t → IsWithinLimits limit t → Permits allow dtd → ⊥
    refused_has_none limit replies asked later e dtd t h of_text p within permits =
        let stops : StopsWith (λ rs. reading limit allow rs src) asked e = subst (SettledWhole (λ rs. reading limit allow rs src)) h (reading_same limit allow src replies) in
        let read = parse_is_read limit dtd (asked ++ later) [] t p within permits in
        let same = ap (λ (rs : List Reply). reading limit allow rs src) (replies_then asked later []) in
        clash e of_text (stops (replies_of later ++ [])) (sym same ∙ read)
      where
        clash : (e : Refusal) → IsTextRefusal e → reading limit allow (replies_of asked ++ with_refusal e (replies_of later ++ [])) src ≡ (asked, Err e)
            → reading limit allow (replies_of asked ++ (replies_of later ++ [])) src ≡ (asked ++ later, Ok t) → ⊥
        clash (here f) of_text h k = err_not_ok (here f) t (ap (λ (x : Asks (Forest Item)). x.1) (sym h ∙ k))
        clash (there source f) of_text h k = err_not_ok (there source f) t (ap (λ (x : Asks (Forest Item)). x.1) (sym h ∙ k))
        clash (refused request at message) of_text h k = absurd of_text

  -- ---- without a document type declaration

  -- Nothing is asked.
  pub asks_nothing_there : (asked : List Asked) (t : Forest Item) → ParseOf src false asked t → asked ≡ []
  asks_nothing_there asked t whole = grind arith

  -- What is read where none is allowed is a parse.
  pub plain_parse : (limit : ℕ) (asked : List Asked) (t : Forest Item) → reading limit false [] src ≡ (asked, Ok t) → (asked ≡ []) × ParseOf src false [] t × IsWithinLimits limit t
  plain_parse limit asked t h = from_parse (read_is_parse false (none_agree src) limit [] asked t tt h)
    where
      from_parse : (dtd : Bool) × ParseOf src dtd asked t × IsWithinLimits limit t × Permits false dtd → (asked ≡ []) × ParseOf src false [] t × IsWithinLimits limit t
      from_parse (true, p, within, permits) = absurd (false≢true (permits refl))
      from_parse (false, p, within, permits) = let none = asks_nothing_there asked t p in (none, subst (λ (a : List Asked). ParseOf src false a t) none p, within)

  -- And such a parse within the limits is read.
  pub plain_read : (limit : ℕ) (asked : List Asked) (t : Forest Item) → ParseOf src false asked t → IsWithinLimits limit t → reading limit false [] src ≡ ([], Ok t)
  plain_read limit asked t p within =
      let p' : ParseOf src false [] t = subst (λ (a : List Asked). ParseOf src false a t) (asks_nothing_there asked t p) p in
      parse_is_read false (none_agree src) limit false [] [] t p' within (λ no. absurd (false≢true no))

  -- A text that is refused has none.
  pub plain_refused : (limit : ℕ) (asked asked' : List Asked) (e : Refusal) (t : Forest Item) → reading limit false [] src ≡ (asked, Err e) → ParseOf src false asked' t → IsWithinLimits limit t → ⊥
  plain_refused limit asked asked' e t h p within = grind (arith, plain_read limit asked' t p within)
