-- The fault of a whole text.
use Rattle.std.proofs.Common.{◌≡◌, ◌≢◌, ℕ, zero, suc, ◌+◌, ◌<◌, ◌≤◌, max, ◌==◌, ◌||◌, Bool, true, false, nat_le, nat_lt, List, [], ◌∷◌, length, drop, refl, sym, ap, ◌∙◌, subst, arith, inl, inr, true≢false, chars, IsUtf8, IsCharBoundary}
use Rattle.std.specs.Prelude.{Result, Ok, Err}
use Rattle.std.proofs.lemmas.Str.{IsUtf8-drop, chars-encodes}
use Rattle.std.proofs.lemmas.Bool.{eqb-true, eqb-false, leb-false, ltb-true, ltb-false, false_from_ne_true}
use Rattle.rox_grammar.specs.declared.fault.Fault.{Fault}
use Rattle.rox_grammar.specs.declared.fault.Word.{Word}
use Rattle.rox_grammar.specs.declared.fault.Word.TheVariants as word
use Rattle.rox_grammar.specs.declared.fault.Expected.TheVariants as expected
use Rattle.rox_grammar.specs.declared.fault.Fault.TheVariants as fault
use Rattle.rox_grammar.specs.Chars.{is_space}
use Rattle.rox_grammar.specs.Runs.{run_end, passing}
use Rattle.rox_grammar.specs.FixedTexts.{word_text, at}
use Rattle.rox_grammar.specs.Search.{stands, byte_from}
use Rattle.rox_grammar.specs.Forest.{Forest, Nil, join}
use Rattle.rox_grammar.specs.Written.{Item, Comment, PI, leaf}
use Rattle.rox_grammar.specs.Tree.{scope_in}
use Rattle.rox_grammar.specs.Names.{byte, spaces_end}
use Rattle.rox_grammar.specs.Constructs.{IsEq, PairAt, DeclarationTo, version, encoding, standalone}
use Rattle.rox_grammar.specs.Content.{IsMisc, Inclusion, IsElement}
use Rattle.rox_grammar.specs.WellNamed.{AreWellNamed}
use Rattle.rox_grammar.specs.TextStart.{after_bom}
use Rattle.rox_grammar.specs.Entities.{Entity, no_entities, most_deep, included_in_main}
use Rattle.rox_grammar.specs.Doctype.{Asked}
use Rattle.rox_grammar.specs.Document.{DocumentTo, Misc, no_misc, space, an_item, PrologTo}
use Rattle.rox_grammar.specs.State.{root, nodes_so_far, FitsLimits}
use Rattle.rox_reading.specs.Refusals.{Refusal, here, there, refused, lifted}
use Rattle.rox_reading.specs.State.{State}
use Rattle.rox_grammar.specs.Due.{a_byte, a_qname, a_text, chars_to, IsMissing, DueInPair, its_name, equals, opening, its_value, closing, value_end, DueInXmlDecl, its_version, in_pair, behind_pair, behind_standalone, Misses}
use Rattle.rox_faults.proofs.DueForms.{a_quote, a_space, no_space}
use Rattle.rox_grammar.specs.Due as dues
use Rattle.rox_grammar.specs.ContentPoints.{is_main, begins, of_root}
use Rattle.rox_grammar.specs.Faults.{InMisc, no_root, unknown_ahead, unknown_behind, in_one, misc_around, one_too_many}
use Rattle.rox_grammar.specs.FaultsWithDoctype.{FaultOf, without, in_declaration, not_allowed}
use Rattle.rox_reading.specs.Lexical.{byte_at, quote_at, qname_at, chars_up_to}
use Rattle.rox_reading.specs.Markup.{comment_at, instruction_at, pair_at, gap_at, pair_if, xml_decl_at}
use Rattle.rox_reading.specs.Machine.{value_opener, opener, with_item, comment_step, instruction_step, tag_step, main_text, drive}
use Rattle.rox_reading.specs.Doctype.{Reply, Asks, asks_nothing, ◌>>>◌, Dtd}
use Rattle.rox_reading.specs.WholeText.{misc, body, finished, prolog, reading}
use Rattle.rox_reading.specs.WholeText as whole
use Rattle.rox_reading.proofs.Forests.{join-nil, join_assoc, named-join}
use Rattle.rox_theory.proofs.Basics.{ok_same, bind_ok, bind_lifted, bind_lifted_only, chosen, within, byte_sound, chars_sound, run_end_le}
use Rattle.rox_theory.proofs.NameLemmas.{chars_here, qname_sound}
use Rattle.rox_faults.proofs.NameSpans.{run_cut, cut_behind}
use Rattle.rox_theory.proofs.LiteralLemmas.{from_le, quote_sound, quote_ascii}
use Rattle.rox_theory.proofs.DeclarationLemmas.{pair_sound, pair_if_sound, pair_if_ends, last_at}
use Rattle.rox_theory.proofs.Places.{over_spaces, space_within}
use Rattle.rox_theory.proofs.Constructions.{comment_bytes, instruction_bytes}
use Rattle.rox_theory.proofs.Standing.{IsValidState}
use Rattle.rox_theory.specs.ValidState.{state}
use Rattle.rox_theory.specs.Openers.{AreTexts, AgreesValue, AgreesContent}
use Rattle.rox_theory.proofs.Leaves.{fine_there, item_read}
use Rattle.rox_theory.proofs.MarkupLemmas as markup
use Rattle.rox_theory.proofs.Openers.{values_agree}
use Rattle.rox_theory.proofs.ContentOpeners.{steps_agree, openers_agree}
use Rattle.rox_theory.proofs.StepLemmas as steps
use Rattle.rox_theory.proofs.Chains.{Drives, drive_sound}
use Rattle.rox_theory.proofs.Derivations.{root_element}
use Rattle.rox_theory.proofs.Following.{element_without}
use Rattle.rox_theory.proofs.Around.{ends_cut, misc_ends, element_ends, bom_cut, comment_is, instruction_is, misc_plain, misc_sound, prolog_sound, prolog_cut}
use Rattle.rox_theory.proofs.FailedReadings.{bind_err, lifted_err, lifted_only, IsHere, no_fault, fails_in, chars_fails, byte_fails, string_fails, qname_fails}
use Rattle.rox_faults.proofs.FaultRows.{comment_fails, instruction_fails}
use Rattle.rox_faults.proofs.FaultTags.{quote_fails, value_cut}
use Rattle.rox_theory.proofs.NoEntities.{no_values, no_contents}
use Rattle.rox_theory.proofs.ParseParts.{document_made}
use Rattle.rox_faults.proofs.FaultPoints.{Refuses, refuses_here, From, fine_fits}
use Rattle.rox_faults.proofs.FaultPlaces.{Here, tag_fails, tag_taken, tagged_takes, tag_goes, takes_cut, takes_opened, drive_fails}
use Rattle.rox_grammar.specs.Document as document
use Rattle.rox_grammar.specs.Content as content
use Rattle.rox_grammar.proofs.AtPlace.{space_ascii}

-- After white space stands none.
pub no_more_space : (src : List ℕ) (i : ℕ) → IsUtf8 src → IsCharBoundary src i → is_space (byte src (spaces_end src i)) ≡ false
unfolding run_end
no_more_space src i utf8 cut =
    false_from_ne_true _ (λ space.
    let k = spaces_end src i in
    let inside : k < length src = within src k (λ z. let e : is_space 0 ≡ true = rw z at space in cc e) in
    let spelled = IsUtf8-drop src i utf8 cut in
    let all : chars (drop i src) ≡ spelled.0 = ap chars (sym spelled.1.1) ∙ chars-encodes spelled.0 spelled.1.0 in
    let same : i + passing is_space spelled.0 ≡ k = ap (λ (cs : List ℕ). i + passing is_space cs) (sym all) in
    let found = fails_in is_space src spelled.0 i (sym spelled.1.1) spelled.1.0 (omega arith) in
    let there : chars (drop k src) ≡ found.0 ∷ found.1 = ap (λ (m : ℕ). chars (drop m src)) (sym same) ∙ ap chars found.2 ∙ chars-encodes (found.0 ∷ found.1) found.4 in
    let both : byte src k ∷ chars (drop (k + 1) src) ≡ found.0 ∷ found.1 = sym (chars_here src k inside (space_ascii (byte src k) space)) ∙ there in
    let first : byte src k ≡ found.0 = cc in
    cc (sym space ∙ (ap is_space first ∙ found.3)))

module _ (src : List ℕ) (utf8 : IsUtf8 src) where
  -- ---- the declaration

  -- A pair.
  pair_fails : (i : ℕ) (f : Fault) → pair_at src i ≡ Err f → Misses src (DueInPair src i) f
  unfolding pair_at
  pair_fails i f h =
      bind_err (qname_at src i) _ f h (λ bad. (i, a_qname, its_name, qname_fails src i f bad))
      (λ name named h.
      let is_name = qname_sound src i name named in
      bind_err (byte_at 61 src (spaces_end src name.1)) _ f h
      (λ bad. (spaces_end src name.1, a_byte 61, equals name.0 name.1 is_name, byte_fails 61 src (spaces_end src name.1) f bad))
      (λ s equals' h.
      let eq' = byte_sound 61 src (spaces_end src name.1) s equals' in
      let v = spaces_end src s.1 in
      let eq : IsEq src name.1 v = (eq'.0, ap (spaces_end src) eq'.1) in
      bind_err (quote_at src v) _ f h
      (λ bad. (v, a_quote, opening name.0 name.1 v is_name eq, quote_fails src v f bad))
      (λ q quoted h.
      let quote = quote_sound src v q quoted in
      let ascii = quote_ascii (byte src v) quote.0 in
      let inside : v < length src = within src v (λ z. omega arith) in
      let q0 : q.0 ≡ byte src v = quote.1 in
      let q1 : q.1 ≡ v + 1 = quote.2 in
      let e = value_end src v in
      let le = from_le (λ c. c == byte src v || c == 60) src (v + 1) in
      let cut' : IsCharBoundary src (v + 1) = cut_behind src v (byte src v) utf8 refl (omega arith) (omega arith) in
      bind_err (chars_up_to (byte_from (λ c. c == q.0 || c == 60) src q.1) src q.1) _ f h
      (λ bad. let bad' = rw (q0, q1) at bad in
      (v + 1, chars_to e, its_value name.0 name.1 v is_name eq quote.0, chars_fails src (v + 1) e f utf8 cut' (value_cut src utf8 v inside quote.0) le bad'))
      (λ text read h.
      let sound = chars_sound e src (v + 1) text utf8 le (rw (q0, q1) at read) in
      let bad' = rw (q0, sound.2) at h in
      (e, a_byte (byte src v), closing name.0 name.1 v is_name eq quote.0 (inr sound.0), byte_fails (byte src v) src e f bad')))))

  -- The white space after it.
  gap_fails : (i : ℕ) (f : Fault) → gap_at src i ≡ Err f → (i < length src) × (stands (word_text word.PIEnd) src i ≡ false) × IsMissing src i a_space f
  unfolding gap_at
  gap_fails i f h = grind (arith, no_space)

  -- What is required in the declaration.
  abbrev pub Declares : ℕ → Fault → Type 0
  Declares i f = Misses src (DueInXmlDecl src i) f

  -- A pair and its gap.
  pair_if_fails : (w : Word) (i p : ℕ) (f : Fault) → DeclarationTo src i (word_text w) p → word_text w ≢ word_text word.Standalone → pair_if w src p ≡ Err f → Declares i f
  unfolding pair_if
  pair_if_fails w i p f to other h =
      chosen (stands (word_text w) src p) _ _ _ h
      (λ here h. bind_err (pair_at src p) _ f h
      (λ bad. let x = pair_fails p f bad in (x.0, x.1, in_pair (word_text w) p x.0 x.1 to here x.2, x.3))
      (λ x read bad.
      let there = pair_sound src utf8 p x read in
      let lack = gap_fails x.1 f bad in
      let pair : PairAt src p = record { name = there.0; name_end = there.1; first_quote = there.2; last_quote = there.3; end = x.1; is_written = there.4 } in
      (x.1, a_space, behind_pair (word_text w) p pair to here other lack.0 lack.1, lack.2)))
      (λ none h. cc)

  -- The declaration.
  pub declaration_fails : (i : ℕ) (f : Fault) → xml_decl_at src i ≡ Err f → Declares i f
  unfolding xml_decl_at
  declaration_fails i f h =
      let p = spaces_end src (i + 5) in
      chosen (stands (word_text word.Version) src p) _ _ _ h
      (λ here h. bind_err (pair_if word.Version src p) _ f h (λ bad. pair_if_fails word.Version i p f (version here) (λ z. cc z) bad)
      (λ v read h.
      let first_pair = pair_if_sound word.Version src utf8 p v read in
      let to_encoding = encoding p v.1 (version here) first_pair in
      bind_err (pair_if word.Encoding src v.1) _ f h (λ bad. pair_if_fails word.Encoding i v.1 f to_encoding (λ z. cc z) bad)
      (λ e read' h.
      let second = pair_if_sound word.Encoding src utf8 v.1 e read' in
      let to_standalone = standalone v.1 e.1 to_encoding second in
      bind_err (last_at src e.1) _ f h
      (λ bad. chosen (stands (word_text word.Standalone) src e.1) _ _ _ bad
      (λ there bad. let x = pair_fails e.1 f bad in (x.0, x.1, in_pair (word_text word.Standalone) e.1 x.0 x.1 to_standalone there x.2, x.3))
      (λ none bad. cc))
      (λ s read'' h.
      let bad = string_fails expected.PIEnd src (spaces_end src s.1) f h in
      chosen (stands (word_text word.Standalone) src e.1) _ _ _ read''
      (λ there read''.
      let last = pair_sound src utf8 e.1 s read'' in
      let pair : PairAt src e.1 = record { name = last.0; name_end = last.1; first_quote = last.2; last_quote = last.3; end = s.1; is_written = last.4 } in
      (spaces_end src s.1, a_text expected.PIEnd, behind_standalone e.1 pair to_standalone there, bad))
      (λ none same.
      let behind_first = pair_if_ends word.Version src p v.1 utf8 (λ none. absurd (true≢false (sym here ∙ none))) first_pair in
      let behind_second = pair_if_ends word.Encoding src v.1 e.1 utf8 (λ none. behind_first) second in
      let is : spaces_end src s.1 ≡ e.1 = ap (λ (x : Unit {0} × ℕ). spaces_end src x.1) (sym (ok_same (tt, e.1) s same)) ∙ behind_second in
      (e.1, a_text expected.PIEnd, dues.DueInXmlDecl.its_end e.1 to_standalone none, subst (λ (k : ℕ). IsMissing src k (a_text expected.PIEnd) f) is bad))))))
      (λ none h.
      let is : fault.InvalidString expected.Version p ≡ f = cc in
      (p, a_text expected.Version, its_version, subst (IsMissing src p (a_text expected.Version)) is (dues.IsMissing.other_text expected.Version none)))

  -- ---- comments and processing instructions

  -- One row of them after another.
  pub misc_append : (i j k : ℕ) (xs ys : Forest Item) → Misc src i j xs → Misc src j k ys → Misc src i k (join xs ys)
  misc_append i j k xs ys (no_misc _) n = n
  misc_append i j k xs ys (space _ _ _ is rest) n = space i k (join xs ys) is (misc_append (i + 1) j k xs ys rest n)
  misc_append i j k xs ys (an_item _ l _ item items is rest) n = an_item i l k item (join items ys) is (misc_append l j k items ys rest n)

  -- White space.
  pub misc_spaces : (i : ℕ) → IsCharBoundary src i → Misc src i (spaces_end src i) Nil
  misc_spaces i cut' = (over_spaces src (λ (m : ℕ). Misc src m (spaces_end src i) Nil) i utf8 cut' (λ m is rest. space m (spaces_end src i) Nil is rest)).1 (no_misc (spaces_end src i))

  -- Nothing of them is here, and a character begins.
  abbrev pub StopsAt : ℕ → Type 0
  StopsAt k = (is_space (byte src k) ≡ false) × (at word.CommentStart src k ≡ false) × (at word.PIStart src k ≡ false) × IsCharBoundary src k

  -- So it is where they stop.
  pub misc_stops : (n limit b i : ℕ) (done : Forest Item) (u : State) → IsCharBoundary src i → length src ≤ i + n → misc limit n src (state i done root b) ≡ Ok u → StopsAt u.at
  unfolding misc comment_step instruction_step
  misc_stops zero limit b i done u cut' enough h = grind (arith, space_within, comment_bytes, instruction_bytes)
  misc_stops (suc n) limit b i done u cut' enough h =
      let k = spaces_end src i in
      let le = run_end_le is_space src i in
      let go : (j : ℕ) (item : Item) (t : State) → k < j → IsMisc src k j item → with_item limit (state k done root b) j item ≡ Ok t → misc limit n src t ≡ Ok u → StopsAt u.at =
      λ j item t moves is read h. chosen (nat_le (nodes_so_far root (join done (leaf item))) limit) _ _ _ read
      (λ fits read. misc_stops n limit b j (join done (leaf item)) u (ends_cut src j utf8 (misc_ends src k j item is)) (omega arith) (subst (λ (t : State). misc limit n src t ≡ Ok u) (sym (ok_same _ _ read)) h))
      (λ many read. cc)
      in
      chosen (at word.CommentStart src k) _ _ _ h
      (λ is h. bind_ok (comment_step limit src (state k done root b)) _ _ h (λ t one h. bind_ok (comment_at src k) _ _ one (λ x read one.
      go x.1 (Comment k x.1 x.0) t (markup.comment_sound src utf8 k x.1 x.0 is read).3 (comment_is src utf8 k x.1 x.0 is read) one h)))
      (λ none h. chosen (at word.PIStart src k) _ _ _ h
      (λ is h. bind_ok (instruction_step limit src (state k done root b)) _ _ h (λ t one h. bind_ok (instruction_at src k) _ _ one (λ x read one.
      go x.1 (PI k x.1 x.0.target x.0.value) t (markup.instruction_sound src utf8 k x.1 x.0 is read).4 (instruction_is src utf8 k x.1 x.0 is read) one h)))
      (λ neither h. subst (λ (u : State). StopsAt u.at) (ok_same _ _ h) (no_more_space src i utf8 cut', none, neither, run_cut is_space src i utf8 cut')))

  module _ (limit most : ℕ) (less : limit ≤ most) (least : most ≤ max limit 1) (f : Fault) (Point : ℕ → Forest Item → Type 0)
      (on : (p q : ℕ) (done items : Forest Item) → Point p done → Misc src p q items → Point q (join done items))
      (Q : Type 0)
      (ill : (p : ℕ) (items : Forest Item) → Point p items → FitsLimits limit root items → InMisc src p f → Q)
      (over : (p j : ℕ) (items : Forest Item) (item : Item) → Point p items → FitsLimits limit root items → IsMisc src p j item → limit < nodes_so_far root (join items (leaf item)) → fault.NodesLimitReached ≡ f → Q) where
    -- They fail at a point.
    pub misc_fails : (n b i : ℕ) (done : Forest Item) → Point i done → IsValidState most (state i done root b) → IsCharBoundary src i → misc limit n src (state i done root b) ≡ Err f → Q
    unfolding misc comment_step instruction_step
    misc_fails zero b i done point fine cut' h = no_fault _ f h
    misc_fails (suc n) b i done point fine cut' h =
        let k = spaces_end src i in
        let here' : Point k done = subst (λ (d : Forest Item). Point k d) (join-nil done) (on i k done Nil point (misc_spaces i cut')) in
        let fine' = fine_there most (state i done root b) (state k done root b) refl refl fine in
        let fits = fine_fits limit most (state i done root b) least fine in
        let next : (j : ℕ) (item : Item) → IsMisc src k j item → Point j (join done (leaf item)) = λ j item is. on k j done (leaf item) here' (an_item k j j item Nil is (no_misc j)) in
        let many : (j : ℕ) (item : Item) → IsMisc src k j item → with_item limit (state k done root b) j item ≡ Err f → Q =
        λ j item is bad. chosen (nat_le (nodes_so_far root (join done (leaf item))) limit) _ _ _ bad (λ fewer bad. no_fault _ f bad) (λ many bad. over k j done item here' fits is (leb-false _ _ many) cc)
        in
        let go : (j : ℕ) (item : Item) (u : State) → IsMisc src k j item → with_item limit (state k done root b) j item ≡ Ok u → misc limit n src u ≡ Err f → Q =
        λ j item u is read h.
        let p = misc_plain src utf8 k j item is in
        let both = item_read limit most (state k done root b) u j item less p.0 p.1 (p.2 (scope_in [] item)) fine' read in
        misc_fails n b j (join done (leaf item)) (next j item is) (subst (IsValidState most) both.0 both.1) (ends_cut src j utf8 (misc_ends src k j item is)) (subst (λ (u : State). misc limit n src u ≡ Err f) both.0 h)
        in
        chosen (at word.CommentStart src k) _ _ _ h
        (λ is h. bind_err (comment_step limit src (state k done root b)) _ f h
        (λ bad. bind_err (comment_at src k) _ f bad (λ bad. ill k done here' fits (comment_fails src utf8 k f is bad))
        (λ x read bad. many x.1 (Comment k x.1 x.0) (comment_is src utf8 k x.1 x.0 is read) bad))
        (λ u one h. bind_ok (comment_at src k) _ _ one (λ x read one. go x.1 (Comment k x.1 x.0) u (comment_is src utf8 k x.1 x.0 is read) one h)))
        (λ none h. chosen (at word.PIStart src k) _ _ _ h
        (λ is h. bind_err (instruction_step limit src (state k done root b)) _ f h
        (λ bad. bind_err (instruction_at src k) _ f bad (λ bad. ill k done here' fits (instruction_fails src utf8 k f is bad))
        (λ x read bad. many x.1 (PI k x.1 x.0.target x.0.value) (instruction_is src utf8 k x.1 x.0 is read) bad))
        (λ u one h. bind_ok (instruction_at src k) _ _ one (λ x read one. go x.1 (PI k x.1 x.0.target x.0.value) u (instruction_is src utf8 k x.1 x.0 is read) one h)))
        (λ neither h. no_fault _ f h))

  -- Before the root element.
  pub ahead_on : (p q : ℕ) (done items : Forest Item) → PrologTo src p done → Misc src p q items → PrologTo src q (join done items)
  ahead_on p q done items point more = (point.0, point.1, misc_append point.0 p q done items point.2 more)

  -- ---- the root element, and what is around it

  module _ (opens : ℕ → Inclusion) (es : List Entity) (limit most : ℕ) (declared : Bool) (PrologAt : ℕ → Forest Item → Type 0) (less : limit ≤ most) (least : most ≤ max limit 1)
      (values : (d k : ℕ) → d + k ≡ most_deep → AgreesValue es (opens k) (value_opener es d (is_main k))) (contents : (d k : ℕ) → d + k ≡ most_deep → AgreesContent es limit (opens k) (opener limit es d (is_main k)))
      (texts : AreTexts es) (elements : (i j openings_left : ℕ) (one : Forest Item) → IsElement true (included_in_main es) src i j 255 openings_left one → (openings_left' : ℕ) × IsElement true (opens 0) src i j 255 openings_left' one) where
    -- A fault from there on.
    abbrev P : List ℕ → Fault → Type 0
    P source f = From opens es limit src declared PrologAt source f

    fits_here : (s : State) → IsValidState most s → FitsLimits limit s.stack s.done
    fits_here s fine = fine_fits limit most s least fine

    -- What is read from the tag of the root element on.
    root_read : (i : ℕ) (before : Forest Item) (t u : State) → byte src i ≡ 60 → IsValidState most (state i before root 255) → tag_step (main_text limit es) src (state i before root 255) ≡ Ok t
        → drive (main_text limit es) (length src) src t ≡ Ok u → (openings_left : ℕ) × (one : Forest Item) × IsElement true (opens 0) src i u.at 255 openings_left one × (u ≡ state u.at (join before one) root u.openings_left) × IsValidState most u
    root_read i before t u opens' fine read driven =
        let values' = values_agree es texts most_deep true in
        let contents' = openers_agree limit es texts most_deep true in
        let (tagged, fine') = steps.tag_read (main_text limit es) (included_in_main es) values' contents' src utf8 most (state i before root 255) t less opens' fine read in
        let (j, c, tag, empty, is, leads) = tagged in
        let chain = drive_sound limit es src (steps_agree (main_text limit es) (included_in_main es) values' contents' src utf8) (length src) most t u less fine' driven in
        let e = root_element (included_in_main es) src i j 255 c before tag empty u is (subst (λ (t : State). Drives (included_in_main es) src t u) leads chain.0) in
        let same = elements i u.at u.openings_left e.0 e.1 in
        (same.0, e.0, same.1, e.2, chain.1)

    -- Comments and processing instructions have no names in namespaces.
    misc_named : (i j : ℕ) (items : Forest Item) → Misc src i j items → AreWellNamed [] items
    misc_named i j items (document.Misc.no_misc _) = tt
    misc_named i j items (document.Misc.space _ _ _ white rest) = misc_named (i + 1) j items rest
    misc_named i j items (document.Misc.an_item _ k _ _ more (content.IsMisc.comment _ e _ is) rest) = (tt, tt, misc_named k j more rest)
    misc_named i j items (document.Misc.an_item _ k _ _ more (content.IsMisc.instruction _ n e _ is) rest) = (tt, tt, misc_named k j more rest)

    -- After the root element.
    pub behind_on : (p q : ℕ) (done items : Forest Item) → DocumentTo (opens 0) src PrologAt p done → Misc src p q items → DocumentTo (opens 0) src PrologAt q (join done items)
    behind_on p q done items is more = grind (arith, document_made, named-join, misc_named, misc_append, join_assoc)

    -- Right after it.
    behind_root : (i openings_left : ℕ) (before one : Forest Item) (u : State) → PrologAt i before → IsElement true (opens 0) src i u.at 255 openings_left one → u ≡ state u.at (join before one) root u.openings_left → IsValidState most u
        → DocumentTo (opens 0) src PrologAt u.at (join before one)
    behind_root i openings_left before one u ahead element is fine =
        let named : AreWellNamed [] (join before one) = (subst (IsValidState most) is fine).named in
        document_made (record { start = i; before = before; ahead = ahead; end = u.at; openings_left = openings_left; one = one; element = element; well_named = named; after = Nil; misc = no_misc u.at; all = sym (join-nil (join before one)) })

    -- The root element and what follows it.
    pub body_fails : (i : ℕ) (before : Forest Item) (e : Refusal) → IsCharBoundary src i → IsValidState most (state i before root 255) → PrologAt i before → at word.CommentStart src i ≡ false → at word.PIStart src i ≡ false
        → (declared ≡ false → at word.DoctypeStart src i ≡ false) → body limit es src (state i before root 255) ≡ Err e → Refuses es P src e
    unfolding body
    body_fails i before e cut' fine ahead no_comment no_instruction no_doctype h =
        let s = state i before root 255 in
        chosen (byte src i == 60) _ _ _ h
        (λ is h.
        let opens' : byte src i ≡ 60 = eqb-true _ _ is in
        let place : Here opens es limit src declared PrologAt most less least values contents texts 0 0 src s = begins i before (ahead, (opens', no_comment, no_instruction, no_doctype)) in
        bind_err (tag_step (main_text limit es) src s) _ e h
        (λ bad. tag_fails opens es limit src declared PrologAt most less least values contents texts most_deep 0 0 refl src utf8 s e (of_root opens') opens' fine place bad)
        (λ t read h.
        let tag = tag_taken opens es limit src declared PrologAt most less least values contents texts most_deep 0 0 refl src utf8 s t opens' fine read in
        let takes = tagged_takes true (opens 0) src 0 s t tag.0 in
        bind_err (drive (main_text limit es) (length src) src t) _ e h
        (λ bad. drive_fails opens es limit src declared PrologAt most less least values contents texts utf8 (length src) t e
        (λ inner. tag_goes opens es limit src declared PrologAt most less least values contents texts utf8 s t place tag.0 tag.1 inner) tag.1
        (takes_cut true (opens 0) src 0 utf8 s t takes)
        (takes_opened true (opens 0) src 0 s t takes tt) (omega arith) bad)
        (λ u driven h.
        let root' = root_read i before t u opens' fine read driven in
        let one = root'.1 in
        let u_is = root'.3 in
        let behind = behind_root i root'.0 before one u ahead root'.2 u_is root'.4 in
        lifted_err (misc limit (length src) src u) _ e h
        (λ f bad same.
        refuses_here es P src f e same
        (misc_fails limit most less least f (DocumentTo (opens 0) src PrologAt) behind_on (P src f) (λ p items point fits ill. misc_around p items _ (inr point) fits (in_one f ill))
        (λ p j items item point fits item_is many is. subst (P src) is (misc_around p items _ (inr point) fits (one_too_many j item item_is many)))
        (length src) u.openings_left u.at (join before one) behind (subst (IsValidState most) u_is root'.4) (ends_cut src u.at utf8 (element_ends true (opens 0) src i u.at 255 root'.0 one root'.2))
        (subst (λ (u : State). misc limit (length src) src u ≡ Err f) u_is bad)))
        (λ v rest h. no_fault _ e h))))
        (λ none h. no_fault _ e h)

    -- Nothing may be left.
    pub finished_fails : (i : ℕ) (before : Forest Item) (f : Fault) (x : State × Bool) → IsCharBoundary src i → IsValidState most (state i before root 255) → PrologAt i before → is_space (byte src i) ≡ false
        → body limit es src (state i before root 255) ≡ Ok x → finished src x ≡ Err f → P src f
    unfolding body finished
    finished_fails i before f x cut' fine ahead no_space' h bad =
        let s = state i before root 255 in
        chosen (byte src i == 60) _ _ _ h
        (λ is h.
        bind_ok (tag_step (main_text limit es) src s) _ _ h (λ t read h. bind_ok (drive (main_text limit es) (length src) src t) _ _ h (λ u driven h. bind_lifted (misc limit (length src) src u) _ _ h (λ v rest h.
        let root' = root_read i before t u (eqb-true _ _ is) fine read driven in
        let one = root'.1 in
        let u_is = root'.3 in
        let cut'' = ends_cut src u.at utf8 (element_ends true (opens 0) src i u.at 255 root'.0 one root'.2) in
        let behind = behind_root i root'.0 before one u ahead root'.2 u_is root'.4 in
        let rest' = subst (λ (u : State). misc limit (length src) src u ≡ Ok v) u_is rest in
        let m = misc_sound src utf8 (length src) limit most u.openings_left u.at (join before one) v less cut'' (subst (IsValidState most) u_is root'.4) rest' in
        let there = behind_on u.at v.at (join before one) m.0 behind m.1 in
        let stops = misc_stops (length src) limit u.openings_left u.at (join before one) v cut'' (omega arith) rest' in
        let bad' : finished src (v, true) ≡ Err f = subst (λ (x : State × Bool). finished src x ≡ Err f) (sym (ok_same _ _ h)) bad in
        chosen (nat_lt v.at (length src)) _ _ _ bad'
        (λ more bad. let is : fault.UnknownToken v.at ≡ f = cc in
        subst (P src) is (unknown_behind v.at (join (join before one) m.0) there (fits_here (state v.at (join (join before one) m.0) root u.openings_left) (subst (IsValidState most) m.2 m.3)) (ltb-true _ _ more) stops.0 stops.1 stops.2))
        (λ all bad. no_fault _ f bad)))))
        (λ none h.
        let bad' : finished src (s, false) ≡ Err f = subst (λ (x : State × Bool). finished src x ≡ Err f) (sym (ok_same _ _ h)) bad in
        chosen (nat_lt i (length src)) _ _ _ bad'
        (λ more bad. let is : fault.UnknownToken i ≡ f = cc in subst (P src) is (unknown_ahead i before ahead (fits_here s fine) (ltb-true _ _ more) no_space' (eqb-false _ _ none)))
        (λ all bad.
        let is : fault.NoRootNode ≡ f = cc in
        subst (P src) is (no_root before (subst (λ (p : ℕ). PrologAt p before) (omega (arith, ltb-false _ _ all, cut'.0)) ahead) (fits_here s fine))))

  -- ---- the whole

  -- No entity is text.
  pub no_texts : AreTexts []
  no_texts name t found = cc found

  -- What is opened where none is declared.
  pub plain_values : (d k : ℕ) → d + k ≡ most_deep → AgreesValue [] no_entities (value_opener [] d (is_main k))
  plain_values d k deep = no_values (value_opener [] d (is_main k))

  pub plain_contents : (limit d k : ℕ) → d + k ≡ most_deep → AgreesContent [] limit no_entities (opener limit [] d (is_main k))
  plain_contents limit d k deep = no_contents limit (opener limit [] d (is_main k))

  pub plain_elements : (i j openings_left : ℕ) (one : Forest Item) → IsElement true (included_in_main []) src i j 255 openings_left one → (openings_left' : ℕ) × IsElement true no_entities src i j 255 openings_left' one
  plain_elements i j openings_left one element = element_without src i j 255 openings_left one element

  -- So that a fault is in the text itself.
  plain_here : (limit : ℕ) (e : Refusal) → Refuses [] (From (λ k. no_entities) [] limit src false (PrologTo src)) src e → IsHere (FaultOf limit src) e
  plain_here limit (here f) ill = (f, refl, without f ill)
  plain_here limit (there source f) ill = let none = ill.1.2 in cc none
  plain_here limit (refused request p message) ill = absurd ill

  -- Where something is asked first, it fails, or gives a value with which the rest fails.
  asks_err : {A B P : Type 0} (r : Asks A) (g : A → Asks B) (e : Refusal) → (r >>> g).1 ≡ Err e → (r.1 ≡ Err e → P) → ((x : A) → r.1 ≡ Ok x → (g x).1 ≡ Err e → P) → P
  asks_err r g e h now later = grind arith

  -- A document type declaration that is not allowed: row 17.
  doctype_fails : (limit : ℕ) (d : Dtd) (e : Refusal) → (whole.doctype limit false src d).1 ≡ Err e → (at word.DoctypeStart src d.state.at ≡ true) × (here fault.DtdDetected ≡ e)
  unfolding whole.doctype
  doctype_fails limit d e h = grind arith

  -- Where there is none reading continues.
  pub doctype_none : (limit : ℕ) (d c : Dtd) → (whole.doctype limit false src d).1 ≡ Ok c → (at word.DoctypeStart src d.state.at ≡ false) × (d ≡ c)
  unfolding whole.doctype
  doctype_none limit d c h = grind arith

  -- A whole text.
  pub reading_fails : (limit : ℕ) (replies : List Reply) (e : Refusal) → (reading limit false replies src).1 ≡ Err e → IsHere (FaultOf limit src) e
  unfolding reading prolog
  reading_fails limit replies e h =
      let most = max limit 1 in
      let less : limit ≤ most = omega arith in
      let least : most ≤ max limit 1 = omega arith in
      let b = after_bom src in
      asks_err (asks_nothing (lifted (prolog src b))) _ e h
      (λ bad. lifted_only (prolog src b) e bad (λ f bad same. (
        f,
        same,
        chosen (at word.XmlDeclStart src b) _ _ _ bad
            (λ is bad. bind_err (xml_decl_at src b) _ f bad (λ bad. let w = declaration_fails b f bad in in_declaration f is w) (λ x read bad. no_fault _ f bad))
            (λ none bad. no_fault _ f bad),
      )))
      (λ i declared h.
      let may = prolog_sound src utf8 b i (lifted_ok declared) in
      let cut' = prolog_cut src utf8 b i (bom_cut src utf8) may in
      let first = state i Nil root 255 in
      let start : IsValidState most first = record { nodes = omega arith; attributes = omega arith; pairs = omega arith; named = tt } in
      let ahead : PrologTo src i Nil = (i, may, no_misc i) in
      asks_err (asks_nothing (lifted (misc limit (length src) src first))) _ e h
      (λ bad. lifted_only (misc limit (length src) src first) e bad (λ f bad same. (
        f,
        same,
        misc_fails limit most less least f (PrologTo src) ahead_on (FaultOf limit src f) (λ p items point fits ill. without f (misc_around p items _ (inl point) fits (in_one f ill)))
            (λ p j items item point fits item_is many is. subst (FaultOf limit src) is (without fault.NodesLimitReached (misc_around p items _ (inl point) fits (one_too_many j item item_is many)))) (length src) 255 i Nil ahead start cut' bad,
      )))
      (λ s read h.
      let begun = lifted_ok read in
      let m = misc_sound src utf8 (length src) limit most 255 i Nil s less cut' start begun in
      let s_is : s ≡ state s.at m.0 root 255 = m.2 in
      let there : PrologTo src s.at m.0 = ahead_on i s.at Nil m.0 ahead m.1 in
      let stops = misc_stops (length src) limit 255 i Nil s cut' (omega arith) begun in
      let cut'' : IsCharBoundary src s.at = stops.3 in
      let fine = subst (IsValidState most) s_is m.3 in
      let before : Dtd = record { state = s; entities = []; replies = replies } in
      asks_err (whole.doctype limit false src before) _ e h
      (λ bad. let is = doctype_fails limit before e bad in (fault.DtdDetected, is.1, not_allowed s.at m.0 refl there (fine_fits limit most (state s.at m.0 root 255) least fine) is.0))
      (λ d passed h.
      let none = doctype_none limit before d passed in
      let h' : (asks_nothing (body limit [] src s) >>> λ x. asks_nothing (lifted (finished src x))).1 ≡ Err e =
      subst (λ (d : Dtd). (asks_nothing (body limit d.entities src d.state) >>> λ x. asks_nothing (lifted (finished src x))).1 ≡ Err e) (sym none.1) h in
      asks_err (asks_nothing (body limit [] src s)) _ e h'
      (λ bad. plain_here limit e (body_fails (λ k. no_entities) [] limit most false (PrologTo src) less least plain_values (plain_contents limit) no_texts plain_elements s.at m.0 e cut'' fine there stops.1 stops.2 (λ z. none.0) (subst (λ (s : State). body limit [] src s ≡ Err e) s_is bad)))
      (λ x main bad. lifted_only (finished src x) e bad (λ f bad same.
      (f, same, without f (finished_fails (λ k. no_entities) [] limit most false (PrologTo src) less least plain_values (plain_contents limit) no_texts plain_elements s.at m.0 f x cut'' fine there stops.0 (subst (λ (s : State). body limit [] src s ≡ Ok x) s_is main) bad)))))))
    where
      -- What opens nothing.
      lifted_ok : {A : Type 0} {r : Result A Fault} {x : A} → lifted r ≡ Ok x → r ≡ Ok x
      lifted_ok {A} {r} {x} h = bind_lifted_only r x h (λ h. h)

-- The fault of a text is where the grammar says.
pub reading_faults : (limit : ℕ) (replies : List Reply) (src : List ℕ) (asked : List Asked) (e : Refusal) → IsUtf8 src → reading limit false replies src ≡ (asked, Err e)
    → (f : Fault) × (here f ≡ e) × FaultOf limit src f
reading_faults limit replies src asked e utf8 h = reading_fails src utf8 limit replies e (ap (λ (x : Asks (Forest Item)). x.1) h)
