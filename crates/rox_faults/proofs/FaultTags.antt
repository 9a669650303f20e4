-- A start tag that fails: which of its rows stands.
use Rattle.std.proofs.Common.{◌≡◌, ◌≢◌, ℕ, zero, suc, ◌+◌, ◌<◌, ◌≤◌, ◌⊎◌, ◌==◌, ◌||◌, Bool, true, false, not, eqb, ltb, leb, List, [], ◌∷◌, ◌++◌, length, refl, sym, ap, ◌∙◌, subst, arith, inl, inr, append_assoc, filter, IsUtf8, IsCharBoundary}
use Rattle.std.specs.Prelude.{Ok, Err, bytes_eq}
use Rattle.std.specs.List.{list_any}
use Rattle.std.proofs.lemmas.Bool.{eqb-true, eqb-false, leb-false, leb-true, ltb-true, ltb-false, or_parts, not-true, not-false, cond_both, false_from_ne_true}
use Rattle.std.proofs.lemmas.Slice.Eq.{bytes_eq-Decides}
use Rattle.std.proofs.lemmas.List.{append-nil, map-append}
use Rattle.std.proofs.lemmas.List.Elements.{filter-append}
use Rattle.rox_grammar.specs.declared.fault.Fault.{Fault}
use Rattle.rox_grammar.specs.declared.fault.Word.TheVariants as word
use Rattle.rox_grammar.specs.declared.fault.Due.TheVariants as due
use Rattle.rox_grammar.specs.declared.fault.Fault.TheVariants as fault
use Rattle.rox_grammar.specs.FixedTexts.{word_text}
use Rattle.rox_grammar.specs.Chars.{is_space, is_part_char}
use Rattle.rox_grammar.specs.Written.{Name, Attribute, NamespaceDecl, is_namespace_decl, namespace_decl_of, namespace_decls_of, plain_attributes_of}
use Rattle.rox_grammar.specs.NameParts.{local_span, prefix_span}
use Rattle.rox_grammar.specs.Tree.{xml_uri, xmlns_uri, is_declared, listed, listable_of}
use Rattle.rox_grammar.specs.Names.{byte, slice, spaces_end, IsQName, unprefixed, prefixed, colon_first}
use Rattle.rox_grammar.specs.Constructs.{AreChars, IsEq, IsAttValue}
use Rattle.rox_grammar.specs.Content.{Inclusion, IsAttribute, Attributes, no_more, one_more, attribute}
use Rattle.rox_grammar.specs.WellNamed.{may_declare, is_known, same_expanded, may_name}
use Rattle.rox_grammar.proofs.NamesApart.{DeclarableBehind, DistinctBehind, declarable_behind, are_declarable, are_distinct}
use Rattle.rox_grammar.specs.Document.{attributes_in, most_attributes, most_pairs}
use Rattle.rox_grammar.specs.Counts.{with_new, distinct_pairs}
use Rattle.rox_grammar.specs.Entities.{Entity, most_deep}
use Rattle.rox_grammar.specs.State.{State, scope_of, attributes_so_far, pairs_so_far}
use Rattle.rox_grammar.specs.OpenElements.{tree_so_far}
use Rattle.rox_grammar.specs.Due.{a_byte, a_qname, chars_to, IsMissing, Misses, no_byte, none_left, DueInPair, its_name, equals, opening, its_value, closing, value_end}
use Rattle.rox_faults.proofs.DueForms.{a_quote, no_space, no_quote}
use Rattle.rox_grammar.specs.ContentPoints.{is_main, TagTo}
use Rattle.rox_grammar.specs.Faults.{SpanIs, cut_off, IllDeclared, other_uri, uri_of_xml, uri_of_xmlns, again, IllNamed, unknown_attribute, twice, unknown_element, InTag, no_name, xmlns_prefix, cut, no_rest, not_closed, in_pair, ill_declared, too_many_pairs, too_many_attributes, ill_named, in_rest}
use Rattle.rox_grammar.specs.Faults as faults
use Rattle.rox_reading.specs.Lexical.{byte_at, quote_at, qname_at}
use Rattle.rox_reading.specs.Markup.{raw_value_at, attribute_at, TagItem, more, opened, closed, tag_item_at}
use Rattle.rox_reading.specs.Refusals.{Refusal, here}
use Rattle.rox_reading.specs.Values.{value_at}
use Rattle.rox_reading.specs.Machine.{values_of, value_opener}
use Rattle.rox_reading.specs.Tags.{Values, TagSoFar, uri_tested, declared, taken, attribute_with, after_tag_item, attributes_at, names_tested, tested_at, tag_tested, tag_at}
use Rattle.rox_theory.proofs.Productions.{ncname_parts}
use Rattle.rox_theory.proofs.Basics.{ok_same, bind_ok, chosen, within, run_end_le, chars_sound, byte_sound}
use Rattle.rox_theory.proofs.NameLemmas.{slice_nil, qname_sound}
use Rattle.rox_faults.proofs.NameSpans.{run_cut, cut_behind, qname_text}
use Rattle.rox_theory.proofs.CharLemmas.{space_some}
use Rattle.rox_theory.proofs.LiteralLemmas.{from_le, from_bound, from_here, quote_sound, quote_ascii, literal_closes, literal_plain}
use Rattle.rox_theory.specs.Openers.{AreTexts, AgreesValue}
use Rattle.rox_theory.proofs.AttributeLemmas.{literal_stop, turn_sound, attribute_sound, attribute_le}
use Rattle.rox_theory.proofs.DeclaredLemmas.{uri_sound, taken_sound, names_sound}
use Rattle.rox_theory.proofs.TagLemmas.{none_yet, rest_sound}
use Rattle.rox_theory.proofs.FailedReadings.{bind_err, lifted_err, no_fault, chars_fails, byte_fails, qname_fails}
use Rattle.rox_faults.proofs.FaultRows.{local_holds, qname_inside}
use Rattle.rox_faults.proofs.FaultPoints.{Refuses}
use Rattle.rox_faults.proofs.FaultValues.{InPart, value_fails}
use Rattle.rox_faults.proofs.StateCounts.{attributes_are, pairs_there, pairs_counted, more_pairs_there}
use Rattle.rox_grammar.proofs.Stretches.{range_length}

-- A quote that is required.
pub quote_fails : (src : List ℕ) (i : ℕ) (f : Fault) → quote_at src i ≡ Err f → IsMissing src i a_quote f
unfolding quote_at
quote_fails src i f h =
    chosen (leb (length src) i) _ _ _ h
    (λ past h. let is : fault.UnexpectedEndOfStream ≡ f = cc in subst (IsMissing src i a_quote) is (none_left _ (leb-true _ _ past)))
    (λ inside h. chosen (eqb (byte src i) 39 || eqb (byte src i) 34) _ _ _ h (λ same h. cc)
    (λ apart h.
    let both = or_parts (eqb (byte src i) 39) (eqb (byte src i) 34) apart in
    let is : fault.InvalidChar2 due.Quote (byte src i) i ≡ f = cc in
    subst (IsMissing src i a_quote) is (no_quote (leb-false _ _ inside) (eqb-false _ _ both.0) (eqb-false _ _ both.1))))

-- The parts of a name in their spans.
name_holds : (src : List ℕ) (i n : ℕ) (name : Name) → IsUtf8 src → IsCharBoundary src i → IsQName src i name n → SpanIs src (prefix_span name i) name.prefix × SpanIs src (local_span name n) name.local
name_holds src i n name utf8 cut' (unprefixed _ _ is last) =
    let inside = qname_inside src i n _ utf8 cut' (unprefixed i n is last) in
    let le = run_end_le is_part_char src i in let l = (ncname_parts is).longest in
    (ap (slice src i) (omega arith) ∙ slice_nil src i, local_holds src (record { prefix = []; local = slice src i n }) i n refl (omega arith) inside)
name_holds src i n name utf8 cut' (colon_first _ _ colon is last) =
    let inside = qname_inside src i n _ utf8 cut' (colon_first i n colon is last) in
    let le = run_end_le is_part_char src (i + 1) in let l = (ncname_parts is).longest in
    (ap (slice src i) (omega arith) ∙ slice_nil src i, local_holds src (record { prefix = []; local = slice src (i + 1) n }) (i + 1) n refl (omega arith) inside)
name_holds src i n name utf8 cut' (prefixed _ k _ front colon is last) = grind (arith, qname_inside src i n _ utf8 cut' (prefixed i k n front colon is last), run_end_le, ncname_parts, range_length)

-- An attribute whose name is where a character begins.
pub record NameAt (src : List ℕ) (a : Attribute) : Type 0 where
  pub prefix : SpanIs src (prefix_span a.name a.start) a.name.prefix
  pub local : SpanIs src (local_span a.name a.name_end) a.name.local

abbrev AllAt : List ℕ → List Attribute → Type 0
AllAt src [] = Unit {0}
AllAt src (a ∷ as') = NameAt src a × AllAt src as'

-- Those that are attributes.
all_filtered : (src : List ℕ) (p : Attribute → Bool) (as' : List Attribute) → AllAt src as' → AllAt src (filter p as')
all_filtered src p [] all = tt
all_filtered src p (a ∷ as') all = cond_both (p a) (a ∷ filter p as') (filter p as') (AllAt src) (λ h. (all.0, all_filtered src p as' all.1)) (λ h. all_filtered src p as' all.1)

-- ---- names

-- One more name that is known and comes once.
distinct_more : (scope : List NamespaceDecl) (before as' : List Attribute) (a : Attribute) → DistinctBehind scope before as' → is_known scope a.name ≡ true → list_any (λ e. same_expanded scope e.name a.name) (before ++ as') ≡ false
    → DistinctBehind scope before (as' ++ a ∷ [])
distinct_more scope before [] a all known once = (known, subst (λ (xs : List Attribute). list_any (λ e. same_expanded scope e.name a.name) xs ≡ false) (append-nil before) once, tt)
distinct_more scope before (x ∷ xs) a all known once = grind (arith, distinct_more scope (before ++ x ∷ []) xs a all.2 known (subst (λ (ys : List Attribute). list_any (λ e. same_expanded scope e.name a.name) ys ≡ false) (sym (append_assoc before (x ∷ []) xs)) once))

-- One more declaration that may be there.
declarable_more : (before ds : List NamespaceDecl) (d : NamespaceDecl) → DeclarableBehind before ds → may_declare d ≡ true → is_declared d.prefix (before ++ ds) ≡ false → DeclarableBehind before (ds ++ d ∷ [])
declarable_more before [] d all may once = (may, subst (λ (ds : List NamespaceDecl). is_declared d.prefix ds ≡ false) (append-nil before) once, tt)
declarable_more before (e ∷ es) d all may once = grind (arith, declarable_more (before ++ e ∷ []) es d all.2 may (subst (λ (ds : List NamespaceDecl). is_declared d.prefix ds ≡ false) (sym (append_assoc before (e ∷ []) es)) once))

-- A name that is not known, or comes again: rows 6 and 13.
names_fails : (src : List ℕ) (i : ℕ) (scope : List NamespaceDecl) (n : Name) (all before as' : List Attribute) (f : Fault) → all ≡ before ++ as' → DistinctBehind scope [] before → AllAt src as'
    → names_tested scope before as' ≡ Err f → IllNamed src i scope n all f
unfolding names_tested
names_fails src i scope n whole before [] f is distinct all h = cc h
names_fails src i scope n whole before (a ∷ as') f is distinct all h =
    chosen (not (is_known scope a.name)) _ _ _ h
    (λ unknown h.
    let e : fault.UnknownNamespace (prefix_span a.name a.start) a.start ≡ f = cc in
    subst (IllNamed src i scope n whole) e (unknown_attribute before as' a (prefix_span a.name a.start) is (are_distinct scope before distinct) (not-true _ unknown) all.0.prefix))
    (λ known h. chosen (list_any (λ e. same_expanded scope e.name a.name) before) _ _ _ h
    (λ again h.
    let e : fault.DuplicatedAttribute (local_span a.name a.name_end) a.start ≡ f = cc in
    subst (IllNamed src i scope n whole) e (twice before as' a (local_span a.name a.name_end) is (are_distinct scope before distinct) (not-false _ known) again all.0.local))
    (λ once h. names_fails src i scope n whole (before ++ a ∷ []) as' f (is ∙ sym (append_assoc before (a ∷ []) as')) (distinct_more scope [] before a distinct (not-false _ known) once) all.1 h))

-- A URI that may not be declared: rows 1 to 3.
uri_fails : (src : List ℕ) (before : List NamespaceDecl) (a : Attribute) (f : Fault) → uri_tested a ≡ Err f → IllDeclared src before a f
uri_fails src before a f h =
    chosen (bytes_eq a.name.prefix (word_text word.Xmlns)) _ _ _ h
    (λ prefix h. chosen (bytes_eq a.value xmlns_uri) _ _ _ h
    (λ reserved h. let e : fault.UnexpectedXmlnsUri a.start ≡ f = cc in subst (IllDeclared src before a) e (uri_of_xmlns ((bytes_eq-Decides a.value xmlns_uri).0 reserved)))
    (λ free h. chosen (bytes_eq a.name.local (word_text word.Xml)) _ _ _ h
    (λ local h. chosen (bytes_eq a.value xml_uri) _ _ _ h (λ uri h. cc)
    (λ other h.
    let e : fault.InvalidXmlPrefixUri a.start ≡ f = cc in
    subst (IllDeclared src before a) e (other_uri (rw (prefix, local) refl)
    (λ same. let k = (bytes_eq-Decides a.value xml_uri).1 same in cc (sym other ∙ k)) (λ same. let k = (bytes_eq-Decides a.value xmlns_uri).1 same in cc (sym free ∙ k)))))
    (λ local h. chosen (bytes_eq a.value xml_uri) _ _ _ h
    (λ uri h. let e : fault.UnexpectedXmlUri a.start ≡ f = cc in subst (IllDeclared src before a) e (uri_of_xml (rw (prefix, local) refl) ((bytes_eq-Decides a.value xml_uri).0 uri)))
    (λ other h. cc))))
    (λ default h. chosen (bytes_eq a.value xml_uri) _ _ _ h
    (λ uri h. let e : fault.UnexpectedXmlUri a.start ≡ f = cc in subst (IllDeclared src before a) e (uri_of_xml (rw default refl) ((bytes_eq-Decides a.value xml_uri).0 uri)))
    (λ other h. chosen (bytes_eq a.value xmlns_uri) _ _ _ h
    (λ reserved h. let e : fault.UnexpectedXmlnsUri a.start ≡ f = cc in subst (IllDeclared src before a) e (uri_of_xmlns ((bytes_eq-Decides a.value xmlns_uri).0 reserved)))
    (λ free h. cc)))

module _ (src : List ℕ) (utf8 : IsUtf8 src) where
  -- ---- an attribute whose value is not looked at

  -- A character begins where a value ends.
  pub value_cut : (v : ℕ) → v < length src → (byte src v ≡ 39) ⊎ (byte src v ≡ 34) → IsCharBoundary src (value_end src v)
  value_cut v inside quote = grind (arith, from_bound, from_here)

  -- An attribute: what is required in it.
  attribute_fails : (i : ℕ) (f : Fault) → attribute_at src i ≡ Err f → Misses src (DueInPair src i) f
  unfolding attribute_at raw_value_at
  attribute_fails i f h =
      bind_err (qname_at src i) _ f h (λ bad. (i, a_qname, its_name, qname_fails src i f bad))
      (λ name named h.
      let is_name = qname_sound src i name named in
      bind_err (byte_at 61 src (spaces_end src name.1)) _ f h
      (λ bad. (spaces_end src name.1, a_byte 61, equals name.0 name.1 is_name, byte_fails 61 src (spaces_end src name.1) f bad))
      (λ s equals' h.
      let eq' = byte_sound 61 src (spaces_end src name.1) s equals' in
      let v = spaces_end src s.1 in
      let eq : IsEq src name.1 v = (eq'.0, ap (spaces_end src) eq'.1) in
      bind_err (quote_at src v) _ f h
      (λ bad. (v, a_quote, opening name.0 name.1 v is_name eq, quote_fails src v f bad))
      (λ q quoted h.
      let quote = quote_sound src v q quoted in
      let ascii = quote_ascii (byte src v) quote.0 in
      let inside : v < length src = within src v (λ z. omega arith) in
      let q0 : q.0 ≡ byte src v = quote.1 in
      let q1 : q.1 ≡ v + 1 = quote.2 in
      let e = value_end src v in
      let le = from_le (λ c. c == byte src v || c == 60) src (v + 1) in
      let cut' : IsCharBoundary src (v + 1) = cut_behind src v (byte src v) utf8 refl (omega arith) (omega arith) in
      bind_err (raw_value_at q.0 src q.1) _ f h
      (λ bad.
      let bad' = rw (q0, q1) at bad in
      chosen (leb (length src) e) _ _ _ bad'
      (λ out bad. let is : fault.UnexpectedEndOfStream ≡ f = cc in
      (e, a_byte (byte src v), closing name.0 name.1 v is_name eq quote.0 (inl (leb-true _ _ out)), subst (IsMissing src e (a_byte (byte src v))) is (no_byte (byte src v) (leb-true _ _ out))))
      (λ some bad. (v + 1, chars_to e, its_value name.0 name.1 v is_name eq quote.0, chars_fails src (v + 1) e f utf8 cut' (value_cut v inside quote.0) le bad)))
      (λ text read h.
      let read' = rw (q0, q1) at read in
      let sound : AreChars src (v + 1) e × (text.1 ≡ e) = chosen (leb (length src) e) _ _ _ read' (λ out z. cc) (λ some read. let c = chars_sound e src (v + 1) text utf8 le read in (c.0, c.2)) in
      bind_err (byte_at q.0 src text.1) _ f h
      (λ bad.
      let bad' = rw (q0, sound.1) at bad in
      (e, a_byte (byte src v), closing name.0 name.1 v is_name eq quote.0 (inr sound.0), byte_fails (byte src v) src e f bad'))
      (λ d last h. no_fault _ f h)))))

-- ---- attributes, one after the other

-- How a tag is read where k replacement texts are open, and d more may be.
abbrev pub tag_values : List Entity → (d k : ℕ) → Values
tag_values es d k = values_of es d (is_main k)

-- A tag that is cut off.
cut_stands : (main : Bool) (O : Inclusion) (src : List ℕ) (s : State) (b p c : ℕ) (name : Name) (as' : List Attribute) → TagTo main O src s p b c name as' → length src ≤ p → InTag main O src s b (cut_off main s.stack)
cut_stands main O src s b p c name as' to past = in_rest p c name as' _ to (cut past)

-- One more at the end.
attributes_more : (main : Bool) (O : Inclusion) (src : List ℕ) (k d i j b c : ℕ) (as' : List Attribute) (a : Attribute) → Attributes main O src i j b c as' → j < spaces_end src j → IsAttribute main O src (spaces_end src j) k c d a
    → Attributes main O src i k b d (as' ++ a ∷ [])
attributes_more main O src k d i j b c as' a (no_more _ _) spaces is = one_more i k k b d d a [] spaces is (no_more k d)
attributes_more main O src k d i j b c as' a (one_more _ m _ _ e _ first rest spaces' is' more') spaces is =
    one_more i m k b e d first (rest ++ a ∷ []) spaces' is' (attributes_more main O src k d m j e c rest a more' spaces is)

-- A character begins after an attribute.
pub attribute_cut : (main : Bool) (O : Inclusion) (src : List ℕ) (utf8 : IsUtf8 src) (i j b c : ℕ) (a : Attribute) → IsAttribute main O src i j b c a → IsCharBoundary src j
attribute_cut main O src utf8 i j b c a (attribute n v e name value (is_name, eq, literal) read) =
    rw literal.0.3 (cut_behind src e (byte src v) utf8 (literal_closes src v e j literal) (omega arith) (omega arith))

module _ (opens : ℕ → Inclusion) (es : List Entity) (agrees : (d l : ℕ) → d + l ≡ most_deep → AgreesValue es (opens l) (value_opener es d (is_main l))) (texts : AreTexts es) (deeper level : ℕ) (deep : deeper + level ≡ most_deep)
    (src : List ℕ) (utf8 : IsUtf8 src) where
  -- How it is read.
  abbrev alone : Values
  alone = tag_values es deeper level

  -- The name of an attribute.
  attribute_named : (i j b c : ℕ) (a : Attribute) → IsCharBoundary src i → IsAttribute (is_main level) (opens level) src i j b c a → NameAt src a
  attribute_named i j b c a cut' (attribute n v e name value is read) = grind (arith, name_holds)

  -- And of all of them.
  attributes_named : (i j b c : ℕ) (as' : List Attribute) → IsCharBoundary src i → Attributes (is_main level) (opens level) src i j b c as' → AllAt src as'
  attributes_named i j b c as' cut' (no_more _ _) = tt
  attributes_named i j b c as' cut' (one_more _ k _ _ d _ a rest spaces is others) = grind (arith, attributes_named k j d c rest (attribute_cut (is_main level) (opens level) src utf8 (spaces_end src i) k b d a is) others, run_cut, attribute_named)

  -- What one more declares.
  declares_more : (as' : List Attribute) (a : Attribute) → is_namespace_decl a.name ≡ true → namespace_decls_of (as' ++ a ∷ []) ≡ namespace_decls_of as' ++ namespace_decl_of a ∷ []
  declares_more as' a is = grind (arith, filter-append, map-append)

  -- One that does not declare.
  declares_same : (as' : List Attribute) (a : Attribute) → is_namespace_decl a.name ≡ false → namespace_decls_of (as' ++ a ∷ []) ≡ namespace_decls_of as'
  declares_same as' a is = grind (arith, filter-append, append-nil)

  module _ (s : State) (b : ℕ) (few : length (distinct_pairs (pairs_so_far s.stack s.done)) ≤ most_pairs) where
    abbrev Fails : Fault → Type 0
    Fails f = InTag (is_main level) (opens level) src s b f

    -- A tag that fails: in it itself, or in a value of it, or in a replacement text that is opened there.
    pub data TagFails (e : Refusal) : Type 0 where
      itself : (f : Fault) → here f ≡ e → Fails f → TagFails e
      ill_value : (p c n v stop j : ℕ) (tag_name : Name) (as' : List Attribute) (name : Name) → TagTo (is_main level) (opens level) src s p b c tag_name as' → p < spaces_end src p → IsQName src (spaces_end src p) name n → IsEq src n v
          → IsAttValue src v stop j → Refuses es (InPart opens es level src (v + 1) stop c) src e → TagFails e

    -- Their declarations may be there, within the limit.
    abbrev MayStand : List Attribute → Type 0
    MayStand as' = DeclarableBehind [] (namespace_decls_of as') × (length (with_new (distinct_pairs (pairs_so_far s.stack s.done)) (listable_of (namespace_decls_of as'))) ≤ most_pairs)

    -- The tag is read up to here.
    abbrev UpTo : ℕ → ℕ → List Attribute → Type 0
    UpTo p c as' = (name : Name) × TagTo (is_main level) (opens level) src s p b c name as'

    -- One more.
    up_to_more : (p k c d : ℕ) (as' : List Attribute) (a : Attribute) → UpTo p c as' → p < spaces_end src p → IsAttribute (is_main level) (opens level) src (spaces_end src p) k c d a → MayStand (as' ++ a ∷ []) → UpTo k d (as' ++ a ∷ [])
    up_to_more p k c d as' a (name, (n, is_name, no_xmlns, attributes, declarable, few_pairs)) spaces is may =
        (name, (n, is_name, no_xmlns, attributes_more (is_main level) (opens level) src k d n p b c as' a attributes spaces is, are_declarable (namespace_decls_of (as' ++ a ∷ [])) may.0, pairs_there s.stack s.done (namespace_decls_of (as' ++ a ∷ [])) may.1))

    -- What is required after these attributes: rows 21 to 24 and 31.
    turn_fails : (p c : ℕ) (as' : List Attribute) (f : Fault) → UpTo p c as' → p < length src → tag_item_at src p ≡ Err f → Fails f
    unfolding tag_item_at
    turn_fails p c as' f to below h =
        let j = spaces_end src p in
        chosen (leb (length src) j) _ _ _ h
        (λ out h. let is : fault.UnexpectedEndOfStream ≡ f = cc in subst Fails is (in_rest p c to.0 as' _ to.1 (no_rest below (leb-true _ _ out))))
        (λ inside h. chosen (eqb (byte src j) 47) _ _ _ h
        (λ slash h. bind_err (byte_at 62 src (j + 1)) _ f h (λ bad. in_rest p c to.0 as' _ to.1 (not_closed f (eqb-true _ _ slash) (byte_fails 62 src (j + 1) f bad))) (λ x read h. no_fault _ f h))
        (λ no_slash h. chosen (eqb (byte src j) 62) _ _ _ h (λ greater h. cc)
        (λ no_greater h. chosen (eqb j p) _ _ _ h
        (λ none h.
        let same : j ≡ p = eqb-true _ _ none in
        let is : fault.InvalidChar2 due.Space (byte src j) j ≡ f = cc in
        let is' : fault.InvalidChar2 due.Space (byte src p) p ≡ f = subst (λ (k : ℕ). fault.InvalidChar2 due.Space (byte src k) k ≡ f) same is in
        let no : is_space (byte src p) ≡ false = false_from_ne_true _ (λ space. let l = space_some src p below space in absurd (omega arith)) in
        subst Fails is' (faults.InTag.in_rest p c to.0 as' _ to.1 (faults.InTagRest.no_space (fault.InvalidChar2 due.Space (byte src p) p) below (subst (λ (k : ℕ). byte src k ≢ 47) same (eqb-false _ _ no_slash)) (subst (λ (k : ℕ). byte src k ≢ 62) same (eqb-false _ _ no_greater)) (no_space below no))))
        (λ some h.
        let apart = eqb-false _ _ some in
        let le = run_end_le is_space src p in
        bind_err (attribute_at src j) _ f h
        (λ bad. let w = attribute_fails src utf8 j f bad in in_rest p c to.0 as' _ to.1 (in_pair f (omega arith) (leb-false _ _ inside) (eqb-false _ _ no_slash) (eqb-false _ _ no_greater) w))
        (λ x read h. no_fault _ f h)))))

    -- A declaration that is not allowed: rows 1 to 3, 5 and 20.
    declared_fails : (p k c d : ℕ) (as' : List Attribute) (a : Attribute) (h : TagSoFar) (f : Fault) → UpTo p c as' → p < spaces_end src p → IsAttribute (is_main level) (opens level) src (spaces_end src p) k c d a → NameAt src a
        → is_namespace_decl a.name ≡ true → h.own ≡ namespace_decls_of as' → declared (distinct_pairs (pairs_so_far s.stack s.done)) a h ≡ Err f → Fails f
    unfolding declared
    declared_fails p k c d as' a h f to spaces is named declares' own bad =
        let known = distinct_pairs (pairs_so_far s.stack s.done) in
        bind_err (uri_tested a) _ f bad
        (λ bad. in_rest p c to.0 as' _ to.1 (ill_declared d k a f spaces is declares' (uri_fails src (namespace_decls_of as') a f bad)))
        (λ u tested bad. chosen (is_declared (namespace_decl_of a).prefix h.own) _ _ _ bad
        (λ twice bad.
        let e : fault.DuplicatedNamespace (local_span a.name a.name_end) a.start ≡ f = cc in
        let twice' : is_declared (namespace_decl_of a).prefix (namespace_decls_of as') ≡ true = rw own at twice in
        subst Fails e (in_rest p c to.0 as' _ to.1 (ill_declared d k a (fault.DuplicatedNamespace (local_span a.name a.name_end) a.start) spaces is declares' (again (local_span a.name a.name_end) (uri_sound a u tested) twice' named.local))))
        (λ once bad. chosen (ltb most_pairs (length (with_new known (listable_of (h.own ++ namespace_decl_of a ∷ []))))) _ _ _ bad
        (λ many bad.
        let e : fault.NamespacesLimitReached ≡ f = cc in
        let over = ltb-true _ _ many in
        let once' : is_declared (namespace_decl_of a).prefix (namespace_decls_of as') ≡ false = rw own at once in
        let all : h.own ++ namespace_decl_of a ∷ [] ≡ namespace_decls_of as' ++ namespace_decl_of a ∷ [] = ap (λ (ds : List NamespaceDecl). ds ++ namespace_decl_of a ∷ []) own in
        subst Fails e (in_rest p c to.0 as' _ to.1 (too_many_pairs d k a spaces is declares' (uri_sound a u tested) once' (more_pairs_there s.stack s.done (namespace_decls_of as' ++ namespace_decl_of a ∷ []) (subst (λ (ds : List NamespaceDecl). most_pairs < length (with_new known (listable_of ds))) all over)))))
        (λ fits bad. no_fault _ f bad)))

    -- What is held after one more attribute.
    held_more : (as' : List Attribute) (a : Attribute) (h held : TagSoFar) → MayStand as' → h.own ≡ namespace_decls_of as' → taken (distinct_pairs (pairs_so_far s.stack s.done)) a h ≡ Ok held
        → (held.own ≡ namespace_decls_of (as' ++ a ∷ [])) × MayStand (as' ++ a ∷ [])
    unfolding declared
    held_more as' a h held may own read =
        let known = distinct_pairs (pairs_so_far s.stack s.done) in
        chosen (is_namespace_decl a.name) _ _ _ read
        (λ is read. bind_ok (uri_tested a) _ _ read (λ u tested read.
        chosen (is_declared (namespace_decl_of a).prefix h.own) _ _ _ read (λ twice read. cc)
        (λ once read. chosen (ltb most_pairs (length (with_new known (listable_of (h.own ++ namespace_decl_of a ∷ []))))) _ _ _ read (λ many read. cc)
        (λ fits read.
        let all : h.own ++ namespace_decl_of a ∷ [] ≡ namespace_decls_of (as' ++ a ∷ []) = ap (λ (ds : List NamespaceDecl). ds ++ namespace_decl_of a ∷ []) own ∙ sym (declares_more as' a is) in
        let once' : is_declared (namespace_decl_of a).prefix (namespace_decls_of as') ≡ false = rw own at once in (
          sym (ap (λ (x : TagSoFar). x.own) (ok_same _ _ read)) ∙ all,
          (
            subst (DeclarableBehind []) (sym (declares_more as' a is)) (declarable_more [] (namespace_decls_of as') (namespace_decl_of a) may.0 (uri_sound a u tested) once'),
            subst (λ (ds : List NamespaceDecl). length (with_new known (listable_of ds)) ≤ most_pairs) all (ltb-false _ _ fits),
          ),
        )))))
        (λ no_declaration read.
        let same = sym (declares_same as' a no_declaration) in (
          sym (ap (λ (x : TagSoFar). x.own) (ok_same _ _ read)) ∙ own ∙ same,
          (subst (DeclarableBehind []) same may.0, subst (λ (ds : List NamespaceDecl). length (with_new known (listable_of ds)) ≤ most_pairs) same may.1),
        ))

    -- One turn, and what follows it.
    turn_goes : (n p c : ℕ) (as' : List Attribute) (h : TagSoFar) (e : Refusal) → UpTo p c as' → IsCharBoundary src p → length src ≤ p + suc n → h.own ≡ namespace_decls_of as'
        → ((j d : ℕ) (more' : List Attribute) (held : TagSoFar) → UpTo j d more' → IsCharBoundary src j → length src ≤ j + n → held.own ≡ namespace_decls_of more'
        → attributes_at n alone (cut_off (is_main level) s.stack) (distinct_pairs (pairs_so_far s.stack s.done)) src j d held ≡ Err e → TagFails e)
        → (t : TagItem) (j : ℕ) → tag_item_at src p ≡ Ok (t, j)
        → after_tag_item (λ j l held. attributes_at n alone (cut_off (is_main level) s.stack) (distinct_pairs (pairs_so_far s.stack s.done)) src j l held) alone (distinct_pairs (pairs_so_far s.stack s.done)) src c h t j ≡ Err e → TagFails e
    turn_goes n p c as' h e to here' enough own next opened j turn bad = no_fault _ e bad
    turn_goes n p c as' h e to here' enough own next closed j turn bad = no_fault _ e bad
    turn_goes n p c as' h e to here' enough own next (more raw) j turn bad =
        let stands = turn_sound src utf8 p (more raw, j) turn in
        let spaces = stands.0 in
        let r = stands.1 in
        bind_err (value_at (is_main level) es alone.opener src raw.value_start raw.value_end c) _ e bad
        (λ ill. let start = r.value_start in
        let w = value_fails opens es level src raw.value_start raw.value_end c agrees texts deeper e deep utf8 (omega arith) (λ z. literal_stop src r.v raw.value_end j r.literal)
        (λ k from below. literal_plain src r.v raw.value_end j r.literal k (omega arith) below) (subst (IsCharBoundary src) (sym start) (let quote = quote_ascii (byte src r.v) r.literal.0.0 in cut_behind src r.v (byte src r.v) utf8 refl (omega arith) (omega arith))) ill in
        (ill_value p c raw.name_end r.v raw.value_end j to.0 as' raw.name to.1 spaces r.is_name r.eq r.literal
        (subst (λ (i : ℕ). Refuses es (InPart opens es level src i raw.value_end c) src e) start w)))
        (λ v read bad.
        let is = attribute_sound alone (opens level) (agrees deeper level deep) src utf8 (spaces_end src p) j c v.1 raw v.0 r read in
        let named = attribute_named (spaces_end src p) j c v.1 (attribute_with raw v.0) (run_cut is_space src p utf8 here') is in
        let moves = attribute_le alone (opens level) (agrees deeper level deep) src utf8 (spaces_end src p) j c v.1 (attribute_with raw v.0) is in
        lifted_err (taken (distinct_pairs (pairs_so_far s.stack s.done)) (attribute_with raw v.0) h) _ e bad
        (λ f ill same. chosen (is_namespace_decl raw.name) _ _ _ ill (λ declares' ill. itself f same (declared_fails p j c v.1 as' (attribute_with raw v.0) h f to spaces is named declares' own ill)) (λ other ill. no_fault _ f ill))
        (λ held took bad.
        let more' = held_more as' (attribute_with raw v.0) h held (declarable_behind (namespace_decls_of as') to.1.4, pairs_counted s.stack s.done (namespace_decls_of as') to.1.5) own took in
        next j v.1 (as' ++ attribute_with raw v.0 ∷ []) held (up_to_more p j c v.1 as' (attribute_with raw v.0) to spaces is more'.1) (attribute_cut (is_main level) (opens level) src utf8 (spaces_end src p) j c v.1 (attribute_with raw v.0) is) (omega arith) more'.0 bad))

    -- Attributes and declarations up to the end of the tag.
    attributes_fail : (n p c : ℕ) (as' : List Attribute) (h : TagSoFar) (e : Refusal) → UpTo p c as' → IsCharBoundary src p → length src ≤ p + n → h.own ≡ namespace_decls_of as'
        → attributes_at n alone (cut_off (is_main level) s.stack) (distinct_pairs (pairs_so_far s.stack s.done)) src p c h ≡ Err e → TagFails e
    unfolding attributes_at
    attributes_fail zero p c as' h e to here' enough own bad = let is : here (cut_off (is_main level) s.stack) ≡ e = cc in itself (cut_off (is_main level) s.stack) is (cut_stands (is_main level) (opens level) src s b p c to.0 as' to.1 (omega arith))
    attributes_fail (suc n) p c as' h e to here' enough own bad =
        let known = distinct_pairs (pairs_so_far s.stack s.done) in
        chosen (leb (length src) p) _ _ _ bad
        (λ out bad. let is : here (cut_off (is_main level) s.stack) ≡ e = cc in itself (cut_off (is_main level) s.stack) is (cut_stands (is_main level) (opens level) src s b p c to.0 as' to.1 (leb-true _ _ out)))
        (λ inside bad. lifted_err (tag_item_at src p) _ e bad
        (λ f bad is. itself f is (turn_fails p c as' f to (leb-false _ _ inside) bad))
        (λ x turn bad. turn_goes n p c as' h e to here' enough own (λ j d more' held to' here' enough' own' bad. attributes_fail n j d more' held e to' here' enough' own' bad) x.0 x.1 turn bad))

    -- A start tag.
    pub tag_at_fails : (e : Refusal) → byte src s.at ≡ 60
        → tag_at alone (cut_off (is_main level) s.stack) (scope_of s.stack) (attributes_so_far s.stack s.done) (distinct_pairs (pairs_so_far s.stack s.done)) src s.at b ≡ Err e → TagFails e
    unfolding tag_at tag_tested
    tag_at_fails e begins h =
        let known = distinct_pairs (pairs_so_far s.stack s.done) in
        let count = attributes_so_far s.stack s.done in
        let behind = cut_behind src s.at 60 utf8 begins (omega arith) (omega arith) in
        lifted_err (qname_at src (s.at + 1)) _ e h (λ f bad is. itself f is (no_name f (qname_fails src (s.at + 1) f bad)))
        (λ name named h.
        let is_name = qname_sound src (s.at + 1) name named in
        chosen (bytes_eq name.0.prefix (word_text word.Xmlns)) _ _ _ h
        (λ reserved h. let is : here (fault.InvalidElementNamePrefix (s.at + 1)) ≡ e = cc in
        itself (fault.InvalidElementNamePrefix (s.at + 1)) is (xmlns_prefix name.0 name.1 is_name ((bytes_eq-Decides name.0.prefix (word_text word.Xmlns)).0 reserved)))
        (λ free h.
        let text = qname_text src (s.at + 1) name.0 name.1 utf8 behind is_name in
        bind_err (attributes_at (length src) alone (cut_off (is_main level) s.stack) known src name.1 b none_yet) _ e h
        (λ bad. attributes_fail (length src) name.1 b [] none_yet e
        (name.0, (name.1, is_name, free, no_more name.1 b, are_declarable [] tt, pairs_there s.stack s.done [] few)) text.3 (omega arith) refl bad)
        (λ x rest h.
        let r = rest_sound alone (opens level) (agrees deeper level deep) src utf8 (length src) (cut_off (is_main level) s.stack) known name.1 b none_yet x rest in
        let all = taken_sound known r.0 none_yet x.0.held r.4 in
        let few_pairs : length (with_new known (listable_of (namespace_decls_of r.0))) ≤ most_pairs = subst (λ (ds : List NamespaceDecl). length (with_new known (listable_of ds)) ≤ most_pairs) all.own (all.pairs few) in
        let c = x.0.openings_left in
        let to : UpTo r.1 c r.0 = (name.0, (name.1, is_name, free, r.2, are_declarable (namespace_decls_of r.0) all.declarable, pairs_there s.stack s.done (namespace_decls_of r.0) few_pairs)) in
        let as' = plain_attributes_of r.0 in
        let scope = listed (scope_of s.stack) (namespace_decls_of r.0) in
        let at_all : AllAt src as' = all_filtered src (λ a. not (is_namespace_decl a.name)) r.0 (attributes_named name.1 r.1 b c r.0 text.3 r.2) in
        lifted_err (tested_at (listed (scope_of s.stack) x.0.held.own) count (s.at + 1) name.0 x.0.held.attributes) _ e h
        (λ f bad same.
        let bad' : tested_at scope count (s.at + 1) name.0 as' ≡ Err f =
        subst (λ (ds : List NamespaceDecl). tested_at (listed (scope_of s.stack) ds) count (s.at + 1) name.0 as' ≡ Err f) all.own
        (subst (λ (xs : List Attribute). tested_at (listed (scope_of s.stack) x.0.held.own) count (s.at + 1) name.0 xs ≡ Err f) all.attributes bad) in
        itself f same
        (chosen (ltb most_attributes (count + length as')) _ _ _ bad'
        (λ many bad. let is : fault.AttributesLimitReached ≡ f = cc in subst Fails is (in_rest r.1 c name.0 r.0 _ to.1 (too_many_attributes x.1 x.0.empty r.3 (omega (arith, attributes_are s.stack s.done, ltb-true _ _ many)))))
        (λ fits bad.
        let fits' : attributes_in (tree_so_far s.stack s.done) + length as' ≤ most_attributes = omega (arith, attributes_are s.stack s.done, ltb-false _ _ fits) in
        bind_err (names_tested scope [] as') _ f bad
        (λ bad. in_rest r.1 c name.0 r.0 _ to.1 (ill_named x.1 x.0.empty f r.3 fits' (names_fails src s.at scope name.0 as' [] as' f refl tt at_all bad)))
        (λ u names bad. chosen (may_name scope name.0) _ _ _ bad (λ may bad. no_fault _ f bad)
        (λ unknown bad.
        let is : fault.UnknownNamespace (prefix_span name.0 (s.at + 1)) (s.at + 1) ≡ f = cc in
        subst Fails is (in_rest r.1 c name.0 r.0 _ to.1 (ill_named x.1 x.0.empty (fault.UnknownNamespace (prefix_span name.0 (s.at + 1)) (s.at + 1)) r.3 fits' (unknown_element (prefix_span name.0 (s.at + 1)) (are_distinct scope as' (names_sound scope [] as' u names)) unknown (name_holds src (s.at + 1) name.1 name.0 utf8 behind is_name).0))))))))
        (λ u tested h. no_fault _ e h))))
