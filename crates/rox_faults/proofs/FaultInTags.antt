-- The same for start tags: where one stands that is well named, no fault of it does but those of the limits, and where it is within
-- the limits, none.
use Rattle.std.proofs.Common.{◌≡◌, ◌≢◌, ℕ, ◌+◌, ◌<◌, ◌≤◌, ◌⊎◌, Bool, true, false, List, [], ◌∷◌, ◌++◌, length, refl, sym, ap, ◌∙◌, subst, arith, inl, inr, append_assoc, IsUtf8, IsCharBoundary, true≢false, append-nil}
use Rattle.std.specs.Prelude.{Ok}
use Rattle.std.specs.List.{list_any}
use Rattle.std.proofs.lemmas.Slice.Eq.{bytes_eq-Decides}
use Rattle.std.proofs.lemmas.Grind.{common_steps}
use Rattle.rox_grammar.specs.declared.fault.Fault.{Fault}
use Rattle.rox_grammar.specs.declared.fault.Word.TheVariants as word
use Rattle.rox_grammar.specs.FixedTexts.{word_text}
use Rattle.rox_grammar.specs.Chars.{is_space, is_name_start}
use Rattle.rox_grammar.specs.Runs.{begins}
use Rattle.rox_grammar.specs.Written.{Name, Attribute, NamespaceDecl, Tag, is_namespace_decl, namespace_decl_of, namespace_decls_of, plain_attributes_of}
use Rattle.rox_grammar.specs.Tree.{is_declared, listed, listable_of}
use Rattle.rox_grammar.specs.Names.{byte, spaces_end, IsQName}
use Rattle.rox_grammar.specs.Constructs.{IsEq, IsAttValue}
use Rattle.rox_grammar.specs.Content.{Inclusion, Value, IsAttribute, attribute, Attributes, no_more, one_more, TagEnds, opened, closed, IsTag, start_tag}
use Rattle.rox_grammar.proofs.TagParts.{TagParts, tag_parts}
use Rattle.rox_grammar.specs.WellNamed.{may_declare, is_known, same_expanded, IsWellNamed}
use Rattle.rox_grammar.proofs.NamesApart.{DeclarableBehind, DistinctBehind, declarable_behind, distinct_behind}
use Rattle.rox_grammar.specs.Document.{most_attributes, most_pairs}
use Rattle.rox_grammar.specs.Counts.{with_new, distinct_pairs}
use Rattle.rox_grammar.specs.State.{State, scope_of, attributes_so_far, pairs_so_far}
use Rattle.rox_grammar.specs.Due.{DueItem, a_byte, IsMissing, DueInPair}
use Rattle.rox_faults.proofs.DueForms.{a_space}
use Rattle.rox_grammar.specs.ContentPoints.{TagTo}
use Rattle.rox_grammar.specs.Faults.{IllDeclared, IllNamed, unknown_attribute, twice, unknown_element, InTag, no_name, xmlns_prefix, cut, no_rest, not_closed, in_pair, ill_declared, too_many_pairs, too_many_attributes, ill_named, in_rest}
use Rattle.rox_grammar.specs.Faults as faults
use Rattle.rox_reading.specs.Markup as markup
use Rattle.rox_reading.specs.Markup.{tag_item_at}
use Rattle.rox_reading.specs.Tags.{Values}
use Rattle.rox_theory.specs.Openers.{AgreesValue}
use Rattle.rox_theory.proofs.Basics.{within, run_end_le}
use Rattle.rox_theory.proofs.NameLemmas.{begins_here}
use Rattle.rox_faults.proofs.NameSpans.{cut_behind, qname_text}
use Rattle.rox_theory.proofs.AttributeParts.{parts_of}
use Rattle.rox_theory.proofs.AttributeLemmas.{end_complete}
use Rattle.rox_theory.proofs.DeclaredLemmas.{pairs_more}
use Rattle.rox_theory.proofs.Constructions.{name_byte}
use Rattle.rox_faults.proofs.FaultLimits.{IsOver, attributes_over}
use Rattle.rox_theory.proofs.TagOnce.{Reads, turn_is, one_tag}
use Rattle.rox_faults.proofs.FaultTags.{attribute_cut}
use Rattle.rox_faults.proofs.FaultApart.{qname_stands, byte_stands, space_stands}
use Rattle.rox_faults.proofs.FaultPairs.{one_qname, pair_apart}
use Rattle.rox_faults.proofs.StateCounts.{attributes_are, more_pairs_counted}

-- ---- names

-- Of a row of declarations each may be declared, and none before it has its prefix.
declarable_at : (before xs ys : List NamespaceDecl) (d : NamespaceDecl) → DeclarableBehind before (xs ++ d ∷ ys) → (may_declare d ≡ true) × (is_declared d.prefix (before ++ xs) ≡ false)
declarable_at before [] ys d h = (h.0, subst (λ (ds : List NamespaceDecl). is_declared d.prefix ds ≡ false) (sym (append-nil before)) h.1)
declarable_at before (x ∷ xs) ys d h = grind (arith, declarable_at (before ++ x ∷ []) xs ys d h.2, append_assoc)

-- Of a row of attributes each is known, and none before it has its name.
distinct_at : (scope : List NamespaceDecl) (before xs ys : List Attribute) (a : Attribute) → DistinctBehind scope before (xs ++ a ∷ ys)
    → (is_known scope a.name ≡ true) × (list_any (λ e. same_expanded scope e.name a.name) (before ++ xs) ≡ false)
distinct_at scope before [] ys a h = (h.0, subst (λ (as' : List Attribute). list_any (λ e. same_expanded scope e.name a.name) as' ≡ false) (sym (append-nil before)) h.1)
distinct_at scope before (x ∷ xs) ys a h = grind (arith, distinct_at scope (before ++ x ∷ []) xs ys a h.2, append_assoc)

-- A declaration that may be: rows 1, 2, 3 and 5.
declared_apart : (src : List ℕ) (before : List NamespaceDecl) (a : Attribute) (f : Fault) → may_declare (namespace_decl_of a) ≡ true → is_declared (namespace_decl_of a).prefix before ≡ false → IllDeclared src before a f → ⊥
declared_apart src before a f may once p = grind (arith, bytes_eq-Decides)

-- No name begins with `>`.
no_greater : is_name_start 62 ≡ false
unfolding is_name_start
no_greater = refl

-- Where one begins, it does not stand.
starts_no_greater : (src : List ℕ) (i : ℕ) → begins is_name_start src i ≡ true → byte src i ≢ 62
starts_no_greater src i starts is =
    let b = begins_here is_name_start src i (within src i (λ z. omega arith)) (omega arith) in
    true≢false (sym starts ∙ (b ∙ rw is no_greater))

-- Nor at a qualified name.
name_no_greater : (src : List ℕ) (i : ℕ) (name : Name) (n : ℕ) → IsQName src i name n → byte src i ≢ 62
name_no_greater src i name n h is = grind (arith, starts_no_greater)

-- ---- the front of a tag

-- What follows in a tag, where so many texts may be opened: its end, or an attribute.
data Next (main : Bool) (O : Inclusion) (src : List ℕ) (p : ℕ) (empty : Bool) (j b : ℕ) : List Attribute → Type 0 where
  it_ends : TagEnds src p empty j → Next main O src p empty j b []
  it_goes : (q c : ℕ) (a : Attribute) (rest : List Attribute) → p < spaces_end src p → IsAttribute main O src (spaces_end src p) q b c a → Next main O src p empty j b (a ∷ rest)

next_at : (main : Bool) (O : Inclusion) (src : List ℕ) (p last b c j : ℕ) (empty : Bool) (rest : List Attribute) → Attributes main O src p last b c rest → TagEnds src last empty j → Next main O src p empty j b rest
next_at main O src p last b c j empty rest (no_more _ _) ends = it_ends ends
next_at main O src p last b c j empty rest (one_more _ q _ _ d _ a more spaces is others) ends = it_goes q d a more spaces is

-- The byte at the end of a tag.
end_byte : (src : List ℕ) (p j : ℕ) (empty : Bool) → TagEnds src p empty j → (byte src (spaces_end src p) ≡ 62) ⊎ (byte src (spaces_end src p) ≡ 47)
end_byte src p j empty h = grind arith

module _ (context : Values) (O : Inclusion) (agrees : AgreesValue context.entities O context.opener) (src : List ℕ) (utf8 : IsUtf8 src) where
  -- A turn of a tag that is an attribute.
  turn : (i j b c : ℕ) (a : Attribute) → IsAttribute context.main O src (spaces_end src i) j b c a → (spaces : i < spaces_end src i)
      → (r : Reads context O agrees src utf8 (spaces_end src i) j b c a) × (tag_item_at src i ≡ Ok (markup.more r.0, j))
  turn i j b c a is spaces = turn_is context O agrees src utf8 i j b c a is spaces

  -- Two that are there are one.
  one_turn : (i j k b c d : ℕ) (a e : Attribute) → IsAttribute context.main O src (spaces_end src i) j b c a → IsAttribute context.main O src (spaces_end src i) k b d e → i < spaces_end src i → (a ≡ e) × (c ≡ d) × (j ≡ k)
  one_turn i j k b c d a e is is' spaces = grind (arith, turn)

  -- Attributes that are there are a front of all of them.
  front : (i p last b c e j : ℕ) (empty : Bool) (as' bs : List Attribute) → Attributes context.main O src i p b c as' → Attributes context.main O src i last b e bs → TagEnds src last empty j
      → (rest : List Attribute) × (bs ≡ as' ++ rest) × Next context.main O src p empty j c rest
  front i p last b c e j empty as' bs (no_more _ _) all ends = (bs, refl, next_at context.main O src i last b e j empty bs all ends)
  front i p last b c e j empty as' bs (one_more _ k _ _ g _ a rest spaces is others) (no_more _ _) ends = grind (arith, turn, end_complete)
  front i p last b c e j empty as' bs (one_more _ k _ _ g _ a rest spaces is others) (one_more _ o _ _ h _ a' rest' spaces' is' others') ends =
      let one = one_turn i k o b g h a a' is is' spaces in
      let others'' : Attributes context.main O src k last g e rest' = subst (λ (o : ℕ). Attributes context.main O src o last g e rest') (sym one.2) (subst (λ (h : ℕ). Attributes context.main O src o last h e rest') (sym one.1) others') in
      let next = front k p last g c e j empty rest rest' others others'' ends in
      (next.0, ap (λ (x : Attribute). x ∷ rest') (sym one.0) ∙ ap (λ (xs : List Attribute). a ∷ xs) next.1, next.2)

  -- A character begins after attributes.
  attributes_cut : (i p b c : ℕ) (as' : List Attribute) → IsCharBoundary src i → Attributes context.main O src i p b c as' → IsCharBoundary src p
  attributes_cut i p b c as' cut' (no_more _ _) = cut'
  attributes_cut i p b c as' cut' (one_more _ k _ _ d _ a rest spaces is others) = attributes_cut k p d c rest (attribute_cut context.main O src utf8 (spaces_end src i) k b d a is) others

  -- What follows begins within the source.
  next_within : (p j b : ℕ) (empty : Bool) (rest : List Attribute) → Next context.main O src p empty j b rest → spaces_end src p < length src
  next_within p j b empty rest h = grind (arith, within, name_byte)

  -- A tag that continues with a name does not end.
  name_follows : (p j b n : ℕ) (empty : Bool) (rest : List Attribute) (name : Name) → Next context.main O src p empty j b rest → IsQName src (spaces_end src p) name n
      → (q : ℕ) × (c : ℕ) × (a : Attribute) × (more : List Attribute) × (rest ≡ a ∷ more) × IsAttribute context.main O src (spaces_end src p) q b c a
  name_follows p j b n empty rest name h is = grind (arith, end_byte, name_no_greater, name_byte)

  -- `/` without `>`.
  slash_apart : (p j b : ℕ) (empty : Bool) (rest : List Attribute) (f : Fault) → Next context.main O src p empty j b rest → byte src (spaces_end src p) ≡ 47 → IsMissing src (spaces_end src p + 1) (a_byte 62) f → ⊥
  slash_apart p j b empty rest f (it_ends (opened _ close)) slash lack = absurd (omega arith)
  slash_apart p j b empty rest f (it_ends (closed _ slash' close)) slash lack = byte_stands src 62 (spaces_end src p + 1) f (omega arith) close lack
  slash_apart p j b empty rest f (it_goes q c _ more spaces (attribute n v e name value is read)) slash lack = (name_byte src (spaces_end src p) name n is.0).no_slash slash

  module _ (s : State) (j b e : ℕ) (empty : Bool) (tag : Tag) (is_tag : IsTag context.main O src s.at j b e empty tag) (well_named : IsWellNamed (listed (scope_of s.stack) tag.declarations) tag)
      (W : Type 0) (few : W → attributes_so_far s.stack s.done + length tag.attributes ≤ most_attributes) (few_pairs : W → length (with_new (distinct_pairs (pairs_so_far s.stack s.done)) (listable_of tag.declarations)) ≤ most_pairs) where
    abbrev is : TagParts context.main O src s.at j b e empty tag
    is = tag_parts is_tag

    -- What is read of it is a front of it.
    tag_front : (p c : ℕ) (name : Name) (as' : List Attribute) → TagTo context.main O src s p b c name as' → (rest : List Attribute) × (is.written ≡ as' ++ rest) × Next context.main O src p empty j c rest
    tag_front p c name as' (n, is_name, no_xmlns, attributes, declarable, few) =
        let same : n ≡ tag.name_end = (one_qname src (s.at + 1) n tag.name_end name tag.name is_name is.is_name).1 in
        front tag.name_end p is.last b c e j empty as' is.written (subst (λ (n : ℕ). Attributes context.main O src n p b c as') same attributes) is.attributes is.ends

    -- A character begins after it.
    to_cut : (p c : ℕ) (name : Name) (as' : List Attribute) → TagTo context.main O src s p b c name as' → IsCharBoundary src p
    to_cut p c name as' (n, is_name, no_xmlns, attributes, declarable, few) =
        let cut' : IsCharBoundary src (s.at + 1) = cut_behind src s.at 60 utf8 is.begins (omega arith) (omega arith) in
        attributes_cut n p b c as' (qname_text src (s.at + 1) name n utf8 cut' is_name).3 attributes

    -- A name with no white space in front.
    space_apart : (p c : ℕ) (rest : List Attribute) (f : Fault) → IsCharBoundary src p → Next context.main O src p empty j c rest → byte src p ≢ 47 → byte src p ≢ 62 → IsMissing src p a_space f → ⊥
    space_apart p c rest f cut' k no_slash no_close lack = grind (arith, run_end_le, end_byte, space_stands)

    -- Nor an attribute that lacks something.
    pair_in : (p q c : ℕ) (rest : List Attribute) (t : DueItem) (f : Fault) → Next context.main O src p empty j c rest → byte src (spaces_end src p) ≢ 47 → byte src (spaces_end src p) ≢ 62 → DueInPair src (spaces_end src p) q t → IsMissing src q t f → ⊥
    pair_in p q c rest t f (it_ends ends) no_slash no_close due lack = elim (end_byte src p j empty ends) as (λ s. ⊥) [ inl close ↦ no_close close | inr slash ↦ no_slash slash ]
    pair_in p q c rest t f (it_goes k d _ more spaces (attribute n v e name value is' read)) no_slash no_close due lack = pair_apart src utf8 (spaces_end src p) n v e k q name t f is'.0 is'.1 is'.2 due lack

    -- The value of an attribute that is after.
    value_in : (p n v e k c : ℕ) (rest : List Attribute) (name : Name) → Next context.main O src p empty j c rest → IsQName src (spaces_end src p) name n → IsEq src n v → IsAttValue src v e k
        → (d : ℕ) × (w : List ℕ) × Value context.main O src e (v + 1) c d w
    value_in p n v e k c rest name next named eq literal = grind (arith, name_follows, parts_of, one_qname)

    -- A declaration that is after these is one of the tag.
    declared_there : (p k c d : ℕ) (as' rest : List Attribute) (a : Attribute) → is.written ≡ as' ++ rest → Next context.main O src p empty j c rest → p < spaces_end src p → IsAttribute context.main O src (spaces_end src p) k c d a
        → is_namespace_decl a.name ≡ true → (more : List NamespaceDecl) × (tag.declarations ≡ namespace_decls_of as' ++ namespace_decl_of a ∷ more)
    declared_there p k c d as' rest a same next spaces is' declares' = grind (arith, common_steps, name_follows p j c a.name_end empty rest a.name next (parts_of context.main O src (spaces_end src p) k c d a is').is_name, one_turn)

    -- Nor one that may not be declared.
    declared_in : (p k c d : ℕ) (as' rest : List Attribute) (a : Attribute) (f : Fault) → is.written ≡ as' ++ rest → Next context.main O src p empty j c rest → p < spaces_end src p → IsAttribute context.main O src (spaces_end src p) k c d a
        → is_namespace_decl a.name ≡ true → IllDeclared src (namespace_decls_of as') a f → ⊥
    declared_in p k c d as' rest a f same next spaces is' declares' ill =
        let there = declared_there p k c d as' rest a same next spaces is' declares' in
        let may = declarable_at [] (namespace_decls_of as') there.0 (namespace_decl_of a) (subst (DeclarableBehind []) there.1 (declarable_behind tag.declarations well_named.1)) in
        declared_apart src (namespace_decls_of as') a f may.0 may.1 ill

    -- Nor a name that is unknown, or stands twice.
    named_in : (f : Fault) → IllNamed src s.at (listed (scope_of s.stack) tag.declarations) tag.name tag.attributes f → ⊥
    named_in f (unknown_attribute before after a name split distinct unknown holds) = grind (arith, distinct_at (listed (scope_of s.stack) tag.declarations) [] before after a (subst (DistinctBehind (listed (scope_of s.stack) tag.declarations) []) split (distinct_behind (listed (scope_of s.stack) tag.declarations) tag.attributes well_named.2)))
    named_in f (twice before after a name split distinct known again' holds) = grind (arith, distinct_at (listed (scope_of s.stack) tag.declarations) [] before after a (subst (DistinctBehind (listed (scope_of s.stack) tag.declarations) []) split (distinct_behind (listed (scope_of s.stack) tag.declarations) tag.attributes well_named.2)))
    named_in f (unknown_element name distinct unknown holds) = true≢false (sym well_named.3 ∙ unknown)

    -- It is the tag that is there.
    same_tag : (p k c : ℕ) (x : Bool) (name : Name) (as' : List Attribute) (to : TagTo context.main O src s p b c name as') → TagEnds src p x k
        → ◌≡◌ {A = Tag} (record { name = name; name_end = to.0; declarations = namespace_decls_of as'; attributes = plain_attributes_of as' }) tag
    same_tag p k c x name as' to ends =
        let t : Tag = record { name = name; name_end = to.0; declarations = namespace_decls_of as'; attributes = plain_attributes_of as' } in
        (one_tag context O agrees src utf8 s.at k j b c e t tag x empty (start_tag to.0 p name as' is.begins to.1 to.3 ends) is_tag).1

    -- So no fault of a start tag is in it but those of the limits: rows 1 to 6, 9, 10, 13 to 15, 19 to 24, 31.
    pub tag_apart : (f : Fault) → InTag context.main O src s b f → IsOver W f
    tag_apart f (no_name _ lack) = absurd (qname_stands src (s.at + 1) tag.name_end tag.name f is.is_name lack)
    tag_apart f (xmlns_prefix name n named prefix) =
        let same : name ≡ tag.name = (one_qname src (s.at + 1) n tag.name_end name tag.name named is.is_name).0 in
        absurd (true≢false (sym ((bytes_eq-Decides tag.name.prefix (word_text word.Xmlns)).1 (ap (λ (n : Name). n.prefix) (sym same) ∙ prefix)) ∙ well_named.0))
    tag_apart f (in_rest p c name as' _ to (cut past)) =
        let x = tag_front p c name as' to in let l = next_within p j c empty x.0 x.2 in absurd (omega (arith, run_end_le is_space src p))
    tag_apart f (in_rest p c name as' _ to (no_rest below past)) = let x = tag_front p c name as' to in let l = next_within p j c empty x.0 x.2 in absurd (omega arith)
    tag_apart f (faults.InTag.in_rest p c name as' _ to (faults.InTagRest.no_space _ below no_slash no_close lack)) = let x = tag_front p c name as' to in absurd (space_apart p c x.0 f (to_cut p c name as' to) x.2 no_slash no_close lack)
    tag_apart f (in_rest p c name as' _ to (not_closed _ slash lack)) = let x = tag_front p c name as' to in absurd (slash_apart p j c empty x.0 f x.2 slash lack)
    tag_apart f (in_rest p c name as' _ to (in_pair _ spaces inside no_slash no_close (q, t, due, lack))) = let x = tag_front p c name as' to in absurd (pair_in p q c x.0 t f x.2 no_slash no_close due lack)
    tag_apart f (in_rest p c name as' _ to (ill_declared d k a _ spaces is' declares' ill)) = let x = tag_front p c name as' to in absurd (declared_in p k c d as' x.0 a f x.1 x.2 spaces is' declares' ill)
    tag_apart f (in_rest p c name as' _ to (too_many_pairs d k a spaces is' declares' may once many)) =
        let over = more_pairs_counted s.stack s.done (namespace_decls_of as' ++ namespace_decl_of a ∷ []) many in
        let x = tag_front p c name as' to in
        let there = declared_there p k c d as' x.0 a x.1 x.2 spaces is' declares' in
        let split : tag.declarations ≡ namespace_decls_of as' ++ namespace_decl_of a ∷ [] ++ there.0 = there.1 ∙ sym (append_assoc (namespace_decls_of as') (namespace_decl_of a ∷ []) there.0) in
        let more' = pairs_more (distinct_pairs (pairs_so_far s.stack s.done)) (namespace_decls_of as' ++ namespace_decl_of a ∷ []) there.0 in
        grind arith
    tag_apart f (in_rest p c name as' _ to (too_many_attributes k x ends over)) =
        let same : length (plain_attributes_of as') ≡ length tag.attributes = ap (λ (t : Tag). length t.attributes) (same_tag p k c x name as' to ends) in
        attributes_over W (λ w. (let all = few w in omega (arith, attributes_are s.stack s.done)))
    tag_apart f (in_rest p c name as' _ to (ill_named k x _ ends few' ill)) =
        absurd (named_in f (subst (λ (t : Tag). IllNamed src s.at (listed (scope_of s.stack) t.declarations) t.name t.attributes f) (same_tag p k c x name as' to ends) ill))

    -- And a value in it is read.
    pub value_there : (p c n v e' k : ℕ) (tag_name : Name) (as' : List Attribute) (name : Name) → TagTo context.main O src s p b c tag_name as' → IsQName src (spaces_end src p) name n → IsEq src n v → IsAttValue src v e' k
        → (d : ℕ) × (w : List ℕ) × Value context.main O src e' (v + 1) c d w
    value_there p c n v e' k tag_name as' name to named eq literal = let x = tag_front p c tag_name as' to in value_in p n v e' k c x.0 name x.2 named eq literal
