-- What is around the root element.
use Rattle.std.proofs.Common.{◌≡◌, ℕ, zero, suc, ◌+◌, ◌<◌, ◌≤◌, ◌==◌, Bool, true, false, List, [], ◌++◌, length, drop, Ok, refl, sym, ap, ◌∙◌, subst, arith, IsUtf8, IsCharBoundary}
use Rattle.std.specs.List.{starts_with}
use Rattle.std.specs.Char.{encode_utf8}
use Rattle.std.proofs.lemmas.Str.{IsCharBoundary-start, IsCharBoundary-after_ascii, IsCharBoundary-at_seam, IsUtf8-past_char}
use Rattle.std.proofs.lemmas.Bool.{false_from_ne_true, cond_both}
use Rattle.std.proofs.lemmas.Bool.Decides.{Decides-eqb}
use Rattle.std.proofs.lemmas.Slice.Eq.{starts_is}
use Rattle.rox_grammar.specs.declared.fault.Word.TheVariants as word
use Rattle.rox_grammar.specs.Chars.{is_space}
use Rattle.rox_grammar.specs.FixedTexts.{word_text, at}
use Rattle.rox_grammar.specs.Forest.{Forest, Nil, join, size}
use Rattle.rox_grammar.specs.Written.{NamespaceDecl, Item, Comment, PI, merge, leaf}
use Rattle.rox_grammar.specs.Tree.{scope_in}
use Rattle.rox_grammar.specs.Names.{byte, spaces_end}
use Rattle.rox_grammar.specs.Constructs.{IsXmlDecl, xml_decl}
use Rattle.rox_grammar.specs.Content.{Inclusion, IsMisc, comment, instruction, IsElement, empty, nest, TagEnds, opened, closed, start_tag}
use Rattle.rox_grammar.specs.TextStart.{after_bom, MayHaveXmlDecl, declared, not_declared, bom}
use Rattle.rox_grammar.specs.Entities.{Entity}
use Rattle.rox_grammar.specs.Doctype.{Asked, IsDoctype}
use Rattle.rox_grammar.specs.Document.{Permits, Misc, no_misc, space, an_item}
use Rattle.rox_grammar.specs.Counts.{own_attributes, own_pairs}
use Rattle.rox_theory.specs.ParseParts.{MayHaveDoctype, doctype, no_doctype}
use Rattle.rox_grammar.specs.WellNamed.{ItemWellNamed}
use Rattle.rox_reading.specs.Markup.{comment_at, Instruction, instruction_at, xml_decl_at}
use Rattle.rox_grammar.specs.State.{root}
use Rattle.rox_grammar.proofs.AtPlace.{run_at_end}
use Rattle.rox_reading.specs.State.{State}
use Rattle.rox_reading.specs.Machine.{with_item, comment_step, instruction_step}
use Rattle.rox_reading.specs.Doctype.{Reply, replies_of, AreTextReplies, Asks, Dtd}
use Rattle.rox_reading.specs.WholeText.{misc, prolog}
use Rattle.rox_reading.specs.WholeText as whole
use Rattle.rox_reading.proofs.Forests.{join-nil, join_assoc, merge-more}
use Rattle.rox_theory.specs.ValidState.{state}
use Rattle.rox_theory.specs.Openers.{AreTexts}
use Rattle.rox_theory.proofs.Productions.{comment_parts, pi_parts, end_parts}
use Rattle.rox_theory.proofs.Basics.{within as byte_within, ok_same, bind_ok, chosen}
use Rattle.rox_theory.proofs.Constructions.{name_byte, comment_bytes, instruction_bytes, doctype_bytes}
use Rattle.rox_theory.proofs.NameLemmas.{run_stops}
use Rattle.rox_theory.proofs.DeclarationLemmas.{stands_reads, declaration_sound, declaration_complete}
use Rattle.rox_theory.proofs.Places.{over_spaces, spaces_on, space_within}
use Rattle.rox_theory.proofs.CharTexts.{run_cut}
use Rattle.rox_theory.proofs.Standing.{IsValidState}
use Rattle.rox_theory.proofs.Leaves.{with_leaf, fine_there, fits_counted, item_read}
use Rattle.rox_theory.proofs.MarkupLemmas.{comment_sound, comment_complete, instruction_sound, instruction_complete}

-- ---- where a character begins

-- What ends there ends in an ASCII byte.
abbrev pub Ends : List ℕ → ℕ → Type 0
Ends src j = (k : ℕ) × (j ≡ k + 1) × (k < length src) × (byte src k < 128)

-- A character begins after it.
pub ends_cut : (src : List ℕ) (j : ℕ) → IsUtf8 src → Ends src j → IsCharBoundary src j
ends_cut src j utf8 (k, is, within, ascii) = subst (IsCharBoundary src) (sym is) (IsCharBoundary-after_ascii src k utf8 within ascii)

-- What ends in this byte.
pub ends_by : (src : List ℕ) (j k b : ℕ) → j ≡ k + 1 → byte src k ≡ b → 0 < b → b < 128 → Ends src j
ends_by src j k b is here some ascii = (k, is, byte_within src k (λ z. omega arith), omega arith)

-- Comments and instructions do.
pub misc_ends : (src : List ℕ) (i j : ℕ) (item : Item) → IsMisc src i j item → Ends src j
misc_ends src i j item (comment _ e _ is) =
    ends_by src j (e + 2) 62 (omega (arith, (comment_parts is).next)) (stands_reads (word_text word.CommentEnd) src e 2 (comment_parts is).closes (omega arith)) (omega arith) (omega arith)
misc_ends src i j item (instruction _ n e _ is) =
    ends_by src j (e + 1) 62 (omega (arith, (pi_parts is).next)) (stands_reads (word_text word.PIEnd) src e 1 (pi_parts is).closes (omega arith)) (omega arith) (omega arith)

-- Tags do.
pub tag_ends : (src : List ℕ) (i j : ℕ) (is_empty : Bool) → TagEnds src i is_empty j → Ends src j
tag_ends src i j is_empty (opened _ close) = ends_by src j (spaces_end src i) 62 refl close (omega arith) (omega arith)
tag_ends src i j is_empty (closed _ slash close) = ends_by src j (spaces_end src i + 1) 62 (omega arith) close (omega arith) (omega arith)

-- Elements do.
pub element_ends : (main : Bool) (O : Inclusion) (src : List ℕ) (i j b c : ℕ) (one : Forest Item) → IsElement main O src i j b c one → Ends src j
element_ends main O src i j b c one (empty _ _ _ _ _ (start_tag n last name written begin is_name list end)) = tag_ends src last j true end
element_ends main O src i j b c one (nest _ k m p _ _ d _ t kids tag inner end) = ends_by src j (spaces_end src p) 62 (end_parts end).next (end_parts end).closes (omega arith) (omega arith)

-- The declaration does.
pub declaration_ends : (src : List ℕ) (i j : ℕ) → IsXmlDecl src i j → Ends src j
declaration_ends src i j (xml_decl _ q opens to last closes) =
    ends_by src j (q + 1) 62 (omega arith) (stands_reads (word_text word.PIEnd) src q 1 closes (omega arith)) (omega arith) (omega arith)

-- A character begins after the byte order mark.
pub bom_cut : (src : List ℕ) → IsUtf8 src → IsCharBoundary src (after_bom src)
unfolding encode_utf8
bom_cut src utf8 =
    cond_both (starts_with ◌==◌ src bom) 3 0 (IsCharBoundary src)
    (λ marked.
    let split : src ≡ bom ++ drop (length bom) src = (starts_is Decides-eqb src bom true (sym marked)).0 refl in
    IsCharBoundary-at_seam src bom (drop (length bom) src) split (IsUtf8-past_char src (drop (length bom) src) 0xFEFF utf8 split))
    (λ bare. IsCharBoundary-start src utf8)

-- ---- where comments and processing instructions stop

pub record Stops (src : List ℕ) (i : ℕ) : Type 0 where
  pub no_space : spaces_end src i ≡ i
  pub no_comment : at word.CommentStart src i ≡ false
  pub no_instruction : at word.PIStart src i ≡ false

-- `<` is no white space.
pub no_spaces : (src : List ℕ) (i : ℕ) → byte src i ≡ 60 → spaces_end src i ≡ i
no_spaces src i here = run_stops is_space src i (byte_within src i (λ z. omega arith)) (omega arith) (rw here refl)

-- An element is neither white space nor one of them, nor a document type declaration.
pub element_stops : (main : Bool) (O : Inclusion) (src : List ℕ) (i j b c : ℕ) (one : Forest Item) → IsElement main O src i j b c one → (byte src i ≡ 60) × (at word.DoctypeStart src i ≡ false) × Stops src i
element_stops main O src i j b c one is = grind (arith, name_byte, doctype_bytes, no_spaces, comment_bytes, instruction_bytes)

-- Nor does anything stand at the end.
pub end_stops : (src : List ℕ) → Stops src (length src)
end_stops src =
    record {
      no_space = run_at_end is_space src (length src) (omega arith);
      no_comment = false_from_ne_true _ (λ h. let b = comment_bytes src (length src) h in omega arith);
      no_instruction = false_from_ne_true _ (λ h. let b = instruction_bytes src (length src) h in omega arith);
    }

module _ (src : List ℕ) (utf8 : IsUtf8 src) where
  -- What is read of a comment is there.
  pub comment_is : (i j : ℕ) (text : List ℕ) → at word.CommentStart src i ≡ true → comment_at src i ≡ Ok (text, j) → IsMisc src i j (Comment i j text)
  comment_is i j text means read =
      let s = comment_sound src utf8 i j text means read in
      rw s.2 (comment i s.0 j s.1)

  -- And of an instruction.
  pub instruction_is : (i j : ℕ) (x : Instruction) → at word.PIStart src i ≡ true → instruction_at src i ≡ Ok (x, j) → IsMisc src i j (PI i j x.target x.value)
  instruction_is i j x means read =
      let s = instruction_sound src utf8 i j x means read in
      rw s.3 (instruction i s.0 s.1 j s.2)

  -- ---- what is read is Misc

  -- What is read of them from a place on.
  abbrev pub MiscRead : ℕ → ℕ → ℕ → Forest Item → State → Type 0
  MiscRead most b i done u = (items : Forest Item) × Misc src i u.at items × (u ≡ state u.at (join done items) root b) × IsValidState most u × IsCharBoundary src u.at

  -- An item that neither declares anything nor has attributes.
  abbrev plain : Item → Type 0
  plain item = (own_attributes item ≡ 0) × (own_pairs item ≡ []) × ((scope : List NamespaceDecl) → ItemWellNamed scope item)

  -- Comments and instructions are plain.
  pub misc_plain : (i j : ℕ) (item : Item) → IsMisc src i j item → plain item
  misc_plain i j item h = grind arith

  -- An item, and then what follows it.
  item_then : (most b i j : ℕ) (done : Forest Item) (item : Item) (u : State) → IsMisc src i j item → MiscRead most b j (join done (leaf item)) u → MiscRead most b i done u
  item_then most b i j done item u is (items, more, e, fine, stops) =
      (join (leaf item) items, an_item i j u.at item items is more, e ∙ ap (λ (f : Forest Item). state u.at f root b) (join_assoc done (leaf item) items), fine, stops)

  -- White space in front.
  spaces_then : (most b i : ℕ) (done : Forest Item) (u : State) → IsCharBoundary src i → MiscRead most b (spaces_end src i) done u → MiscRead most b i done u
  spaces_then most b i done u cut (items, more, e, fine, stops) =
      (items, (over_spaces src (λ (k : ℕ). Misc src k u.at items) i utf8 cut (λ k is rest. space k u.at items is rest)).1 more, e, fine, stops)

  -- What is read of them is there.
  pub misc_sound : (n limit most b i : ℕ) (done : Forest Item) (u : State) → limit ≤ most → IsCharBoundary src i → IsValidState most (state i done root b) → misc limit n src (state i done root b) ≡ Ok u
      → MiscRead most b i done u
  unfolding misc comment_step instruction_step
  misc_sound zero limit most b i done u more cut fine h =
      let e : state i done root b ≡ u = cc in
      subst (λ (u : State). MiscRead most b i done u) e (Nil, no_misc i, rw join-nil refl, fine, cut)
  misc_sound (suc n) limit most b i done u more cut fine h =
      let k = spaces_end src i in
      let fine' = fine_there most (state i done root b) (state k done root b) refl refl fine in
      let go : (j : ℕ) (item : Item) (t : State) → IsMisc src k j item → with_item limit (state k done root b) j item ≡ Ok t → misc limit n src t ≡ Ok u → MiscRead most b i done u =
      λ j item t is one rest.
      let p = misc_plain k j item is in
      let both = item_read limit most (state k done root b) t j item more p.0 p.1 (p.2 (scope_in [] item)) fine' one in
      let here : misc limit n src (state j (join done (leaf item)) root b) ≡ Ok u = subst (λ (t : State). misc limit n src t ≡ Ok u) both.0 rest in
      let next = misc_sound n limit most b j (join done (leaf item)) u more (ends_cut src j utf8 (misc_ends src k j item is)) (subst (IsValidState most) both.0 both.1) here in
      spaces_then most b i done u cut (item_then most b k j done item u is next)
      in
      chosen (at word.CommentStart src k) _ _ _ h
      (λ here h. bind_ok (comment_step limit src (state k done root b)) _ _ h (λ t one rest.
      bind_ok (comment_at src k) _ _ one (λ x read one. go x.1 (Comment k x.1 x.0) t (comment_is k x.1 x.0 here read) one rest)))
      (λ none h. chosen (at word.PIStart src k) _ _ _ h
      (λ here h. bind_ok (instruction_step limit src (state k done root b)) _ _ h (λ t one rest.
      bind_ok (instruction_at src k) _ _ one (λ x read one. go x.1 (PI k x.1 x.0.target x.0.value) t (instruction_is k x.1 x.0 here read) one rest)))
      (λ none h.
      let e : state k done root b ≡ u = cc in
      subst (λ (u : State). MiscRead most b i done u) e (spaces_then most b i done (state k done root b) cut (Nil, no_misc k, rw join-nil refl, fine', run_cut is_space src i utf8 cut))))

  -- ---- Misc is what is read

  -- Each of them moves forward.
  pub misc_moves : (i j : ℕ) (item : Item) → IsMisc src i j item → i < j
  misc_moves i j item h = grind (arith, comment_sound, comment_complete, instruction_sound, instruction_complete)

  -- One of them, with its white space taken.
  one_misc : (n limit b i j : ℕ) (item : Item) (done : Forest Item) (u : State) → IsMisc src i j item → size (merge (join done (leaf item))) + 1 ≤ limit
      → misc limit n src (state j (join done (leaf item)) root b) ≡ Ok u → misc limit (suc n) src (state i done root b) ≡ Ok u
  unfolding misc comment_step instruction_step
  one_misc n limit b i j item done u (comment _ e _ is) fits rest = grind (arith, comment_bytes, comment_parts, no_spaces, comment_complete)
  one_misc n limit b i j item done u (instruction _ t e _ is) fits rest =
      let bytes = instruction_bytes src i (pi_parts is).opens in
      let none : at word.CommentStart src i ≡ false = false_from_ne_true _ (λ h. let other = comment_bytes src i h in omega arith) in
      let counts = fits_counted limit (with_leaf (state i done root b) j item) (omega arith) in
      rw (no_spaces src i bytes.1, none, (pi_parts is).opens, instruction_complete src i t e j is, counts) rest

  -- Each begins within the source.
  pub misc_within : (i j : ℕ) (item : Item) → IsMisc src i j item → i < length src
  misc_within i j item (comment _ e _ is) = let bytes = comment_bytes src i (comment_parts is).opens in omega arith
  misc_within i j item (instruction _ n e _ is) = let bytes = instruction_bytes src i (pi_parts is).opens in omega arith

  -- What is there of them is read.
  pub misc_complete : (n limit b i j : ℕ) (items done : Forest Item) → Misc src i j items → Stops src j → size (merge (join done items)) + 1 ≤ limit → length src ≤ i + n
      → misc limit n src (state i done root b) ≡ Ok (state j (join done items) root b)
  unfolding misc
  misc_complete zero limit b i j items done (no_misc _) stops fits enough = rw join-nil refl
  misc_complete (suc n) limit b i j items done (no_misc _) stops fits enough = rw (stops.no_space, stops.no_comment, stops.no_instruction, join-nil) refl
  misc_complete zero limit b i j items done (space _ _ _ is rest) stops fits enough = absurd (omega (arith, space_within src i is))
  misc_complete (suc n) limit b i j items done (space _ _ _ is rest) stops fits enough =
      let next = misc_complete (suc n) limit b (i + 1) j items done rest stops fits (omega arith) in
      rw (spaces_on src i is) next
  misc_complete zero limit b i j items done (an_item _ k _ item more is rest) stops fits enough = absurd (omega (arith, misc_within i k item is))
  misc_complete (suc n) limit b i j items done (an_item _ k _ item more is rest) stops fits enough =
      let e = join_assoc done (leaf item) more in
      let all : size (merge (join (join done (leaf item)) more)) + 1 ≤ limit = rw e fits in
      let moves = misc_moves i k item is in
      let next = misc_complete n limit b k j more (join done (leaf item)) rest stops all (omega arith) in
      one_misc n limit b i k item done (state j (join done items) root b) is (omega (arith, merge-more (join done (leaf item)) more)) (next ∙ ap (λ (f : Forest Item). Ok (state j f root b)) e)

  -- ---- the declaration

  -- What is read of it is there.
  pub prolog_sound : (i j : ℕ) → prolog src i ≡ Ok j → MayHaveXmlDecl src i j
  unfolding prolog
  prolog_sound i j h =
      chosen (at word.XmlDeclStart src i) _ _ _ h
      (λ here h. bind_ok (xml_decl_at src i) _ _ h (λ x read h. let e : x.1 ≡ j = cc in subst (MayHaveXmlDecl src i) e (declared i x.1 (declaration_sound src utf8 i x.1 x.0 here read))))
      (λ none h. let e : i ≡ j = cc in subst (MayHaveXmlDecl src i) e (not_declared i none))

  -- What is there is read.
  pub prolog_complete : (i j : ℕ) → MayHaveXmlDecl src i j → prolog src i ≡ Ok j
  unfolding prolog
  prolog_complete i j h = grind (arith, declaration_complete)

  -- A character begins after it.
  pub prolog_cut : (i j : ℕ) → IsCharBoundary src i → MayHaveXmlDecl src i j → IsCharBoundary src j
  prolog_cut i j cut k = grind (arith, ends_cut, declaration_ends)

-- ---- the document type declaration

-- It is neither a comment nor an instruction, nor white space.
pub doctype_stops : (src : List ℕ) (i : ℕ) → at word.DoctypeStart src i ≡ true → Stops src i
doctype_stops src i h =
    let bytes = doctype_bytes src i h in
    let third : byte src (i + 2) ≡ 68 = stands_reads (word_text word.DoctypeStart) src i 2 h (omega arith) in
    record {
      no_space = no_spaces src i bytes.1;
      no_comment = false_from_ne_true _ (λ k. let other : byte src (i + 2) ≡ 45 = stands_reads (word_text word.CommentStart) src i 2 k (omega arith) in omega arith);
      no_instruction = false_from_ne_true _ (λ k. let other = instruction_bytes src i k in omega arith);
    }

-- How a document type declaration, with what follows it, is read from the items before it on: as it is there, where one is allowed,
-- and its entities are text. One that is cut off by the end of the text has no fault of its own.
pub record DoctypesAgree (src : List ℕ) (allow : Bool) : Type 0 where
  pub sound : (limit most i : ℕ) (before : Forest Item) (replies : List Reply) (asked : List Asked) (d : Dtd) → limit ≤ most → AreTextReplies replies → IsValidState most (state i before root 255)
      → whole.doctype limit allow src (record { state = state i before root 255; entities = []; replies = replies }) ≡ (asked, Ok d) → d.state.at < length src
      → (dtd : Bool) × (nodes : Forest Item) × MayHaveDoctype src i d.state.at dtd nodes asked d.entities × Permits allow dtd × (d.state ≡ state d.state.at (join before nodes) root 255) × IsValidState most d.state
  pub complete : (limit i j : ℕ) (dtd : Bool) (before nodes : Forest Item) (asked : List Asked) (es : List Entity) (more : List Reply) → MayHaveDoctype src i j dtd nodes asked es → Stops src j
      → at word.DoctypeStart src j ≡ false → Permits allow dtd → IsValidState limit (state j (join before nodes) root 255)
      → whole.doctype limit allow src (record { state = state i before root 255; entities = []; replies = replies_of asked ++ more })
      ≡ (asked, Ok (record { state = state j (join before nodes) root 255; entities = es; replies = more }))
  pub texts : (i j : ℕ) (dtd : Bool) (nodes : Forest Item) (asked : List Asked) (es : List Entity) → MayHaveDoctype src i j dtd nodes asked es → Permits allow dtd → AreTexts es

-- Where none is allowed, what is read has none.
none_sound : (src : List ℕ) (limit most i : ℕ) (before : Forest Item) (replies : List Reply) (asked : List Asked) (d : Dtd) → limit ≤ most → AreTextReplies replies → IsValidState most (state i before root 255)
    → whole.doctype limit false src (record { state = state i before root 255; entities = []; replies = replies }) ≡ (asked, Ok d) → d.state.at < length src
    → (dtd : Bool) × (nodes : Forest Item) × MayHaveDoctype src i d.state.at dtd nodes asked d.entities × Permits false dtd × (d.state ≡ state d.state.at (join before nodes) root 255) × IsValidState most d.state
unfolding whole.doctype
none_sound src limit most i before replies asked d more texts fine h inside =
    chosen (at word.DoctypeStart src i) _ _ _ h
    (λ here h. cc (ap (λ (x : Asks Dtd). x.1) h))
    (λ none h.
    let start : Dtd = record { state = state i before root 255; entities = []; replies = replies } in
    let P : Dtd → Type 0 = λ d. (dtd : Bool) × (nodes : Forest Item) × MayHaveDoctype src i d.state.at dtd nodes asked d.entities × Permits false dtd × (d.state ≡ state d.state.at (join before nodes) root 255) × IsValidState most d.state in
    subst P (ok_same start d (ap (λ (x : Asks Dtd). x.1) h))
    (false, Nil, subst (λ (asked : List Asked). MayHaveDoctype src i i false Nil asked []) (ap (λ (x : Asks Dtd). x.0) h) (no_doctype i), λ h. h, rw join-nil refl, fine))

-- And where it has none nothing is read.
none_complete : (src : List ℕ) (limit i j : ℕ) (dtd : Bool) (before nodes : Forest Item) (asked : List Asked) (es : List Entity) (more : List Reply) → MayHaveDoctype src i j dtd nodes asked es → Stops src j
    → at word.DoctypeStart src j ≡ false → Permits false dtd → IsValidState limit (state j (join before nodes) root 255)
    → whole.doctype limit false src (record { state = state i before root 255; entities = []; replies = replies_of asked ++ more })
    ≡ (asked, Ok (record { state = state j (join before nodes) root 255; entities = es; replies = more }))
unfolding whole.doctype
none_complete src limit i j dtd before nodes asked es more h k p q r = grind (arith, join-nil)

none_texts : (src : List ℕ) (i j : ℕ) (dtd : Bool) (nodes : Forest Item) (asked : List Asked) (es : List Entity) → MayHaveDoctype src i j dtd nodes asked es → Permits false dtd → AreTexts es
none_texts src i j dtd nodes asked es h permits = grind arith

pub none_agree : (src : List ℕ) → DoctypesAgree src false
none_agree src = record { sound = none_sound src; complete = none_complete src; texts = none_texts src }

-- How it begins.
pub doctype_opens : (src : List ℕ) (i j : ℕ) (items : Forest Item) (asked : List Asked) (es : List Entity) → IsDoctype src i j items asked es → at word.DoctypeStart src i ≡ true
doctype_opens src i j items asked es h = grind arith

-- What comes before it stops.
pub begins_stop : (src : List ℕ) (i j : ℕ) (dtd : Bool) (items : Forest Item) (asked : List Asked) (es : List Entity) → MayHaveDoctype src i j dtd items asked es → Stops src j → Stops src i
begins_stop src i j dtd items asked es (doctype _ k _ own others _ _ is rest) stops = doctype_stops src i (doctype_opens src i k own asked es is)
begins_stop src i j dtd items asked es (no_doctype _) stops = stops

-- One is there where it begins.
pub dtd_begins : (src : List ℕ) (i j : ℕ) (dtd : Bool) (items : Forest Item) (asked : List Asked) (es : List Entity) → MayHaveDoctype src i j dtd items asked es → at word.DoctypeStart src j ≡ false
    → at word.DoctypeStart src i ≡ dtd
dtd_begins src i j dtd items asked es h none = grind (arith, doctype_opens)
