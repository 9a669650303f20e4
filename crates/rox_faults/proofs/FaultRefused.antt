-- The refusal of a whole text, with a document type declaration or without.
use Rattle.std.proofs.Common.{◌≡◌, ℕ, zero, suc, ◌+◌, ◌≤◌, max, ◌==◌, Bool, true, false, nat_lt, List, [], ◌++◌, length, refl, sym, ap, ◌∙◌, subst, arith, inl, IsUtf8, IsCharBoundary, append-nil}
use Rattle.std.specs.Prelude.{Result, Ok, Err}
use Rattle.std.proofs.lemmas.Bool.{cond_both, eqb-true, ltb-true}
use Rattle.rox_grammar.specs.declared.fault.Fault.{Fault}
use Rattle.rox_grammar.specs.declared.fault.Fault.TheVariants as fault
use Rattle.rox_grammar.specs.declared.fault.Word.TheVariants as word
use Rattle.rox_grammar.specs.Chars.{is_space}
use Rattle.rox_grammar.specs.Forest.{Forest, Nil, join}
use Rattle.rox_grammar.specs.Written.{Item}
use Rattle.rox_grammar.specs.Names.{byte, spaces_end}
use Rattle.rox_grammar.specs.FixedTexts.{at}
use Rattle.rox_grammar.specs.Content.{IsElement}
use Rattle.rox_grammar.specs.TextStart.{after_bom}
use Rattle.rox_grammar.specs.Entities.{Entity, no_entities, Includes, most_deep, included_in_main}
use Rattle.rox_grammar.specs.Doctype.{Asked, IsDoctype}
use Rattle.rox_grammar.specs.Document.{Misc, no_misc, PrologTo, Prolog}
use Rattle.rox_theory.specs.ParseParts.{MayHaveDoctype}
use Rattle.rox_grammar.specs.State.{root, FitsLimits}
use Rattle.rox_grammar.specs.ContentPoints.{is_main}
use Rattle.rox_grammar.specs.Faults.{in_one, misc_around, one_too_many}
use Rattle.rox_grammar.specs.FaultsWithDoctype.{opens_at, RefusalOf, FaultOf, in_declaration, without, not_allowed, in_doctype, behind}
use Rattle.rox_grammar.specs.FaultsWithDoctype as rows
use Rattle.rox_reading.specs.Refusals.{Refusal, here, there, refused, lifted}
use Rattle.rox_reading.specs.State.{State}
use Rattle.rox_reading.specs.Markup.{xml_decl_at}
use Rattle.rox_reading.specs.Machine.{value_opener, opener}
use Rattle.rox_reading.specs.Doctype.{Reply, Asks, asks_nothing, ◌>>>◌, Dtd, with_state, AreTextReplies, doctype_step}
use Rattle.rox_reading.specs.WholeText.{misc, body, finished, prolog, reading}
use Rattle.rox_reading.specs.WholeText as whole
use Rattle.rox_reading.proofs.Forests.{join-nil, join_assoc}
use Rattle.rox_theory.specs.ValidState.{IsValidState, state}
use Rattle.rox_theory.specs.Openers.{AreTexts, AgreesValue, AgreesContent}
use Rattle.rox_theory.proofs.Basics.{chosen, within, run_end_le}
use Rattle.rox_theory.proofs.Constructions.{comment_bytes, instruction_bytes}
use Rattle.rox_theory.proofs.Openers.{values_agree}
use Rattle.rox_theory.proofs.ContentOpeners.{openers_agree}
use Rattle.rox_theory.proofs.Around.{bom_cut, misc_sound, prolog_sound, prolog_cut}
use Rattle.rox_theory.proofs.DoctypeAgreement.{texts_agree, misc_past}
use Rattle.rox_theory.proofs.FailedReadings.{bind_err, no_fault}
use Rattle.rox_faults.proofs.FaultPoints.{Refuses, From, fine_fits}
use Rattle.rox_faults.proofs.FaultWhole.{misc_append, misc_stops, declaration_fails, misc_fails, ahead_on, body_fails, finished_fails, no_texts, plain_values, plain_contents, plain_elements}
use Rattle.rox_faults.proofs.FaultSubsets.{nothing_by, asks_by, Stands, Ended, closed, cut_off, Outcome, doctype_ends}
use Rattle.rox_theory.specs.ParseParts as parts_of
use Rattle.rox_theory.proofs.ParseParts.{prolog_parts, parts_prolog}

-- What asks nothing, and may fail in any source.
result_by : {A B : Type 0} (P : Asks B → Type 0) (r : Result A Refusal) (g : A → Asks B) → ((x : A) → r ≡ Ok x → P (g x)) → ((e : Refusal) → r ≡ Err e → P ([], Err e)) → P (asks_nothing r >>> g)
result_by P r g good bad = grind arith

-- The last of it.
only_by : {A : Type 0} (P : Asks A → Type 0) (r : Result A Fault) → ((x : A) → P ([], Ok x)) → ((f : Fault) → r ≡ Err f → P ([], Err (here f))) → P (asks_nothing (lifted r))
only_by P r good bad = grind arith

-- What a reference opens, by how many are open.
pub values_at : (es : List Entity) → AreTexts es → (d k : ℕ) → d + k ≡ most_deep → AgreesValue es (opens_at es k) (value_opener es d (is_main k))
values_at es texts d k deep =
    subst (λ (n : ℕ). AgreesValue es (Includes es n (is_main k)) (value_opener es d (is_main k))) (omega arith) (values_agree es texts d (is_main k))

pub contents_at : (limit : ℕ) (es : List Entity) → AreTexts es → (d k : ℕ) → d + k ≡ most_deep → AgreesContent es limit (opens_at es k) (opener limit es d (is_main k))
contents_at limit es texts d k deep =
    subst (λ (n : ℕ). AgreesContent es limit (Includes es n (is_main k)) (opener limit es d (is_main k))) (omega arith) (openers_agree limit es texts d (is_main k))

-- More of what is after a document type declaration.
doctype_on : (src : List ℕ) (utf8 : IsUtf8 src) (asked : List Asked) (es : List Entity) (i p q : ℕ) (dtd : Bool) (nodes items : Forest Item) → dtd ≡ true → MayHaveDoctype src i p dtd nodes asked es → Misc src p q items
    → MayHaveDoctype src i q true (join nodes items) asked es
doctype_on src utf8 asked es i p q dtd nodes items is (parts_of.MayHaveDoctype.doctype _ j _ front others _ _ one rest) more =
    subst (λ (f : Forest Item). MayHaveDoctype src i q true f asked es) (sym (join_assoc front others items))
    (parts_of.MayHaveDoctype.doctype i j q front (join others items) asked es one (misc_append src utf8 j p q others items rest more))
doctype_on src utf8 asked es i p q dtd nodes items is (parts_of.MayHaveDoctype.no_doctype _) more = cc is

-- What is before the root element, with a document type declaration.
abbrev pub Declared : List ℕ → List Asked → List Entity → ℕ → Forest Item → Type 0
Declared src asked es p items = Prolog src p true items asked es

pub declared_on : (src : List ℕ) (utf8 : IsUtf8 src) (asked : List Asked) (es : List Entity) (p q : ℕ) (done items : Forest Item) → Declared src asked es p done → Misc src p q items → Declared src asked es q (join done items)
declared_on src utf8 asked es p q done items front more = grind (arith, prolog_parts, parts_prolog, doctype_on, join_assoc)

module _ (src : List ℕ) (utf8 : IsUtf8 src) (limit : ℕ) (allow : Bool) where
  -- The refusal stands.
  abbrev pub Refused : List Asked → Refusal → Type 0
  Refused asked (here f) = RefusalOf limit allow src asked src f
  Refused asked (there source f) = RefusalOf limit allow src asked source f
  Refused asked (refused request p message) = Unit {0}

  abbrev pub Whole : {A : Type 0} → Asks A → Type 0
  Whole (asked, Ok x) = Unit {0}
  Whole (asked, Err e) = Refused asked e

  -- What reads the root element and what follows it.
  abbrev rest_of : Dtd → Asks (Forest Item)
  rest_of d = asks_nothing (body limit d.entities src d.state) >>> λ x. asks_nothing (lifted (finished src x))

  abbrev most : ℕ
  most = max limit 1

  -- Where no entity is declared the fault is in the text itself.
  plain_refused : (e : Refusal) → Refuses [] (From (λ k. no_entities) [] limit src false (PrologTo src)) src e → Refused [] e
  plain_refused (here f) ill = without f ill
  plain_refused (there source f) ill = let none = ill.1.2 in cc none
  plain_refused (refused request p message) ill = tt

  -- After a document type declaration.
  behind_refused : (asked : List Asked) (es : List Entity) → allow ≡ true → (e : Refusal) → Refuses es (From (opens_at es) es limit src true (Declared src asked es)) src e → Refused asked e
  behind_refused asked es may (here f) ill = behind asked es src f may ill
  behind_refused asked es may (there source f) ill = behind asked es source f may ill.0
  behind_refused asked es may (refused request p message) ill = tt

  -- In one.
  in_refused : (i : ℕ) (before : Forest Item) → allow ≡ true → PrologTo src i before → FitsLimits limit root before → at word.DoctypeStart src i ≡ true → (asked : List Asked) (e : Refusal)
      → Stands src utf8 limit most (omega arith) (omega arith) i before asked e → Refused asked e
  in_refused i before may ahead fits opens asked (here f) ill = in_doctype i before asked src f may ahead fits opens ill
  in_refused i before may ahead fits opens asked (there source f) ill = in_doctype i before asked source f may ahead fits opens ill
  in_refused i before may ahead fits opens asked (refused request p message) ill = tt

  -- Nothing more is asked.
  nothing_more : (asked : List Asked) (e : Refusal) → Refused asked e → Refused ((asked ++ []) ++ []) e
  nothing_more asked e h = subst (λ (a : List Asked). Refused a e) (sym (append-nil (asked ++ []) ∙ append-nil asked)) h

  one_more : (asked : List Asked) (e : Refusal) → Refused asked e → Refused (asked ++ []) e
  one_more asked e h = subst (λ (a : List Asked). Refused a e) (sym (append-nil asked)) h

  -- ---- without a document type declaration

  plain_rest : (i : ℕ) (before : Forest Item) (rs : List Reply) → IsCharBoundary src i → IsValidState most (state i before root 255) → PrologTo src i before → is_space (byte src i) ≡ false → at word.CommentStart src i ≡ false
      → at word.PIStart src i ≡ false → at word.DoctypeStart src i ≡ false → Whole (rest_of (record { state = state i before root 255; entities = []; replies = rs }))
  plain_rest i before rs cut fine ahead no_space no_comment no_instruction no_doctype =
      let less : limit ≤ most = omega arith in
      let least : most ≤ max limit 1 = omega arith in
      result_by Whole (body limit [] src (state i before root 255)) _
      (λ x main. only_by Whole (finished src x) (λ tops. tt)
      (λ f bad. without f (finished_fails src utf8 (λ k. no_entities) [] limit most false (PrologTo src) less least (plain_values src utf8) (plain_contents src utf8 limit) (no_texts src utf8) (plain_elements src utf8) i before f x cut fine ahead no_space main bad)))
      (λ e bad. plain_refused e (body_fails src utf8 (λ k. no_entities) [] limit most false (PrologTo src) less least (plain_values src utf8) (plain_contents src utf8 limit) (no_texts src utf8) (plain_elements src utf8) i before e cut fine ahead
      no_comment no_instruction (λ z. no_doctype) bad))

  -- ---- after one

  -- Past the end none of comments and instructions fails.
  misc_never : (n : ℕ) (s : State) (f : Fault) → length src ≤ s.at → misc limit n src s ≡ Err f → ⊥
  unfolding misc
  misc_never zero s f past h = no_fault _ f h
  misc_never (suc n) s f past h =
      let k = spaces_end src s.at in
      let far = run_end_le is_space src s.at in
      chosen (at word.CommentStart src k) _ _ _ h (λ is h. absurd (let b = comment_bytes src k is in omega arith))
      (λ none h. chosen (at word.PIStart src k) _ _ _ h (λ is h. absurd (let b = instruction_bytes src k is in omega arith)) (λ neither h. no_fault _ f h))

  -- Nor is an element there.
  body_none : (es : List Entity) (s : State) (x : State × Bool) → length src ≤ s.at → body limit es src s ≡ Ok x → (s, false) ≡ x
  unfolding body
  body_none es s x past h = chosen (byte src s.at == 60) _ _ _ h (λ is h. absurd (let e = eqb-true _ _ is in let inside = within src s.at (λ z. omega arith) in omega arith)) (λ none h. cc)

  body_good : (es : List Entity) (s : State) (e : Refusal) → length src ≤ s.at → body limit es src s ≡ Err e → ⊥
  unfolding body
  body_good es s e past h = chosen (byte src s.at == 60) _ _ _ h (λ is h. absurd (let e = eqb-true _ _ is in let inside = within src s.at (λ z. omega arith) in omega arith)) (λ none h. no_fault _ e h)

  finished_none : (s : State) (f : Fault) → length src ≤ s.at → finished src (s, false) ≡ Err f → fault.NoRootNode ≡ f
  unfolding finished
  finished_none s f past h = chosen (nat_lt s.at (length src)) _ _ _ h (λ more h. absurd (let l = ltb-true _ _ more in omega arith)) (λ all h. cc)

  module _ (i : ℕ) (before : Forest Item) (may : allow ≡ true) (ahead : PrologTo src i before) (fits : FitsLimits limit root before) (opens : at word.DoctypeStart src i ≡ true) where
    -- What follows it.
    abbrev go_on : List Asked → Dtd → Asks Dtd
    go_on asked e = (let next = asks_nothing (lifted (misc limit (length src) src e.state)) >>> λ s. asks_nothing (Ok (with_state e s)) in (asked ++ next.0, next.1))

    -- The text ends within it.
    cut_rest : (asked : List Asked) (e : Dtd) → RefusalOf limit allow src asked src fault.NoRootNode → length src ≤ e.state.at
        → Whole (go_on asked e >>> rest_of)
    cut_rest asked e ill past =
        nothing_by (λ r. Whole ((asked ++ r.0, r.1) >>> rest_of)) (misc limit (length src) src e.state) (λ s. asks_nothing (Ok (with_state e s)))
        (λ s read.
        let far = misc_past src utf8 (length src) limit e.state s past read in
        result_by (λ r. Whole ((asked ++ []) ++ r.0, r.1)) (body limit e.entities src s) _
        (λ x main. only_by (λ r. Whole ((asked ++ []) ++ r.0, r.1)) (finished src x) (λ tops. tt)
        (λ f bad.
        let same : fault.NoRootNode ≡ f = finished_none s f far (subst (λ (x : State × Bool). finished src x ≡ Err f) (sym (body_none e.entities s x far main)) bad) in
        nothing_more asked (here f) (subst (λ (f : Fault). RefusalOf limit allow src asked src f) same ill)))
        (λ x bad. absurd (body_good e.entities s x far bad)))
        (λ f bad. absurd (misc_never (length src) e.state f past bad))

    -- It is read to its end.
    closed_rest : (asked : List Asked) (e : Dtd) (items : Forest Item) → IsDoctype src i e.state.at items asked e.entities → e.state ≡ state e.state.at (join before items) root 255 → IsCharBoundary src e.state.at → IsValidState most e.state
        → Whole (go_on asked e >>> rest_of)
    closed_rest asked e items is state_is cut fine =
        let less : limit ≤ most = omega arith in
        let least : most ≤ max limit 1 = omega arith in
        let es = e.entities in
        let PrologAt : ℕ → Forest Item → Type 0 = Declared src asked es in
        let here' : MayHaveDoctype src i e.state.at true (join items Nil) asked es = parts_of.MayHaveDoctype.doctype i e.state.at e.state.at items Nil asked es is (no_misc e.state.at) in
        let texts : AreTexts es = texts_agree src utf8 i e.state.at true (join items Nil) asked es here' in
        let point : PrologAt e.state.at (join before items) = grind (arith, parts_prolog, join-nil) in
        let on = declared_on src utf8 asked es in
        let fine' : IsValidState most (state e.state.at (join before items) root 255) = subst (IsValidState most) state_is fine in
        let elements : (i j openings_left : ℕ) (one : Forest Item) → IsElement true (included_in_main es) src i j 255 openings_left one → (openings_left' : ℕ) × IsElement true (opens_at es 0) src i j 255 openings_left' one = λ i j openings_left one is. (openings_left, is) in
        let values = values_at es texts in
        let contents = contents_at limit es texts in
        nothing_by (λ r. Whole ((asked ++ r.0, r.1) >>> rest_of)) (misc limit (length src) src e.state) (λ s. asks_nothing (Ok (with_state e s)))
        (λ s read.
        let read' : misc limit (length src) src (state e.state.at (join before items) root 255) ≡ Ok s = subst (λ (t : State). misc limit (length src) src t ≡ Ok s) state_is read in
        let m = misc_sound src utf8 (length src) limit most 255 e.state.at (join before items) s less cut fine' read' in
        let s_is : s ≡ state s.at (join (join before items) m.0) root 255 = m.2 in
        let there : PrologAt s.at (join (join before items) m.0) = on e.state.at s.at (join before items) m.0 point m.1 in
        let stops = misc_stops src utf8 (length src) limit 255 e.state.at (join before items) s cut (omega arith) read' in
        let fine'' = subst (IsValidState most) s_is m.3 in
        result_by (λ r. Whole ((asked ++ []) ++ r.0, r.1)) (body limit es src s) _
        (λ x main. only_by (λ r. Whole ((asked ++ []) ++ r.0, r.1)) (finished src x) (λ tops. tt)
        (λ f bad. nothing_more asked (here f) (behind asked es src f may
        (finished_fails src utf8 (opens_at es) es limit most true PrologAt less least values contents texts elements s.at (join (join before items) m.0) f x stops.3 fine'' there stops.0
        (subst (λ (s : State). body limit es src s ≡ Ok x) s_is main) bad))))
        (λ x bad. nothing_more asked x (behind_refused asked es may x
        (body_fails src utf8 (opens_at es) es limit most true PrologAt less least values contents texts elements s.at (join (join before items) m.0) x stops.3 fine'' there stops.1 stops.2 (λ z. cc z)
        (subst (λ (s : State). body limit es src s ≡ Err x) s_is bad)))))
        (λ f bad. one_more asked (here f) (behind asked es src f may
        (misc_fails src utf8 limit most less least f PrologAt on (From (opens_at es) es limit src true PrologAt src f) (λ p items point fits ill. misc_around p items _ (inl point) fits (in_one f ill))
        (λ p j items item point fits item_is many is. subst (From (opens_at es) es limit src true PrologAt src) is (misc_around p items _ (inl point) fits (one_too_many j item item_is many)))
        (length src) 255 e.state.at (join before items) point fine' cut (subst (λ (t : State). misc limit (length src) src t ≡ Err f) state_is bad))))

    -- Either way.
    ended_rest : (asked : List Asked) (e : Dtd) → Ended src utf8 limit most (omega arith) (omega arith) i before asked e → Whole (go_on asked e >>> rest_of)
    ended_rest asked e (closed items is state_is cut fine) = closed_rest asked e items is state_is cut fine
    ended_rest asked e (cut_off items to state_is solid fine) =
        let past : length src ≤ e.state.at = (let at_is : e.state.at ≡ length src = ap (λ (s : State). s.at) state_is in omega arith) in
        let within' = fine_fits limit most (state (length src) (join before items) root 255) (omega arith) (subst (IsValidState most) state_is fine) in
        cut_rest asked e (in_doctype i before asked src fault.NoRootNode may ahead fits opens (rows.InDoctype.in_subset (length src) items asked asked src fault.NoRootNode to within' (rows.InSubset.no_root refl solid))) past

    -- The declaration and the rest.
    pub declared_whole : (rs : List Reply) → IsValidState most (state i before root 255) → AreTextReplies rs
        → Whole (doctype_step limit src (record { state = state i before root 255; entities = []; replies = rs }) >>> (λ e. asks_nothing (lifted (misc limit (length src) src e.state)) >>> λ s. asks_nothing (Ok (with_state e s))) >>> rest_of)
    declared_whole rs fine texts =
        let start : Dtd = record { state = state i before root 255; entities = []; replies = rs } in
        let all = doctype_ends src utf8 limit most (omega arith) (omega arith) i before rs opens fine texts in
        asks_by (λ r. Whole (r >>> rest_of)) (doctype_step limit src start) (λ e. asks_nothing (lifted (misc limit (length src) src e.state)) >>> λ s. asks_nothing (Ok (with_state e s)))
        (λ asked e read. ended_rest asked e (subst (Outcome src utf8 limit most (omega arith) (omega arith) i before []) read all))
        (λ asked e read. in_refused i before may ahead fits opens asked e (subst (Outcome src utf8 limit most (omega arith) (omega arith) i before []) read all))

  -- A document type declaration, where one is, and the rest.
  doctype_whole : (i : ℕ) (before : Forest Item) (rs : List Reply) → AreTextReplies rs → IsCharBoundary src i → IsValidState most (state i before root 255) → PrologTo src i before → is_space (byte src i) ≡ false
      → at word.CommentStart src i ≡ false → at word.PIStart src i ≡ false → Whole (whole.doctype limit allow src (record { state = state i before root 255; entities = []; replies = rs }) >>> rest_of)
  unfolding whole.doctype
  doctype_whole i before rs texts cut fine ahead no_space no_comment no_instruction =
      let P : Asks Dtd → Type 0 = λ r. Whole (r >>> rest_of) in
      let fits = fine_fits limit most (state i before root 255) (omega arith) fine in
      cond_both (at word.DoctypeStart src i) _ _ P
      (λ is. cond_both allow _ _ P (λ may. declared_whole i before may ahead fits is rs fine texts) (λ none. not_allowed i before none ahead fits is))
      (λ no_doctype. plain_rest i before rs cut fine ahead no_space no_comment no_instruction no_doctype)

  -- A whole text.
  pub reading_refused : (replies : List Reply) → AreTextReplies replies → Whole (reading limit allow replies src)
  unfolding reading prolog
  reading_refused replies texts =
      let less : limit ≤ most = omega arith in
      let least : most ≤ max limit 1 = omega arith in
      let b = after_bom src in
      nothing_by Whole (prolog src b) _
      (λ i declared.
      let may = prolog_sound src utf8 b i declared in
      let cut = prolog_cut src utf8 b i (bom_cut src utf8) may in
      let first = state i Nil root 255 in
      let start : IsValidState most first = record { nodes = omega arith; attributes = omega arith; pairs = omega arith; named = tt } in
      let ahead : PrologTo src i Nil = (i, may, no_misc i) in
      nothing_by Whole (misc limit (length src) src first) _
      (λ s read.
      let m = misc_sound src utf8 (length src) limit most 255 i Nil s less cut start read in
      let s_is : s ≡ state s.at m.0 root 255 = m.2 in
      let stops = misc_stops src utf8 (length src) limit 255 i Nil s cut (omega arith) read in
      subst (λ (t : State). Whole (whole.doctype limit allow src (record { state = t; entities = []; replies = replies }) >>> rest_of)) (sym s_is)
      (doctype_whole s.at m.0 replies texts stops.3 (subst (IsValidState most) s_is m.3) (ahead_on src utf8 i s.at Nil m.0 ahead m.1) stops.0 stops.1 stops.2))
      (λ f bad.
      misc_fails src utf8 limit most less least f (PrologTo src) (ahead_on src utf8) (RefusalOf limit allow src [] src f) (λ p items point fits ill. without f (misc_around p items _ (inl point) fits (in_one f ill)))
      (λ p j items item point fits item_is many is. subst (RefusalOf limit allow src [] src) is (without fault.NodesLimitReached (misc_around p items _ (inl point) fits (one_too_many j item item_is many))))
      (length src) 255 i Nil ahead start cut bad))
      (λ f bad. chosen (at word.XmlDeclStart src b) _ _ _ bad
      (λ is bad. bind_err (xml_decl_at src b) _ f bad (λ bad. let w = declaration_fails src utf8 b f bad in in_declaration f is w) (λ x read bad. no_fault _ f bad))
      (λ none bad. no_fault _ f bad))

-- A refusal is in the source that it counts in.
pub refusal_here : (limit : ℕ) (allow : Bool) (replies : List Reply) (src : List ℕ) (asked : List Asked) (f : Fault) → IsUtf8 src → AreTextReplies replies → reading limit allow replies src ≡ (asked, Err (here f))
    → RefusalOf limit allow src asked src f
refusal_here limit allow replies src asked f utf8 texts h = subst (Whole src utf8 limit allow) h (reading_refused src utf8 limit allow replies texts)

-- Which may be another.
pub refusal_there : (limit : ℕ) (allow : Bool) (replies : List Reply) (src source : List ℕ) (asked : List Asked) (f : Fault) → IsUtf8 src → AreTextReplies replies → reading limit allow replies src ≡ (asked, Err (there source f))
    → RefusalOf limit allow src asked source f
refusal_there limit allow replies src source asked f utf8 texts h = subst (Whole src utf8 limit allow) h (reading_refused src utf8 limit allow replies texts)

-- Where no document type declaration is allowed the refusals are the faults of the text.
pub refusal_plain : (limit : ℕ) (src source : List ℕ) (asked : List Asked) (f : Fault) → RefusalOf limit false src asked source f → (asked ≡ []) × (source ≡ src) × FaultOf limit src f
refusal_plain limit src source asked f h = grind arith

pub plain_refusal : (limit : ℕ) (src : List ℕ) (f : Fault) → FaultOf limit src f → RefusalOf limit false src [] src f
plain_refusal limit src f stands = stands
