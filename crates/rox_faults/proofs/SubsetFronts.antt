-- Of two ways to read the items of a document type declaration, with the same answers as far as both go, the shorter one is a
-- front of the longer one.
use Rattle.std.proofs.Common.{◌≡◌, ℕ, ◌+◌, ◌⊎◌, Bool, true, false, List, [], ◌++◌, refl, sym, ap, ◌∙◌, subst, arith, inl, inr, append_assoc, IsUtf8, append-nil}
use Rattle.std.specs.Prelude.{Option}
use Rattle.rox_grammar.specs.declared.fault.Word.{Word}
use Rattle.rox_grammar.specs.declared.fault.Word.TheVariants as word
use Rattle.rox_grammar.specs.FixedTexts.{word_text, at}
use Rattle.rox_grammar.specs.Chars.{is_space}
use Rattle.rox_grammar.specs.Forest.{Forest, Nil, join}
use Rattle.rox_grammar.specs.Written.{Item, leaf}
use Rattle.rox_grammar.specs.Names.{byte}
use Rattle.rox_grammar.specs.Content.{IsMisc}
use Rattle.rox_grammar.specs.Entities.{Replacement, Entity}
use Rattle.rox_grammar.specs.Doctype.{Request, Asked, IsQuoted, IsSpace, IsExternalID, MayHaveNotation, IsDefinition, internal, external, IsKind, BeginsEntity, IsEntityDeclaration, Subset, no_more, space, an_item, skipped_declaration, an_entity, BeginsDoctype, IsDoctype, no_subset, with_subset, IsPassed}
use Rattle.rox_reading.proofs.Forests.{join-nil}
use Rattle.rox_theory.specs.Answers.{SameAnswers}
use Rattle.rox_theory.proofs.DeclarationLemmas.{stands_reads}
use Rattle.rox_theory.proofs.Constructions.{comment_bytes, instruction_bytes}
use Rattle.rox_theory.proofs.DoctypeParts.{declaration_parts, IsPassedOver, passed_end}
use Rattle.rox_theory.proofs.DoctypeParts as parts
use Rattle.rox_theory.proofs.DoctypeLemmas.{external_complete, external_byte, if_complete}
use Rattle.rox_theory.proofs.EntityLemmas.{answer_complete}
use Rattle.rox_faults.proofs.FaultMisc.{one_item, less_no_space}

-- A comment or a processing instruction begins here.
abbrev pub OpensItem : List ℕ → ℕ → Type 0
OpensItem src i = (at word.CommentStart src i ≡ true) ⊎ (at word.PIStart src i ≡ true)

-- The first byte of a fixed text.
first_byte : (w : Word) (src : List ℕ) (i b : ℕ) → at w src i ≡ true → (byte src (i + 0) ≡ b) → byte src i ≡ b
first_byte w src i b is here = let zero : i + 0 ≡ i = omega arith in rw zero at here

module _ (src : List ℕ) where
  -- ---- which item is at a place

  pub misc_opens : (i j : ℕ) (x : Item) → IsMisc src i j x → OpensItem src i
  misc_opens i j x h = grind arith

  pub item_less : (i : ℕ) → OpensItem src i → byte src i ≡ 60
  item_less i h = grind (arith, comment_bytes, instruction_bytes)

  pub entity_less : (i : ℕ) → at word.EntityStart src i ≡ true → byte src i ≡ 60
  entity_less i is = first_byte word.EntityStart src i 60 is (stands_reads (word_text word.EntityStart) src i 0 is (omega arith))

  pub passed_less : (i : ℕ) → IsPassed src i → byte src i ≡ 60
  passed_less i (inl is) = first_byte word.ElementStart src i 60 is (stands_reads (word_text word.ElementStart) src i 0 is (omega arith))
  passed_less i (inr (inl is)) = first_byte word.AttlistStart src i 60 is (stands_reads (word_text word.AttlistStart) src i 0 is (omega arith))
  passed_less i (inr (inr is)) = first_byte word.NotationStart src i 60 is (stands_reads (word_text word.NotationStart) src i 0 is (omega arith))

  -- A comment or an instruction is not a declaration.
  pub item_no_entity : (i : ℕ) → OpensItem src i → at word.EntityStart src i ≡ true → ⊥
  item_no_entity i (inl c) is =
      let a : byte src (i + 2) ≡ 45 = stands_reads (word_text word.CommentStart) src i 2 c (omega arith) in
      let b : byte src (i + 2) ≡ 69 = stands_reads (word_text word.EntityStart) src i 2 is (omega arith) in
      absurd (omega arith)
  item_no_entity i (inr p) is =
      let a : byte src (i + 1) ≡ 63 = (instruction_bytes src i p).2 in
      let b : byte src (i + 1) ≡ 33 = stands_reads (word_text word.EntityStart) src i 1 is (omega arith) in
      absurd (omega arith)

  -- The byte after `<!`.
  passed_third : (i : ℕ) → IsPassed src i → (byte src (i + 1) ≡ 33) × (((byte src (i + 2) ≡ 69) × (byte src (i + 3) ≡ 76)) ⊎ ((byte src (i + 2) ≡ 65) ⊎ (byte src (i + 2) ≡ 78)))
  passed_third i (inl is) =
      (stands_reads (word_text word.ElementStart) src i 1 is (omega arith), inl (stands_reads (word_text word.ElementStart) src i 2 is (omega arith), stands_reads (word_text word.ElementStart) src i 3 is (omega arith)))
  passed_third i (inr (inl is)) = (stands_reads (word_text word.AttlistStart) src i 1 is (omega arith), inr (inl (stands_reads (word_text word.AttlistStart) src i 2 is (omega arith))))
  passed_third i (inr (inr is)) = (stands_reads (word_text word.NotationStart) src i 1 is (omega arith), inr (inr (stands_reads (word_text word.NotationStart) src i 2 is (omega arith))))

  pub item_no_passed : (i : ℕ) → OpensItem src i → IsPassed src i → ⊥
  item_no_passed i (inl c) is =
      let a : byte src (i + 2) ≡ 45 = stands_reads (word_text word.CommentStart) src i 2 c (omega arith) in
      elim ((passed_third i is).1) as (λ _. ⊥) [ inl e ↦ (let b : byte src (i + 2) ≡ 69 = e.0 in omega arith) | inr more ↦ elim more as (λ _. ⊥) [ inl b ↦ omega arith | inr b ↦ omega arith ] ]
  item_no_passed i (inr p) is =
      let a : byte src (i + 1) ≡ 63 = (instruction_bytes src i p).2 in
      let b : byte src (i + 1) ≡ 33 = (passed_third i is).0 in
      absurd (omega arith)

  pub passed_no_entity : (i : ℕ) → IsPassed src i → at word.EntityStart src i ≡ true → ⊥
  passed_no_entity i is opens =
      let a : byte src (i + 2) ≡ 69 = stands_reads (word_text word.EntityStart) src i 2 opens (omega arith) in
      let b : byte src (i + 3) ≡ 78 = stands_reads (word_text word.EntityStart) src i 3 opens (omega arith) in
      elim ((passed_third i is).1) as (λ _. ⊥) [ inl e ↦ (let c : byte src (i + 3) ≡ 76 = e.1 in omega arith) | inr more ↦ elim more as (λ _. ⊥) [ inl c ↦ omega arith | inr c ↦ omega arith ] ]

  -- ---- what asks nothing is in one way

  pub space_once : (i j k : ℕ) → IsSpace src i j → IsSpace src i k → j ≡ k
  space_once i j k a b = a.1 ∙ sym b.1

  pub quoted_once : (i e j d k : ℕ) → IsQuoted src i e j → IsQuoted src i d k → (e ≡ d) × (j ≡ k)
  quoted_once i e j d k a b = let same : e ≡ d = a.1 ∙ sym b.1 in (same, a.3 ∙ ap (λ (e : ℕ). e + 1) same ∙ sym b.3)

  -- A literal is not an external id.
  pub quoted_no_external : (i e j k : ℕ) (request : Request) → IsQuoted src i e j → IsExternalID src i request k → ⊥
  quoted_no_external i e j k request a b = grind (arith, external_byte)

  module _ (utf8 : IsUtf8 src) where
    pub kind_once : (i j k : ℕ) (p q : Bool) → IsKind src i p j → IsKind src i q k → (p ≡ q) × (j ≡ k)
    kind_once i j k p q a b = grind arith

    pub external_once : (i j k : ℕ) (p q : Request) → IsExternalID src i p j → IsExternalID src i q k → (p ≡ q) × (j ≡ k)
    external_once i j k p q a b = grind (arith, external_complete)

    pub notation_once : (p : Bool) (i j k : ℕ) → MayHaveNotation src p i j → MayHaveNotation src p i k → j ≡ k
    notation_once p i j k a b = grind arith

    -- The beginning of a declaration.
    pub begins_once : (i n m d x y z : ℕ) (p q : Bool) → BeginsEntity src i p n m d → BeginsEntity src i q x y z → (p ≡ q) × (n ≡ x) × (m ≡ y) × (d ≡ z)
    begins_once i n m d x y z p q one other = grind arith

    -- And of a document type declaration.
    pub doctype_once : (i s t : ℕ) → BeginsDoctype src i s → BeginsDoctype src i t → s ≡ t
    doctype_once i s t one other = grind (arith, if_complete)

    -- A definition has one end, whatever is answered.
    pub definition_end : (p : Bool) (i j k : ℕ) (a b : List Asked) (t u : Option Replacement) → IsDefinition src p i j a t → IsDefinition src p i k b u → j ≡ k
    definition_end p i j k a b t u (internal _ e _ q) (internal _ d _ r) = (quoted_once i e j d k q r).1
    definition_end p i j k a b t u (internal _ e _ q) (external _ m _ r _ _ is may gives) = absurd (quoted_no_external i e j m r q is)
    definition_end p i j k a b t u (external _ n _ r _ _ is may gives) (internal _ d _ q) = absurd (quoted_no_external i d k n r q is)
    definition_end p i j k a b t u (external _ n _ r _ _ is may gives) (external _ m _ s _ _ is' may' gives') = grind (arith, external_once, notation_once)

    -- ---- with the same answers

    definition_once : (p : Bool) (i j k : ℕ) (a b c d : List Asked) (t u : Option Replacement) → IsDefinition src p i j a t → IsDefinition src p i k b u → SameAnswers (a ++ c) (b ++ d)
        → (a ≡ b) × (t ≡ u) × SameAnswers c d
    definition_once p i j k a b c d t u (internal _ e _ q) (internal _ f _ r) same = grind arith
    definition_once p i j k a b c d t u (internal _ e _ q) (external _ m _ r _ _ is may gives) same = absurd (quoted_no_external i e j m r q is)
    definition_once p i j k a b c d t u (external _ n _ r _ _ is may gives) (internal _ f _ q) same = absurd (quoted_no_external i f k n r q is)
    definition_once p i j k a b c d t u (external _ n _ r answer _ is may gives) (external _ m _ s answer' _ is' may' gives') same = grind (arith, external_once, answer_complete)

    -- A declaration of an entity.
    pub entity_once : (i j k : ℕ) (a b c d : List Asked) (es fs : List Entity) → IsEntityDeclaration src i j a es → IsEntityDeclaration src i k b fs → SameAnswers (a ++ c) (b ++ d)
        → (a ≡ b) × (j ≡ k) × (es ≡ fs) × SameAnswers c d
    entity_once i j k a b c d es fs one other same =
        let x = declaration_parts one in
        let y = declaration_parts other in
        let at = begins_once i x.n x.m x.d y.n y.m y.d x.parameter y.parameter x.begins y.begins in
        let definition : IsDefinition src x.parameter x.d y.e b y.text = grind arith in
        let end = definition_end x.parameter x.d x.e y.e a b x.text y.text x.definition definition in
        let first = definition_once x.parameter x.d x.e y.e a b c d x.text y.text x.definition definition same in grind arith

    -- ---- what is at a place up to the `]`

    module _ (k : ℕ) (bracket : byte src k ≡ 93) where
      -- What is left of the items from there on.
      abbrev Left : ℕ → Forest Item → List Asked → List Entity → Type 0
      Left p rest more gs = Subset src p k rest more gs

      no_end : (byte src k ≡ 60) → ⊥
      no_end is = omega arith

      pub item_there : (p : ℕ) (rest : Forest Item) (more : List Asked) (gs : List Entity) → Left p rest more gs → OpensItem src p
          → (j : ℕ) × (x : Item) × (others : Forest Item) × IsMisc src p j x × Left j others more gs × (rest ≡ join (leaf x) others)
      item_there p rest more gs (no_more _) is = absurd (no_end (item_less p is))
      item_there p rest more gs (space _ _ _ _ _ white _) is = absurd (less_no_space src utf8 p (item_less p is) white)
      item_there p rest more gs (an_item _ j _ x others _ _ one left) is = (j, x, others, one, left, refl)
      item_there p rest more gs (skipped_declaration _ _ _ _ _ passes closes left) is = absurd (item_no_passed p is passes)
      item_there p rest more gs (an_entity _ j _ _ _ _ _ _ one left) is = absurd (item_no_entity p is (declaration_parts one).head.opens)

      pub passed_there : (p : ℕ) (rest : Forest Item) (more : List Asked) (gs : List Entity) → Left p rest more gs → IsPassed src p → (j : ℕ) × IsPassedOver src p j × Left j rest more gs
      passed_there p rest more gs (no_more _) is = absurd (no_end (passed_less p is))
      passed_there p rest more gs (space _ _ _ _ _ white _) is = absurd (less_no_space src utf8 p (passed_less p is) white)
      passed_there p rest more gs (an_item _ j _ x others _ _ one left) is = absurd (item_no_passed p (misc_opens p j x one) is)
      passed_there p rest more gs (skipped_declaration _ _ _ _ _ passes closes left) is = (passed_end src p, parts.passed_there passes closes, left)
      passed_there p rest more gs (an_entity _ j _ _ _ _ _ _ one left) is = absurd (passed_no_entity p is (declaration_parts one).head.opens)

      pub entity_there : (p : ℕ) (rest : Forest Item) (more : List Asked) (gs : List Entity) → Left p rest more gs → at word.EntityStart src p ≡ true
          → (j : ℕ) × (first : List Asked) × (later : List Asked) × (one : List Entity) × (others : List Entity) × IsEntityDeclaration src p j first one × Left j rest later others × (more ≡ first ++ later) × (gs ≡ one ++ others)
      entity_there p rest more gs (no_more _) is = absurd (no_end (entity_less p is))
      entity_there p rest more gs (space _ _ _ _ _ white _) is = absurd (less_no_space src utf8 p (entity_less p is) white)
      entity_there p rest more gs (an_item _ j _ x others _ _ one left) is = absurd (item_no_entity p (misc_opens p j x one) is)
      entity_there p rest more gs (skipped_declaration _ _ _ _ _ passes closes left) is = absurd (passed_no_entity p passes is)
      entity_there p rest more gs (an_entity _ j _ _ first later one others is' left) is = (j, first, later, one, others, is', left, refl, refl)

      -- White space there.
      space_there : (p : ℕ) (rest : Forest Item) (more : List Asked) (gs : List Entity) → Left p rest more gs → is_space (byte src p) ≡ true → Left (p + 1) rest more gs
      space_there p rest more gs h is = grind (arith, item_less, misc_opens, passed_less, entity_less)

      -- Nothing that a subset holds.
      pub nothing_there : (p : ℕ) (rest : Forest Item) (more : List Asked) (gs : List Entity) → Left p rest more gs → is_space (byte src p) ≡ false → (OpensItem src p → ⊥) → (IsPassed src p → ⊥) → at word.EntityStart src p ≡ false → p ≡ k
      nothing_there p rest more gs h no_space no_item no_passed no_entity = grind (arith, misc_opens)

      -- What is read up to j is a front of the items up to the `]`.
      pub record Front (j : ℕ) (xs ys : Forest Item) (a b c : List Asked) (es fs : List Entity) : Type 0 where
        pub rest : Forest Item
        pub more : List Asked
        pub gs : List Entity
        pub left : Subset src j k rest more gs
        pub items : ys ≡ join xs rest
        pub asked : b ≡ a ++ more
        pub entities : fs ≡ es ++ gs
        pub same : SameAnswers c more

      pub subset_front : (i j : ℕ) (xs ys : Forest Item) (a b c : List Asked) (es fs : List Entity) → Subset src i j xs a es → Left i ys b fs → SameAnswers (a ++ c) b → Front j xs ys a b c es fs
      subset_front i j xs ys a b c es fs (no_more _) all same = record { rest = ys; more = b; gs = fs; left = all; items = refl; asked = refl; entities = refl; same = same }
      subset_front i j xs ys a b c es fs (space _ _ _ _ _ white front) all same = subset_front (i + 1) j xs ys a b c es fs front (space_there i ys b fs all white) same
      subset_front i j xs ys a b c es fs (an_item _ m _ x others _ _ one front) all same =
          let there = item_there i ys b fs all (misc_opens i m x one) in
          let item = one_item src utf8 i m there.0 x there.1 one there.3 in
          let next = subset_front m j others there.2 a b c es fs front (subst (λ (m : ℕ). Left m there.2 b fs) (sym item.0) there.4) same in
          grind arith
      subset_front i j xs ys a b c es fs (skipped_declaration _ _ _ _ _ passes _ front) all same =
          let there = passed_there i ys b fs all passes in
          subset_front (passed_end src i) j xs ys a b c es fs front (subst (λ (m : ℕ). Left m ys b fs) there.1.next there.2) same
      subset_front i j xs ys a b c es fs (an_entity _ m _ _ first later one others is front) all same =
          let there = entity_there i ys b fs all (declaration_parts is).head.opens in
          let once = entity_once i m there.0 first there.1 (later ++ c) there.2 one there.3 is there.5 (grind (arith, append_assoc)) in
          let next = subset_front m j xs ys later there.2 c others there.4 front (subst (λ (m : ℕ). Left m ys there.2 there.4) (sym once.1) there.6) once.3 in
          grind (arith, append_assoc)

    -- ---- to the end

    -- At the `]` nothing is left.
    left_ends : (p k : ℕ) (rest : Forest Item) (more : List Asked) (gs : List Entity) → byte src k ≡ 93 → Subset src p k rest more gs → byte src p ≡ 93 → (p ≡ k) × (rest ≡ Nil) × (more ≡ []) × (gs ≡ [])
    left_ends p k rest more gs end q here = grind (arith, item_less, misc_opens, passed_less, entity_less)

    -- A document type declaration is read in one way.
    pub doctypes_once : (i j k : ℕ) (xs ys : Forest Item) (a b : List Asked) (es fs : List Entity) → IsDoctype src i j xs a es → IsDoctype src i k ys b fs → SameAnswers a b → (j ≡ k) × (xs ≡ ys) × (a ≡ b) × (es ≡ fs)
    doctypes_once i j k xs ys a b es fs (no_subset _ s begins closes) (no_subset _ t begins' closes') same = (ap (λ (s : ℕ). s + 1) (doctype_once i s t begins begins'), refl, refl, refl)
    doctypes_once i j k xs ys a b es fs (no_subset _ s begins closes) (with_subset _ t l _ _ _ begins' opens subset bracket closes') same = grind (arith, doctype_once)
    doctypes_once i j k xs ys a b es fs (with_subset _ t l _ _ _ begins opens subset bracket closes) (no_subset _ s begins' closes') same = grind (arith, doctype_once)
    doctypes_once i j k xs ys a b es fs (with_subset _ s m _ _ _ begins opens subset bracket closes) (with_subset _ t l _ _ _ begins' opens' subset' bracket' closes') same =
        let first : Subset src (t + 1) m xs a es = subst (λ (s : ℕ). Subset src (s + 1) m xs a es) (doctype_once i s t begins begins') subset in
        let same' : SameAnswers (a ++ []) b = subst (λ (a : List Asked). SameAnswers a b) (sym (append-nil a)) same in
        let r = subset_front l bracket' (t + 1) m xs ys a b [] es fs first subset' same' in
        grind (arith, left_ends, join-nil, append-nil)
