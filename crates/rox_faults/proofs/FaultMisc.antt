-- Comments, processing instructions and white space, one after the other: they are read in one way, and no fault is in them.
use Rattle.std.proofs.Common.{◌≡◌, ◌≢◌, ℕ, ◌+◌, ◌<◌, true, false, List, length, refl, sym, ap, ◌∙◌, subst, arith, IsUtf8, true≢false}
use Rattle.rox_grammar.specs.declared.fault.Fault.{Fault}
use Rattle.rox_grammar.specs.declared.fault.Word.TheVariants as word
use Rattle.rox_grammar.specs.FixedTexts.{word_text, at}
use Rattle.rox_grammar.specs.Chars.{is_space}
use Rattle.rox_grammar.specs.Forest.{Forest, Nil, join}
use Rattle.rox_grammar.specs.Written.{Item, leaf}
use Rattle.rox_grammar.specs.Names.{byte}
use Rattle.rox_grammar.specs.Content.{IsMisc, comment, instruction}
use Rattle.rox_grammar.specs.Document.{Misc, no_misc, space, an_item}
use Rattle.rox_grammar.specs.Faults.{InMisc}
use Rattle.rox_theory.proofs.Productions.{comment_parts, pi_parts}
use Rattle.rox_theory.proofs.Basics.{within, run_end_le}
use Rattle.rox_theory.proofs.DeclarationLemmas.{stands_reads}
use Rattle.rox_theory.proofs.Places.{spaces_on}
use Rattle.rox_theory.proofs.Constructions.{comment_bytes, instruction_bytes, doctype_bytes}
use Rattle.rox_theory.proofs.Around.{Stops, misc_within}
use Rattle.rox_faults.proofs.FaultApart.{not_both, misc_begins, misc_apart}

module _ (src : List ℕ) (utf8 : IsUtf8 src) where
  -- One of them is in one way.
  pub one_item : (i j k : ℕ) (x y : Item) → IsMisc src i j x → IsMisc src i k y → (j ≡ k) × (x ≡ y)
  one_item i j k x y h p = grind (arith, not_both, comment_parts, pi_parts)

  -- Each begins with `<`.
  pub item_byte : (i j : ℕ) (x : Item) → IsMisc src i j x → byte src i ≡ 60
  item_byte i j x h = grind (arith, comment_bytes, comment_parts, instruction_bytes, pi_parts)

  -- Which is no white space.
  pub less_no_space : (i : ℕ) → byte src i ≡ 60 → is_space (byte src i) ≡ true → ⊥
  less_no_space i here white = let z : is_space 60 ≡ true = subst (λ (b : ℕ). is_space b ≡ true) here white in cc z

  -- Where they stop no white space is.
  stop_no_space : (q : ℕ) → Stops src q → is_space (byte src q) ≡ true → ⊥
  stop_no_space q stops white = grind (arith, spaces_on, run_end_le)

  -- Nor one of them.
  stop_no_item : (q j : ℕ) (x : Item) → Stops src q → IsMisc src q j x → ⊥
  stop_no_item q j x stops k = grind arith

  -- Those up to a point are a front of all.
  pub misc_front : (i p q : ℕ) (items whole : Forest Item) → Misc src i p items → Misc src i q whole → Stops src q → (rest : Forest Item) × Misc src p q rest × (whole ≡ join items rest)
  misc_front i p q items whole (no_misc _) all stops = (whole, all, refl)
  misc_front i p q items whole (space _ _ _ is more) (no_misc _) stops = absurd (stop_no_space i stops is)
  misc_front i p q items whole (space _ _ _ is more) (space _ _ _ is' more') stops = misc_front (i + 1) p q items whole more more' stops
  misc_front i p q items whole (space _ _ _ is more) (an_item _ k _ y others is' more') stops = absurd (less_no_space i (item_byte i k y is') is)
  misc_front i p q items whole (an_item _ j _ x _ is more) (no_misc _) stops = absurd (stop_no_item i j x stops is)
  misc_front i p q items whole (an_item _ j _ x _ is more) (space _ _ _ is' more') stops = absurd (less_no_space i (item_byte i j x is) is')
  misc_front i p q items whole (an_item _ j _ x its is more) (an_item _ k _ y others is' more') stops =
      let same = one_item i j k x y is is' in
      let next = misc_front j p q its others more (subst (λ (k : ℕ). Misc src k q others) (sym same.0) more') stops in
      (next.0, next.1, ap (λ (y : Item). join (leaf y) others) (sym same.1) ∙ ap (join (leaf x)) next.2)

  -- A fault of one of them at a point.
  pub misc_at : (p q : ℕ) (rest : Forest Item) (f : Fault) → Misc src p q rest → Stops src q → InMisc src p f → ⊥
  misc_at p q rest f h stops ill = grind (arith, misc_begins, comment_bytes, instruction_bytes, misc_apart)

  -- A document type declaration is none of them.
  pub doctype_at : (p q : ℕ) (rest : Forest Item) → Misc src p q rest → at word.DoctypeStart src q ≡ false → at word.DoctypeStart src p ≡ true → ⊥
  doctype_at p q rest (no_misc _) none here = true≢false (sym here ∙ none)
  doctype_at p q rest (space _ _ _ is more) none here = less_no_space p (doctype_bytes src p here).1 is
  doctype_at p q rest (an_item _ j _ x others (comment _ e _ is) more) none here =
      let a : byte src (p + 2) ≡ 45 = stands_reads (word_text word.CommentStart) src p 2 (comment_parts is).opens (omega arith) in
      let b : byte src (p + 2) ≡ 68 = stands_reads (word_text word.DoctypeStart) src p 2 here (omega arith) in
      absurd (omega arith)
  doctype_at p q rest (an_item _ j _ x others (instruction _ n e _ is) more) none here =
      let a = instruction_bytes src p (pi_parts is).opens in let b = doctype_bytes src p here in absurd (omega arith)

  -- Another byte than `<` and white space is at none of them.
  pub other_at : (p q : ℕ) (rest : Forest Item) → Misc src p q rest → byte src q ≡ 60 → is_space (byte src p) ≡ false → byte src p ≢ 60 → ⊥
  other_at p q rest h here no_space no_less = grind (arith, item_byte)

  -- What is before a `<` does not reach the end.
  pub before_end : (p q : ℕ) (rest : Forest Item) → Misc src p q rest → byte src q ≡ 60 → p < length src
  before_end p q rest h here = grind (arith, within, misc_within)

  -- After the root element.
  pub last_at : (p q : ℕ) (rest : Forest Item) → Misc src p q rest → q ≡ length src → p < length src → is_space (byte src p) ≡ false → at word.CommentStart src p ≡ false → at word.PIStart src p ≡ false → ⊥
  last_at p q rest h end below no_space no_comment no_instruction = grind (arith, comment_parts, pi_parts)

  -- Where they stop none is left.
  pub stopped : (p q : ℕ) (rest : Forest Item) → Misc src p q rest → Stops src p → (p ≡ q) × (rest ≡ Nil)
  stopped p q rest h stops = grind (arith, stop_no_space, stop_no_item)

  -- Those up to a stop are read in one way.
  pub one_misc : (h i j k : ℕ) (xs ys : Forest Item) → h ≡ i → Misc src h j xs → Stops src j → Misc src i k ys → Stops src k → (j ≡ k) × (ys ≡ xs)
  one_misc h i j k xs ys same m stops n stops' = grind (arith, misc_front, stopped)
