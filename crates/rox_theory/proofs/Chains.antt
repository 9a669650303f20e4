-- The main text from its root element on, as a chain of constructs.
use Rattle.std.proofs.Common.{◌≡◌, ℕ, zero, suc, ◌+◌, ◌≤◌, Bool, true, false, nat_lt, List, length, Ok, refl, subst, arith, lt-ltb, ltb-true}
use Rattle.rox_grammar.specs.Forest.{Forest, Nil, join}
use Rattle.rox_grammar.specs.Written.{Tag, Item}
use Rattle.rox_grammar.specs.Content.{Inclusion, IsTag, IsElement, empty, nest, Content, ends, run, cdata, misc, node}
use Rattle.rox_grammar.specs.Entities.{Entity, included_in_main}
use Rattle.rox_grammar.specs.State.{Open, root, inside, is_root}
use Rattle.rox_reading.specs.State.{State}
use Rattle.rox_reading.specs.Machine.{step, drive, main_text}
use Rattle.rox_reading.proofs.Forests.{join-nil, join_assoc}
use Rattle.rox_theory.specs.ValidState.{IsValidState, state}
use Rattle.rox_theory.proofs.Basics.{ok_same, bind_ok, chosen}
use Rattle.rox_theory.proofs.Flat.{StepsOver, takes_run, takes_cdata, takes_misc, takes_empty, takes_start, takes_end}
use Rattle.rox_theory.proofs.Contents.{StepsAgree}
use Rattle.rox_theory.proofs.Steps.{after}

module _ (O : Inclusion) (src : List ℕ) where
  -- The constructs from a state on, up to the end of the root element.
  pub data Drives : State → State → Type 0 where
    arrives : (s : State) → is_root s.stack ≡ true → Drives s s
    goes : (s t u : State) → is_root s.stack ≡ false → StepsOver true O src 0 s t → Drives t u → Drives s u

  mutual
    -- Content in front.
    content_drives : (i l b c : ℕ) (items : Forest Item) → Content true O src i l b c items → (done : Forest Item) (stack : Open) (u : State)
        → is_root stack ≡ false → Drives (state l (join done items) stack c) u → Drives (state i done stack b) u
    content_drives i l b c items (ends _ _) done stack u inner rest = rw join-nil at rest
    content_drives i l b d items (run _ j _ _ c _ front more is parts after) done stack u inner rest =
        goes _ _ u inner (takes_run i j b c front done stack is parts) (content_drives j l c d more after (join done front) stack u inner (rw (← join_assoc) at rest))
    content_drives i l b c items (cdata _ e j _ _ _ more is after) done stack u inner rest =
        goes _ _ u inner (takes_cdata i e j b done stack is) (content_drives j l b c more after _ stack u inner (rw (← join_assoc) at rest))
    content_drives i l b c items (misc _ j _ _ _ item more is after) done stack u inner rest =
        goes _ _ u inner (takes_misc i j b item done stack is) (content_drives j l b c more after _ stack u inner (rw (← join_assoc) at rest))
    content_drives i l b d items (node _ j _ _ c _ one more is after) done stack u inner rest =
        element_drives i j b c one is done stack u inner (content_drives j l c d more after (join done one) stack u inner (rw (← join_assoc) at rest))

    -- An element in front.
    element_drives : (i j b c : ℕ) (one : Forest Item) → IsElement true O src i j b c one → (done : Forest Item) (stack : Open) (u : State)
        → is_root stack ≡ false → Drives (state j (join done one) stack c) u → Drives (state i done stack b) u
    element_drives i j b c one (empty _ _ _ _ t is) done stack u inner rest = goes _ _ u inner (takes_empty i j b c t done stack is) rest
    element_drives i j b d one (nest _ k m p _ _ c _ t kids is content end) done stack u inner rest =
        goes _ _ u inner (takes_start i k b c t done stack is)
        (content_drives k m c d kids content Nil (inside i t done stack) u refl (goes _ _ u refl (takes_end m p j d i t kids done stack (omega arith) end) rest))

  -- The root element: its tag, and what follows it.
  pub root_drives : (i j b c : ℕ) (one before : Forest Item) → IsElement true O src i j b c one
      → (k : ℕ) × (d : ℕ) × (tag : Tag) × (is_empty : Bool) × IsTag true O src i k b d is_empty tag × Drives (after (state i before root b) k tag is_empty d) (state j (join before one) root c)
  root_drives i j b c one before (empty _ _ _ _ t is) = (j, c, t, true, is, arrives (state j (join before one) root c) refl)
  root_drives i j b d one before (nest _ k m p _ _ c _ t kids is content end) = (
    k,
    c,
    t,
    false,
    is,
    content_drives k m c d kids content Nil (inside i t before root) (state j (join before one) root d) refl
        (goes _ _ _ refl (takes_end m p j d i t kids before root (omega arith) end) (arrives (state j (join before one) root d) refl)),
  )

module _ (limit : ℕ) (es : List Entity) (src : List ℕ) (steps : StepsAgree (main_text limit es) (included_in_main es) src) where
  -- What is read is a chain.
  pub drive_sound : (n most : ℕ) (s u : State) → limit ≤ most → IsValidState most s → drive (main_text limit es) n src s ≡ Ok u → Drives (included_in_main es) src s u × IsValidState most u
  unfolding drive
  drive_sound zero most s u limits fine h =
      chosen (is_root s.stack) _ _ _ h
      (λ at_root h. subst (λ (u : State). Drives (included_in_main es) src s u × IsValidState most u) (ok_same s u h) (arrives s at_root, fine))
      (λ inner h. cc)
  drive_sound (suc n) most s u limits fine h =
      chosen (is_root s.stack) _ _ _ h
      (λ at_root h. subst (λ (u : State). Drives (included_in_main es) src s u × IsValidState most u) (ok_same s u h) (arrives s at_root, fine))
      (λ inner h. chosen (nat_lt s.at (length src)) _ _ _ h (λ within h. bind_ok (step (main_text limit es) src s) _ _ h (λ t read h.
      let one = steps.sound most s t limits (ltb-true _ _ within) fine read in
      let rest = drive_sound n most t u limits one.1 h in
      (goes s t u inner one.0 rest.0, rest.1)))
      (λ past h. cc))

  -- What the limits allow at the end they allow all along.
  pub drives_back : (s u : State) → Drives (included_in_main es) src s u → IsValidState limit u → IsValidState limit s
  drives_back s u (arrives _ at_root) fine = fine
  drives_back s u (goes _ t _ inner takes rest) fine = steps.back s t takes (drives_back t u rest fine)

  -- A chain is read.
  pub drive_complete : (n : ℕ) (s u : State) → Drives (included_in_main es) src s u → IsValidState limit u → length src ≤ s.at + n → drive (main_text limit es) n src s ≡ Ok u
  unfolding drive
  drive_complete zero s u (arrives _ at_root) fine enough = rw at_root refl
  drive_complete (suc n) s u (arrives _ at_root) fine enough = rw at_root refl
  drive_complete zero s u (goes _ t _ inner takes rest) fine enough = absurd (omega (arith, steps.moves s t takes))
  drive_complete (suc n) s u (goes _ t _ inner takes rest) fine enough =
      let m = steps.moves s t takes in
      rw (inner, (lt-ltb s.at (length src) m.0), (steps.complete s t takes (drives_back t u rest fine))) (drive_complete n t u rest fine (omega (arith, m.1)))
