-- Paths as they are written: steps one after the other, and that no path passes a place that none goes on from.
use Rattle.std.proofs.Common.{◌≡◌, ◌≢◌, ◌⊎◌, inr, ℕ, ◌+◌, ◌<◌, ◌==◌, ◌||◌, Bool, true, false, List, [], ◌∷◌, ◌++◌, length, drop, get_or, Option, Some, None, unwrap_or, refl, subst, arith, get_or-drop, append_assoc, map}
use Rattle.std.proofs.lemmas.Bool.{false_from_ne_true}
use Rattle.std.proofs.lemmas.List.{get_or_past, map-append}
use Rattle.std.proofs.lemmas.List.Sums.{position_or_len_is}
use Rattle.std.specs.List.{position_or_len}
use Rattle.std.proofs.lemmas.Bool.Decides.{nat_tests}
use Rattle.memchr.specs.Find.{IsFirstByte}
use Rattle.rox_grammar.specs.Search.{byte_from}
use Rattle.rox_grammar.specs.Names.{byte, slice}
use Rattle.rox_path.specs.Steps.{Expanded, PathStep, step_of}
use Rattle.rox_path.specs.declared.steps.Step.{Step}
use Rattle.rox_path.specs.PathReading.{ToldAt}
use Rattle.rox_path.specs.declared.parse.PathError.{PathError}
use Rattle.rox_path.specs.declared.parse.PathError.TheVariants.{BadPath, OutOfMemory}
use Rattle.rox_path.specs.Paths.{local_end, uri_end, IsStepName, local_alone, with_uri, IsStep, one_slash, two_slashes, IsPath, last_step, then_steps, StepsTo, no_step, one_more, NameDue, behind_one, behind_two, IsBadName, no_local, no_local_behind, IsBadStep, no_slash, no_name, IsBadAt, bad_step}

-- steps from the start of the text up to a place
pub data Read (text : List ℕ) : ℕ → List PathStep → Type 0 where
  none : Read text 0 []
  more : (i j : ℕ) (s : PathStep) (steps : List PathStep) → Read text i steps → IsStep text i j s → Read text j (steps ++ s ∷ [])

pub reached : (text : List ℕ) (i : ℕ) (steps : List PathStep) → Read text i steps → StepsTo text i
reached text i steps none = no_step
reached text j steps (more i _ s before r step) = one_more i j s (reached text i before r) step

-- steps that are read, and a path from there on, are a path
goes_on : (text : List ℕ) (i : ℕ) (steps rest : List PathStep) → Read text i steps → IsPath text i rest → IsPath text 0 (steps ++ rest)
goes_on text i steps rest none path = path
goes_on text j steps rest (more i _ s before r step) path = grind (arith, nat_tests, goes_on text i before (s ∷ rest) r (then_steps i j s rest step path), append_assoc)

pub is_path : (text : List ℕ) (j : ℕ) (steps : List PathStep) → Read text j steps → j ≡ length text → j ≢ 0 → IsPath text 0 steps
is_path text i steps none end some = absurd (some refl)
is_path text j steps (more i _ s before r step) end some =
    goes_on text i before (s ∷ []) r (last_step i s (subst (λ k. IsStep text i k s) end step))

pub read_more : (text : List ℕ) (i j : ℕ) (x : Step) (xs ys : List Step) → Read text i (map step_of xs) → IsStep text i j (step_of x) → ys ≡ xs ++ x ∷ [] → Read text j (map step_of ys)
read_more text i j x xs ys r step is = rw (is, map-append) (more i j (step_of x) (map step_of xs) r step)

abbrev stops : ℕ → Bool
stops c = c == 47 || c == 123 || c == 125

-- a local name that begins at one of these bytes is empty
ends_here : (text : List ℕ) (n : ℕ) → stops (byte text n) ≡ true → local_end text n ≡ n
unfolding byte_from
ends_here text n is =
    let same : n + 0 ≡ n = omega arith in
    let here : stops (get_or (drop n text) 0 0) ≡ true = rw ((get_or-drop n text 0 0), same) is in
    let first : position_or_len stops (drop n text) ≡ 0 = position_or_len_is stops (drop n text) 0 0 (omega arith) (λ k l. absurd (omega arith)) (λ l. here) in
    omega (arith, first)

at_brace : (text : List ℕ) (n : ℕ) → byte text n ≡ 123 → local_end text n ≡ n
at_brace text n is = ends_here text n (rw is refl)

at_slash : (text : List ℕ) (n : ℕ) → byte text n ≡ 47 → local_end text n ≡ n
at_slash text n is = ends_here text n (rw is refl)

-- one name at most begins at a place, and where it does none is ill
one_name_end : (text : List ℕ) (n j k : ℕ) (a b : Expanded) → IsStepName text n j a → IsStepName text n k b → j ≡ k
one_name_end text n j k a b h p = grind (arith, nat_tests, at_brace)

no_ill_name : (text : List ℕ) (n j k : ℕ) (a : Expanded) → IsStepName text n j a → IsBadName text n k → ⊥
no_ill_name text n j k a h p = grind (arith, nat_tests, at_brace)

-- no name begins with `/`
no_slash_first : (text : List ℕ) (n j : ℕ) (a : Expanded) → byte text n ≡ 47 → IsStepName text n j a → ⊥
no_slash_first text n j a s k = grind (arith, nat_tests, at_slash)

one_step_end : (text : List ℕ) (i j k : ℕ) (s t : PathStep) → IsStep text i j s → IsStep text i k t → j ≡ k
one_step_end text i j k s t h p = grind (arith, nat_tests, one_name_end, no_slash_first)

no_ill_step : (text : List ℕ) (i j k : ℕ) (s : PathStep) → IsStep text i j s → IsBadStep text i k → ⊥
no_ill_step text i j k s (one_slash a x n) (no_slash y) = y x
no_ill_step text i j k s (two_slashes a x z n) (no_slash y) = y x
no_ill_step text i j k s (one_slash a x n) (no_name m l (behind_one y z) bad) = no_ill_name text (i + 1) j k a n bad
no_ill_step text i j k s (one_slash a x n) (no_name m l (behind_two y z) bad) = no_slash_first text (i + 1) j a z n
no_ill_step text i j k s (two_slashes a x z n) (no_name m l (behind_one y w) bad) = w z
no_ill_step text i j k s (two_slashes a x z n) (no_name m l (behind_two y w) bad) = no_ill_name text (i + 2) j k a n bad

name_onward : (text : List ℕ) (n j : ℕ) (a : Expanded) → IsStepName text n j a → n < j
unfolding byte_from
name_onward text n j a (local_alone l) = l
name_onward text n j a (with_uri u o e h m) = omega arith

stands_before : (text : List ℕ) (i b : ℕ) → byte text i ≡ b → 0 < b → i < length text
stands_before text i b is some = grind (arith, nat_tests, get_or_past)

-- what a test of a byte says
pub stands : (text : List ℕ) (i b : ℕ) → true ≡ (byte text i == b) → 0 < b → (i < length text) × (byte text i ≡ b)
stands text i b is some =
    let here : byte text i ≡ b = grind arith in
    (stands_before text i b here some, here)

pub stands_not : (text : List ℕ) (i b : ℕ) → false ≡ (byte text i == b) → byte text i ≢ b
stands_not text i b is here = grind arith

step_onward : (text : List ℕ) (i j : ℕ) (s : PathStep) → IsStep text i j s → i < j
step_onward text i j s (one_slash a x n) = omega (arith, name_onward text (i + 1) j a n)
step_onward text i j s (two_slashes a x z n) = omega (arith, name_onward text (i + 2) j a n)

step_begins : (text : List ℕ) (i j : ℕ) (s : PathStep) → IsStep text i j s → i < length text
step_begins text i j s (one_slash a x n) = stands_before text i 47 x (omega arith)
step_begins text i j s (two_slashes a x z n) = stands_before text i 47 x (omega arith)

after : (text : List ℕ) (i j : ℕ) (s : PathStep) (rest : List PathStep) → IsStep text i j s → j < length text → IsPath text i rest → (others : List PathStep) × IsPath text j others
after text i j s rest step l p = grind (arith, nat_tests, one_step_end)

no_path_here : (text : List ℕ) (i k : ℕ) (path : List PathStep) → IsPath text i path → IsBadStep text i k → ⊥
no_path_here text i k path h bad = grind (arith, nat_tests, no_ill_step)

-- a path goes on from each place that steps lead to, before the end of the text
passes : (text : List ℕ) (i : ℕ) (path : List PathStep) → StepsTo text i → (i ≡ 0) ⊎ (i < length text) → IsPath text 0 path → (rest : List PathStep) × IsPath text i rest
passes text i path no_step due is = (path, is)
passes text j path (one_more i _ s to step) due is = grind (arith, nat_tests, passes text i path to (inr (step_begins text i j s step)) is, step_begins, step_onward, after)

pub no_path : (text : List ℕ) (k : ℕ) (path : List PathStep) → IsBadAt text k → IsPath text 0 path → ⊥
no_path text k path (bad_step i _ to due bad) is = grind (arith, nat_tests, passes, no_path_here)

-- ---- what the code reads
pub name_alone : (text : List ℕ) (at end : ℕ) (name : Expanded) → end ≡ local_end text at → at < end → name ≡ (None, slice text at end) → IsStepName text at end name
name_alone text at end name e l is = rw (is, e) (local_alone (omega arith))

pub name_with : (text : List ℕ) (at close end : ℕ) (name : Expanded) → byte text at ≡ 123 → close ≡ uri_end text (at + 1) → close < length text → end ≡ local_end text (close + 1) → close + 1 < end → name ≡ (Some (slice text (at + 1) close), slice text (close + 1) end) → IsStepName text at end name
name_with text at close end name o u h e l is = rw (is, e) (with_uri close o u h (omega arith))

pub ill_local : (text : List ℕ) (n : ℕ) (e : PathError) → byte text n ≢ 123 → ToldAt (λ k. (k ≡ n) × (local_end text n ≡ n)) e → ToldAt (IsBadName text n) e
ill_local text n (BadPath k) o h = rw (h.0) (no_local o h.1)
ill_local text n OutOfMemory o h = tt

pub ill_local_behind : (text : List ℕ) (n u : ℕ) (e : PathError) → byte text n ≡ 123 → u ≡ uri_end text (n + 1) → u < length text → ToldAt (λ k. (k ≡ u + 1) × (local_end text (u + 1) ≡ u + 1)) e → ToldAt (IsBadName text n) e
ill_local_behind text n u (BadPath k) o is l h = rw (h.0) (no_local_behind u o is l h.1)
ill_local_behind text n u OutOfMemory o is l h = tt

pub ill_name : (text : List ℕ) (i n : ℕ) (e : PathError) → NameDue text i n → ToldAt (IsBadName text n) e → ToldAt (IsBadStep text i) e
ill_name text i n (BadPath k) due h = no_name n k due h
ill_name text i n OutOfMemory due h = tt

pub ill_step : (text : List ℕ) (i k : ℕ) (e : PathError) → StepsTo text i → (i ≡ 0) ⊎ (i < length text) → ToldAt (IsBadStep text i) e → e ≡ BadPath k → IsBadAt text k
ill_step text i k (BadPath j) to due h is = let same : j ≡ k = cc in bad_step i k to due (rw same at h)
ill_step text i k OutOfMemory to due h is = cc

-- what a search for a byte finds
pub first_byte_found : (p : ℕ → Bool) (hay : List ℕ) (r : Option ℕ) → IsFirstByte p hay r → position_or_len p hay ≡ unwrap_or r (length hay)
first_byte_found p hay None h =
    position_or_len_is p hay (length hay) 0 (omega arith) (λ j below. false_from_ne_true (p (get_or hay j 0)) (h j (omega arith) below)) (λ more. absurd (omega arith))
first_byte_found p hay (Some k) h = grind (arith, nat_tests, position_or_len_is, false_from_ne_true)
