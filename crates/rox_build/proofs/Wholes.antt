-- A root element with what follows it, and a whole text, are read as their parts are.
use Rattle.std.proofs.Common.{◌≡◌, ℕ, zero, suc, Bool, true, false, List, length, refl, sym, ap, subst, ◌∙◌, Result, Ok, slice_index, nat_lt, ◌==◌, ne_eqb, eq-eqb}
use Rattle.rox_reading.specs.Refusals.{lifted}
use Rattle.rox_reading.specs.Lexical.{◌>>=◌}
use Rattle.rox_grammar.specs.State.{Open, root, inside, is_root}
use Rattle.rox_reading.specs.State.{State}
use Rattle.rox_reading.specs.Machine.{Context, main_text, tag_step, step, drive}
use Rattle.rox_reading.specs.WholeText.{misc, body}
use Rattle.rox_grammar.specs.declared.failure.Failure.{Failure}
use Rattle.rox_grammar.specs.declared.failure.Failure.TheVariants as failure
use Rattle.rox_values.specs.Refusals.{IsFailure, IsRefusal, of_failure}
use Rattle.rox_values.specs.declared.parse_error.ParseError.{ParseError}
use Rattle.rox_values.proofs.PartLemmas.{refuses_by}
use Rattle.rox_grammar.specs.Entities.{Entity}
use Rattle.rox_values.proofs.Lifting.{lifted_ok, lifted_err}
use Rattle.rox_theory.proofs.Basics.{bind_ok, chosen}
use Rattle.rox_prolog.proofs.Rooted.{branch_of, misc_open}

-- ---- the root element and what follows it

pub no_body : (limit : ℕ) (es : List Entity) (src : List ℕ) (s : State) → (slice_index src s.at ≡ 60 → ⊥) → body limit es src s ≡ Ok (s, false)
unfolding body
no_body limit es src s other = let k = ne_eqb _ _ other in rw k refl

begun : (limit : ℕ) (es : List Entity) (context : Context) (src : List ℕ) (s : State) → context ≡ main_text limit es → slice_index src s.at ≡ 60
    → body limit es src s ≡ (tag_step context src s >>= λ t. drive context (length src) src t >>= λ u. lifted (misc limit (length src) src u) >>= λ v. Ok (v, true))
unfolding body
begun limit es context src s main here =
    subst (λ (w : Context). body limit es src s ≡ (tag_step w src s >>= λ t. drive w (length src) src t >>= λ u. lifted (misc limit (length src) src u) >>= λ v. Ok (v, true))) (sym main)
    (let k = eq-eqb _ _ here in rw k refl)

pub tag_fails_body : (limit : ℕ) (es : List Entity) (context : Context) (src : List ℕ) (s : State) (e : ParseError) → context ≡ main_text limit es → slice_index src s.at ≡ 60 → IsRefusal e (tag_step context src s) → IsRefusal e (body limit es src s)
tag_fails_body limit es context src s e main here h = refuses_by e (tag_step context src s) (body limit es src s) (λ r err. begun limit es context src s main here ∙ rw err refl) h

pub content_fails_body : (limit : ℕ) (es : List Entity) (context : Context) (src : List ℕ) (s t : State) (e : ParseError) → context ≡ main_text limit es → slice_index src s.at ≡ 60 → tag_step context src s ≡ Ok t
    → IsRefusal e (drive context (length src) src t) → IsRefusal e (body limit es src s)
content_fails_body limit es context src s t e main here tag h =
    refuses_by e (drive context (length src) src t) (body limit es src s) (λ r err. begun limit es context src s main here ∙ rw (tag, err) refl) h

pub misc_fails_body : (limit : ℕ) (es : List Entity) (context : Context) (src : List ℕ) (s t u : State) (e : Failure) → context ≡ main_text limit es → slice_index src s.at ≡ 60 → tag_step context src s ≡ Ok t
    → drive context (length src) src t ≡ Ok u → IsFailure e (lifted (misc limit (length src) src u)) → IsRefusal (of_failure e) (body limit es src s)
misc_fails_body limit es context src s t u failure.Memory main here tag inner h = tt
misc_fails_body limit es context src s t u (failure.Fault f) main here tag inner h = let k = lifted_err (misc limit (length src) src u) f h in begun limit es context src s main here ∙ rw (tag, inner, k) refl

pub a_body : (limit : ℕ) (es : List Entity) (context : Context) (src : List ℕ) (s t u v : State) → context ≡ main_text limit es → slice_index src s.at ≡ 60 → tag_step context src s ≡ Ok t → drive context (length src) src t ≡ Ok u
    → lifted (misc limit (length src) src u) ≡ Ok v → body limit es src s ≡ Ok (v, true)
a_body limit es context src s t u v main here tag inner after = let k = lifted_ok (misc limit (length src) src u) v after in begun limit es context src s main here ∙ rw (tag, inner, k) refl

-- ---- nothing is open behind it

ok_is : {A E : Type 0} (x y : A) → ◌≡◌ {A = Result A E} (Ok x) (Ok y) → y ≡ x
ok_is x y h = cc h

drive_open : (context : Context) (n : ℕ) (src : List ℕ) (s t : State) → drive context n src s ≡ Ok t → is_root t.stack ≡ true
unfolding drive
drive_open context zero src s t h = chosen (is_root s.stack) _ _ _ h (λ is e. cc) (λ is e. cc)
drive_open context (suc n) src s t h =
    chosen (is_root s.stack) _ _ _ h (λ is e. cc)
    (λ inner more. branch_of (nat_lt s.at (length src)) _ _ _ more (λ on. bind_ok (step context src s) (λ u. drive context n src u) t on (λ u is e. drive_open context n src u t e)) (λ cut. cc))

is_the_root : (o : Open) → is_root o ≡ true → o ≡ root
is_the_root root h = refl
is_the_root (inside start tag before up) h = cc h

pub body_open : (limit : ℕ) (es : List Entity) (src : List ℕ) (s t : State) (some : Bool) → s.stack ≡ root → body limit es src s ≡ Ok (t, some) → t.stack ≡ root
unfolding body
body_open limit es src s t some here h =
    branch_of (slice_index src s.at == 60) _ _ _ h
    (λ begun. bind_ok (tag_step (main_text limit es) src s) _ _ begun (λ u is e.
    bind_ok (drive (main_text limit es) (length src) src u) _ _ e (λ v done f.
    bind_ok (lifted (misc limit (length src) src v)) _ _ f (λ w after g.
    ap (λ (p : State × Bool). p.0.stack) (ok_is _ _ g) ∙ misc_open limit (length src) src v w (lifted_ok _ _ after) ∙ is_the_root v.stack (drive_open (main_text limit es) (length src) src u v done)))))
    (λ none. ap (λ (p : State × Bool). p.0.stack) (ok_is _ _ none) ∙ here)
