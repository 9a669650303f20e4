-- The line that a batch begins with.
use Rattle.std.proofs.Common.{◌≡◌, ◌≢◌, ℕ, List, [], ◌∷◌, ◌++◌, Option, Some, None, length, true, rules, refl, arith, sym, ap, ◌∙◌, subst, MatchOption, IsUtf8}
use Rattle.std.specs.List.{All, list_all}
use Rattle.std.specs.Char.{is_ascii_digit}
use Rattle.std.proofs.lemmas.List.Elements.{All-nil, All-cons, All-head, All-tail, All-drop, All-same}
use Rattle.std.proofs.Math.Seq.{drop-append_seam}
use Rattle.std.proofs.lemmas.Option.{none-some}
use Rattle.std.proofs.lemmas.Fmt.{IsAscii-from_digits}
use Rattle.std.proofs.lemmas.Str.{IsUtf8-from_ascii}
use Rattle.rox_dump.specs.Numbers.{number_of}
use Rattle.rox_dump.specs.Batch.{BeginsWith, IsSplit}
use Rattle.rox_dump.specs.declared.cases.Case.{Case}
use Rattle.rox_dump.proofs.Digits.{own}

abbrev pub IsNoLineFeed : ℕ → Type 0
IsNoLineFeed byte = byte ≢ 10

-- lines without line feeds, before line feeds, are equal if what they begin is
pub same_line : (xs ys us vs : List ℕ) → All IsNoLineFeed xs → All IsNoLineFeed us → xs ++ (10 ∷ ys) ≡ us ++ (10 ∷ vs) → (xs ≡ us) × (ys ≡ vs)
same_line [] ys [] vs a b e = (refl, grind arith)
same_line [] ys (u ∷ us) vs a b e = let h : u ≢ 10 = All-head IsNoLineFeed u us b in grind arith
same_line (x ∷ xs) ys [] vs a b e = let h : x ≢ 10 = All-head IsNoLineFeed x xs a in grind arith
same_line (x ∷ xs) ys (u ∷ us) vs a b e =
    let rest : xs ++ (10 ∷ ys) ≡ us ++ (10 ∷ vs) = grind arith in
    let same : (xs ≡ us) × (ys ≡ vs) = same_line xs ys us vs (All-tail IsNoLineFeed x xs a) (All-tail IsNoLineFeed u us b) rest in
    (grind (arith, same.0), same.1)

digits_have_no_line_feed : (ds : List ℕ) → list_all is_ascii_digit ds ≡ true → All IsNoLineFeed ds
digits_have_no_line_feed [] e = All-nil IsNoLineFeed
digits_have_no_line_feed (d ∷ ds) e =
    let h : is_ascii_digit d ≡ true = search rules in
    All-cons IsNoLineFeed d ds (search (rules, h)) (digits_have_no_line_feed ds (search rules))

digits_of_number : (ds : List ℕ) (n : ℕ) → number_of ds ≡ Some n → list_all is_ascii_digit ds ≡ true
digits_of_number ds n e = search rules

pub number_has_no_line_feed : (ds : List ℕ) (n : ℕ) → number_of ds ≡ Some n → All IsNoLineFeed ds
number_has_no_line_feed ds n e = digits_have_no_line_feed ds (digits_of_number ds n e)

digits_are_text : (ds : List ℕ) → list_all is_ascii_digit ds ≡ true → IsUtf8 ds
digits_are_text ds e = IsUtf8-from_ascii ds (IsAscii-from_digits ds (own.to ds e))

pub number_of_no_text : (ds : List ℕ) → ¬ (IsUtf8 ds) → None ≡ number_of ds
number_of_no_text ds bad = search (rules, digits_are_text)

-- what a batch begins with, where the first line is known
pub text_behind_line : (batch line behind text rest : List ℕ) → batch ≡ line ++ (10 ∷ behind) → All IsNoLineFeed line → BeginsWith batch text rest → (number_of line ≡ Some (length text)) × (behind ≡ text ++ (10 ∷ rest))
text_behind_line batch line behind text rest e a (digits, n, f) =
    let same : (line ≡ digits) × (behind ≡ text ++ (10 ∷ rest)) = same_line line behind digits _ a (number_has_no_line_feed digits _ n) (sym e ∙ f) in
    (grind (arith, same.0), same.1)

pub no_line_no_text : (batch text rest : List ℕ) → All IsNoLineFeed batch → BeginsWith batch text rest → ⊥
no_line_no_text batch text rest a (digits, n, e) =
    let behind : All IsNoLineFeed (10 ∷ (text ++ (10 ∷ rest))) = subst (All IsNoLineFeed) (drop-append_seam digits (10 ∷ (text ++ (10 ∷ rest)))) (All-drop IsNoLineFeed (length digits) _ (All-same IsNoLineFeed _ _ (sym e) a)) in
    All-head IsNoLineFeed 10 (text ++ (10 ∷ rest)) behind refl

pub no_number_no_text : (batch line behind text rest : List ℕ) → batch ≡ line ++ (10 ∷ behind) → All IsNoLineFeed line → None ≡ number_of line → BeginsWith batch text rest → ⊥
no_number_no_text batch line behind text rest e a none begins =
    let known : (number_of line ≡ Some (length text)) × (behind ≡ text ++ (10 ∷ rest)) = text_behind_line batch line behind text rest e a begins in
    search (rules, none-some, known.0)

short_no_text : (batch line behind text rest : List ℕ) (count : ℕ) → batch ≡ line ++ (10 ∷ behind) → All IsNoLineFeed line → Some count ≡ number_of line → ((text rest : List ℕ) → IsSplit behind count text rest → ⊥) → BeginsWith batch text rest → ⊥
short_no_text batch line behind text rest count e a is short begins =
    let known : (number_of line ≡ Some (length text)) × (behind ≡ text ++ (10 ∷ rest)) = text_behind_line batch line behind text rest e a begins in
    short text rest (grind (arith, is, known.0), known.1)

-- what a batch begins with, where the bytes behind its first line are split by its number
pub split_begins : (batch line behind : List ℕ) (count : ℕ) (split : Option Case) → batch ≡ line ++ (10 ∷ behind) → All IsNoLineFeed line → Some count ≡ number_of line → MatchOption split ((text rest : List ℕ) → IsSplit behind count text rest → ⊥) (λ case. IsSplit behind count case.text.now case.rest.now) → MatchOption split ((text rest : List ℕ) → BeginsWith batch text rest → ⊥) (λ case. BeginsWith batch case.text.now case.rest.now)
split_begins batch line behind count None e a is short = λ text rest begins. short_no_text batch line behind text rest count e a is short begins
split_begins batch line behind count (Some case) e a is h = (line, sym is ∙ ap Some (sym h.0), e ∙ ap (λ b. line ++ (10 ∷ b)) h.1)
