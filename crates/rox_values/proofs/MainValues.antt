-- A value of the main text neither uses nor changes how many replacement texts may be opened.
use Rattle.std.proofs.Common.{◌≡◌, ℕ, zero, suc, ◌-◌, ◌≤◌, Bool, true, false, Option, Some, None, IfOk, IfSome, List, [], Result, Ok, Err, if◌then◌else◌, refl, subst, arith}
use Rattle.std.specs.Prelude.{String, string_bytes}
use Rattle.std.specs.declared.alloc.Global.{Global}
use Rattle.rox_grammar.specs.Entities.{Replacement, Entity}
use Rattle.rox_reading.specs.Lexical.{Read, ◌>>=◌}
use Rattle.rox_reading.specs.Machine.{value_opener}
use Rattle.rox_reading.specs.Refusals.{Refusal, lifted}
use Rattle.rox_reading.specs.Tags.{Values}
use Rattle.rox_reading.specs.Values.{Bit, bytes_of, opens, ValueInclusion, after_value_bit, value_text}
use Rattle.rox_values.specs.DeclaredEntities.{AreMainValues}
use Rattle.rox_values.specs.PlainBits.{PutsBits}
use Rattle.rox_values.specs.Values.{PutsRest, text_behind}
use Rattle.rox_values.proofs.PartLemmas.{value_done}
use Rattle.rox_values.specs.declared.context.Context.{Context}

-- what gives the same bytes however many may be opened, and leaves as many
abbrev pub IsFree : (ℕ → Result (List ℕ × ℕ) Refusal) → Type 0
IsFree read = (l c : ℕ) (bs : List ℕ) → read 0 ≡ Ok (bs, c) → read l ≡ Ok (bs, l)

bound : (r : Result (List ℕ × ℕ) Refusal) (next : List ℕ × ℕ → Result (List ℕ × ℕ) Refusal) (y : List ℕ × ℕ) → (r >>= next) ≡ Ok y → (x : List ℕ × ℕ) × ((r ≡ Ok x) × (next x ≡ Ok y))
bound (Ok x) next y h = (x, (refl, h))
bound (Err e) next y h = cc h

free_of : (read : Result (List ℕ × ℕ) Refusal) → IsFree (λ l. read >>= λ x. Ok (x.0, l))
free_of (Ok x) l c bs h = grind arith
free_of (Err e) l c bs h = cc h

opener_free : (es : List Entity) (d : ℕ) (t : Replacement) (after : ℕ) → IsFree (value_opener es d true t after)
unfolding value_opener
opener_free es zero t after l c bs h = cc h
opener_free es (suc d) t after l c bs h = free_of _ l c bs h

bit_free : (opener : ValueInclusion) (more : ℕ → ℕ → Result (List ℕ × ℕ) Refusal) (bit : Bit) (j : ℕ) → ((t : Replacement) → IsFree (opener t j)) → IsFree (more j)
    → IsFree (λ l. after_value_bit opener more l bit j)
bit_free opener more (bytes_of xs) j opened rest l c bs h =
    let b = bound (more j 0) _ _ h in
    let r = rest l b.0.1 b.0.0 b.1.0 in
    grind arith
bit_free opener more (opens t) j opened rest l c bs h =
    let b = bound (opener t j 0) _ _ h in
    let o = opened t l b.0.1 b.0.0 b.1.0 in
    let none = opened t 0 b.0.1 b.0.0 b.1.0 in
    let m = bound (more j b.0.1) _ _ b.1.1 in
    let left : b.0.1 ≡ 0 = grind arith in
    let r = rest l m.0.1 m.0.0 (subst (λ (n : ℕ). more j n ≡ Ok m.0) left m.1.0) in
    grind arith

item_free : (opener : ValueInclusion) (more : ℕ → ℕ → Result (List ℕ × ℕ) Refusal) (b : Bool) (read : Read Bit) → ((t : Replacement) (j : ℕ) → IsFree (opener t j)) → ((j : ℕ) → IsFree (more j))
    → IsFree (λ l. if b then (lifted read >>= λ x. after_value_bit opener more l x.0 x.1) else Ok ([], l))
item_free opener more true (Ok x) opened rest l c bs h = bit_free opener more x.0 x.1 (λ t. opened t x.1) (rest x.1) l c bs h
item_free opener more true (Err e) opened rest l c bs h = cc h
item_free opener more false read opened rest l c bs h = grind arith

value_free : (es : List Entity) (d n : ℕ) (src : List ℕ) (stop i : ℕ) → IsFree (value_text true es (value_opener es d true) n src stop i)
unfolding value_text
value_free es d zero src stop i l c bs h = grind arith
value_free es d (suc n) src stop i l c bs h =
    item_free (value_opener es d true) (λ j l. value_text true es (value_opener es d true) n src stop j l) _ _ (opener_free es d) (λ j. value_free es d n src stop j) l c bs h

behind_free : (front : List ℕ) (read : ℕ → Result (List ℕ × ℕ) Refusal) → IsFree read → IsFree (λ l. text_behind front (read l))
behind_free front read free l c bs h =
    let b = bound (read 0) _ _ h in
    let r = free l b.0.1 b.0.0 b.1.0 in
    grind arith

pub of_main : (x : Context) (values : Values) → AreMainValues x values → values.main ≡ true
of_main x values m = rw m.are m.main

-- what was appended with none to be opened
pub rest_free : (x : Context) (values : Values) → (m : AreMainValues x values) → (c : ℕ) (src old new : List ℕ) (stop i : ℕ)
    → ((bits : ℕ) → stop - i ≤ bits → text_behind old (value_text x.main m.entities (value_opener m.entities x.depth_left x.main) bits src stop i 0) ≡ Ok (new, c)) → PutsRest values src i stop old new
rest_free x values m c src old new stop i h = λ bits enough openings_left.
    let es = m.entities in
    let read = h bits enough in
    let free = behind_free old (value_text true es (value_opener es x.depth_left true) bits src stop i) (value_free es x.depth_left bits src stop i) openings_left c new in
    grind (arith, m.are, m.main)

-- bits, and the rest behind them
pub rest_behind : (values : Values) (src old mid new : List ℕ) (stop i j : ℕ) → values.main ≡ true → PutsBits true src i stop old mid j → PutsRest values src j stop mid new → PutsRest values src i stop old new
rest_behind values src old mid new stop i j main p h = λ bits enough openings_left.
    let q = p.reads bits enough in
    let rest = h q.0 q.1.0 openings_left in
    let same = q.1.1 values.entities values.opener openings_left in
    grind (arith, main)

pub rest_none : (values : Values) (src old new : List ℕ) (stop i j : ℕ) → values.main ≡ true → PutsBits true src i stop old new j → stop ≤ j → PutsRest values src i stop old new
rest_none values src old new stop i j main p past = λ bits enough openings_left.
    let q = p.reads bits enough in
    let same = q.1.1 values.entities values.opener openings_left in
    let done = value_done true values.entities values.opener openings_left new q.0 src stop j past in
    grind (arith, main)

pub rest_where : {E : Type 0} (x : Context) (r : Result Bool E) (src old mid new : List ℕ) (stop i j : ℕ) → PutsBits true src i stop old mid j → IfOk r (λ put. put ≡ true → (values : Values) → AreMainValues x values → PutsRest values src j stop mid new)
    → IfOk r (λ put. put ≡ true → (values : Values) → AreMainValues x values → PutsRest values src i stop old new)
rest_where x (Ok put) src old mid new stop i j p h = λ yes values is. rest_behind values src old mid new stop i j (of_main x values is) p (h yes values is)
rest_where x (Err e) src old mid new stop i j p h = tt

pub none_behind : (read : Result (List ℕ × ℕ) Refusal) (new : List ℕ) (openings_left : ℕ) → text_behind [] read ≡ Ok (new, openings_left) → read ≡ Ok (new, openings_left)
none_behind (Ok x) new openings_left h = h
none_behind (Err e) new openings_left h = cc h

-- what is read alike whatever is declared
pub alike : (x : Context) (o : Option (String Global)) (src : List ℕ) (i stop : ℕ)
    → IfSome o (λ s. (es : List Entity) (opener : ValueInclusion) (openings_left : ℕ) → value_text true es opener (stop - i) src stop i openings_left ≡ Ok (string_bytes s, openings_left))
    → IfSome o (λ s. (values : Values) → AreMainValues x values → (openings_left : ℕ) → value_text values.main values.entities values.opener (stop - i) src stop i openings_left ≡ Ok (string_bytes s, openings_left))
alike x None src i stop h = tt
alike x (Some s) src i stop h = λ values is openings_left. rw (of_main x values is) (h values.entities values.opener openings_left)
