-- References to characters: what is read is there, and what is there is read.
use Rattle.std.proofs.Common.{◌≡◌, ◌≢◌, ℕ, ◌+◌, ◌-◌, ◌^◌, ◌<◌, ◌≤◌, Bool, true, false, eqb, leb, List, length, get_or, drop, refl, sym, ap, ◌∙◌, subst, arith, inl, inr, get_or-drop, IsUtf8}
use Rattle.std.specs.Prelude.{Ok, Option, Some, None}
use Rattle.std.proofs.lemmas.Str.{IsCharBoundary-after_ascii}
use Rattle.std.proofs.lemmas.List.Sums.{prefix_len_passes}
use Rattle.std.proofs.lemmas.Bool.{eqb-true, eqb-false, eq-eqb, ne_eqb, leb-false, leb-true, and_parts, cases_lt, cases_eq, false≢true}
use Rattle.rox_grammar.specs.Chars.{is_name_start, is_name_char, is_char}
use Rattle.rox_grammar.specs.Runs.{run_end, begins}
use Rattle.rox_grammar.specs.Names.{byte, slice}
use Rattle.rox_grammar.specs.References.{is_digit, is_hex_digit, number, bytes_end, character, predefined, IsNumber, digits, IsReference, entity_ref, IsCharacter, decimal, hexadecimal, named}
use Rattle.rox_reading.specs.Values.{Reference, character_of, entity_at, named_or, number_at, name_reference_at, reference_at}
use Rattle.rox_theory.specs.Openers.{IsStop}
use Rattle.rox_theory.proofs.ReferenceStarts.{hash_bytes, hash_stands, hex_bytes, hex_stands}
use Rattle.rox_theory.proofs.Productions.{number_parts, reference_parts}
use Rattle.rox_theory.proofs.Basics.{ok_same, chosen, within, run_end_le}
use Rattle.rox_theory.proofs.NameLemmas.{begins_here}
use Rattle.rox_theory.proofs.CharLemmas.{run_within}

-- A stretch of bytes goes forwards.
bytes_end_le : (p : ℕ → Bool) (src : List ℕ) (i : ℕ) → i ≤ bytes_end p src i
unfolding bytes_end
bytes_end_le p src i = omega arith

-- Each byte of a stretch passes.
pub bytes_pass : (p : ℕ → Bool) (src : List ℕ) (i k : ℕ) → i ≤ k → k < bytes_end p src i → p (byte src k) ≡ true
unfolding bytes_end
bytes_pass p src i k from below =
    subst (λ (m : ℕ). p (get_or src m 0) ≡ true) (omega arith) (rw get_or-drop at (prefix_len_passes p (drop i src) (k - i) 0 (omega arith)))

-- A number that is read is there.
number_sound : (base : ℕ) (is : ℕ → Bool) (src : List ℕ) (i d : ℕ) (x : Reference × ℕ) → number_at base is src i d ≡ Ok x
    → (c : ℕ) × IsNumber base is src d c x.1 × (x.0 ≡ character_of c)
unfolding number_at
number_sound base is src i d x h =
    let e = bytes_end is src d in
    let n = number base (slice src d e) in
    chosen (eqb e d) _ _ _ h (λ none h. cc) (λ some h.
    chosen (leb (2 ^ 32) n) _ _ _ h (λ large h. cc) (λ small h.
    chosen (is_char (character n)) _ _ _ h (λ allowed h.
    chosen (eqb (byte src e) 59) _ _ _ h (λ closes h.
    let apart = eqb-false _ _ some in
    let le = bytes_end_le is src d in (
      character n,
      subst (IsNumber base is src d (character n)) (ap (λ p. p.1) (ok_same _ _ h)) (digits e refl (omega arith) (eqb-true _ _ closes) (leb-false _ _ small) refl allowed),
      sym (ap (λ p. p.0) (ok_same _ _ h)),
    ))
    (λ fails h. cc)) (λ ill h. cc)))

-- A number that is there is read.
number_complete : (base : ℕ) (is : ℕ → Bool) (src : List ℕ) (i d c j : ℕ) → IsNumber base is src d c j → number_at base is src i d ≡ Ok (character_of c, j)
unfolding number_at
number_complete base is src i d c j (digits e end some closes small is_character allowed) = grind arith

-- What a reference is that ends at j: one to a character, or one to an entity.
pub data IsRead (src : List ℕ) (i : ℕ) : Reference → ℕ → Type 0 where
  is_character : (c j : ℕ) → IsCharacter src i c j → IsRead src i (character_of c) j
  is_entity : (n j : ℕ) → IsReference src i n j → predefined (slice src (i + 1) n) ≡ None → IsRead src i (entity_at (record { start = i + 1; end = n })) j

-- A name, by whether it is predefined.
named_read : (src : List ℕ) (i n j : ℕ) (o : Option ℕ) → IsReference src i n j → predefined (slice src (i + 1) n) ≡ o → IsRead src i (named_or o (record { start = i + 1; end = n })) j
named_read src i n j None r is = is_entity n j r is
named_read src i n j (Some c) r is = is_character c j (named n r is)

-- A number.
number_read : (src : List ℕ) (i c j : ℕ) (r : Reference) → r ≡ character_of c → IsCharacter src i c j → IsRead src i r j
number_read src i c j r is stands = subst (λ (q : Reference). IsRead src i q j) (sym is) (is_character c j stands)

-- A reference that is read is there.
pub reference_sound : (src : List ℕ) (i : ℕ) (x : Reference × ℕ) → byte src i ≡ 38 → reference_at src i ≡ Ok x → IsRead src i x.0 x.1
unfolding reference_at name_reference_at
reference_sound src i x amp h =
    chosen (eqb (byte src (i + 1)) 35) _ _ _ h
    (λ hash h. chosen (eqb (byte src (i + 2)) 120) _ _ _ h
    (λ hex h.
    let m = number_sound 16 is_hex_digit src i (i + 3) x h in
    number_read src i m.0 x.1 x.0 m.2 (hexadecimal (hex_stands src i amp (eqb-true _ _ hash) (eqb-true _ _ hex)) m.1))
    (λ dec h.
    let m = number_sound 10 is_digit src i (i + 2) x h in
    number_read src i m.0 x.1 x.0 m.2 (decimal (hash_stands src i amp (eqb-true _ _ hash)) m.1)))
    (λ name h. chosen (begins is_name_start src (i + 1)) _ _ _ h
    (λ starts h. chosen (eqb (byte src (run_end is_name_char src (i + 1))) 59) _ _ _ h
    (λ closes h.
    let n = run_end is_name_char src (i + 1) in
    let ref : IsReference src i n (n + 1) = entity_ref amp (record { starts = starts; longest = refl }) (eqb-true _ _ closes) in
    subst (λ (y : Reference × ℕ). IsRead src i y.0 y.1) (ok_same _ _ h) (named_read src i n (n + 1) (predefined (slice src (i + 1) n)) ref refl))
    (λ fails h. cc))
    (λ fails h. cc))

-- No name begins with `#`.
no_hash : is_name_start 35 ≡ false
unfolding is_name_start
no_hash = refl

-- Where a name begins, no `#` stands.
pub name_no_hash : (src : List ℕ) (i : ℕ) → begins is_name_start src i ≡ true → byte src i ≢ 35
name_no_hash src i starts hash =
    let b = begins_here is_name_start src i (within src i (λ z. omega arith)) (omega arith) in
    false≢true (sym (b ∙ rw hash no_hash) ∙ starts)

-- The decimal digits.
digit_range : (b : ℕ) → is_digit b ≡ true → (48 ≤ b) × (b ≤ 57)
digit_range b h = let both = and_parts (leb 48 b) (leb b 57) h in (leb-true _ _ both.0, leb-true _ _ both.1)

-- A name that is there is read.
pub name_complete : (src : List ℕ) (i n j : ℕ) → IsReference src i n j → reference_at src i ≡ Ok (named_or (predefined (slice src (i + 1) n)) (record { start = i + 1; end = n }), j)
unfolding reference_at name_reference_at
name_complete src i n j r = grind (arith, reference_parts, name_no_hash)

-- A reference to a character is read.
pub character_complete : (src : List ℕ) (i c j : ℕ) → IsCharacter src i c j → reference_at src i ≡ Ok (character_of c, j)
unfolding reference_at
character_complete src i c j (decimal opens m) =
    let some = (number_parts m).some in let end = (number_parts m).end in
    let digit = digit_range (byte src (i + 2)) (bytes_pass is_digit src (i + 2) (i + 2) (omega arith) (omega arith)) in
    rw ((eq-eqb _ _ (hash_bytes src i opens).1), (ne_eqb (byte src (i + 2)) 120 (λ z. omega arith)), (number_complete 10 is_digit src i (i + 2) c j m)) refl
character_complete src i c j (hexadecimal opens m) =
    let bytes = hex_bytes src i opens in let hex = bytes.2 in
    rw ((eq-eqb _ _ bytes.1), (eq-eqb _ _ hex), (number_complete 16 is_hex_digit src i (i + 3) c j m)) refl
character_complete src i c j (named n r is) = grind (arith, name_complete)

-- And so is one to an entity.
pub entity_complete : (src : List ℕ) (i n j : ℕ) → IsReference src i n j → predefined (slice src (i + 1) n) ≡ None → reference_at src i ≡ Ok (entity_at (record { start = i + 1; end = n }), j)
entity_complete src i n j r is = name_complete src i n j r ∙ ap (λ (o : Option ℕ). Ok (named_or o (record { start = i + 1; end = n }), j)) is

-- A reference to a name begins with `&`, and has a byte.
pub reference_opens : (src : List ℕ) (i n j : ℕ) → IsReference src i n j → (byte src i ≡ 38) × (i < n) × (i < j)
reference_opens src i n j r = let l = (reference_parts r).name.longest in let next = (reference_parts r).next in ((reference_parts r).opens, omega (arith, run_end_le is_name_char src (i + 1)), omega (arith, run_end_le is_name_char src (i + 1)))

-- A reference begins with `&`, and has a byte.
pub character_opens : (src : List ℕ) (i c j : ℕ) → IsCharacter src i c j → (byte src i ≡ 38) × (i < j)
character_opens src i c j h = grind (arith, hash_bytes, hex_bytes, reference_parts)

-- A stop is in no name.
stop_no_name : (b : ℕ) → IsStop b → is_name_char b ≡ false
unfolding is_name_char is_name_start
stop_no_name b h = grind arith

-- A stop is not a hexadecimal digit.
stop_no_hex : (b : ℕ) → IsStop b → is_hex_digit b ≡ false
stop_no_hex b h = grind arith

-- A stop is not a digit.
stop_no_digit : (b : ℕ) → IsStop b → is_digit b ≡ false
stop_no_digit b h = grind arith

-- A stop is ASCII, and none of `;`, `#`, `x` and `&`.
stop_apart : (b : ℕ) → IsStop b → (b < 128) × (b ≢ 59) × (b ≢ 35) × (b ≢ 120) × (b ≢ 38)
stop_apart b h = omega arith

-- Digits and the `;` after them come before a stop.
number_inside : (base : ℕ) (is : ℕ → Bool) (src : List ℕ) (d stop c j : ℕ) → d ≤ stop → stop ≤ length src → (stop < length src → IsStop (byte src stop))
    → ((b : ℕ) → IsStop b → is b ≡ false) → IsNumber base is src d c j → j ≤ stop
number_inside base is src d stop c j from long closes none m =
    let e = (number_parts m).e in
    let end = (number_parts m).end in let next = (number_parts m).next in let some = (number_parts m).some in
    let inside : e < length src = within src e (λ z. omega (arith, (number_parts m).closes)) in
    elim (cases_lt e stop) [
      | inl l ↦ omega arith
      | inr g ↦ absurd (
          let s : IsStop (byte src stop) = closes (omega arith) in
          elim (cases_eq stop e) [
            | inl same ↦ (let k : byte src stop ≡ 59 = rw same (number_parts m).closes in (stop_apart _ s).1 k)
            | inr apart ↦ false≢true (sym (none _ s) ∙ bytes_pass is src d stop from (omega arith))
          ])
    ]

-- A reference to a name that begins before a stop ends before it.
pub reference_inside : (src : List ℕ) (i stop n j : ℕ) → IsUtf8 src → i < stop → stop ≤ length src → (stop < length src → IsStop (byte src stop)) → IsReference src i n j → j ≤ stop
reference_inside src i stop n j utf8 from long closes r =
    let l = (reference_parts r).name.longest in let next = (reference_parts r).next in let closes' = (reference_parts r).closes in let amp = (reference_parts r).opens in
    let inside : n < length src = within src n (λ z. omega arith) in
    let cut = IsCharBoundary-after_ascii src i utf8 (omega arith) (omega arith) in
    elim (cases_lt n stop) [
      | inl lt ↦ omega arith
      | inr ge ↦ absurd (
          let s : IsStop (byte src stop) = closes (omega arith) in
          let le : n ≤ stop = rw (sym l) at (run_within is_name_char src (i + 1) stop utf8 cut (omega arith) (omega arith) ((stop_apart _ s).0) (stop_no_name _ s)) in
          let same : stop ≡ n = omega arith in
          let k : byte src stop ≡ 59 = rw same closes' in (stop_apart _ s).1 k)
    ]

-- A reference that begins before a stop ends before it.
pub character_inside : (src : List ℕ) (i stop c j : ℕ) → IsUtf8 src → i < stop → stop ≤ length src → (stop < length src → IsStop (byte src stop)) → IsCharacter src i c j → j ≤ stop
character_inside src i stop c j utf8 from long closes (decimal opens m) =
    let hash = (hash_bytes src i opens).1 in
    let apart : stop ≢ i + 1 = λ same. let h = rw (← same) at hash in (stop_apart _ (closes (let l = within src (i + 1) (λ z. omega arith) in omega arith))).2 h in
    number_inside 10 is_digit src (i + 2) stop c j (omega arith) long closes stop_no_digit m
character_inside src i stop c j utf8 from long closes (hexadecimal opens m) =
    let bytes = hex_bytes src i opens in let hash = bytes.1 in let hex = bytes.2 in
    let apart : stop ≢ i + 1 = λ same. let h = rw (← same) at hash in (stop_apart _ (closes (let l = within src (i + 1) (λ z. omega arith) in omega arith))).2 h in
    let apart' : stop ≢ i + 2 = λ same. let h = rw (← same) at hex in (stop_apart _ (closes (let l = within src (i + 2) (λ z. omega arith) in omega arith))).3 h in
    number_inside 16 is_hex_digit src (i + 3) stop c j (omega arith) long closes stop_no_hex m
character_inside src i stop c j utf8 from long closes (named n r is) = reference_inside src i stop n j utf8 from long closes r
