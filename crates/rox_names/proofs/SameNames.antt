-- A name that was read is read again wherever the same bytes stand before `>`.
use Rattle.std.proofs.Common.{◌≡◌, ℕ, ◌+◌, ◌-◌, ◌<◌, ◌≤◌, Bool, false, List, [], ◌∷◌, ◌++◌, Ok, length, take, drop, slice_index, slice_range, refl, sym, ap, ◌∙◌, subst, arith, inl, inr, add-zero, length-drop, length-append, get_or-drop, take-append-drop, chars, IsUtf8, IsCharBoundary, encode_utf8_all}
use Rattle.std.specs.Prelude.{bytes_eq}
use Rattle.std.specs.Char.{encode_utf8, len_utf8}
use Rattle.std.proofs.lemmas.Bool.{cases_Bool}
use Rattle.std.proofs.lemmas.List.{drop-drop, drop-take, take-take, length-take, get_or-take}
use Rattle.std.proofs.lemmas.Str.{chars-append, encodes-chars, length-encode, len_utf8_bounds, IsUtf8-drop, IsUtf8-take, IsCharBoundary-after_ascii}
use Rattle.rox_grammar.specs.Chars.{is_name_start, is_name_char, is_part_char}
use Rattle.rox_grammar.specs.Names.{IsNCName, IsQName, unprefixed, prefixed, colon_first}
use Rattle.rox_grammar.specs.Runs.{run_end, begins, passing, first_passes}
use Rattle.rox_grammar.specs.Written.{Name, NamespaceDecl}
use Rattle.rox_grammar.specs.FixedTexts.{word_text}
use Rattle.rox_grammar.specs.Tree.{listed}
use Rattle.rox_grammar.specs.Failures.{name_view}
use Rattle.rox_grammar.specs.declared.fault.Fault.{Fault}
use Rattle.rox_grammar.specs.declared.fault.Word.TheVariants as word
use Rattle.rox_reading.specs.Lexical.{qname_at}
use Rattle.rox_reading.specs.Tags.{Values, TagRead, tag_at, attributes_at, tag_tested}
use Rattle.rox_theory.proofs.Productions.{ncname_parts, ncname_made}
use Rattle.rox_theory.proofs.Basics.{ok_same, bind_ok, bind_lifted, chosen}
use Rattle.rox_theory.proofs.CharLemmas.{part_some}
use Rattle.rox_theory.proofs.NameLemmas.{qname_sound, qname_complete, qname_le}
use Rattle.rox_theory.proofs.CharTexts.{run_cut}
use Rattle.rox_bytes.proofs.RunLemmas.{run_stops_ascii, stands_within}
use Rattle.rox_names.specs.OpenElements.{name_length, HasName, IsOpened, open_name}
use Rattle.rox_names.specs.declared.open_element.OpenElement.{OpenElement}
use Rattle.rox_names.specs.declared.start_tag.StartTag.{StartTag}

-- ---- of one source

-- what stands between two such places is a text
between : (src : List ℕ) (i n : ℕ) → IsUtf8 src → IsCharBoundary src i → IsCharBoundary src (i + n) → IsUtf8 (take n (drop i src))
between src i n utf8 cut end =
    let long = length-drop i src in
    IsUtf8-take (drop i src) n (IsUtf8-drop src i utf8 cut)
    (omega (arith, end.0, long), λ more wide. let read = get_or-drop i src n 0 in rw read (end.1 (omega (arith, long)) (rw read at wide)))

-- ---- of two

-- the same bytes, of which some are looked at
less : (xs ys : List ℕ) (n k : ℕ) → take n xs ≡ take n ys → k ≤ n → take k xs ≡ take k ys
less xs ys n k same le = sym (take-take k n xs le) ∙ ap (take k) same ∙ take-take k n ys le

some_of : (src dst : List ℕ) (i j n a b : ℕ) → take n (drop i src) ≡ take n (drop j dst) → a + b ≤ n → take b (drop (i + a) src) ≡ take b (drop (j + a) dst)
some_of src dst i j n a b same le =
    ap (take b) (sym (drop-drop a i src)) ∙ sym (drop-take a b (drop i src)) ∙ ap (drop a) (less (drop i src) (drop j dst) n (a + b) same le)
    ∙ drop-take a b (drop j dst) ∙ ap (take b) (drop-drop a j dst)

one_of : (src dst : List ℕ) (i j n a : ℕ) → take n (drop i src) ≡ take n (drop j dst) → a < n → slice_index src (i + a) ≡ slice_index dst (j + a)
one_of src dst i j n a same less = grind (arith, get_or-take, get_or-drop)

-- characters that all pass, whatever is behind them
all_pass : (p : ℕ → Bool) (cs ds es : List ℕ) → passing p (cs ++ ds) ≡ length (encode_utf8_all cs) → passing p es ≡ 0 → passing p (cs ++ es) ≡ length (encode_utf8_all cs)
all_pass p [] ds es h none = none
all_pass p (c ∷ cs) ds es h none =
    let n = length-append (encode_utf8 c) (encode_utf8_all cs) in
    let m = length-encode c in
    elim (cases_Bool (p c)) as (λ s. passing p (c ∷ (cs ++ es)) ≡ length (encode_utf8 c ++ encode_utf8_all cs)) [
      | inl passes ↦ (
          let h' : len_utf8 c + passing p (cs ++ ds) ≡ length (encode_utf8 c ++ encode_utf8_all cs) = rw passes at h in
          let ih = all_pass p cs ds es (omega arith) none in
          rw passes (omega arith))
      | inr fails ↦ (let h' : 0 ≡ length (encode_utf8 c ++ encode_utf8_all cs) = rw fails at h in absurd (omega (arith, (len_utf8_bounds c).0)))
    ]

none_pass : (p : ℕ → Bool) (src : List ℕ) (i : ℕ) → IsUtf8 src → i < length src → slice_index src i < 128 → p (slice_index src i) ≡ false → passing p (chars (drop i src)) ≡ 0
unfolding run_end
none_pass p src i utf8 within ascii fails = let e = run_stops_ascii p src i utf8 within ascii fails in omega arith

-- a run ends where its bytes do, before one that fails
run_same : (p : ℕ → Bool) (src dst : List ℕ) (i j n : ℕ) → IsUtf8 src → IsUtf8 dst → IsCharBoundary src i → run_end p src i ≡ i + n → take n (drop i src) ≡ take n (drop j dst)
    → j + n < length dst → slice_index dst (j + n) < 128 → p (slice_index dst (j + n)) ≡ false → run_end p dst j ≡ j + n
unfolding run_end
run_same p src dst i j n us ud cut is same within ascii fails =
    let there : IsCharBoundary src (i + n) = subst (IsCharBoundary src) is (run_cut p src i us cut) in
    let w = take n (drop i src) in
    let text = between src i n us cut there in
    let long : length w ≡ n = (let l = length-take n (drop i src) in let m = length-drop i src in let t = there.0 in omega arith) in
    let enc : length (encode_utf8_all (chars w)) ≡ n = ap length (encodes-chars w text) ∙ long in
    let a : chars (drop i src) ≡ chars w ++ chars (drop n (drop i src)) = ap chars (sym (take-append-drop n (drop i src))) ∙ chars-append w (drop n (drop i src)) text in
    let b : chars (drop j dst) ≡ chars w ++ chars (drop n (drop j dst)) =
    ap chars (sym (take-append-drop n (drop j dst)) ∙ ap (λ xs. xs ++ drop n (drop j dst)) (sym same)) ∙ chars-append w (drop n (drop j dst)) text in
    let passes : passing p (chars w ++ chars (drop n (drop i src))) ≡ length (encode_utf8_all (chars w)) = sym (ap (passing p) a) ∙ (omega arith) ∙ sym enc in
    let none : passing p (chars (drop n (drop j dst))) ≡ 0 = ap (λ xs. passing p (chars xs)) (drop-drop n j dst) ∙ none_pass p dst (j + n) ud within ascii fails in
    ap (λ (k : ℕ). j + k) (ap (passing p) b ∙ all_pass p (chars w) (chars (drop n (drop i src))) (chars (drop n (drop j dst))) passes none ∙ enc)

-- they begin with the same character
begins_same : (p : ℕ → Bool) (src dst : List ℕ) (i j n : ℕ) → IsUtf8 src → IsCharBoundary src i → IsCharBoundary src (i + n) → 0 < n → take n (drop i src) ≡ take n (drop j dst) → begins p dst j ≡ begins p src i
unfolding begins
begins_same p src dst i j n us cut there more same =
    let w = take n (drop i src) in
    let text = between src i n us cut there in
    let long : length w ≡ n = (let l = length-take n (drop i src) in let m = length-drop i src in let t = there.0 in omega arith) in
    let enc : length (encode_utf8_all (chars w)) ≡ n = ap length (encodes-chars w text) ∙ long in
    let a : chars (drop i src) ≡ chars w ++ chars (drop n (drop i src)) = ap chars (sym (take-append-drop n (drop i src))) ∙ chars-append w (drop n (drop i src)) text in
    let b : chars (drop j dst) ≡ chars w ++ chars (drop n (drop j dst)) =
    ap chars (sym (take-append-drop n (drop j dst)) ∙ ap (λ xs. xs ++ drop n (drop j dst)) (sym same)) ∙ chars-append w (drop n (drop j dst)) text in
    ap (first_passes p) b ∙ first (chars w) (chars (drop n (drop j dst))) (chars (drop n (drop i src))) (omega arith) ∙ sym (ap (first_passes p) a)
  where
    first : (cs ds es : List ℕ) → 0 < length (encode_utf8_all cs) → first_passes p (cs ++ ds) ≡ first_passes p (cs ++ es)
    first [] ds es some = absurd (omega arith)
    first (c ∷ cs) ds es some = refl

-- a part of a name
part_same : (src dst : List ℕ) (i j n e b : ℕ) → IsUtf8 src → IsUtf8 dst → IsCharBoundary src i → IsNCName src i e → e ≡ i + n → take n (drop i src) ≡ take n (drop j dst)
    → slice_index dst (j + n) ≡ b → 0 < b → b < 128 → is_part_char b ≡ false → IsNCName dst j (j + n)
part_same src dst i j n e b us ud cut is at same stop some ascii fails =
    let run : run_end is_part_char src i ≡ i + n = sym ((ncname_parts is).longest) ∙ at in
    let there : IsCharBoundary src (i + n) = subst (IsCharBoundary src) run (run_cut is_part_char src i us cut) in
    let more = part_some src i us cut (ncname_parts is).starts (ncname_parts is).no_colon in
    let first' : slice_index src i ≡ slice_index dst j = rw (add-zero i, add-zero j) at (one_of src dst i j n 0 same (omega arith)) in
    ncname_made (record {
      starts = begins_same is_name_start src dst i j n us cut there (omega arith) same ∙ (ncname_parts is).starts;
      no_colon = λ c. (ncname_parts is).no_colon (first' ∙ c);
      longest = sym (run_same is_part_char src dst i j n us ud cut run same (stands_within dst (j + n) b stop some) (rw stop ascii) (rw stop fails));
    })

pub colon_apart : is_part_char 58 ≡ false
unfolding is_part_char is_name_char is_name_start
colon_apart = refl

close_apart : is_part_char 62 ≡ false
unfolding is_part_char is_name_char is_name_start
close_apart = refl

-- behind a colon a character begins
pub behind_colon : (src : List ℕ) (k : ℕ) → IsUtf8 src → slice_index src k ≡ 58 → IsCharBoundary src (k + 1)
behind_colon src k utf8 colon = IsCharBoundary-after_ascii src k utf8 (stands_within src k 58 colon (omega arith)) (rw colon (omega arith))

-- a name ends in the source
pub name_inside : (src : List ℕ) (i : ℕ) (name : Name) (e : ℕ) → IsUtf8 src → IsCharBoundary src i → IsQName src i name e → e ≤ length src
name_inside src i name e utf8 cut p = grind (arith, ncname_parts, run_cut, behind_colon)

slice_same : (src dst : List ℕ) (i j n a b k e m f : ℕ) → take n (drop i src) ≡ take n (drop j dst) → a + b ≤ n → k ≡ i + a → e ≡ k + b → m ≡ j + a → f ≡ m + b → slice_range dst m f ≡ slice_range src k e
slice_same src dst i j n a b k e m f same le ka eb ma fb = grind (arith, some_of)

name_same : (src dst : List ℕ) (i j n e : ℕ) (name : Name) → IsUtf8 src → IsUtf8 dst → IsCharBoundary src i → IsQName src i name e → e ≡ i + n → take n (drop i src) ≡ take n (drop j dst)
    → slice_index dst (j + n) ≡ 62 → IsQName dst j name (j + n)
name_same src dst i j n e name us ud cut (unprefixed _ _ part last) at same stop =
    let p = part_same src dst i j n e 62 us ud cut part at same stop (omega arith) (omega arith) close_apart in
    let s = slice_same src dst i j n 0 n i e j (j + n) same (omega arith) (omega arith) at (omega arith) refl in
    subst (λ (l : List ℕ). IsQName dst j (record { prefix = []; local = l }) (j + n)) s (unprefixed j (j + n) p (λ c. omega (arith, stop, c)))
name_same src dst i j n e name us ud cut (prefixed _ k _ front colon part last) at same stop =
    let some : i < k = rw (ncname_parts front).longest (part_some src i us cut (ncname_parts front).starts (ncname_parts front).no_colon) in
    let behind = behind_colon src k us colon in
    let some' : k + 1 < e = rw (ncname_parts part).longest (part_some src (k + 1) us behind (ncname_parts part).starts (ncname_parts part).no_colon) in
    let m = k - i in
    let r = e - (k + 1) in
    let ik : i + m ≡ k = omega arith in
    let ir : i + (m + 1) ≡ k + 1 = omega arith in
    let jr : j + (m + 1) ≡ j + m + 1 = omega arith in
    let part_bytes : take r (drop (k + 1) src) ≡ take r (drop (j + m + 1) dst) = rw (ir, jr) at (some_of src dst i j n (m + 1) r same (omega arith)) in
    let colon' : slice_index dst (j + m) ≡ 58 = sym (one_of src dst i j n m same (omega arith)) ∙ ap (slice_index src) ik ∙ colon in
    let end : j + m + 1 + r ≡ j + n = omega arith in
    let p = part_same src dst i j m k 58 us ud cut front (sym ik) (less (drop i src) (drop j dst) n m same (omega arith)) colon' (omega arith) (omega arith) colon_apart in
    let q = rw end at (part_same src dst (k + 1) (j + m + 1) r e 62 us ud behind part (omega arith) part_bytes (rw end stop) (omega arith) (omega arith) close_apart) in
    let s = slice_same src dst i j n 0 m i k j (j + m) same (omega arith) (omega arith) (omega arith) (omega arith) refl in
    let t = slice_same src dst i j n (m + 1) r (k + 1) e (j + m + 1) (j + n) same (omega arith) (omega arith) (omega arith) (omega arith) (sym end) in
    subst (λ (l : List ℕ). IsQName dst j (record { prefix = l; local = slice_range src (k + 1) e }) (j + n)) s
    (subst (λ (l : List ℕ). IsQName dst j (record { prefix = slice_range dst j (j + m); local = l }) (j + n)) t (prefixed j (j + m) (j + n) p colon' q (λ c. omega (arith, stop, c))))
name_same src dst i j n e name us ud cut (colon_first _ _ colon part last) at same stop =
    let behind = behind_colon src i us colon in
    let some' : i + 1 < e = rw (ncname_parts part).longest (part_some src (i + 1) us behind (ncname_parts part).starts (ncname_parts part).no_colon) in
    let r = e - (i + 1) in
    let part_bytes : take r (drop (i + 1) src) ≡ take r (drop (j + 1) dst) = some_of src dst i j n 1 r same (omega arith) in
    let first' : slice_index src i ≡ slice_index dst j = rw (add-zero i, add-zero j) at (one_of src dst i j n 0 same (omega arith)) in
    let end : j + 1 + r ≡ j + n = omega arith in
    let q = rw end at (part_same src dst (i + 1) (j + 1) r e 62 us ud behind part (omega arith) part_bytes (rw end stop) (omega arith) (omega arith) close_apart) in
    let t = slice_same src dst i j n 1 r (i + 1) e (j + 1) (j + n) same (omega arith) refl (omega arith) refl (sym end) in
    subst (λ (l : List ℕ). IsQName dst j (record { prefix = []; local = l }) (j + n)) t (colon_first j (j + n) (sym first' ∙ colon) q (λ c. omega (arith, stop, c)))

pub named_same : (src dst : List ℕ) (i j n : ℕ) (name : Name) → IsUtf8 src → IsUtf8 dst → IsCharBoundary src i → qname_at src i ≡ Ok (name, i + n) → take n (drop i src) ≡ take n (drop j dst)
    → slice_index dst (j + n) ≡ 62 → qname_at dst j ≡ Ok (name, j + n)
named_same src dst i j n name us ud cut read same stop =
    qname_complete dst j name (j + n) (name_same src dst i j n (i + n) name us ud cut (qname_sound src i (name, i + n) read) refl same stop)

-- ---- of a start tag

-- the name that is read of it
pub tag_named : (context : Values) (cut : Fault) (above : List NamespaceDecl) (count : ℕ) (known : List NamespaceDecl) (src : List ℕ) (i openings_left : ℕ) (r : TagRead) (j : ℕ)
    → tag_at context cut above count known src i openings_left ≡ Ok (r, j) → qname_at src (i + 1) ≡ Ok (r.tag.name, r.tag.name_end)
unfolding tag_at
tag_named context cut above count known src i openings_left r j h =
    bind_lifted (qname_at src (i + 1)) _ _ h (λ n named h.
    chosen (bytes_eq n.0.prefix (word_text word.Xmlns)) _ _ _ h (λ reserved h. cc) (λ free h.
    bind_ok (attributes_at (length src) context cut known src n.1 openings_left (record { own = []; attributes = [] })) _ _ h (λ x rest h.
    bind_lifted (tag_tested (listed above x.0.held.own) count i n.0 x.0.held.attributes) _ _ h (λ u tested h.
    subst (λ (z : TagRead × ℕ). qname_at src (i + 1) ≡ Ok (z.0.tag.name, z.0.tag.name_end)) (ok_same _ _ h) named))))

-- so an element that it opens has its name
pub opened_named : (src : List ℕ) (i e : ℕ) (q : Name) (t : StartTag) (o : OpenElement) → IsUtf8 src → slice_index src i ≡ 60 → qname_at src (i + 1) ≡ Ok (q, e) → name_view t.name ≡ q → t.name_end ≡ e → t.name_start ≡ i + 1
    → IsOpened src t o → HasName o
opened_named src i e q t o utf8 here named name name_end name_start by =
    let le = qname_le src (i + 1) q e (qname_sound src (i + 1) (q, e) named) in
    let cut = IsCharBoundary-after_ascii src i utf8 (stands_within src i 60 here (omega arith)) (rw here (omega arith)) in
    let n = name_length o in
    let view : open_name o ≡ q = by.name ∙ name in
    let long : n ≡ e - (i + 1) = by.kept.counted ∙ ap (λ (m : ℕ). m - t.name_start) name_end ∙ ap (λ (k : ℕ). e - k) name_start in
    let named' : qname_at src (i + 1) ≡ Ok (q, i + 1 + n) = named ∙ ap (λ (m : ℕ). Ok (q, m)) (omega arith) in
    let bytes : take n o.source.now ≡ take n (drop (i + 1) src) = by.kept.bytes ∙ rw (name_end, name_start, ← long) refl in
    grind (arith, named_same)
