-- Attributes and the end of a start tag: what is read is there, and what is there is read.
use Rattle.std.proofs.Common.{◌≡◌, ◌≢◌, ℕ, ◌+◌, ◌<◌, Bool, true, false, cond, eqb, leb, List, length, refl, sym, ap, ◌∙◌, subst, arith, ◌⊎◌, IsUtf8, IsCharBoundary}
use Rattle.std.specs.Prelude.{Ok}
use Rattle.std.proofs.lemmas.Bool.{eqb-true, eqb-false, ne_eqb, leb-false, lt-leb}
use Rattle.rox_grammar.specs.Chars.{is_space, is_name_start}
use Rattle.rox_grammar.specs.Runs.{begins}
use Rattle.rox_grammar.specs.Written.{Name, Attribute}
use Rattle.rox_grammar.specs.Names.{byte, slice, spaces_end, IsQName, unprefixed, prefixed, colon_first}
use Rattle.rox_grammar.specs.Constructs.{IsEq, IsAttValue}
use Rattle.rox_grammar.specs.Content.{Inclusion, IsAttribute, TagEnds}
use Rattle.rox_grammar.specs.Content as content
use Rattle.rox_reading.specs.Lexical.{byte_at, quote_at, qname_at}
use Rattle.rox_reading.specs.Markup.{RawAttribute, raw_value_at, attribute_at, TagItem, more, opened, closed, tag_item_at}
use Rattle.rox_reading.specs.Values.{ReadText, value_at}
use Rattle.rox_reading.specs.Tags.{Values, attribute_with}
use Rattle.rox_theory.proofs.Productions.{ncname_parts}
use Rattle.rox_theory.proofs.Basics.{ok_same, bind_ok, chosen, within, run_end_le, byte_sound, byte_complete, chars_sound, chars_complete}
use Rattle.rox_theory.proofs.NameLemmas.{qname_sound, qname_complete, qname_le, begins_here}
use Rattle.rox_theory.proofs.LiteralLemmas.{value_stop, value_stop_le, quote_sound, quote_complete, quote_ascii, literal_sound, literal_complete, literal_closes, literal_plain, literal_le}
use Rattle.rox_theory.specs.Openers.{IsStop, AgreesValue}
use Rattle.rox_theory.proofs.CharTexts.{cut_behind}
use Rattle.rox_theory.proofs.ValueLemmas.{value_sound, value_complete}
use Rattle.rox_theory.proofs.AttributeParts.{from_parts}

-- An attribute is there, its value not looked at.
pub record RawStands (src : List ℕ) (i j : ℕ) (raw : RawAttribute) : Type 0 where
  pub starts : raw.start ≡ i
  pub is_name : IsQName src i raw.name raw.name_end
  pub v : ℕ
  pub eq : IsEq src raw.name_end v
  pub value_start : raw.value_start ≡ v + 1
  pub literal : IsAttValue src v raw.value_end j

-- An attribute that is read is there, its value apart.
pub raw_sound : (src : List ℕ) → IsUtf8 src → (i : ℕ) (x : RawAttribute × ℕ) → attribute_at src i ≡ Ok x → RawStands src i x.1 x.0
unfolding attribute_at raw_value_at
raw_sound src utf8 i x h =
    bind_ok (qname_at src i) _ _ h (λ n named h.
    bind_ok (byte_at 61 src (spaces_end src n.1)) _ _ h (λ s equals h.
    bind_ok (quote_at src (spaces_end src s.1)) _ _ h (λ q quoted h.
    bind_ok (raw_value_at q.0 src q.1) _ _ h (λ t text h.
    bind_ok (byte_at q.0 src t.1) _ _ h (λ d last h.
    let eq = byte_sound 61 src (spaces_end src n.1) s equals in
    let v = spaces_end src s.1 in
    let quote = quote_sound src v q quoted in
    let q0 : q.0 ≡ byte src v = quote.1 in
    let q1 : q.1 ≡ v + 1 = quote.2 in
    let read = rw (q0, q1) at text in
    let last = rw q0 at last in
    let e = value_stop src v in
    chosen (leb (length src) e) _ _ _ read (λ out z. cc) (λ some read.
    let c = chars_sound e src (v + 1) t utf8 (value_stop_le src v) read in
    let t1 : t.1 ≡ e = c.2 in
    let b = byte_sound (byte src v) src t.1 d last in
    let l = literal_sound src v quote.0 c.0 (rw t1 at b.0) (leb-false _ _ some) in
    let x0 : ◌≡◌ {A = RawAttribute × ℕ} (record { start = i; name = n.0; name_end = n.1; value_start = q.1; value_end = t.1 }, d.1) x = ok_same _ _ h in
    let l' : IsAttValue src v t.1 d.1 = subst (λ (m : ℕ). IsAttValue src v m d.1) (sym t1) (subst (λ (m : ℕ). IsAttValue src v e m) (sym (rw t1 at b.1)) l) in
    subst (λ (y : RawAttribute × ℕ). RawStands src i y.1 y.0) x0
    (record { starts = refl; is_name = qname_sound src i n named; v = v; eq = (eq.0, ap (spaces_end src) eq.1); value_start = q1; literal = l' })))))))

-- An attribute that is there is read, its value apart.
pub raw_complete : (src : List ℕ) (i j : ℕ) (raw : RawAttribute) → RawStands src i j raw → attribute_at src i ≡ Ok (raw, j)
unfolding attribute_at raw_value_at
raw_complete src i j raw r =
    let s = byte_complete 61 src (spaces_end src raw.name_end) r.eq.0 (λ z. omega arith) in
    let e = literal_complete src r.v raw.value_end j r.literal in
    let more = lt-leb (length src) raw.value_end r.literal.0.2 in
    let c = chars_complete raw.value_end src (r.v + 1) r.literal.1 in
    let nz = quote_ascii (byte src r.v) r.literal.0.0 in
    let b = byte_complete (byte src r.v) src raw.value_end (literal_closes src r.v raw.value_end j r.literal) (λ z. omega arith) in
    rw ((qname_complete src i raw.name raw.name_end r.is_name), s, ← r.eq.1, (quote_complete src r.v r.literal.0.0), e, more, c, b, r.literal.0.3, ← r.value_start, ← r.starts) refl

-- It has a byte.
raw_le : (src : List ℕ) (i j : ℕ) (raw : RawAttribute) → RawStands src i j raw → i < j
raw_le src i j raw r = grind (arith, qname_le, run_end_le)

-- No name begins with a slash.
no_slash : is_name_start 47 ≡ false
unfolding is_name_start
no_slash = refl

-- No name begins with `>`.
no_greater : is_name_start 62 ≡ false
unfolding is_name_start
no_greater = refl

-- Where a name begins, no byte stands that begins none.
not_start : (src : List ℕ) (i c : ℕ) → 0 < c → c < 128 → is_name_start c ≡ false → begins is_name_start src i ≡ true → byte src i ≢ c
not_start src i c some ascii none starts is = grind (arith, begins_here, within)

-- No name begins with a slash or `>`.
name_first : (src : List ℕ) (i : ℕ) (name : Name) (j : ℕ) → IsQName src i name j → (byte src i ≢ 47) × (byte src i ≢ 62)
name_first src i name j (unprefixed _ _ n last) = (not_start src i 47 (omega arith) (omega arith) no_slash (ncname_parts n).starts, not_start src i 62 (omega arith) (omega arith) no_greater (ncname_parts n).starts)
name_first src i name j (prefixed _ k _ n colon m last) = (not_start src i 47 (omega arith) (omega arith) no_slash (ncname_parts n).starts, not_start src i 62 (omega arith) (omega arith) no_greater (ncname_parts n).starts)
name_first src i name j (colon_first _ _ colon m last) = (λ z. omega arith, λ z. omega arith)

-- What a turn says.
abbrev pub TurnStands : List ℕ → ℕ → TagItem → ℕ → Type 0
TurnStands src i (more raw) j = (i < spaces_end src i) × RawStands src (spaces_end src i) j raw
TurnStands src i opened j = TagEnds src i false j
TurnStands src i closed j = TagEnds src i true j

-- What a turn reads is there.
pub turn_sound : (src : List ℕ) → IsUtf8 src → (i : ℕ) (x : TagItem × ℕ) → tag_item_at src i ≡ Ok x → TurnStands src i x.0 x.1
unfolding tag_item_at
turn_sound src utf8 i x h =
    let j = spaces_end src i in
    chosen (leb (length src) j) _ _ _ h (λ out e. cc)
    (λ inside h. chosen (eqb (byte src j) 47) _ _ _ h
    (λ slash h. bind_ok (byte_at 62 src (j + 1)) _ _ h (λ b greater h.
    let c = byte_sound 62 src (j + 1) b greater in
    let e : ◌≡◌ {A = TagItem × ℕ} (closed, j + 2) x = ap (λ m. (closed, m)) (sym (omega (arith, c.1))) ∙ ok_same _ _ h in
    subst (λ (y : TagItem × ℕ). TurnStands src i y.0 y.1) e (content.closed i (eqb-true _ _ slash) c.0)))
    (λ other h. chosen (eqb (byte src j) 62) _ _ _ h
    (λ greater e. subst (λ (y : TagItem × ℕ). TurnStands src i y.0 y.1) (ok_same _ _ e) (content.opened i (eqb-true _ _ greater)))
    (λ name h. chosen (eqb j i) _ _ _ h (λ none h. cc)
    (λ some h. bind_ok (attribute_at src j) _ _ h (λ a read h.
    let apart = eqb-false _ _ some in
    let le = run_end_le is_space src i in
    subst (λ (y : TagItem × ℕ). TurnStands src i y.0 y.1) (ok_same _ _ h) (omega arith, raw_sound src utf8 j a read))))))

-- The end of a tag is read.
pub end_complete : (src : List ℕ) (i : ℕ) (empty : Bool) (j : ℕ) → TagEnds src i empty j → tag_item_at src i ≡ Ok (cond empty closed opened, j)
unfolding tag_item_at
end_complete src i empty j h = grind (arith, within, byte_complete)

-- One more attribute is read.
pub more_complete : (src : List ℕ) (i j : ℕ) (raw : RawAttribute) → i < spaces_end src i → RawStands src (spaces_end src i) j raw → tag_item_at src i ≡ Ok (more raw, j)
unfolding tag_item_at
more_complete src i j raw some r =
    let le = raw_le src (spaces_end src i) j raw r in
    let v = literal_le src r.v raw.value_end j r.literal in
    let first = name_first src (spaces_end src i) raw.name raw.name_end r.is_name in
    let name_le = qname_le src (spaces_end src i) raw.name raw.name_end r.is_name in
    let le' = run_end_le is_space src raw.name_end in
    let le'' = run_end_le is_space src (spaces_end src raw.name_end + 1) in
    let v' = r.eq.1 in
    let closes = r.literal.0.2 in
    let greater = ne_eqb (byte src (spaces_end src i)) 62 first.1 in
    let apart = ne_eqb (spaces_end src i) i (λ z. omega arith) in
    let one = raw_complete src (spaces_end src i) j raw r in
    rw ((lt-leb (length src) (spaces_end src i) (omega arith)), (ne_eqb (byte src (spaces_end src i)) 47 first.0), greater, apart, one) refl

-- A quote stops a value.
quote_stop : (b : ℕ) → (b ≡ 39) ⊎ (b ≡ 34) → IsStop b
quote_stop b h = grind arith

-- A literal ends where a quote stops it.
pub literal_stop : (src : List ℕ) (v e j : ℕ) → IsAttValue src v e j → IsStop (byte src e)
literal_stop src v e j l = rw (literal_closes src v e j l) (quote_stop (byte src v) l.0.0)

-- The place after its quote.
value_cut : (src : List ℕ) → IsUtf8 src → (v e j : ℕ) → IsAttValue src v e j → IsCharBoundary src (v + 1)
value_cut src utf8 v e j l = let q = quote_ascii (byte src v) l.0.0 in cut_behind src v (byte src v) (v + 1) utf8 refl (omega arith) (omega arith) refl

module _ (context : Values) (O : Inclusion) (agrees : AgreesValue context.entities O context.opener) (src : List ℕ) (utf8 : IsUtf8 src) where
  -- An attribute whose value is read is there.
  pub attribute_sound : (i j b c : ℕ) (raw : RawAttribute) (x : ReadText) → RawStands src i j raw → value_at context.main context.entities context.opener src raw.value_start raw.value_end b ≡ Ok (x, c)
      → IsAttribute context.main O src i j b c (attribute_with raw x)
  attribute_sound i j b c raw x r h =
      let value = value_sound context.entities src utf8 raw.value_end (omega arith) (λ z. literal_stop src r.v raw.value_end j r.literal) context.main O context.opener agrees (r.v + 1) b c x
      (literal_le src r.v raw.value_end j r.literal) (literal_plain src r.v raw.value_end j r.literal) (rw r.value_start at h) in
      grind (arith, from_parts)

  -- The attribute is read from i up to j, and then its value.
  abbrev pub AttributeReads : ℕ → ℕ → ℕ → ℕ → Attribute → Type 0
  AttributeReads i j b c a =
      (raw : RawAttribute) × (x : ReadText) × RawStands src i j raw × (value_at context.main context.entities context.opener src raw.value_start raw.value_end b ≡ Ok (x, c)) × (a ≡ attribute_with raw x)

  -- An attribute that is there is read.
  pub attribute_complete : (i j b c : ℕ) (a : Attribute) → IsAttribute context.main O src i j b c a → AttributeReads i j b c a
  attribute_complete i j b c a (content.attribute n v e name value (is_name, eq, literal) there) =
      let read = value_complete context.entities src utf8 e (omega arith) (λ z. literal_stop src v e j literal) context.main O context.opener agrees (v + 1) b c value
      (literal_le src v e j literal) (value_cut src utf8 v e j literal) (λ z. literal.1) there in
      let borrowed = content.is_verbatim_value (slice src (v + 1) e) in (
        record { start = i; name = name; name_end = n; value_start = v + 1; value_end = e },
        record { value = value; borrowed = borrowed },
        record { starts = refl; is_name = is_name; v = v; eq = eq; value_start = refl; literal = literal },
        read,
        ap (λ (k : ℕ). record { start = i; name_end = n; value_start = v + 1; end = k; name = name; value = value; borrowed = borrowed }) literal.0.3,
      )

  -- An attribute has a byte.
  pub attribute_le : (i j b c : ℕ) (a : Attribute) → IsAttribute context.main O src i j b c a → i < j
  attribute_le i j b c a h = let r = attribute_complete i j b c a h in raw_le src i j r.0 r.2
