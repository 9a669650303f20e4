-- One attribute or declaration of a start tag, and the loop over them.
use Rattle.std.proofs.Common.{◌≡◌, ℕ, zero, suc, ◌+◌, ◌<◌, ◌≤◌, Bool, true, false, eqb, nat_le, if◌then◌else◌, List, [], ◌∷◌, ◌++◌, map, length, get_or, refl, sym, ap, ◌∙◌, subst, Result, Ok, Err, le-leb, inl, inr, arith}
use Rattle.std.proofs.lemmas.List.{map-append}
use Rattle.std.proofs.lemmas.Bool.{leb-false, lt-leb}
use Rattle.rox_grammar.specs.declared.fault.Fault.{Fault}
use Rattle.rox_grammar.specs.Written.{Attribute, NamespaceDecl, is_namespace_decl}
use Rattle.rox_grammar.specs.Names.{spaces_end}
use Rattle.rox_reading.specs.Refusals.{Refusal, here, lifted}
use Rattle.rox_reading.specs.Lexical.{◌>>=◌, byte_at, quote_at, qname_at}
use Rattle.rox_reading.specs.Markup.{RawAttribute, TagItem, more, opened, closed, tag_item_at, attribute_at, raw_value_at}
use Rattle.rox_reading.specs.Values.{ReadText, value_at}
use Rattle.rox_reading.specs.Tags as tags
use Rattle.rox_reading.specs.Tags.{TagSoFar, TagRest, Values, declared, attribute_with, after_tag_item, attributes_at}
use Rattle.rox_grammar.specs.Failures.{Fails, name_view}
use Rattle.rox_markup.specs.Views.{attribute_view}
use Rattle.rox_grammar.specs.declared.failure.Failure.{Failure}
use Rattle.rox_scan.specs.declared.cursor.Cursor.{Cursor}
use Rattle.rox_scan.specs.declared.raw_attribute.RawAttribute.{RawAttribute as CodeRaw}
use Rattle.rox_values.specs.Refusals.{IsRefusal, of_failure}
use Rattle.rox_values.specs.declared.parse_error.ParseError.{ParseError}
use Rattle.rox_values.proofs.PartLemmas.{refuses_by}
use Rattle.rox_names.specs.declared.tables.ElementTables.{ElementTables}
use Rattle.rox_storage.specs.Storage.{storage_bytes, is_borrowed}
use Rattle.rox_names.specs.declared.unresolved_attribute.UnresolvedAttribute.{UnresolvedAttribute}
use Rattle.rox_names.specs.TagDeclarations.{unresolved_view, Declared}
use Rattle.rox_starts.specs.TagState.{HoldsTag, KeepsScopes, GivesAttribute, GivesTagPart, AddsAttribute, value_of}
use Rattle.rox_theory.proofs.Basics.{chosen}

-- an attribute with its value is the one that the code makes of it
pub view_is : (raw : CodeRaw) (v : ReadText) (t : UnresolvedAttribute) → t.start ≡ raw.start → t.name_end ≡ raw.name_end → t.value_start ≡ raw.value_start → t.end ≡ raw.value_end + 1
    → t.name ≡ raw.name → storage_bytes t.value ≡ v.value → is_borrowed t.value ≡ v.borrowed → attribute_with (attribute_view raw) v ≡ unresolved_view t
view_is raw v t a b c d e f g = rw (a, b, c, d, e, f, g) refl

-- what is read of one more attribute or declaration, with its value
abbrev pub one_more : Values → List NamespaceDecl → List ℕ → RawAttribute → ℕ → TagSoFar → Result (TagSoFar × ℕ) Refusal
one_more context known src raw openings_left h = value_of context src raw openings_left >>= λ v. lifted (tags.taken known (attribute_with raw v.0) h) >>= λ held. Ok (held, v.1)

-- what is read of one attribute, where so many may be opened behind it
abbrev kept_left : ℕ → Result TagSoFar Fault → Result (TagSoFar × ℕ) Refusal
kept_left openings_left r = lifted r >>= λ held. Ok (held, openings_left)

one_is : (context : Values) (known : List NamespaceDecl) (src : List ℕ) (raw : RawAttribute) (openings_left l : ℕ) (h : TagSoFar) (v : ReadText) (a : Attribute)
    → value_of context src raw openings_left ≡ Ok (v, l) → attribute_with raw v ≡ a
    → one_more context known src raw openings_left h ≡ kept_left l (tags.taken known a h)
one_is context known src raw openings_left l h v a is view = cc

-- ---- an attribute that is put

pub kept_scopes : {a b c : ElementTables} → KeepsScopes b c → KeepsScopes a b → KeepsScopes a c
kept_scopes k h = record { scopes = k.scopes ∙ h.scopes; lists = k.lists ∙ h.lists; attributes = k.attributes ∙ h.attributes }

pub took_declaration : (known : List NamespaceDecl) (before : List ℕ) (namespaces : List NamespaceDecl) (listed : List ℕ) (xml : Bool) (taken : List UnresolvedAttribute) (h : TagSoFar) (a : Attribute)
    → is_namespace_decl a.name ≡ true → map unresolved_view taken ≡ h.attributes → Declared known before namespaces listed (Ok xml) h (declared known a h) → AddsAttribute known before namespaces listed taken (Ok xml) (tags.taken known a h)
took_declaration known before namespaces listed xml taken h a dec same (own, read, d) = (record { own = own; attributes = h.attributes }, rw dec read, record { declares = d; attributes = same })

pub refused_declaration : (known : List NamespaceDecl) (h : TagSoFar) (a : Attribute) (e : Failure) → is_namespace_decl a.name ≡ true → Fails e (declared known a h) → Fails e (tags.taken known a h)
refused_declaration known h a e dec fails = grind arith

pub took_attribute : (known : List NamespaceDecl) (before : List ℕ) (namespaces : List NamespaceDecl) (listed : List ℕ) (xml : Bool) (taken kept : List UnresolvedAttribute) (h : TagSoFar) (t : UnresolvedAttribute) → kept ≡ taken ++ t ∷ []
    → is_namespace_decl (name_view t.name) ≡ false → HoldsTag known before namespaces listed xml taken h → AddsAttribute known before namespaces listed kept (Ok xml) (tags.taken known (unresolved_view t) h)
took_attribute known before namespaces listed xml taken kept h t push dec hold =
    let other : is_namespace_decl (unresolved_view t).name ≡ false = dec in (
      record { own = h.own; attributes = h.attributes ++ unresolved_view t ∷ [] },
      rw other refl,
      record { declares = hold.declares; attributes = ap (map unresolved_view) push ∙ map-append unresolved_view taken (t ∷ []) ∙ ap (λ xs. xs ++ unresolved_view t ∷ []) hold.attributes },
    )

-- ---- and read before

-- what one more attribute or declaration makes of the tag, and how many replacement texts may be opened behind it
abbrev pub AddsOne : (known : List NamespaceDecl) (before : List ℕ) (namespaces : List NamespaceDecl) (listed : List ℕ) (taken : List UnresolvedAttribute) (xml : Bool) (l : ℕ) → Result (TagSoFar × ℕ) Refusal → Type 0
AddsOne known before namespaces listed taken xml l read = (h : TagSoFar) × (read ≡ Ok (h, l)) × HoldsTag known before namespaces listed xml taken h

pub took_one : (context : Values) (known : List NamespaceDecl) (before : List ℕ) (namespaces : List NamespaceDecl) (listed : List ℕ) (xml : Bool) (taken : List UnresolvedAttribute) (src : List ℕ) (raw : RawAttribute) (openings_left l : ℕ) (h : TagSoFar) (t : UnresolvedAttribute)
    → GivesAttribute raw (Ok (t, l)) (value_of context src raw openings_left) → AddsAttribute known before namespaces listed taken (Ok xml) (tags.taken known (unresolved_view t) h)
    → AddsOne known before namespaces listed taken xml l (one_more context known src raw openings_left h)
took_one context known before namespaces listed xml taken src raw openings_left l h t (v, is, view) (x, read, hold) = (x, one_is context known src raw openings_left l h v (unresolved_view t) is view ∙ ap (kept_left l) read, hold)

pub refused_one : (context : Values) (known : List NamespaceDecl) (src : List ℕ) (raw : RawAttribute) (openings_left l : ℕ) (h : TagSoFar) (t : UnresolvedAttribute) (e : Failure)
    → GivesAttribute raw (Ok (t, l)) (value_of context src raw openings_left) → Fails e (tags.taken known (unresolved_view t) h) → IsRefusal (of_failure e) (one_more context known src raw openings_left h)
refused_one context known src raw openings_left l h t e (v, is, view) fails = grind arith

-- its value is refused
pub refused_value : (context : Values) (known : List NamespaceDecl) (src : List ℕ) (raw : RawAttribute) (openings_left : ℕ) (h : TagSoFar) (e : ParseError)
    → IsRefusal e (value_of context src raw openings_left) → IsRefusal e (one_more context known src raw openings_left h)
refused_value context known src raw openings_left h e fails = refuses_by e (value_of context src raw openings_left) (one_more context known src raw openings_left h) (λ r is. rw is refl) fails

-- ---- what a turn gives

bind_ok : {A B P : Type 0} (r : Result A Fault) (f : A → Result B Fault) (y : B) → (r >>= f) ≡ Ok y → ((x : A) → r ≡ Ok x → f x ≡ Ok y → P) → P
bind_ok r f y h go = grind arith

-- an attribute that a turn gives begins within the text, and the turn ends behind its closing quote
pub record TurnGives (src : List ℕ) (raw : RawAttribute) (j : ℕ) : Type 0 where
  pub within : raw.start < length src
  pub end : j ≡ raw.value_end + 1

byte_next : (b : ℕ) (src : List ℕ) (i : ℕ) (x : Unit {0}) (j : ℕ) → byte_at b src i ≡ Ok (x, j) → j ≡ i + 1
unfolding byte_at
byte_next b src i x j h = chosen (nat_le (length src) i) _ _ _ h (λ t h. cc h) (λ f h. chosen (eqb (get_or src i 0) b) _ _ _ h
    (λ t h. let e : ◌≡◌ {A = Result (Unit {0} × ℕ) Fault} (Ok (tt, i + 1)) (Ok (x, j)) = h in sym (second (tt, i + 1) (x, j) e)) (λ f h. cc h))
  where
    second : (p q : Unit {0} × ℕ) → ◌≡◌ {A = Result (Unit {0} × ℕ) Fault} (Ok p) (Ok q) → p.1 ≡ q.1
    second p q h = let k : p ≡ q = cc h in ap (λ p. p.1) k

attribute_gives : (src : List ℕ) (i : ℕ) (raw : RawAttribute) (j : ℕ) → attribute_at src i ≡ Ok (raw, j) → (raw.start ≡ i) × (j ≡ raw.value_end + 1)
unfolding attribute_at
attribute_gives src i raw j h =
    bind_ok (qname_at src i) _ _ h (λ name _ h. bind_ok (byte_at 61 src (spaces_end src name.1)) _ _ h (λ equals _ h. bind_ok (quote_at src (spaces_end src equals.1)) _ _ h (λ quote _ h.
    bind_ok (raw_value_at quote.0 src quote.1) _ _ h (λ value _ h. bind_ok (byte_at quote.0 src value.1) _ _ h (λ done is h.
    let made : RawAttribute = record { start = i; name = name.0; name_end = name.1; value_start = quote.1; value_end = value.1 } in
    let k : ◌≡◌ {A = RawAttribute × ℕ} (made, done.1) (raw, j) = same_ok (made, done.1) (raw, j) h in
    let r : made ≡ raw = ap (λ p. p.0) k in
    (sym (ap (λ r. r.start) r), sym (ap (λ p. p.1) k) ∙ byte_next quote.0 src value.1 done.0 done.1 is ∙ ap (λ r. r.value_end + 1) r))))))
  where
    same_ok : (p q : RawAttribute × ℕ) → ◌≡◌ {A = Result (RawAttribute × ℕ) Fault} (Ok p) (Ok q) → p ≡ q
    same_ok p q h = cc h

same_turn : (p q : TagItem × ℕ) → ◌≡◌ {A = Result (TagItem × ℕ) Fault} (Ok p) (Ok q) → p ≡ q
same_turn p q h = cc h

closed_no : (raw : RawAttribute) (j k : ℕ) → ◌≡◌ {A = Result (TagItem × ℕ) Fault} (Ok (closed, k)) (Ok (more raw, j)) → ⊥
closed_no raw j k h = let e : ◌≡◌ {A = TagItem} closed (more raw) = ap (λ p. p.0) (same_turn (closed, k) (more raw, j) h) in cc e

opened_no : (raw : RawAttribute) (j k : ℕ) → ◌≡◌ {A = Result (TagItem × ℕ) Fault} (Ok (opened, k)) (Ok (more raw, j)) → ⊥
opened_no raw j k h = let e : ◌≡◌ {A = TagItem} opened (more raw) = ap (λ p. p.0) (same_turn (opened, k) (more raw, j) h) in cc e

fault_no : (f : Fault) (x : TagItem × ℕ) → ◌≡◌ {A = Result (TagItem × ℕ) Fault} (Err f) (Ok x) → ⊥
fault_no f x h = cc h

pub turn_gives : (src : List ℕ) (i : ℕ) (raw : RawAttribute) (j : ℕ) → tag_item_at src i ≡ Ok (more raw, j) → TurnGives src raw j
unfolding tag_item_at
turn_gives src i raw j h =
    let k = spaces_end src i in
    chosen (nat_le (length src) k) _ _ _ h (λ t h. absurd (fault_no _ _ h)) (λ inside h.
    chosen (eqb (get_or src k 0) 47) _ _ _ h (λ t h. bind_ok (byte_at 62 src (k + 1)) _ _ h (λ x _ h. absurd (closed_no raw j x.1 h))) (λ f h.
    chosen (eqb (get_or src k 0) 62) _ _ _ h (λ t h. absurd (opened_no raw j (k + 1) h)) (λ f h.
    chosen (eqb k i) _ _ _ h (λ t h. absurd (fault_no _ _ h)) (λ f h.
    bind_ok (attribute_at src k) _ _ h (λ x is h.
    let e : ◌≡◌ {A = TagItem × ℕ} (more x.0, x.1) (more raw, j) = same_turn (more x.0, x.1) (more raw, j) h in
    let r : x.0 ≡ raw = same_more x.0 raw (ap (λ p. p.0) e) in
    let n : x.1 ≡ j = ap (λ p. p.1) e in
    let g = attribute_gives src k x.0 x.1 is in
    record { within = subst (λ (m : ℕ). m < length src) (sym g.0 ∙ ap (λ r. r.start) r) (leb-false _ _ inside); end = sym n ∙ g.1 ∙ ap (λ r. r.value_end + 1) r })))))
  where
    same_more : (a b : RawAttribute) → ◌≡◌ {A = TagItem} (more a) (more b) → a ≡ b
    same_more a b h = cc h

-- ---- the loop

pub record Going (context : Values) (known : List NamespaceDecl) (before : List ℕ) (cut : Fault) (src : List ℕ) (whole : Result (TagRest × ℕ) Refusal) (n i openings_left : ℕ) (namespaces : List NamespaceDecl) (listed : List ℕ) (xml : Bool) (taken : List UnresolvedAttribute) : Type 0 where
  pub h : TagSoFar
  pub holding : HoldsTag known before namespaces listed xml taken h
  pub same : attributes_at n context cut known src i openings_left h ≡ whole

-- the text ends
pub going_cut : (context : Values) (known : List NamespaceDecl) (before : List ℕ) (cut : Fault) (src : List ℕ) (whole : Result (TagRest × ℕ) Refusal) (n i openings_left : ℕ) (namespaces : List NamespaceDecl) (listed : List ℕ) (xml : Bool) (taken : List UnresolvedAttribute)
    → Going context known before cut src whole n i openings_left namespaces listed xml taken → length src ≤ i → whole ≡ Err (here cut)
unfolding attributes_at
going_cut context known before cut src whole zero i openings_left namespaces listed xml taken g past = sym g.same
going_cut context known before cut src whole (suc n) i openings_left namespaces listed xml taken g past = let k = le-leb _ _ past in sym g.same ∙ rw k refl

-- the turns are used up
pub going_none : (context : Values) (known : List NamespaceDecl) (before : List ℕ) (cut : Fault) (src : List ℕ) (whole : Result (TagRest × ℕ) Refusal) (n i openings_left : ℕ) (namespaces : List NamespaceDecl) (listed : List ℕ) (xml : Bool) (taken : List UnresolvedAttribute)
    → Going context known before cut src whole n i openings_left namespaces listed xml taken → n ≡ 0 → whole ≡ Err (here cut)
unfolding attributes_at
going_none context known before cut src whole n i openings_left namespaces listed xml taken g none = sym g.same ∙ rw none refl

turned : (context : Values) (cut : Fault) (known : List NamespaceDecl) (src : List ℕ) (n m i openings_left : ℕ) (h : TagSoFar) → n ≡ suc m → i < length src
    → attributes_at n context cut known src i openings_left h ≡ (lifted (tag_item_at src i) >>= λ x. after_tag_item (λ j l held. attributes_at m context cut known src j l held) context known src openings_left h x.0 x.1)
unfolding attributes_at
turned context cut known src n m i openings_left h one inside = let k = lt-leb _ _ inside in rw (one, k) refl

pub going_fails : (context : Values) (known : List NamespaceDecl) (before : List ℕ) (cut : Fault) (src : List ℕ) (whole : Result (TagRest × ℕ) Refusal) (n m i openings_left : ℕ) (namespaces : List NamespaceDecl) (listed : List ℕ) (xml : Bool) (taken : List UnresolvedAttribute) (f : Fault)
    → Going context known before cut src whole n i openings_left namespaces listed xml taken → n ≡ suc m → i < length src → tag_item_at src i ≡ Err f → whole ≡ Err (here f)
going_fails context known before cut src whole n m i openings_left namespaces listed xml taken f g one inside is = sym g.same ∙ turned context cut known src n m i openings_left g.h one inside ∙ rw is refl

pub going_ends : (context : Values) (known : List NamespaceDecl) (before : List ℕ) (cut : Fault) (src : List ℕ) (whole : Result (TagRest × ℕ) Refusal) (n m i j openings_left : ℕ) (namespaces : List NamespaceDecl) (listed : List ℕ) (xml empty : Bool) (taken : List UnresolvedAttribute) (t : TagItem)
    → Going context known before cut src whole n i openings_left namespaces listed xml taken → n ≡ suc m → i < length src → tag_item_at src i ≡ Ok (t, j) → (t ≡ (if empty then closed else opened))
    → (h : TagSoFar) × (whole ≡ Ok (record { held = h; empty = empty; openings_left = openings_left }, j)) × HoldsTag known before namespaces listed xml taken h
going_ends context known before cut src whole n m i j openings_left namespaces listed xml true taken t g one inside is kind = (g.h, sym g.same ∙ turned context cut known src n m i openings_left g.h one inside ∙ rw (is, kind) refl, g.holding)
going_ends context known before cut src whole n m i j openings_left namespaces listed xml false taken t g one inside is kind = (g.h, sym g.same ∙ turned context cut known src n m i openings_left g.h one inside ∙ rw (is, kind) refl, g.holding)

regrouped : {X : Type 0} (known : List NamespaceDecl) (raw : RawAttribute) (h : TagSoFar) (r : Result (ReadText × ℕ) Refusal) (one : Result (TagSoFar × ℕ) Refusal) (next : ℕ → TagSoFar → Result X Refusal)
    → one ≡ (r >>= λ v. kept_left v.1 (tags.taken known (attribute_with raw v.0) h))
    → (r >>= λ v. lifted (tags.taken known (attribute_with raw v.0) h) >>= λ held. next v.1 held) ≡ (one >>= λ x. next x.1 x.0)
regrouped known raw h r one next is = grind arith

more_turn : (context : Values) (cut : Fault) (known : List NamespaceDecl) (src : List ℕ) (n m i j openings_left : ℕ) (h : TagSoFar) (raw : RawAttribute) → n ≡ suc m → i < length src → tag_item_at src i ≡ Ok (more raw, j)
    → attributes_at n context cut known src i openings_left h ≡ (one_more context known src raw openings_left h >>= λ x. attributes_at m context cut known src j x.1 x.0)
more_turn context cut known src n m i j openings_left h raw one inside is = turned context cut known src n m i openings_left h one inside ∙ rw is refl
    ∙ regrouped known raw h (value_at context.main context.entities context.opener src raw.value_start raw.value_end openings_left) (one_more context known src raw openings_left h) (λ l held. attributes_at m context cut known src j l held) refl

pub going_on : (context : Values) (known : List NamespaceDecl) (before : List ℕ) (cut : Fault) (src : List ℕ) (whole : Result (TagRest × ℕ) Refusal) (n m i j openings_left l : ℕ) (namespaces next : List NamespaceDecl) (listed after : List ℕ) (xml now : Bool) (taken kept : List UnresolvedAttribute) (raw : RawAttribute)
    → (g : Going context known before cut src whole n i openings_left namespaces listed xml taken) → n ≡ suc m → i < length src → tag_item_at src i ≡ Ok (more raw, j)
    → AddsOne known before next after kept now l (one_more context known src raw openings_left g.h) → Going context known before cut src whole m j l next after now kept
going_on context known before cut src whole n m i j openings_left l namespaces next listed after xml now taken kept raw g one inside is (h, read, hold) =
    record { h = h; holding = hold; same = sym (more_turn context cut known src n m i j openings_left g.h raw one inside is ∙ rw read refl) ∙ g.same }

pub going_stops : (context : Values) (known : List NamespaceDecl) (before : List ℕ) (cut : Fault) (src : List ℕ) (whole : Result (TagRest × ℕ) Refusal) (n m i j openings_left : ℕ) (namespaces : List NamespaceDecl) (listed : List ℕ) (xml : Bool) (taken : List UnresolvedAttribute) (raw : RawAttribute) (e : ParseError)
    → (g : Going context known before cut src whole n i openings_left namespaces listed xml taken) → n ≡ suc m → i < length src → tag_item_at src i ≡ Ok (more raw, j)
    → IsRefusal e (one_more context known src raw openings_left g.h) → IsRefusal e whole
going_stops context known before cut src whole n m i j openings_left namespaces listed xml taken raw e g one inside is h =
    refuses_by e (one_more context known src raw openings_left g.h) whole (λ r err. sym g.same ∙ more_turn context cut known src n m i j openings_left g.h raw one inside is ∙ rw err refl) h

-- what stands next is refused
pub going_refused : (context : Values) (known : List NamespaceDecl) (before : List ℕ) (cut : Fault) (src : List ℕ) (whole : Result (TagRest × ℕ) Refusal) (n m i openings_left : ℕ) (namespaces : List NamespaceDecl) (listed : List ℕ) (xml : Bool) (taken : List UnresolvedAttribute) (after : Cursor) (e : ParseError)
    → (g : Going context known before cut src whole n i openings_left namespaces listed xml taken) → n ≡ suc m → i < length src → GivesTagPart context src i openings_left after (Err e) → IsRefusal e whole
going_refused context known before cut src whole n m i openings_left namespaces listed xml taken after e g one inside (inl (f, is, fails)) =
    rw is (going_fails context known before cut src whole n m i openings_left namespaces listed xml taken f g one inside fails)
going_refused context known before cut src whole n m i openings_left namespaces listed xml taken after e g one inside (inr (raw, j, is, refused)) =
    going_stops context known before cut src whole n m i j openings_left namespaces listed xml taken raw e g one inside is (refused_value context known src raw openings_left g.h e refused)
