-- Names that a start tag's faults have are texts of the source.
use Rattle.std.proofs.Common.{◌≡◌, ℕ, zero, suc, ◌+◌, Bool, cond, not, eqb, leb, ltb, List, [], ◌∷◌, ◌++◌, length, subst, arith, IsUtf8, IsCharBoundary}
use Rattle.std.specs.Prelude.{Result, Ok, Err, bytes_eq, slice_index}
use Rattle.std.specs.List.{list_any}
use Rattle.rox_grammar.specs.declared.fault.Fault.{Fault}
use Rattle.rox_grammar.specs.declared.fault.Fault.TheVariants as fault
use Rattle.rox_grammar.specs.declared.fault.Word.TheVariants as word
use Rattle.rox_grammar.specs.Spans.{IsTextSpan, NamesText}
use Rattle.rox_grammar.specs.FixedTexts.{word_text}
use Rattle.rox_grammar.specs.Chars.{is_space}
use Rattle.rox_grammar.specs.Runs.{begins}
use Rattle.rox_grammar.specs.Written.{Name, Attribute, NamespaceDecl, is_namespace_decl}
use Rattle.rox_grammar.specs.NameParts.{local_span, prefix_span}
use Rattle.rox_grammar.specs.Tree.{listed}
use Rattle.rox_grammar.specs.WellNamed.{is_known, same_expanded}
use Rattle.rox_grammar.specs.Document.{most_attributes}
use Rattle.rox_grammar.specs.Names.{byte, spaces_end}
use Rattle.rox_reading.specs.Refusals.{Refusal}
use Rattle.rox_reading.specs.Lexical.{◌>>=◌, byte_at, quote_at, chars_up_to, qname_at}
use Rattle.rox_reading.specs.Markup.{RawAttribute, raw_value_at, attribute_at, TagItem, more, opened, closed, tag_item_at}
use Rattle.rox_reading.specs.Values.{ReadText, value_at}
use Rattle.rox_reading.specs.Tags.{Values, TagSoFar, TagRest, TagRead, declared, taken, attribute_with, after_tag_item, attributes_at, names_tested, tested_at, tag_tested, tag_at}
use Rattle.rox_reading.specs.Machine.{name_span}
use Rattle.rox_theory.proofs.Basics.{chosen}
use Rattle.rox_theory.proofs.AttributeLemmas.{RawStands, turn_sound}
use Rattle.rox_theory.proofs.LiteralLemmas.{literal_closes}
use Rattle.rox_faults.proofs.ValueSpans.{chars_spans, spanned_fault, spanned_by, Told, told_bind, told_cond, told_after}
use Rattle.rox_faults.proofs.NameSpans.{NameText, run_cut, cut_behind, qname_text, qname_spans, name_spans}

-- ---- faults

-- What two equal failures hold is equal.
pub err_same : {A : Type 0} (f g : Fault) → ◌≡◌ {A = Result A Fault} (Err f) (Err g) → f ≡ g
err_same f g h = cc

-- A failure whose names are texts.
pub names_of : {A : Type 0} (src : List ℕ) (f g : Fault) → NamesText src f → ◌≡◌ {A = Result A Fault} (Err f) (Err g) → NamesText src g
names_of src f g text h = subst (NamesText src) (err_same f g h) text

-- A reading whose faults' names are texts.
abbrev pub FailsWell : {A : Type 0} → List ℕ → Result A Fault → Type 0
FailsWell src r = (f : Fault) → r ≡ Err f → NamesText src f

-- A value is not a fault.
pub well_ok : {A : Type 0} (src : List ℕ) (x : A) → FailsWell {A = A} src (Ok x)
well_ok src x f h = cc

-- This fault.
pub well_err : {A : Type 0} (src : List ℕ) (g : Fault) → NamesText src g → FailsWell {A = A} src (Err g)
well_err src g text f h = names_of src g f text h

-- One of two.
pub well_if : {A : Type 0} (src : List ℕ) (b : Bool) (x y : Result A Fault) → FailsWell src x → FailsWell src y → FailsWell src (cond b x y)
well_if src b x y first second = grind arith

-- One after the other.
pub well_bind : {A B : Type 0} (src : List ℕ) (r : Result A Fault) (k : A → Result B Fault) → FailsWell src r → ((x : A) → r ≡ Ok x → FailsWell src (k x)) → FailsWell src (r >>= k)
well_bind src r k first rest = grind arith

-- ---- readings whose faults have no names

-- A byte.
pub byte_well : (b : ℕ) (src : List ℕ) (i : ℕ) → FailsWell src (byte_at b src i)
unfolding byte_at
byte_well b src i = well_if src (leb (length src) i) _ _ (well_err src _ tt) (well_if src (eqb (byte src i) b) _ _ (well_ok src _) (well_err src _ tt))

-- A quote.
pub quote_well : (src : List ℕ) (i : ℕ) → FailsWell src (quote_at src i)
unfolding quote_at
quote_well src i = well_if src (leb (length src) i) _ _ (well_err src _ tt) (well_if src _ _ _ (well_ok src _) (well_err src _ tt))

-- Chars.
pub chars_well : (end : ℕ) (src : List ℕ) (i : ℕ) → FailsWell src (chars_up_to end src i)
chars_well end src i f h = spanned_fault src _ (chars_up_to end src i) f (chars_spans src end i) h

-- A value before it is looked at.
raw_well : (quote : ℕ) (src : List ℕ) (i : ℕ) → FailsWell src (raw_value_at quote src i)
unfolding raw_value_at
raw_well quote src i = well_if src _ _ _ (well_err src _ tt) (chars_well _ src i)

-- A name.
pub qname_well : (src : List ℕ) (i : ℕ) → FailsWell src (qname_at src i)
unfolding qname_at
qname_well src i = grind arith

-- An attribute before its value is looked at.
pub attribute_well : (src : List ℕ) (i : ℕ) → FailsWell src (attribute_at src i)
unfolding attribute_at
attribute_well src i = grind (arith, qname_well, byte_well, quote_well, raw_well)

-- A turn.
pub turn_well : (src : List ℕ) (i : ℕ) → FailsWell src (tag_item_at src i)
unfolding tag_item_at
turn_well src i =
    let j = spaces_end src i in
    well_if src (leb (length src) j) _ _ (well_err src _ tt) (well_if src (eqb (byte src j) 47) _ _ (well_bind src (byte_at 62 src (j + 1)) _ (byte_well 62 src (j + 1)) (λ x e. well_ok src (closed, x.1)))
    (well_if src (eqb (byte src j) 62) _ _ (well_ok src (opened, j + 1)) (well_if src (eqb j i) _ _ (well_err src _ tt)
    (well_bind src (attribute_at src j) _ (attribute_well src j) (λ x e. well_ok src (more x.0, x.1))))))

-- ---- attributes

-- The parts of an attribute's name are texts.
pub record Named (src : List ℕ) (a : Attribute) : Type 0 where
  pub prefix : IsTextSpan src (prefix_span a.name a.start)
  pub local : IsTextSpan src (local_span a.name a.name_end)

-- A character begins after an attribute that is there.
pub raw_cut : (src : List ℕ) (i j : ℕ) (raw : RawAttribute) → IsUtf8 src → RawStands src i j raw → IsCharBoundary src j
raw_cut src i j raw utf8 r =
    rw r.literal.0.3 (cut_behind src raw.value_end (byte src r.v) utf8 (literal_closes src r.v raw.value_end j r.literal) (omega arith) (omega arith))

-- An attribute's name, of a turn.
abbrev pub RawNamed : List ℕ → RawAttribute → ℕ → Type 0
RawNamed src raw j = IsTextSpan src (prefix_span raw.name raw.start) × IsTextSpan src (local_span raw.name raw.name_end) × IsCharBoundary src j

-- Its parts are texts.
pub turn_named : (src : List ℕ) (i : ℕ) (raw : RawAttribute) (j : ℕ) → IsUtf8 src → IsCharBoundary src i → tag_item_at src i ≡ Ok (more raw, j) → RawNamed src raw j
turn_named src i raw j utf8 cut h =
    let stands = (turn_sound src utf8 i (more raw, j) h).1 in
    let text = qname_text src (spaces_end src i) raw.name raw.name_end utf8 (run_cut is_space src i utf8 cut) stands.is_name in
    (rw stands.starts text.0, text.1, raw_cut src (spaces_end src i) j raw utf8 stands)

-- All of these attributes.
abbrev pub AllNamed : List ℕ → List Attribute → Type 0
AllNamed src [] = Unit {0}
AllNamed src (a ∷ as') = Named src a × AllNamed src as'

-- One more.
named_more : (src : List ℕ) (as' : List Attribute) (a : Attribute) → AllNamed src as' → Named src a → AllNamed src (as' ++ a ∷ [])
named_more src [] a all one = (one, tt)
named_more src (b ∷ as') a all one = (all.0, named_more src as' a all.1 one)

-- ---- declarations

-- A declaration's fault.
pub declared_spans : (src : List ℕ) (known : List NamespaceDecl) (a : Attribute) (h : TagSoFar) → Named src a → FailsWell src (declared known a h)
unfolding declared
declared_spans src known a h named = grind (arith, well_bind)

-- A declaration leaves the attributes as they are.
declared_keeps : (src : List ℕ) (known : List NamespaceDecl) (a : Attribute) (h held : TagSoFar) → AllNamed src h.attributes → declared known a h ≡ Ok held → AllNamed src held.attributes
unfolding declared
declared_keeps src known a h held all is = grind arith

-- An attribute's fault.
pub taken_spans : (src : List ℕ) (known : List NamespaceDecl) (a : Attribute) (h : TagSoFar) → Named src a → FailsWell src (taken known a h)
taken_spans src known a h named = well_if src (is_namespace_decl a.name) _ _ (declared_spans src known a h named) (well_ok src _)

-- Those that are held stay named.
pub taken_keeps : (src : List ℕ) (known : List NamespaceDecl) (a : Attribute) (h held : TagSoFar) → Named src a → AllNamed src h.attributes → taken known a h ≡ Ok held → AllNamed src held.attributes
taken_keeps src known a h held named all is =
    chosen (is_namespace_decl a.name) _ _ _ is (λ one is. declared_keeps src known a h held all is) (λ other is. grind (arith, named_more))

-- ---- the tests of the names

-- The attributes' names.
pub names_spans : (src : List ℕ) (scope : List NamespaceDecl) (before as' : List Attribute) → AllNamed src as' → FailsWell src (names_tested scope before as')
unfolding names_tested
names_spans src scope before [] all = well_ok src tt
names_spans src scope before (a ∷ as') all =
    well_if src (not (is_known scope a.name)) _ _ (well_err src (fault.UnknownNamespace (prefix_span a.name a.start) a.start) all.0.prefix)
    (well_if src (list_any (λ e. same_expanded scope e.name a.name) before) _ _ (well_err src (fault.DuplicatedAttribute (local_span a.name a.name_end) a.start) all.0.local)
    (names_spans src scope (before ++ a ∷ []) as' all.1))

-- A tag's names, where its own is at this place.
pub tested_spans : (src : List ℕ) (scope : List NamespaceDecl) (count at : ℕ) (name : Name) (as' : List Attribute) → IsTextSpan src (prefix_span name at) → AllNamed src as'
    → FailsWell src (tested_at scope count at name as')
tested_spans src scope count at name as' text all =
    well_if src (ltb most_attributes (count + length as')) _ _ (well_err src _ tt) (well_bind src (names_tested scope [] as') _ (names_spans src scope [] as' all) (λ u e. grind arith))

-- Those of a tag that begins at i.
pub tested_tag_spans : (src : List ℕ) (scope : List NamespaceDecl) (count i : ℕ) (name : Name) (as' : List Attribute) → IsTextSpan src (prefix_span name (i + 1)) → AllNamed src as'
    → FailsWell src (tag_tested scope count i name as')
unfolding tag_tested
tested_tag_spans src scope count i name as' text all = tested_spans src scope count (i + 1) name as' text all

-- ---- a tag

-- The name of a tag.
tag_name : (src : List ℕ) (i : ℕ) (n : Name × ℕ) → IsUtf8 src → slice_index src i ≡ 60 → qname_at src (i + 1) ≡ Ok n → NameText src (i + 1) n.0 n.1
tag_name src i n utf8 begins h = qname_spans src (i + 1) n.0 n.1 utf8 (cut_behind src i 60 utf8 begins (omega arith) (omega arith)) h

module _ (context : Values) (src : List ℕ) (utf8 : IsUtf8 src) (values : (i stop openings_left : ℕ) → Told (ReadText × ℕ) src (λ x. Unit {0}) (value_at context.main context.entities context.opener src i stop openings_left)) where
  -- The rest of a tag: the names of its refusal are texts, and so are the names of the attributes that are held then.
  abbrev RestTold : Result (TagRest × ℕ) Refusal → Type 0
  RestTold r = Told (TagRest × ℕ) src (λ (x : TagRest × ℕ). AllNamed src x.0.held.attributes) r

  -- After a turn.
  after_told : (known : List NamespaceDecl) (next : ℕ → ℕ → TagSoFar → Result (TagRest × ℕ) Refusal) → ((j l : ℕ) (held : TagSoFar) → IsCharBoundary src j → AllNamed src held.attributes → RestTold (next j l held))
      → (i openings_left : ℕ) (h : TagSoFar) (t : TagItem) (j : ℕ) → IsCharBoundary src i → AllNamed src h.attributes → tag_item_at src i ≡ Ok (t, j) → RestTold (after_tag_item next context known src openings_left h t j)
  after_told known next rest i openings_left h (more raw) j cut all turn =
      let text = turn_named src i raw j utf8 cut turn in
      let named : (v : ReadText) → Named src (attribute_with raw v) = λ v. record { prefix = text.0; local = text.1 } in
      told_bind src (λ (x : ReadText × ℕ). Unit {0}) _ (value_at context.main context.entities context.opener src raw.value_start raw.value_end openings_left) _ (values raw.value_start raw.value_end openings_left) (λ v read h'.
      told_after src (λ (k : TagSoFar). AllNamed src k.attributes) _ (taken known (attribute_with raw v.0) h) _
      (spanned_by src (λ (k : TagSoFar). AllNamed src k.attributes) (taken known (attribute_with raw v.0) h) (taken_spans src known (attribute_with raw v.0) h (named v.0)) (λ held e. taken_keeps src known (attribute_with raw v.0) h held (named v.0) all e))
      (λ held e all'. rest j v.1 held text.2 all'))
  after_told known next rest i openings_left h opened j cut all turn = record { tells = all }
  after_told known next rest i openings_left h closed j cut all turn = record { tells = all }

  -- The attributes of a tag.
  attributes_told : (n : ℕ) (cut : Fault) (known : List NamespaceDecl) → NamesText src cut → (i openings_left : ℕ) (h : TagSoFar) → IsCharBoundary src i → AllNamed src h.attributes → RestTold (attributes_at n context cut known src i openings_left h)
  unfolding attributes_at
  attributes_told zero cut known text i openings_left h at all = record { tells = text }
  attributes_told (suc n) cut known text i openings_left h at all =
      told_cond src _ (leb (length src) i) _ _ (λ out. record { tells = text }) (λ inside.
      told_after src (λ (x : TagItem × ℕ). Unit {0}) _ (tag_item_at src i) _ (spanned_by src (λ (x : TagItem × ℕ). Unit {0}) (tag_item_at src i) (turn_well src i) (λ x h. tt)) (λ t turn h'.
      after_told known (λ j l held. attributes_at n context cut known src j l held) (λ j l held at all. attributes_told n cut known text j l held at all) i openings_left h t.0 t.1 at all turn))

  -- The names of a tag's refusal are texts, and so is its own.
  pub tag_told : (cut : Fault) (above : List NamespaceDecl) (count : ℕ) (known : List NamespaceDecl) (i openings_left : ℕ) → slice_index src i ≡ 60 → NamesText src cut
      → Told (TagRead × ℕ) src (λ (x : TagRead × ℕ). IsTextSpan src (name_span x.0.tag.name (i + 1) x.0.tag.name_end)) (tag_at context cut above count known src i openings_left)
  unfolding tag_at
  tag_told cut above count known i openings_left begins text =
      let none : TagSoFar = record { own = []; attributes = [] } in
      told_after src (λ (n : Name × ℕ). Unit {0}) _ (qname_at src (i + 1)) _ (spanned_by src (λ (n : Name × ℕ). Unit {0}) (qname_at src (i + 1)) (qname_well src (i + 1)) (λ n h. tt)) (λ n named h.
      let name = tag_name src i n utf8 begins named in
      told_cond src _ (bytes_eq n.0.prefix (word_text word.Xmlns)) _ _ (λ reserved. record { tells = tt }) (λ free.
      told_bind src (λ (x : TagRest × ℕ). AllNamed src x.0.held.attributes) _ (attributes_at (length src) context cut known src n.1 openings_left none) _ (attributes_told (length src) cut known text n.1 openings_left none name.3 tt) (λ x rest all.
      told_after src (λ (u : Unit {0}). Unit {0}) _ (tag_tested (listed above x.0.held.own) count i n.0 x.0.held.attributes) _
      (spanned_by src (λ (u : Unit {0}). Unit {0}) (tag_tested (listed above x.0.held.own) count i n.0 x.0.held.attributes) (tested_tag_spans src (listed above x.0.held.own) count i n.0 x.0.held.attributes name.0 all) (λ u h. tt))
      (λ u tested h. record { tells = name_spans src (i + 1) n.0 n.1 name }))))
