-- The points of content that reading reaches, in the root element and in replacement texts. A construct is passed only if it is in
-- the grammar and well named.
use Prim.Native.Char.{code}
use Rattle.std.specs.Prelude.{◌≡◌, ◌≢◌, ℕ, zero, suc, ◌+◌, ◌<◌, ◌≤◌, Some, Bool, true, false, List, ◌++◌, length, bytes_eq, codes}
use Rattle.rox_grammar.specs.Forest.{Forest, Nil, Cons, join}
use Rattle.rox_grammar.specs.Written.{Name, Attribute, Tag, Item, Element, namespace_decls_of, merge, leaf}
use Rattle.rox_grammar.specs.Tree.{listed, listable_of}
use Rattle.rox_grammar.specs.Names.{byte, slice, spaces_end, IsQName}
use Rattle.rox_grammar.specs.Constructs.{text_at, IsCData, IsEnd, PairAt}
use Rattle.rox_grammar.specs.Content.{Inclusion, is_verbatim, section, Parts, IsCharacterData, Value, Attributes, IsTag, IsMisc}
use Rattle.rox_grammar.specs.WellNamed.{AreDeclarable, IsWellNamed, AreWellNamed}
use Rattle.rox_grammar.specs.References.{IsEntityReference}
use Rattle.rox_grammar.specs.Entities.{Replacement, Entity, text_of, most_within, most_deep, Spends}
use Rattle.rox_grammar.specs.Document.{pairs_in, distinct_count, most_pairs}
use Rattle.rox_grammar.specs.OpenElements.{Open, root, inside, State, depth_of, scope_of, tree_so_far}

-- The `<` of the root element: it starts no comment, processing instruction or document type declaration. After a document type
-- declaration no other is allowed, so `<!DOCTYPE` is read as a start tag there.
abbrev pub RootBegins : (dtd : Bool) → List ℕ → ℕ → Type 0
RootBegins dtd src i = (byte src i ≡ code "<") × (text_at "<!--" src i ≡ false) × (text_at "<?" src i ≡ false) × (dtd ≡ false → text_at "<!DOCTYPE" src i ≡ false)

-- Whether content is read, with `k` replacement texts open. In the main text, where `k` is 0, it is read only inside the root
-- element.
abbrev pub is_content : ℕ → Open → Bool
is_content zero root = false
is_content k stack = true

-- Whether no replacement text is open.
abbrev pub is_main : ℕ → Bool
is_main zero = true
is_main (suc k) = false

-- A start tag starts at `i`: in content with `<` and a byte that starts no other markup, and for the root element with `<`.
pub data TagBegins (src : List ℕ) (i : ℕ) : Bool → Type 0 where
  of_root : byte src i ≡ code "<" → TagBegins src i false
  in_content : byte src i ≡ code "<" → i + 1 < length src → byte src (i + 1) ≢ code "!" → byte src (i + 1) ≢ code "?" → byte src (i + 1) ≢ code "/" → TagBegins src i true

-- XML 3.1 [43]: one construct of content is read, from the state `s` to another one, with the openings left before it and after
-- it.
module _ (k : ℕ) (Includes : Inclusion) (src : List ℕ) (s : State) where
  pub data StepsOver : (b : ℕ) → State → (c : ℕ) → Type 0 where
    a_run : (j b c : ℕ) (items : Forest Item) → is_content k s.stack ≡ true → IsCharacterData src s.at j → Parts (is_main k) Includes src (is_verbatim (slice src s.at j)) s.at j j s.at b c items
        → AreWellNamed (scope_of s.stack) items → StepsOver b (record s { at = j; done = join s.done items }) c
    a_section : (e j b : ℕ) → is_content k s.stack ≡ true → IsCData src s.at e j
        → StepsOver b (record s { at = j; done = join s.done (leaf (section s.at j (slice src (s.at + 9) e))) }) b
    a_misc : (j b : ℕ) (item : Item) → is_content k s.stack ≡ true → IsMisc src s.at j item → StepsOver b (record s { at = j; done = join s.done (leaf item) }) b
    an_empty_tag : (j b c : ℕ) (t : Tag) → IsTag (is_main k) Includes src s.at j b c true t → IsWellNamed (listed (scope_of s.stack) t.declarations) t
        → StepsOver b (record s { at = j; done = join s.done (leaf (Element s.at j t)) }) c
    a_start_tag : (j b c : ℕ) (t : Tag) → IsTag (is_main k) Includes src s.at j b c false t → IsWellNamed (listed (scope_of s.stack) t.declarations) t
        → StepsOver b (record { at = j; done = Nil; stack = inside s.at t s.done s.stack }) c
    an_end_tag : (n j b start : ℕ) (t : Tag) (before : Forest Item) (up : Open) → s.stack ≡ inside start t before up → IsEnd src s.at t.name n j
        → StepsOver b (record { at = j; done = join before (Cons (Element start j t) (merge s.done) Nil); stack = up }) b

-- A reference to an entity is from `p` up to `j`, and `t` is the replacement text of the entity.
abbrev pub RefersTo : List Entity → List ℕ → (p j : ℕ) → Replacement → Type 0
RefersTo es src p j t = (name : List ℕ) × IsEntityReference src p j name × (text_of es name ≡ Some t)

-- The run that starts at `i`, with `b` openings left, is read up to a reference to an entity.
pub record RunTo (es : List Entity) (main : Bool) (Includes : Inclusion) (src : List ℕ) (i b : ℕ) : Type 0 where
  pub run_end : ℕ
  -- The reference is from `reference` up to `after`. Before it, `openings_left` openings are left.
  pub reference : ℕ
  pub after : ℕ
  pub openings_left : ℕ
  -- The items before the reference, and its replacement text.
  pub front : Forest Item
  pub replacement : Replacement
  pub is_run : IsCharacterData src i run_end
  pub is_front : Parts main Includes src false i run_end reference i b openings_left front
  pub within_run : reference < run_end
  pub refers : RefersTo es src reference after replacement

-- One more replacement text may be opened where `k` are open and `b` openings are left. At its start, `r` openings are left. The
-- numbers at its end and after it are any.
abbrev pub MayOpen : (k b r : ℕ) → Type 0
MayOpen k b r = (k < most_deep) × (l : ℕ) × (c : ℕ) × Spends (is_main k) b r l c

-- No replacement text may be opened where `k` are open and `b` openings are left.
abbrev pub IsSpent : (k b : ℕ) → Type 0
IsSpent k b = (r : ℕ) → MayOpen k b r → ⊥

-- A point of content that reading reaches: in the source `src`, with `k` replacement texts open, with `b` openings left, and with
-- what is read and open there. Around the innermost replacement text, or the main text, `open_around` elements are open.
-- `opens k` is the meaning of a reference there.
pub data ContentPoint (opens : ℕ → Inclusion) (es : List Entity) (text : List ℕ) (Root : ℕ → Forest Item → Type 0)
    : (k open_around : ℕ) → (src : List ℕ) → (b : ℕ) → State → Type 0 where
  begins : (p : ℕ) (items : Forest Item) → Root p items → ContentPoint opens es text Root 0 0 text most_within (record { at = p; done = items; stack = root })
  -- An element that was opened before the replacement text is not closed in it.
  goes : (k open_around b c : ℕ) (src : List ℕ) (s t : State) → ContentPoint opens es text Root k open_around src b s → StepsOver k (opens k) src s b t c
      → is_content k t.stack ≡ true → open_around ≤ depth_of t.stack → ContentPoint opens es text Root k open_around src c t
  -- The run here is read up to a reference, whose replacement text is opened.
  enters : (k open_around b r : ℕ) (src : List ℕ) (s : State) (run : RunTo es (is_main k) (opens k) src s.at b) → ContentPoint opens es text Root k open_around src b s
      → is_content k s.stack ≡ true → AreWellNamed (scope_of s.stack) run.front → MayOpen k run.openings_left r
      → ContentPoint opens es text Root (suc k) (depth_of s.stack) run.replacement.source r (record s { at = run.replacement.start; done = join s.done run.front })

-- A part of a value: from `i` up to `stop` of the source `part`, where `l` replacement texts are open and `d` openings are left.
-- It is the value itself, from `start` up to `end` of `src`, where `k` are open and `b` are left. Or it is a replacement text
-- that a reference in the value opens, before which all is valid.
pub data ValuePart (opens : ℕ → Inclusion) (es : List Entity) (k : ℕ) (src : List ℕ) (start end b : ℕ) : (l : ℕ) → (part : List ℕ) → (i stop d : ℕ) → Type 0 where
  itself : ValuePart opens es k src start end b k src start end b
  opened : (l i stop d c r p j : ℕ) (part front : List ℕ) (t : Replacement) → ValuePart opens es k src start end b l part i stop d
      → Value (is_main l) (opens l) part p i d c front → p < stop → RefersTo es part p j t → MayOpen l c r
      → ValuePart opens es k src start end b (suc l) t.source t.start (length t.source) r

-- The start tag at the offset of `s` is read up to `p`, right after its name or one of these attributes and declarations. No
-- fault of the tag is before `p`: each declaration is allowed, and the pairs of the document up to `p` do not exceed the limit.
abbrev pub TagTo : (main : Bool) → Inclusion → List ℕ → State → (p b c : ℕ) → Name → List Attribute → Type 0
TagTo main Includes src s p b c name written =
    (n : ℕ) × IsQName src (s.at + 1) name n × (bytes_eq name.prefix (codes "xmlns") ≡ false) × Attributes main Includes src n p b c written
    × AreDeclarable (namespace_decls_of written) × (distinct_count (pairs_in (tree_so_far s.stack s.done) ++ listable_of (namespace_decls_of written)) ≤ most_pairs)

-- The start tag at the offset of `s` is read up to its next attribute or declaration, which is `pair`.
pub record NextValue (main : Bool) (Includes : Inclusion) (src : List ℕ) (s : State) (b : ℕ) : Type 0 where
  pub read_to : ℕ
  pub openings_left : ℕ
  pub tag_name : Name
  pub written : List Attribute
  pub is_read : TagTo main Includes src s read_to b openings_left tag_name written
  pub has_space : read_to < spaces_end src read_to
  pub pair : PairAt src (spaces_end src read_to)
