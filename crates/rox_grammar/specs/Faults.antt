-- The faults that may be reported of a text, and what is at the offset of each. Each constructor has all conditions of its fault.
use Prim.Native.Char.{code}
use Rattle.std.specs.Prelude.{◌≡◌, ◌≢◌, ◌⊎◌, ℕ, ◌+◌, ◌<◌, ◌≤◌, ◌==◌, Bool, true, false, List, [], ◌∷◌, ◌++◌, None, length, bytes_eq, if◌then◌else◌, codes}
use Rattle.std.specs.List.{list_any}
use Rattle.rox_grammar.specs.declared.fault.Span.{Span}
use Rattle.rox_grammar.specs.declared.fault.Expected.TheVariants as expected
use Rattle.rox_grammar.specs.declared.fault.Due.TheVariants as due
use Rattle.rox_grammar.specs.declared.fault.Fault.{Fault}
use Rattle.rox_grammar.specs.declared.fault.Fault.TheVariants as fault
use Rattle.rox_grammar.specs.Chars.{is_space, is_char}
use Rattle.rox_grammar.specs.Runs.{StandsAt}
use Rattle.rox_grammar.specs.Search.{byte_from}
use Rattle.rox_grammar.specs.Forest.{Forest, join, size}
use Rattle.rox_grammar.specs.Written.{Name, Attribute, NamespaceDecl, Tag, Item, is_namespace_decl, namespace_decl_of, namespace_decls_of, plain_attributes_of, merge, leaf}
use Rattle.rox_grammar.specs.Tree.{xml_uri, xmlns_uri, is_declared, listed, listable_of, is_xml}
use Rattle.rox_grammar.specs.Names.{byte, slice, spaces_end, IsQName}
use Rattle.rox_grammar.specs.Constructs.{text_at, first_text, AreChars, IsTextTo, IsEnd}
use Rattle.rox_grammar.specs.References.{IsReference, IsEntityReference, IsCharacter}
use Rattle.rox_grammar.specs.Content.{Inclusion, IsCharacterData, Value, IsAttribute, TagEnds, IsMisc}
use Rattle.rox_grammar.specs.WellNamed.{may_declare, is_known, same_expanded, AreDistinct, may_name, AreWellNamed}
use Rattle.rox_grammar.specs.Entities.{Replacement, Entity, text_of}
use Rattle.rox_grammar.specs.Document.{DocumentTo, pairs_in, distinct_count, attributes_in, most_attributes, most_pairs}
use Rattle.rox_grammar.specs.OpenElements.{Open, root, inside, State, depth_of, scope_of, tree_so_far, FitsLimits, HasTooManyNodes}
use Rattle.rox_grammar.specs.Due.{a_byte, a_qname, one_of, chars_to, IsMissing, Misses, DueInText, DueInPI, DueInEnd, DueInPair}
use Rattle.rox_grammar.specs.ContentPoints.{RootBegins, is_content, is_main, TagBegins, StepsOver, RefersTo, RunTo, IsSpent, ContentPoint, ValuePart, TagTo, NextValue}

-- The bytes of a name as it is written, without the colon if it has no prefix.
abbrev pub spelled : Name → List ℕ
spelled n = if bytes_eq n.prefix [] then n.local else n.prefix ++ code ":" ∷ n.local

-- The span is of these bytes.
abbrev pub SpanIs : List ℕ → Span → List ℕ → Type 0
SpanIs src span bytes = slice src span.start span.end ≡ bytes

-- A fault in the comment or the processing instruction that starts at `i`.
pub data InMisc (src : List ℕ) (i : ℕ) : Fault → Type 0 where
  comment_lacks : (f : Fault) → text_at "<!--" src i ≡ true → Misses src (DueInText expected.CommentEnd src (i + 4)) f → InMisc src i f
  -- The text of the comment contains `--`, or ends in `-`.
  double_dashes : (e : ℕ) → text_at "<!--" src i ≡ true → IsTextTo "-->" src (i + 4) e → first_text "--" src (i + 4) < e → InMisc src i (fault.InvalidComment i)
  a_declaration : text_at "<?xml " src i ≡ true → InMisc src i (fault.UnexpectedDeclaration i)
  instruction_lacks : (f : Fault) → text_at "<?" src i ≡ true → text_at "<?xml " src i ≡ false → Misses src (DueInPI src i) f → InMisc src i f

-- A fault in comments and processing instructions outside the root element, read up to `p`, with these nodes before it.
pub data InMiscs (limit : ℕ) (src : List ℕ) (p : ℕ) (items : Forest Item) : Fault → Type 0 where
  in_one : (f : Fault) → InMisc src p f → InMiscs limit src p items f
  one_too_many : (j : ℕ) (item : Item) → IsMisc src p j item → limit < 1 + size (merge (join items (leaf item))) → InMiscs limit src p items fault.NodesLimitReached

-- A fault of a reference at `p`, in a run or a value (XML 4.1).
pub data InReferences (es : List Entity) (src : List ℕ) (p : ℕ) : Fault → Type 0 where
  malformed : byte src p ≡ code "&" → ((c j : ℕ) → IsCharacter src p c j → ⊥) → ((n j : ℕ) → IsReference src p n j → ⊥) → InReferences es src p (fault.MalformedEntityReference p)
  undeclared : (j : ℕ) (name : List ℕ) (span : Span) → IsEntityReference src p j name → text_of es name ≡ None → SpanIs src span name
      → InReferences es src p (fault.UnknownEntityReference span p)

-- A fault in the run that starts at `i` (XML 2.4), where `k` replacement texts are open and `b` openings are left.
pub data InRun (es : List Entity) (k : ℕ) (Includes : Inclusion) (src : List ℕ) (i b : ℕ) : Fault → Type 0 where
  no_char : (f : Fault) → IsMissing src i (chars_to (byte_from (λ c. c == code "<") src i)) f → InRun es k Includes src i b f
  end_mark : (e : ℕ) → e ≡ byte_from (λ c. c == code "<") src i → AreChars src i e → first_text "]]>" src i < e
      → InRun es k Includes src i b (fault.InvalidCharacterData e)
  -- The fault is in any reference of the run.
  in_reference : (e p : ℕ) (f : Fault) → IsCharacterData src i e → i ≤ p → p < e → InReferences es src p f → InRun es k Includes src i b f
  -- The run is valid up to this reference, which may open no text.
  too_many : (run : RunTo es (is_main k) Includes src i b) → IsSpent k run.openings_left → InRun es k Includes src i b (fault.EntityReferenceLoop run.after)

-- A fault in a part of a value, from `i` up to `stop` (XML 3.3.3), where `k` replacement texts are open and `b` openings are
-- left.
pub data InValue (es : List Entity) (k : ℕ) (Includes : Inclusion) (src : List ℕ) (i stop b : ℕ) : Fault → Type 0 where
  -- The fault is in any reference of the part.
  in_reference : (p : ℕ) (f : Fault) → i ≤ p → p < stop → InReferences es src p f → InValue es k Includes src i stop b f
  -- The part is valid up to this reference, which may open no text.
  too_many : (p j c : ℕ) (front : List ℕ) (t : Replacement) → Value (is_main k) Includes src p i b c front → p < stop → RefersTo es src p j t → IsSpent k c
      → InValue es k Includes src i stop b (fault.EntityReferenceLoop j)
  -- A replacement text contains `<`, a reference that gives it, or a character that is not a Char.
  less : (p : ℕ) → is_main k ≡ false → i ≤ p → p < stop → (byte src p ≡ code "<") ⊎ ((j : ℕ) × IsCharacter src p (code "<") j) → InValue es k Includes src i stop b (fault.InvalidAttributeValue p)
  no_char : (q c : ℕ) → is_main k ≡ false → i ≤ q → q < stop → StandsAt c src q → is_char c ≡ false → InValue es k Includes src i stop b (fault.NonXmlChar c q)

-- A fault of the declaration `a` of a start tag, after these declarations (Namespaces in XML 1.0, 3).
pub data IllDeclared (src : List ℕ) (before : List NamespaceDecl) (a : Attribute) : Fault → Type 0 where
  -- `xmlns:xml` has another URI.
  other_uri : is_xml (namespace_decl_of a).prefix ≡ true → a.value ≢ xml_uri → a.value ≢ xmlns_uri → IllDeclared src before a (fault.InvalidXmlPrefixUri a.start)
  uri_of_xml : is_xml (namespace_decl_of a).prefix ≡ false → a.value ≡ xml_uri → IllDeclared src before a (fault.UnexpectedXmlUri a.start)
  uri_of_xmlns : a.value ≡ xmlns_uri → IllDeclared src before a (fault.UnexpectedXmlnsUri a.start)
  again : (name : Span) → may_declare (namespace_decl_of a) ≡ true → is_declared (namespace_decl_of a).prefix before ≡ true → SpanIs src name a.name.local → IllDeclared src before a (fault.DuplicatedNamespace name a.start)

-- A fault of the names of a whole start tag that starts at `i` (Namespaces in XML 1.0, 5 and 6). The tag has this name and these
-- attributes, and its element lists `scope`. The names of the attributes are tested in order, and then its own.
pub data IllNamed (src : List ℕ) (i : ℕ) (scope : List NamespaceDecl) (n : Name) (as' : List Attribute) : Fault → Type 0 where
  unknown_attribute : (before after : List Attribute) (a : Attribute) (name : Span) → as' ≡ before ++ a ∷ after → AreDistinct scope before → is_known scope a.name ≡ false
      → SpanIs src name a.name.prefix → IllNamed src i scope n as' (fault.UnknownNamespace name a.start)
  twice : (before after : List Attribute) (a : Attribute) (name : Span) → as' ≡ before ++ a ∷ after → AreDistinct scope before → is_known scope a.name ≡ true
      → list_any (λ e. same_expanded scope e.name a.name) before ≡ true → SpanIs src name a.name.local → IllNamed src i scope n as' (fault.DuplicatedAttribute name a.start)
  unknown_element : (name : Span) → AreDistinct scope as' → may_name scope n ≡ false → SpanIs src name n.prefix → IllNamed src i scope n as' (fault.UnknownNamespace name (i + 1))

-- The fault if the main text or a replacement text ends where more is required. That is right after the name, an attribute or a
-- declaration of a tag, or where an element is open.
abbrev pub cut_off : (main : Bool) → Open → Fault
cut_off true root = fault.NoRootNode
cut_off true (inside start tag before up) = fault.UnclosedRootNode
cut_off false stack = fault.UnexpectedEndOfStream

-- A fault after the name of a start tag and after these attributes and declarations, where the tag is read up to `p`.
module _ (main : Bool) (Includes : Inclusion) (src : List ℕ) (s : State) (name : Name) (as' : List Attribute) (p c : ℕ) where
  pub data InTagRest : Fault → Type 0 where
    cut : length src ≤ p → InTagRest (cut_off main s.stack)
    -- White space reaches the end of the source.
    no_rest : p < length src → length src ≤ spaces_end src p → InTagRest fault.UnexpectedEndOfStream
    no_space : (f : Fault) → p < length src → byte src p ≢ code "/" → byte src p ≢ code ">" → IsMissing src p (one_of due.Space) f → InTagRest f
    -- No `>` is after the `/`.
    not_closed : (f : Fault) → byte src (spaces_end src p) ≡ code "/" → IsMissing src (spaces_end src p + 1) (a_byte (code ">")) f → InTagRest f
    -- The fault is in an attribute or a declaration.
    in_pair : (f : Fault) → p < spaces_end src p → spaces_end src p < length src → byte src (spaces_end src p) ≢ code "/"
        → byte src (spaces_end src p) ≢ code ">" → Misses src (DueInPair src (spaces_end src p)) f → InTagRest f
    ill_declared : (d j : ℕ) (a : Attribute) (f : Fault) → p < spaces_end src p → IsAttribute main Includes src (spaces_end src p) j c d a
        → is_namespace_decl a.name ≡ true → IllDeclared src (namespace_decls_of as') a f → InTagRest f
    -- There are too many pairs with that of the next declaration, which is allowed.
    too_many_pairs : (d j : ℕ) (a : Attribute) → p < spaces_end src p → IsAttribute main Includes src (spaces_end src p) j c d a → is_namespace_decl a.name ≡ true
        → may_declare (namespace_decl_of a) ≡ true → is_declared (namespace_decl_of a).prefix (namespace_decls_of as') ≡ false
        → most_pairs < distinct_count (pairs_in (tree_so_far s.stack s.done) ++ listable_of (namespace_decls_of as' ++ namespace_decl_of a ∷ []))
        → InTagRest fault.NamespacesLimitReached
    -- There are too many attributes with those of the whole tag.
    too_many_attributes : (j : ℕ) (empty : Bool) → TagEnds src p empty j
        → most_attributes < attributes_in (tree_so_far s.stack s.done) + length (plain_attributes_of as') → InTagRest fault.AttributesLimitReached
    ill_named : (j : ℕ) (empty : Bool) (f : Fault) → TagEnds src p empty j
        → attributes_in (tree_so_far s.stack s.done) + length (plain_attributes_of as') ≤ most_attributes
        → IllNamed src s.at (listed (scope_of s.stack) (namespace_decls_of as')) name (plain_attributes_of as') f → InTagRest f

-- A fault in the start tag at the offset of `s` (XML 3.1 [40], [44]). The tag is valid up to `p` (ContentPoints: `TagTo`).
module _ (main : Bool) (Includes : Inclusion) (src : List ℕ) (s : State) (b : ℕ) where
  pub data InTag : Fault → Type 0 where
    no_name : (f : Fault) → IsMissing src (s.at + 1) a_qname f → InTag f
    xmlns_prefix : (name : Name) (n : ℕ) → IsQName src (s.at + 1) name n → name.prefix ≡ codes "xmlns" → InTag (fault.InvalidElementNamePrefix (s.at + 1))
    in_rest : (p c : ℕ) (name : Name) (as' : List Attribute) (f : Fault) → TagTo main Includes src s p b c name as' → InTagRest main Includes src s name as' p c f → InTag f

-- A fault in the end tag at the offset of `s` (XML 3.1 [42]), where `open_around` elements are open around the replacement text.
pub data InEnd (open_around : ℕ) (src : List ℕ) (s : State) : Fault → Type 0 where
  lacks : (f : Fault) → Misses src (DueInEnd src s.at) f → InEnd open_around src s f
  other_name : (n j start : ℕ) (name : Name) (tag : Tag) (before : Forest Item) (up : Open) (expected actual : Span) → s.stack ≡ inside start tag before up
      → open_around < depth_of s.stack → IsEnd src s.at name n j → tag.name ≢ name → SpanIs src expected (spelled tag.name) → SpanIs src actual (spelled name)
      → InEnd open_around src s (fault.UnexpectedCloseTag expected actual s.at)
  -- No element is open that the replacement text opened.
  none_open : (n j : ℕ) (name : Name) → depth_of s.stack ≡ open_around → IsEnd src s.at name n j → InEnd open_around src s (fault.UnexpectedEntityCloseTag s.at)

-- A fault of the construct at the offset of a state.
module _ (limit : ℕ) (es : List Entity) (k open_around : ℕ) (Includes : Inclusion) (src : List ℕ) (s : State) (b : ℕ) where
  pub data Stands : Fault → Type 0 where
    in_run : (f : Fault) → is_content k s.stack ≡ true → s.at < length src → byte src s.at ≢ code "<" → InRun es k Includes src s.at b f → Stands f
    in_section : (f : Fault) → is_content k s.stack ≡ true → text_at "<![CDATA[" src s.at ≡ true → Misses src (DueInText expected.CDataEnd src (s.at + 9)) f → Stands f
    in_misc : (f : Fault) → is_content k s.stack ≡ true → InMisc src s.at f → Stands f
    in_tag : (f : Fault) → TagBegins src s.at (is_content k s.stack) → InTag (is_main k) Includes src s b f → Stands f
    in_end : (f : Fault) → is_content k s.stack ≡ true → InEnd open_around src s f → Stands f
    -- The source ends after `<`, or `<!` starts neither a comment nor a CDATA section.
    unknown : is_content k s.stack ≡ true → byte src s.at ≡ code "<"
        → (length src ≡ s.at + 1) ⊎ ((byte src (s.at + 1) ≡ code "!") × (text_at "<!--" src s.at ≡ false) × (text_at "<![CDATA[" src s.at ≡ false)) → Stands (fault.UnknownToken s.at)
    -- The text ends where an element is open that it opened. No element is open around the main text.
    unclosed : open_around < depth_of s.stack → length src ≤ s.at → Stands (cut_off (is_main k) s.stack)
    -- There are too many nodes with the construct that starts here.
    too_many_nodes : (c : ℕ) (t : State) → StepsOver k Includes src s b t c → HasTooManyNodes limit (tree_so_far t.stack t.done) → Stands fault.NodesLimitReached
    -- There are too many nodes with the parts of a run up to a reference to an entity. They are counted before it is opened.
    too_many_pieces : (run : RunTo es (is_main k) Includes src s.at b) → is_content k s.stack ≡ true → AreWellNamed (scope_of s.stack) run.front
        → HasTooManyNodes limit (tree_so_far s.stack (join s.done run.front)) → Stands fault.NodesLimitReached

-- A fault at a point of content, in the source `source`. `k` replacement texts are open, and around the innermost of them
-- `open_around` elements.
pub data AtPoint (opens : ℕ → Inclusion) (es : List Entity) (limit k open_around : ℕ) (src : List ℕ) (s : State) (b : ℕ) : (source : List ℕ) → Fault → Type 0 where
  at_place : (f : Fault) → Stands limit es k open_around (opens k) src s b f → AtPoint opens es limit k open_around src s b src f
  -- The fault is in the value of the next attribute or declaration of the start tag here, or in a replacement text that is opened
  -- in the value.
  in_value : (next : NextValue (is_main k) (opens k) src s b) (l i stop d : ℕ) (part : List ℕ) (f : Fault) → TagBegins src s.at (is_content k s.stack)
      → ValuePart opens es k src (next.pair.first_quote + 1) next.pair.last_quote next.openings_left l part i stop d → InValue es l (opens l) part i stop d f
      → AtPoint opens es limit k open_around src s b part f

-- A fault of a text that may have at most `limit` nodes, in the source `source`. It is before the root element, in it, or after
-- it. `PrologAt p items` says that the prolog, read up to `p`, has these nodes. All before the fault is valid and within the
-- limits. Positions and names of the fault count in the source. `dtd` says whether a document type declaration is before it.
module _ (opens : ℕ → Inclusion) (es : List Entity) (limit : ℕ) (text : List ℕ) (dtd : Bool) (PrologAt : ℕ → Forest Item → Type 0) where
  pub data FaultFrom : (source : List ℕ) → Fault → Type 0 where
    misc_around : (p : ℕ) (items : Forest Item) (f : Fault) → PrologAt p items ⊎ DocumentTo (opens 0) text PrologAt p items → FitsLimits limit root items
        → InMiscs limit text p items f → FaultFrom text f
    no_root : (items : Forest Item) → PrologAt (length text) items → FitsLimits limit root items → FaultFrom text fault.NoRootNode
    unknown_ahead : (p : ℕ) (items : Forest Item) → PrologAt p items → FitsLimits limit root items → p < length text → is_space (byte text p) ≡ false
        → byte text p ≢ code "<" → FaultFrom text (fault.UnknownToken p)
    at_point : (k open_around b : ℕ) (src : List ℕ) (s : State) (source : List ℕ) (f : Fault)
        → ContentPoint opens es text (λ p items. PrologAt p items × RootBegins dtd text p) k open_around src b s → FitsLimits limit s.stack s.done
        → AtPoint opens es limit k open_around src s b source f → FaultFrom source f
    unknown_behind : (p : ℕ) (items : Forest Item) → DocumentTo (opens 0) text PrologAt p items → FitsLimits limit root items → p < length text
        → is_space (byte text p) ≡ false → text_at "<!--" text p ≡ false → text_at "<?" text p ≡ false → FaultFrom text (fault.UnknownToken p)
