-- Character data, attribute values, tags, elements and content. Each rule relates two offsets of one source.
use Prim.Native.Char.{code}
use Rattle.std.specs.Prelude.{◌≡◌, ◌≢◌, ℕ, ◌+◌, ◌<◌, ◌≤◌, ◌⊎◌, ◌==◌, ◌||◌, Bool, true, false, not, List, [], ◌∷◌, ◌++◌, map, if◌then◌else◌, ◌&&◌, encode_utf8}
use Rattle.std.specs.List.{list_any}
use Rattle.rox_grammar.specs.Runs.{first_passes}
use Rattle.rox_grammar.specs.Search.{byte_from}
use Rattle.rox_grammar.specs.Forest.{Forest, Nil, Cons, join}
use Rattle.rox_grammar.specs.Written.{Name, Attribute, Tag, Item, Element, Text, Comment, PI, namespace_decls_of, plain_attributes_of, merge, leaf}
use Rattle.rox_grammar.specs.Tree.{none_if_empty}
use Rattle.rox_grammar.specs.Names.{byte, slice, spaces_end, IsQName}
use Rattle.rox_grammar.specs.Constructs.{first_text, AreChars, IsComment, IsPI, IsCData, IsEnd, IsPair}
use Rattle.rox_grammar.specs.References.{IsEntityReference, IsCharacter}

-- The meaning of a reference to the entity `name`. In content it gives the nodes `items`, and in a value the bytes `v`. `before`
-- and `after` are the openings that are left before the reference and after it.
pub record Inclusion : Type 1 where
  pub content : (name : List ℕ) (before : ℕ) (items : Forest Item) (after : ℕ) → Type 0
  pub value : (name : List ℕ) (before : ℕ) (v : List ℕ) (after : ℕ) → Type 0

-- A byte of character data: `literal` if it is written there, `kept` if a reference gave it. Line ends are replaced only in
-- literal bytes.
pub data DataByte : Type 0 where
  literal : ℕ → DataByte
  kept : ℕ → DataByte

abbrev pub data_byte : DataByte → ℕ
data_byte (literal b) = b
data_byte (kept b) = b

abbrev pub is_literal : ℕ → DataByte → Bool
is_literal c (literal b) = b == c
is_literal c (kept b) = false

-- The bytes of a character from a reference: kept in the main text, literal in a replacement text. Departure: by XML 2.11 they
-- are kept everywhere, because line ends are replaced before references are opened.
abbrev pub data_bytes_of : Bool → List ℕ → List DataByte
data_bytes_of main bs = map (if main then kept else literal) bs

-- XML 2.11: a literal CR right before a literal LF gives nothing, and any other literal CR gives LF.
abbrev pub line_ends : List DataByte → List ℕ
line_ends [] = []
line_ends (s ∷ ss) = if is_literal (code "\r") s then (if first_passes (is_literal (code "\n")) ss then line_ends ss else code "\n" ∷ line_ends ss) else data_byte s ∷ line_ends ss

-- The bytes, all literal.
abbrev pub literals : List ℕ → List DataByte
literals bs = data_bytes_of false bs

-- Whether the bytes contain no `&` and no CR.
abbrev pub is_verbatim : List ℕ → Bool
is_verbatim bs = not (list_any (λ b. b == code "&" || b == code "\r") bs)

-- Whether the bytes contain no `&` and no white space except spaces.
abbrev pub is_verbatim_value : List ℕ → Bool
is_verbatim_value bs = not (list_any (λ b. b == code "&" || (b == code "\t" || (b == code "\n" || b == code "\r"))) bs)

-- XML 2.7 [18], 2.11: a CDATA section of this text, which is a slice of the source if it has no CR.
abbrev pub section : (start end : ℕ) → (text : List ℕ) → Item
section start end text = Text start end (line_ends (literals text)) (not (list_any (λ b. b == code "\r") text))

-- The text of a part, or nothing if the part has no character.
abbrev pub piece : ℕ → ℕ → Bool → List DataByte → Forest Item
piece start stop borrowed [] = Nil
piece start stop borrowed (s ∷ ss) = leaf (Text start stop (line_ends (s ∷ ss)) borrowed)

-- XML 2.4, 4.1: characters and references to characters, from `i` up to `j`. Departure: in a replacement text too a reference
-- gives a character. By 4.5 a reference in an entity's literal is opened beforehand, and what it gives may start markup.
pub data Part (main : Bool) (src : List ℕ) (j : ℕ) : (i : ℕ) → List DataByte → Type 0 where
  part_ends : Part main src j j []
  as_written : (i : ℕ) (ss : List DataByte) → i < j → byte src i ≢ code "&" → Part main src j (i + 1) ss → Part main src j i (literal (byte src i) ∷ ss)
  from_reference : (i n c : ℕ) (ss : List DataByte) → IsCharacter src i c n → n ≤ j → Part main src j n ss → Part main src j i (data_bytes_of main (encode_utf8 c) ++ ss)

-- XML 2.4: a run from `i` up to `j`. It reaches to the next `<` or the end of the source, and no `]]>` starts in it.
pub data IsCharacterData (src : List ℕ) (i j : ℕ) : Type 0 where
  character_data : i < j → j ≡ byte_from (λ c. c == code "<") src i → AreChars src i j → j ≤ first_text "]]>" src i → IsCharacterData src i j

-- The bytes of a character from a reference in a value. In a replacement text white space gives a space. For a literal that is
-- what XML 4.5 and 3.3.3 give. Departure: in an answer 3.3.3 keeps it.
abbrev pub value_bytes : Bool → ℕ → List ℕ
value_bytes main c = if not main && (c == code "\t" || (c == code "\n" || c == code "\r")) then code " " ∷ [] else encode_utf8 c

-- XML 3.1 [40], [44]: the end of a start tag, after optional white space: `>`, or `/>` if the element is empty.
pub data TagEnds (src : List ℕ) : (i : ℕ) → (empty : Bool) → (j : ℕ) → Type 0 where
  opened : (i : ℕ) → byte src (spaces_end src i) ≡ code ">" → TagEnds src i false (spaces_end src i + 1)
  closed : (i : ℕ) → byte src (spaces_end src i) ≡ code "/" → byte src (spaces_end src i + 1) ≡ code ">" → TagEnds src i true (spaces_end src i + 2)

-- A comment or a processing instruction, as an item. Departure: its carriage returns stay, where XML 2.11 replaces them.
pub data IsMisc (src : List ℕ) : (i j : ℕ) → Item → Type 0 where
  comment : (i e j : ℕ) → IsComment src i e j → IsMisc src i j (Comment i j (slice src (i + 4) e))
  instruction : (i n e j : ℕ) → IsPI src i n e j → IsMisc src i j (PI i j (slice src (i + 2) n) (none_if_empty (slice src (spaces_end src n) e)))

-- The rules in which references to entities occur. They read the source `src`, which is the main text if `main`, else a
-- replacement text. `Includes` is the meaning of a reference. `b`, `c` and `d` are the openings that are left: `b` before what a
-- rule reads, and `c`, or `d` if the rule has two steps, after it.
module _ (main : Bool) (Includes : Inclusion) (src : List ℕ) where
  -- The parts of the run from `start` up to `stop`, divided by references to entities: those from `i` up to `p`. `borrowed` says
  -- whether the last one is a slice of the source.
  pub data Parts (borrowed : Bool) (start stop p : ℕ) : (i b c : ℕ) → Forest Item → Type 0 where
    last_part : (i b : ℕ) (ss : List DataByte) → Part main src p i ss → Parts borrowed start stop p i b b (piece start stop borrowed ss)
    then_entity : (i q j b c d : ℕ) (name : List ℕ) (ss : List DataByte) (items more : Forest Item) → Part main src q i ss → IsEntityReference src q j name
        → Includes.content name b items c → Parts borrowed start stop p j c d more → Parts borrowed start stop p i b d (join (piece start stop false ss) (join items more))

  -- XML 3.3.3: the value from `i` up to `j`. Departure (`a_character`): in a replacement text a reference may not give `<`, where
  -- 3.1 and 4.6 let `&lt;` give one, and in an answer also `&#60;`.
  pub data Value (j : ℕ) : (i b c : ℕ) → List ℕ → Type 0 where
    value_ends : (b : ℕ) → Value j j b b []
    line_end : (i b c : ℕ) (v : List ℕ) → i + 1 < j → byte src i ≡ code "\r" → byte src (i + 1) ≡ code "\n" → Value j (i + 1) b c v → Value j i b c v
    white : (i b c : ℕ) (v : List ℕ) → i < j → (byte src i ≡ code "\t") ⊎ ((byte src i ≡ code "\n") ⊎ ((byte src i ≡ code "\r") × ((j ≡ i + 1) ⊎ (byte src (i + 1) ≢ code "\n"))))
        → Value j (i + 1) b c v → Value j i b c (code " " ∷ v)
    other : (i b c : ℕ) (v : List ℕ) → i < j → byte src i ≢ code "&" → byte src i ≢ code "\t" → byte src i ≢ code "\n" → byte src i ≢ code "\r" → byte src i ≢ code "<"
        → Value j (i + 1) b c v → Value j i b c (byte src i ∷ v)
    a_character : (i n x b c : ℕ) (v : List ℕ) → IsCharacter src i x n → n ≤ j → (main ≡ true) ⊎ (x ≢ code "<") → Value j n b c v → Value j i b c (value_bytes main x ++ v)
    an_entity : (i k b c d : ℕ) (name w v : List ℕ) → IsEntityReference src i k name → k ≤ j → Includes.value name b w c → Value j k c d v → Value j i b d (w ++ v)

  -- XML 3.1 [41] Attribute, from `i` up to `j`.
  pub data IsAttribute (i j b c : ℕ) : Attribute → Type 0 where
    attribute : (n v e : ℕ) (name : Name) (value : List ℕ) → IsPair src i name n v e j → Value e (v + 1) b c value → IsAttribute i j b c
        (record { start = i; name_end = n; value_start = v + 1; end = j; name = name; value = value; borrowed = is_verbatim_value (slice src (v + 1) e) })

  -- Attributes from `i` up to `j`, each after white space.
  pub data Attributes : (i j b c : ℕ) → List Attribute → Type 0 where
    no_more : (i b : ℕ) → Attributes i i b b []
    one_more : (i j k b c d : ℕ) (a : Attribute) (as' : List Attribute) → i < spaces_end src i → IsAttribute (spaces_end src i) j b c a → Attributes j k c d as' → Attributes i k b d (a ∷ as')

  -- XML 3.1 [40] STag, [44] EmptyElemTag, from `i` up to `j`. `empty` says that the element is empty.
  pub data IsTag (i j b c : ℕ) (empty : Bool) : Tag → Type 0 where
    start_tag : (n m : ℕ) (name : Name) (all : List Attribute) → byte src i ≡ code "<" → IsQName src (i + 1) name n → Attributes n m b c all → TagEnds src m empty j
        → IsTag i j b c empty (record { name = name; name_end = n; declarations = namespace_decls_of all; attributes = plain_attributes_of all })

  mutual
    -- XML 3 [39] element, from `i` up to `j`.
    pub data IsElement : (i j b c : ℕ) → Forest Item → Type 0 where
      empty : (i j b c : ℕ) (t : Tag) → IsTag i j b c true t → IsElement i j b c (leaf (Element i j t))
      nest : (i j m p e b c d : ℕ) (t : Tag) (kids : Forest Item) → IsTag i j b c false t → Content j m c d kids → IsEnd src m t.name p e
          → IsElement i e b d (Cons (Element i e t) (merge kids) Nil)

    -- XML 3.1 [43] content, from `i` up to `j`.
    pub data Content : (i j b c : ℕ) → Forest Item → Type 0 where
      ends : (i b : ℕ) → Content i i b b Nil
      run : (i j l b c d : ℕ) (items more : Forest Item) → IsCharacterData src i j → Parts (is_verbatim (slice src i j)) i j j i b c items → Content j l c d more → Content i l b d (join items more)
      cdata : (i e j l b c : ℕ) (more : Forest Item) → IsCData src i e j → Content j l b c more → Content i l b c (join (leaf (section i j (slice src (i + 9) e))) more)
      misc : (i j l b c : ℕ) (item : Item) (more : Forest Item) → IsMisc src i j item → Content j l b c more → Content i l b c (join (leaf item) more)
      node : (i j l b c d : ℕ) (one more : Forest Item) → IsElement i j b c one → Content j l c d more → Content i l b d (join one more)
