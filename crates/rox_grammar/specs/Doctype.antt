-- The document type declaration, the entities that it declares, and the requests for them.
use Prim.Native.Char.{code}
use Rattle.std.specs.Prelude.{◌≡◌, ◌≢◌, ℕ, ◌+◌, ◌<◌, ◌≤◌, ◌⊎◌, ◌==◌, Bool, true, false, List, [], ◌∷◌, ◌++◌, Option, Some, None, Result, length, take, drop, IsUtf8}
use Rattle.rox_grammar.specs.Chars.{is_space}
use Rattle.rox_grammar.specs.Search.{byte_from}
use Rattle.rox_grammar.specs.Forest.{Forest, Nil, join}
use Rattle.rox_grammar.specs.Written.{Item, leaf}
use Rattle.rox_grammar.specs.Names.{byte, slice, spaces_end, IsName}
use Rattle.rox_grammar.specs.Constructs.{text_at}
pub use Rattle.rox_grammar.specs.Constructs.{IsQuoted}
use Rattle.rox_grammar.specs.Content.{IsMisc}
use Rattle.rox_grammar.specs.TextStart.{after_bom, MayHaveXmlDecl}
use Rattle.rox_grammar.specs.Entities.{Replacement, Entity}

-- XML 4.2.2: the request for an external entity: its public identifier, if it has one, and its system identifier, both as
-- written. Departures: 4.2.2 normalizes white space in a public identifier, and 2.11 replaces a CR in either.
pub record Request : Type 0 where
  pub public_id : Option (List ℕ)
  pub uri : List ℕ

-- A request, and the text that the resolver answered, if any.
pub record Asked : Type 0 where
  pub request : Request
  pub answer : Option (List ℕ)

-- What a resolver may reply: a text, no text, or a refusal with its message.
abbrev pub Reply : Type 0
Reply = Result (Option (List ℕ)) (List ℕ)

-- An answer is a text, or none. By XML 4.5 the replacement text is what follows its byte order mark (4.3.3) and its declaration
-- (4.3.1). Departure: that declaration is read also if nothing refers to the entity, where 2.1 requires only parsed entities that
-- are referenced to be well formed.
pub data GivesReplacement : Option (List ℕ) → Option Replacement → Type 0 where
  nothing : GivesReplacement None None
  the_rest : (text : List ℕ) (d : ℕ) → IsUtf8 text → MayHaveXmlDecl text (after_bom text) d → GivesReplacement (Some text) (Some (record { source = drop d text; start = 0 }))

-- The entity of this name, or none if the resolver gave no text for it. Departures: without a text, a later declaration of the
-- name is binding, where XML 4.2 takes the first. So a reference may be read that 3.1 (No External Entity References) or 4.1
-- (Parsed Entity) forbids. Without an entity, a reference to the name is an error, where 4.4.3 lets it be skipped.
abbrev pub entry : List ℕ → Option Replacement → List Entity
entry name None = []
entry name (Some text) = record { name = name; text = text } ∷ []

-- Rules between two offsets of a source. `asked` are the requests with their answers, and `es` the entities that are declared,
-- each in order.
module _ (src : List ℕ) where
  -- XML 2.3 [3] S: white space from `i` up to `j`, at least one character.
  abbrev pub IsSpace : (i j : ℕ) → Type 0
  IsSpace i j = (i < j) × (j ≡ spaces_end src i)

  -- XML 4.2.2 [75] ExternalID, with its request.
  pub data IsExternalID : (i : ℕ) → Request → (j : ℕ) → Type 0 where
    system : (i s e j : ℕ) → text_at "SYSTEM" src i ≡ true → IsSpace (i + 6) s → IsQuoted src s e j → IsExternalID i (record { public_id = None; uri = slice src (s + 1) e }) j
    public : (i p d k s e j : ℕ) → text_at "PUBLIC" src i ≡ true → IsSpace (i + 6) p → IsQuoted src p d k → IsSpace k s → IsQuoted src s e j
        → IsExternalID i (record { public_id = Some (slice src (p + 1) d); uri = slice src (s + 1) e }) j

  -- XML 4.2.2 [76] NDataDecl, of a general entity only. Without it there is the white space that 4.2 [71] GEDecl has before its
  -- `>`. Departures: the white space before it may be missing, where [76] requires some. The name may have a colon, which NS 7
  -- forbids. The entity may be referred to, which 4.1 (Parsed Entity) forbids.
  pub data MayHaveNotation : (parameter : Bool) → (i j : ℕ) → Type 0 where
    notation : (i s j : ℕ) → text_at "NDATA" src (spaces_end src i) ≡ true → IsSpace (spaces_end src i + 5) s → IsName src s j → MayHaveNotation false i j
    no_notation : (i : ℕ) → text_at "NDATA" src (spaces_end src i) ≡ false → MayHaveNotation false i (spaces_end src i)
    of_parameter : (i : ℕ) → MayHaveNotation true i i

  -- XML 4.2 [73] EntityDef, [74] PEDef, from `i` up to `j`, with its request, if any, and the replacement text that is declared,
  -- if any.
  pub data IsDefinition (parameter : Bool) : (i j : ℕ) → List Asked → Option Replacement → Type 0 where
    internal : (i e j : ℕ) → IsQuoted src i e j → IsDefinition parameter i j [] (Some (record { source = take e src; start = i + 1 }))
    external : (i n j : ℕ) (request : Request) (answer : Option (List ℕ)) (text : Option Replacement) → IsExternalID i request n → MayHaveNotation parameter n j
        → GivesReplacement answer text → IsDefinition parameter i j (record { request = request; answer = answer } ∷ []) text

  -- XML 4.2 [71] GEDecl, [72] PEDecl: the kind of an entity. `%` and white space are before the name of a parameter entity, and
  -- nothing is before that of a general entity.
  pub data IsKind : (i : ℕ) → (parameter : Bool) → (j : ℕ) → Type 0 where
    of_parameter : (i j : ℕ) → byte src i ≡ code "%" → IsSpace (i + 1) j → IsKind i true j
    general : (i : ℕ) → byte src i ≢ code "%" → IsKind i false i

  -- XML 4.2 [70] EntityDecl is read up to its definition, which starts at `d`. Its name is from `n` up to `m`. Departure: the
  -- name may have a colon, which NS 7 forbids.
  pub data BeginsEntity (i : ℕ) (parameter : Bool) (n m d : ℕ) : Type 0 where
    entity_begins : (k : ℕ) → text_at "<!ENTITY" src i ≡ true → IsSpace (i + 8) k → IsKind k parameter n → IsName src n m → IsSpace m d → BeginsEntity i parameter n m d

  -- XML 4.2.2: the declaration of an external entity starts at `i`. This request is made after it is read up to `p`.
  pub data AsksAt (i : ℕ) (request : Request) (p : ℕ) : Type 0 where
    external_entity : (parameter : Bool) (n m d e : ℕ) → BeginsEntity i parameter n m d → IsExternalID d request e → MayHaveNotation parameter e p → AsksAt i request p
    -- The source ends where the name of a notation is required. The request is made before that name.
    name_cut_off : (n m d e : ℕ) → BeginsEntity i false n m d → IsExternalID d request e → text_at "NDATA" src (spaces_end src e) ≡ true
        → IsSpace (spaces_end src e + 5) p → length src ≤ p → AsksAt i request p

  -- XML 4.2 [70] EntityDecl. Departures: a literal may contain any `&` and `%`. 2.3 [9] forbids those that begin no reference, 2.8
  -- (PEs in Internal Subset) forbids `%p;`, and 4.1 forbids references to no Char, to an entity that is not declared, and to the
  -- entity itself. The literal is checked only where the entity is referred to.
  pub data IsEntityDeclaration (i : ℕ) : (j : ℕ) → List Asked → List Entity → Type 0 where
    entity_declaration : (parameter : Bool) (n m d e : ℕ) (asked : List Asked) (text : Option Replacement) → BeginsEntity i parameter n m d
        → IsDefinition parameter d e asked text → byte src (spaces_end src e) ≡ code ">" → IsEntityDeclaration i (spaces_end src e + 1) asked (entry (slice src n m) text)

  -- XML 3.2 [45], 3.3 [52], 4.7 [82]: a declaration that is skipped starts at `i`.
  abbrev pub IsPassed : ℕ → Type 0
  IsPassed i = (text_at "<!ELEMENT" src i ≡ true) ⊎ ((text_at "<!ATTLIST" src i ≡ true) ⊎ (text_at "<!NOTATION" src i ≡ true))

  -- XML 2.8 [28b] intSubset, without the references to parameter entities of [28a]: its comments and processing instructions, the
  -- requests, and the entities that are declared, each in order.
  pub data Subset : (i j : ℕ) → Forest Item → List Asked → List Entity → Type 0 where
    no_more : (i : ℕ) → Subset i i Nil [] []
    space : (i j : ℕ) (items : Forest Item) (asked : List Asked) (es : List Entity) → is_space (byte src i) ≡ true → Subset (i + 1) j items asked es → Subset i j items asked es
    an_item : (i j k : ℕ) (item : Item) (items : Forest Item) (asked : List Asked) (es : List Entity) → IsMisc src i j item → Subset j k items asked es
        → Subset i k (join (leaf item) items) asked es
    -- The declaration is skipped up to its first `>`, whatever it contains. So attributes have no defaults (3.3.2) and no types
    -- (3.3.3), nor do they declare namespaces by default (NS 3).
    skipped_declaration : (i k : ℕ) (items : Forest Item) (asked : List Asked) (es : List Entity) → IsPassed i → byte_from (λ c. c == code ">") src i < length src
        → Subset (byte_from (λ c. c == code ">") src i + 1) k items asked es → Subset i k items asked es
    an_entity : (i j k : ℕ) (items : Forest Item) (first asked : List Asked) (one es : List Entity) → IsEntityDeclaration i j first one → Subset j k items asked es
        → Subset i k items (first ++ asked) (one ++ es)

  -- An external identifier if `SYSTEM` or `PUBLIC` is at `i`, else nothing. No request is made for it.
  pub data MayHaveExternalID : (i j : ℕ) → Type 0 where
    external_id : (i j : ℕ) (request : Request) → IsExternalID i request j → MayHaveExternalID i j
    no_external_id : (i : ℕ) → text_at "SYSTEM" src i ≡ false → text_at "PUBLIC" src i ≡ false → MayHaveExternalID i i

  -- XML 2.8 [28] doctypedecl, from `i` up to its `>` or `[`. Departure: the name may have any colons, where NS 5 [16] requires a
  -- QName.
  pub data BeginsDoctype (i : ℕ) : (j : ℕ) → Type 0 where
    doctype_begins : (n m x : ℕ) → text_at "<!DOCTYPE" src i ≡ true → IsSpace (i + 9) n → IsName src n m → MayHaveExternalID (spaces_end src m) x
        → BeginsDoctype i (spaces_end src x)

  -- The document type declaration that starts at `i` is read up to `p`, within its subset: its items, and the requests.
  pub data SubsetTo (i p : ℕ) (items : Forest Item) (asked : List Asked) : Type 0 where
    subset_to : (s : ℕ) (declared : List Entity) → BeginsDoctype i s → byte src s ≡ code "[" → Subset (s + 1) p items asked declared → SubsetTo i p items asked

  -- XML 2.8 [28] doctypedecl. Its name is not compared with the root element's: 2.8 (Root Element Type) is about validity.
  pub data IsDoctype : (i j : ℕ) → Forest Item → List Asked → List Entity → Type 0 where
    no_subset : (i s : ℕ) → BeginsDoctype i s → byte src s ≡ code ">" → IsDoctype i (s + 1) Nil [] []
    with_subset : (i s k : ℕ) (items : Forest Item) (asked : List Asked) (es : List Entity) → BeginsDoctype i s → byte src s ≡ code "[" → Subset (s + 1) k items asked es
        → byte src k ≡ code "]" → byte src (spaces_end src (k + 1)) ≡ code ">" → IsDoctype i (spaces_end src (k + 1) + 1) items asked es
