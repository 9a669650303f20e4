-- The tree of a text with its names as they are written. Each place is an offset in bytes from the start of the source.
use Rattle.std.specs.Prelude.{◌≡◌, ℕ, Bool, true, false, ◌||◌, not, List, ◌++◌, Option, Some, None, bytes_eq, filter, map, if◌then◌else◌, codes}
use Rattle.rox_grammar.specs.Forest.{Forest, Nil, Cons, join}

-- NS 4: a prefix, which is empty if none is written, and a local part.
pub record Name : Type 0 where
  pub prefix : List ℕ
  pub local : List ℕ

-- An attribute: its name is from `start` up to `name_end`, and its value, without the quotes, from `value_start` up to `end - 1`.
pub record Attribute : Type 0 where
  pub start : ℕ
  pub name_end : ℕ
  pub value_start : ℕ
  pub end : ℕ
  pub name : Name
  pub value : List ℕ
  -- Whether the value is a slice of the source.
  pub borrowed : Bool

-- NS 3: a prefix, or none for the default, and its URI.
pub record NamespaceDecl : Type 0 where
  pub prefix : Option (List ℕ)
  pub uri : List ℕ

-- The content of an element's start tag.
pub record Tag : Type 0 where
  pub name : Name
  -- The offset at which its name ends.
  pub name_end : ℕ
  pub declarations : List NamespaceDecl
  pub attributes : List Attribute

-- An item, with its range.
pub data Item : Type 0 where
  Element : (start end : ℕ) → Tag → Item
  -- `borrowed` says whether its value is a slice of the source.
  Text : (start end : ℕ) → (value : List ℕ) → (borrowed : Bool) → Item
  Comment : (start end : ℕ) → (text : List ℕ) → Item
  PI : (start end : ℕ) → (target : List ℕ) → (value : Option (List ℕ)) → Item

-- Whether the item is a text.
abbrev pub is_text : Item → Bool
is_text (Element a e t) = false
is_text (Text a e v b) = true
is_text (Comment a e t) = false
is_text (PI a e t v) = false

-- The last item of the row, if there is one, is not a text.
abbrev pub Clean : Forest Item → Type 0
Clean Nil = Unit {0}
Clean (Cons i c Nil) = is_text i ≡ false
Clean (Cons i c (Cons j d r)) = Clean (Cons j d r)

-- NS 3: `xmlns:p` declares p. Departure: any other name with the local part `xmlns` declares the default, where NS 3 has only
-- `xmlns` for it.
abbrev pub is_namespace_decl : Name → Bool
is_namespace_decl n = bytes_eq n.prefix (codes "xmlns") || bytes_eq n.local (codes "xmlns")

-- The declaration that an attribute as written makes.
abbrev pub namespace_decl_of : Attribute → NamespaceDecl
namespace_decl_of a = record { prefix = if bytes_eq a.name.prefix (codes "xmlns") then Some a.name.local else None; uri = a.value }

-- The declarations among the attributes as written.
abbrev pub namespace_decls_of : List Attribute → List NamespaceDecl
namespace_decls_of as' = map namespace_decl_of (filter (λ a. is_namespace_decl a.name) as')

-- The attributes as written that are not declarations.
abbrev pub plain_attributes_of : List Attribute → List Attribute
plain_attributes_of as' = filter (λ a. not (is_namespace_decl a.name)) as'

-- Puts an item before a row of siblings. If both it and the first of them are texts, they become one. (A text has no
-- descendants.)
abbrev pub glue : Item → Forest Item → Forest Item → Forest Item
glue (Text a e v borrowed) below (Cons (Text x y w p) children rest) = Cons (Text a e (v ++ w) false) (join below children) rest
glue item below rest = Cons item below rest

-- Joins each longest sequence of texts into one text, with the range of the first. A text joined of several is not a slice of the
-- source.
abbrev pub merge : Forest Item → Forest Item
merge Nil = Nil
merge (Cons item children rest) = glue item children (merge rest)

-- An item without descendants, by itself.
abbrev pub leaf : Item → Forest Item
leaf item = Cons item Nil Nil
