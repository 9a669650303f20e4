-- Items whose names and values are texts of Chars.
use Rattle.std.specs.Prelude.{All, IfSome}
use Rattle.rox_grammar.specs.Forest.{Forest, Nil, Cons}
use Rattle.rox_grammar.specs.Written.{Attribute, Tag, Item, Element, Text, Comment, PI}
use Rattle.rox_grammar.specs.CharText.{IsCharText, NamespaceDeclChars}

-- The local name and the value of an attribute as written are texts of Chars.
pub record WrittenChars (a : Attribute) : Type 0 where
  pub local : IsCharText a.name.local
  pub value : IsCharText a.value

-- The local name of a tag, its declarations and its attributes are texts of Chars.
pub record TagChars (t : Tag) : Type 0 where
  pub local : IsCharText t.name.local
  pub declarations : All NamespaceDeclChars t.declarations
  pub attributes : All WrittenChars t.attributes

abbrev pub ItemChars : Item → Type 0
ItemChars (Element a e t) = TagChars t
ItemChars (Text a e v b) = IsCharText v
ItemChars (Comment a e t) = IsCharText t
ItemChars (PI a e t o) = IsCharText t × IfSome o IsCharText

-- The parts of all items, at any depth, are texts of Chars.
abbrev pub ItemsChars : Forest Item → Type 0
ItemsChars Nil = Unit {0}
ItemsChars (Cons item children rest) = ItemChars item × ItemsChars children × ItemsChars rest
