-- Texts of Chars.
use Rattle.std.specs.Prelude.{◌≡◌, ℕ, true, List, IfSome, IsUtf8, chars}
use Rattle.std.specs.List.{list_all}
use Rattle.rox_grammar.specs.Chars.{is_char}
use Rattle.rox_grammar.specs.Written.{NamespaceDecl}

-- XML 2.2 [2]: `bytes` is a text in UTF-8, so without surrogates, and each of its characters is a Char.
pub record IsCharText (bytes : List ℕ) : Type 0 where
  pub utf8 : IsUtf8 bytes
  pub all : list_all is_char (chars bytes) ≡ true

-- The prefix of a declaration, if it has one, and its URI are texts of Chars.
pub record NamespaceDeclChars (d : NamespaceDecl) : Type 0 where
  pub prefix : IfSome d.prefix IsCharText
  pub uri : IsCharText d.uri
