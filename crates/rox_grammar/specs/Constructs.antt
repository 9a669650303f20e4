-- The constructs that contain no others.
use Prim.Native.Char.{code}
use Prim.Native.String.{String}
use Rattle.std.specs.Prelude.{◌≡◌, ℕ, ◌+◌, ◌<◌, ◌⊎◌, ◌==◌, Bool, true, false, List, length, take, codes}
use Rattle.rox_grammar.specs.Chars.{is_char}
use Rattle.rox_grammar.specs.Runs.{run_end}
use Rattle.rox_grammar.specs.Search.{stands, mark_from, byte_from}
use Rattle.rox_grammar.specs.Written.{Name}
use Rattle.rox_grammar.specs.Names.{byte, spaces_end, IsName, IsQName}

-- Whether the text is at `i` in the source.
abbrev pub text_at : String → List ℕ → ℕ → Bool
text_at text src i = stands (codes text) src i

-- The first offset from `i` on at which the text is, or the end of the source.
abbrev pub first_text : String → List ℕ → ℕ → ℕ
first_text text src i = mark_from (codes text) src i

-- XML 2.2 [2]: the characters from `i` up to `j` are Chars, that is, the longest run of Chars from `i` reaches `j`.
abbrev pub AreChars : (src : List ℕ) (i j : ℕ) → Type 0
AreChars src i j = run_end is_char (take j src) i ≡ j

-- The characters from `i` up to `e` are Chars, and `e` is the first offset from `i` on at which the text is.
abbrev pub IsTextTo : (text : String) (src : List ℕ) (i e : ℕ) → Type 0
IsTextTo text src i e = (e ≡ first_text text src i) × AreChars src i e × (text_at text src e ≡ true)

-- XML 2.5 [15] Comment: its text ends at `e`, the first `--` after `<!--`. So the text contains no `--` and does not end in `-`.
pub data IsComment (src : List ℕ) (i e : ℕ) : (j : ℕ) → Type 0 where
  comment : text_at "<!--" src i ≡ true → IsTextTo "--" src (i + 4) e → text_at "-->" src e ≡ true → IsComment src i e (e + 3)

-- XML 2.6 [16] PI: its target ends at `n`, and its value at `e`. Departures: the white space after the target may be missing,
-- where [16] requires some before a value. Of the names, only `xml` before a space is refused as a target, where [17] forbids
-- `xml` in upper and lower case, and NS 7 a colon.
pub data IsPI (src : List ℕ) (i n e : ℕ) : (j : ℕ) → Type 0 where
  pi : text_at "<?" src i ≡ true → text_at "<?xml " src i ≡ false → IsName src (i + 2) n → IsTextTo "?>" src (spaces_end src n) e → IsPI src i n e (e + 2)

-- XML 2.7 [18] CDSect: its text ends at `e`.
pub data IsCData (src : List ℕ) (i e : ℕ) : (j : ℕ) → Type 0 where
  cd_sect : text_at "<![CDATA[" src i ≡ true → IsTextTo "]]>" src (i + 9) e → IsCData src i e (e + 3)

-- XML 2.8 [25] Eq, from `i` up to `j`.
abbrev pub IsEq : List ℕ → (i j : ℕ) → Type 0
IsEq src i j = (byte src (spaces_end src i) ≡ code "=") × (j ≡ spaces_end src (spaces_end src i + 1))

-- A quote is at `i`.
abbrev pub IsQuote : List ℕ → ℕ → Type 0
IsQuote src i = (byte src i ≡ code "'") ⊎ (byte src i ≡ code "\"")

-- XML 2.3 [9], [11], [12]: a literal from `i` up to `j`, with its last quote at `e`. Between its quotes are any characters except
-- that quote. Departure: they need not be Chars (2.2), nor those that [12] allows.
abbrev pub IsQuoted : List ℕ → (i e j : ℕ) → Type 0
IsQuoted src i e j = IsQuote src i × (e ≡ byte_from (λ c. c == byte src i) src (i + 1)) × (e < length src) × (j ≡ e + 1)

-- XML 2.3 [10] AttValue: a literal of Chars without `<`.
abbrev pub IsAttValue : List ℕ → (i e j : ℕ) → Type 0
IsAttValue src i e j = IsQuoted src i e j × AreChars src (i + 1) e × (e ≡ byte_from (λ c. c == code "<") (take e src) (i + 1))

-- XML 3.1 [41] Attribute, and a pair of an XML declaration (2.8 [24]): a name up to `n`, Eq up to `v`, and a value in quotes,
-- with its last quote at `e`.
abbrev pub IsPair : List ℕ → (i : ℕ) → Name → (n v e j : ℕ) → Type 0
IsPair src i name n v e j = IsQName src i name n × IsEq src n v × IsAttValue src v e j

-- The pair that starts at `i`, with its parts.
pub record PairAt (src : List ℕ) (i : ℕ) : Type 0 where
  pub name : Name
  pub name_end : ℕ
  -- The offsets of its quotes.
  pub first_quote : ℕ
  pub last_quote : ℕ
  pub end : ℕ
  pub is_written : IsPair src i name name_end first_quote last_quote end

-- A pair that starts with this text. It is nothing if the text is not at `i`. After the pair is white space, or none if `?>` or
-- the end of the source follows. Departures: the name may continue after the text, and the value may have any Chars
-- except `<` and its quote, where XML 2.8 [24], [26], 4.3.3 [80], [81] and 2.9 [32] fix both.
pub data MayBePair (text : List ℕ) (src : List ℕ) (i : ℕ) : (j : ℕ) → Type 0 where
  is_pair : (name : Name) (n v e j : ℕ) → stands text src i ≡ true → IsPair src i name n v e j
      → (j < spaces_end src j) ⊎ ((text_at "?>" src j ≡ true) ⊎ (length src ≡ j)) → MayBePair text src i (spaces_end src j)
  no_pair : stands text src i ≡ false → MayBePair text src i i

-- XML 2.8 [23]: the declaration that starts at `i` is read up to `p`, where a pair that starts with `text` comes next. Only the
-- pair of `version` is required there; another one may be missing.
pub data DeclarationTo (src : List ℕ) (i : ℕ) : (text : List ℕ) → (p : ℕ) → Type 0 where
  version : text_at "version" src (spaces_end src (i + 5)) ≡ true → DeclarationTo src i (codes "version") (spaces_end src (i + 5))
  encoding : (p q : ℕ) → DeclarationTo src i (codes "version") p → MayBePair (codes "version") src p q → DeclarationTo src i (codes "encoding") q
  standalone : (p q : ℕ) → DeclarationTo src i (codes "encoding") p → MayBePair (codes "encoding") src p q → DeclarationTo src i (codes "standalone") q

-- XML 2.8 [23] XMLDecl. Departure: it starts only with `<?xml` and a space. With other white space it is read as a processing
-- instruction.
pub data IsXmlDecl (src : List ℕ) (i : ℕ) : (j : ℕ) → Type 0 where
  xml_decl : (p q : ℕ) → text_at "<?xml " src i ≡ true → DeclarationTo src i (codes "standalone") p → MayBePair (codes "standalone") src p q → text_at "?>" src q ≡ true
      → IsXmlDecl src i (q + 2)

-- XML 3.1 [42] ETag: its name ends at `n`.
pub data IsEnd (src : List ℕ) (i : ℕ) (name : Name) (n : ℕ) : (j : ℕ) → Type 0 where
  end_tag : text_at "</" src i ≡ true → IsQName src (i + 2) name n → byte src (spaces_end src n) ≡ code ">" → IsEnd src i name n (spaces_end src n + 1)
