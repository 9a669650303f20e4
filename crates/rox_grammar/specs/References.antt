-- References (XML 4.1).
use Prim.Native.Char.{code}
use Rattle.std.specs.Prelude.{◌≡◌, ℕ, ◌+◌, ◌*◌, ◌-◌, ◌^◌, ◌<◌, ◌||◌, Bool, true, List, Option, Some, None, fold, nat_le, nat_lt, bytes_eq, if◌then◌else◌, drop, codes}
use Rattle.std.specs.List.{prefix_len}
use Rattle.rox_grammar.specs.Chars.{is_between, is_char}
use Rattle.rox_grammar.specs.Names.{byte, slice, IsName}
use Rattle.rox_grammar.specs.Constructs.{text_at}

-- XML 4.1 [66]: whether `b` is a decimal digit.
abbrev pub is_digit : ℕ → Bool
is_digit b = is_between (code "0") (code "9") b

-- XML 4.1 [66]: whether `b` is a hexadecimal digit.
abbrev pub is_hex_digit : ℕ → Bool
is_hex_digit b = is_digit b || (is_between (code "a") (code "f") b || is_between (code "A") (code "F") b)

-- XML 4.1 [66]: the value of a digit.
abbrev pub digit_value : ℕ → ℕ
digit_value b = if nat_le b (code "9") then b - code "0" else if nat_le b (code "F") then b - (code "A" - 10) else b - (code "a" - 10)

-- XML 4.1 [66]: the number that the digits give in this base.
abbrev pub number : ℕ → List ℕ → ℕ
number base ds = fold (λ n d. n * base + digit_value d) 0 ds

-- The end of the bytes from `i` on that pass `p`.
unfoldable pub bytes_end : (ℕ → Bool) → List ℕ → ℕ → ℕ
bytes_end p src i = i + prefix_len p (drop i src)

-- The character of this number. Departure: a number of no character gives U+FFFD, where XML 4.1 (Legal Character) forbids it.
abbrev pub character : ℕ → ℕ
character n = if nat_lt n 0xD800 || is_between 0xE000 0x10FFFF n then n else 0xFFFD

-- XML 4.6: the characters of the five predefined names.
abbrev pub predefined : List ℕ → Option ℕ
predefined name =
    if bytes_eq name (codes "lt") then Some (code "<")
    else if bytes_eq name (codes "gt") then Some (code ">")
    else if bytes_eq name (codes "amp") then Some (code "&")
    else if bytes_eq name (codes "quot") then Some (code "\"")
    else if bytes_eq name (codes "apos") then Some (code "'")
    else None

-- XML 4.1 [66]: digits from `d` on, and `;`. Their number is below 2^32, and gives the Char `c`.
pub data IsNumber (base : ℕ) (is : ℕ → Bool) (src : List ℕ) (d c : ℕ) : (j : ℕ) → Type 0 where
  digits : (e : ℕ) → e ≡ bytes_end is src d → d < e → byte src e ≡ code ";" → number base (slice src d e) < 2 ^ 32 → c ≡ character (number base (slice src d e))
      → is_char c ≡ true → IsNumber base is src d c (e + 1)

-- XML 4.1 [68]: `&`, a name up to `n`, and `;`. Departure: the name may have colons, which NS 7 forbids.
pub data IsReference (src : List ℕ) (i n : ℕ) : (j : ℕ) → Type 0 where
  entity_ref : byte src i ≡ code "&" → IsName src (i + 1) n → byte src n ≡ code ";" → IsReference src i n (n + 1)

-- XML 4.1 [68], 4.6: a reference from `i` up to `j` to the entity of this name, which is not a predefined name.
pub data IsEntityReference (src : List ℕ) (i j : ℕ) : (name : List ℕ) → Type 0 where
  entity_reference : (n : ℕ) → IsReference src i n j → predefined (slice src (i + 1) n) ≡ None → IsEntityReference src i j (slice src (i + 1) n)

-- XML 4.1 [66], 4.6: a reference from `i` up to `j` to the character `c`.
pub data IsCharacter (src : List ℕ) (i c j : ℕ) : Type 0 where
  decimal : text_at "&#" src i ≡ true → IsNumber 10 is_digit src (i + 2) c j → IsCharacter src i c j
  hexadecimal : text_at "&#x" src i ≡ true → IsNumber 16 is_hex_digit src (i + 3) c j → IsCharacter src i c j
  named : (n : ℕ) → IsReference src i n j → predefined (slice src (i + 1) n) ≡ Some c → IsCharacter src i c j
