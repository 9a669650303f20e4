-- The codes of local names, and which of them are recorded.
use Rattle.std.specs.Prelude.{◌≡◌, ◌<◌, ◌≤◌, ◌&&◌, ℕ, ◌+◌, ◌*◌, ◌-◌, ◌/◌, ◌%◌, ◌^◌, Bool, bytes_eq, true, false, List, [], ◌∷◌, ◌++◌, get_or, if◌then◌else◌, drop, leb, eqb, length, slice_index, slice_range}
use Rattle.std.specs.List.{AllByRecursion, list_any}
use Rattle.std.specs.Int.{w32, from_le_bytes, bit_at}
use Rattle.rox_grammar.specs.Written.{NamespaceDecl}
use Rattle.rox_grammar.specs.Tree.{same_prefix}
use Rattle.rox_rows.specs.Rows.{AttributeRow, NamespaceWithin, attribute_uri}
use Rattle.rox_seen.specs.declared.seen_names.SeenNames.{SeenNames}
use Rattle.rox_rows.specs.declared.row.AttributeData.{AttributeData}
use Rattle.rox_rows.specs.declared.row.AttributeNamespace.{AttributeNamespace}

-- Whether an attribute's row has this expanded name: the URI of the namespace `s`, and the local name `local`.
abbrev pub has_expanded : List NamespaceDecl → AttributeNamespace → List ℕ → AttributeData → Bool
has_expanded namespaces s local a = same_prefix (attribute_uri namespaces a.namespace) (attribute_uri namespaces s) && bytes_eq a.local.now local

-- The number from which the code of a name is computed.
unfoldable pub name_sum : List ℕ → ℕ
name_sum local = if leb 4 (length local)
    then from_le_bytes w32 (slice_range local 0 4) + from_le_bytes w32 (slice_range local (length local - 4) (length local)) * 5 + length local
    else if eqb (length local) 0 then 0
    else slice_index local 0 + slice_index local (length local / 2) * 256 + slice_index local (length local - 1) * 65536 + length local

-- The code of a local name.
unfoldable pub name_code : List ℕ → ℕ
name_code local = name_sum local * 11400714819323198485 % 2 ^ 64 / 2 ^ 54

-- The code is recorded. Each word has bits for 64 codes.
unfoldable pub HasCode : List ℕ → ℕ → Type 0
HasCode codes code = bit_at (get_or codes (code / 64) 0) (code % 64) ≡ 1

-- The code of an attribute's local name is recorded.
abbrev pub HasNameOf : List ℕ → AttributeData → Type 0
HasNameOf codes a = HasCode codes (name_code a.local.now)

-- The codes of the attributes of the tag, which are the last of these rows, are recorded.
abbrev pub HaveCodes : SeenNames → List AttributeRow → Type 0
HaveCodes seen rows = AllByRecursion (λ a. HasNameOf seen.codes a.0) (drop seen.from rows)

-- The attributes of the tag are the last of these rows. Their codes are recorded if they are more than four.
pub record AreSeen (seen : SeenNames) (rows : List AttributeRow) : Type 0 where
  pub from : seen.from ≤ length rows
  pub codes : seen.from + 4 < length rows → HaveCodes seen rows

-- If more codes repeat, a tag is left to the general step.
abbrev pub most_again : ℕ
most_again = 32

-- The codes stay, and so does the tag.
pub record KeepsCodes (old new : SeenNames) : Type 0 where
  pub codes : new.codes ≡ old.codes
  pub from : new.from ≡ old.from

-- The codes of all attributes of the tag, which are the last of these rows, are recorded. Nothing but codes changes.
pub record SeesAll (old new : SeenNames) (rows : List AttributeRow) : Type 0 where
  pub coded : HaveCodes new rows
  pub from : new.from ≡ old.from
  pub others : new ≡ record old { codes = new.codes }

-- The name `local` of the tag is recorded, and the codes before stay.
pub record SeesName (old new : SeenNames) (local : List ℕ) : Type 0 where
  pub from : new.from ≡ old.from
  pub kept : (code : ℕ) → HasCode old.codes code → HasCode new.codes code
  pub put : HasCode new.codes (name_code local)

-- The name `local` is recorded, and nothing else changes. The result is whether its code was recorded before.
pub record PutsCode (old new : SeenNames) (local : List ℕ) (result : Bool) : Type 0 where
  pub fresh : result ≡ false → HasCode old.codes (name_code local) → ⊥
  pub again : result ≡ true → HasCode old.codes (name_code local)
  pub sees : SeesName old new local
  pub only : (code : ℕ) → HasCode new.codes code → (code ≡ name_code local → ⊥) → HasCode old.codes code
  pub others : new ≡ record old { codes = new.codes }

-- The result is false only if no attribute of the tag has the local name `local`. If a row of that name is appended, `AreSeen`
-- holds again. Nothing but codes changes.
pub record TellsSeen (old new : SeenNames) (rows : List AttributeRow) (local : List ℕ) (result : Bool) : Type 0 where
  pub first : result ≡ false → (namespaces : List NamespaceDecl) (s : AttributeNamespace) → list_any (λ r. has_expanded namespaces s local r.0) (drop old.from rows) ≡ false
  pub seen : (row : AttributeRow) → row.0.local.now ≡ local → AreSeen new (rows ++ row ∷ [])
  pub from : new.from ≡ old.from
  pub others : new ≡ record old { codes = new.codes }

-- The attributes of the tag are recorded as in `AreSeen`, and the namespace of each is one of `namespaces`.
pub record HoldsSeen (namespaces : ℕ) (seen : SeenNames) (rows : List AttributeRow) : Type 0 where
  pub are_seen : AreSeen seen rows
  pub within : AllByRecursion (λ a. NamespaceWithin namespaces a.0.namespace) (drop seen.from rows)

-- The attributes of the tag are as in `HoldsSeen`, and the namespace of one more is one of `namespaces`.
pub record TakesOneMore (namespaces : ℕ) (seen : SeenNames) (rows : List AttributeRow) (other : AttributeNamespace) : Type 0 where
  pub namespace : NamespaceWithin namespaces other
  pub tag : HoldsSeen namespaces seen rows

-- A row is appended to those of the tag and recorded, or it is refused and the rows stay.
pub record PutsSeen (seen after : SeenNames) (rows new : List AttributeRow) (put : Bool) : Type 0 where
  pub from : after.from ≡ seen.from
  pub refused : put ≡ false → new ≡ rows
  pub are_seen : put ≡ true → AreSeen after new
