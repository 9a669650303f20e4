-- Names, and the bytes that spell them.
use Prim.Native.Char.{code}
use Rattle.std.specs.Prelude.{◌≡◌, ◌≤◌, ◌==◌, ◌+◌, ◌-◌, ℕ, Bool, not, List, [], length, take, drop, slice_range, nat_lt, if◌then◌else◌}
use Rattle.std.specs.List.{position_or_len}
use Rattle.rox_grammar.specs.Failures.{name_view}
use Rattle.rox_grammar.specs.Written.{Name}
use Rattle.rox_names.specs.declared.open_element.NameBytes.{NameBytes}
use Rattle.rox_names.specs.declared.start_tag.StartTag.{StartTag}

-- The number of bytes before the first colon, or of all if there is none.
abbrev pub before_colon : List ℕ → ℕ
before_colon bs = position_or_len (λ b. b == code ":") bs

-- The name that bytes spell, split at the first colon, which may be the first byte.
unfoldable pub spelled_name : List ℕ → Name
spelled_name bs =
    if nat_lt (before_colon bs) (length bs) then record { prefix = take (before_colon bs) bs; local = drop (before_colon bs + 1) bs }
    else record { prefix = []; local = bs }

abbrev pub is_prefixed : Name → Bool
is_prefixed name = not (length name.prefix == 0)

abbrev pub bytes_view : NameBytes → Name
bytes_view n = record { prefix = n.prefix.now; local = n.local.now }

-- The bytes of the text from `name_start` to `name_end` spell the name of the tag.
pub record SpellsName (text : List ℕ) (tag : StartTag) : Type 0 where
  pub ordered : tag.name_start ≤ tag.name_end
  pub within : tag.name_end ≤ length text
  pub spells : spelled_name (slice_range text tag.name_start tag.name_end) ≡ name_view tag.name

-- The count that is stored for a name of 2^32 - 1 bytes or more. Its source is then as long as the name.
abbrev pub long_name : ℕ
long_name = 4294967295

-- The length of a name in bytes, from its stored count and the source.
abbrev pub kept_length : ℕ → List ℕ → ℕ
kept_length count source = if nat_lt count long_name then count else length source

-- The name of a tag of this text is stored as `count` and `source`.
pub record KeepsName (text : List ℕ) (tag : StartTag) (count : ℕ) (source : List ℕ) : Type 0 where
  pub within : count ≤ length source
  pub counted : kept_length count source ≡ tag.name_end - tag.name_start
  pub bytes : take (kept_length count source) source ≡ slice_range text tag.name_start tag.name_end
