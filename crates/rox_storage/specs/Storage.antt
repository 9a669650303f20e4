-- The bytes of a text, and whether it is `Borrowed`. No definition here says where the bytes of a `Borrowed` text are.
use Rattle.std.specs.Prelude.{◌≡◌, ℕ, List, Bool, true, false}
use Rattle.std.specs.Rc.{rc_str_bytes}
use Rattle.rox_storage.specs.declared.storage.StringStorage.{StringStorage}
use Rattle.rox_storage.specs.declared.storage.StringStorage.TheVariants.{Borrowed, Owned}

abbrev pub storage_bytes : StringStorage → List ℕ
storage_bytes (Borrowed s) = s.now
storage_bytes (Owned s) = rc_str_bytes s

abbrev pub is_borrowed : StringStorage → Bool
is_borrowed (Borrowed s) = true
is_borrowed (Owned s) = false

-- Both texts have the same bytes, and both or neither are `Borrowed`.
abbrev pub IsSameText : StringStorage → StringStorage → Type 0
IsSameText s t = (storage_bytes t ≡ storage_bytes s) × (is_borrowed t ≡ is_borrowed s)

-- An owned text with the bytes `text`.
pub record IsOwnText (text : List ℕ) (s : StringStorage) : Type 0 where
  pub bytes : storage_bytes s ≡ text
  pub owned : is_borrowed s ≡ false
