-- Bytes that were tested in one pass, by a mask that has a bit for each byte that is not in a set.
use Rattle.std.specs.Prelude.{◌≡◌, ◌≤◌, ◌<◌, ◌+◌, ◌-◌, ℕ, Bool, List, not, map, take, drop, length}
use Rattle.std.specs.Simd.Lanes.{mask_l}
use Rattle.rox_bytes.specs.ByteSets.{EndsSet, is_part_byte, is_value_byte}
use Rattle.rox_bytes.specs.declared.window.Window.{Window}

-- The mask of the sixteen bytes from `i` on, for the set `p`, is `others`.
pub record IsSeen (p : ℕ → Bool) (src : List ℕ) (i others : ℕ) : Type 0 where
  pub within : i + 16 ≤ length src
  pub mask : others ≡ mask_l (map (λ b. not (p b)) (take 16 (drop i src)))

-- A window has the masks of both sets.
pub record Sees (src : List ℕ) (w : Window) : Type 0 where
  pub parts : IsSeen is_part_byte src w.at w.parts
  pub values : IsSeen is_value_byte src w.at w.values

-- A value starts `before` bytes after the start of the window, right after the first byte that is not a value byte.
pub record SeesQuote (src : List ℕ) (w : Window) (before : ℕ) : Type 0 where
  pub sees : Sees src w
  pub some : 0 < before
  pub few : before ≤ 16
  pub opens : EndsSet is_value_byte src w.at (w.at + (before - 1))
