-- Two sources that agree from an offset on, or up to an offset, and items that are moved.
use Rattle.std.specs.Prelude.{◌≡◌, ℕ, ◌+◌, ◌≤◌, List, map, length, take, drop, IsUtf8}
use Rattle.rox_grammar.specs.Forest.{Forest, Nil, Cons}
use Rattle.rox_grammar.specs.Written.{Attribute, Tag, Item, Element, Text, Comment, PI}
use Rattle.rox_grammar.specs.Exchange.{Move, moved}

-- The rest of `src` from `i` on is the rest of `to` from `k` on, and the move takes `i` to `k`.
pub record Follows (m : Move) (src : List ℕ) (i : ℕ) (to : List ℕ) (k : ℕ) : Type 0 where
  pub same : drop i src ≡ drop k to
  pub at : k + m.sub ≡ i + m.add

-- The first `m` bytes of both sources are equal, and are UTF-8.
pub record Fronts (src to : List ℕ) (m : ℕ) : Type 0 where
  pub same : take m src ≡ take m to
  pub inside : m ≤ length src
  pub utf8 : IsUtf8 (take m src)

-- ---- Items as they are written, moved.

abbrev pub moved_written : Move → Attribute → Attribute
moved_written m a = record {
  start = moved m a.start;
  name_end = moved m a.name_end;
  value_start = moved m a.value_start;
  end = moved m a.end;
  name = a.name;
  value = a.value;
  borrowed = a.borrowed;
}

abbrev pub moved_tag : Move → Tag → Tag
moved_tag m t = record { name = t.name; name_end = moved m t.name_end; declarations = t.declarations; attributes = map (moved_written m) t.attributes }

abbrev pub moved_item : Move → Item → Item
moved_item m (Element start end t) = Element (moved m start) (moved m end) (moved_tag m t)
moved_item m (Text start end value borrowed) = Text (moved m start) (moved m end) value borrowed
moved_item m (Comment start end text) = Comment (moved m start) (moved m end) text
moved_item m (PI start end target value) = PI (moved m start) (moved m end) target value

abbrev pub moved_items : Move → Forest Item → Forest Item
moved_items m Nil = Nil
moved_items m (Cons item children rest) = Cons (moved_item m item) (moved_items m children) (moved_items m rest)
