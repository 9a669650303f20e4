-- Elements and content without entities stand wherever the same bytes follow, and their items move.
use Rattle.std.proofs.Common.{◌≡◌, ℕ, ◌+◌, ◌≤◌, ◌==◌, Bool, true, false, not, List, sym, subst, arith}
use Rattle.std.specs.List.{list_any}
use Rattle.rox_grammar.specs.Forest.{Forest, join}
use Rattle.rox_grammar.specs.Written.{Item, Text, Comment, PI, leaf}
use Rattle.rox_grammar.specs.Tree.{none_if_empty}
use Rattle.rox_grammar.specs.Names.{slice, spaces_end}
use Rattle.rox_grammar.specs.Entities.{no_entities}
use Rattle.rox_grammar.specs.References.{entity_reference}
use Rattle.rox_grammar.specs.Content.{DataByte, is_verbatim, literals, line_ends, piece, last_part, then_entity, IsMisc, comment, instruction, IsElement, empty, nest, Content, ends, run, cdata, misc, node}
use Rattle.rox_grammar.proofs.RunParts.{Parts}
use Rattle.rox_grammar.specs.Exchange.{Move, moved}
use Rattle.rox_exchange.specs.Local.{Follows, moved_tag, moved_item, moved_items}
use Rattle.rox_exchange.proofs.Follows.{on, from, slice_moves}
use Rattle.rox_exchange.proofs.MovesLexical.{space_end, comment_moves, pi_moves, cdata_moves, run_moves, end_moves}
use Rattle.rox_exchange.proofs.MovesTags.{part_moves, tag_moves}
use Rattle.rox_exchange.proofs.MovedItems.{moved_join, moved_merge}
use Rattle.rox_exchange.proofs.Order.{comment_le, cdata_le, pi_le, misc_lt, tag_lt, content_le, element_lt}
use Rattle.rox_theory.proofs.Productions.{cdata_parts, char_data_parts}

module _ (m : Move) (src to : List ℕ) where
  -- The text of a part.
  piece_moves : (start stop : ℕ) (borrowed : Bool) (ss : List DataByte) → moved_items m (piece start stop borrowed ss) ≡ piece (moved m start) (moved m stop) borrowed ss
  piece_moves start stop borrowed d = grind arith

  -- The parts of a run.
  pub parts_move : (main : Bool) (start stop i b c : ℕ) (items : Forest Item) → start ≤ stop → Follows m src start to (moved m start) → Follows m src i to (moved m i)
      → Parts main no_entities src start stop i b c items → Parts main no_entities to (moved m start) (moved m stop) (moved m i) b c (moved_items m items)
  parts_move main start stop i b c items le f g (last_part _ _ ss is) =
      rw (piece_moves start stop (is_verbatim (slice src start stop)) ss, slice_moves m src to start (moved m start) stop le f)
      (last_part (moved m i) b ss (part_moves m src to main stop i (moved m i) ss g is))
  parts_move main start stop i b c items le f g (then_entity _ p j _ d _ _ ss one more is (entity_reference n reference name) opens rest) = absurd opens

  -- A comment or a processing instruction.
  pub misc_moves : (i j : ℕ) (item : Item) → Follows m src i to (moved m i) → IsMisc src i j item → IsMisc to (moved m i) (moved m j) (moved_item m item)
  misc_moves i j item f (comment _ e _ is) =
      subst (λ (bs : List ℕ). IsMisc to (moved m i) (moved m j) (Comment (moved m i) (moved m j) bs)) (sym (slice_moves m src to (i + 4) (moved m i + 4) e (comment_le src i e j is) (on m src to i (moved m i) 4 f)))
      (comment (moved m i) (moved m e) (moved m j) (comment_moves m src to i (moved m i) e j f is))
  misc_moves i j item f (instruction _ n e _ is) =
      let le = pi_le src i n e j is in
      let le0 = le.0 in
      let s = space_end m src to n (moved m n) (from m src to i (moved m i) n (omega arith) f) in
      subst (λ (bs : List ℕ). IsMisc to (moved m i) (moved m j) (PI (moved m i) (moved m j) bs (none_if_empty (slice src (spaces_end src n) e)))) (sym (slice_moves m src to (i + 2) (moved m i + 2) n le0 (on m src to i (moved m i) 2 f)))
      (subst (λ (bs : List ℕ). IsMisc to (moved m i) (moved m j) (PI (moved m i) (moved m j) (slice to (moved m i + 2) (moved m n)) (none_if_empty bs))) (sym (slice_moves m src to (spaces_end src n) (spaces_end to (moved m n)) e le.1 s))
      (instruction (moved m i) (moved m n) (moved m e) (moved m j) (pi_moves m src to i (moved m i) n e j f is)))

  mutual
    -- Content.
    pub content_moves : (i j b c : ℕ) (items : Forest Item) → Follows m src i to (moved m i) → Content true no_entities src i j b c items → Content true no_entities to (moved m i) (moved m j) b c (moved_items m items)
    content_moves i j b c items f (ends _ _) = ends (moved m i) b
    content_moves i j b c items f (run _ k _ _ d _ one more is parts rest) =
        let some = (char_data_parts is).some in
        let g = from m src to i (moved m i) k (omega arith) f in
        rw (moved_join m one more)
        (run (moved m i) (moved m k) (moved m j) b d c (moved_items m one) (moved_items m more) (run_moves m src to i (moved m i) k f is) (parts_move true i k i b d one (omega arith) f f parts) (content_moves k j d c more g rest))
    content_moves i j b c items f (cdata _ e k _ _ _ more is rest) =
        let next = (cdata_parts is).next in
        let le = cdata_le src i e k is in
        let g = from m src to i (moved m i) k (omega arith) f in
        subst (λ (bs : List ℕ). Content true no_entities to (moved m i) (moved m j) b c (join (leaf (Text (moved m i) (moved m k) (line_ends (literals bs)) (not (list_any (λ b. b == 13) bs)))) (moved_items m more)))
        (sym (slice_moves m src to (i + 9) (moved m i + 9) e le (on m src to i (moved m i) 9 f)))
        (cdata (moved m i) (moved m e) (moved m k) (moved m j) b c (moved_items m more) (cdata_moves m src to i (moved m i) e k f is) (content_moves k j b c more g rest))
    content_moves i j b c items f (misc _ k _ _ _ item more is rest) =
        let lt = misc_lt src i k item is in
        let g = from m src to i (moved m i) k (omega arith) f in
        misc (moved m i) (moved m k) (moved m j) b c (moved_item m item) (moved_items m more) (misc_moves i k item f is) (content_moves k j b c more g rest)
    content_moves i j b c items f (node _ k _ _ d _ one more is rest) =
        let lt = element_lt src true no_entities i k b d one is in
        let g = from m src to i (moved m i) k (omega arith) f in
        rw (moved_join m one more)
        (node (moved m i) (moved m k) (moved m j) b d c (moved_items m one) (moved_items m more) (element_moves i k b d one f is) (content_moves k j d c more g rest))

    -- An element.
    pub element_moves : (i j b c : ℕ) (one : Forest Item) → Follows m src i to (moved m i) → IsElement true no_entities src i j b c one → IsElement true no_entities to (moved m i) (moved m j) b c (moved_items m one)
    element_moves i j b c one f (empty _ _ _ _ t is) = empty (moved m i) (moved m j) b c (moved_tag m t) (tag_moves m src to true no_entities i (moved m i) j b c true t f is)
    element_moves i j b c one f (nest _ k n p _ _ d _ t kids is inner end) =
        let lt = tag_lt src true no_entities i k b d false t is in
        let le = content_le src true no_entities k n d c kids inner in
        let g = from m src to i (moved m i) k (omega arith) f in
        let h = from m src to i (moved m i) n (omega arith) f in
        rw (moved_merge m kids)
        (nest (moved m i) (moved m k) (moved m n) (moved m p) (moved m j) b d c (moved_tag m t) (moved_items m kids)
        (tag_moves m src to true no_entities i (moved m i) k b d false t f is)
        (content_moves k n d c kids g inner)
        (end_moves m src to n (moved m n) t.name p j h end))
