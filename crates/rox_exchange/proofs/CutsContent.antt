-- Elements and content without entities are in each source with the same front.
use Rattle.std.proofs.Common.{ℕ, ◌+◌, ◌<◌, ◌≤◌, ◌==◌, Bool, true, false, not, List, sym, ap, ◌∙◌, subst, arith}
use Rattle.std.specs.List.{list_any}
use Rattle.rox_grammar.specs.Chars.{is_space}
use Rattle.rox_grammar.specs.Forest.{Forest, join}
use Rattle.rox_grammar.specs.Written.{Item, Text, Comment, PI, leaf}
use Rattle.rox_grammar.specs.Tree.{none_if_empty}
use Rattle.rox_grammar.specs.Names.{slice, spaces_end}
use Rattle.rox_grammar.specs.Entities.{no_entities}
use Rattle.rox_grammar.specs.References.{entity_reference}
use Rattle.rox_grammar.specs.Content.{literals, line_ends, last_part, then_entity, IsMisc, comment, instruction, IsElement, empty, nest, Content, ends, run, cdata, misc, node}
use Rattle.rox_grammar.proofs.RunParts.{Parts}
use Rattle.rox_exchange.specs.Local.{Fronts}
use Rattle.rox_exchange.proofs.Cuts.{slice_cut, comment_cut, run_cut}
use Rattle.rox_exchange.proofs.CutsLexical.{pi_cut, cdata_cut, end_cut}
use Rattle.rox_exchange.proofs.CutsTags.{part_cut, tag_cut}
use Rattle.rox_exchange.proofs.Order.{comment_le, cdata_le, pi_le, end_lt, content_le}
use Rattle.rox_theory.proofs.Productions.{comment_parts, pi_parts, cdata_parts, char_data_parts}
use Rattle.rox_theory.proofs.Basics.{run_end_le}

module _ (src to : List ℕ) (m : ℕ) (f : Fronts src to m) where
  -- The parts of a run.
  pub parts_cut : (main : Bool) (start stop i b c : ℕ) (items : Forest Item) → start ≤ stop → stop ≤ m → Parts main no_entities src start stop i b c items → Parts main no_entities to start stop i b c items
  parts_cut main start stop i b c items le fits (last_part _ _ ss is) =
      rw (slice_cut src to m f.same start stop le fits) (last_part i b ss (part_cut src to m f main stop i ss fits is))
  parts_cut main start stop i b c items le fits (then_entity _ p j _ d _ _ ss one more is (entity_reference n reference name) opens rest) = absurd opens

  -- A comment or a processing instruction.
  pub misc_cut : (i j : ℕ) (item : Item) → j ≤ m → IsMisc src i j item → IsMisc to i j item
  misc_cut i j item fits (comment _ e _ is) =
      let next = (comment_parts is).next in
      subst (λ (bs : List ℕ). IsMisc to i j (Comment i j bs)) (sym (slice_cut src to m f.same (i + 4) e (comment_le src i e j is) (omega arith)))
      (comment i e j (comment_cut src to m f.same i e j fits is))
  misc_cut i j item fits (instruction _ n e _ is) =
      let next = (pi_parts is).next in
      let le = pi_le src i n e j is in
      let le1 = le.1 in
      let le2 = run_end_le is_space src n in
      let p = pi_cut src to m f i n e j fits is in
      subst (λ (bs : List ℕ). IsMisc to i j (PI i j bs (none_if_empty (slice src (spaces_end src n) e)))) (sym (slice_cut src to m f.same (i + 2) n le.0 (omega arith)))
      (subst (λ (bs : List ℕ). IsMisc to i j (PI i j (slice to (i + 2) n) (none_if_empty bs))) (sym (slice_cut src to m f.same (spaces_end src n) e le1 (omega arith) ∙ ap (λ (x : ℕ). slice to x e) p.1))
      (instruction i n e j p.0))

  mutual
    -- Content, after which something comes.
    pub content_cut : (i j b c : ℕ) (items : Forest Item) → j < m → Content true no_entities src i j b c items → Content true no_entities to i j b c items
    content_cut i j b c items fits (ends _ _) = ends i b
    content_cut i j b c items fits (run _ k _ _ d _ one more is parts rest) =
        let some = (char_data_parts is).some in
        let le = content_le src true no_entities k j d c more rest in
        run i k j b d c one more (run_cut src to m f.same i k (omega arith) is) (parts_cut true i k i b d one (omega arith) (omega arith) parts) (content_cut k j d c more fits rest)
    content_cut i j b c items fits (cdata _ e k _ _ _ more is rest) =
        let next = (cdata_parts is).next in
        let le = cdata_le src i e k is in
        let le' = content_le src true no_entities k j b c more rest in
        subst (λ (bs : List ℕ). Content true no_entities to i j b c (join (leaf (Text i k (line_ends (literals bs)) (not (list_any (λ b. b == 13) bs)))) more))
        (sym (slice_cut src to m f.same (i + 9) e le (omega arith)))
        (cdata i e k j b c more (cdata_cut src to m f i e k (omega arith) is) (content_cut k j b c more fits rest))
    content_cut i j b c items fits (misc _ k _ _ _ item more is rest) =
        let le = content_le src true no_entities k j b c more rest in
        misc i k j b c item more (misc_cut i k item (omega arith) is) (content_cut k j b c more fits rest)
    content_cut i j b c items fits (node _ k _ _ d _ one more is rest) =
        let le = content_le src true no_entities k j d c more rest in
        node i k j b d c one more (element_cut i k b d one (omega arith) is) (content_cut k j d c more fits rest)

    -- An element.
    pub element_cut : (i j b c : ℕ) (one : Forest Item) → j ≤ m → IsElement true no_entities src i j b c one → IsElement true no_entities to i j b c one
    element_cut i j b c one fits (empty _ _ _ _ t is) = empty i j b c t (tag_cut src to m f true no_entities i j b c true t fits is)
    element_cut i j b c one fits (nest _ k n p _ _ d _ t kids is inner end) =
        let le = content_le src true no_entities k n d c kids inner in
        let lt = end_lt src n t.name p j end in
        nest i k n p j b d c t kids (tag_cut src to m f true no_entities i k b d false t (omega arith) is) (content_cut k n d c kids (omega arith) inner) (end_cut src to m f n t.name p j fits end)
