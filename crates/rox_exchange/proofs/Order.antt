-- Each construct ends after its start.
use Rattle.std.proofs.Common.{ℕ, ◌+◌, ◌<◌, ◌≤◌, Bool, true, false, List, take, arith}
use Rattle.rox_grammar.specs.Content.{attribute, Inclusion, IsAttribute, Attributes, no_more, one_more, TagEnds, IsTag, IsMisc, IsElement, empty, nest, Content, ends, run, cdata, misc, node, start_tag}
use Rattle.rox_grammar.specs.Chars.{is_char, is_space, is_name_char, is_part_char}
use Rattle.rox_grammar.specs.Forest.{Forest}
use Rattle.rox_grammar.specs.Written.{Name, Attribute, Tag, Item}
use Rattle.rox_grammar.specs.Names.{spaces_end, IsName, IsNCName, IsQName}
use Rattle.rox_grammar.specs.References.{IsReference, IsCharacter}
use Rattle.rox_grammar.specs.Constructs.{AreChars, IsComment, IsPI, IsCData, IsEq, IsAttValue, IsEnd}
use Rattle.rox_theory.proofs.Productions.{ncname_parts, reference_parts, comment_parts, pi_parts, cdata_parts, end_parts, char_data_parts}
use Rattle.rox_theory.proofs.Basics.{run_end_le}

module _ (src : List ℕ) where
  pub chars_le : (i j : ℕ) → AreChars src i j → i ≤ j
  chars_le i j is = omega (arith, run_end_le is_char (take j src) i)

  pub name_le : (i j : ℕ) → IsName src i j → i ≤ j
  name_le i j is = let l = is.longest in omega (arith, run_end_le is_name_char src i)

  pub ncname_le : (i j : ℕ) → IsNCName src i j → i ≤ j
  ncname_le i j is = let l = (ncname_parts is).longest in omega (arith, run_end_le is_part_char src i)

  pub qname_le : (i : ℕ) (name : Name) (j : ℕ) → IsQName src i name j → i ≤ j
  qname_le i name j d = grind (arith, ncname_le)

  pub eq_lt : (i j : ℕ) → IsEq src i j → i < j
  eq_lt i j is = let l = is.1 in omega (arith, run_end_le is_space src i, run_end_le is_space src (spaces_end src i + 1))

  pub literal_lt : (i e j : ℕ) → IsAttValue src i e j → i < e
  literal_lt i e j is = omega (arith, chars_le (i + 1) e is.1)

  pub comment_le : (i e j : ℕ) → IsComment src i e j → i + 4 ≤ e
  comment_le i e j is = chars_le (i + 4) e (comment_parts is).chars

  pub cdata_le : (i e j : ℕ) → IsCData src i e j → i + 9 ≤ e
  cdata_le i e j is = chars_le (i + 9) e (cdata_parts is).chars

  pub pi_le : (i n e j : ℕ) → IsPI src i n e j → (i + 2 ≤ n) × (spaces_end src n ≤ e)
  pi_le i n e j is = (name_le (i + 2) n (pi_parts is).target, chars_le (spaces_end src n) e (pi_parts is).chars)

  pub reference_lt : (i n j : ℕ) → IsReference src i n j → i < n
  reference_lt i n j is = omega (arith, name_le (i + 1) n (reference_parts is).name)

  pub character_lt : (i c j : ℕ) → IsCharacter src i c j → i < j
  character_lt i c j d = grind arith

  pub attribute_lt : (main : Bool) (Includes : Inclusion) (i j b c : ℕ) (a : Attribute) → IsAttribute main Includes src i j b c a → i < j
  attribute_lt main Includes i j b c a (attribute n v e name value (is_name, eq, literal) read) =
      omega (arith, qname_le i name n is_name, eq_lt n v eq, literal_lt v e j literal)

  pub attributes_le : (main : Bool) (Includes : Inclusion) (i j b c : ℕ) (as' : List Attribute) → Attributes main Includes src i j b c as' → i ≤ j
  attributes_le main Includes i j b c as' (no_more _ _) = omega arith
  attributes_le main Includes i j b c as' (one_more _ k _ _ d _ a rest spaces is more) = grind (arith, attributes_le main Includes k j d c rest more, attribute_lt)

  pub tag_ends_lt : (i : ℕ) (is_empty : Bool) (j : ℕ) → TagEnds src i is_empty j → spaces_end src i < j
  tag_ends_lt i is_empty j d = grind arith

  pub tag_lt : (main : Bool) (Includes : Inclusion) (i j b c : ℕ) (is_empty : Bool) (t : Tag) → IsTag main Includes src i j b c is_empty t → i < j
  tag_lt main Includes i j b c is_empty _ (start_tag n last name written begin is_name list end) = grind (arith, qname_le, attributes_le, tag_ends_lt, run_end_le)

  pub end_lt : (i : ℕ) (name : Name) (n j : ℕ) → IsEnd src i name n j → i < j
  end_lt i name n j is = let next = (end_parts is).next in omega (arith, qname_le (i + 2) name n (end_parts is).is_name, run_end_le is_space src n)

  pub misc_lt : (i j : ℕ) (item : Item) → IsMisc src i j item → i < j
  misc_lt i j item d = grind (arith, run_end_le)

  mutual
    pub content_le : (main : Bool) (Includes : Inclusion) (i j b c : ℕ) (items : Forest Item) → Content main Includes src i j b c items → i ≤ j
    content_le main Includes i j b c items (ends _ _) = omega arith
    content_le main Includes i j b c items (run _ k _ _ d _ here more is parts rest) = let some = (char_data_parts is).some in omega (arith, content_le main Includes k j d c more rest)
    content_le main Includes i j b c items (cdata _ e k _ _ _ more is rest) = let next = (cdata_parts is).next in omega (arith, cdata_le i e k is, content_le main Includes k j b c more rest)
    content_le main Includes i j b c items (misc _ k _ _ _ item more is rest) = omega (arith, misc_lt i k item is, content_le main Includes k j b c more rest)
    content_le main Includes i j b c items (node _ k _ _ d _ one more is rest) = omega (arith, element_lt main Includes i k b d one is, content_le main Includes k j d c more rest)

    pub element_lt : (main : Bool) (Includes : Inclusion) (i j b c : ℕ) (one : Forest Item) → IsElement main Includes src i j b c one → i < j
    element_lt main Includes i j b c one (empty _ _ _ _ t is) = tag_lt main Includes i j b c true t is
    element_lt main Includes i j b c one (nest _ k n p _ _ d _ t kids is inner end) =
        omega (arith, tag_lt main Includes i k b d false t is, content_le main Includes k n d c kids inner, end_lt n t.name p j end)
