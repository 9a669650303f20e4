-- Each construct ends behind the place where it begins.
use Rattle.std.proofs.Common.{ℕ, ◌+◌, ◌<◌, ◌≤◌, Bool, true, List, arith}
use Rattle.rox_grammar.specs.declared.fault.Word.TheVariants as word
use Rattle.rox_grammar.specs.FixedTexts.{word_text}
use Rattle.rox_grammar.specs.Chars.{is_space}
use Rattle.rox_grammar.specs.Written.{Name, Attribute, Tag, Item}
use Rattle.rox_grammar.specs.Constructs.{IsCData, IsEnd}
use Rattle.rox_grammar.specs.Content.{IsAttribute, attribute, Attributes, no_more, one_more, TagEnds, IsTag, IsMisc, start_tag}
use Rattle.rox_grammar.specs.Entities.{no_entities}
use Rattle.rox_theory.proofs.Productions.{cdata_parts, end_parts}
use Rattle.rox_theory.proofs.Basics.{mark_from_le, run_end_le}
use Rattle.rox_theory.proofs.NameLemmas.{qname_le}

-- a comment or an instruction
pub misc_forward : (src : List ℕ) (i j : ℕ) (item : Item) → IsMisc src i j item → i < j
misc_forward src i j item h = grind (arith, run_end_le)

-- a section
pub cdata_forward : (src : List ℕ) (i e j : ℕ) → IsCData src i e j → i < j
cdata_forward src i e j is = omega (arith, (cdata_parts is).end, (cdata_parts is).next, mark_from_le (word_text word.CDataEnd) src (i + 9))

-- an end tag
pub end_forward : (src : List ℕ) (i : ℕ) (name : Name) (n j : ℕ) → IsEnd src i name n j → i < j
end_forward src i name n j is = omega (arith, (end_parts is).next, qname_le src (i + 2) name n (end_parts is).is_name, run_end_le is_space src n)

-- an attribute, and attributes in a row
pub attribute_forward : (src : List ℕ) (i j b c : ℕ) (a : Attribute) → IsAttribute true no_entities src i j b c a → i < j
attribute_forward src i j b c a (attribute n v e name value (is_name, eq, literal) read) = grind (arith, qname_le, run_end_le)

pub attributes_forward : (src : List ℕ) (i j b c : ℕ) (as' : List Attribute) → Attributes true no_entities src i j b c as' → i ≤ j
attributes_forward src i j b c as' (no_more _ _) = omega arith
attributes_forward src i j b c as' (one_more _ k _ _ d _ a rest some first more) = grind (arith, attributes_forward src k j d c rest more, attribute_forward)

pub ends_forward : (src : List ℕ) (i j : ℕ) (empty : Bool) → TagEnds src i empty j → i < j
ends_forward src i j empty h = grind (arith, run_end_le)

-- a start tag
pub tag_forward : (src : List ℕ) (i j b c : ℕ) (empty : Bool) (t : Tag) → IsTag true no_entities src i j b c empty t → i < j
tag_forward src i j b c empty _ (start_tag n last name written begin is_name list end) = grind (arith, qname_le, attributes_forward, ends_forward)
