-- The place of a fault of content lies in its source.
use Rattle.std.proofs.Common.{◌≡◌, ℕ, ◌+◌, ◌<◌, ◌≤◌, ◌==◌, Bool, true, List, [], ◌∷◌, ◌++◌, length, drop, sym, ap, subst, inl, inr, arith, length-append, length-drop, IsUtf8, IsCharBoundary}
use Rattle.std.specs.Char.{encode_utf8, len_utf8}
use Rattle.rox_grammar.specs.declared.fault.Word.{Word}
use Rattle.rox_grammar.specs.declared.fault.Expected.{Expected}
use Rattle.rox_grammar.specs.declared.fault.Word.TheVariants as word
use Rattle.rox_grammar.specs.declared.fault.Due.TheVariants as kinds
use Rattle.rox_grammar.specs.declared.fault.Fault.{Fault}
use Rattle.rox_grammar.specs.Chars.{is_space, is_name_char}
use Rattle.rox_grammar.specs.Runs.{StandsAt}
use Rattle.rox_grammar.specs.FixedTexts.{word_text, at}
use Rattle.rox_grammar.specs.ExpectedTexts.{expected_text}
use Rattle.rox_grammar.specs.Search.{mark_from, stands}
use Rattle.rox_grammar.specs.Written.{Name, Attribute, NamespaceDecl, plain_attributes_of}
use Rattle.rox_grammar.specs.Names.{byte, spaces_end, IsName, IsQName}
use Rattle.rox_grammar.specs.Constructs.{IsPair, MayBePair, DeclarationTo}
use Rattle.rox_grammar.specs.Constructs as constructs
use Rattle.rox_grammar.specs.References.{IsReference, IsCharacter}
use Rattle.rox_grammar.specs.Content.{Inclusion, Attributes}
use Rattle.rox_grammar.specs.Content as content
use Rattle.rox_grammar.specs.Entities.{Entity}
use Rattle.rox_grammar.specs.State.{Open, State}
use Rattle.rox_grammar.specs.Due.{DueItem, a_name, a_qname, a_byte, a_text, one_of, chars_to, IsMissing, DueInText, DueInPI, DueInEnd, DueInPair, DueInXmlDecl}
use Rattle.rox_grammar.specs.Due as due
use Rattle.rox_grammar.specs.Faults.{InMisc, InReferences, InRun, InValue, IllDeclared, IllNamed, cut_off, InTag, InEnd, Stands}
use Rattle.rox_grammar.specs.Faults as rows
use Rattle.rox_theory.proofs.Productions.{end_parts, reference_parts}
use Rattle.rox_theory.proofs.Basics.{within}
use Rattle.rox_theory.proofs.Constructions.{instruction_bytes, end_bytes}
use Rattle.rox_theory.proofs.DeclarationLemmas.{stands_reads, stands_fits}
use Rattle.rox_theory.proofs.LiteralLemmas.{from_bound, literal_closes}
use Rattle.rox_theory.proofs.AttributeParts.{parts_of}
use Rattle.rox_faults.proofs.NameSpans.{run_cut, cut_behind}
use Rattle.rox_faults.proofs.PartFronts.{to_entity}
use Rattle.rox_theory.proofs.PartLemmas.{encode_some}
use Rattle.rox_grammar.proofs.AtPlace.{before_mark_le}
use Rattle.rox_theory.proofs.Places.{begins_within}
use Rattle.rox_laws.proofs.Counted.{IsPlaced}

-- ---- what lies in a source

first_le : (w : Expected) (src : List ℕ) (i : ℕ) → i ≤ length src → mark_from (expected_text w) src i ≤ length src
unfolding mark_from
first_le w src i le = omega (arith, before_mark_le (expected_text w) (drop i src), length-drop i src)

char_within : (c : ℕ) (src : List ℕ) (i : ℕ) → StandsAt c src i → i < length src
char_within c src i is = omega (arith, ap length is, length-append (encode_utf8 c) (drop (i + len_utf8 c) src), encode_some c, length-drop i src)

qname_within : (src : List ℕ) (i : ℕ) (name : Name) (j : ℕ) → IsQName src i name j → i < length src
qname_within src i name j h = grind (arith, begins_within)

character_within : (src : List ℕ) (i c j : ℕ) → IsCharacter src i c j → i < length src
character_within src i c j h = grind (arith, within)

reference_inside : (src : List ℕ) (i n j : ℕ) → IsReference src i n j → j ≤ length src
reference_inside src i n j is = grind (arith, within)

-- ---- what is due

-- what may be lacking at any place has to lie in the source
abbrev Fits : List ℕ → DueItem → ℕ → Type 0
Fits src a_name p = p ≤ length src
Fits src a_qname p = p ≤ length src
Fits src (a_text w) p = p ≤ length src
Fits src (a_byte b) p = Unit {0}
Fits src (one_of kind) p = Unit {0}
Fits src (chars_to e) p = Unit {0}

lacks_placed : (src : List ℕ) (p : ℕ) (t : DueItem) (f : Fault) → Fits src t p → IsMissing src p t f → IsPlaced src f
lacks_placed src p t f fits (due.IsMissing.no_name none) = fits
lacks_placed src p t f fits (due.IsMissing.no_qname none) = fits
lacks_placed src p t f fits (due.IsMissing.other_byte b there other) = omega arith
lacks_placed src p t f fits (due.IsMissing.other_text w none) = fits
lacks_placed src p t f fits (due.IsMissing.none_of kind there none) = omega arith
lacks_placed src p t f fits (due.IsMissing.no_char e q c ends before is bad) = let there = char_within c src q is in omega arith
lacks_placed src p t f fits (due.IsMissing.no_external_id (inl is) no_system no_public) = let there = within src p (λ z. omega arith) in omega arith
lacks_placed src p t f fits (due.IsMissing.no_external_id (inr is) no_system no_public) = let there = within src p (λ z. omega arith) in omega arith
lacks_placed src p t f fits (due.IsMissing.no_byte _ end) = tt
lacks_placed src p t f fits (due.IsMissing.none_left _ end) = tt

module _ (src : List ℕ) (utf8 : IsUtf8 src) where
  -- in a text that begins within the source
  text_fits : (w : Expected) (s p : ℕ) (t : DueItem) → s ≤ length src → DueInText w src s p t → Fits src t p
  text_fits w s p t le due.DueInText.its_chars = tt
  text_fits w s p t le (due.DueInText.its_end chars) = first_le w src s le

  -- behind the name of an instruction, and the white space there
  spaces_inside : (i n : ℕ) → at word.PIStart src i ≡ true → IsName src (i + 2) n → spaces_end src n ≤ length src
  spaces_inside i n opens is =
      let starts = subst (IsCharBoundary src) (omega arith) (cut_behind src (i + 1) 63 utf8 (instruction_bytes src i opens).2 (omega arith) (omega arith)) in
      let ends = subst (IsCharBoundary src) (sym is.longest) (run_cut is_name_char src (i + 2) utf8 starts) in
      (run_cut is_space src n utf8 ends).0

  instruction_fits : (i p : ℕ) (t : DueItem) → at word.PIStart src i ≡ true → DueInPI src i p t → Fits src t p
  instruction_fits i p t opens k = grind (arith, stands_fits, text_fits, spaces_inside)

  end_fits : (i p : ℕ) (t : DueItem) → DueInEnd src i p t → Fits src t p
  end_fits i p t h = grind (arith, stands_fits)

  pair_fits : (i p : ℕ) (t : DueItem) → i ≤ length src → DueInPair src i p t → Fits src t p
  pair_fits i p t le k = grind arith

  -- ---- the declaration of an answer

  pair_cut : (i n v e j : ℕ) (name : Name) → IsPair src i name n v e j → IsCharBoundary src j
  pair_cut i n v e j name (is_name, eq, literal) =
      subst (IsCharBoundary src) (sym literal.0.3) (cut_behind src e (byte src v) utf8 (literal_closes src v e j literal) (omega arith) (omega arith))

  may_cut : (w : Word) (i k : ℕ) → IsCharBoundary src i → MayBePair (word_text w) src i k → IsCharBoundary src k
  may_cut w i k cut p = grind (arith, run_cut, pair_cut)

  -- behind `<?xml` and white space
  version_cut : (i : ℕ) → at word.XmlDeclStart src i ≡ true → IsCharBoundary src (spaces_end src (i + 5))
  version_cut i opens =
      let letter : byte src (i + 4) ≡ 108 = stands_reads (word_text word.XmlDeclStart) src i 4 opens (omega arith) in
      run_cut is_space src (i + 5) utf8 (subst (IsCharBoundary src) (omega arith) (cut_behind src (i + 4) 108 utf8 letter (omega arith) (omega arith)))

  -- where a pair begins
  begins_inside : (i : ℕ) (text : List ℕ) (j : ℕ) → DeclarationTo src i text j → stands text src j ≡ true → j ≤ length src
  begins_inside i text j h is = grind (arith, stands_fits)

  pub declaration_fits : (i p : ℕ) (t : DueItem) → at word.XmlDeclStart src i ≡ true → DueInXmlDecl src i p t → Fits src t p
  declaration_fits i p t opens due.DueInXmlDecl.its_version = (version_cut i opens).0
  declaration_fits i p t opens (due.DueInXmlDecl.in_pair text j _ _ to here is) = pair_fits j p t (begins_inside i text j to here) is
  declaration_fits i p t opens (due.DueInXmlDecl.behind_pair text j pair to here other below no_end) = tt
  declaration_fits i p t opens (due.DueInXmlDecl.behind_standalone j pair to here) = grind (arith, run_cut, pair_cut)
  declaration_fits i p t opens (due.DueInXmlDecl.its_end _ (constructs.DeclarationTo.standalone v _ (constructs.DeclarationTo.encoding _ _ (constructs.DeclarationTo.version _) first_pair) second) none) =
      (may_cut word.Encoding v p (may_cut word.Version (spaces_end src (i + 5)) v (version_cut i opens) first_pair) second).0

  pub declaration_placed : (i p : ℕ) (t : DueItem) (f : Fault) → at word.XmlDeclStart src i ≡ true → DueInXmlDecl src i p t → IsMissing src p t f → IsPlaced src f
  declaration_placed i p t f opens is lacks = lacks_placed src p t f (declaration_fits i p t opens is) lacks

  -- ---- the rows of content

  misc_placed : (i : ℕ) (f : Fault) → InMisc src i f → IsPlaced src f
  misc_placed i f h = grind (arith, lacks_placed, text_fits, stands_fits, instruction_fits)

  references_placed : (es : List Entity) (p : ℕ) (f : Fault) → InReferences es src p f → IsPlaced src f
  references_placed es p f h = grind (arith, within, reference_parts)

  run_placed : (es : List Entity) (k : ℕ) (O : Inclusion) (i b : ℕ) (f : Fault) → i < length src → InRun es k O src i b f → IsPlaced src f
  run_placed es k O i b f there (rows.InRun.no_char _ lacks) = lacks_placed src i _ f tt lacks
  run_placed es k O i b f there (rows.InRun.end_mark e ends chars has) = let le = from_bound (λ c. c == 60) src i (omega arith) in rw ends le
  run_placed es k O i b f there (rows.InRun.in_reference e p _ run from before ill) = references_placed es p f ill
  run_placed es k O i b f there (rows.InRun.too_many run spent) =
      let x = to_entity es src run.reference run.after run.replacement run.refers in reference_inside src run.reference x.0 run.after x.1

  pub value_placed : (es : List Entity) (k : ℕ) (O : Inclusion) (i stop b : ℕ) (f : Fault) → InValue es k O src i stop b f → IsPlaced src f
  value_placed es k O i stop b f (rows.InValue.in_reference p _ from before ill) = references_placed es p f ill
  value_placed es k O i stop b f (rows.InValue.too_many p j c front t to before refers spent) = let x = to_entity es src p j t refers in reference_inside src p x.0 j x.1
  value_placed es k O i stop b f (rows.InValue.less p inner from before (inl is)) = let there = within src p (λ z. omega arith) in omega arith
  value_placed es k O i stop b f (rows.InValue.less p inner from before (inr (j, is))) = let there = character_within src p 60 j is in omega arith
  value_placed es k O i stop b f (rows.InValue.no_char q c inner from before is bad) = let there = char_within c src q is in omega arith

  declared_placed : (before : List NamespaceDecl) (a : Attribute) (f : Fault) → a.start ≤ length src → IllDeclared src before a f → IsPlaced src f
  declared_placed before a f le k = grind arith

  -- each of these attributes begins in the source
  abbrev StartsIn : List Attribute → Type 0
  StartsIn [] = Unit {0}
  StartsIn (a ∷ as') = (a.start ≤ length src) × StartsIn as'

  written_start : (main : Bool) (O : Inclusion) (i j b c : ℕ) (as' : List Attribute) → Attributes main O src i j b c as' → StartsIn as'
  written_start main O i j b c as' (content.Attributes.no_more _ _) = tt
  written_start main O i j b c as' (content.Attributes.one_more _ m _ _ d _ _ more space (content.IsAttribute.attribute n v e name value is read) rest) = grind (arith, qname_within src (spaces_end src i) name n is.0, written_start main O m j d c more rest)

  attributes_start : (as' : List Attribute) → StartsIn as' → StartsIn (plain_attributes_of as')
  attributes_start [] starts = tt
  attributes_start (a ∷ as') starts = grind (arith, attributes_start as' starts.1)

  one_starts : (before : List Attribute) (a : Attribute) (after : List Attribute) → StartsIn (before ++ a ∷ after) → a.start ≤ length src
  one_starts [] a after starts = starts.0
  one_starts (x ∷ before) a after starts = one_starts before a after starts.1

  named_placed : (i : ℕ) (scope : List NamespaceDecl) (n : Name) (as' : List Attribute) (f : Fault) → i + 1 ≤ length src → StartsIn as' → IllNamed src i scope n as' f → IsPlaced src f
  named_placed i scope n as' f le starts p = grind (arith, one_starts)

  cut_placed : (main : Bool) (stack : Open) → IsPlaced src (cut_off main stack)
  cut_placed main stack = grind arith

  tag_placed : (main : Bool) (O : Inclusion) (s : State) (b : ℕ) (f : Fault) → s.at < length src → InTag main O src s b f → IsPlaced src f
  tag_placed main O s b f le (rows.InTag.no_name _ lacks) = lacks_placed src (s.at + 1) a_qname f (omega arith) lacks
  tag_placed main O s b f le (rows.InTag.xmlns_prefix name n is xmlns) = omega arith
  tag_placed main O s b f le (rows.InTag.in_rest p c name as' _ to (rows.InTagRest.cut past)) = cut_placed main s.stack
  tag_placed main O s b f le (rows.InTag.in_rest p c name as' _ to (rows.InTagRest.no_rest before end)) = tt
  tag_placed main O s b f le (rows.InTag.in_rest p c name as' _ to (rows.InTagRest.no_space _ before no_slash no_end lacks)) = lacks_placed src p (one_of kinds.Space) f tt lacks
  tag_placed main O s b f le (rows.InTag.in_rest p c name as' _ to (rows.InTagRest.not_closed _ slash lacks)) = lacks_placed src (spaces_end src p + 1) (a_byte 62) f tt lacks
  tag_placed main O s b f le (rows.InTag.in_rest p c name as' _ to (rows.InTagRest.in_pair _ space before no_slash no_end (q, t, is, lacks))) = lacks_placed src q t f (pair_fits (spaces_end src p) q t (omega arith) is) lacks
  tag_placed main O s b f le (rows.InTag.in_rest p c name as' _ to (rows.InTagRest.ill_declared d j a _ space is declares ill)) =
      let parts = parts_of main O src (spaces_end src p) j c d a is in
      let there = qname_within src (spaces_end src p) a.name a.name_end parts.is_name in
      declared_placed _ a f (omega (arith, parts.starts)) ill
  tag_placed main O s b f le (rows.InTag.in_rest p c name as' _ to (rows.InTagRest.too_many_pairs d j a space is declares may first over)) = tt
  tag_placed main O s b f le (rows.InTag.in_rest p c name as' _ to (rows.InTagRest.too_many_attributes j empty ends over)) = tt
  tag_placed main O s b f le (rows.InTag.in_rest p c name as' _ to (rows.InTagRest.ill_named j empty _ ends few ill)) = grind (arith, named_placed, attributes_start, written_start)

  end_placed : (open_around : ℕ) (s : State) (f : Fault) → InEnd open_around src s f → IsPlaced src f
  end_placed open_around s f (rows.InEnd.lacks _ (p, t, is, lacks)) = lacks_placed src p t f (end_fits s.at p t is) lacks
  end_placed open_around s f (rows.InEnd.other_name n j start name tag before up expected actual stack deep is other holds holds') = let two = (end_bytes src s.at (end_parts is).opens).0 in omega arith
  end_placed open_around s f (rows.InEnd.none_open n j name same is) = let two = (end_bytes src s.at (end_parts is).opens).0 in omega arith

  pub stands_placed : (limit : ℕ) (es : List Entity) (k open_around : ℕ) (O : Inclusion) (s : State) (b : ℕ) (f : Fault) → Stands limit es k open_around O src s b f → IsPlaced src f
  stands_placed limit es k open_around O s b f h = grind (arith, run_placed, lacks_placed, text_fits, stands_fits, misc_placed, tag_placed, end_placed, within)
