-- What the rows of the smallest productions say, by name, and the rows from that.
use Rattle.std.proofs.Common.{◌≡◌, ◌≢◌, ℕ, ◌+◌, ◌<◌, ◌≤◌, ◌^◌, ◌==◌, Bool, true, false, List, refl, sym, subst, arith}
use Rattle.rox_grammar.specs.Chars.{is_char, is_name_start, is_part_char}
use Rattle.rox_grammar.specs.Runs.{run_end, begins}
use Rattle.rox_grammar.specs.Search.{stands, byte_from}
use Rattle.rox_grammar.specs.Written.{Name}
use Rattle.rox_grammar.specs.Names.{byte, slice, spaces_end, IsName, IsNCName, ncname, IsQName}
use Rattle.rox_grammar.specs.Constructs.{text_at, first_text, AreChars, IsComment, comment, IsPI, pi, IsCData, cd_sect, IsEnd, end_tag}
use Rattle.rox_grammar.specs.References.{number, bytes_end, character, IsNumber, digits, IsReference, entity_ref}
use Rattle.rox_grammar.specs.Content.{IsCharacterData, character_data}

-- ---- a name without colon
pub record NCNameParts (src : List ℕ) (i j : ℕ) : Type 0 where
  pub starts : begins is_name_start src i ≡ true
  pub no_colon : byte src i ≢ 58
  pub longest : j ≡ run_end is_part_char src i

pub ncname_parts : {src : List ℕ} {i j : ℕ} → IsNCName src i j → NCNameParts src i j
ncname_parts (ncname starts no_colon) = record { starts = starts; no_colon = no_colon; longest = refl }

pub ncname_made : {src : List ℕ} {i j : ℕ} → NCNameParts src i j → IsNCName src i j
ncname_made {src} {i} p = subst (IsNCName src i) (sym p.longest) (ncname p.starts p.no_colon)

-- ---- a number
pub record NumberParts (base : ℕ) (is : ℕ → Bool) (src : List ℕ) (d c j : ℕ) : Type 0 where
  pub e : ℕ
  pub end : e ≡ bytes_end is src d
  pub some : d < e
  pub closes : byte src e ≡ 59
  pub small : number base (slice src d e) < 2 ^ 32
  pub is_character : c ≡ character (number base (slice src d e))
  pub allowed : is_char c ≡ true
  pub next : j ≡ e + 1

pub number_parts : {base : ℕ} {is : ℕ → Bool} {src : List ℕ} {d c j : ℕ} → IsNumber base is src d c j → NumberParts base is src d c j
number_parts (digits e end some closes small is_character allowed) = grind arith

pub number_made : {base : ℕ} {is : ℕ → Bool} {src : List ℕ} {d c j : ℕ} → NumberParts base is src d c j → IsNumber base is src d c j
number_made {base} {is} {src} {d} {c} p = subst (IsNumber base is src d c) (sym p.next) (digits p.e p.end p.some p.closes p.small p.is_character p.allowed)

-- ---- a reference
pub record ReferenceParts (src : List ℕ) (i n j : ℕ) : Type 0 where
  pub opens : byte src i ≡ 38
  pub name : IsName src (i + 1) n
  pub closes : byte src n ≡ 59
  pub next : j ≡ n + 1

pub reference_parts : {src : List ℕ} {i n j : ℕ} → IsReference src i n j → ReferenceParts src i n j
reference_parts (entity_ref opens name closes) = record { opens = opens; name = name; closes = closes; next = refl }

pub reference_made : {src : List ℕ} {i n j : ℕ} → ReferenceParts src i n j → IsReference src i n j
reference_made {src} {i} {n} p = subst (IsReference src i n) (sym p.next) (entity_ref p.opens p.name p.closes)

-- ---- a comment

-- Where a `-->` is, two dashes are.
pub two_dashes_begin : (src : List ℕ) (e : ℕ) → text_at "-->" src e ≡ true → text_at "--" src e ≡ true
unfolding stands
two_dashes_begin src e h = grind arith

pub record CommentParts (src : List ℕ) (i e j : ℕ) : Type 0 where
  pub opens : text_at "<!--" src i ≡ true
  pub dashes : e ≡ first_text "--" src (i + 4)
  pub chars : AreChars src (i + 4) e
  pub closes : text_at "-->" src e ≡ true
  pub next : j ≡ e + 3

pub comment_parts : {src : List ℕ} {i e j : ℕ} → IsComment src i e j → CommentParts src i e j
comment_parts (comment opens (dashes, chars, two) closes) = record { opens = opens; dashes = dashes; chars = chars; closes = closes; next = refl }

pub comment_made : {src : List ℕ} {i e j : ℕ} → CommentParts src i e j → IsComment src i e j
comment_made {src} {i} {e} p = subst (IsComment src i e) (sym p.next) (comment p.opens (p.dashes, p.chars, two_dashes_begin src e p.closes) p.closes)

-- ---- a processing instruction
pub record PIParts (src : List ℕ) (i n e j : ℕ) : Type 0 where
  pub opens : text_at "<?" src i ≡ true
  pub no_declaration : text_at "<?xml " src i ≡ false
  pub target : IsName src (i + 2) n
  pub end : e ≡ first_text "?>" src (spaces_end src n)
  pub chars : AreChars src (spaces_end src n) e
  pub closes : text_at "?>" src e ≡ true
  pub next : j ≡ e + 2

pub pi_parts : {src : List ℕ} {i n e j : ℕ} → IsPI src i n e j → PIParts src i n e j
pi_parts (pi opens no_declaration target (end, chars, closes)) = record { opens = opens; no_declaration = no_declaration; target = target; end = end; chars = chars; closes = closes; next = refl }

pub pi_made : {src : List ℕ} {i n e j : ℕ} → PIParts src i n e j → IsPI src i n e j
pi_made {src} {i} {n} {e} p = subst (IsPI src i n e) (sym p.next) (pi p.opens p.no_declaration p.target (p.end, p.chars, p.closes))

-- ---- a CDATA section
pub record CDataParts (src : List ℕ) (i e j : ℕ) : Type 0 where
  pub opens : text_at "<![CDATA[" src i ≡ true
  pub end : e ≡ first_text "]]>" src (i + 9)
  pub chars : AreChars src (i + 9) e
  pub closes : text_at "]]>" src e ≡ true
  pub next : j ≡ e + 3

pub cdata_parts : {src : List ℕ} {i e j : ℕ} → IsCData src i e j → CDataParts src i e j
cdata_parts (cd_sect opens (end, chars, closes)) = record { opens = opens; end = end; chars = chars; closes = closes; next = refl }

pub cdata_made : {src : List ℕ} {i e j : ℕ} → CDataParts src i e j → IsCData src i e j
cdata_made {src} {i} {e} p = subst (IsCData src i e) (sym p.next) (cd_sect p.opens (p.end, p.chars, p.closes))

-- ---- an end tag
pub record EndParts (src : List ℕ) (i : ℕ) (name : Name) (n j : ℕ) : Type 0 where
  pub opens : text_at "</" src i ≡ true
  pub is_name : IsQName src (i + 2) name n
  pub closes : byte src (spaces_end src n) ≡ 62
  pub next : j ≡ spaces_end src n + 1

pub end_parts : {src : List ℕ} {i : ℕ} {name : Name} {n j : ℕ} → IsEnd src i name n j → EndParts src i name n j
end_parts (end_tag opens is_name closes) = record { opens = opens; is_name = is_name; closes = closes; next = refl }

pub end_made : {src : List ℕ} {i : ℕ} {name : Name} {n j : ℕ} → EndParts src i name n j → IsEnd src i name n j
end_made {src} {i} {name} {n} p = subst (IsEnd src i name n) (sym p.next) (end_tag p.opens p.is_name p.closes)

-- ---- a run
pub record CharacterDataParts (src : List ℕ) (i j : ℕ) : Type 0 where
  pub some : i < j
  pub end : j ≡ byte_from (λ c. c == 60) src i
  pub chars : AreChars src i j
  pub unmarked : j ≤ first_text "]]>" src i

pub char_data_parts : {src : List ℕ} {i j : ℕ} → IsCharacterData src i j → CharacterDataParts src i j
char_data_parts (character_data some end chars unmarked) = record { some = some; end = end; chars = chars; unmarked = unmarked }
