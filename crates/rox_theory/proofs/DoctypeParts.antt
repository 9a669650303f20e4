-- The parts of a document type declaration, by name.
use Rattle.std.proofs.Common.{◌≡◌, ℕ, ◌+◌, ◌<◌, ◌≤◌, ◌⊎◌, ◌==◌, Bool, true, false, List, length, Option, refl, subst, inl, inr}
use Rattle.rox_grammar.specs.declared.fault.Word.TheVariants as word
use Rattle.rox_grammar.specs.FixedTexts.{at}
use Rattle.rox_grammar.specs.Search.{byte_from}
use Rattle.rox_grammar.specs.Forest.{Forest}
use Rattle.rox_grammar.specs.Written.{Item}
use Rattle.rox_grammar.specs.Names.{byte, slice, spaces_end, IsName}
use Rattle.rox_grammar.specs.Entities.{Replacement, Entity}
use Rattle.rox_grammar.specs.Doctype.{Request, Asked, IsSpace, IsExternalID, MayHaveNotation, IsDefinition, IsKind, BeginsEntity, entity_begins, AsksAt, external_entity, name_cut_off, entry, IsEntityDeclaration, entity_declaration, IsPassed, Subset, skipped_declaration, MayHaveExternalID, BeginsDoctype, doctype_begins}

-- How a declaration of an entity begins.
pub record BeginsParts (src : List ℕ) (i : ℕ) (parameter : Bool) (n m d : ℕ) : Type 0 where
  pub opens : at word.EntityStart src i ≡ true
  pub k : ℕ
  pub space_before : IsSpace src (i + 8) k
  pub is_kind : IsKind src k parameter n
  pub name : IsName src n m
  pub space_behind : IsSpace src m d

pub begins_parts : {src : List ℕ} {i : ℕ} {parameter : Bool} {n m d : ℕ} → BeginsEntity src i parameter n m d → BeginsParts src i parameter n m d
begins_parts (entity_begins k opens before kind name behind) = record { opens = opens; k = k; space_before = before; is_kind = kind; name = name; space_behind = behind }

-- Such a declaration.
pub record DeclarationParts (src : List ℕ) (i j : ℕ) (asked : List Asked) (declared : List Entity) : Type 0 where
  pub parameter : Bool
  pub n : ℕ
  pub m : ℕ
  pub d : ℕ
  pub begins : BeginsEntity src i parameter n m d
  pub head : BeginsParts src i parameter n m d
  pub e : ℕ
  pub text : Option Replacement
  pub definition : IsDefinition src parameter d e asked text
  pub declares : declared ≡ entry (slice src n m) text
  pub closes : byte src (spaces_end src e) ≡ 62
  pub next : j ≡ spaces_end src e + 1

pub declaration_parts : {src : List ℕ} {i j : ℕ} {asked : List Asked} {declared : List Entity} → IsEntityDeclaration src i j asked declared → DeclarationParts src i j asked declared
declaration_parts (entity_declaration parameter n m d e asked text begins definition closes) =
    record {
      parameter = parameter;
      n = n;
      m = m;
      d = d;
      begins = begins;
      head = begins_parts begins;
      e = e;
      text = text;
      definition = definition;
      declares = refl;
      closes = closes;
      next = refl;
    }

-- The text ends where the name of a notation should stand.
pub data CutsNotation (src : List ℕ) : (parameter : Bool) → ℕ → ℕ → Type 0 where
  cuts_name : (i j : ℕ) → at word.NData src (spaces_end src i) ≡ true → IsSpace src (spaces_end src i + 5) j → length src ≤ j → CutsNotation src false i j

pub notation_past : {src : List ℕ} {parameter : Bool} {i j : ℕ} → CutsNotation src parameter i j → length src ≤ j
notation_past (cuts_name _ _ opens space past) = past

-- What a declaration asks.
pub record AsksParts (src : List ℕ) (i : ℕ) (request : Request) (p : ℕ) : Type 0 where
  pub parameter : Bool
  pub n : ℕ
  pub m : ℕ
  pub d : ℕ
  pub e : ℕ
  pub begins : BeginsEntity src i parameter n m d
  pub external : IsExternalID src d request e
  pub notation : MayHaveNotation src parameter e p ⊎ CutsNotation src parameter e p

pub asks_parts : {src : List ℕ} {i : ℕ} {request : Request} {p : ℕ} → AsksAt src i request p → AsksParts src i request p
asks_parts (external_entity parameter n m d e begins id may) = record { parameter = parameter; n = n; m = m; d = d; e = e; begins = begins; external = id; notation = inl may }
asks_parts {p = p} (name_cut_off n m d e begins id opens space past) = record { parameter = false; n = n; m = m; d = d; e = e; begins = begins; external = id; notation = inr (cuts_name e p opens space past) }

pub asks_at : {src : List ℕ} {i : ℕ} {request : Request} {p : ℕ} (parameter : Bool) (n m d e : ℕ) → BeginsEntity src i parameter n m d → IsExternalID src d request e
    → MayHaveNotation src parameter e p ⊎ CutsNotation src parameter e p → AsksAt src i request p
asks_at parameter n m d e begins id (inl may) = external_entity parameter n m d e begins id may
asks_at parameter n m d e begins id (inr (cuts_name _ _ opens space past)) = name_cut_off n m d e begins id opens space past

-- A declaration that is passed over is from i up to j.
pub record IsPassedOver (src : List ℕ) (i j : ℕ) : Type 0 where
  pub opens : IsPassed src i
  pub closes : byte_from (λ c. c == 62) src i < length src
  pub next : j ≡ byte_from (λ c. c == 62) src i + 1

-- Where it ends.
abbrev pub passed_end : List ℕ → ℕ → ℕ
passed_end src i = byte_from (λ c. c == 62) src i + 1

pub passed_there : {src : List ℕ} {i : ℕ} → IsPassed src i → byte_from (λ c. c == 62) src i < length src → IsPassedOver src i (passed_end src i)
passed_there opens closes = record { opens = opens; closes = closes; next = refl }

-- It is in front of other items.
pub passed_first : (src : List ℕ) (i j k : ℕ) (items : Forest Item) (asked : List Asked) (es : List Entity) → IsPassedOver src i j → Subset src j k items asked es → Subset src i k items asked es
passed_first src i j k items asked es p rest = skipped_declaration i k items asked es p.opens p.closes (subst (λ (j : ℕ). Subset src j k items asked es) p.next rest)

-- How a document type declaration begins.
pub record DoctypeParts (src : List ℕ) (i s : ℕ) : Type 0 where
  pub opens : at word.DoctypeStart src i ≡ true
  pub n : ℕ
  pub space_before : IsSpace src (i + 9) n
  pub m : ℕ
  pub name : IsName src n m
  pub x : ℕ
  pub external : MayHaveExternalID src (spaces_end src m) x
  pub next : s ≡ spaces_end src x

pub doctype_parts : {src : List ℕ} {i s : ℕ} → BeginsDoctype src i s → DoctypeParts src i s
doctype_parts (doctype_begins n m x opens space name external) = record { opens = opens; n = n; space_before = space; m = m; name = name; x = x; external = external; next = refl }
