-- The faults that may be reported of a text that may have a document type declaration, and their sources: the text itself, a
-- replacement text, or a resolver's answer. With each fault are the requests that were made until then.
use Prim.Native.Char.{code}
use Rattle.std.specs.Prelude.{◌≡◌, ◌≢◌, ◌⊎◌, ℕ, ◌+◌, ◌-◌, ◌<◌, ◌≤◌, ◌==◌, Bool, true, false, List, [], ◌∷◌, ◌++◌, Option, Some, length, IsUtf8}
use Rattle.rox_grammar.specs.declared.fault.Due.TheVariants as due
use Rattle.rox_grammar.specs.declared.fault.Fault.{Fault}
use Rattle.rox_grammar.specs.declared.fault.Fault.TheVariants as fault
use Rattle.rox_grammar.specs.Chars.{is_space}
use Rattle.rox_grammar.specs.Search.{byte_from}
use Rattle.rox_grammar.specs.Forest.{Forest, join}
use Rattle.rox_grammar.specs.Written.{Item}
use Rattle.rox_grammar.specs.Names.{byte, spaces_end}
use Rattle.rox_grammar.specs.Constructs.{text_at}
use Rattle.rox_grammar.specs.Content.{Inclusion}
use Rattle.rox_grammar.specs.TextStart.{after_bom}
use Rattle.rox_grammar.specs.Entities.{Replacement, Entity, most_deep, no_entities, Includes}
use Rattle.rox_grammar.specs.Doctype.{Request, Asked, IsSpace, GivesReplacement, IsDefinition, BeginsEntity, AsksAt, IsPassed, SubsetTo}
use Rattle.rox_grammar.specs.OpenElements.{root, FitsLimits}
use Rattle.rox_grammar.specs.Due.{a_byte, one_of, IsMissing, Misses, DueInXmlDecl, DueInEntity, DueInDoctype}
use Rattle.rox_grammar.specs.ContentPoints.{is_main}
use Rattle.rox_grammar.specs.Document.{PrologTo, Prolog}
use Rattle.rox_grammar.specs.Faults.{InMiscs, FaultFrom}

-- A fault in the subset of the document type declaration that starts at `i`, with the requests that were made until then, and its
-- source. The subset is read up to `p`, with these nodes and these requests before it.
module _ (limit : ℕ) (src : List ℕ) (i p : ℕ) (items : Forest Item) (asked : List Asked) where
  pub data InSubset : List Asked → (source : List ℕ) → Fault → Type 0 where
    in_miscs : (f : Fault) → InMiscs limit src p items f → InSubset asked src f
    -- A skipped declaration has no `>`.
    not_passed : IsPassed src p → length src ≤ byte_from (λ c. c == code ">") src p → InSubset asked src (fault.UnknownToken i)
    in_entity : (f : Fault) → text_at "<!ENTITY" src p ≡ true → Misses src (DueInEntity src p) f → InSubset asked src f
    -- No `>` is after the definition, whose requests are `first`.
    entity_open : (n m d e : ℕ) (parameter : Bool) (first : List Asked) (text : Option Replacement) (f : Fault) → BeginsEntity src p parameter n m d
        → IsDefinition src parameter d e first text → IsMissing src (spaces_end src e) (a_byte (code ">")) f → InSubset (asked ++ first) src f
    -- The source ends right after the definition of an external entity, as `entity_open` says too, or where the name of its
    -- notation is required.
    entity_cut : (j : ℕ) (request : Request) (answer : Option (List ℕ)) (text : Option Replacement) → AsksAt src p request j → length src ≤ j
        → GivesReplacement answer text → InSubset (asked ++ record { request = request; answer = answer } ∷ []) src fault.UnexpectedEndOfStream
    -- The fault is in the declaration of an answer (XML 4.3.1 [77]).
    in_answer : (j : ℕ) (request : Request) (answer : List ℕ) (f : Fault) → AsksAt src p request j → IsUtf8 answer → text_at "<?xml " answer (after_bom answer) ≡ true
        → Misses answer (DueInXmlDecl answer (after_bom answer)) f → InSubset (asked ++ record { request = request; answer = Some answer } ∷ []) answer f
    end_lacks : (f : Fault) → byte src p ≡ code "]" → IsMissing src (spaces_end src (p + 1)) (one_of due.End) f → InSubset asked src f
    -- The source ends right after `[` or an item.
    no_root : p ≡ length src → is_space (byte src (p - 1)) ≡ false → InSubset asked src fault.NoRootNode
    -- Neither an item of a subset nor its end is at `p`, or the source ends there after white space.
    unknown : is_space (byte src p) ≡ false → text_at "<!ENTITY" src p ≡ false → text_at "<!--" src p ≡ false → text_at "<?" src p ≡ false → (IsPassed src p → ⊥)
        → byte src p ≢ code "]" → (p < length src) ⊎ (is_space (byte src (p - 1)) ≡ true) → InSubset asked src (fault.UnknownToken p)

-- A fault in the document type declaration that starts at `i` (XML 2.8 [28]), with the requests that were made until then, and
-- its source. These nodes are before the declaration.
pub data InDoctype (limit : ℕ) (src : List ℕ) (i : ℕ) (before : Forest Item) : List Asked → List ℕ → Fault → Type 0 where
  head_lacks : (f : Fault) → Misses src (DueInDoctype src i) f → InDoctype limit src i before [] src f
  -- The source ends where the name of the declaration is required.
  no_name : (n : ℕ) → IsSpace src (i + 9) n → length src ≤ n → InDoctype limit src i before [] src fault.UnexpectedEndOfStream
  in_subset : (p : ℕ) (items : Forest Item) (asked later : List Asked) (source : List ℕ) (f : Fault) → SubsetTo src i p items asked
      → FitsLimits limit root (join before items) → InSubset limit src i p (join before items) asked later source f → InDoctype limit src i before later source f

-- The meaning of a reference where `k` replacement texts are open.
abbrev pub opens_at : List Entity → ℕ → Inclusion
opens_at es k = Includes es (most_deep - k) (is_main k)

-- A fault of this text, after these requests, in this source. `allow` says whether a document type declaration is allowed.
pub data RefusalOf (limit : ℕ) (allow : Bool) (text : List ℕ) : List Asked → List ℕ → Fault → Type 0 where
  in_declaration : (f : Fault) → text_at "<?xml " text (after_bom text) ≡ true → Misses text (DueInXmlDecl text (after_bom text)) f → RefusalOf limit allow text [] text f
  -- No document type declaration is before the fault.
  without : (f : Fault) → FaultFrom (λ k. no_entities) [] limit text false (PrologTo text) text f → RefusalOf limit allow text [] text f
  not_allowed : (i : ℕ) (before : Forest Item) → allow ≡ false → PrologTo text i before → FitsLimits limit root before → text_at "<!DOCTYPE" text i ≡ true → RefusalOf limit allow text [] text fault.DtdDetected
  in_doctype : (i : ℕ) (before : Forest Item) (asked : List Asked) (source : List ℕ) (f : Fault) → allow ≡ true → PrologTo text i before
      → FitsLimits limit root before → text_at "<!DOCTYPE" text i ≡ true → InDoctype limit text i before asked source f → RefusalOf limit allow text asked source f
  behind : (asked : List Asked) (es : List Entity) (source : List ℕ) (f : Fault) → allow ≡ true
      → FaultFrom (opens_at es) es limit text true (λ p items. Prolog text p true items asked es) source f → RefusalOf limit allow text asked source f

-- A fault of this text, for which no document type declaration is allowed. So no entity is declared, and the source is the text.
abbrev pub FaultOf : (limit : ℕ) → List ℕ → Fault → Type 0
FaultOf limit text f = RefusalOf limit false text [] text f
