-- What a caller is told of a text that is refused.
use Rattle.std.proofs.Common.{true, false, ◌≡◌, ◌≢◌, ℕ, Bool, List, [], ◌∷◌, ◌++◌, refl, ap, sym, subst, ◌∙◌, true≢false, arith}
use Rattle.std.specs.Prelude.{IsUtf8, Err, String, string_bytes}
use Rattle.std.specs.declared.alloc.Global.{Global}
use Rattle.rox_grammar.specs.declared.fault.Fault.{Fault}
use Rattle.rox_grammar.specs.FixedTexts.{at}
use Rattle.rox_grammar.specs.Forest.{Forest}
use Rattle.rox_grammar.specs.Tree.{Node}
use Rattle.rox_grammar.specs.Spans.{NamesText}
use Rattle.rox_grammar.specs.FaultsWithDoctype.{RefusalOf, FaultOf}
use Rattle.rox_grammar.specs.Doctype.{Request, Asked}
use Rattle.rox_grammar.specs.Document.{IsTreeOf, Permits, HasAsked, nothing, one_more, AsksNext}
use Rattle.rox_reading.specs.Refusals.{Refusal, here, there, refused}
use Rattle.rox_reading.specs.Doctype.{Reply, replies_of, AreTextReplies}
use Rattle.rox_reading.specs.Stopping.{with_refusal, Stops}
use Rattle.rox_reading.specs.WholeText.{reading}
use Rattle.rox_theory.proofs.Answering.{has_asked, asks_next}
use Rattle.rox_theory.proofs.DoctypeAgreement.{doctypes_agree}
use Rattle.rox_faults.proofs.FaultRefused.{refusal_here, refusal_there}
use Rattle.rox_faults.proofs.FaultSpans.{names_here, names_there}
use Rattle.rox_faults.proofs.FaultWhole.{reading_faults}
use Rattle.rox_theory.proofs.Whole.{refused_has_none}
use Rattle.rox_theory.proofs.ParseParts.{TreeParts, tree_parts}
use Rattle.rox_build.specs.Requests.{AreAllowed}
use Rattle.rox_error.specs.FaultErrors.{position_at, IsErrorOf}
use Rattle.rox_error.specs.declared.error.Error.{Error}
use Rattle.rox_error.specs.declared.error.Error.TheVariants as error
use Rattle.rox_error.specs.declared.position.TextPos.{TextPos}
use Rattle.rox_build.specs.Built.{BuiltNone, BuiltRefusal}
use Rattle.rox_values.specs.declared.parse_error.ParseError.{ParseError}
use Rattle.rox_values.specs.declared.parse_error.ParseError.TheVariants as why
use Rattle.roxmltree.specs.TextErrors.{IsTextError}
use Rattle.roxmltree.specs.FirstError.{IsErrorOfRefusal, MayRefuse, IsFirst}
use Rattle.roxmltree.specs.ReadDocument.{IsErrorOfReason}
use Rattle.roxmltree.proofs.Parsed.{read_alone}

-- ---- replies

texts_then : (a b : List Reply) → AreTextReplies a → AreTextReplies b → AreTextReplies (a ++ b)
texts_then [] b h k = k
texts_then (r ∷ a) b h k = (h.0, texts_then a b h.1 k)

refusal_text : (e : Refusal) → AreTextReplies (with_refusal e [])
refusal_text e = grind arith

-- the replies of a reading that stops are texts
stop_texts : (asked : List Asked) (e : Refusal) → AreTextReplies (replies_of asked) → AreTextReplies (replies_of asked ++ with_refusal e [])
stop_texts asked e texts = texts_then (replies_of asked) (with_refusal e []) texts (refusal_text e)

-- ---- what the error of a fault is not

-- it is never the resolver's own
pub no_resolver : (src : List ℕ) (f : Fault) (e : Error) (p : TextPos) (words : String Global) → e ≡ error.EntityResolver p words → IsErrorOf src f e → ⊥
no_resolver src f e p words is h = grind arith

-- ---- the error

module _ (limit : ℕ) (allow : Bool) (allows : Request → Reply → Type 0) (src : List ℕ) (utf8 : IsUtf8 src) where
  from_none : (e : Error) (r : Refusal) → BuiltNone limit allow allows src r → MayRefuse allows r → IsErrorOfRefusal src r e → IsFirst limit allow allows src e
  from_none e r none may told = grind arith

  -- what is told where there are no tables is of what reading meets first
  pub is_first : (r : ParseError) (e : Error) → e ≢ error.OutOfMemory → BuiltRefusal limit allow allows src r → IsErrorOfReason src r e → IsFirst limit allow allows src e
  is_first why.Memory e some built tells = absurd (some tells)
  is_first (why.Fault f) e some built tells =
      from_none e (here f) built tt
      (names_here limit allow (replies_of built.asked) src built.asked f utf8 built.texts (read_alone limit allow allows src utf8 built.asked (Err (here f)) (built.stops [])), tells)
  is_first (why.FaultIn source f) e some built tells =
      from_none e (there source.now f) built tt
      (names_there limit allow (replies_of built.asked) src source.now built.asked f utf8 built.texts (read_alone limit allow allows src utf8 built.asked (Err (there source.now f)) (built.stops [])), tells)
  is_first (why.Resolver at words) e some (request, may, built) tells = from_none e (refused request at (string_bytes words)) built may (words, refl, tells)

  module _ (e : Error) (first : IsFirst limit allow allows src e) where
    -- what was asked
    pub first_asked : HasAsked src allow first.asked
    first_asked = has_asked src utf8 allow limit (replies_of first.asked ++ with_refusal first.refusal []) first.asked (Err first.refusal) (stop_texts first.asked first.refusal first.texts) (first.stops [])

    -- no parse has answers that begin so
    pub first_none : IsTextError e → (dtd : Bool) (later : List Asked) (tree : Forest Node) → Permits allow dtd → IsTreeOf src dtd (first.asked ++ later) limit tree → ⊥
    first_none speaks dtd later tree permits is_tree = by_case first.refusal (first.stops []) first.told
      where
        t : TreeParts src dtd (first.asked ++ later) limit tree
        t = tree_parts is_tree

        by_case : (r : Refusal) → reading limit allow (replies_of first.asked ++ with_refusal r []) src ≡ (first.asked, Err r) → IsErrorOfRefusal src r e → ⊥
        by_case (here f) h told = refused_has_none src utf8 allow (doctypes_agree src utf8 allow) limit _ first.asked later (here f) dtd t.written h tt t.parse t.within permits
        by_case (there source f) h told = refused_has_none src utf8 allow (doctypes_agree src utf8 allow) limit _ first.asked later (there source f) dtd t.written h tt t.parse t.within permits
        by_case (refused request p message) h (words, bytes, is) = speaks.1 (position_at src p) words is

    -- the resolver's own is one that it may reply to what is asked next
    pub first_resolver : (p : TextPos) (words : String Global) → e ≡ error.EntityResolver p words
        → (asked : List Asked) × (request : Request) × (at : ℕ) × (allow ≡ true) × AreAllowed allows asked × AsksNext src asked request at × allows request (Err (string_bytes words)) × (p ≡ position_at src at)
    first_resolver p words is = by_case first.refusal (first.stops []) first.may first.told
      where
        by_case : (r : Refusal) → reading limit allow (replies_of first.asked ++ with_refusal r []) src ≡ (first.asked, Err r) → MayRefuse allows r → IsErrorOfRefusal src r e
            → (asked : List Asked) × (request : Request) × (at : ℕ) × (allow ≡ true) × AreAllowed allows asked × AsksNext src asked request at × allows request (Err (string_bytes words)) × (p ≡ position_at src at)
        by_case (here f) h may told = absurd (no_resolver src f e p words is told.1)
        by_case (there source f) h may told = absurd (no_resolver source f e p words is told.1)
        by_case (refused request at message) h may (own, bytes, told) =
            let same : error.EntityResolver p words ≡ error.EntityResolver (position_at src at) own = sym is ∙ told in
            let text : words ≡ own = cc same in
            let asks = asks_next src utf8 allow limit (replies_of first.asked ++ with_refusal (refused request at message) []) first.asked request at message (stop_texts first.asked (refused request at message) first.texts) h in
            (first.asked, request, at, asks.0, first.allowed, asks.1, subst (λ (m : List ℕ). allows request (Err m)) (sym bytes ∙ sym (ap string_bytes text)) may, (cc same))

    -- what stands by the grammar, after what was asked, and in which source
    pub first_refusal : IsTextError e → (asked : List Asked) × (source : List ℕ) × (f : Fault) × AreAllowed allows asked × RefusalOf limit allow src asked source f × NamesText source f × IsErrorOf source f e
    first_refusal speaks = by_case first.refusal (first.stops []) first.told
      where
        by_case : (r : Refusal) → reading limit allow (replies_of first.asked ++ with_refusal r []) src ≡ (first.asked, Err r) → IsErrorOfRefusal src r e
            → (asked : List Asked) × (source : List ℕ) × (f : Fault) × AreAllowed allows asked × RefusalOf limit allow src asked source f × NamesText source f × IsErrorOf source f e
        by_case (here f) h told =
            (first.asked, src, f, first.allowed, refusal_here limit allow (replies_of first.asked ++ with_refusal (here f) []) src first.asked f utf8 (stop_texts first.asked (here f) first.texts) h, told.0, told.1)
        by_case (there source f) h told = (
          first.asked,
          source,
          f,
          first.allowed,
          refusal_there limit allow (replies_of first.asked ++ with_refusal (there source f) []) src source first.asked f utf8 (stop_texts first.asked (there source f) first.texts) h,
          told.0,
          told.1,
        )
        by_case (refused request p message) h (words, bytes, is) = absurd (speaks.1 (position_at src p) words is)

-- nothing is asked where no document type declaration may stand
none_asked : (src : List ℕ) (asked : List Asked) → HasAsked src false asked → asked ≡ []
none_asked src asked nothing = refl
none_asked src asked (one_more before request p answer may next text) = absurd (true≢false (sym may))

-- and there the fault is what is read of the text alone
pub first_plain : (limit : ℕ) (allows : Request → Reply → Type 0) (src : List ℕ) → IsUtf8 src → (e : Error) → IsFirst limit false allows src e
    → (f : Fault) × (reading limit false [] src ≡ ([], Err (here f))) × FaultOf limit src f × NamesText src f × IsErrorOf src f e
first_plain limit allows src utf8 e first =
    let replies = replies_of first.asked ++ with_refusal first.refusal [] in
    from_fault (reading_faults limit replies src first.asked first.refusal utf8 (first.stops []))
  where
    none : first.asked ≡ []
    none = none_asked src first.asked (first_asked limit false allows src utf8 e first)

    from_fault : (f : Fault) × (here f ≡ first.refusal) × FaultOf limit src f → (f : Fault) × (reading limit false [] src ≡ ([], Err (here f))) × FaultOf limit src f × NamesText src f × IsErrorOf src f e
    from_fault (f, is, stands) =
        let told : IsErrorOfRefusal src (here f) e = subst (λ (r : Refusal). IsErrorOfRefusal src r e) (sym is) first.told in
        let stops : Stops (λ replies. reading limit false replies src) [] (here f) =
        subst (λ (asked : List Asked). Stops (λ replies. reading limit false replies src) asked (here f)) none (subst (λ (r : Refusal). Stops (λ replies. reading limit false replies src) first.asked r) (sym is) first.stops) in
        (f, stops [], stands, told.0, told.1)
