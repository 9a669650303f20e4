-- XML 4.2.2 External Entities: what may be replied to a request for an external entity.
use Rattle.std.specs.Prelude.{◌≡◌, ℕ, List, [], ◌∷◌, Option, Some, None, Result, Ok, Err, String, option_map, string_bytes}
use Rattle.std.specs.Borrow.{Bor}
use Rattle.std.specs.declared.alloc.Global.{Global}
use Rattle.rox_grammar.specs.Doctype.{Request, Asked}
pub use Rattle.rox_grammar.specs.Doctype.{Reply}

abbrev pub text_view : Option (Bor (List ℕ)) → Option (List ℕ)
text_view o = option_map (λ x. x.now) o

-- A request and a reply, by the bytes of their texts.
abbrev pub request_of : Option (Bor (List ℕ)) → Bor (List ℕ) → Request
request_of pub_id uri = record { public_id = text_view pub_id; uri = uri.now }

abbrev pub reply_of : Result (Option (Bor (List ℕ))) (String Global) → Reply
reply_of (Ok text) = Ok (text_view text)
reply_of (Err message) = Err (string_bytes message)

-- What may be replied, by the relation `allows` of a resolver. Without a resolver the only reply is no text.
abbrev pub Allows : {R : Type 0} → (R → Request → Reply → Type 0) → Option R → Request → Reply → Type 0
Allows allows None request reply = reply ≡ Ok None
Allows allows (Some r) request reply = allows r request reply

-- The resolver, if there is one, may be asked.
abbrev pub MayAsk : {R : Type 0} → (R → Type 0) → Option R → Type 0
MayAsk {R} can resolver = (r : R) → resolver ≡ Some r → can r

-- Each answer is allowed for its request.
abbrev pub AreAllowed : (Request → Reply → Type 0) → List Asked → Type 0
AreAllowed allows [] = Unit {0}
AreAllowed allows (a ∷ as') = allows a.request (Ok a.answer) × AreAllowed allows as'
