-- Names, references and the constructs that hold no others stand wherever the same bytes follow.
use Rattle.std.proofs.Common.{◌≡◌, ◌≢◌, ℕ, ◌+◌, ◌^◌, ◌<◌, Bool, List, [], refl, sym, ap, ◌∙◌, subst, arith}
use Rattle.std.specs.Prelude.{codes}
use Rattle.rox_grammar.specs.declared.fault.Word.TheVariants as word
use Rattle.rox_grammar.specs.FixedTexts.{word_text, double_dash}
use Rattle.rox_grammar.specs.Chars.{is_space, is_name_start, is_name_char, is_part_char}
use Rattle.rox_grammar.specs.Search.{mark_from}
use Rattle.rox_grammar.specs.Written.{Name}
use Rattle.rox_grammar.specs.Names.{byte, slice, spaces_end, IsName, IsNCName, IsQName, unprefixed, prefixed, colon_first}
use Rattle.rox_grammar.specs.References.{is_digit, is_hex_digit, number, character, predefined, IsNumber, IsReference, IsCharacter, decimal, hexadecimal, named}
use Rattle.rox_grammar.specs.Constructs.{IsComment, IsPI, IsCData, IsEq, IsAttValue, IsEnd}
use Rattle.rox_grammar.specs.Content.{IsCharacterData}
use Rattle.rox_grammar.specs.Exchange.{Move, moved}
use Rattle.rox_exchange.specs.Local.{Follows}
use Rattle.rox_exchange.proofs.Follows.{on, from, byte_moves, rest_moves, stands_moves, mark_moves, byte_from_moves, bytes_end_moves, run_end_moves, begins_moves, chars_move, markup_moves, slice_moves}
use Rattle.rox_exchange.proofs.Order.{ncname_le, qname_le, literal_lt, comment_le, cdata_le, pi_le, reference_lt}
use Rattle.rox_theory.proofs.Productions.{ncname_parts, ncname_made, number_parts, number_made, reference_parts, reference_made, comment_parts, comment_made, pi_parts, pi_made, cdata_parts, cdata_made, end_parts, end_made}
use Rattle.rox_theory.proofs.Basics.{run_end_le}

module _ (m : Move) (src to : List ℕ) where
  -- White space.
  pub space_end : (i k : ℕ) → Follows m src i to k → Follows m src (spaces_end src i) to (spaces_end to k)
  space_end i k f =
      subst (λ (x : ℕ). Follows m src (spaces_end src i) to x) (run_end_moves m src to is_space i k (spaces_end src i) f refl)
      (from m src to i k (spaces_end src i) (run_end_le is_space src i) f)

  -- A byte that a place has, and one that it has not.
  pub byte_is : (b i k : ℕ) → Follows m src i to k → byte src i ≡ b → byte to k ≡ b
  byte_is b i k f is = sym (byte_moves m src to i k f) ∙ is

  pub byte_not : (b i k : ℕ) → Follows m src i to k → byte src i ≢ b → byte to k ≢ b
  byte_not b i k f differs = λ is. differs (byte_moves m src to i k f ∙ is)

  -- A name.
  pub name_moves : (i k j : ℕ) → Follows m src i to k → IsName src i j → IsName to k (moved m j)
  name_moves i k j f is = record {
    starts = sym (begins_moves m src to is_name_start i k f) ∙ is.starts;
    longest = run_end_moves m src to is_name_char i k j f is.longest;
  }

  -- A name without colon.
  pub ncname_moves : (i k j : ℕ) → Follows m src i to k → IsNCName src i j → IsNCName to k (moved m j)
  ncname_moves i k j f is = ncname_made (record {
    starts = sym (begins_moves m src to is_name_start i k f) ∙ (ncname_parts is).starts;
    no_colon = byte_not 58 i k f (ncname_parts is).no_colon;
    longest = run_end_moves m src to is_part_char i k j f (ncname_parts is).longest;
  })

  -- A name in a namespace.
  pub qname_moves : (i k : ℕ) (name : Name) (j : ℕ) → Follows m src i to k → IsQName src i name j → IsQName to k name (moved m j)
  qname_moves i k name j f (unprefixed _ _ n last) =
      let le = ncname_le src i j n in
      subst (λ (bs : List ℕ). IsQName to k (record { prefix = []; local = bs }) (moved m j)) (sym (slice_moves m src to i k j le f))
      (unprefixed k (moved m j) (ncname_moves i k j f n) (byte_not 58 j (moved m j) (from m src to i k j le f) last))
  qname_moves i k name j f (prefixed _ p _ n colon rest last) =
      let le = ncname_le src i p n in
      let le' = ncname_le src (p + 1) j rest in
      let g = from m src to i k p le f in
      let h = on m src to p (moved m p) 1 g in
      subst (λ (bs : List ℕ). IsQName to k (record { prefix = bs; local = slice src (p + 1) j }) (moved m j)) (sym (slice_moves m src to i k p le f))
      (subst (λ (bs : List ℕ). IsQName to k (record { prefix = slice to k (moved m p); local = bs }) (moved m j)) (sym (slice_moves m src to (p + 1) (moved m p + 1) j le' h))
      (prefixed k (moved m p) (moved m j) (ncname_moves i k p f n) (byte_is 58 p (moved m p) g colon) (ncname_moves (p + 1) (moved m p + 1) j h rest)
      (byte_not 58 j (moved m j) (from m src to (p + 1) (moved m p + 1) j le' h) last)))
  qname_moves i k name j f (colon_first _ _ colon n last) =
      let le = ncname_le src (i + 1) j n in
      let h = on m src to i k 1 f in
      subst (λ (bs : List ℕ). IsQName to k (record { prefix = []; local = bs }) (moved m j)) (sym (slice_moves m src to (i + 1) (k + 1) j le h))
      (colon_first k (moved m j) (byte_is 58 i k f colon) (ncname_moves (i + 1) (k + 1) j h n) (byte_not 58 j (moved m j) (from m src to (i + 1) (k + 1) j le h) last))

  -- Eq.
  pub eq_moves : (i k j : ℕ) → Follows m src i to k → IsEq src i j → IsEq to k (moved m j)
  eq_moves i k j f is =
      let s = space_end i k f in (
        byte_is 61 (spaces_end src i) (spaces_end to k) s is.0,
        run_end_moves m src to is_space (spaces_end src i + 1) (spaces_end to k + 1) j (on m src to (spaces_end src i) (spaces_end to k) 1 s) is.1,
      )

  -- A number.
  pub number_moves : (base : ℕ) (p : ℕ → Bool) (d k c j : ℕ) → Follows m src d to k → IsNumber base p src d c j → IsNumber base p to k c (moved m j)
  number_moves base p d k c j f is =
      let e = (number_parts is).e in
      let some = (number_parts is).some in
      let next = (number_parts is).next in
      let s = slice_moves m src to d k e (omega arith) f in
      number_made (record {
        e = moved m e;
        end = bytes_end_moves m src to p d k e f (number_parts is).end;
        some = omega arith;
        closes = byte_is 59 e (moved m e) (from m src to d k e (omega arith) f) (number_parts is).closes;
        small = subst (λ (bs : List ℕ). number base bs < 2 ^ 32) s (number_parts is).small;
        is_character = (number_parts is).is_character ∙ ap (λ (bs : List ℕ). character (number base bs)) s;
        allowed = (number_parts is).allowed;
        next = omega arith;
      })

  -- A reference.
  pub reference_moves : (i k n j : ℕ) → Follows m src i to k → IsReference src i n j → IsReference to k (moved m n) (moved m j)
  reference_moves i k n j f is =
      let next = (reference_parts is).next in
      let lt = reference_lt src i n j is in
      reference_made (record {
        opens = byte_is 38 i k f (reference_parts is).opens;
        name = name_moves (i + 1) (k + 1) n (on m src to i k 1 f) (reference_parts is).name;
        closes = byte_is 59 n (moved m n) (from m src to i k n (omega arith) f) (reference_parts is).closes;
        next = omega arith;
      })

  -- Its name.
  pub reference_name : (i k n j : ℕ) → Follows m src i to k → IsReference src i n j → slice src (i + 1) n ≡ slice to (k + 1) (moved m n)
  reference_name i k n j f is = slice_moves m src to (i + 1) (k + 1) n (omega (arith, reference_lt src i n j is)) (on m src to i k 1 f)

  -- A reference to a character.
  pub character_moves : (i k c j : ℕ) → Follows m src i to k → IsCharacter src i c j → IsCharacter to k c (moved m j)
  character_moves i k c j f (decimal opens is) =
      decimal (sym (stands_moves m src to (codes "&#") i k f) ∙ opens)
      (number_moves 10 is_digit (i + 2) (k + 2) c j (on m src to i k 2 f) is)
  character_moves i k c j f (hexadecimal opens is) =
      hexadecimal (sym (stands_moves m src to (codes "&#x") i k f) ∙ opens)
      (number_moves 16 is_hex_digit (i + 3) (k + 3) c j (on m src to i k 3 f) is)
  character_moves i k c j f (named n is known) =
      named (moved m n) (reference_moves i k n j f is) (ap predefined (sym (reference_name i k n j f is)) ∙ known)

  -- A comment.
  pub comment_moves : (i k e j : ℕ) → Follows m src i to k → IsComment src i e j → IsComment to k (moved m e) (moved m j)
  comment_moves i k e j f is =
      let next = (comment_parts is).next in
      let le = comment_le src i e j is in
      let g = on m src to i k 4 f in
      comment_made (record {
        opens = sym (stands_moves m src to (word_text word.CommentStart) i k f) ∙ (comment_parts is).opens;
        dashes = mark_moves m src to double_dash (i + 4) (k + 4) e g (comment_parts is).dashes;
        chars = chars_move m src to (i + 4) (k + 4) e le g (comment_parts is).chars;
        closes = sym (stands_moves m src to (word_text word.CommentEnd) e (moved m e) (from m src to i k e (omega arith) f)) ∙ (comment_parts is).closes;
        next = omega arith;
      })

  -- A processing instruction.
  pub pi_moves : (i k n e j : ℕ) → Follows m src i to k → IsPI src i n e j → IsPI to k (moved m n) (moved m e) (moved m j)
  pi_moves i k n e j f is =
      let next = (pi_parts is).next in
      let le = pi_le src i n e j is in
      let s = space_end n (moved m n) (from m src to i k n (omega arith) f) in
      let long = run_end_le is_space src n in
      pi_made (record {
        opens = sym (stands_moves m src to (word_text word.PIStart) i k f) ∙ (pi_parts is).opens;
        no_declaration = sym (stands_moves m src to (word_text word.XmlDeclStart) i k f) ∙ (pi_parts is).no_declaration;
        target = name_moves (i + 2) (k + 2) n (on m src to i k 2 f) (pi_parts is).target;
        end = mark_moves m src to (word_text word.PIEnd) (spaces_end src n) (spaces_end to (moved m n)) e s (pi_parts is).end;
        chars = chars_move m src to (spaces_end src n) (spaces_end to (moved m n)) e le.1 s (pi_parts is).chars;
        closes = sym (stands_moves m src to (word_text word.PIEnd) e (moved m e) (from m src to i k e (omega arith) f)) ∙ (pi_parts is).closes;
        next = omega arith;
      })

  -- A CDATA section.
  pub cdata_moves : (i k e j : ℕ) → Follows m src i to k → IsCData src i e j → IsCData to k (moved m e) (moved m j)
  cdata_moves i k e j f is =
      let next = (cdata_parts is).next in
      let le = cdata_le src i e j is in
      let g = on m src to i k 9 f in
      cdata_made (record {
        opens = sym (stands_moves m src to (word_text word.CDataStart) i k f) ∙ (cdata_parts is).opens;
        end = mark_moves m src to (word_text word.CDataEnd) (i + 9) (k + 9) e g (cdata_parts is).end;
        chars = chars_move m src to (i + 9) (k + 9) e le g (cdata_parts is).chars;
        closes = sym (stands_moves m src to (word_text word.CDataEnd) e (moved m e) (from m src to i k e (omega arith) f)) ∙ (cdata_parts is).closes;
        next = omega arith;
      })

  -- A literal.
  pub literal_moves : (i k e j : ℕ) → Follows m src i to k → IsAttValue src i e j → IsAttValue to k (moved m e) (moved m j)
  literal_moves i k e j f is =
      let lt = literal_lt src i e j is in
      let g = on m src to i k 1 f in
      let first = byte_moves m src to i k f in
      let left = rest_moves m src to i k f in grind (arith, byte_from_moves, chars_move, markup_moves)

  -- A run.
  pub run_moves : (i k j : ℕ) → Follows m src i to k → IsCharacterData src i j → IsCharacterData to k (moved m j)
  run_moves i k j f is = grind (arith, mark_moves m src to (word_text word.CDataEnd) i k (mark_from (word_text word.CDataEnd) src i) f refl, byte_from_moves, chars_move)

  -- An end tag.
  pub end_moves : (i k : ℕ) (name : Name) (n j : ℕ) → Follows m src i to k → IsEnd src i name n j → IsEnd to k name (moved m n) (moved m j)
  end_moves i k name n j f is =
      let next = (end_parts is).next in
      let le = qname_le src (i + 2) name n (end_parts is).is_name in
      let s = space_end n (moved m n) (from m src to i k n (omega arith) f) in
      end_made (record {
        opens = sym (stands_moves m src to (word_text word.EndTagStart) i k f) ∙ (end_parts is).opens;
        is_name = qname_moves (i + 2) (k + 2) name n (on m src to i k 2 f) (end_parts is).is_name;
        closes = byte_is 62 (spaces_end src n) (spaces_end to (moved m n)) s (end_parts is).closes;
        next = omega arith;
      })
