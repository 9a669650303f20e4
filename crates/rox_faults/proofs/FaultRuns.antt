-- Runs that fail: in what they hold, by one node too many, or in a replacement text that is opened.
use Rattle.std.proofs.Common.{◌≡◌, ◌≢◌, ℕ, zero, suc, ◌+◌, ◌-◌, ◌<◌, ◌≤◌, max, ◌==◌, Bool, true, false, eqb, ltb, nat_le, List, length, refl, sym, ap, ◌∙◌, subst, arith, IsUtf8, IsCharBoundary, eqb-true, ltb-true, leb-false}
use Rattle.std.specs.Prelude.{Result, Err, Some, None}
use Rattle.rox_grammar.specs.declared.fault.Fault.{Fault}
use Rattle.rox_grammar.specs.declared.fault.Fault.TheVariants as fault
use Rattle.rox_grammar.specs.declared.fault.Word.TheVariants as word
use Rattle.rox_grammar.specs.FixedTexts.{word_text}
use Rattle.rox_grammar.specs.Search.{byte_from, has_mark}
use Rattle.rox_grammar.specs.Forest.{Forest, Nil, join}
use Rattle.rox_grammar.specs.Written.{Item, Text, leaf}
use Rattle.rox_grammar.specs.Names.{byte, slice}
use Rattle.rox_grammar.specs.References.{IsReference, predefined, entity_reference}
use Rattle.rox_grammar.specs.Content.{Inclusion, DataByte, is_verbatim, line_ends, piece, Part, last_part, IsCharacterData}
use Rattle.rox_grammar.proofs.RunParts.{Parts, PartsTo}
use Rattle.rox_grammar.specs.Content as content
use Rattle.rox_grammar.specs.Entities.{Replacement, Entity, text_of}
use Rattle.rox_grammar.specs.WellNamed.{AreWellNamed}
use Rattle.rox_grammar.specs.State.{Open, scope_of, depth_of, nodes_so_far, FitsLimits}
use Rattle.rox_grammar.specs.ContentPoints.{is_content, is_main, a_run, RefersTo, RunTo, MayOpen, IsSpent, enters}
use Rattle.rox_grammar.specs.Faults.{InReferences, InRun, no_char, end_mark, in_reference, too_many, in_run, too_many_nodes, too_many_pieces}
use Rattle.rox_reading.specs.Lexical.{chars_up_to}
use Rattle.rox_reading.specs.Refusals.{Refusal}
use Rattle.rox_reading.specs.State.{State}
use Rattle.rox_reading.specs.Values.{Bit, data_bit_at, Next, after_bit, data_part, part_text, raw_character_data_at}
use Rattle.rox_reading.specs.Machine.{with_item, with_piece, after_part, data_parts, character_data_step, opener}
use Rattle.rox_reading.proofs.Forests.{join-nil, join_assoc, named-join}
use Rattle.rox_theory.specs.Openers.{IsStop, AgreesContent}
use Rattle.rox_theory.proofs.Productions.{char_data_parts}
use Rattle.rox_theory.proofs.FirstMarks.{run_marked}
use Rattle.rox_theory.proofs.Basics.{chosen, chars_sound}
use Rattle.rox_theory.proofs.LiteralLemmas.{from_le}
use Rattle.rox_theory.proofs.ReferenceLemmas.{reference_opens}
use Rattle.rox_theory.proofs.PartLemmas.{part_le, Ends, ends_run, ends_entity, texts_line_ends, bit_moves, run_bit_sound, run_part_sound}
use Rattle.rox_theory.proofs.RunLemmas.{IsPiece, piece_read, raw_sound, run_inside, plain_part}
use Rattle.rox_theory.proofs.Standing.{AreNamed, IsValidState}
use Rattle.rox_theory.proofs.Leaves.{state, with_leaf}
use Rattle.rox_theory.proofs.FailedReadings.{bind_err, lifted_err, lifted_only, no_fault, chars_fails}
use Rattle.rox_faults.proofs.FaultRows.{run_stops_cut, expansion_fails}
use Rattle.rox_faults.proofs.FaultPoints.{Refuses, refuses_here, place_of, context_at, named_last, fine_fits, AreFew, plain_few, From, At, stand, over}
use Rattle.rox_faults.proofs.StateCounts.{too_many_there}

module _ (src : List ℕ) (utf8 : IsUtf8 src) (es : List Entity) (main : Bool) where
  -- What follows a bit fails.
  bit_fails : {P : Type 0} (more : ℕ → Result (List ℕ × Next) Fault) (bit : Bit) (j : ℕ) (f : Fault) → after_bit more bit j ≡ Err f → (more j ≡ Err f → P) → P
  bit_fails more bit j f h go = grind arith

  -- The references of a run.
  part_fails : (stop n i p : ℕ) (f : Fault) → stop ≤ length src → (stop < length src → IsStop (byte src stop)) → i ≤ p → data_part main es n src stop p ≡ Err f → (q : ℕ) × (i ≤ q) × (q < stop) × InReferences es src q f
  unfolding data_part data_bit_at
  part_fails stop zero i p f long closes from h = no_fault _ f h
  part_fails stop (suc n) i p f long closes from h =
      chosen (ltb p stop) _ _ _ h
      (λ below h. bind_err (data_bit_at main es src stop p) _ f h
      (λ bad. chosen (eqb (byte src p) 38) _ _ _ bad
      (λ amp bad. (p, from, ltb-true _ _ below, expansion_fails src utf8 es p f (eqb-true _ _ amp) bad))
      (λ none bad. chosen main _ _ _ bad (λ is bad. chosen (eqb (byte src p) 13) _ _ _ bad (λ cr bad. no_fault _ f bad) (λ other bad. no_fault _ f bad)) (λ is bad. no_fault _ f bad)))
      (λ x read h.
      let bit = run_bit_sound es src utf8 stop long closes main p x (ltb-true _ _ below) read in
      let moves = bit_moves es src utf8 stop long closes main p x.0 x.1 bit in
      bit_fails (λ j. data_part main es n src stop j) x.0 x.1 f h (λ bad. part_fails stop n i x.1 f long closes (omega (arith, moves.0)) bad)))
      (λ past h. no_fault _ f h)

-- A piece that is one node too many.
piece_fails : (limit : ℕ) (s : State) (i j : ℕ) (bs : List ℕ) (f : Fault) → with_piece limit s i j bs ≡ Err f → (0 < length bs) × (with_item limit s j (Text i j bs false) ≡ Err f)
piece_fails limit s i j bs f h = grind arith

-- An item that is one too many.
item_over : (limit : ℕ) (s : State) (j : ℕ) (item : Item) (f : Fault) → with_item limit s j item ≡ Err f → (limit < nodes_so_far s.stack (join s.done (leaf item))) × (fault.NodesLimitReached ≡ f)
item_over limit s j item f h = chosen (nat_le (nodes_so_far s.stack (join s.done (leaf item))) limit) _ _ _ h (λ fewer h. no_fault _ f h) (λ more h. (leb-false _ _ more, cc))

module _ (opens : ℕ → Inclusion) (es : List Entity) (limit : ℕ) (text : List ℕ) (declared : Bool) (PrologAt : ℕ → Forest Item → Type 0)
    (d k open_around most : ℕ) (agrees : AgreesContent es limit (opens k) (opener limit es d (is_main k))) (less : limit ≤ most) (least : most ≤ max limit 1) where
  -- What is opened after a reference that ends at j fails: by the number of openings, or within.
  abbrev pub OpenerFails : Type 0
  OpenerFails =
      (src : List ℕ) (j : ℕ) (t : Replacement) (name : List ℕ) (u : State) (e : Refusal) → text_of es name ≡ Some t → IsValidState most u → (IsSpent k u.openings_left → From opens es limit text declared PrologAt src (fault.EntityReferenceLoop j))
      → ((r : ℕ) → MayOpen k u.openings_left r → At opens es limit text declared PrologAt (suc k) (depth_of u.stack) t.source (state t.start u.done u.stack r)) → opener limit es d (is_main k) t j u ≡ Err e
      → Refuses es (From opens es limit text declared PrologAt) src e

  module _ (opener_fails : OpenerFails) (src : List ℕ) (utf8 : IsUtf8 src) (s : State) (place : At opens es limit text declared PrologAt k open_around src s) (fine : IsValidState most s) (inner : is_content k s.stack ≡ true)
      (within' : s.at < length src) (other : byte src s.at ≢ 60) where
    abbrev P : List ℕ → Fault → Type 0
    P src f = From opens es limit text declared PrologAt src f

    abbrev fits : FitsLimits limit s.stack s.done
    fits = fine_fits limit most s least fine

    -- A fault of the run.
    in_it : (f : Fault) → InRun es k (opens k) src s.at s.openings_left f → P src f
    in_it f ill = stand opens es limit text declared PrologAt k open_around src s f place fits (in_run f inner within' other ill)

    module _ (stop : ℕ) (run : IsCharacterData src s.at stop) (marked : is_verbatim (slice src s.at stop) ≡ false) where
      -- The parts that are read so far, up to this state.
      record Begun (u : State) : Type 0 where
        pub front : Forest Item
        pub done : u.done ≡ join s.done front
        pub stack : u.stack ≡ s.stack
        pub to : (q c : ℕ) (more : Forest Item) → PartsTo (is_main k) (opens k) src s.at stop u.at q u.openings_left c more → PartsTo (is_main k) (opens k) src s.at stop s.at q s.openings_left c (join front more)
        pub all : (c : ℕ) (more : Forest Item) → Parts (is_main k) (opens k) src s.at stop u.at u.openings_left c more → Parts (is_main k) (opens k) src s.at stop s.at s.openings_left c (join front more)

      begun : Begun s
      begun = record { front = Nil; done = sym (join-nil s.done); stack = refl; to = λ q c more p. p; all = λ c more p. p }

      -- After a part and what a reference opens.
      begun_more : (u v : State) (b : Begun u) (q n j c : ℕ) (ss : List DataByte) (items : Forest Item) → Part (is_main k) src q u.at ss → IsReference src q n j → predefined (slice src (q + 1) n) ≡ None
          → (opens k).content (slice src (q + 1) n) u.openings_left items c → v.at ≡ j → v.openings_left ≡ c → v.stack ≡ u.stack → v.done ≡ join (join u.done (piece s.at stop false ss)) items → Begun v
      begun_more u v b q n j c ss items part ref none opened at openings_left stack done =
          let one = piece s.at stop false ss in
          let whole : (more : Forest Item) → join b.front (join one (join items more)) ≡ join (join b.front (join one items)) more = grind (arith, join_assoc) in
          record {
            front = join b.front (join one items);
            done = done ∙ ap (λ (f : Forest Item). join (join f one) items) b.done ∙ join_assoc (join s.done b.front) one items ∙ join_assoc s.done b.front (join one items);
            stack = stack ∙ b.stack;
            to = λ p e more p'.
                subst (λ (f : Forest Item). PartsTo (is_main k) (opens k) src s.at stop s.at p s.openings_left e f) (whole more)
                (b.to p e (join one (join items more)) (content.Parts.then_entity u.at q j u.openings_left c e _ ss items more part (entity_reference n ref none) opened
                (subst (λ (i : ℕ). PartsTo (is_main k) (opens k) src s.at stop i p c e more) at (subst (λ (l : ℕ). PartsTo (is_main k) (opens k) src s.at stop v.at p l e more) openings_left p'))));
            all = λ e more p'.
                subst (λ (f : Forest Item). Parts (is_main k) (opens k) src s.at stop s.at s.openings_left e f) (whole more)
                (b.all e (join one (join items more)) (content.Parts.then_entity u.at q j u.openings_left c e _ ss items more part (entity_reference n ref none) opened
                (subst (λ (i : ℕ). Parts (is_main k) (opens k) src s.at stop i c e more) at (subst (λ (l : ℕ). Parts (is_main k) (opens k) src s.at stop v.at l e more) openings_left p'))));
          }

      -- What is read in front is well named.
      front_named : (u : State) (b : Begun u) → IsValidState most u → AreWellNamed (scope_of s.stack) b.front
      front_named u b fine' = named_last s.stack s.done b.front (subst (λ (o : Open). AreNamed o (join s.done b.front)) b.stack (subst (AreNamed u.stack) b.done fine'.named))

      -- At the end of a part.
      by_end : (u : State) (b : Begun u) (q : ℕ) (ss : List DataByte) (next : Next) → Part (is_main k) src q u.at ss → Ends es src stop q next → AreWellNamed (scope_of s.stack) (join b.front (piece s.at stop false ss))
          → AreFew s.stack (join s.done (join b.front (piece s.at stop false ss))) → limit < nodes_so_far s.stack (join s.done (join b.front (piece s.at stop false ss))) → P src fault.NodesLimitReached
      by_end u b q ss next part (ends_run _ same) named few many =
          let items = join b.front (piece s.at stop false ss) in
          let last : Parts (is_main k) (opens k) src s.at stop u.at u.openings_left u.openings_left (piece s.at stop false ss) =
          subst (λ (p : Bool). Parts (is_main k) (opens k) src s.at stop u.at u.openings_left u.openings_left (piece s.at stop p ss)) marked
          (last_part u.at u.openings_left ss (subst (λ (q : ℕ). Part (is_main k) src q u.at ss) same part)) in
          stand opens es limit text declared PrologAt k open_around src s fault.NodesLimitReached place fits
          (too_many_nodes u.openings_left (place_of (state stop (join s.done items) s.stack u.openings_left)) (a_run stop s.openings_left u.openings_left items inner run (b.all u.openings_left (piece s.at stop false ss) last) named) (too_many_there limit s.stack (join s.done items) few many))
      by_end u b q ss next part (ends_entity _ n j t ref none to found) named few many =
          stand opens es limit text declared PrologAt k open_around src s fault.NodesLimitReached place fits
          (too_many_pieces
          (record {
            run_end = stop;
            reference = q;
            after = j;
            openings_left = u.openings_left;
            front = join b.front (piece s.at stop false ss);
            replacement = t;
            is_run = run;
            is_front = b.to q u.openings_left (piece s.at stop false ss) (last_part u.at u.openings_left ss part);
            within_run = omega (arith, (reference_opens src q n j ref).2);
            refers = (slice src (q + 1) n, entity_reference n ref none, found);
          })
          inner named (too_many_there limit s.stack (join s.done (join b.front (piece s.at stop false ss))) few many))

      -- A text that is one node too many.
      piece_over : (u : State) (b : Begun u) (q : ℕ) (ss : List DataByte) (v : List ℕ) (next : Next) (f : Fault) → IsValidState most u → Part (is_main k) src q u.at ss → Ends es src stop q next → line_ends ss ≡ v
          → with_piece limit u s.at stop v ≡ Err f → P src f
      piece_over u b q ss v next f fine' part ends text bad =
          let item = Text s.at stop v false in
          let many = item_over limit u stop item f (piece_fails limit u s.at stop v f bad).1 in
          let done : join u.done (leaf item) ≡ join s.done (join b.front (piece s.at stop false ss)) = grind (arith, join_assoc) in
          let few : AreFew s.stack (join s.done (join b.front (piece s.at stop false ss))) =
          subst (λ (o : Open). AreFew o (join s.done (join b.front (piece s.at stop false ss)))) b.stack (subst (AreFew u.stack) done (plain_few limit u item refl refl (fine_fits limit most u least fine'))) in
          subst (P src) many.1 (by_end u b q ss next part ends (grind (arith, named-join, front_named)) few (grind arith))

      -- The parts after an opened text.
      after_fails : (u t : State) (b : Begun u) (q : ℕ) (ss : List DataByte) (next : Next) (more : State → Result State Refusal) (e : Refusal) → IsValidState most t → IsPiece u t s.at stop ss → Part (is_main k) src q u.at ss
          → u.at ≤ q → Ends es src stop q next → ((v : State) → Begun v → q < v.at → v.at ≤ stop → IsValidState most v → more v ≡ Err e → Refuses es P src e)
          → after_part (context_at limit es d k open_around) more stop t next ≡ Err e → Refuses es P src e
      after_fails u t b q ss next more e fine' is part le (ends_run _ same) go h = no_fault _ e h
      after_fails u t b q ss next more e fine' is part le (ends_entity _ n j r ref none to found) go h =
          let name = slice src (q + 1) n in
          let moves = reference_opens src q n j ref in
          let one = piece s.at stop false ss in
          let t_done : t.done ≡ join s.done (join b.front one) = is.done ∙ ap (λ (f : Forest Item). join f one) b.done ∙ join_assoc s.done b.front one in
          let refers : RefersTo es src q j r = (name, entity_reference n ref none, found) in
          let to' : PartsTo (is_main k) (opens k) src s.at stop s.at q s.openings_left t.openings_left (join b.front one) =
          subst (λ (c : ℕ). PartsTo (is_main k) (opens k) src s.at stop s.at q s.openings_left c (join b.front one)) (sym is.openings_left) (b.to q u.openings_left one (last_part u.at u.openings_left ss part)) in
          let run_to : RunTo es (is_main k) (opens k) src s.at s.openings_left =
          record {
            run_end = stop;
            reference = q;
            after = j;
            openings_left = t.openings_left;
            front = join b.front one;
            replacement = r;
            is_run = run;
            is_front = to';
            within_run = (omega (arith, moves.2));
            refers = refers;
          } in
          bind_err (opener limit es d (is_main k) r j t) _ e h
          (λ bad. opener_fails src j r name t e found fine' (λ spent. in_it (fault.EntityReferenceLoop j) (too_many run_to spent))
          (λ l may.
          subst (λ (o : Open). At opens es limit text declared PrologAt (suc k) (depth_of o) r.source (state r.start t.done o l)) (sym (is.stack ∙ b.stack))
          (subst (λ (f : Forest Item). At opens es limit text declared PrologAt (suc k) (depth_of s.stack) r.source (state r.start f s.stack l)) (sym t_done)
          (enters k open_around s.openings_left l src (place_of s) run_to place inner (grind (arith, named_last)) may))) bad)
          (λ v opened h.
          let o = agrees.sound most name r j t v less found fine' opened in
          let v_is = o.3 in
          let v_at : v.at ≡ j = ap (λ (s : State). s.at) v_is in
          let v_left : v.openings_left ≡ o.1 = ap (λ (s : State). s.openings_left) v_is in
          let v_stack : v.stack ≡ u.stack = ap (λ (s : State). s.stack) v_is ∙ is.stack in
          let v_done : v.done ≡ join (join u.done one) o.0 = ap (λ (s : State). s.done) v_is ∙ ap (λ (f : Forest Item). join f o.0) is.done in
          let content' : (opens k).content name u.openings_left o.0 o.1 = subst (λ (l : ℕ). (opens k).content name l o.0 o.1) is.openings_left o.2 in
          go v (begun_more u v b q n j o.1 ss o.0 part ref none content' v_at v_left v_stack v_done) (omega (arith, moves.2)) (omega arith) o.4 h)

      -- A run with references or CR.
      parts_fail : (n : ℕ) (u : State) (e : Refusal) → Begun u → IsValidState most u → s.at ≤ u.at → u.at ≤ stop → stop ≤ u.at + n → data_parts (context_at limit es d k open_around) n src s.at stop u ≡ Err e → Refuses es P src e
      unfolding data_parts
      parts_fail zero u e b fine' from to enough h = no_fault _ e h
      parts_fail (suc n) u e b fine' from to enough h =
          let inside = run_inside src s.at stop run in
          lifted_err (data_part (is_main k) es (stop - u.at) src stop u.at) _ e h
          (λ f bad is. let w = part_fails src utf8 es (is_main k) stop (stop - u.at) s.at u.at f inside.0 inside.1 from bad in
          refuses_here es P src f e is (in_it f (in_reference stop w.0 f run w.1 w.2 w.3)))
          (λ x read h.
          let part = run_part_sound es src utf8 stop inside.0 inside.1 (is_main k) (stop - u.at) u.at x to (omega arith) read in
          let signs = part.1.0 in
          let spelled = texts_line_ends (is_main k) x.0 signs part.1.2 in
          let le = part_le (is_main k) src part.0 u.at signs part.1.1 in
          lifted_err (with_piece limit u s.at stop (part_text (is_main k) x.0)) _ e h
          (λ f bad is. refuses_here es P src f e is (piece_over u b part.0 signs (part_text (is_main k) x.0) x.1 f fine' part.1.1 part.2 (sym spelled) bad))
          (λ t added h.
          let added' = piece_read limit most u t s.at stop signs less fine' (sym (ap (with_piece limit u s.at stop) spelled) ∙ added) in
          after_fails u t b part.0 signs x.1 (λ v. data_parts (context_at limit es d k open_around) n src s.at stop v) e added'.1 added'.0 part.1.1 le part.2
          (λ v b' past to' fine'' h. parts_fail n v e b' fine'' (omega arith) to' (omega arith) h) h))

    -- The bytes of the run.
    raw_fails : (f : Fault) → IsCharBoundary src s.at → raw_character_data_at src s.at ≡ Err f → InRun es k (opens k) src s.at s.openings_left f
    unfolding raw_character_data_at
    raw_fails f cut h =
        let stop = byte_from (λ c. c == 60) src s.at in
        let le = from_le (λ c. c == 60) src s.at in
        bind_err (chars_up_to stop src s.at) _ f h
        (λ bad. no_char f (chars_fails src s.at stop f utf8 cut (run_stops_cut src s.at within') le bad))
        (λ raw read h.
        let c = chars_sound stop src s.at raw utf8 le read in
        chosen (has_mark (word_text word.CDataEnd) raw.0) _ _ _ h
        (λ marked h. let is : fault.InvalidCharacterData stop ≡ f = cc in subst (InRun es k (opens k) src s.at s.openings_left) is (end_mark stop refl c.0 (run_marked src s.at stop (sym (ap (has_mark (word_text word.CDataEnd)) c.1) ∙ marked))))
        (λ fine h. no_fault _ f h))

    -- A run.
    pub run_fails : (e : Refusal) → IsCharBoundary src s.at → character_data_step (context_at limit es d k open_around) src s ≡ Err e → Refuses es P src e
    unfolding character_data_step
    run_fails e cut h =
        lifted_err (raw_character_data_at src s.at) _ e h
        (λ f bad is. refuses_here es P src f e is (in_it f (raw_fails f cut bad)))
        (λ x read h.
        let raw = raw_sound src utf8 s.at x within' other read in
        chosen (is_verbatim x.0) _ _ _ h
        (λ plain h.
        let item = Text s.at x.1 x.0 true in
        let parts : Parts (is_main k) (opens k) src s.at x.1 s.at s.openings_left s.openings_left (leaf item) =
        subst (λ (v : List ℕ). Parts (is_main k) (opens k) src s.at x.1 s.at s.openings_left s.openings_left (leaf (Text s.at x.1 v true))) (sym raw.1)
        (plain_part (context_at limit es d k open_around) (opens k) agrees src utf8 s.at x.1 s.openings_left raw.0 (rw (raw.1) at plain)) in
        lifted_only (with_item limit s x.1 item) e h
        (λ f bad is. refuses_here es P src f e is (over opens es limit text declared PrologAt k open_around src s (with_leaf s x.1 item) f place fits (a_run x.1 s.openings_left s.openings_left (leaf item) inner raw.0 parts (tt, tt, tt)) (plain_few limit s item refl refl fits) bad)))
        (λ marked h.
        let marked' : is_verbatim (slice src s.at x.1) ≡ false = rw (raw.1) at marked in
        let inside = run_inside src s.at x.1 raw.0 in
        parts_fail x.1 raw.0 marked' (length src) s e (begun x.1 raw.0 marked') fine (omega arith) (let some = (char_data_parts raw.0).some in omega arith) (let to = inside.0 in omega arith) h))
