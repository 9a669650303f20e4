-- A step is one construct of the grammar, for any opener that agrees.
use Rattle.std.proofs.Common.{◌≡◌, ℕ, ◌+◌, ◌<◌, ◌≤◌, ◌==◌, Bool, true, false, not, nat_le, List, length, refl, sym, ap, ◌∙◌, subst, arith, IsUtf8}
use Rattle.std.specs.Prelude.{Ok}
use Rattle.std.specs.List.{list_any}
use Rattle.std.proofs.lemmas.Bool.{leb-false, lt-leb}
use Rattle.rox_grammar.specs.declared.fault.Word.TheVariants as word
use Rattle.rox_grammar.specs.FixedTexts.{word_text}
use Rattle.rox_grammar.specs.Forest.{Forest}
use Rattle.rox_grammar.specs.Written.{Name, Tag, Item, Element, Text, Comment, PI}
use Rattle.rox_grammar.specs.NameParts.{same_qname}
use Rattle.rox_grammar.specs.Names.{byte, slice, spaces_end}
use Rattle.rox_grammar.specs.Constructs.{IsEnd}
use Rattle.rox_grammar.specs.Content.{Inclusion, IsTag, start_tag, TagEnds, IsMisc, comment, instruction, literals, line_ends}
use Rattle.rox_grammar.proofs.TagParts.{tag_parts}
use Rattle.rox_grammar.specs.Content as content
use Rattle.rox_grammar.specs.Counts.{distinct_pairs}
use Rattle.rox_reading.specs.Markup.{comment_at, Instruction, instruction_at, cdata_at, end_tag_at}
use Rattle.rox_reading.specs.Tags.{tag_at}
use Rattle.rox_grammar.specs.State.{Open, root, inside, scope_of, attributes_so_far, pairs_so_far}
use Rattle.rox_reading.specs.State.{State, depth_of}
use Rattle.rox_grammar.specs.Faults.{cut_off}
use Rattle.rox_reading.specs.Machine.{Context, comment_step, cdata_step, instruction_step, end_step, tag_step, opened_by, closed_by, step}
use Rattle.rox_theory.specs.Openers.{AgreesValue}
use Rattle.rox_theory.proofs.Productions.{comment_parts, pi_parts, cdata_parts, end_parts, char_data_parts}
use Rattle.rox_theory.proofs.Basics.{ok_same, bind_ok, bind_lifted_only, chosen, within}
use Rattle.rox_theory.proofs.NameLemmas.{qname_le}
use Rattle.rox_theory.proofs.DeclarationLemmas.{stands_fits}
use Rattle.rox_theory.proofs.MarkupLemmas as markup
use Rattle.rox_theory.proofs.TagLemmas as tags
use Rattle.rox_theory.proofs.RunLemmas as runs
use Rattle.rox_theory.proofs.RunLemmas.{AgreesContent}
use Rattle.rox_theory.proofs.Flat.{StepsOver, takes_run, takes_cdata, takes_misc, takes_empty, takes_start, takes_end}
use Rattle.rox_theory.proofs.Constructions.{Kind, a_run, a_comment, a_cdata, an_instruction, an_end, a_tag, nothing, kind_at, step_by, step_is, Means, kind_means, name_byte, run_within, run_kind, comment_kind, comment_bytes, cdata_kind, cdata_bytes, instruction_kind, instruction_bytes, end_kind, tag_kind}
use Rattle.rox_theory.proofs.Standing.{IsValidState}
use Rattle.rox_theory.proofs.Leaves.{state, with_leaf, Adds, counted_fits, fits_counted, leaf_fine, fine_there, fine_before, item_read, read_item}
use Rattle.rox_theory.proofs.Steps.{after, closed, fine_leaf, opened_fine, fine_opened, closed_fine, fine_closed, same_names, names_same}

module _ (context : Context) (O : Inclusion) (values : AgreesValue context.values.entities O context.values.opener) (contents : AgreesContent context.values.entities context.limit O context.opener) (src : List ℕ) (utf8 : IsUtf8 src) where
  abbrev OneConstruct : State → State → Type 0
  OneConstruct s t = StepsOver context.values.main O src context.open_around s t

  -- What it leads to, and that it is fine.
  abbrev Leads : ℕ → State → State → Type 0
  Leads most s t = OneConstruct s t × IsValidState most t

  -- ---- what is read is a construct

  -- A tag from a state on, and what it leads to.
  abbrev pub Tags : State → State → Type 0
  Tags s t = (j : ℕ) × (c : ℕ) × (tag : Tag) × (empty : Bool) × IsTag context.values.main O src s.at j s.openings_left c empty tag × (t ≡ after s j tag empty c)

  -- It is a construct.
  tags_take : (s t : State) → Tags s t → OneConstruct s t
  tags_take s t (j, c, tag, true, is, leads) = subst (OneConstruct s) (sym leads) (takes_empty s.at j s.openings_left c tag s.done s.stack is)
  tags_take s t (j, c, tag, false, is, leads) = subst (OneConstruct s) (sym leads) (takes_start s.at j s.openings_left c tag s.done s.stack is)

  opened_sound : (most : ℕ) (s t : State) (j openings_left : ℕ) (tag : Tag) (empty : Bool) → context.limit ≤ most → IsValidState most s → Adds s (Element s.at j tag)
      → opened_by context.limit s tag empty openings_left j ≡ Ok t → (t ≡ after s j tag empty openings_left) × IsValidState most t
  opened_sound most s t j openings_left tag true limits fine adds h =
      let s' = state s.at s.done s.stack openings_left in
      let c = counted_fits context.limit (with_leaf s' j (Element s.at j tag)) t h in
      let adds' : Adds s' (Element s.at j tag) = record { attributes = adds.attributes; pairs = adds.pairs; named = adds.named } in
      let fine' = leaf_fine most s' j (Element s.at j tag) (fine_there most s s' refl refl fine) adds' (omega (arith, c.1)) in
      (sym c.0, subst (IsValidState most) c.0 fine')
  opened_sound most s t j openings_left tag false limits fine adds h =
      let c = counted_fits context.limit (after s j tag false openings_left) t h in
      (sym c.0, subst (IsValidState most) c.0 (opened_fine most s j tag j openings_left fine adds (omega (arith, c.1))))

  pub tag_read : (most : ℕ) (s t : State) → context.limit ≤ most → byte src s.at ≡ 60 → IsValidState most s → tag_step context src s ≡ Ok t → Tags s t × IsValidState most t
  unfolding tag_step
  tag_read most s t limits here fine h =
      bind_ok (tag_at context.values (cut_off context.values.main s.stack) (scope_of s.stack) (attributes_so_far s.stack s.done) (distinct_pairs (pairs_so_far s.stack s.done)) src s.at s.openings_left) _ _ h (λ x read h.
      let sound = tags.tag_sound context.values O values src utf8 (cut_off context.values.main s.stack) (scope_of s.stack) (attributes_so_far s.stack s.done) (distinct_pairs (pairs_so_far s.stack s.done)) s.at x.1 s.openings_left x.0 here fine.pairs read in
      let stands = sound.0 in
      let adds : Adds s (Element s.at x.1 x.0.tag) = record { attributes = stands.attributes; pairs = stands.pairs; named = stands.well_named } in
      bind_lifted_only (opened_by context.limit s x.0.tag x.0.empty x.0.openings_left x.1) t h (λ h.
      let opened = opened_sound most s t x.1 x.0.openings_left x.0.tag x.0.empty limits fine adds h in
      ((x.1, x.0.openings_left, x.0.tag, x.0.empty, stands.is_tag, opened.0), opened.1)))

  closed_sound : (most i : ℕ) (name : Name) (n j openings_left : ℕ) (done : Forest Item) (stack : Open) (t : State) → context.open_around < depth_of stack → IsEnd src i name n j → IsValidState most (state i done stack openings_left)
      → closed_by i name n j done stack openings_left ≡ Ok t → Leads most (state i done stack openings_left) t
  unfolding closed_by
  closed_sound most i name n j openings_left done root t deep end fine h = cc h
  closed_sound most i name n j openings_left done (inside start tag before up) t deep end fine h =
      chosen (same_qname tag.name name) _ _ _ h
      (λ same h.
      let e : closed j done start tag before up openings_left ≡ t = ok_same _ _ h in
      let end' : IsEnd src i tag.name n j = subst (λ (m : Name). IsEnd src i m n j) (sym (same_names tag.name name same)) end in
      (subst (OneConstruct (state i done (inside start tag before up) openings_left)) e (takes_end i n j openings_left start tag done before up deep end'), subst (IsValidState most) e (closed_fine most i j openings_left done start tag before up fine)))
      (λ apart h. cc)

  end_read : (most : ℕ) (s t : State) → Means src s.at an_end → IsValidState most s → end_step context src s ≡ Ok t → Leads most s t
  unfolding end_step
  end_read most s t means fine h =
      bind_ok (end_tag_at src s.at) _ _ h (λ x read h. chosen (nat_le (depth_of s.stack) context.open_around) _ _ _ h
      (λ shallow h. cc)
      (λ deep h.
      closed_sound most s.at x.0.name x.0.name_end x.1 s.openings_left s.done s.stack t (leb-false _ _ deep) (markup.end_sound src s.at x.1 x.0 means read).0 fine h))

  comment_read : (most : ℕ) (s t : State) → context.limit ≤ most → Means src s.at a_comment → IsValidState most s → comment_step context.limit src s ≡ Ok t → Leads most s t
  unfolding comment_step
  comment_read most s t limits means fine h =
      bind_ok (comment_at src s.at) _ _ h (λ x read h.
      let c = markup.comment_sound src utf8 s.at x.1 x.0 means read in
      let r = item_read context.limit most s t x.1 (Comment s.at x.1 x.0) limits refl refl tt fine h in
      let is : t ≡ with_leaf s x.1 (Comment s.at x.1 (slice src (s.at + 4) c.0)) = r.0 ∙ ap (λ (v : List ℕ). with_leaf s x.1 (Comment s.at x.1 v)) c.2 in
      (subst (OneConstruct s) (sym is) (takes_misc s.at x.1 s.openings_left _ s.done s.stack (comment s.at c.0 x.1 c.1)), r.1))

  instruction_read : (most : ℕ) (s t : State) → context.limit ≤ most → Means src s.at an_instruction → IsValidState most s → instruction_step context.limit src s ≡ Ok t → Leads most s t
  unfolding instruction_step
  instruction_read most s t limits means fine h =
      bind_ok (instruction_at src s.at) _ _ h (λ x read h.
      let c = markup.instruction_sound src utf8 s.at x.1 x.0 means read in
      let r = item_read context.limit most s t x.1 (PI s.at x.1 x.0.target x.0.value) limits refl refl tt fine h in
      let is = r.0 ∙ ap (λ (v : Instruction). with_leaf s x.1 (PI s.at x.1 v.target v.value)) c.3 in
      (subst (OneConstruct s) (sym is) (takes_misc s.at x.1 s.openings_left _ s.done s.stack (instruction s.at c.0 c.1 x.1 c.2)), r.1))

  cdata_read : (most : ℕ) (s t : State) → context.limit ≤ most → Means src s.at a_cdata → IsValidState most s → cdata_step context.limit src s ≡ Ok t → Leads most s t
  unfolding cdata_step
  cdata_read most s t limits means fine h =
      bind_ok (cdata_at src s.at) _ _ h (λ x read h.
      let c = markup.cdata_sound src utf8 s.at x.1 x.0 means read in
      let r = item_read context.limit most s t x.1 (Text s.at x.1 (line_ends (literals x.0)) (not (list_any (λ b. b == 13) x.0))) limits refl refl tt fine h in
      let is = r.0 ∙ ap (λ (v : List ℕ). with_leaf s x.1 (Text s.at x.1 (line_ends (literals v)) (not (list_any (λ b. b == 13) v)))) c.2 in
      (subst (OneConstruct s) (sym is) (takes_cdata s.at c.0 x.1 s.openings_left s.done s.stack c.1), r.1))

  by_sound : (k : Kind) (most : ℕ) (s t : State) → context.limit ≤ most → Means src s.at k → s.at < length src → IsValidState most s → step_by k context src s ≡ Ok t → Leads most s t
  by_sound a_run most s t limits means here fine h =
      let r = runs.run_sound context O contents src utf8 most s t limits here means fine h in
      (subst (OneConstruct s) (sym r.5) (takes_run s.at r.0 s.openings_left r.2 r.1 s.done s.stack r.3 r.4), r.6)
  by_sound a_comment most s t limits means here fine h = bind_lifted_only (comment_step context.limit src s) t h (comment_read most s t limits means fine)
  by_sound a_cdata most s t limits means here fine h = bind_lifted_only (cdata_step context.limit src s) t h (cdata_read most s t limits means fine)
  by_sound an_instruction most s t limits means here fine h = bind_lifted_only (instruction_step context.limit src s) t h (instruction_read most s t limits means fine)
  by_sound an_end most s t limits means here fine h = bind_lifted_only (end_step context src s) t h (end_read most s t means fine)
  by_sound a_tag most s t limits means here fine h =
      let r = tag_read most s t limits means fine h in
      (tags_take s t r.0, r.1)
  by_sound nothing most s t limits means here fine h = cc h

  pub step_sound : (most : ℕ) (s t : State) → context.limit ≤ most → s.at < length src → IsValidState most s → step context src s ≡ Ok t → Leads most s t
  step_sound most s t limits here fine h = by_sound (kind_at src s.at) most s t limits (kind_means src s.at) here fine (sym (step_is context src s) ∙ h)

  -- ---- what the limits allow they allow before it

  pub step_back : (s t : State) → OneConstruct s t → IsValidState context.limit t → IsValidState context.limit s
  step_back s t (takes_run i j b c items done stack is parts) fine = fine_before context.limit i j b c done items stack fine
  step_back s t (takes_cdata i e j b done stack is) fine = fine_before context.limit i j b b done _ stack fine
  step_back s t (takes_misc i j b item done stack is) fine = fine_before context.limit i j b b done _ stack fine
  step_back s t (takes_empty i j b c tag done stack is) fine = fine_before context.limit i j b c done _ stack fine
  step_back s t (takes_start i j b c tag done stack is) fine = (fine_opened context.limit (state i done stack b) j tag j c fine).0
  step_back s t (takes_end i p j b start tag done before up deep end) fine = fine_closed context.limit i j b done start tag before up fine

  -- ---- a construct is read, if the limits allow what it leads to

  -- By its kind.
  by_kind : (k : Kind) (s t : State) → kind_at src s.at ≡ k → step_by k context src s ≡ Ok t → step context src s ≡ Ok t
  by_kind k s t is h = step_is context src s ∙ ap (λ (m : Kind). step_by m context src s) is ∙ h

  read_comment : (s : State) (e j : ℕ) → content.IsMisc src s.at j (Comment s.at j (slice src (s.at + 4) e)) → comment_at src s.at ≡ Ok (slice src (s.at + 4) e, j) → IsValidState context.limit (with_leaf s j (Comment s.at j (slice src (s.at + 4) e)))
      → step_by a_comment context src s ≡ Ok (with_leaf s j (Comment s.at j (slice src (s.at + 4) e)))
  unfolding comment_step
  read_comment s e j is read fine = let one = read_item context.limit s j (Comment s.at j (slice src (s.at + 4) e)) fine in rw (read, one) refl

  read_instruction : (s : State) (x : Instruction) (j : ℕ) → instruction_at src s.at ≡ Ok (x, j) → IsValidState context.limit (with_leaf s j (PI s.at j x.target x.value))
      → step_by an_instruction context src s ≡ Ok (with_leaf s j (PI s.at j x.target x.value))
  unfolding instruction_step
  read_instruction s x j read fine = let one = read_item context.limit s j (PI s.at j x.target x.value) fine in rw (read, one) refl

  read_cdata : (s : State) (v : List ℕ) (j : ℕ) → cdata_at src s.at ≡ Ok (v, j) → IsValidState context.limit (with_leaf s j (Text s.at j (line_ends (literals v)) (not (list_any (λ b. b == 13) v))))
      → step_by a_cdata context src s ≡ Ok (with_leaf s j (Text s.at j (line_ends (literals v)) (not (list_any (λ b. b == 13) v))))
  unfolding cdata_step
  read_cdata s v j read fine = let one = read_item context.limit s j (Text s.at j (line_ends (literals v)) (not (list_any (λ b. b == 13) v))) fine in rw (read, one) refl

  read_misc : (s : State) (j : ℕ) (item : Item) → IsMisc src s.at j item → IsValidState context.limit (with_leaf s j item) → step context src s ≡ Ok (with_leaf s j item)
  read_misc s j item (comment _ e _ is) fine = by_kind a_comment s _ (comment_kind src s.at (comment_parts is).opens) (read_comment s e j (comment s.at e j is) (markup.comment_complete src s.at e j is) fine)
  read_misc s j item (instruction _ n e _ is) fine = by_kind an_instruction s _ (instruction_kind src s.at (pi_parts is).opens) (read_instruction s _ j (markup.instruction_complete src s.at n e j is) fine)

  -- A start tag.
  opened_found : (s : State) (j c : ℕ) (tag : Tag) (empty : Bool) → IsValidState context.limit (after s j tag empty c) → Adds s (Element s.at j tag) × (opened_by context.limit s tag empty c j ≡ Ok (after s j tag empty c))
  opened_found s j c tag true fine =
      let s' = state s.at s.done s.stack c in
      let f = fine_leaf context.limit s' j (Element s.at j tag) fine in
      (record { attributes = f.1.attributes; pairs = f.1.pairs; named = f.1.named }, fits_counted context.limit (with_leaf s' j (Element s.at j tag)) fine.nodes)
  opened_found s j c tag false fine = ((fine_opened context.limit s j tag j c fine).1, fits_counted context.limit (after s j tag false c) fine.nodes)

  pub read_tag : (s : State) (j c : ℕ) (tag : Tag) (empty : Bool) → IsTag context.values.main O src s.at j s.openings_left c empty tag → IsValidState context.limit (after s j tag empty c)
      → tag_step context src s ≡ Ok (after s j tag empty c)
  unfolding tag_step
  read_tag s j c tag empty is fine =
      let found = opened_found s j c tag empty fine in
      let adds = found.0 in
      let read = tags.tag_complete context.values O values src utf8 (cut_off context.values.main s.stack) (scope_of s.stack) (attributes_so_far s.stack s.done) (distinct_pairs (pairs_so_far s.stack s.done)) s.at j s.openings_left c tag empty is adds.named adds.attributes adds.pairs in
      rw (read, found.1) refl

  tag_found : (s : State) (j c : ℕ) (tag : Tag) (empty : Bool) → IsTag context.values.main O src s.at j s.openings_left c empty tag → IsValidState context.limit (after s j tag empty c) → step context src s ≡ Ok (after s j tag empty c)
  tag_found s j c tag empty is fine = let p = tag_parts is in by_kind a_tag s _ (tag_kind src s.at p.begins (name_byte src (s.at + 1) tag.name tag.name_end p.is_name)) (read_tag s j c tag empty is fine)

  -- An end tag.
  end_found : (i p j b start : ℕ) (tag : Tag) (done before : Forest Item) (up : Open) → context.open_around < depth_of up + 1 → IsEnd src i tag.name p j
      → end_step context src (state i done (inside start tag before up) b) ≡ Ok (closed j done start tag before up b)
  unfolding end_step closed_by
  end_found i p j b start tag done before up deep end =
      rw ((markup.end_complete src i j p tag.name end), (lt-leb (depth_of up + 1) context.open_around deep), (names_same tag.name tag.name refl)) refl

  pub step_complete : (s t : State) → OneConstruct s t → IsValidState context.limit t → step context src s ≡ Ok t
  step_complete s t (takes_run i j b c items done stack is parts) fine =
      by_kind a_run s t (run_kind src i (run_within src i j is).1) (runs.run_complete context O contents src utf8 j c items s is parts fine)
  step_complete s t (takes_cdata i e j b done stack is) fine = by_kind a_cdata s t (cdata_kind src i (cdata_parts is).opens) (read_cdata s _ j (markup.cdata_complete src i e j is) fine)
  step_complete s t (takes_misc i j b item done stack is) fine = read_misc s j item is fine
  step_complete s t (takes_empty i j b c tag done stack is) fine = tag_found s j c tag true is fine
  step_complete s t (takes_start i j b c tag done stack is) fine = tag_found s j c tag false is fine
  step_complete s t (takes_end i p j b start tag done before up deep end) fine =
      by_kind an_end s t (end_kind src i (end_parts end).opens) (end_lifted i p j b start tag done before up deep end)
    where
      end_lifted : (i p j b start : ℕ) (tag : Tag) (done before : Forest Item) (up : Open) → context.open_around < depth_of up + 1 → IsEnd src i tag.name p j
          → step_by an_end context src (state i done (inside start tag before up) b) ≡ Ok (closed j done start tag before up b)
      end_lifted i p j b start tag done before up deep end = rw (end_found i p j b start tag done before up deep end) refl

  -- ---- a construct moves forward in the source

  tag_end : (i : ℕ) (empty : Bool) (j : ℕ) → TagEnds src i empty j → j ≤ length src
  tag_end i empty j h = grind (arith, within)

  tag_moves : (i j b c : ℕ) (empty : Bool) (tag : Tag) → IsTag context.values.main O src i j b c empty tag → (i < length src) × (i < j) × (j ≤ length src)
  tag_moves i j b c empty _ (start_tag n last name written begin is_name list end) =
      let le = qname_le src (i + 1) name n is_name in
      let more = tags.attributes_le context.values O values src utf8 n last b c written list in
      let ends = tags.ends_inside src last empty j end in
      (omega (arith, ends.0), omega (arith, ends.1), tag_end last empty j end)

  misc_moves : (i j : ℕ) (item : Item) → IsMisc src i j item → (i < length src) × (i < j) × (j ≤ length src)
  misc_moves i j item (comment _ e _ is) =
      let b = comment_bytes src i (comment_parts is).opens in
      let m = markup.comment_sound src utf8 i j _ (comment_parts is).opens (markup.comment_complete src i e j is) in
      let next = (comment_parts is).next in
      (omega arith, m.3, omega (arith, stands_fits (word_text word.CommentEnd) src e (omega arith) (comment_parts is).closes))
  misc_moves i j item (instruction _ n e _ is) =
      let b = instruction_bytes src i (pi_parts is).opens in
      let m = markup.instruction_sound src utf8 i j _ (pi_parts is).opens (markup.instruction_complete src i n e j is) in
      let next = (pi_parts is).next in
      (omega arith, m.4, omega (arith, stands_fits (word_text word.PIEnd) src e (omega arith) (pi_parts is).closes))

  pub step_moves : (s t : State) → OneConstruct s t → (s.at < length src) × (s.at < t.at) × (t.at ≤ length src)
  step_moves s t (takes_run i j b c items done stack is parts) = ((run_within src i j is).0, (char_data_parts is).some, (runs.run_inside src i j is).0)
  step_moves s t (takes_cdata i e j b done stack is) =
      let b = cdata_bytes src i (cdata_parts is).opens in
      let m = markup.cdata_sound src utf8 i j _ (cdata_parts is).opens (markup.cdata_complete src i e j is) in
      let next = (cdata_parts is).next in
      (omega arith, m.3, omega (arith, stands_fits (word_text word.CDataEnd) src e (omega arith) (cdata_parts is).closes))
  step_moves s t (takes_misc i j b item done stack is) = misc_moves i j item is
  step_moves s t (takes_empty i j b c tag done stack is) = tag_moves i j b c true tag is
  step_moves s t (takes_start i j b c tag done stack is) = tag_moves i j b c false tag is
  step_moves s t (takes_end i p j b start tag done before up deep end) =
      let m = markup.end_sound src i j (record { name = tag.name; name_end = p }) (end_parts end).opens (markup.end_complete src i j p tag.name end) in
      let next = (end_parts end).next in let closes = (end_parts end).closes in
      let l = within src (spaces_end src p) (λ z. omega arith) in
      (omega arith, m.1, omega arith)
