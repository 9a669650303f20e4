-- At most one element is at a place, whatever the limits are.
use Rattle.std.proofs.Common.{◌≡◌, ℕ, zero, suc, ◌+◌, ◌<◌, ◌==◌, Bool, true, false, not, List, length, Ok, refl, sym, ap, ◌∙◌, subst, arith, true≢false, IsUtf8}
use Rattle.std.specs.Prelude.{Some, Option}
use Rattle.std.specs.List.{list_any}
use Rattle.rox_grammar.specs.Forest.{Forest, Nil, join}
use Rattle.rox_grammar.specs.Written.{Tag, Item, Text, Comment, PI}
use Rattle.rox_grammar.specs.Tree.{none_if_empty}
use Rattle.rox_grammar.specs.Names.{slice, spaces_end}
use Rattle.rox_grammar.specs.Content.{Inclusion, IsCharacterData, IsMisc, comment, instruction, IsTag, IsElement, Content, literals, line_ends}
use Rattle.rox_grammar.proofs.TagParts.{tag_parts}
use Rattle.rox_grammar.proofs.RunParts.{Parts}
use Rattle.rox_grammar.specs.Entities.{Replacement, Entity, Spends, Includes, included_in_main, most_deep}
use Rattle.rox_grammar.specs.State.{Open, root, inside}
use Rattle.rox_reading.specs.Markup.{comment_at, Instruction, instruction_at, cdata_at, EndTag, end_tag_at}
use Rattle.rox_reading.specs.Values.{ValueInclusion}
use Rattle.rox_reading.specs.Tags.{Values}
use Rattle.rox_reading.specs.State.{State}
use Rattle.rox_reading.specs.Machine.{value_opener, values_of}
use Rattle.rox_theory.specs.Openers.{AreTexts, AgreesValue}
use Rattle.rox_theory.specs.ValidState.{state}
use Rattle.rox_theory.proofs.Productions.{comment_parts, pi_parts, cdata_parts, end_parts}
use Rattle.rox_theory.proofs.MarkupLemmas.{comment_complete, instruction_complete, cdata_complete, end_complete}
use Rattle.rox_theory.proofs.Openers.{values_agree}
use Rattle.rox_theory.proofs.Leaves.{with_leaf}
use Rattle.rox_theory.proofs.Steps.{after, closed}
use Rattle.rox_theory.proofs.Flat.{StepsOver, takes_run, takes_cdata, takes_misc, takes_empty, takes_start, takes_end, Chain, arrives, goes, text_complete}
use Rattle.rox_theory.proofs.Constructions.{Kind, a_run, a_comment, a_cdata, an_instruction, an_end, a_tag, nothing, kind_at, name_byte, run_within, run_kind, comment_kind, cdata_kind, instruction_kind, end_kind, tag_kind, comment_bytes, cdata_bytes, instruction_bytes, end_bytes}
use Rattle.rox_theory.proofs.PartOnce.{OpensOnce, parts_once}
use Rattle.rox_theory.proofs.TagOnce.{tag_once}
use Rattle.rox_theory.proofs.Chains as chains
use Rattle.rox_theory.proofs.Chains.{Drives, root_drives}

module _ (context : Values) (O : Inclusion) (agrees : AgreesValue context.entities O context.opener) (once : OpensOnce O) (src : List ℕ) (utf8 : IsUtf8 src) where
  -- An end tag closes the innermost open element.
  abbrev Closes : ℕ → ℕ → Forest Item → Open → State → Type 0
  Closes openings_left j done root t = ⊥
  Closes openings_left j done (inside start tag before up) t = t ≡ closed j done start tag before up openings_left

  -- One construct, by its kind.
  abbrev OneBy : Kind → State → State → Type 0
  OneBy a_run s t = (j : ℕ) × (c : ℕ) × (items : Forest Item) × IsCharacterData src s.at j × Parts context.main O src s.at j s.at s.openings_left c items × (t ≡ state j (join s.done items) s.stack c)
  OneBy a_comment s t = (j : ℕ) × (text : List ℕ) × (comment_at src s.at ≡ Ok (text, j)) × (t ≡ with_leaf s j (Comment s.at j text))
  OneBy a_cdata s t = (j : ℕ) × (text : List ℕ) × (cdata_at src s.at ≡ Ok (text, j)) × (t ≡ with_leaf s j (Text s.at j (line_ends (literals text)) (not (list_any (λ b. b == 13) text))))
  OneBy an_instruction s t = (j : ℕ) × (x : Instruction) × (instruction_at src s.at ≡ Ok (x, j)) × (t ≡ with_leaf s j (PI s.at j x.target x.value))
  OneBy an_end s t = (j : ℕ) × (x : EndTag) × (end_tag_at src s.at ≡ Ok (x, j)) × Closes s.openings_left j s.done s.stack t
  OneBy a_tag s t = (j : ℕ) × (c : ℕ) × (tag : Tag) × (empty : Bool) × IsTag context.main O src s.at j s.openings_left c empty tag × (t ≡ after s j tag empty c)
  OneBy nothing s t = ⊥

  -- Of the kind that is there.
  by_kind : (k : Kind) (s t : State) → kind_at src s.at ≡ k → OneBy k s t → OneBy (kind_at src s.at) s t
  by_kind k s t is h = subst (λ (k : Kind). OneBy k s t) (sym is) h

  takes_by : (open_around : ℕ) (s t : State) → StepsOver context.main O src open_around s t → OneBy (kind_at src s.at) s t
  takes_by open_around s t (takes_run i j b c items done stack is parts) = by_kind a_run s t (run_kind src i (run_within src i j is).1) (j, c, items, is, parts, refl)
  takes_by open_around s t (takes_cdata i e j b done stack is) = by_kind a_cdata s t (cdata_kind src i (cdata_parts is).opens) (j, slice src (i + 9) e, cdata_complete src i e j is, refl)
  takes_by open_around s t (takes_misc i j b item done stack is) = misc_by item is
    where
      misc_by : (item : Item) → IsMisc src i j item → OneBy (kind_at src i) (state i done stack b) (with_leaf (state i done stack b) j item)
      misc_by item (comment _ e _ is) = by_kind a_comment (state i done stack b) _ (comment_kind src i (comment_parts is).opens) (j, slice src (i + 4) e, comment_complete src i e j is, refl)
      misc_by item (instruction _ n e _ is) = by_kind an_instruction (state i done stack b) _ (instruction_kind src i (pi_parts is).opens)
          (j, record { target = slice src (i + 2) n; value = none_if_empty (slice src (spaces_end src n) e) }, instruction_complete src i n e j is, refl)
  takes_by open_around s t (takes_empty i j b c tag done stack is) = let p = tag_parts is in by_kind a_tag s t (tag_kind src i p.begins (name_byte src (i + 1) tag.name tag.name_end p.is_name)) (j, c, tag, true, is, refl)
  takes_by open_around s t (takes_start i j b c tag done stack is) = let p = tag_parts is in by_kind a_tag s t (tag_kind src i p.begins (name_byte src (i + 1) tag.name tag.name_end p.is_name)) (j, c, tag, false, is, refl)
  takes_by open_around s t (takes_end i p j b start tag done before up deep end) = by_kind an_end s t (end_kind src i (end_parts end).opens) (j, record { name = tag.name; name_end = p }, end_complete src i j p tag.name end, refl)

  pub tags_once : (s t u : State) → OneBy a_tag s t → OneBy a_tag s u → t ≡ u
  tags_once s t u (j, c, tag, empty, is, to) (k, d, tag', empty', is', to') = grind (arith, tag_once)

  by_once : (k : Kind) (s t u : State) → OneBy k s t → OneBy k s u → t ≡ u
  by_once a_run s t u (j, c, items, run, parts, to) (k, d, more, run', parts', to') = grind (arith, parts_once)
  by_once a_comment s t u (j, text, read, to) (k, text', read', to') = grind arith
  by_once a_cdata s t u (j, text, read, to) (k, text', read', to') = grind arith
  by_once an_instruction s t u (j, x, read, to) (k, x', read', to') = grind arith
  by_once an_end s t u (j, x, read, to) (k, x', read', to') = grind arith
  by_once a_tag s t u h k = tags_once s t u h k
  by_once nothing s t u h k = absurd h

  -- One construct is at a place.
  pub takes_once : (open_around : ℕ) (s t u : State) → StepsOver context.main O src open_around s t → StepsOver context.main O src open_around s u → t ≡ u
  takes_once open_around s t u h k = by_once (kind_at src s.at) s t u (takes_by open_around s t h) (takes_by open_around s u k)

-- ---- replacement texts

module _ (context : Values) (O : Inclusion) (src : List ℕ) where
  -- One construct begins in the text.
  takes_within : (open_around : ℕ) (s t : State) → StepsOver context.main O src open_around s t → s.at < length src
  takes_within open_around s t (takes_run i j b c items done stack is parts) = (run_within src i j is).0
  takes_within open_around s t (takes_cdata i e j b done stack is) = omega (arith, (cdata_bytes src i (cdata_parts is).opens).0)
  takes_within open_around s t (takes_misc i j b item done stack (comment _ e _ is)) = omega (arith, (comment_bytes src i (comment_parts is).opens).0)
  takes_within open_around s t (takes_misc i j b item done stack (instruction _ n e _ is)) = omega (arith, (instruction_bytes src i (pi_parts is).opens).0)
  takes_within open_around s t (takes_empty i j b c tag done stack is) = omega (arith, (name_byte src (i + 1) tag.name tag.name_end (tag_parts is).is_name).within)
  takes_within open_around s t (takes_start i j b c tag done stack is) = omega (arith, (name_byte src (i + 1) tag.name tag.name_end (tag_parts is).is_name).within)
  takes_within open_around s t (takes_end i p j b start tag done before up deep end) = omega (arith, (end_bytes src i (end_parts end).opens).0)

module _ (es : List Entity) (opener : ValueInclusion) (O : Inclusion) (agrees : AgreesValue es O opener) (once : OpensOnce O) (src : List ℕ) (utf8 : IsUtf8 src) where
  abbrev within : Values
  within = record { main = false; entities = es; opener = opener }

  -- There is one chain up to the end.
  chain_once : (open_around : ℕ) (s t u : State) → Chain false O src open_around s t → Chain false O src open_around s u → t ≡ u
  chain_once open_around s t u (arrives _ at deep) (arrives _ at' deep') = refl
  chain_once open_around s t u (arrives _ at deep) (goes _ v _ takes rest) = absurd (omega (arith, at, takes_within within O src open_around s v takes))
  chain_once open_around s t u (goes _ v _ takes rest) (arrives _ at deep) = absurd (omega (arith, at, takes_within within O src open_around s v takes))
  chain_once open_around s t u (goes _ v _ takes rest) (goes _ w _ takes' rest') =
      let e : w ≡ v = takes_once within O agrees once src utf8 open_around s w v takes' takes in
      chain_once open_around v t u rest (subst (λ (w : State). Chain false O src open_around w u) e rest')

  -- A text is content in one way, and as many may be opened after it.
  pub text_once : (i b c d : ℕ) (items more : Forest Item) → Content false O src i (length src) b c items → Content false O src i (length src) b d more → (items ≡ more) × (c ≡ d)
  text_once i b c d items more x y =
      let second = text_complete O src i b d Nil more root y in
      let one = chain_once 0 (state i Nil root b) (state (length src) items root c) (state (length src) more root d) (text_complete O src i b c Nil items root x) second in
      (ap (λ (s : State). s.done) one, ap (λ (s : State). s.openings_left) one)

-- What is spent leaves one budget within the text, and one after it.
spends_once : (main : Bool) (b r l c q m d : ℕ) → Spends main b r l c → Spends main b q m d → r ≡ q
spends_once main b r l c q m d h k = grind arith

spent_once : (main : Bool) (b r l c q m d : ℕ) → Spends main b r l c → Spends main b q m d → l ≡ m → c ≡ d
spent_once main b r l c q m d h k e = grind arith

pub same_text : (x y : Replacement) → ◌≡◌ {A = Option Replacement} (Some x) (Some y) → x ≡ y
same_text x y h = cc h

-- A reference opens one row of items.
pub opens_once : (es : List Entity) → AreTexts es → (d : ℕ) (main : Bool) → OpensOnce (Includes es d main)
opens_once es texts zero main name b c e items more h k = absurd h
opens_once es texts (suc d) main name b c e items more (t, r, l, found, spends, content) (u, q, m, found', spends', content') =
    let same : u ≡ t = same_text u t (sym found' ∙ found) in
    let budget : q ≡ r = spends_once main b q m e r l c spends' spends in
    let O = Includes es d false in
    let content2 : Content false O t.source t.start (length t.source) q m more = subst (λ (u : Replacement). Content false O u.source u.start (length u.source) q m more) same content' in
    let content3 : Content false O t.source t.start (length t.source) r m more = subst (λ (q : ℕ). Content false O t.source t.start (length t.source) q m more) budget content2 in
    let one = text_once es (value_opener es d false) O (values_agree es texts d false) (opens_once es texts d false) t.source (texts name t found).0 t.start r l m items more content content3 in
    (one.0, spent_once main b r l c q m e spends spends' one.1)

-- ---- the root element

module _ (es : List Entity) (d : ℕ) (O : Inclusion) (agrees : AgreesValue es O (value_opener es d true)) (once : OpensOnce O) (src : List ℕ) (utf8 : IsUtf8 src) where
  -- There is one chain up to its end.
  drives_once : (s t u : State) → Drives O src s t → Drives O src s u → t ≡ u
  drives_once s t u (chains.arrives _ h) (chains.arrives _ k) = refl
  drives_once s t u (chains.arrives _ h) (chains.goes _ v _ inner takes rest) = absurd (true≢false (sym h ∙ inner))
  drives_once s t u (chains.goes _ v _ inner takes rest) (chains.arrives _ h) = absurd (true≢false (sym h ∙ inner))
  drives_once s t u (chains.goes _ v _ inner takes rest) (chains.goes _ w _ inner' takes' rest') =
      let e : w ≡ v = takes_once (values_of es d true) O agrees once src utf8 0 s w v takes' takes in
      drives_once v t u rest (subst (λ (w : State). Drives O src w u) e rest')

  -- There is one element.
  pub one_element : (i j k b c e : ℕ) (one other : Forest Item) → IsElement true O src i j b c one → IsElement true O src i k b e other → (j ≡ k) × (one ≡ other)
  one_element i j k b c e one other x y =
      let p = root_drives O src i j b c one Nil x in
      let q = root_drives O src i k b e other Nil y in
      let s = state i Nil root b in
      let t : after s q.0 q.2 q.3 q.1 ≡ after s p.0 p.2 p.3 p.1 =
      tags_once (values_of es d true) O agrees once src utf8 s (after s q.0 q.2 q.3 q.1) (after s p.0 p.2 p.3 p.1)
      (q.0, q.1, q.2, q.3, q.4, refl) (p.0, p.1, p.2, p.3, p.4, refl) in
      let u = drives_once (after s p.0 p.2 p.3 p.1) (state j one root c) (state k other root e) p.5 (subst (λ (t : State). Drives O src t (state k other root e)) t q.5) in
      (ap (λ (s : State). s.at) u, ap (λ (s : State). s.done) u)

-- Whatever the entities are.
pub element_once : (es : List Entity) → AreTexts es → (src : List ℕ) → IsUtf8 src → (i j k b c d : ℕ) (one other : Forest Item) → IsElement true (included_in_main es) src i j b c one → IsElement true (included_in_main es) src i k b d other
    → (j ≡ k) × (one ≡ other)
element_once es texts src utf8 = one_element es most_deep (included_in_main es) (values_agree es texts most_deep true) (opens_once es texts most_deep true) src utf8
