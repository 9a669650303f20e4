use Rattle.std.proofs.Common.{ℕ, get_or-drop, slice_range, ◌≡◌, ◌++◌, ◌∷◌, [], ◌-◌, ◌+◌, List, false, refl, sym, subst, ap, ◌∙◌, arith, length, take, drop, slice_index, Ok, leb}
use Rattle.std.specs.List.{AllByRecursion}
use Rattle.std.proofs.lemmas.Bool.{lt-leb}
use Rattle.std.proofs.lemmas.List.{take_rest}
use Rattle.rox_reading.specs.Markup.{EndTag, end_tag_at}
use Rattle.rox_reading.specs.State.{depth_of}
use Rattle.rox_grammar.proofs.Lists.{all_take}
use Rattle.rox_names.specs.declared.tables.ElementTables.{ElementTables}
use Rattle.rox_names.specs.declared.open_element.OpenElement.{OpenElement}
use Rattle.rox_builder.specs.BuilderState.{IsConsistent}
use Rattle.rox_names.specs.OpenElements.{IsOpenWithin, HasName, name_length, open_name}
use Rattle.rox_builder.proofs.Showing.{last_split}
use Rattle.rox_builder.proofs.Stepping.{end_is, opened_deep, closed_stepped}
use Rattle.rox_constructs.proofs.Opening.{all_last}
use Rattle.rox_content.proofs.Closing.{same_itself, end_tag_close}
use Rattle.rox_names.proofs.SpelledNames.{kept_narrow}
use Rattle.rox_content.proofs.quick_elements.close_element.Goals as goal

-- what stands behind so many bytes of the rest
behind_rest : (src bytes : List ℕ) (i n : ℕ) → bytes ≡ src → slice_index (slice_range bytes i (length bytes)) n ≡ 62 → slice_index src (i + n) ≡ 62
behind_rest src bytes i n is closed = grind (arith, take_rest, get_or-drop)

pub after_byte-end-requires : goal.after_byte-end-requires
after_byte-end-requires c = grind (arith, behind_rest)

pub returns : goal.returns
returns c = record {
  value = λ _ context end s around h.
      let cursor = c.args.cursor.now in
      let src = cursor.text.now in
      let b = c.args.builder.now in
      let pos = cursor.pos in
      let k = c.in-Some.ensures.item in
      let os = c.deref.result.now in
      let o = c.in-Some.open.now in
      let outer = take (length os - 1) os in
      let split : b.opened.items ≡ outer ++ o ∷ [] = sym c.deref.ensures.value ∙ last_split os o k.3.0 (k.3.1 o) in
      let named : HasName o = (all_last (IsOpenWithin b.tables) outer o (subst (AllByRecursion (IsOpenWithin b.tables)) split c.requires.fine.elements)).2 in
      let start : c.after_byte-name.result ≡ pos + 2 = omega (arith, c.after_byte-slash.ensures.place, c.after_byte-name.ensures.place) in
      let there = c.closes_front.ensures.there c.if-not-closes_front.false in
      let n = o.name_count in
      let all : name_length o ≡ n = kept_narrow n o.source.now (omega (arith, there, c.requires.short, ap length c.as_bytes.ensures.value)) in
      let closes : slice_index src (c.after_byte-name.result + n) ≡ 62 =
      behind_rest src c.as_bytes.result.now c.after_byte-name.result n c.as_bytes.ensures.value (c.closes_front.ensures.closed c.if-not-closes_front.false) in
      let j = c.after_byte-end.result in
      let same : take n o.source.now ≡ take n (drop (pos + 2) src) =
      rw (← start) (c.closes_front.ensures.same c.if-not-closes_front.false ∙ ap (take n) (take_rest c.as_bytes.result.now c.after_byte-name.result ∙ ap (drop c.after_byte-name.result) c.as_bytes.ensures.value)) in
      let tag : end_tag_at src pos ≡ Ok (record { name = open_name o; name_end = pos + 2 + n }, j) =
      end_tag_close src pos j o named cursor.utf8 (rw all same) (rw (all, ← start) closes) (rw (all, ← start) c.after_byte-end.ensures.place)
      ∙ ap (λ (m : ℕ). let t : EndTag = record { name = open_name o; name_end = pos + 2 + m } in Ok (t, j)) all in
      let within : leb (depth_of s.stack) context.open_around ≡ false = (let d = opened_deep end s.stack s.done b h.shows in let l = c.len.ensures in let m = c.if-len-open_around.false in lt-leb _ _ (omega arith)) in
      rw (end_is context src s pos j _ h.here tag within)
      (closed_stepped context.limit end s cursor _ b c.put_close.new.self outer o pos (pos + 2 + n) (open_name o) h split (same_itself (open_name o)) c.put_close.ensures.closes.kept.tables c.put_close.ensures.closes.kept.limit c.put_close.ensures.closes.kept.openings_left c.put_close.ensures.closes.ok);
  other = λ no. absurd (cc no);
  ready = λ _. c.put_close.ensures.ready;
  moves = λ _. omega (arith, c.after_byte-slash.ensures.place, c.after_byte-name.ensures.place, c.after_byte-end.ensures.place);
  goes =
      let b = c.args.builder.now in
      let f = c.requires.fine in
      let n = length b.opened.items - 1 in
      let taken : IsConsistent b.tables (take n b.opened.items) =
      record { sound = f.sound; elements = all_take (IsOpenWithin b.tables) n b.opened.items f.elements; empty = f.empty; kept = f.kept; few_names = f.few_names; few_attributes = f.few_attributes } in
      record {
        source = refl;
        fine = subst (λ (qs : List OpenElement). IsConsistent c.put_close.new.self.tables qs) (sym c.put_close.ensures.closes.opened)
            (subst (λ (t : ElementTables). IsConsistent t (take n b.opened.items)) (sym c.put_close.ensures.closes.kept.tables) taken);
      };
}

pub put_close-requires : goal.put_close-requires
put_close-requires c = grind arith
