use Rattle.std.proofs.Common.{◌≡◌, ◌+◌, Bool, true, false, ◌++◌, ◌∷◌, [], ◌-◌, refl, sym, subst, ap, ◌∙◌, List, arith, length, take, Err, slice_get, None, inl, inr}
use Rattle.std.proofs.lemmas.Bool.{lt-leb, le-leb}
use Rattle.std.proofs.lemmas.Option.{slice_get_cases}
use Rattle.rox_markup.specs.Views.{end_tag_view}
use Rattle.rox_grammar.specs.NameParts.{same_qname}
use Rattle.rox_grammar.specs.Written.{Name}
use Rattle.rox_grammar.specs.State.{Open}
use Rattle.rox_reading.specs.Machine.{name_span}
use Rattle.rox_values.specs.Contexts.{context_of}
use Rattle.rox_reading.specs.Refusals.{here, lifted}
use Rattle.rox_builder.specs.BuilderState.{IsConsistent, opened_in, Represents}
use Rattle.rox_names.specs.OpenElements.{HasName, IsOpenWithin, open_name}
use Rattle.rox_names.specs.declared.open_element.OpenElement.{OpenElement}
use Rattle.rox_grammar.specs.declared.fault.Span.{Span}
use Rattle.rox_grammar.specs.declared.fault.Fault.TheVariants as fault
use Rattle.rox_grammar.proofs.Lists.{all_take}
use Rattle.rox_names.specs.declared.tables.ElementTables.{ElementTables}
use Rattle.rox_constructs.proofs.Opening.{all_last}
use Rattle.rox_builder.proofs.Showing.{last_split}
use Rattle.std.specs.List.{AllByRecursion}
use Rattle.rox_builder.proofs.Stepping.{end_is, end_fails, end_below, opened_deep, closed_other, closed_stepped}
use Rattle.rox_constructs.proofs.constructs.end_tag.Goals as goal

pub returns-in_err-tag : goal.returns-in_err-tag
returns-in_err-tag c = grind (arith, end_fails)

pub returns-then-len-context : goal.returns-then-len-context
returns-then-len-context c = record {
  value = λ limit end es s h.
      let j = c.end_tag.new.cursor.pos in
      let t = end_tag_view c.in_ok-tag.tag in
      let k = opened_deep end s.stack s.done c.args.builder.now h.shows in
      let l = c.len.ensures in
      let m = c.if-len-context.true in
      ap lifted (end_below (context_of limit es c.args.context) c.args.cursor.now.text.now s c.args.cursor.now.pos j t h.here c.in_ok-tag.ensures.value (le-leb _ _ (omega arith)));
  goes = tt;
}

nothing_last : (os : List OpenElement) → slice_get os (length os - 1) ≡ None → os ≡ []
nothing_last [] h = refl
nothing_last (x ∷ xs) h = elim (slice_get_cases (x ∷ xs) (length (x ∷ xs) - 1)).1 [ inl w ↦ let k = w.2 in cc h | inr w ↦ absurd (omega (arith, w.0)) ]

pub returns-in_default : goal.returns-in_default
returns-in_default c = grind arith

-- two names, by their bytes
compared : (r : Bool) (m n a b : Name) → r ≡ same_qname m n → m ≡ a → n ≡ b → same_qname a b ≡ r
compared r m n a b is one other = sym (is ∙ ap (λ (x : Name). same_qname x n) one ∙ ap (same_qname a) other)

-- the innermost open element has its name
last_named : (t : ElementTables) (os outer : List OpenElement) (o : OpenElement) → IsConsistent t os → os ≡ outer ++ o ∷ [] → HasName o
last_named t os outer o fine split = (all_last (IsOpenWithin t) outer o (subst (AllByRecursion (IsOpenWithin t)) split fine.elements)).2

pub open_name-opened-requires : goal.open_name-opened-requires
open_name-opened-requires c =
    let b = c.args.builder.now in
    let k = c.in-Some.ensures.item in
    let os = c.deref.result.now in
    let o = c.in-Some.open.now in
    last_named b.tables b.opened.items (take (length os - 1) os) o c.requires.fine (sym c.deref.ensures.value ∙ last_split os o k.3.0 (k.3.1 o))

pub open_span-expected-requires : goal.open_span-expected-requires
open_span-expected-requires c =
    let b = c.args.builder.now in
    let k = c.in-Some.ensures.item in
    let os = c.deref.result.now in
    let o = c.in-Some.open.now in
    last_named b.tables b.opened.items (take (length os - 1) os) o c.requires.fine (sym c.deref.ensures.value ∙ last_split os o k.3.0 (k.3.1 o))

pub returns-then-not-same_qname : goal.returns-then-not-same_qname
returns-then-not-same_qname c = record {
  value = λ limit end es s h.
      let src = c.args.cursor.now.text.now in
      let b = c.args.builder.now in
      let pos = c.args.cursor.now.pos in
      let j = c.end_tag.new.cursor.pos in
      let t = end_tag_view c.in_ok-tag.tag in
      let k = c.in-Some.ensures.item in
      let os = c.deref.result.now in
      let o = c.in-Some.open.now in
      let outer = take (length os - 1) os in
      let split : b.opened.items ≡ outer ++ o ∷ [] = sym c.deref.ensures.value ∙ last_split os o k.3.0 (k.3.1 o) in
      let closed = c.bytes_of-closed.ensures in
      let other : same_qname (open_name o) t.name ≡ false = compared _ _ _ _ _ c.same_qname.ensures c.open_name-opened.ensures closed ∙ c.if-not-same_qname.true in
      let y = c.name_span-found.ensures ∙ ap (λ (m : Name). name_span m (pos + 2) t.name_end) closed in
      ap lifted (end_is (context_of limit es c.args.context) src s pos j t h.here c.in_ok-tag.ensures.value (let k = opened_deep end s.stack s.done b h.shows in let l = c.len.ensures in let m = c.if-len-context.false in lt-leb _ _ (omega arith))
      ∙ closed_other b.tables s.stack outer o pos t.name_end j t.name s.done s.openings_left c.open_span-expected.result (sym (ap (opened_in b.tables) split) ∙ h.shows.open_rows) other
      (λ start tag before up is. c.open_span-expected.ensures end start tag before up s.done outer (subst (λ (stack : Open). Represents end stack s.done b) is h.shows) split))
      ∙ sym (ap (λ (sp : Span). Err (here (fault.UnexpectedCloseTag c.open_span-expected.result sp pos))) y);
  goes = tt;
}

pub returns : goal.returns
returns c = record {
  value = λ limit end es s h.
      let src = c.args.cursor.now.text.now in
      let b = c.args.builder.now in
      let pos = c.args.cursor.now.pos in
      let d = c.end_tag.new.cursor in
      let t = end_tag_view c.in_ok-tag.tag in
      let k = c.in-Some.ensures.item in
      let os = c.deref.result.now in
      let o = c.in-Some.open.now in
      let outer = take (length os - 1) os in
      let split : b.opened.items ≡ outer ++ o ∷ [] = sym c.deref.ensures.value ∙ last_split os o k.3.0 (k.3.1 o) in
      let same : same_qname (open_name o) t.name ≡ true = compared _ _ _ _ _ c.same_qname.ensures c.open_name-opened.ensures c.bytes_of-closed.ensures ∙ c.if-not-same_qname.false in
      rw (end_is (context_of limit es c.args.context) src s pos d.pos t h.here c.in_ok-tag.ensures.value (let k = opened_deep end s.stack s.done b h.shows in let l = c.len.ensures in let m = c.if-len-context.false in lt-leb _ _ (omega arith)))
      (closed_stepped limit end s c.args.cursor.now d b c.close.new.self outer o pos t.name_end t.name h split same c.close.ensures.kept.tables c.close.ensures.kept.limit c.close.ensures.kept.openings_left c.in_ok-close.ensures.ok);
  goes =
      let b = c.args.builder.now in
      let f = c.requires.fine in
      let n = length b.opened.items - 1 in
      let taken : IsConsistent b.tables (take n b.opened.items) =
      record { sound = f.sound; elements = all_take (IsOpenWithin b.tables) n b.opened.items f.elements; empty = f.empty; kept = f.kept; few_names = f.few_names; few_attributes = f.few_attributes } in
      record {
        source = search;
        fine = subst (λ (qs : List OpenElement). IsConsistent c.close.new.self.tables qs) (sym c.in_ok-close.ensures.opened)
            (subst (λ (t : ElementTables). IsConsistent t (take n b.opened.items)) (sym c.close.ensures.kept.tables) taken);
      };
}
