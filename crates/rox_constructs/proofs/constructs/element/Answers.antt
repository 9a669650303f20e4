use Rattle.std.specs.Prelude.{OnOk}
use Rattle.std.proofs.Common.{◌≡◌, ◌++◌, ◌∷◌, [], ℕ, true, false, Bool, refl, sym, ap, subst, ◌∙◌, List}
use Rattle.std.proofs.lemmas.Result.{err_from_is_err_and, on_ok_weaker}
use Rattle.rox_grammar.specs.Written.{Element, NamespaceDecl}
use Rattle.rox_grammar.specs.State.{scope_of}
use Rattle.rox_reading.specs.State.{State}
use Rattle.rox_reading.specs.Machine.{opened_by}
use Rattle.rox_reading.specs.Refusals.{lifted}
use Rattle.rox_values.specs.Contexts.{context_of}
use Rattle.rox_scan.specs.declared.cursor.Cursor.{Cursor}
use Rattle.rox_starts.specs.ElementRow.{Tagged}
use Rattle.rox_builder.specs.declared.builder.Builder.{Builder}
use Rattle.rox_builder.specs.BuilderState.{GoesOn, IsNode, IsConsistent}
use Rattle.rox_names.specs.OpenElements.{IsOpened}
use Rattle.rox_names.specs.declared.open_element.OpenElement.{OpenElement}
use Rattle.rox_names.proofs.SameNames.{opened_named, tag_named}
use Rattle.rox_names.proofs.SpelledNames.{tag_is_named}
use Rattle.rox_names.specs.SpelledNames.{SpellsName}
use Rattle.rox_rows.specs.declared.row.NodeKind.TheVariants as kind
use Rattle.rox_constructs.proofs.Declared.{some_declare}
use Rattle.rox_constructs.proofs.ParsedResults.{goes_too, parses_too}
use Rattle.rox_builder.proofs.Growing.{grown_shows}
use Rattle.rox_constructs.proofs.Opening.{grown_by, is_node, is_opening, fine_by, fine_kept, fine_more, namespace_by, tag_fails, tag_is, empty_stepped, open_stepped}
use Rattle.rox_constructs.proofs.constructs.element.Goals as goal

abbrev with_left : ℕ → State → State
with_left openings_left s = record { at = s.at; done = s.done; stack = s.stack; openings_left = openings_left }

went : (old new : Cursor) (b : Builder) → new.text ≡ old.text → IsConsistent b.tables b.opened.items → GoesOn old new b
went old new b source fine = record { source = source; fine = fine }

pub returns-in_err-tag : goal.returns-in_err-tag
returns-in_err-tag c = record {
  value = λ limit end es s declared h.
      let p = err_from_is_err_and c.from_residual.result c.from_residual.ensures.1 in
      rw (p.1, p.2) (tag_fails (context_of limit es c.args.context) c.args.cursor.now.text.now s c.args.cursor.now.pos _ _ _ _ c.in_err-tag.field-0.0 h.here (c.cut_off_fault-cut.ensures end s.stack s.done h.shows)
      (c.scope-above.ensures.value c.requires.fine end s.stack s.done h.shows) h.attributes h.namespaces (rw h.openings_left_is at (c.in_err-tag.ensures.value es declared)));
  goes = let p = err_from_is_err_and c.from_residual.result c.from_residual.ensures.1 in rw p.1 tt;
}

pub returns-then-tag : goal.returns-then-tag
returns-then-tag c = record {
  value = λ limit end es s declared h.
      let v = rw h.openings_left_is at (c.in_ok-tag.ensures.value es declared) in
      let b = c.args.builder.now in
      let old = b.tables in
      let new = c.start_tag.new.elements in
      let t = c.in_ok-tag.tag in
      let pos = c.args.cursor.now.pos in
      let d = c.start_tag.new.cursor in
      let sc = c.scope-above.ensures.value c.requires.fine end s.stack s.done h.shows in
      let tg : Tagged old new t (scope_of s.stack) v.0 = subst (λ (a : List NamespaceDecl). Tagged old new t a v.0) sc v.2 in
      let shows = grown_shows end s.stack s.done b _ h.shows c.requires.fine.sound c.requires.fine.elements (grown_by old new t (scope_of s.stack) v.0 tg) refl refl refl refl in
      let node : IsNode new (scope_of s.stack) pos d.pos (kind.Element t.element) (Element s.at d.pos v.0) =
      subst (λ (n : ℕ). IsNode new (scope_of s.stack) pos d.pos (kind.Element t.element) (Element n d.pos v.0)) h.here (is_node old new t (scope_of s.stack) v.0 pos d.pos tg) in
      let adds = c.leaf.ensures.value end d.pos (with_left c.in_ok-tag.left s) (Element s.at d.pos v.0) shows node in
      rw (tag_is (context_of limit es c.args.context) c.args.cursor.now.text.now s pos _ _ _ _ v.0 t.empty c.in_ok-tag.left d.pos h.here (c.cut_off_fault-cut.ensures end s.stack s.done h.shows) sc h.attributes h.namespaces v.1
      ∙ ap (λ (e : Bool). lifted (opened_by limit s v.0 e c.in_ok-tag.left d.pos)) c.if-tag.true)
      (parses_too limit end c.leaf.result _ d c.leaf.new.self (lifted (opened_by limit s v.0 true c.in_ok-tag.left d.pos)) c.parsed.ensures
      (empty_stepped limit end c.in_ok-tag.left s d old new b.nodes_limit c.leaf.new.self c.leaf.result t (scope_of s.stack) v.0 tg h.namespaces h.attributes h.limit_is c.leaf.ensures.kept.openings_left c.leaf.ensures.kept.tables c.leaf.ensures.kept.limit adds));
  goes =
      let d = some_declare c.args.context.entities.now in
      let v = c.in_ok-tag.ensures.value d.0 d.1 in
      let b = c.args.builder.now in
      goes_too _ c.leaf.result _ c.parsed.ensures (on_ok_weaker c.leaf.result (went c.args.cursor.now c.start_tag.new.cursor c.leaf.new.self c.start_tag.ensures.source)
      (fine_kept c.leaf.result c.start_tag.new.elements b.opened.items c.leaf.new.self (fine_by b.tables c.start_tag.new.elements c.in_ok-tag.tag _ v.0 b.opened.items v.2 c.requires.fine) c.leaf.ensures.kept.tables (ap (λ x. x.items) c.leaf.ensures.kept.opened)));
}

pub returns : goal.returns
returns c = record {
  value = λ limit end es s declared h.
      let v = rw h.openings_left_is at (c.in_ok-tag.ensures.value es declared) in
      let b = c.args.builder.now in
      let old = b.tables in
      let new = c.start_tag.new.elements in
      let t = c.in_ok-tag.tag in
      let pos = c.args.cursor.now.pos in
      let d = c.start_tag.new.cursor in
      let sc = c.scope-above.ensures.value c.requires.fine end s.stack s.done h.shows in
      let tg : Tagged old new t (scope_of s.stack) v.0 = subst (λ (a : List NamespaceDecl). Tagged old new t a v.0) sc v.2 in
      let shows = grown_shows end s.stack s.done b _ h.shows c.requires.fine.sound c.requires.fine.elements (grown_by old new t (scope_of s.stack) v.0 tg) refl refl refl refl in
      let adds = c.open_element.ensures.value end d.pos c.in_ok-tag.left s v.0 shows (sym h.here) (is_opening old new t (scope_of s.stack) v.0 pos tg c.in_ok-tag.ensures.starts) in
      rw (tag_is (context_of limit es c.args.context) c.args.cursor.now.text.now s pos _ _ _ _ v.0 t.empty c.in_ok-tag.left d.pos h.here (c.cut_off_fault-cut.ensures end s.stack s.done h.shows) sc h.attributes h.namespaces v.1
      ∙ ap (λ (e : Bool). lifted (opened_by limit s v.0 e c.in_ok-tag.left d.pos)) c.if-tag.false)
      (parses_too limit end c.open_element.result _ d c.open_element.new.self (lifted (opened_by limit s v.0 false c.in_ok-tag.left d.pos)) c.parsed-2.ensures
      (open_stepped limit end c.in_ok-tag.left s d old new b.nodes_limit c.open_element.new.self c.open_element.result t (scope_of s.stack) v.0 tg h.namespaces h.attributes h.limit_is c.open_element.ensures.kept.openings_left c.open_element.ensures.kept.tables c.open_element.ensures.kept.limit adds));
  goes =
      let d = some_declare c.args.context.entities.now in
      let v = c.in_ok-tag.ensures.value d.0 d.1 in
      let b = c.args.builder.now in
      let cursor = c.args.cursor.now in
      let src = cursor.text.now in
      let t = c.in_ok-tag.tag in
      let opens = subst (λ (text : List ℕ). OnOk c.open_element.result ((x : OpenElement) × (c.open_element.new.self.opened.items ≡ b.opened.items ++ x ∷ []) × IsOpened text t x))
      (ap (λ x. x.now) c.start_tag.ensures.source) c.open_element.ensures.opened in
      goes_too _ c.open_element.result _ c.parsed-2.ensures (on_ok_weaker c.open_element.result (went cursor c.start_tag.new.cursor c.open_element.new.self c.start_tag.ensures.source)
      (fine_more c.open_element.result c.start_tag.new.elements b.opened.items c.open_element.new.self src t
      (fine_by b.tables c.start_tag.new.elements t _ v.0 b.opened.items v.2 c.requires.fine) c.open_element.ensures.kept.tables opens v.2.element.scope_within v.2.once (namespace_by b.tables c.start_tag.new.elements t _ v.0 v.2)
      (λ o by. opened_named src cursor.pos _ _ t o cursor.utf8 c.requires.here (tag_named _ _ _ _ _ src cursor.pos _ _ _ v.1) v.2.name v.2.name_end c.in_ok-tag.ensures.starts by)));
}

pub open_element-requires : goal.open_element-requires
open_element-requires c =
    let d = some_declare c.args.context.entities.now in
    let v = c.in_ok-tag.ensures.value d.0 d.1 in
    let cursor = c.args.cursor.now in
    let named = tag_is_named cursor.text.now cursor.pos _ _ c.in_ok-tag.tag cursor.utf8 c.requires.here (tag_named _ _ _ _ _ cursor.text.now cursor.pos _ _ _ v.1) v.2.name v.2.name_end c.in_ok-tag.ensures.starts in
    subst (λ (text : List ℕ). SpellsName text c.in_ok-tag.tag) (sym (ap (λ x. x.now) c.start_tag.ensures.source)) named
