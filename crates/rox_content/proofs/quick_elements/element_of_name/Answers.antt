use Rattle.std.proofs.Common.{Bool, Ok, arith, refl, sym, ap, subst, ◌∙◌, List}
use Rattle.rox_grammar.specs.Written.{NamespaceDecl}
use Rattle.rox_grammar.specs.State.{scope_of}
use Rattle.rox_grammar.specs.Faults.{cut_off}
use Rattle.rox_reading.specs.Machine.{opened_by}
use Rattle.rox_reading.specs.Refusals.{lifted}
use Rattle.rox_tags.specs.ElementRow.{Tagged}
use Rattle.rox_builder.specs.BuilderState.{opened_in}
use Rattle.rox_content.proofs.Closing.{below_last}
use Rattle.rox_builder.proofs.Showing.{innermost_row}
use Rattle.rox_builder.proofs.Stepping.{top_scope}
use Rattle.rox_names.proofs.SameNames.{opened_named}
use Rattle.rox_names.proofs.SpelledNames.{tag_is_named}
use Rattle.rox_constructs.proofs.Opening.{is_opening, fine_by, fine_more, namespace_by, tag_is, open_stepped}
use Rattle.rox_content.proofs.quick_elements.element_of_name.Goals as goal

pub start_tag_of_name-requires : goal.start_tag_of_name-requires
start_tag_of_name-requires c = grind (arith, below_last)

pub returns : goal.returns
returns c = record {
  value = λ _ context end s main h.
      let b = c.args.builder.now in
      let old = b.tables in
      let split = c.in-Some.ensures.some in
      let o = c.in-Some.parent in
      let x = c.in-Some-start_tag_of_name.ensures.read in
      let t = c.in-Some-start_tag_of_name.bare.tag in
      let pos = c.args.cursor.now.pos in
      let e = c.in-Some-start_tag_of_name.bare.end in
      let src = c.args.cursor.now.text.now in
      let sc = top_scope old s.stack split.0 o (sym (ap (opened_in old) split.1) ∙ h.shows.open_rows) in
      let tg : Tagged old old t (scope_of s.stack) x.tag = subst (λ (a : List NamespaceDecl). Tagged old old t a x.tag) sc x.tagged in
      let cut = cut_off context.values.main s.stack in
      let adds = c.put_open.ensures.adds.value end e s.openings_left s x.tag h.shows (sym h.here) (is_opening old old t (scope_of s.stack) x.tag pos tg x.starts) in
      rw (tag_is context src s pos cut _ _ _ x.tag t.empty s.openings_left e h.here refl sc h.attributes h.namespaces (x.read context.values main cut s.openings_left)
      ∙ ap (λ (y : Bool). lifted (opened_by context.limit s x.tag y s.openings_left e)) c.in-Some-start_tag_of_name.ensures.opens)
      (open_stepped context.limit end s.openings_left s _ old old b.nodes_limit c.put_open.new.self (Ok tt) t (scope_of s.stack) x.tag tg h.namespaces h.attributes h.limit_is (c.put_open.ensures.adds.kept.openings_left ∙ h.openings_left_is) c.put_open.ensures.adds.kept.tables c.put_open.ensures.adds.kept.limit adds);
  other = λ no. absurd (cc no);
  ready = λ _. c.put_open.ensures.ready;
  moves = λ _. c.in-Some-start_tag_of_name.ensures.read.onward;
  goes =
      let b = c.args.builder.now in
      let cursor = c.args.cursor.now in
      let src = cursor.text.now in
      let x = c.in-Some-start_tag_of_name.ensures.read in
      let t = c.in-Some-start_tag_of_name.bare.tag in
      record {
        source = refl;
        fine = fine_more (Ok tt) b.tables b.opened.items c.put_open.new.self src t
            (fine_by b.tables b.tables t _ x.tag b.opened.items x.tagged c.requires.room.fine) c.put_open.ensures.adds.kept.tables c.put_open.ensures.adds.opened x.tagged.element.scope_within x.tagged.once (namespace_by b.tables b.tables t _ x.tag x.tagged)
            (λ o by. opened_named src cursor.pos _ _ t o cursor.utf8 c.requires.here x.named x.tagged.name x.tagged.name_end x.starts by);
      };
}

pub put_open-requires : goal.put_open-requires
put_open-requires c =
    let x = c.in-Some-start_tag_of_name.ensures.read in
    let t = c.in-Some-start_tag_of_name.bare.tag in
    let named = tag_is_named c.args.cursor.now.text.now c.args.cursor.now.pos _ _ t c.args.cursor.now.utf8 c.requires.here x.named x.tagged.name x.tagged.name_end x.starts in
    record {
      row =
          let split = c.in-Some.ensures.some in
          record {
            ready = c.requires.room.ready;
            parent = sym (innermost_row c.args.builder.now.tables c.args.builder.now.opened.items split.0 c.in-Some.parent split.1);
            start = omega (arith, c.requires.room.short, c.args.cursor.now.cut.0);
          };
      depth = c.has_room_to_open.ensures c.if-not-has_room_to_open.false;
      named = named;
      narrow = omega (arith, c.requires.room.short, named.within, x.starts);
    }
