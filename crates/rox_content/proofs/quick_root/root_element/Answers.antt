use Rattle.std.proofs.Common.{◌≡◌, [], length, refl, sym, ap, ◌∙◌, arith}
use Rattle.rox_tags.specs.RootTag.{HoldAlike, IsReadFirst}
use Rattle.rox_content.proofs.RootElements.{alike_fine, alike_state, at_root, lists_nothing, not_err}
use Rattle.rox_values.specs.DeclaredEntities.{AreMainValues}
use Rattle.rox_values.specs.declared.context.Context.{Context}
use Rattle.rox_scan.specs.declared.cursor.Cursor.{Cursor}
use Rattle.rox_tags.specs.declared.quick_tag.PlainTag.{PlainTag}
use Rattle.rox_builder.specs.Readiness.{MayReadTag}
use Rattle.rox_builder.specs.declared.builder.Builder.{Builder}
use Rattle.rox_content.proofs.PlainElements.{KeepsOthers, ReadsBelow, may_open, leaf_reads, open_reads}
use Rattle.rox_content.proofs.quick_root.root_element.Goals as goal

first_below : {around : Context} (cursor : Cursor) (b m : Builder) (t : PlainTag) → MayReadTag cursor b → length b.opened.items ≡ 0 → KeepsOthers b m → IsReadFirst (AreMainValues around) b.tables m.tables cursor.text.now cursor.pos t
    → ReadsBelow around b m [] cursor.text.now cursor.pos t
first_below cursor b m t may none same x = record {
  utf8 = cursor.utf8;
  here = may.here;
  short = x.short;
  fine = may.fine;
  scope = λ end stack done shows. lists_nothing b.tables b.opened.items stack none shows.open_rows;
  same = same;
  read = x.plain;
}

pub returns-in_default-look : goal.returns-in_default-look
returns-in_default-look c =
    let b = c.args.builder.now in
    let hold : HoldAlike b.tables c.first_tag.new.elements = rw c.in_default-look.is at c.in-Ok.ensures in
    record {
      value = λ is. absurd (cc is);
      same = λ _. refl;
      other = λ _ limit end s h.
          alike_state limit end s c.args.cursor.now b _ c.requires.fine hold refl refl refl refl refl refl h;
      goes = λ _. record {
        source = refl;
        fine = alike_fine b.tables c.first_tag.new.elements b.opened.items (omega arith) hold c.requires.fine;
      };
    }

pub put_leaf-requires : goal.put_leaf-requires
put_leaf-requires c =
    let b = c.args.builder.now in
    let x : IsReadFirst (AreMainValues c.args.context.now) b.tables c.first_tag.new.elements c.args.cursor.now.text.now c.args.cursor.now.pos c.in-Some.read = rw c.in-Some.is at c.in-Ok.ensures in
    let ready = c.rows_left.ensures 1 (omega arith) (omega arith) in
    record {
      row = record {
        ready = record { room = ready.room; few = ready.few; small = ready.small; settled = ready.settled };
        parent = at_root c.first_tag.new.elements b.opened.items (omega arith);
        start = omega (arith, x.short, c.requires.there);
      };
      end = omega (arith, x.short, x.plain.cut.0);
      small = tt;
    }

pub put_open-requires : goal.put_open-requires
put_open-requires c =
    let b = c.args.builder.now in
    let x : IsReadFirst (AreMainValues c.args.context.now) b.tables c.first_tag.new.elements c.args.cursor.now.text.now c.args.cursor.now.pos c.in-Some.read = rw c.in-Some.is at c.in-Ok.ensures in
    let r = c.rows_left.ensures 1 (omega arith) (omega arith) in
    let room = not_err c.reserve_exact.result (sym c.is_err.ensures.value ∙ c.if-is_err.false) c.reserve_exact.ensures.ok in
    may_open b _ [] c.args.cursor.now.text.now c.args.cursor.now.pos _ c.in-Some.read
    (first_below c.args.cursor.now b _ c.in-Some.read c.requires (omega arith) (record { nodes = refl; opened = c.reserve_exact.ensures.items; pending = refl; joined = refl; limit = refl; openings_left = refl }) x)
    (at_root c.first_tag.new.elements c.reserve_exact.new.self.items (omega (arith, ap length c.reserve_exact.ensures.items)))
    (record { room = r.room; few = r.few; small = r.small; settled = r.settled }) (omega (arith, x.short, c.requires.there)) (omega (arith, room))

pub returns-then-read : goal.returns-then-read
returns-then-read c =
    let b = c.args.builder.now in
    let cursor = c.args.cursor.now in
    let x : IsReadFirst (AreMainValues c.args.context.now) b.tables c.first_tag.new.elements cursor.text.now cursor.pos c.in-Some.read = rw c.in-Some.is at c.in-Ok.ensures in
    let first = first_below cursor b _ c.in-Some.read c.requires (omega arith) (record { nodes = refl; opened = refl; pending = refl; joined = refl; limit = refl; openings_left = refl }) x in
    let r = leaf_reads b _ _ [] cursor.text.now cursor.pos c.in-Some.read first c.if-read.true c.put_leaf.ensures in
    record {
      value = λ _ context end s main h. r.value (omega (arith, x.short, x.plain.cut.0)) context end s cursor _ main refl refl h;
      same = λ is. absurd (cc is);
      other = λ is. absurd (cc is);
      goes = λ _. record { source = refl; fine = r.fine };
    }

pub returns : goal.returns
returns c =
    let b = c.args.builder.now in
    let cursor = c.args.cursor.now in
    let x : IsReadFirst (AreMainValues c.args.context.now) b.tables c.first_tag.new.elements cursor.text.now cursor.pos c.in-Some.read = rw c.in-Some.is at c.in-Ok.ensures in
    let first = first_below cursor b _ c.in-Some.read c.requires (omega arith) (record { nodes = refl; opened = c.reserve_exact.ensures.items; pending = refl; joined = refl; limit = refl; openings_left = refl }) x in
    let r = open_reads b _ _ [] cursor.text.now cursor.pos c.in-Some.read first c.if-read.false c.put_open.ensures in
    record {
      value = λ _ context end s main h. r.value (omega (arith, x.short, x.plain.cut.0)) context end s cursor _ main refl refl h;
      same = λ is. absurd (cc is);
      other = λ is. absurd (cc is);
      goes = λ _. record { source = refl; fine = r.fine };
    }
