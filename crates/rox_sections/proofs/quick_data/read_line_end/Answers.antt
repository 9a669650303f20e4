use Rattle.std.proofs.Common.{refl, arith}
use Rattle.rox_sections.proofs.PlainReads.{fine_same}
use Rattle.rox_sections.proofs.quick_data.read_line_end.Goals as goal

pub returns : goal.returns
returns c =
    let less = c.if-end-gt-MOST_BYTES.false in
    let read = c.put_line_end-end.ensures in
    record {
      value = λ _ context end s main h. read.value (omega (arith, less)) context end s c.args.cursor.now _ main refl refl h;
      other = λ no. absurd (cc no);
      ready = λ _. read.ready (omega (arith, less));
      moves = λ _. read.moves (omega (arith, less));
      goes = record { source = refl; fine = fine_same c.args.builder.now c.put_line_end-end.new.builder c.requires.room.fine read.tables read.opened };
      opened = read.opened;
      rows = λ _. read.rows (omega (arith, less));
      behind = λ _. read.behind (omega (arith, less));
    }
