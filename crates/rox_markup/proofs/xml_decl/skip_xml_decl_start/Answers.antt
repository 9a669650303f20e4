use Rattle.std.proofs.Common.{lit<}
use Rattle.rox_bytes.proofs.MarkLemmas.{stands_front_cut}
use Rattle.rox_markup.proofs.xml_decl.skip_xml_decl_start.Goals as goal

pub invariant_of-cursor : goal.invariant_of-cursor
invariant_of-cursor c =
    let s = c.args.cursor.now in
    record { utf8 = s.utf8; cut = stands_front_cut _ s.text.now s.pos 4 (lit< tt) s.utf8 (lit< tt) c.requires }
