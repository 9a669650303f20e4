use Rattle.std.proofs.lemmas.Str.{IsCharBoundary-after_ascii}
use Rattle.rox_scan.proofs.cursor.Cursor.advance.Goals as goal

pub invariant_of-self : goal.invariant_of-self
invariant_of-self c =
    let s = c.args.self.now in
    record { utf8 = s.utf8; cut = IsCharBoundary-after_ascii s.text.now s.pos s.utf8 c.requires.there c.requires.ascii }
