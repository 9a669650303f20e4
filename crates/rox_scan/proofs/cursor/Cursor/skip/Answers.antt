use Rattle.std.proofs.Common.{◌≡◌, ◌+◌, ℕ, List, length, true, lit<, refl, IsUtf8, IsCharBoundary}
use Rattle.rox_grammar.specs.declared.fault.Word.{Word}
use Rattle.rox_grammar.specs.declared.fault.Word.TheVariants as word
use Rattle.rox_grammar.specs.Search.{stands}
use Rattle.rox_grammar.specs.FixedTexts.{word_text}
use Rattle.rox_bytes.proofs.MarkLemmas.{stands_cut}
use Rattle.rox_scan.proofs.cursor.Cursor.skip.Goals as goal

-- a fixed text ends between two characters
word_cut : (w : Word) (src : List ℕ) (i : ℕ) → IsUtf8 src → stands (word_text w) src i ≡ true → IsCharBoundary src (i + length (word_text w))
word_cut word.CommentStart src i utf8 h = stands_cut _ src i 3 refl utf8 (lit< tt) h
word_cut word.CommentEnd src i utf8 h = stands_cut _ src i 2 refl utf8 (lit< tt) h
word_cut word.PIStart src i utf8 h = stands_cut _ src i 1 refl utf8 (lit< tt) h
word_cut word.PIEnd src i utf8 h = stands_cut _ src i 1 refl utf8 (lit< tt) h
word_cut word.XmlDeclStart src i utf8 h = stands_cut _ src i 5 refl utf8 (lit< tt) h
word_cut word.CDataStart src i utf8 h = stands_cut _ src i 8 refl utf8 (lit< tt) h
word_cut word.CDataEnd src i utf8 h = stands_cut _ src i 2 refl utf8 (lit< tt) h
word_cut word.EndTagStart src i utf8 h = stands_cut _ src i 1 refl utf8 (lit< tt) h
word_cut word.MarkupStart src i utf8 h = stands_cut _ src i 1 refl utf8 (lit< tt) h
word_cut word.DoctypeStart src i utf8 h = stands_cut _ src i 8 refl utf8 (lit< tt) h
word_cut word.Version src i utf8 h = stands_cut _ src i 6 refl utf8 (lit< tt) h
word_cut word.Encoding src i utf8 h = stands_cut _ src i 7 refl utf8 (lit< tt) h
word_cut word.Standalone src i utf8 h = stands_cut _ src i 9 refl utf8 (lit< tt) h
word_cut word.System src i utf8 h = stands_cut _ src i 5 refl utf8 (lit< tt) h
word_cut word.Public src i utf8 h = stands_cut _ src i 5 refl utf8 (lit< tt) h
word_cut word.EntityStart src i utf8 h = stands_cut _ src i 7 refl utf8 (lit< tt) h
word_cut word.ElementStart src i utf8 h = stands_cut _ src i 8 refl utf8 (lit< tt) h
word_cut word.AttlistStart src i utf8 h = stands_cut _ src i 8 refl utf8 (lit< tt) h
word_cut word.NotationStart src i utf8 h = stands_cut _ src i 9 refl utf8 (lit< tt) h
word_cut word.NData src i utf8 h = stands_cut _ src i 4 refl utf8 (lit< tt) h
word_cut word.Xml src i utf8 h = stands_cut _ src i 2 refl utf8 (lit< tt) h
word_cut word.Xmlns src i utf8 h = stands_cut _ src i 4 refl utf8 (lit< tt) h

pub invariant_of-self : goal.invariant_of-self
invariant_of-self c =
    let s = c.args.self.now in
    record { utf8 = s.utf8; cut = rw c.text.ensures (word_cut c.args.word s.text.now s.pos s.utf8 c.requires) }
