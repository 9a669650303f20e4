-- Documents without a document type declaration.
use Rattle.std.proofs.Common.{true, false, ◌≡◌, ℕ, Bool, not, ◌&&◌, List, [], arith}
use Rattle.std.specs.Prelude.{IsUtf8}
use Rattle.rox_grammar.specs.Doctype.{Asked}
use Rattle.rox_grammar.specs.Document.{IsTreeOf}
use Rattle.rox_grammar.specs.Exchange.{self_contained}
use Rattle.roxmltree.specs.DocumentView.{DocumentView}
use Rattle.roxmltree.specs.SelfContained.{stands_alone}
use Rattle.roxmltree.proofs.Parsed.{plain_tree}

-- what is true of every document
abbrev pub IsParsed : DocumentView → Type 0
IsParsed d = (asked : List Asked) × IsTreeOf d.text d.dtd asked 4294967295 d.tree

-- nothing was asked
pub plain_document : (d : DocumentView) → IsUtf8 d.text → d.dtd ≡ false → IsParsed d → IsTreeOf d.text false [] 4294967295 d.tree
plain_document d utf8 none parsed = plain_tree d.text d.dtd parsed.0 4294967295 d.tree utf8 none parsed.1

both_parts : (x y : Bool) → (not x && y) ≡ true → (x ≡ false) × (y ≡ true)
both_parts x y h = grind arith

-- of an element that stands alone
pub alone_tree : (d : DocumentView) (id : ℕ) → IsUtf8 d.text → stands_alone d id ≡ true → IsParsed d → IsTreeOf d.text false [] 4294967295 d.tree
alone_tree d id utf8 alone = plain_document d utf8 (both_parts d.dtd (self_contained d.tree id) alone).0

pub alone_contained : (d : DocumentView) (id : ℕ) → stands_alone d id ≡ true → self_contained d.tree id ≡ true
alone_contained d id alone = (both_parts d.dtd (self_contained d.tree id) alone).1
