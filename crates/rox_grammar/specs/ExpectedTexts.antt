-- The fixed texts that a fault may name.
use Rattle.std.specs.Prelude.{ℕ, List, codes}
use Rattle.rox_grammar.specs.declared.fault.Expected.{Expected}
use Rattle.rox_grammar.specs.declared.fault.Expected.TheVariants as expected

abbrev pub expected_text : Expected → List ℕ
expected_text expected.CommentEnd = codes "-->"
expected_text expected.PIEnd = codes "?>"
expected_text expected.CDataEnd = codes "]]>"
expected_text expected.Version = codes "version"
