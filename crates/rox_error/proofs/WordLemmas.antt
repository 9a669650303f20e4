-- The fixed texts are text.
use Rattle.std.proofs.Common.{refl, IsUtf8}
use lib.Utf8.{encode}
use Rattle.rox_grammar.specs.declared.fault.Expected.{Expected}
use Rattle.rox_grammar.specs.declared.fault.Expected.TheVariants.{CommentEnd}
use Rattle.rox_grammar.specs.ExpectedTexts.{expected_text}

-- each fixed text is its own characters
pub word_utf8 : (w : Expected) → IsUtf8 (expected_text w)
unfolding encode
word_utf8 CommentEnd = (expected_text CommentEnd, (refl, refl))
word_utf8 w = (expected_text w, (refl, refl))
