-- What is kept of an open element is what its tag says.
use Rattle.std.proofs.Common.{◌≡◌, ℕ, ◌<◌, List, arith}
use Rattle.std.specs.Prelude.{◌^◌}
use Rattle.rox_grammar.specs.Tree.{listed}
use Rattle.rox_grammar.specs.Written.{NamespaceDecl, Tag}
use Rattle.rox_builder.specs.BuilderState.{IsOpening, opened, tag_row}
use Rattle.rox_names.specs.SpelledNames.{KeepsName, SpellsName}
use Rattle.rox_names.specs.declared.open_element.OpenElement.{OpenElement}
use Rattle.rox_names.specs.TagScopes.{lists_in}
use Rattle.rox_names.specs.declared.tables.ElementTables.{ElementTables}
use Rattle.rox_names.specs.declared.start_tag.StartTag.{StartTag}

-- what is kept of an open element is what its tag says
pub tag_shown : (t : ElementTables) (above : List NamespaceDecl) (start : ℕ) (tag : StartTag) (view : Tag) (text : List ℕ) (x : OpenElement) → IsOpening t above start tag view → SpellsName text tag
    → KeepsName text tag x.name_count x.source.now → tag.name_end < 2 ^ 64 → x.scope ≡ tag.element.scope → opened (lists_in t) x ≡ tag_row x.row start view (listed above view.declarations)
tag_shown t above start tag view text x op spells kept short scope = grind arith
