use Rattle.std.proofs.Common.{◌≡◌, true, false, refl, sym, ◌∙◌, bytes_eq}
use Rattle.rox_grammar.specs.declared.fault.Word.TheVariants.{Xmlns}
use Rattle.rox_grammar.specs.FixedTexts.{word_text}
use Rattle.rox_names.specs.TagDeclarations.{unresolved_view}
use Rattle.rox_names.proofs.unresolved_attribute.UnresolvedAttribute.test_uri.Goals as goal

pub returns-then-same_text : goal.returns-then-same_text
returns-then-same_text c =
    let a = unresolved_view c.args.self.now in
    let k = c.test_prefix_uri.ensures a refl (sym c.as_str-uri.ensures) refl in
    let t : bytes_eq a.name.prefix (word_text Xmlns) ≡ true = sym c.same_text.ensures ∙ c.if-same_text.true in rw t k

pub returns : goal.returns
returns c =
    let a = unresolved_view c.args.self.now in
    let t : bytes_eq a.name.prefix (word_text Xmlns) ≡ false = sym c.same_text.ensures ∙ c.if-same_text.false in rw t (c.test_default_uri.ensures a (sym c.as_str-uri.ensures) refl)
