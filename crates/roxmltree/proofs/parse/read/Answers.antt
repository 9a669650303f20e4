use Rattle.std.proofs.Common.{◌≡◌, ◌∙◌, ℕ, Bool, List, ap, subst, arith}
use Rattle.rox_grammar.specs.Doctype.{Request}
use Rattle.rox_reading.specs.Doctype.{Reply}
use Rattle.rox_names.specs.declared.tables.Tables.{Tables}
use Rattle.rox_build.specs.Requests.{Allows}
use Rattle.rox_build.specs.Built.{Built, BuiltRefusal}
use Rattle.roxmltree.proofs.Parsed.{built_holds, built_document}
use Rattle.roxmltree.proofs.Telling.{is_first}
use Rattle.roxmltree.proofs.parse.read.Goals as goal

-- the tables that a builder of this limit gives
given : (limit n : ℕ) (allow : Bool) (allows : Request → Reply → Type 0) (src : List ℕ) (dtd : Bool) (t : Tables) → n ≡ limit → Built n allow allows src t dtd → Built limit allow allows src t dtd
given limit n allow allows src dtd t is b = subst (λ (m : ℕ). Built m allow allows src t dtd) is b

pub from_builder-requires : goal.from_builder-requires
from_builder-requires g c = grind (arith, built_document)

pub returns-clause-document : goal.returns-clause-document
returns-clause-document g c =
    let allows = Allows g.R.EntityResolver.allows c.args.opt.entity_resolver in
    let b = given c.args.opt.nodes_limit _ c.args.opt.allow_dtd allows c.args.text.now c.in-Ok-build.dtd _ c.of_root-builder.ensures.limit c.in-Ok-build.ensures.ok in
    let is = c.from_builder.ensures _ (built_holds c.args.opt.nodes_limit c.args.opt.allow_dtd allows c.args.text.now c.utf8.text _ c.in-Ok-build.dtd b) in
    record {
      text_is = ap (λ d. d.text) is;
      key_is = ap (λ d. d.key) is;
      asked = b.asked;
      allowed = b.allowed;
      texts = b.texts;
      tops = b.tops;
      read = b.read;
      seen = ap (λ d. d.dtd) is ∙ b.seen;
      shown = ap (λ d. d.tree) is;
    }

pub returns-in-Err-clause-told : goal.returns-in-Err-clause-told
returns-in-Err-clause-told g c =
    let allows = Allows g.R.EntityResolver.allows c.args.opt.entity_resolver in
    let refused = subst (λ (n : ℕ). BuiltRefusal n c.args.opt.allow_dtd allows c.args.text.now c.in-Err.refused) c.of_root-builder.ensures.limit c.in-Err.ensures.refused in
    let e = c.refusal-in-Err.ensures in
    rw e.1 (λ some. is_first c.args.opt.nodes_limit c.args.opt.allow_dtd allows c.args.text.now c.utf8.text c.in-Err.refused _ some refused e.2)
