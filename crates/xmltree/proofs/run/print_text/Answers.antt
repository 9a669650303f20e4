use Rattle.std.proofs.Common.{subst}
use Rattle.roxmltree.specs.Document.{IsTreeOf}
use Rattle.xmltree.proofs.Printing.{if_some, without_resolver}
use Rattle.xmltree.proofs.run.print_text.Goals as goal

pub returns-in-Ok-print_document : goal.returns-in-Ok-print_document
returns-in-Ok-print_document g c =
    let d = c.default-options.ensures in
    let p = c.in-Ok.ensures.is_parse in
    record {
      path = if_some c.args.steps (λ asked h. record {
        document = c.in-Ok.document;
        asked = p.0;
        alone = without_resolver _ c.default-options.result.entity_resolver p.0 d.2 p.1;
        permits = p.2;
        parsed = subst (λ n. IsTreeOf c.args.text.now c.in-Ok.document.dtd p.0 n c.in-Ok.document.tree) d.1 p.3;
        prints = h;
      }) c.in-Ok-print_document.ensures.reached;
    }
