use Rattle.std.proofs.Common.{refl}
use Rattle.rox_values.proofs.MainValues.{of_main}
use Rattle.rox_tags.proofs.WholeTags.{begun_tagged}
use Rattle.rox_tags.proofs.quick_tag.start_tag.Goals as goal

pub returns : goal.returns
returns c above h =
    let old = c.args.elements.now in
    let grown = c.in_ok-close.ensures.grown in
    record {
      read = begun_tagged old c.tag_attributes.new.elements above c.args.head.scope h.own c.args.text.now c.args.start c.args.head.name.end c.args.head.end c.in_ok-close.close.at _ c.len-from.result c.args.head.namespace
          h.few h.kept (of_main c.args.context.now) h.begins c.in_ok-close.ensures.read h.named h.other c.after_byte.ensures.place refl c.element_of-element.ensures c.len-from.ensures c.in_ok-close.ensures.few h.space h.known c.in_ok-close.ensures.cut;
      grown = record { more = grown.more; others = grown.others refl; rows = grown.rows };
    }
