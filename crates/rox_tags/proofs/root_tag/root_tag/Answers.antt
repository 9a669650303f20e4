use Rattle.std.proofs.Common.{refl, arith, length-append}
use Rattle.rox_tags.proofs.TagAttributes.{has_scope}
use Rattle.rox_tags.proofs.RootTags.{root_tagged}
use Rattle.rox_tags.proofs.root_tag.root_tag.Goals as goal

pub root_attributes-requires : goal.root_attributes-requires
root_attributes-requires c = record { cut = c.in_ok-name.ensures.name.cut; short = c.requires.short; begins = (c.requires.begins, refl) }

pub namespace_in_scope-requires : goal.namespace_in_scope-requires
namespace_in_scope-requires c = grind (arith, has_scope)

pub element_of-element-requires : goal.element_of-element-requires
element_of-element-requires c = grind (arith, length-append)

pub returns : goal.returns
returns c =
    let old = c.args.elements.now in
    let new = c.root_attributes.new.elements in
    let src = c.args.text.now in
    let i = c.args.start in
    let name = c.in_ok-name.name in
    let end = c.in_ok-end.ensures in
    let start = c.after_byte-name_start.ensures.place in
    let named = c.in_ok-namespace.ensures in
    record {
      read = λ blank none same. root_tagged blank old new src i name.end c.in_ok-end.end.at _ c.len-from.result c.in_ok-namespace.namespace none same end.read c.in_ok-name.ensures.name.value c.in_ok-name.ensures.other start refl c.element_of-element.ensures c.len-from.ensures end.few named.is named.known end.cut;
      grown = record { more = end.grown.more; rows = end.grown.rows };
    }
