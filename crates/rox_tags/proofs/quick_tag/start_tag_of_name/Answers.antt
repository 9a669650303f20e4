use Rattle.std.proofs.Common.{◌≡◌, ◌+◌, false, [], map, refl, arith, slice_index}
use Rattle.rox_grammar.specs.Written.{Name}
use Rattle.rox_bytes.proofs.NearLemmas.{part_cut}
use Rattle.rox_scopes.specs.NamespaceViews.{namespace_view}
use Rattle.rox_attributes.specs.PlainAttribute.{HasScope}
use Rattle.rox_bytes.proofs.RunLemmas.{stands_within}
use Rattle.rox_verbatim.proofs.Verbatim.{no_space}
use Rattle.rox_tags.specs.TagAttributes.{AreOfMainText, ArePlainAttributes}
use Rattle.rox_tags.proofs.TagAttributes.{holds_start, opens_there}
use Rattle.rox_tags.proofs.WholeTags.{plain_tagged}
use Rattle.rox_names.proofs.SpelledNames.{unprefixed_name}
use Rattle.rox_tags.proofs.quick_tag.start_tag_of_name.Goals as goal

pub returns : goal.returns
returns c =
    let t = c.args.elements.now in
    let o = c.args.parent.now in
    let src = c.args.text.now in
    let i = c.args.start in
    let n = c.args.near in
    let namespaces = map namespace_view t.namespaces.items.items in
    let start = c.after_byte-name_at.ensures.place in
    let here : slice_index src n ≡ 62 = c.requires.closed in
    let cut = part_cut src (i + 1) n c.utf8.text (rw (← start) c.after_byte-name_at.ensures.cut) c.requires.near.ends.onward c.requires.near.ends.within c.requires.near.ends.passes in
    let spaces = no_space src n c.utf8.text cut (stands_within src n 62 here (omega arith)) (omega (arith, here)) in
    let parent = c.requires.below.parent in
    let begins : HasScope t o.scope = record { places = c.requires.below.places; scopes = c.requires.below.scopes; within = parent.0; once = parent.1 } in
    let is = rw start at c.ascii_name-local.ensures in
    let tagged : ArePlainAttributes AreOfMainText false o.scope t t src n c.after_byte-end.result false = rw c.after_byte-end.ensures.place (opens_there false o.scope t t src n n n (holds_start false o.scope t src n begins) (omega arith) spaces here) in
    let name : Name = record { prefix = []; local = c.ascii_name-local.result.now } in
    record {
      read = plain_tagged {such = AreOfMainText} t t o src i n c.after_byte-end.result _ c.len-from.result o.namespace c.requires.below (λ values is. is) tagged
          is refl start refl c.element_of-element.ensures c.len-from.ensures c.requires.few_attributes
          (record { within = parent.3.within; is = (rw (unprefixed_name o parent.2 c.if-parent.false) at parent.3.is) }) refl c.after_byte-end.ensures.cut;
      opens = refl;
    }
