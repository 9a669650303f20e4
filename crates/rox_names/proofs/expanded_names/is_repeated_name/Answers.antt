use Rattle.std.proofs.Common.{◌≡◌, Bool, not, sym, ap, ◌∙◌, arith}
use Rattle.rox_names.specs.ExpandedNames.{is_key}
use Rattle.rox_names.proofs.Seeing.{has_is, any_inserted, key_cmp}
use Rattle.rox_names.proofs.expanded_names.is_repeated_name.Goals as goal

not_not : (b : Bool) → not (not b) ≡ b
not_not b = grind arith

pub returns-in-Ok : goal.returns-in-Ok
returns-in-Ok c = record {
  value =
      ap not c.in-Ok.ensures.added ∙ not_not _ ∙ sym (has_is c.args.seen.now.keys (c.args.local, c.args.uri));
  more = λ new l u.
      let absent = sym (ap not c.in-Ok.ensures.added ∙ not_not _) ∙ new in
      ap (λ ks. Rattle.std.specs.List.list_any (is_key l u) ks) c.in-Ok.ensures.keys ∙ any_inserted key_cmp (is_key l u) c.args.seen.now.keys (c.args.local, c.args.uri) absent;
}
