use Rattle.std.proofs.Common.{map, sym, subst, refl, ◌∙◌, arith}
use Rattle.rox_scopes.specs.NamespaceViews.{namespace_view}
use Rattle.rox_names.specs.ResolvedNames.{row_of_unresolved}
use Rattle.rox_seen.specs.SeenNames.{AreSeen}
use Rattle.rox_seen.proofs.SeenCodes.{same_seen}
use Rattle.rox_names.proofs.resolve.put_attribute_of.Goals as goal
use Rattle.rox_names.proofs.resolve.put_attribute_of.Goals.{else-repeats-via-then-repeats+else-is_refused, else-repeats-via-else-repeats}

pub is_refused-requires : goal.is_refused-requires
is_refused-requires c = grind arith

pub returns : goal.returns
returns c = record {
  puts = record {
    from = elim c.else-repeats.branch [
      | else-repeats-via-then-repeats+else-is_refused w ↦ rw w.seen-is (w.is_refused.ensures.kept.from ∙ c.may_have-repeats.ensures.from)
      | else-repeats-via-else-repeats w ↦ rw w.seen-is c.may_have-repeats.ensures.from
    ];
    refused = search;
    are_seen = λ done.
        let grown = c.put.ensures.put done in
        let seen = c.may_have-repeats.ensures.seen (row_of_unresolved c.args.own c.args.namespace) refl in
        elim c.else-repeats.branch [
          | else-repeats-via-then-repeats+else-is_refused w ↦ rw w.seen-is (subst (AreSeen w.is_refused.new.seen) (sym grown) (same_seen c.may_have-repeats.new.self w.is_refused.new.seen _ w.is_refused.ensures.kept.codes w.is_refused.ensures.kept.from seen))
          | else-repeats-via-else-repeats w ↦ rw w.seen-is (subst (AreSeen c.may_have-repeats.new.self) (sym grown) seen)
        ];
  };
  added = λ done. record {
    rows = c.put.ensures.put done;
    first = elim c.else-repeats.branch [
      | else-repeats-via-then-repeats+else-is_refused w ↦ rw c.may_have-repeats.ensures.from at (w.is_refused.ensures.first w.if-is_refused.false)
      | else-repeats-via-else-repeats w ↦ c.may_have-repeats.ensures.first w.if-repeats.false (map namespace_view c.args.namespaces.now.items.items) c.args.namespace
    ];
  };
}
