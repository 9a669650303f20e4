use Rattle.std.proofs.Common.{List, ◌++◌, ◌∷◌, [], ◌∙◌, map, sym, ap, subst, refl, arith}
use Rattle.rox_rows.specs.Rows.{AttributeRow, attribute_rows}
use Rattle.rox_scopes.specs.NamespaceViews.{namespace_view}
use Rattle.rox_names.specs.ResolvedNames.{row_of_compact}
use Rattle.rox_seen.specs.SeenNames.{AreSeen}
use Rattle.rox_rows.specs.declared.row.AttributeData.{AttributeData}
use Rattle.rox_rows.specs.declared.row.AttributePlaces.{AttributePlaces}
use Rattle.rox_seen.proofs.SeenCodes.{same_seen}
use Rattle.rox_names.proofs.resolve.put_compact_attribute.Goals as goal
use Rattle.rox_names.proofs.resolve.put_compact_attribute.Goals.{else-repeats-via-then-repeats+else-is_refused, else-repeats-via-else-repeats}

pub is_refused-requires : goal.is_refused-requires
is_refused-requires c = grind arith

pub returns : goal.returns
returns c = record {
  puts = record {
    from = elim c.else-repeats.branch [
      | else-repeats-via-then-repeats+else-is_refused w ↦ rw w.seen-is (w.is_refused.ensures.kept.from ∙ c.may_have-repeats.ensures.from)
      | else-repeats-via-else-repeats w ↦ rw w.seen-is c.may_have-repeats.ensures.from
    ];
    refused = λ no. c.put_compact.ensures.none no ∙ c.has_room.ensures.rows;
    are_seen = λ done.
        let row = row_of_compact c.args.one c.args.namespace in
        let item : AttributeData = row.0 in
        let grown = c.put_compact.ensures.put done ∙ ap (λ (xs : List AttributeRow). xs ++ (item, c.places-places.result) ∷ []) c.has_room.ensures.rows
        ∙ ap (λ (p : AttributePlaces). (attribute_rows c.args.attributes.now) ++ (item, p) ∷ []) c.places-places.ensures in
        let seen = c.may_have-repeats.ensures.seen row refl in
        elim c.else-repeats.branch [
          | else-repeats-via-then-repeats+else-is_refused w ↦ rw w.seen-is (subst (AreSeen w.is_refused.new.seen) (sym grown) (same_seen c.may_have-repeats.new.self w.is_refused.new.seen _ w.is_refused.ensures.kept.codes w.is_refused.ensures.kept.from seen))
          | else-repeats-via-else-repeats w ↦ rw w.seen-is (subst (AreSeen c.may_have-repeats.new.self) (sym grown) seen)
        ];
  };
  added = λ done. record {
    rows = c.put_compact.ensures.put done ∙ ap (λ (xs : List AttributeRow). xs ++ ((row_of_compact c.args.one c.args.namespace).0, c.places-places.result) ∷ []) c.has_room.ensures.rows
        ∙ ap (λ (p : AttributePlaces). attribute_rows c.args.attributes.now ++ ((row_of_compact c.args.one c.args.namespace).0, p) ∷ []) c.places-places.ensures;
    first = elim c.else-repeats.branch [
      | else-repeats-via-then-repeats+else-is_refused w ↦ rw c.may_have-repeats.ensures.from at (w.is_refused.ensures.first w.if-is_refused.false)
      | else-repeats-via-else-repeats w ↦ c.may_have-repeats.ensures.first w.if-repeats.false (map namespace_view c.args.namespaces.now.items.items) c.args.namespace
    ];
  };
}
