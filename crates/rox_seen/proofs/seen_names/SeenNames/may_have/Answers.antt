use Rattle.std.proofs.Common.{rules, ◌∷◌, ◌++◌, [], sym, subst, drop, refl}
use Rattle.rox_rows.specs.Rows.{attribute_rows}
use Rattle.rox_seen.specs.SeenNames.{SeesName}
use Rattle.rox_seen.proofs.SeenCodes.{codes_alone, none_rows, are_more}
use Rattle.rox_seen.proofs.seen_names.SeenNames.may_have.Goals as goal

pub returns : goal.returns
returns c = record {
  from = search rules;
  others = codes_alone c.args.self.now c.put_few.new.self c.put.new.self c.put_few.ensures.others c.put.ensures.others;
  first = λ no namespaces s.
      let few = c.put_few.new.self in
      rw c.put_few.ensures.from at (none_rows namespaces s c.args.local.now few.codes (drop few.from (attribute_rows c.args.attributes.now)) c.put_few.ensures.coded (c.put.ensures.fresh no));
  seen = λ row same.
      let few = c.put_few.new.self in
      let rows = attribute_rows c.args.attributes.now in
      are_more few c.put.new.self rows (rows ++ row ∷ []) row refl (rw c.put_few.ensures.from c.requires.from) (subst (SeesName few c.put.new.self) (sym same) c.put.ensures.sees) c.put_few.ensures.coded;
}
