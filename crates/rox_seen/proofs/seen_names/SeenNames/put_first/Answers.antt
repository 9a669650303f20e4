use Rattle.std.proofs.Common.{rules, arith}
use Rattle.rox_rows.proofs.AttributeRows.{length_rows}
use Rattle.rox_seen.proofs.SeenCodes.{four_seen}
use Rattle.rox_seen.proofs.seen_names.SeenNames.put_first.Goals as goal

pub returns : goal.returns
returns c =
    let first = c.put.ensures.sees in
    let second = c.put-2.ensures.sees in
    let third = c.put-3.ensures.sees in
    let fourth = c.put-4.ensures.sees in
    let new = c.put-4.new.self in
    record {
      from = search rules;
      others = search rules;
      coded = four_seen new c.args.attributes.now c.index.result.now c.index-2.result.now c.index-3.result.now c.index-4.result.now
          (let n = length_rows c.args.attributes.now in grind (arith, n)) (search rules) (search rules) (search rules) (search rules)
          (fourth.kept _ (third.kept _ (second.kept _ first.put))) (fourth.kept _ (third.kept _ second.put)) (fourth.kept _ third.put) fourth.put;
    }
