use Rattle.std.proofs.Common.{sym, ◌∙◌, arith, eqb-true}
use Rattle.rox_tags.proofs.OwnNames.{colon_stops, declares_whole, equals_stops, first_part}
use Rattle.rox_tags.proofs.own_declaration.declared_name.Goals as goal

pub prefixed_name-requires : goal.prefixed_name-requires
prefixed_name-requires c =
    first_part c.args.text.now c.args.start 58 c.utf8.text c.requires (eqb-true _ _ (sym c.is_at.ensures ∙ c.if-is_at.true)) (omega arith) colon_stops

pub name_without_prefix-requires : goal.name_without_prefix-requires
name_without_prefix-requires c =
    first_part c.args.text.now c.args.start 61 c.utf8.text c.requires (c.quote_after_equals.ensures.found (omega arith)).equals (omega arith) equals_stops

pub returns : goal.returns
returns c = grind (arith, first_part, equals_stops, declares_whole)
