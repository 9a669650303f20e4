use Rattle.std.proofs.Common.{refl}
use Rattle.rox_content.proofs.quick_elements.put_element.Goals as goal

pub returns-then-read : goal.returns-then-read
returns-then-read c = record { end = refl; leaf = λ _. c.put_leaf.ensures; opens = λ is. absurd (cc (is, c.if-read.true)) }

pub returns : goal.returns
returns c = record { end = refl; leaf = λ is. absurd (cc (is, c.if-read.false)); opens = λ _. c.put_open.ensures }

pub put_leaf-requires : goal.put_leaf-requires
put_leaf-requires c = record { row = c.requires.opens.row; end = c.requires.end; small = tt }

pub put_open-requires : goal.put_open-requires
put_open-requires c = c.requires.opens
