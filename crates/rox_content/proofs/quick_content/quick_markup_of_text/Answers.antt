use Rattle.rox_content.proofs.quick_content.quick_markup_of_text.Goals as goal

pub returns : goal.returns
returns c = c.markup_of_text.ensures
