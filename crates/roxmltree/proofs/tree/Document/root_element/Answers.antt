use Rattle.std.proofs.Common.{arith}
use Rattle.roxmltree.proofs.Tops.{is_document, root_element_there}
use Rattle.roxmltree.proofs.tree.Document.root_element.Goals as goal

pub returns-in-None : goal.returns-in-None
returns-in-None c = grind (arith, is_document, root_element_there)
