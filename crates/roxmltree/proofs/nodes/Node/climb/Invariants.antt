use Rattle.std.proofs.Common.{◌≡◌, length}
use Rattle.roxmltree.specs.Places.{place}
use Rattle.roxmltree.specs.Climbing.{up_to}
use Rattle.roxmltree.proofs.nodes.Node.climb.Given as goal

abbrev pub invariant-loop-document : goal.invariant-loop-document
invariant-loop-document l =
    record {
      document : l.node.document ≡ l.self.document;
      toward : up_to l.self.document.now.tree l.node.id.0 l.ancestor.0 ≡ up_to l.self.document.now.tree l.self.id.0 l.ancestor.0;
    }

abbrev pub decreases-loop-document : goal.decreases-loop-document
decreases-loop-document l = length (place l.node.document.now.tree l.node.id.0).above
