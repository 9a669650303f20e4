use Rattle.std.proofs.Common.{◌≡◌, flat_map, map, take, Ok}
use Rattle.std.specs.Io.KnownBytes.{Appends}
use Rattle.roxmltree.specs.NodeRef.{node_ref}
use Rattle.xmltree.specs.Listing.{reached_line}
use Rattle.xmltree.proofs.listing.write_elements.Given as goal

-- nothing has failed, and the lines of the elements so far are written
abbrev pub invariant-loop-element : goal.invariant-loop-element
invariant-loop-element g l = record {
  same : l.out.writer.ghost_name ≡ l.initial.out.writer.ghost_name;
  fine : l.out.result ≡ Ok tt;
  lines : Appends (g.W.Write.contents l.initial.out.writer.now) (g.W.Write.contents l.out.writer.now) (flat_map reached_line (map node_ref (take l.element-index l.elements)));
}
