-- An element of which no ancestor lists a namespace.
use Rattle.std.specs.Prelude.{ℕ, ◌==◌, ◌&&◌, Bool, true, [], nat_lt, if◌then◌else◌}
use Rattle.rox_grammar.specs.Forest.{Forest, Nil, Cons}
use Rattle.rox_grammar.specs.Written.{Item, Element, Text, Comment, PI}
use Rattle.rox_grammar.specs.Tree.{listed}
use Rattle.rox_grammar.specs.Exchange.{none_of}

-- Whether no ancestor of the element that starts at `s` lists a namespace, in a row of siblings whose parent lists none.
abbrev pub is_contained : ℕ → Forest Item → Bool
is_contained s Nil = true
is_contained s (Cons (Element a z t) children rest) =
    if a == s then true
    else if nat_lt s z then none_of (listed [] t.declarations) && is_contained s children
    else is_contained s rest
is_contained s (Cons (Text a z v borrowed) children rest) = is_contained s rest
is_contained s (Cons (Comment a z v) children rest) = is_contained s rest
is_contained s (Cons (PI a z v o) children rest) = is_contained s rest
