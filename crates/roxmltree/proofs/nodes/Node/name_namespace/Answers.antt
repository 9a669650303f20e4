use Rattle.std.proofs.Common.{◌≡◌, ◌<◌, ℕ, Option, Some, ap, arith, subst, ◌∙◌, sym}
use Rattle.rox_grammar.specs.AtIndex.{OptionWithin}
use Rattle.roxmltree.proofs.Parts.{row_namespace, row_no_namespace, element_within}
use Rattle.rox_lists.proofs.Entries.{entry_uri}
use Rattle.rox_rows.specs.StoredNodes.{kind_of}
use Rattle.rox_rows.proofs.StoredNodes.{lent_element}
use Rattle.roxmltree.proofs.NodeRows.{row_here}
use Rattle.roxmltree.proofs.nodes.Node.name_namespace.Goals as goal

-- an element's namespace is in the table
place_within : (n : ℕ) (o : Option ℕ) (p : ℕ) → OptionWithin n o → o ≡ Some p → p < n
place_within n o p w e = let w' : OptionWithin n (Some p) = subst (λ v. OptionWithin n v) e w in w'

pub index-requires : goal.index-requires
index-requires c =
    let n = c.args.self.now in
    omega (arith, place_within _ _ c.in-Some.place (element_within n.tables.now n.document.now.tree _ _ _ n.placed.holds n.in_tree (row_here n) (sym c.kind.ensures ∙ ap kind_of c.in-Element.is)).3 (sym c.namespace_place.ensures ∙ c.in-Some.is), n.tables.now.namespaces.ok.0)

pub returns-in-Some : goal.returns-in-Some
returns-in-Some c =
    let n = c.args.self.now in
    let h = row_namespace n.tables.now n.document.now.tree _ _ _ n.placed.holds n.in_tree (row_here n) (sym c.kind.ensures ∙ ap kind_of c.in-Element.is) in
    let m = place_within _ _ c.in-Some.place (element_within n.tables.now n.document.now.tree _ _ _ n.placed.holds n.in_tree (row_here n) (sym c.kind.ensures ∙ ap kind_of c.in-Element.is)).3 (sym c.namespace_place.ensures ∙ c.in-Some.is) in
    rw c.uri.ensures (ap Some (entry_uri n.tables.now.namespaces.items c.in-Some.place _ m c.index.ensures) ∙ (rw (sym c.namespace_place.ensures ∙ c.in-Some.is) at h))

pub returns-in-None : goal.returns-in-None
returns-in-None c =
    let n = c.args.self.now in
    let h = row_namespace n.tables.now n.document.now.tree _ _ _ n.placed.holds n.in_tree (row_here n) (sym c.kind.ensures ∙ ap kind_of c.in-Element.is) in
    rw (sym c.namespace_place.ensures ∙ c.in-None.is) at h

pub returns-in_default : goal.returns-in_default
returns-in_default c =
    let n = c.args.self.now in
    row_no_namespace n.tables.now n.document.now.tree _ _ n.placed.holds n.in_tree (row_here n) (λ e h. c.in_default.not-Element e (lent_element _ e (c.kind.ensures ∙ h)))
