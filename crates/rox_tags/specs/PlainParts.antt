-- What the parts of a plain tag require, and what is read of them.
use Rattle.std.specs.Prelude.{◌≡◌, ℕ, ◌+◌, ◌≤◌, true, false, List, Option, length, slice_index, IfSome, IsCharBoundary}
use Rattle.rox_grammar.specs.Chars.{is_part_char}
use Rattle.rox_grammar.specs.Runs.{run_end}
use Rattle.rox_grammar.specs.Written.{Name}
use Rattle.rox_rows.specs.Rows.{attribute_rows, numbered_place}
use Rattle.rox_names.specs.declared.tables.ElementTables.{ElementTables}
use Rattle.rox_grammar.specs.Document.{most_pairs, most_attributes}
use Rattle.rox_bytes.specs.ScanResults.{Finds}
use Rattle.rox_names.specs.TagScopes.{scope_in_tables}
use Rattle.rox_names.specs.OpenElements.{IsNamespaceOf, MayHavePrefix, open_name}
use Rattle.rox_names.specs.declared.open_element.OpenElement.{OpenElement}
use Rattle.rox_grammar.specs.WellNamed.{may_name}
use Rattle.rox_tags.specs.declared.quick_tag.TagEnd.{TagEnd}
use Rattle.rox_verbatim.specs.declared.quick_name.NamePlace.{NamePlace}
use Rattle.rox_verbatim.specs.PlainNames.{EndsNear}
use Rattle.rox_attributes.specs.PlainAttribute.{HasScope}
use Rattle.rox_tags.specs.PlainTag.{MayOpenBelow, MayOpenAt}

-- The result is the number of the namespace of an element named `name` in the scope `n`, and its prefix is known.
pub record FindsElementNamespace (t : ElementTables) (n : ℕ) (name : Name) (result : Option ℕ) : Type 0 where
  pub is : IfSome result (λ s. IsNamespaceOf t n name (numbered_place s))
  pub known : IfSome result (λ _. may_name (scope_in_tables t n) name ≡ true)

-- The name `name` may be resolved in the scope of the open element `o`.
pub record MayNameBelow (t : ElementTables) (o : OpenElement) (name : Name) : Type 0 where
  pub scope : HasScope t o.scope
  pub few : length t.namespaces.items.items ≤ most_pairs
  pub parent : IsNamespaceOf t o.scope (open_name o) (numbered_place o.namespace)
  pub named : MayHavePrefix o name.prefix

-- A tag of a name alone is at `i`, and its name ends at `j`. Its parent is `o`.
pub record MayReadBareTag (src : List ℕ) (i j : ℕ) (t : ElementTables) (o : OpenElement) : Type 0 where
  pub here : slice_index src i ≡ 60
  pub near : EndsNear src (i + 1) j
  pub closed : slice_index src j ≡ 62
  pub below : MayOpenBelow t o
  pub few_attributes : length (attribute_rows t.attributes) ≤ most_attributes

-- A start tag may be at `p`, with a name whose first part ends at `p.part`. Its parent is `o`.
pub record MayReadPlainTag (src : List ℕ) (p : NamePlace) (t : ElementTables) (o : OpenElement) : Type 0 where
  pub here : MayOpenAt src p.start t o
  pub part : Finds src (p.start + 1) p.part (run_end is_part_char src (p.start + 1))

-- If an end is returned, `>` or `/>` is at `i`.
pub record EndsTag (src : List ℕ) (i : ℕ) (result : Option TagEnd) : Type 0 where
  pub opens : IfSome result (λ e. e.empty ≡ false → (slice_index src i ≡ 62) × (e.at ≡ i + 1))
  pub closes : IfSome result (λ e. e.empty ≡ true → (slice_index src i ≡ 47) × ((slice_index src (i + 1) ≡ 62) × (e.at ≡ i + 2)))
  pub cut : IfSome result (λ e. IsCharBoundary src e.at)
