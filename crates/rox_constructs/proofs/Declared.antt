-- The entities that are held are those that some declarations declare.
use Rattle.std.proofs.Common.{◌≡◌, ℕ, ◌==◌, Bool, true, false, cond, List, [], ◌∷◌, Option, Some, refl, sym, ap, ◌∙◌, subst, bytes_eq, Bor, eqb-true}
use Rattle.std.specs.Prelude.{option_map}
use Rattle.std.specs.BTreeMap.{is_at}
use Rattle.std.specs.Map.{lookup}
use Rattle.std.specs.Cmp.Lexicographic.{slice_cmp}
use Rattle.std.specs.Ordering.{is_eq, nat_cmp, ordering_then}
use Rattle.std.proofs.lemmas.Cmp.{nat_list_eq_equiv}
use Rattle.rox_grammar.specs.Entities.{Replacement, Entity, text_of}
use Rattle.rox_grammar.proofs.FirstEntity.{text_of_first}
use Rattle.rox_scan.specs.Views.{replacement_view}
use Rattle.rox_scan.specs.declared.cursor.Cursor.{Cursor}
use Rattle.rox_values.specs.DeclaredEntities.{AreDeclared}
use Rattle.rox_values.specs.HeldEntities.{code_of, named_cmp}
use Rattle.rox_values.proofs.Naming.{named_alike, named_otherwise}
use Rattle.rox_values.specs.declared.entities.Entities.{Entities}

-- those that are held behind their codes, as others are not found
declarations : List ((ℕ × Bor (List ℕ)) × Cursor) → List Entity
declarations [] = []
declarations (e ∷ es) = cond (e.0.0 == code_of e.0.1.now) (record { name = e.0.1.now; text = replacement_view e.1 } ∷ declarations es) (declarations es)

mapped : (b : Bool) (c : Cursor) (o : Option Cursor) (p : Option Replacement) → option_map replacement_view o ≡ p → option_map replacement_view (cond b (Some c) o) ≡ cond b (Some (replacement_view c)) p
mapped true c o p h = refl
mapped false c o p h = h

looked_up : (es : List ((ℕ × Bor (List ℕ)) × Cursor)) (name : List ℕ) → option_map replacement_view (lookup (is_at (named_cmp name)) es) ≡ text_of (declarations es) name
unfolding declarations
looked_up [] name = refl
looked_up (e ∷ es) name =
    mapped _ e.1 _ (text_of (declarations es) name) (looked_up es name) ∙ by_code (e.0.0 == code_of e.0.1.now) refl
  where
    by_code : (b : Bool) → b ≡ (e.0.0 == code_of e.0.1.now) → cond (is_at (named_cmp name) e.0) (Some (replacement_view e.1)) (text_of (declarations es) name) ≡ text_of (cond b (record { name = e.0.1.now; text = replacement_view e.1 } ∷ declarations es) (declarations es)) name
    by_code true k =
        let same : e.0.0 ≡ code_of e.0.1.now = eqb-true _ _ (sym k) in
        ap (λ (b : Bool). cond b (Some (replacement_view e.1)) (text_of (declarations es) name)) (subst (λ (n : ℕ). is_eq (ordering_then (nat_cmp (code_of name) n) (slice_cmp nat_cmp name e.0.1.now)) ≡ bytes_eq name e.0.1.now) (sym same) (named_alike name e.0.1.now) ∙ nat_list_eq_equiv.symm name e.0.1.now)
        ∙ sym (text_of_first (record { name = e.0.1.now; text = replacement_view e.1 }) (declarations es) name)
    by_code false k = ap (λ (b : Bool). cond b (Some (replacement_view e.1)) (text_of (declarations es) name)) (named_otherwise name e.0.1.now e.0.0 (sym k))

pub some_declare : (e : Entities) → (es : List Entity) × AreDeclared es e
some_declare e = (declarations e.texts.entries, record { texts = looked_up e.texts.entries })
