use Rattle.std.proofs.Common.{◌≡◌, ◌⊎◌, List, [], ℕ, inl, inr, subst}
use Rattle.rox_grammar.specs.declared.fault.Fault.{Fault}
use Rattle.rox_error.specs.FaultErrors.{IsErrorOf}
use Rattle.rox_error.specs.declared.error.Error.{Error}
use Rattle.rox_error.specs.declared.error.Error.TheVariants as error
use Rattle.rox_theory.specs.Limits.{IsLimit}
use Rattle.rox_faults.proofs.FaultNever.{fault_over}
use Rattle.rox_faults.proofs.FaultRefusing.{refused_over}
use Rattle.rox_laws.proofs.theorem.only_limits_refuse_a_parse.Goals as goal

-- the error of the fault of a limit
told : (source : List ℕ) (f : Fault) (e : Error) → IsLimit f → IsErrorOf source f e → (e ≡ error.NodesLimitReached) ⊎ ((e ≡ error.AttributesLimitReached) ⊎ (e ≡ error.NamespacesLimitReached))
told source f e (inl is) h = inl (subst (λ (f : Fault). IsErrorOf source f e) is h)
told source f e (inr (inl is)) h = inr (inl (subst (λ (f : Fault). IsErrorOf source f e) is h))
told source f e (inr (inr is)) h = inr (inr (subst (λ (f : Fault). IsErrorOf source f e) is h))

pub returns-clause-refusals : goal.returns-clause-refusals
returns-clause-refusals c text source limit allow dtd asked given f tops e utf8 stands parse permits same =
    told source f e (refused_over limit allow dtd text source asked given f tops utf8 stands parse permits same).0

pub returns-clause-faults : goal.returns-clause-faults
returns-clause-faults c text limit f tree e utf8 stands is = told text f e (fault_over limit text f [] is.written utf8 stands is.parse).0
