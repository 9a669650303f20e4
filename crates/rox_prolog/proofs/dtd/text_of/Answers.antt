use Rattle.std.proofs.Common.{[], refl}
use Rattle.rox_prolog.specs.Requests.{Allows}
use Rattle.rox_prolog.proofs.Asking.{none_given}
use Rattle.rox_prolog.proofs.dtd.text_of.Goals as goal

pub returns-in-Inner : goal.returns-in-Inner
returns-in-Inner g c = ([], none_given (Allows g.R.EntityResolver.allows c.args.resolver.now), λ more. rw c.in-Inner.is refl)
