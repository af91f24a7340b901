use Rattle.lock_modes.specs.declared.Mode.TheVariants.{IS, S, U}
use Rattle.lock_modes.specs.Compatibility.{u_is, u_s}
use Rattle.lock_modes.proofs.Compatibility.{compatible-tests, compatible-back}
use Rattle.lock_modes.proofs.laws.only_u_depends_on_the_order.Goals as goal

pub returns-clause-others : goal.returns-clause-others
returns-clause-others c = compatible-back

pub returns-clause-u_beside_readers : goal.returns-clause-u_beside_readers
returns-clause-u_beside_readers c = (u_is, u_s)

pub returns-clause-no_readers_beside_u : goal.returns-clause-no_readers_beside_u
returns-clause-no_readers_beside_u c = (
  λ h. let yes = compatible-tests IS U h in cc (yes),
  λ h. let yes = compatible-tests S U h in cc (yes),
)
