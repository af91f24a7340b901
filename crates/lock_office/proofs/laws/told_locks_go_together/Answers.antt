use Rattle.lock_office.proofs.by_calls.ToldTogether.{modes-together, access-apart}
use Rattle.lock_office.specs.ProgramBoards.{flat_history}
use Rattle.lock_office.specs.HoldsAsTold.{HoldsAsTold}
use Rattle.lock_office.proofs.Held.{held}
use Rattle.lock_office.proofs.laws.told_locks_go_together.Goals as goal

pub returns-clause-modes : goal.returns-clause-modes
returns-clause-modes c h t u r m k legal ne a b =
    let refuses = c.refusals_keep_the_state.ensures.keeps in
    modes-together (flat_history h) t.number u.number ne (HoldsAsTold t.collected t.pending) (HoldsAsTold u.collected u.pending)
    (held refuses h legal t.number t.collected t.pending a) (held refuses h legal u.number u.collected u.pending b) r m k

pub returns-clause-access : goal.returns-clause-access
returns-clause-access c h t u x legal ne a b =
    let refuses = c.refusals_keep_the_state.ensures.keeps in
    access-apart (flat_history h) t.number u.number ne (HoldsAsTold t.collected t.pending) (HoldsAsTold u.collected u.pending)
    (held refuses h legal t.number t.collected t.pending a) (held refuses h legal u.number u.collected u.pending b) x
