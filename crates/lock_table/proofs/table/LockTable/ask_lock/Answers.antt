use Rattle.std.proofs.Common.{ℕ, ◌+◌, ◌∙◌, Bool, false, inl, inr, vec_len, sym, ap, arith, subst, List}
use Rattle.std.proofs.lemmas.Bool.{cases_Bool}
use Rattle.lock_rules.specs.State.{State}
use Rattle.lock_rules.specs.Step.{target_of, is_held}
use Rattle.lock_table.specs.Deadlocks.{moments_at}
use Rattle.lock_table.specs.inner.Cells.{is_granted}
use Rattle.lock_table.specs.Changes.{mode_held, HasAsked}
use Rattle.lock_table.proofs.AfterStep.{first_state}
use Rattle.lock_table.proofs.Simulation.{granted-answer, waits-shown_first, waits-sound, waits-numbered, waits-answer}
use Rattle.lock_table.proofs.FewRequests.{few-waits}
use Rattle.lock_table.proofs.EndedWaits.{waits_ended-on}
use Rattle.lock_table.proofs.DeadlocksOfCalls.{none-if-granted, those-if-waits}
use Rattle.lock_table.proofs.table.LockTable.ask_lock.Goals as goal

pub returns-in-Granted-clause-ask : goal.returns-in-Granted-clause-ask
returns-in-Granted-clause-ask g c = λ st i j h.
    let d = c.args.self.now in
    let s = c.args.session in
    let r = c.args.found.resource in
    let m = c.target_of-target.result in
    granted-answer d c.request.new.self st s r c.args.mode m c.requires.may_serve.whole i h c.requires.may (c.target_of-target.ensures ∙ ap (λ o. target_of o c.args.mode) c.requires.held)
    (λ y. (c.in_ok-request.ensures.held y).1)
    (λ n. subst (λ (b : Bool). HasAsked s r c.target_of-target.result b c.args.self.now c.request.new.self) (ap is_granted c.in-Granted.is) (c.in_ok-request.ensures.asked n))

pub returns-in-Waiting-clause-ask : goal.returns-in-Waiting-clause-ask
returns-in-Waiting-clause-ask g c = λ st i j h.
    let d = c.args.self.now in
    let s = c.args.session in
    let r = c.args.found.resource in
    let m = c.target_of-target.result in
    let target = c.target_of-target.ensures ∙ ap (λ o. target_of o c.args.mode) c.requires.held in
    elim (cases_Bool (is_held (mode_held c.args.self.now c.args.session c.args.found.resource) c.target_of-target.result)) [
      | inl y ↦ absurd (let a = (c.in_ok-request.ensures.held y).0 in let b = ap is_granted c.in-Waiting.is in cc)
      | inr n ↦
          let k = subst (λ (b : Bool). HasAsked c.args.session c.args.found.resource c.target_of-target.result b c.args.self.now c.request.new.self) (ap is_granted c.in-Waiting.is) (c.in_ok-request.ensures.asked n) in
          let sound = waits-sound d c.request.new.self st s r c.args.mode m c.requires.may_serve.whole i h c.requires.may target n k in
          let first = waits-shown_first d c.request.new.self st s r c.args.mode m c.requires.may_serve.whole i h c.requires.may target n k in
          let numbered = waits-numbered d c.request.new.self st s r c.args.mode m c.requires.may_serve.whole i h c.requires.may target n k j in
          let long = c.requires.may_serve.ready.long in
          let few = few-waits c.request.new.self (first_state st s r m false) c.request.ensures.kept.whole sound first c.args.self.now.waits.rows.sessions (omega (arith, long, c.request.ensures.kept.lockers, c.request.new.self.lockers.ok.0)) in
          waits-answer d c.request.new.self st s r c.args.mode m c.requires.may_serve.whole i h c.requires.may target n k (vec_len c.request.new.self.lockers + 1) c.resolve_for.new.self
          (omega (arith, few, long, c.request.ensures.kept.lockers)) c.resolve_for.ensures.kept.whole (c.resolve_for.ensures.settled (first_state st s r m false) sound numbered first) c.standing_reply.result c.standing_reply.ensures
    ]

pub returns-in-Waiting-clause-waits_ended : goal.returns-in-Waiting-clause-waits_ended
returns-in-Waiting-clause-waits_ended g c = waits_ended-on c.args.session c.args.self.now c.request.new.self c.resolve_for.new.self c.request.ensures.waits_ended c.resolve_for.ensures.waits_ended

pub returns-in-Granted-clause-noted : goal.returns-in-Granted-clause-noted
returns-in-Granted-clause-noted g c = λ st i j h.
    let d = c.args.self.now in
    let s = c.args.session in
    let r = c.args.found.resource in
    let m = c.target_of-target.result in
    let target = c.target_of-target.ensures ∙ ap (λ o. target_of o c.args.mode) c.requires.held in
    let none = none-if-granted d c.request.new.self st s r c.args.mode m h target
    (λ n. subst (λ (b : Bool). HasAsked s r m b d c.request.new.self) (ap is_granted c.in-Granted.is) (c.in_ok-request.ensures.asked n)) in
    subst (λ (sts : List State). g.N.DeadlockNotes.noted (moments_at c.args.served s sts) c.args.notes.now c.args.notes.now) (sym none) (g.met.N.DeadlockNotes.none c.args.notes.now)

pub returns-in-Waiting-clause-noted : goal.returns-in-Waiting-clause-noted
returns-in-Waiting-clause-noted g c = λ st i j h.
    let d = c.args.self.now in
    let s = c.args.session in
    let r = c.args.found.resource in
    let m = c.target_of-target.result in
    let target = c.target_of-target.ensures ∙ ap (λ o. target_of o c.args.mode) c.requires.held in
    elim (cases_Bool (is_held (mode_held c.args.self.now c.args.session c.args.found.resource) c.target_of-target.result)) [
      | inl y ↦ absurd (let a = (c.in_ok-request.ensures.held y).0 in let b = ap is_granted c.in-Waiting.is in cc)
      | inr n ↦
          let e = c.request.new.self in
          let k = subst (λ (b : Bool). HasAsked s r m b d e) (ap is_granted c.in-Waiting.is) (c.in_ok-request.ensures.asked n) in
          let sound = waits-sound d e st s r c.args.mode m c.requires.may_serve.whole i h c.requires.may target n k in
          let first = waits-shown_first d e st s r c.args.mode m c.requires.may_serve.whole i h c.requires.may target n k in
          let numbered = waits-numbered d e st s r c.args.mode m c.requires.may_serve.whole i h c.requires.may target n k j in
          let long = c.requires.may_serve.ready.long in
          let few = few-waits e (first_state st s r m false) c.request.ensures.kept.whole sound first d.waits.rows.sessions (omega (arith, long, c.request.ensures.kept.lockers, e.lockers.ok.0)) in
          let those = those-if-waits d e st s r c.args.mode m h target n k sound (vec_len e.lockers + 1) (omega (arith, few, long, c.request.ensures.kept.lockers)) in
          subst (λ (sts : List State). g.N.DeadlockNotes.noted (moments_at c.args.served s sts) c.args.notes.now c.resolve_for.new.notes) (sym those)
          (c.resolve_for.ensures.noted (first_state st s r m false) sound numbered first)
    ]

pub resolve_for-requires-clause-fits : goal.resolve_for-requires-clause-fits
resolve_for-requires-clause-fits g c = subst (λ (n : ℕ). g.N.DeadlockNotes.fits n c.args.notes.now) (sym c.request.ensures.kept.lockers) c.requires.fits

pub returns-in-Waiting-clause-fits : goal.returns-in-Waiting-clause-fits
returns-in-Waiting-clause-fits g c = subst (λ (n : ℕ). g.N.DeadlockNotes.fits n c.resolve_for.new.notes) c.request.ensures.kept.lockers c.resolve_for.ensures.fits
