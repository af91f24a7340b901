use Rattle.std.proofs.Common.{subst}
use Rattle.lock_rules.specs.State.{State}
use Rattle.lock_rules.specs.Legal.{state_of}
use Rattle.lock_explain.specs.Endings.{AreNewVictims}
use Rattle.lock_explain.proofs.ServedCalls.{is-served}
use Rattle.lock_explain.proofs.explaining.explain.Goals as goal

pub refusal_of_entry-requires : goal.refusal_of_entry-requires
refusal_of_entry-requires c =
    let s = is-served c.args.before.now.sessions c.args.after.now.sessions c.args.before.now.history c.args.after.now.history c.args.entry.now c.requires.sessions c.requires.served c.history-history.ensures.legal c.history-history.ensures.within in
    record { session = s.session; reply = s.reply }

pub new_victims-requires-clause-served : goal.new_victims-requires-clause-served
new_victims-requires-clause-served c = is-served c.args.before.now.sessions c.args.after.now.sessions c.args.before.now.history c.args.after.now.history c.args.entry.now c.requires.sessions c.requires.served c.history-history.ensures.legal c.history-history.ensures.within

pub wait_of_entry-requires-clause-served : goal.wait_of_entry-requires-clause-served
wait_of_entry-requires-clause-served c = is-served c.args.before.now.sessions c.args.after.now.sessions c.args.before.now.history c.args.after.now.history c.args.entry.now c.requires.sessions c.requires.served c.history-history.ensures.legal c.history-history.ensures.within

pub granted_requests-requires-clause-served : goal.granted_requests-requires-clause-served
granted_requests-requires-clause-served c = is-served c.args.before.now.sessions c.args.after.now.sessions c.args.before.now.history c.args.after.now.history c.args.entry.now c.requires.sessions c.requires.served c.history-history.ensures.legal c.history-history.ensures.within

pub returns : goal.returns
returns c =
    let s = is-served c.args.before.now.sessions c.args.after.now.sessions c.args.before.now.history c.args.after.now.history c.args.entry.now c.requires.sessions c.requires.served c.history-history.ensures.legal c.history-history.ensures.within in
    let st = state_of c.args.before.now.history in
    record {
      refused = c.in_ok-refusal.ensures.refused;
      accepted = c.in_ok-refusal.ensures.accepted;
      wait = c.in_ok-wait.ensures.wait;
      no_wait = c.in_ok-wait.ensures.no_wait;
      victims = subst (λ (after : State). AreNewVictims c.args.before.now.sessions st after c.in_ok-victims.victims.items) s.state c.in_ok-victims.ensures;
      granted = rw (← s.state) c.in_ok-granted.ensures;
    }
