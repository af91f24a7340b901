use Rattle.std.proofs.Common.{◌↔◌, ◌⊎◌, ◌∙◌, List, ℕ, ap, subst}
use Rattle.std.specs.List.{Contains}
use Rattle.std.proofs.lemmas.List.{take_all}
use Rattle.combining.specs.Woken.{WokenView, IsOnce}
use Rattle.combining.proofs.EndedList.{added-next, marked-once}
use Rattle.combining.proofs.woken_set.WokenSet.add_all.Goals as goal

pub loop-session-preserved : goal.loop-session-preserved
loop-session-preserved c =
    let i = c.loop-session.invariant in
    record {
      room = c.add.ensures.room ∙ i.room;
      members = added-next c.args.self.now.list c.loop-session.self.list c.add.new.self.list c.args.sessions.now c.loop-session.session-index 0 c.loop-session-test.true i.members c.add.ensures.members;
    }

pub returns-clause-members : goal.returns-clause-members
returns-clause-members c u = subst (λ (l : List ℕ). Contains c.loop-session.self.list u ↔ (Contains c.args.self.now.list u ⊎ Contains l u)) (take_all c.loop-session.session-index c.args.sessions.now c.loop-session-test.false) (c.loop-session.invariant.members u)

pub returns-clause-once : goal.returns-clause-once
returns-clause-once c = subst (λ (l : List ℕ). IsOnce l) (ap (λ (v : WokenView). v.list) c.self.view_is) (marked-once c.self.inside.words.items c.self.inside.room)
