use Rattle.std.proofs.Common.{◌≡◌, Bool, eqb, is_some, ◌&&◌, ◌||◌, ap, sym, ◌∙◌}
use Rattle.std.proofs.lemmas.Bool.Decides.{Decides-eqb}
use Rattle.lock_rules.specs.Legal.{state_of}
use Rattle.lock_rules.specs.State.{held_mode}
use Rattle.lock_rules.proofs.Lists.{other}
use Rattle.lock_rules.proofs.Sound.{eqb-swap}
use Rattle.lock_rules.proofs.Steps.{state-lawful}
use Rattle.lock_explain.specs.inner.Graph.{waits_behind}
use Rattle.lock_explain.proofs.WaitingGraph.{waits-other, waits-newly}
use Rattle.lock_explain.proofs.cycles.waits.Goals as goal
use Rattle.lock_explain.proofs.cycles.waits.Goals.{then-other-asked, else-other-asked}

pub returns-then-waits_for : goal.returns-then-waits_for
returns-then-waits_for c =
    let a = c.args.asked.now in
    let st = state_of c.args.before.now.history in
    let edge = waits-other a.session a.resource a.target st.table c.requires.asked.idle (state-lawful c.args.before.now.history).sound.once c.args.session (other a.session c.args.session c.if-session-asked.false) c.args.other in
    sym (edge ∙ ap (λ (b : Bool). b || (eqb a.session c.args.other && (is_some (held_mode st.table a.session a.resource) && waits_behind st.table a.resource c.args.session))) (sym c.waits_for.ensures ∙ c.if-waits_for.true))

pub returns-then-asked : goal.returns-then-asked
returns-then-asked c =
    let a = c.args.asked.now in
    let st = state_of c.args.before.now.history in
    let value : c.if-other-asked.value ≡ (eqb a.session c.args.other && is_some (held_mode st.table a.session a.resource)) = elim c.if-other-asked.branch [
      | then-other-asked w ↦ w.value-is ∙ (c.requires.asked.converts ∙ ap (λ (b : Bool). b && is_some (held_mode st.table a.session a.resource)) (sym ((Decides-eqb a.session c.args.other).1 (sym w.if-other-asked.true))))
      | else-other-asked w ↦ w.value-is ∙ (other a.session c.args.other w.if-other-asked.false ∙ ap (λ (b : Bool). b && is_some (held_mode st.table a.session a.resource)) (sym (eqb-swap c.args.other a.session (other a.session c.args.other w.if-other-asked.false))))
    ] in
    let edge = waits-newly a.session a.resource a.target st.table c.requires.asked.idle (state-lawful c.args.before.now.history).sound.once c.args.session (other a.session c.args.session c.if-session-asked.false) c.if-other-asked.value c.args.other (sym c.if-waits_for.false ∙ c.waits_for.ensures) value in
    c.waits_behind.ensures ∙ (ap (λ (b : Bool). b && waits_behind st.table a.resource c.args.session) (sym c.if-asked.true) ∙ edge)

pub returns-else-asked : goal.returns-else-asked
returns-else-asked c =
    let a = c.args.asked.now in
    let st = state_of c.args.before.now.history in
    let value : c.if-other-asked.value ≡ (eqb a.session c.args.other && is_some (held_mode st.table a.session a.resource)) = elim c.if-other-asked.branch [
      | then-other-asked w ↦ w.value-is ∙ (c.requires.asked.converts ∙ ap (λ (b : Bool). b && is_some (held_mode st.table a.session a.resource)) (sym ((Decides-eqb a.session c.args.other).1 (sym w.if-other-asked.true))))
      | else-other-asked w ↦ w.value-is ∙ (other a.session c.args.other w.if-other-asked.false ∙ ap (λ (b : Bool). b && is_some (held_mode st.table a.session a.resource)) (sym (eqb-swap c.args.other a.session (other a.session c.args.other w.if-other-asked.false))))
    ] in
    let edge = waits-newly a.session a.resource a.target st.table c.requires.asked.idle (state-lawful c.args.before.now.history).sound.once c.args.session (other a.session c.args.session c.if-session-asked.false) c.if-other-asked.value c.args.other (sym c.if-waits_for.false ∙ c.waits_for.ensures) value in
    c.if-asked.false ∙ (ap (λ (b : Bool). b && waits_behind st.table a.resource c.args.session) (sym c.if-asked.false) ∙ edge)
