use Rattle.std.proofs.Common.{◌≡◌, ◌+◌, ℕ, length, get_or, true, refl, sym, ap, ◌∙◌, subst, arith}
use Rattle.lock_rules.specs.Waits.{waits_for}
use Rattle.waits_for.proofs.CyclesFound.{cycle-within}
use Rattle.lock_desk.specs.Deadlocks.{IsMember}
use Rattle.lock_desk.proofs.CyclesTold.{AreFirstTold, session_behind, behind-within, first-none, first-more, waits-behind, cycle-told}
use Rattle.lock_desk.proofs.deadlock_log.write_cycle.Goals as goal

pub loop-index-init : goal.loop-index-init
loop-index-init c = record {
  room = refl;
  few = omega (arith, ap length c.clear.ensures.items);
  told = λ st i h. subst (AreFirstTold st c.args.positions.now 0) (sym c.clear.ensures.items) (first-none st c.args.positions.now);
}

pub session_at-session-requires : goal.session_at-session-requires
session_at-session-requires c =
    let within = cycle-within c.args.table.now.waits.rows _ c.args.positions.now c.requires.cycle c.loop-index.index c.loop-index-test.true in
    omega (arith, within, c.requires.ready.ready.few)

pub session_at-next-requires : goal.session_at-next-requires
session_at-next-requires c =
    let behind = behind-within (length c.args.positions.now) c.loop-index.index c.loop-index-test.true in
    let within = cycle-within c.args.table.now.waits.rows _ c.args.positions.now c.requires.cycle c.index_behind.result (omega (arith, behind, c.index_behind.ensures)) in
    omega (arith, within, c.requires.ready.ready.few)

pub loop-index-preserved : goal.loop-index-preserved
loop-index-preserved c =
    let k = c.loop-index.invariant in
    let ps = c.args.positions.now in
    let at = c.loop-index.index in
    record {
      room = c.push_member.ensures.room ∙ k.room;
      few = omega (arith, c.push_member.ensures.few, k.few);
      told = λ st i h.
          let d = c.args.table.now in
          let own = c.session_at-session.ensures in
          let next : c.session_at-next.result ≡ session_behind ps (at + 1) = c.session_at-next.ensures ∙ ap (λ (n : ℕ). get_or ps n 0 + 1) c.index_behind.ensures in
          let waits = waits-behind d c.requires.whole c.requires.ready ps c.requires.cycle st i h at c.loop-index-test.true in
          let p = c.push_member.ensures.told st i h (subst (λ (u : ℕ). waits_for st.table u c.session_at-next.result ≡ true) (sym own) (subst (λ (u : ℕ). waits_for st.table (get_or ps at 0 + 1) u ≡ true) (sym next) waits)) in
          subst (AreFirstTold st ps (at + 1)) (sym p.1)
          (first-more st ps at c.loop-index.cycle.items p.0 c.loop-index-test.true (k.told st i h) (p.2 ∙ own) (subst (λ (u : ℕ). IsMember st u p.0) next p.3));
    }

pub returns-clause-cycle : goal.returns-clause-cycle
returns-clause-cycle c = λ st session i h v.
    cycle-told c.args.table.now c.args.positions.now st session c.loop-index.index c.loop-index.cycle.items c.requires.cycle (omega (arith, c.loop-index-test.false, c.loop-index.auto.index-end)) v (c.loop-index.invariant.told st i h)
