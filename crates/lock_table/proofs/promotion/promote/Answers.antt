use Rattle.std.proofs.Common.{◌≡◌, suc, ◌+◌, ◌≤◌, List, vec_len, take, drop, ◌∙◌, arith, ap, sym, refl, inl, subst}
use Rattle.lock_holders.specs.declared.session_mode.SessionMode.{SessionMode}
use Rattle.lock_table.specs.inner.Cells.{view_of}
use Rattle.lock_holders.specs.SessionModes.{times, with_holder, AreOfSessions}
use Rattle.lock_table.specs.inner.Blocking.{AreWritten, DoFollow, with_holders}
use Rattle.lock_table.specs.inner.Lockers.{standings_of}
use Rattle.lock_table.proofs.ResourceViews.{both, next-passed, next-within, promoted-next, once-next}
use Rattle.lock_table.proofs.Promotions.{grant-some, grant-within, grant-waits_locker, grant-agree, grant-same, grant-waits_ended}
use Rattle.lock_table.proofs.EndedWaits.{list-on, list-none}
use Rattle.lock_table.proofs.SessionsInRange.{numbered-agree}
use Rattle.lock_table.proofs.GrantedWaits.{with-next}
use Rattle.lock_table.proofs.promotion.promote.Goals as goal

pub admit-shared-requires-clause-rising : goal.admit-shared-requires-clause-rising
admit-shared-requires-clause-rising c = c.loop-next.invariant.once.rising

pub admit-shared-requires-clause-room : goal.admit-shared-requires-clause-room
admit-shared-requires-clause-room c =
    let w = next-within c.loop-next.cell.holders.items c.loop-next.cell.waiting.items c.loop-next.granted c.in-Some.next (sym c.in-Some.is ∙ c.next_grant.ensures) in
    omega (arith, w, c.loop-next.invariant.room, c.loop-next.cell.waiting.ok.0)

pub admit-shared-requires-clause-fits : goal.admit-shared-requires-clause-fits
admit-shared-requires-clause-fits c = (next-passed c.loop-next.cell.holders.items c.loop-next.cell.waiting.items c.loop-next.granted c.in-Some.next _ (sym c.in-Some.is ∙ c.next_grant.ensures) refl).fits

pub position_of-requires : goal.position_of-requires
position_of-requires c =
    let n = next-passed c.loop-next.cell.holders.items c.loop-next.cell.waiting.items c.loop-next.granted c.in-Some.next c.admit-shared.new.self.holders.items (sym c.in-Some.is ∙ c.next_grant.ensures) c.admit-shared.ensures.holders in
    grant-some c.args.resource _ _ c.in-Some.next c.loop-next.lockers.items n c.loop-next.invariant.agree c.loop-next.invariant.once

pub index_mut-locker-requires : goal.index_mut-locker-requires
index_mut-locker-requires c =
    let n = next-passed c.loop-next.cell.holders.items c.loop-next.cell.waiting.items c.loop-next.granted c.in-Some.next c.admit-shared.new.self.holders.items (sym c.in-Some.is ∙ c.next_grant.ensures) c.admit-shared.ensures.holders in
    let next : suc c.position_of.result ≡ c.in-Some.next.session = omega (arith, grant-some c.args.resource _ _ c.in-Some.next c.loop-next.lockers.items n c.loop-next.invariant.agree c.loop-next.invariant.once, c.position_of.ensures) in
    omega (arith, (grant-within c.args.resource _ _ c.in-Some.next c.loop-next.lockers.items n c.loop-next.invariant.agree next).within, c.loop-next.lockers.ok.0)

pub grant-requires : goal.grant-requires
grant-requires c =
    let n = next-passed c.loop-next.cell.holders.items c.loop-next.cell.waiting.items c.loop-next.granted c.in-Some.next c.admit-shared.new.self.holders.items (sym c.in-Some.is ∙ c.next_grant.ensures) c.admit-shared.ensures.holders in
    let next : suc c.position_of.result ≡ c.in-Some.next.session = omega (arith, grant-some c.args.resource _ _ c.in-Some.next c.loop-next.lockers.items n c.loop-next.invariant.agree c.loop-next.invariant.once, c.position_of.ensures) in
    grant-waits_locker c.args.resource _ _ c.in-Some.next c.loop-next.lockers.items n c.loop-next.invariant.agree c.index_mut-locker.result.now next c.index_mut-locker.ensures.value

pub loop-next-preserved : goal.loop-next-preserved
loop-next-preserved c =
    let k = c.loop-next.invariant in
    let r = c.args.resource in
    let hs = c.loop-next.cell.holders.items in
    let ws = c.loop-next.cell.waiting.items in
    let v = both hs (drop c.loop-next.granted ws) in
    let lockers = c.loop-next.lockers.items in
    let is = sym c.in-Some.is ∙ c.next_grant.ensures in
    let within = next-within hs ws c.loop-next.granted c.in-Some.next is in
    let n = next-passed hs ws c.loop-next.granted c.in-Some.next c.admit-shared.new.self.holders.items is c.admit-shared.ensures.holders in
    let next : suc c.position_of.result ≡ c.in-Some.next.session = omega (arith, grant-some r v _ c.in-Some.next lockers n k.agree k.once, c.position_of.ensures) in
    let agree = grant-agree r v _ c.in-Some.next lockers n k.agree c.index_mut-locker.result.now next c.index_mut-locker.ensures.value c.grant.new.self r c.grant.ensures refl k.once in
    let same = c.admit-shared.ensures.waiting in
    let len = ap (λ w. vec_len w) same in
    record {
      view = rw same (promoted-next v c.in-Some.next _ n ∙ k.view);
      queue = same ∙ k.queue;
      held =
          let step : suc c.loop-next.granted ≡ c.loop-next.granted + 1 = omega arith in
          let init = c.args.cell.now.holders.items in
          c.admit-shared.ensures.holders
          ∙ (ap (with_holder c.in-Some.next) k.held
          ∙ (sym (with-next init ws c.loop-next.granted c.in-Some.next (drop (c.loop-next.granted + 1) ws) n.first)
          ∙ (λ i. with_holders (take (step i) (sym same i).items) init)));
      passed = omega (arith, within, len, c.loop-next.cell.waiting.ok.0);
      room = omega (arith, k.room, len, c.admit-shared.ensures.len, c.admit-shared.ensures.capacity);
      shared = c.admit-shared.ensures.shared;
      once = rw same (once-next v c.in-Some.next _ n k.once);
      agree = rw same agree;
      changed = grant-same r v _ c.in-Some.next lockers n k.agree c.index_mut-locker.result.now next c.index_mut-locker.ensures.value c.grant.new.self r c.grant.ensures refl (standings_of c.args.lockers.now.items) k.changed;
      len = k.len;
      waits_ended = list-on 0 c.args.lockers.now.items lockers _ c.args.ended.now c.loop-next.ended c.add.new.self k.waits_ended
          (grant-waits_ended r v _ c.in-Some.next lockers n k.agree c.index_mut-locker.result.now next c.index_mut-locker.ensures.value c.grant.new.self r c.grant.ensures refl c.loop-next.ended c.add.new.self c.add.ensures.sized c.add.ensures.waits_ended);
    }

pub add-requires-clause-some : goal.add-requires-clause-some
add-requires-clause-some c =
    let n = next-passed c.loop-next.cell.holders.items c.loop-next.cell.waiting.items c.loop-next.granted c.in-Some.next c.admit-shared.new.self.holders.items (sym c.in-Some.is ∙ c.next_grant.ensures) c.admit-shared.ensures.holders in
    grant-some c.args.resource _ _ c.in-Some.next c.loop-next.lockers.items n c.loop-next.invariant.agree c.loop-next.invariant.once

pub add-requires-clause-within : goal.add-requires-clause-within
add-requires-clause-within c =
    let k = c.loop-next.invariant in
    let n = next-passed c.loop-next.cell.holders.items c.loop-next.cell.waiting.items c.loop-next.granted c.in-Some.next c.admit-shared.new.self.holders.items (sym c.in-Some.is ∙ c.next_grant.ensures) c.admit-shared.ensures.holders in
    let next : suc c.position_of.result ≡ c.in-Some.next.session = omega (arith, grant-some c.args.resource _ _ c.in-Some.next c.loop-next.lockers.items n k.agree k.once, c.position_of.ensures) in
    let within = (grant-within c.args.resource _ _ c.in-Some.next c.loop-next.lockers.items n k.agree next).within in
    omega (arith, next, within, c.loop-next.lockers.ok.0, k.len, k.waits_ended.sized, c.requires.sized)

pub loop-next-init : goal.loop-next-init
loop-next-init c = record {
  view = refl;
  queue = refl;
  held = refl;
  passed = omega arith;
  room = omega (arith, c.requires.room);
  shared = tt;
  once = c.requires.once;
  agree = c.requires.agree;
  changed = λ s. inl refl;
  len = refl;
  waits_ended = list-none 0 c.args.lockers.now.items c.args.ended.now;
}

pub dequeue_granted-requires-clause-within : goal.dequeue_granted-requires-clause-within
dequeue_granted-requires-clause-within c =
    let k = c.loop-next.invariant in
    let n = c.args.waits.now.rows.sessions in
    let now = both c.loop-next.cell.holders.items (drop c.loop-next.granted c.loop-next.cell.waiting.items) in
    let first = numbered-agree n c.args.lockers.now.items (omega (arith, c.requires.long, c.args.lockers.now.ok.0)) c.args.resource (view_of c.args.cell.now) c.requires.agree c.requires.once in
    let last = numbered-agree n c.loop-next.lockers.items (omega (arith, c.requires.long, k.len, c.loop-next.lockers.ok.0)) c.args.resource now k.agree k.once in
    record { holders = last.holders; waiting = subst (AreOfSessions n) (sym (ap (λ w. w.items) k.queue)) first.waiting }

pub dequeue_granted-requires-clause-once : goal.dequeue_granted-requires-clause-once
dequeue_granted-requires-clause-once c = λ s. subst (λ (ws : List SessionMode). times s ws ≤ 1) (sym (ap (λ w. w.items) c.loop-next.invariant.queue)) (c.requires.once.once s)

pub dequeue_granted-requires-clause-follows : goal.dequeue_granted-requires-clause-follows
dequeue_granted-requires-clause-follows c =
    let k = c.loop-next.invariant in
    let before = c.args.cell.now.holders.items in
    record {
      before = before;
      rising = c.requires.once.rising;
      holders = k.held;
      written = subst (λ (ws : List SessionMode). AreWritten (both before ws) c.args.waits.now) (sym (ap (λ w. w.items) k.queue)) c.requires.written;
    }

pub returns-clause-rows : goal.returns-clause-rows
returns-clause-rows c =
    let k = c.loop-next.invariant in
    let before = c.args.cell.now.holders.items in
    subst (λ (ws : List SessionMode). DoFollow (both before ws) (view_of c.dequeue_granted.new.cell) c.args.waits.now c.dequeue_granted.new.waits) (ap (λ w. w.items) k.queue)
    (c.dequeue_granted.ensures.rows (record {
      before = before;
      rising = c.requires.once.rising;
      holders = k.held;
      written = subst (λ (ws : List SessionMode). AreWritten (both before ws) c.args.waits.now) (sym (ap (λ w. w.items) k.queue)) c.requires.written;
    }))
