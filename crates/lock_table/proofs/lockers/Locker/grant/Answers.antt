use Rattle.std.proofs.Common.{◌≡◌, ℕ, ◌∙◌, Bool, true, false, cond, ◌∷◌, [], length, length-append, None, refl, sym, ap, arith}
use Rattle.lock_table.specs.inner.Lockers.{with_path}
use Rattle.session_locks.proofs.ResourceLists.{apart-push}
use Rattle.lock_table.proofs.LockerGrant.{coming-under, fresh-new, granted-held}
use Rattle.lock_table.proofs.lockers.Locker.grant.Goals as goal
use Rattle.lock_table.proofs.lockers.Locker.grant.Goals.{then-is_fresh, else-is_fresh}

pub invariant_of-self-clause-apart : goal.invariant_of-self-clause-apart
invariant_of-self-clause-apart c =
    let x = c.args.self.now in
    elim c.if-is_fresh.branch [
      | then-is_fresh w ↦ rw w.self-is (rw w.push.ensures (apart-push x.held.items c.args.resource x.apart (fresh-new c.args.resource x c.requires (sym c.is_fresh.ensures ∙ w.if-is_fresh.true))))
      | else-is_fresh w ↦ rw w.self-is x.apart
    ]

pub invariant_of-self-clause-few : goal.invariant_of-self-clause-few
invariant_of-self-clause-few c =
    let x = c.args.self.now in
    elim c.if-is_fresh.branch [
      | then-is_fresh w ↦
          let one = ap {B = ℕ} (λ (b : Bool). cond b 1 0) (sym c.is_fresh.ensures ∙ w.if-is_fresh.true) in
          let long = ap length w.push.ensures in
          rw w.self-is (omega (arith, x.few, one, long, length-append x.held.items (c.args.resource ∷ [])))
      | else-is_fresh w ↦ rw w.self-is (omega (arith, x.few))
    ]

pub returns : goal.returns
returns c =
    let x = c.args.self.now in
    let held : c.if-is_fresh.self.1.1.0.items ≡ with_path c.args.resource x.held.items = elim c.if-is_fresh.branch [
      | then-is_fresh w ↦ rw w.self-is (granted-held c.args.resource x c.requires true w.push.new.self.items (sym c.is_fresh.ensures ∙ w.if-is_fresh.true) w.push.ensures)
      | else-is_fresh w ↦ rw w.self-is (granted-held c.args.resource x c.requires false x.held.items (sym c.is_fresh.ensures ∙ w.if-is_fresh.false) refl)
    ] in
    λ i. record { transaction = x.transaction; held = held i; wanted = None }

pub push-requires-clause-under : goal.push-requires-clause-under
push-requires-clause-under c = coming-under c.args.resource c.args.self.now c.requires (sym c.is_fresh.ensures ∙ c.if-is_fresh.true)

pub push-requires-clause-room : goal.push-requires-clause-room
push-requires-clause-room c =
    let one = ap {B = ℕ} (λ (b : Bool). cond b 1 0) (sym c.is_fresh.ensures ∙ c.if-is_fresh.true) in
    omega (arith, c.args.self.now.room, one)
