use Rattle.std.proofs.Common.{rules, ◌≡◌, Some, inr}
use Rattle.pelgaisti_c.proofs.close_exports.pelgaisti_raw_session_hand_in.Goals as goal

pub returns-in-Ok-clause-ok : goal.returns-in-Ok-clause-ok
returns-in-Ok-clause-ok c = λ _.
    let was : c.args.session.now.behind.held.share ≡ Some c.in-Some-take.value.value = search rules in
    let other : c.args.to.now.behind.held.share ≡ Some c.deref_mut.result.now = search rules in
    (c.in-Some-take.value.value, c.deref_mut.result.now, c.hand_in.new.to, was, other, c.put-in-Ok.ensures.1, c.in-Ok.ensures.ok)

pub returns-in-Err-clause-same : goal.returns-in-Err-clause-same
returns-in-Err-clause-same c = λ _.
    let was : c.args.session.now.behind.held.share ≡ Some c.in-Some-take.value.value = search rules in
    let other : c.args.to.now.behind.held.share ≡ Some c.deref_mut.result.now = search rules in
    let same = c.in-Err.ensures.err in (
      inr (c.in-Some-take.value.value, c.in-Err.share.value, was, c.put-in-Err.ensures.1, same.0),
      inr (c.deref_mut.result.now, c.hand_in.new.to, other, c.put-in-Err-2.ensures.1, same.1),
    )

pub returns-in-Err-clause-other_office : goal.returns-in-Err-clause-other_office
returns-in-Err-clause-other_office c = λ e.
    let was : c.args.session.now.behind.held.share ≡ Some c.in-Some-take.value.value = search rules in
    let other : c.args.to.now.behind.held.share ≡ Some c.deref_mut.result.now = search rules in
    (c.in-Some-take.value.value, c.deref_mut.result.now, was, other, c.in-Err.ensures.other_office e)

pub returns-in-Err-clause-pending : goal.returns-in-Err-clause-pending
returns-in-Err-clause-pending c = λ e.
    let was : c.args.session.now.behind.held.share ≡ Some c.in-Some-take.value.value = search rules in
    let other : c.args.to.now.behind.held.share ≡ Some c.deref_mut.result.now = search rules in let told = c.in-Err.ensures.pending e in
    (c.in-Some-take.value.value, c.deref_mut.result.now, was, other, told.0, told.1)

pub returns-in-Err-clause-memory : goal.returns-in-Err-clause-memory
returns-in-Err-clause-memory c = λ e.
    let was : c.args.session.now.behind.held.share ≡ Some c.in-Some-take.value.value = search rules in
    let other : c.args.to.now.behind.held.share ≡ Some c.deref_mut.result.now = search rules in let told = c.in-Err.ensures.memory e in
    (c.in-Some-take.value.value, c.deref_mut.result.now, was, other, told.0, told.1)
