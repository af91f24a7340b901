use Rattle.std.proofs.Common.{rules, ◌≡◌, Some, subst}
use Rattle.lock_rules.specs.declared.calls.Call.{Call}
use Rattle.library_books.specs.declared.numbers.CallNumbers.{CallNumbers}
use Rattle.library_books.specs.Numbers.{IsCall}
use Rattle.library_sessions.specs.Sessions.{IsPublished}
use Rattle.pelgaisti_c.proofs.publish_exports.pelgaisti_raw_session_publish.Goals as goal

pub returns-clause-ok : goal.returns-clause-ok
returns-clause-ok c = λ e.
    let was : c.args.session.now.behind.held.share ≡ Some c.deref_mut.result.now = search rules in
    let same : c.in-Some-get.value ≡ c.args.call.now.behind = search rules in (
      c.deref_mut.result.now,
      c.publish-status.new.share,
      was,
      c.put.ensures.1,
      subst (λ (asked : CallNumbers). IsPublished c.deref_mut.result.now c.publish-status.new.share asked c.publish-status.new.posted) same (c.publish-status.ensures.ok e),
    )

pub returns-clause-retired : goal.returns-clause-retired
returns-clause-retired c = λ e.
    let was : c.args.session.now.behind.held.share ≡ Some c.deref_mut.result.now = search rules in
    let same : c.in-Some-get.value ≡ c.args.call.now.behind = search rules in
    let s = c.publish-status.ensures.retired e in (c.deref_mut.result.now, was, s.0, subst (λ (asked : CallNumbers). (call : Call) × IsCall asked call) same s.1)

pub returns-clause-pending : goal.returns-clause-pending
returns-clause-pending c = λ e.
    let was : c.args.session.now.behind.held.share ≡ Some c.deref_mut.result.now = search rules in
    let same : c.in-Some-get.value ≡ c.args.call.now.behind = search rules in
    let s = c.publish-status.ensures.pending e in (c.deref_mut.result.now, was, s.0, subst (λ (asked : CallNumbers). (call : Call) × IsCall asked call) same s.1)
