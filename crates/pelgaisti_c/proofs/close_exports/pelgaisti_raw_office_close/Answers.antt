use Rattle.std.proofs.Common.{rules, ◌≡◌, Option, Some, inr, subst}
use Rattle.std.specs.Prelude.{IfSome}
use Rattle.std.specs.Global.{Box}
use Rattle.library_sessions.specs.declared.session_share.SessionShare.{SessionShare}
use Rattle.library_sessions.specs.Sessions.{IsSameShare}
use Rattle.pelgaisti_c.proofs.close_exports.pelgaisti_raw_office_close.Goals as goal

pub returns-in-Ok-clause-ok : goal.returns-in-Ok-clause-ok
returns-in-Ok-clause-ok c = λ _.
    let was : c.args.session.now.behind.held.share ≡ Some c.in-Some-take.value.value = search rules in
    (c.in-Some-take.value.value, c.in-Ok.made.value, was, c.put_own.ensures.1, c.in-Ok.ensures.ok)

pub returns-in-Err-default-Some-clause-same : goal.returns-in-Err-default-Some-clause-same
returns-in-Err-default-Some-clause-same c = λ _ here.
    let refused = c.in-Err-default-Some in
    let before = c.in-Some-take.value.value in
    let was : c.args.session.now.behind.held.share ≡ Some before = search rules in
    let back : IfSome (Some refused.share) (λ share. IsSameShare before share.value)
    = subst (λ (o : Option (Box SessionShare)). IfSome o (λ share. IsSameShare before share.value)) refused.field-0-1-is (refused.ensures.back here).0 in
    let put : c.put.new.self.held.share ≡ Some refused.share.value = search rules in
    (search rules, inr (before, refused.share.value, was, put, back))

pub returns-in-Err-default-Some-clause-missing : goal.returns-in-Err-default-Some-clause-missing
returns-in-Err-default-Some-clause-missing c = λ e.
    let was : c.args.session.now.behind.held.share ≡ Some c.in-Some-take.value.value = search rules in
    (c.in-Some-take.value.value, was, c.in-Err-default-Some.ensures.missing e)

pub returns-in-Err-default-Some-clause-pending : goal.returns-in-Err-default-Some-clause-pending
returns-in-Err-default-Some-clause-pending c = λ e.
    let was : c.args.session.now.behind.held.share ≡ Some c.in-Some-take.value.value = search rules in
    (c.in-Some-take.value.value, was, (c.in-Err-default-Some.ensures.pending e).0, (c.in-Err-default-Some.ensures.pending e).1)

pub returns-in-Err-default-Some-clause-whole : goal.returns-in-Err-default-Some-clause-whole
returns-in-Err-default-Some-clause-whole c = λ e.
    let was : c.args.session.now.behind.held.share ≡ Some c.in-Some-take.value.value = search rules in
    (c.in-Some-take.value.value, was, (c.in-Err-default-Some.ensures.whole e).0, (c.in-Err-default-Some.ensures.whole e).1)

pub returns-in-Err-default-None-clause-whole : goal.returns-in-Err-default-None-clause-whole
returns-in-Err-default-None-clause-whole c = λ e.
    let was : c.args.session.now.behind.held.share ≡ Some c.in-Some-take.value.value = search rules in
    (c.in-Some-take.value.value, was, (c.in-Err-default-None.ensures.whole e).0, (c.in-Err-default-None.ensures.whole e).1)
