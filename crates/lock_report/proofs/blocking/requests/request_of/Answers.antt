use Rattle.std.proofs.Common.{◌==◌, refl}
use Rattle.std.proofs.lemmas.Bool.{ne_eqb}
use Rattle.std.proofs.lemmas.Bool.Decides.{Decides-eqb}
use Rattle.lock_report.specs.Blockers.{request_of}
use Rattle.lock_report.proofs.Firsts.{found_at, found_none, passed_by}
use Rattle.lock_report.proofs.blocking.requests.request_of.Goals as goal

pub returns-then-request-session : goal.returns-then-request-session
returns-then-request-session c =
    let q = c.request-item.result in
    found_at (λ k. k.session == c.args.session) (λ k. k) (request_of c.args.session) (λ x xs. refl) c.args.requests.now c.loop-request.request-index q c.loop-request-test.true c.request-item.is c.loop-request.invariant
    ((Decides-eqb q.session c.args.session).1 c.if-request-session.true)

pub loop-request-preserved : goal.loop-request-preserved
loop-request-preserved c =
    let q = c.request-item.result in
    passed_by (λ k. k.session == c.args.session) (λ k. k) (request_of c.args.session) (λ x xs. refl) c.args.requests.now c.loop-request.request-index q c.loop-request-test.true c.request-item.is c.loop-request.invariant
    (ne_eqb q.session c.args.session c.if-request-session.false)

pub returns : goal.returns
returns c = found_none (request_of c.args.session) refl c.args.requests.now c.loop-request.request-index c.loop-request-test.false c.loop-request.invariant
