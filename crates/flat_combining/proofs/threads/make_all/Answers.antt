use Rattle.std.proofs.Common.{sym}
use Rattle.std.proofs.lemmas.List.Elements.{All-push, All-head, All-rest, All-same}
use Rattle.publication.specs.Views.{TicketView}
use Rattle.combining.specs.Sessions.{IsSessionOf}
use Rattle.flat_combining.proofs.threads.make_all.Goals as goal

pub loop-worked-preserved : goal.loop-worked-preserved
loop-worked-preserved g c =
    let ours : TicketView g.row.M-Call.Denot g.row.M-Reply.Denot → Type 0 = IsSessionOf c.args.office.now in
    let its : TicketView g.row.M-Call.Denot g.row.M-Reply.Denot × g.row.C.Denot → Type 0 = λ worked. ours worked.0 in
    let came = c.in-Some.ensures.steps.0 in
    let now = c.loop-worked.invariant in
    let first : its c.in-Some.worked = All-head its c.in-Some.worked c.next.new.self.rest.items (All-same its _ _ (sym came) now.1) in (
      All-same ours _ _ c.in_ok-push.ensures.items (All-push ours c.loop-worked.back.items c.in-Some.worked.0 now.0 first),
      All-rest its c.in-Some.worked c.next.new.self.rest.items _ came now.1,
    )
