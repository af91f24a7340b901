use Rattle.std.proofs.Common.{inr, refl}
use Rattle.combining.proofs.Turns.{posted-cases, posted-waits, posted-same, published}
use Rattle.combining.proofs.calling.publish_if_idle.Goals as goal

pub returns-then-is_idle-clause-published : goal.returns-then-is_idle-clause-published
returns-then-is_idle-clause-published g c _ =
    let t = c.args.session.now in
    let u = c.publish-posted.new.session in
    let p = c.publish-posted.ensures in
    published {obj = g.O.Sequential} t t u c.args.call (inr refl) (posted-waits t u c.args.call (posted-cases c.publish-posted.result p.listed p.unlisted))

pub returns-then-is_idle-clause-known : goal.returns-then-is_idle-clause-known
returns-then-is_idle-clause-known g c =
    let p = c.publish-posted.ensures in
    posted-same c.args.session.now c.publish-posted.new.session c.args.call (posted-cases c.publish-posted.result p.listed p.unlisted)
