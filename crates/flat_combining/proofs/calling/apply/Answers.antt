use Rattle.flat_combining.proofs.Applied.{replied}
use Rattle.flat_combining.proofs.calling.apply.Goals as goal

pub returns-in-Answered-clause-reply : goal.returns-in-Answered-clause-reply
returns-in-Answered-clause-reply g c =
    let a = c.in-Answered.answer in
    replied g.M.Machine _ c.args.session.now c.call.new.session c.args.call _ a.place a.reply (λ legal. legal) (c.call.ensures.answered a c.in-Answered.is)
