use Rattle.flat_combining.proofs.Applied.{replied}
use Rattle.flat_combining.proofs.calling.finish.Goals as goal

pub returns-in-Answered-clause-reply : goal.returns-in-Answered-clause-reply
returns-in-Answered-clause-reply g c =
    let a = c.in-Answered.answer in
    let there = c.resume.ensures.answered a c.in-Answered.is in
    (there.0, there.1, there.2, replied g.M.Machine _ c.args.session.now c.resume.new.session there.0 there.1 a.place a.reply (λ legal. legal) there.3)
