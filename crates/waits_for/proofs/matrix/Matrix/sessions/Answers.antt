use Rattle.waits_for.proofs.Places.{seen-again}
use Rattle.waits_for.proofs.matrix.Matrix.sessions.Goals as goal

pub returns-clause-whole : goal.returns-clause-whole
returns-clause-whole c = seen-again c.self.inside.sessions c.self.inside.words.items c.args.self.now c.self.view_is
