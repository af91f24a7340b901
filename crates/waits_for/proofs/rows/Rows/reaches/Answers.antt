use Rattle.waits_for.proofs.rows.Rows.reaches.Goals as goal

pub invariant_of-self : goal.invariant_of-self
invariant_of-self c = rw c.reaches.ensures.same c.self.invariant
