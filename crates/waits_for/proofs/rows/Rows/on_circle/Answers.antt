use Rattle.waits_for.proofs.rows.Rows.on_circle.Goals as goal

-- Finds the clause of `reaches` by its type, so that a body that calls another function fails at this goal, not at a name.
pub returns-clause-circle : goal.returns-clause-circle
returns-clause-circle c = search
