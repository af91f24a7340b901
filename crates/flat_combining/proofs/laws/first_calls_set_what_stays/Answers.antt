use Rattle.std.proofs.Common.{IsTrue, [], ◌∷◌, sym, subst}
use Rattle.flat_combining.proofs.Runs.{kept-from, begins-longer}
use Rattle.flat_combining.proofs.laws.first_calls_set_what_stays.Goals as goal

pub returns : goal.returns
returns g c call holds first kept front [] begins longer = absurd (begins-longer call front [] begins longer)
returns g c call holds first kept front (e ∷ es) begins longer =
    kept-from g.M.Machine (λ state. IsTrue (holds state)) kept _ es
    (subst (λ asked. IsTrue (holds (g.M.Machine.after g.M.Machine.initial e.session asked))) (sym (begins-longer call front (e ∷ es) begins longer)) (first e.session))
