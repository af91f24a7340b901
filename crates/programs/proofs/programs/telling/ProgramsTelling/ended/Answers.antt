use Rattle.std.proofs.Common.{ap, sym, subst}
use Rattle.programs.specs.Views.{place_of}
use Rattle.programs.proofs.Waits.{tells-programs}
use Rattle.programs.proofs.programs.telling.ProgramsTelling.ended.Goals as goal

pub returns : goal.returns
returns g c = λ from u told.
    let place = place_of g.O.Programmed.form from c.args.self.now.history in
    let same = c.object.ensures.object in
    tells-programs g.O.Programmed.form g.O.Telling.ends (g.O.Sequential.history c.object.result.now) c.args.self.now.history c.object.ensures.history from u
    (g.O.Sequential.sessions c.object.result.now) (g.O.Sequential.sessions c.args.self.now.object) _ (ap g.O.Sequential.sessions same)
    (c.ended.ensures place u (subst (λ (o : g.row.O.Denot). g.O.Serving.tells_from o place) (sym same) told))
