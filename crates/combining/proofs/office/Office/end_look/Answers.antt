use Rattle.combining.proofs.TakenPieces.{gave_back, looked}
use Rattle.combining.proofs.office.Office.end_look.Goals as goal

pub returns-clause-looked : goal.returns-clause-looked
returns-clause-looked g c before begun =
    let mid = c.args.session.now in
    looked before mid c.release.new.ticket begun (gave_back mid c.release.new.ticket c.args.load.value.pieces.items c.release.ensures.ticket c.requires.looks.taken)
