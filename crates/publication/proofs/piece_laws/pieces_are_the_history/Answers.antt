use Rattle.std.proofs.Common.{◌∙◌, ◌++◌, List, ap, drop, refl, take-append-drop}
use Rattle.publication.proofs.PieceLaws.{together, piece_stays, apart_from}
use Rattle.publication.proofs.piece_laws.pieces_are_the_history.Goals as goal

pub returns-clause-together : goal.returns-clause-together
returns-clause-together g c history pieces upto row within = together history 0 upto pieces row refl

pub returns-clause-whole : goal.returns-clause-whole
returns-clause-whole g c history pieces upto row within = ap (λ (l : List _). l ++ drop upto history) (together history 0 upto pieces row refl) ∙ take-append-drop upto history

pub returns-clause-stay : goal.returns-clause-stay
returns-clause-stay g c front history piece begins within = piece_stays front history piece begins within

pub returns-clause-apart : goal.returns-clause-apart
returns-clause-apart g c from upto i j pieces d order less few = apart_from from upto i j pieces d order less few
