use Rattle.std.proofs.Common.{◌≡◌, ◌∙◌, Bool, cond, ap, eq-eqb}
use Rattle.publication.specs.Words.{FREE}
use Rattle.publication.specs.Rule.{word, home, seat}
use Rattle.publication.specs.BoardHistory.{new_board, history_in, history_of}
use Rattle.publication.proofs.NewBoards.{words_zero, begins}
use Rattle.publication.proofs.Linearizable.{slots-of, linearizes}
use Rattle.publication.proofs.laws.boards_are_linearizable.Goals as goal

pub returns-clause-history : goal.returns-clause-history
returns-clause-history g c n load t events ready untaken leads run =
    let s = new_board n load in
    let free : word s 0 ≡ FREE = words_zero n load ready 0 in
    let empty = ap (λ (b : Bool). cond b (history_in g.O.Sequential (home s 0)) (seat s (word s 0)).front) (eq-eqb (word s 0) FREE free) ∙ ready.history in
    let ruled = begins n load ready g.met.O.Sequential.empty untaken in
    linearizes n s t events ruled (slots-of n load) empty leads run

pub returns-clause-linearizable : goal.returns-clause-linearizable
returns-clause-linearizable g c n load t events ready untaken leads run = (history_of g.O.Sequential t, returns-clause-history g c n load t events ready untaken leads run)
