use Rattle.std.proofs.Common.{◌≡◌, Bool, cond, inl, inr, ap, ◌∙◌, arith, eq-eqb}
use Rattle.publication.specs.Words.{FREE}
use Rattle.publication.specs.Rule.{word, home, seat}
use Rattle.publication.specs.BoardHistory.{new_board, history_in}
use Rattle.publication.proofs.NewBoards.{words_zero, begins, no_number, none_handed}
use Rattle.publication.proofs.laws.boards_open_with_an_empty_history.Goals as goal

pub returns-clause-ruled : goal.returns-clause-ruled
returns-clause-ruled g c n load ready untaken = begins n load ready g.met.O.Sequential.empty untaken

pub returns-clause-empty : goal.returns-clause-empty
returns-clause-empty g c n load ready =
    let s = new_board n load in
    let free : word s 0 ≡ FREE = words_zero n load ready 0 in
    ap (λ (b : Bool). cond b (history_in g.O.Sequential (home s 0)) (seat s (word s 0)).front) (eq-eqb (word s 0) FREE free) ∙ ready.history

pub returns-clause-nobody : goal.returns-clause-nobody
returns-clause-nobody g c n load i answers pending (inl d) = omega (arith, d.some, d.named, no_number n load i)
returns-clause-nobody g c n load i answers pending (inr d) = none_handed n load d.closing d.place d.handed d.there
