use Rattle.std.proofs.Common.{◌≡◌, ◌∙◌, Bool, List, [], length, cond, sym, ap, eq-eqb}
use mathlib.Core.Option as opt
use Rattle.sequential.specs.declared.entry.Entry.{Entry}
use Rattle.publication.specs.Words.{FREE}
use Rattle.publication.specs.Rule.{word, home, seat}
use Rattle.publication.specs.BoardHistory.{new_board, history_in}
use Rattle.publication.proofs.NewBoards.{words_zero, begins, no_number, none_handed}
use Rattle.publication.proofs.RealTime.{still-ruled}
use Rattle.publication.proofs.Entered.{shared-out, entered-once}
use Rattle.publication.proofs.laws.each_place_is_entered_once.Goals as goal

pub returns : goal.returns
returns g c n load s ready untaken run =
    let first = new_board n load in
    let free : word first 0 ≡ FREE = words_zero n load ready 0 in
    let empty = ap (λ (b : Bool). cond b (history_in g.O.Sequential (home first 0)) (seat first (word first 0)).front) (eq-eqb (word first 0) FREE free) ∙ ready.history in
    let ruled = begins n load ready g.met.O.Sequential.empty untaken in
    entered-once s (still-ruled ruled run) (shared-out ruled run (record {
      by = [];
      each = ap (λ (l : List (Entry _ _)). length l) (sym empty);
      seats = λ k live. absurd (live (no_number n load k));
      handed = λ k p x there. absurd (none_handed n load k p x there);
      owners = λ q k there. absurd (opt.some-ne-none k (sym there));
    }))
