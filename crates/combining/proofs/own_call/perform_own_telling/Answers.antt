use Rattle.std.proofs.Common.{◌≡◌, ◌+◌, ◌∙◌, ℕ, List, length, ap, arith, length-append, subst, ◌∷◌, []}
use Rattle.publication.specs.Views.{TicketView, entry}
use Rattle.combining.specs.Woken.{HasRoom}
use Rattle.combining.proofs.EndedWaits.{told-step}
use Rattle.combining.proofs.Places.{entered-step}
use Rattle.combining.proofs.own_call.perform_own_telling.Goals as goal

pub add-requires : goal.add-requires
add-requires g c =
    let sessions = c.perform_own.ensures.work.home.sessions in
    record {
      tells = λ some. (length c.args.session.now.front, c.in_ok-answer.ensures.tells);
      room = subst (λ (n : ℕ). HasRoom (g.T.Listener.room c.args.listener.now) n) (omega (arith, sessions)) c.requires.room;
    }

pub returns-clause-told : goal.returns-clause-told
returns-clause-told g c =
    let t = c.args.session.now in
    let u = c.perform_own.new.session in
    let home = c.perform_own.ensures.work.home in
    let own = c.in_ok-answer.ensures.some in
    let whole = ap (λ (x : TicketView _ _). x.front) own.session in
    let count : length u.front ≡ length t.front + 1 = ap (λ (l : List _). length l) whole ∙ length-append t.front (entry t.number c.args.call.now c.in_ok-answer.answer.1 ∷ []) in
    let sessions = home.sessions in
    told-step c.args.board.now.sessions (g.O.Sequential.sessions c.perform_own.new.load.object) (g.O.Sequential.history c.perform_own.new.load.object) u.front (length t.front) 1 _ _ _
    home.history (omega (arith, sessions)) count (entered-step t u (c.in_ok-answer.answer.0 ∷ []) (ap (λ (x : TicketView _ _). x.entered) own.session) ∙ ap (λ (k : _). k ∷ []) own.place_is)
    (λ v. c.add.ensures.members (length t.front) v (λ _. c.in_ok-answer.ensures.tells) (ap (λ (l : List _). length l) home.history ∙ count)) c.add.ensures.once
