use Rattle.std.proofs.Common.{rules, ◌≡◌, ◌∷◌, [], ◌++◌, ◌||◌, ◌==◌, length, take, sym, ap, ◌∙◌, List}
use Rattle.std.proofs.lemmas.List.{take_all, length-append}
use Rattle.lock_rules.specs.declared.calls.TheConstants.{MAX_SESSIONS}
use Rattle.lock_office.specs.ProgramBoards.{TicketView}
use Rattle.publication.specs.Rolls.{is_called}
use Rattle.publication.proofs.Gathering.{has_number, each_once_tells}
use Rattle.library_sessions.proofs.Handles.{has_number_last}
use Rattle.library_sessions.proofs.hand_in.is_each_once.Goals as goal

pub returns : goal.returns
returns c =
    let ts : List TicketView = c.args.handed.now in
    let last : TicketView = c.args.last.now in
    let many : length (ts ++ last ∷ []) ≡ c.args.sessions = length-append ts (last ∷ []) ∙ search rules in
    let whole : take c.loop-session.session-index ts ≡ ts = take_all c.loop-session.session-index ts (search rules) in
    each_once_tells c.args.sessions MAX_SESSIONS (ts ++ last ∷ []) (is_called c.call-2.new.self) c.has_all.result many c.requires.few
    (λ k le. c.call-2.ensures k le ∙ ((λ i. (c.loop-session.invariant k le ∙ ap (has_number k) whole) i || (c.number-2.ensures i == k)) ∙ sym (has_number_last k ts last)))
    c.has_all.ensures
