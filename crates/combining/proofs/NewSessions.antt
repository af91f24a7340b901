-- New sessions are idle.
use Rattle.std.proofs.Common.{◌≡◌, ℕ, zero, suc, ◌+◌, Option, None, get_or, replicate, refl, arith}
use Rattle.std.specs.List.{All}
use Rattle.std.proofs.lemmas.List.Elements.{All-push}
use Rattle.publication.specs.Views.{BoardView, TicketView}
use Rattle.publication.specs.Boards.{new_ticket, new_tickets}
use Rattle.combining.specs.Sessions.{IsSessionOf, IsIdle}

-- A list of `None` has `None` at every index, and beyond its end.
none_opened : (C : Type 0) (n j : ℕ) → get_or {A = Option C} (replicate n None) j None ≡ None
none_opened C zero j = refl
none_opened C (suc n) zero = refl
none_opened C (suc n) (suc j) = none_opened C n j

-- New sessions are their office's, and idle.
pub new_sessions_idle : (C R : Type 0) (office : BoardView) (sessions k : ℕ) → All (λ (session : TicketView C R). IsSessionOf office session × IsIdle session) (new_tickets office.id sessions k)
new_sessions_idle C R office sessions zero = λ k d h. absurd (omega arith)
new_sessions_idle C R office sessions (suc k) =
    All-push (λ (session : TicketView C R). IsSessionOf office session × IsIdle session) (new_tickets office.id sessions k) (new_ticket office.id sessions (suc k))
    (new_sessions_idle C R office sessions k)
    (record { ours = refl; no_object = refl; none = none_opened C (sessions + 1); no_walk = refl; live = λ pending. refl }, (refl, refl))
