-- What a turn says of its share.
use Rattle.std.proofs.Common.{◌≡◌, ℕ, ◌+◌, ◌≤◌, List, [], length, ap, subst, arith}
use Rattle.combining.specs.Woken.{HasAddedTold, entered_since}
use Rattle.combining.proofs.EndedWaits.{told-all}
use Rattle.combining.proofs.Places.{entered-none}
use Rattle.lock_office.specs.Ended.{AreToldBy, EndsWait}
use Rattle.lock_office.specs.ProgramBoards.{TicketView}
use Rattle.library_sessions.specs.declared.session_share.SessionShare.{SessionShare}
use Rattle.library_sessions.specs.Sessions.{AreToWake}

-- A session that has entered nothing is within any bound.
pub within-none : (own most : ℕ) (t u : TicketView) → u.entered ≡ t.entered → length (entered_since t u) ≤ most + own
within-none own most t u same = let none = ap (λ (l : List ℕ). length l) (entered-none t u same) in omega (arith, none)

-- Whom to wake, if nobody was listed before.
pub to-wake : (before after : SessionShare) (n count : ℕ) (old : List ℕ) → n ≡ after.sessions → old ≡ [] → count ≡ length after.told.listener.list
    → HasAddedTold EndsWait n after.session.front (entered_since before.session after.session) old after.told.listener.list → AreToWake before after count
to-wake before after n count old many none counted told =
    let places = entered_since before.session after.session in
    let list = after.told.listener.list in
    record {
      count_is = counted;
      waking = subst (λ (m : ℕ). AreToldBy m after.session.front places list) many (told-all n after.session.front places old list none told);
    }
