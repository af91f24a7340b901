-- One grant of a promotion: the granted session has a locker, and only that locker changes.
use Rattle.std.proofs.Common.{◌≡◌, ℕ, suc, ◌<◌, ◌≤◌, true, eqb, ◌||◌, Option, Some, None, is_some, List, length, get_or, set, refl, sym, ◌∙◌, ap, arith, subst}
use Rattle.std.proofs.lemmas.Bool.{or_parts}
use Rattle.std.proofs.lemmas.Bool.Decides.{nat_tests}
use Rattle.lock_holders.specs.declared.session_mode.SessionMode.{SessionMode}
use Rattle.lock_table.specs.declared.lockers.Locker.{Locker}
use Rattle.lock_table.specs.inner.Cells.{View, IsOnce}
use Rattle.lock_holders.specs.SessionModes.{has_session}
use Rattle.lock_table.specs.inner.Requests.{wanted_in}
use Rattle.lock_table.specs.inner.Lockers.{Standing, standing_of, standings_of, standing_at, is_wanted, standing_after_grant, AreSameOrGranted, DoAgree}
use Rattle.lock_holders.specs.Woken.{WokenListView, is_ended}
use Rattle.lock_table.specs.inner.Ended.{DoNoteEnded}
use Rattle.lock_table.proofs.EndedWaits.{list-granted}
use Rattle.lock_table.proofs.ResourceViews.{IsNext, next-waits}
use Rattle.lock_table.proofs.LockerStandings.{IsPositionOf, standing-here, standings-set, length-standings, waits-within, agree-next, same-next}

module _ (r : List ℕ) (v w : View) (c : SessionMode) (lockers : List Locker) (n : IsNext v c w) (agree : DoAgree r v (standings_of lockers)) where
  -- the session waits for the resource
  pub grant-waits : is_wanted r (standing_at c.session (standings_of lockers)).wanted ≡ true
  grant-waits = agree.wanted c.session ∙ next-waits v c w n

  -- its number is at least 1
  pub grant-some : IsOnce v → 1 ≤ c.session
  grant-some o = let k = or_parts (eqb c.session 0) (has_session 0 w.waiting) (sym (ap (has_session 0) n.first) ∙ o.waiting) in let e = k.0 in grind (arith, nat_tests)

  -- it has a locker
  pub grant-within : {i : ℕ} → suc i ≡ c.session → IsPositionOf c.session i lockers
  grant-within e = record { session = e; within = omega (arith, waits-within (standings_of lockers) r c.session grant-waits, length-standings lockers, e) }

  module _ (locker : Locker) {i : ℕ} (next : suc i ≡ c.session) (at : locker ≡ get_or lockers i locker) where
    here : standing_at c.session (standings_of lockers) ≡ standing_of locker
    here = standing-here lockers c.session locker (grant-within next) at

    -- its locker says that it waits for the resource
    pub grant-waits_locker : is_wanted r (wanted_in locker.wanted) ≡ true
    grant-waits_locker = ap (λ (x : Standing). is_wanted r x.wanted) (sym here) ∙ grant-waits

    module _ (new : Locker) (q : List ℕ) (e : standing_of new ≡ standing_after_grant q (standing_of locker)) (same : q ≡ r) where
      -- only its standing changes
      pub grant-lockers : standings_of (set lockers i new) ≡ set (standings_of lockers) c.session (standing_after_grant r (standing_at c.session (standings_of lockers)))
      grant-lockers = standings-set lockers c.session new next ∙ ap (λ (x : Standing). set (standings_of lockers) c.session x) (e ∙ (ap (λ (p : List ℕ). standing_after_grant p (standing_of locker)) same ∙ ap (standing_after_grant r) (sym here)))

      long : c.session < length (standings_of lockers)
      long = waits-within (standings_of lockers) r c.session grant-waits

      -- lockers and cell agree after the grant
      pub grant-agree : IsOnce v → DoAgree r w (standings_of (set lockers i new))
      grant-agree o = rw grant-lockers (agree-next r v c w (standings_of lockers) n o agree long)

      -- compared with the start, each session was granted the resource or is unchanged
      pub grant-same : (old : List Standing) → AreSameOrGranted r old (standings_of lockers) → AreSameOrGranted r old (standings_of (set lockers i new))
      grant-same old h = subst (AreSameOrGranted r old) (sym grant-lockers) (same-next r old (standings_of lockers) c.session long grant-waits h)

      -- and its session is listed
      pub grant-waits_ended : (a b : WokenListView) → length b.places ≡ length a.places → ((u : ℕ) → is_ended b u ≡ (is_ended a u || eqb u c.session)) → DoNoteEnded 0 lockers (set lockers i new) a b
      grant-waits_ended a b sized adds = list-granted c.session lockers new a b (grant-within next) (wanted-some (standing_at c.session (standings_of lockers)).wanted grant-waits) (ap (λ (x : Standing). is_some x.wanted) e) sized adds
        where
          wanted-some : (o : Option (List ℕ)) → is_wanted r o ≡ true → is_some o ≡ true
          wanted-some None h = absurd (cc)
          wanted-some (Some p) h = refl
