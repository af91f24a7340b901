-- The queue of one resource: a request is added, and a conversion goes behind the conversions at its front.
use Rattle.std.proofs.Common.{◌≡◌, ℕ, ◌+◌, Bool, true, false, cond, eqb, ◌||◌, List, [], ◌∷◌, ◌++◌, refl, ◌∙◌, ap, arith}
use Rattle.std.proofs.lemmas.Bool.Decides.{nat_tests}
use Rattle.std.proofs.lemmas.Bool.{cases_Bool}
use Rattle.lock_holders.specs.declared.session_mode.SessionMode.{SessionMode}
use Rattle.lock_holders.specs.SessionModes.{has_session, times, is_nobody}
use Rattle.lock_holders.proofs.SessionModes.{times-push, has_session-push}
use Rattle.lock_table.specs.inner.Cells.{behind_conversions, queue_with}

-- each of the requests is of a holder, or, for `false`, none is
abbrev pub AreAll : List SessionMode → Bool → List SessionMode → Type 0
AreAll hs b [] = Unit {0}
AreAll hs b (q ∷ qs) = (has_session q.session hs ≡ b) × AreAll hs b qs

-- inserting a request behind the conversions counts one more for its session
times-behind : (s : ℕ) (c : SessionMode) (hs qs : List SessionMode) → times s (behind_conversions c hs qs) ≡ times s qs + cond (eqb c.session s) 1 0
times-behind s c hs [] = grind (arith, nat_tests)
times-behind s c hs (q ∷ qs) = grind (arith, nat_tests, cases_Bool (has_session q.session hs), times-behind s c hs qs)

-- adding a request to the queue counts one more for its session
pub times-queued : (s : ℕ) (c : SessionMode) (hs qs : List SessionMode) → times s (queue_with c hs qs) ≡ times s qs + cond (eqb c.session s) 1 0
times-queued s c hs qs = go (has_session c.session hs)
  where
    go : (b : Bool) → times s (cond b (behind_conversions c hs qs) (qs ++ c ∷ [])) ≡ times s qs + cond (eqb c.session s) 1 0
    go true = times-behind s c hs qs
    go false = times-push s qs c

-- the sessions that wait after a conversion is inserted: the new one and those before
has_session-behind : (s : ℕ) (c : SessionMode) (hs qs : List SessionMode) → has_session s (behind_conversions c hs qs) ≡ (eqb c.session s || has_session s qs)
has_session-behind s c hs [] = refl
has_session-behind s c hs (q ∷ qs) = grind (arith, nat_tests, cases_Bool (has_session q.session hs), has_session-behind s c hs qs)

-- the sessions that wait after a request is added: the new one and those before
pub has_session-queued : (s : ℕ) (c : SessionMode) (hs qs : List SessionMode) → has_session s (queue_with c hs qs) ≡ (eqb c.session s || has_session s qs)
has_session-queued s c hs qs = go (has_session c.session hs)
  where
    go : (b : Bool) → has_session s (cond b (behind_conversions c hs qs) (qs ++ c ∷ [])) ≡ (eqb c.session s || has_session s qs)
    go true = has_session-behind s c hs qs
    go false = has_session-push s qs c

-- a queue with a request added is not empty
pub nobody-queued : (c : SessionMode) (hs qs : List SessionMode) → is_nobody (queue_with c hs qs) ≡ false
nobody-queued c hs qs = go (has_session c.session hs) qs
  where
    go : (b : Bool) (qs : List SessionMode) → is_nobody (cond b (behind_conversions c hs qs) (qs ++ c ∷ [])) ≡ false
    go true [] = refl
    go true (q ∷ qs) = either (has_session q.session hs)
      where
        either : (b : Bool) → is_nobody (cond b (q ∷ behind_conversions c hs qs) (c ∷ q ∷ qs)) ≡ false
        either true = refl
        either false = refl
    go false [] = refl
    go false (q ∷ qs) = refl

-- behind conversions at the front, and ahead of fresh requests, is where a conversion is inserted
pub behind-between : (c : SessionMode) (hs front rest : List SessionMode) → AreAll hs true front → AreAll hs false rest → behind_conversions c hs (front ++ rest) ≡ front ++ c ∷ rest
behind-between c hs [] [] a b = refl
behind-between c hs [] (q ∷ rest) a b = ap (λ (x : Bool). cond x (q ∷ behind_conversions c hs rest) (c ∷ q ∷ rest)) b.0
behind-between c hs (p ∷ front) rest a b = ap (λ (x : Bool). cond x (p ∷ behind_conversions c hs (front ++ rest)) (c ∷ p ∷ (front ++ rest))) a.0 ∙ ap (λ (xs : List SessionMode). p ∷ xs) (behind-between c hs front rest a.1 b)
