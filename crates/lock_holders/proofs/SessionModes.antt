-- Lists of sessions with modes: the holders or the queue of one resource.
use Rattle.std.proofs.Common.{◌≡◌, ℕ, ◌+◌, ◌<◌, ◌≤◌, true, false, is_some, cond, not, eqb, ◌&&◌, ◌||◌, ◌⊎◌, inr, List, [], ◌∷◌, ◌++◌, length, get_or, take, drop, set, refl, sym, ◌∙◌, ap, arith, add-one}
use Rattle.std.proofs.lemmas.List.{set_split, drop_more}
use Rattle.std.proofs.lemmas.Bool.Decides.{nat_tests}
use Rattle.lock_holders.specs.declared.session_mode.SessionMode.{SessionMode}
use Rattle.lock_holders.specs.SessionModes.{with_holder, has_session, mode_of, times, without, is_nobody}

-- a holder that changes its mode

-- the first holder is replaced if it is that of the session
with_holder-same : (c h : SessionMode) (hs : List SessionMode) → h.session ≡ c.session → with_holder c (h ∷ hs) ≡ c ∷ hs
with_holder-same c h hs e = grind (arith, nat_tests)

-- overwriting the holder of a session at its index makes it a holder with the new mode
pub with_holder-set : (xs : List SessionMode) (i : ℕ) (c h : SessionMode) → i < length xs → h ≡ get_or xs i h → h.session ≡ c.session → with_holder c xs ≡ take i xs ++ with_holder c (drop i xs) → set xs i c ≡ with_holder c xs
with_holder-set xs i c h lt at e passed =
    set_split xs i c lt
    ∙ sym (passed ∙ ap (λ ys. take i xs ++ with_holder c ys) (drop_more xs i h lt ∙ ap (λ y. y ∷ drop (i + 1) xs) (sym at))
    ∙ ap (λ ys. take i xs ++ ys) (with_holder-same c h (drop (i + 1) xs) e) ∙ rw add-one refl)

-- how often a session is in a list

-- a session is in the list and occurs at least once, or is not and occurs 0 times
pub has_tells : (s : ℕ) (cs : List SessionMode) → ((has_session s cs ≡ true) × (1 ≤ times s cs)) ⊎ ((has_session s cs ≡ false) × (times s cs ≡ 0))
has_tells s [] = inr (refl, refl)
has_tells s (c ∷ cs) = grind (arith, nat_tests, has_tells s cs)

-- the sessions that hold after one is inserted: the new one and those before
pub has_session-with_holder : (s : ℕ) (c : SessionMode) (hs : List SessionMode) → has_session s (with_holder c hs) ≡ (eqb c.session s || has_session s hs)
has_session-with_holder s c [] = refl
has_session-with_holder s c (h ∷ hs) = grind (arith, nat_tests, has_session-with_holder s c hs)

-- adding a request at the end counts one more for its session
pub times-push : (s : ℕ) (cs : List SessionMode) (c : SessionMode) → times s (cs ++ c ∷ []) ≡ times s cs + cond (eqb c.session s) 1 0
times-push s [] c = grind (arith, nat_tests)
times-push s (d ∷ cs) c = grind (arith, nat_tests, times-push s cs c)

-- the sessions in a list after one is added at the end: the new one and those before
pub has_session-push : (s : ℕ) (cs : List SessionMode) (c : SessionMode) → has_session s (cs ++ c ∷ []) ≡ (eqb c.session s || has_session s cs)
has_session-push s [] c = refl
has_session-push s (d ∷ cs) c = grind (arith, nat_tests, has_session-push s cs c)

-- removing a session adds no occurrence of any
pub times-without : (s u : ℕ) (cs : List SessionMode) → times u (without s cs) ≤ times u cs
times-without s u [] = omega arith
times-without s u (c ∷ cs) = grind (arith, nat_tests, times-without s u cs)

-- the sessions in a list after one is removed: all others
pub has_session-without : (s u : ℕ) (cs : List SessionMode) → has_session u (without s cs) ≡ (not (eqb u s) && has_session u cs)
has_session-without s u [] = grind (arith, nat_tests)
has_session-without s u (c ∷ cs) = grind (arith, nat_tests, has_session-without s u cs)

-- removing a session that is not in the list changes nothing
pub without-none : (s : ℕ) (cs : List SessionMode) → has_session s cs ≡ false → without s cs ≡ cs
without-none s [] h = refl
without-none s (c ∷ cs) h = grind (arith, nat_tests, without-none s cs)

-- a list with a holder inserted is not empty
pub nobody-with_holder : (c : SessionMode) (hs : List SessionMode) → is_nobody (with_holder c hs) ≡ false
nobody-with_holder c [] = refl
nobody-with_holder c (h ∷ hs) = grind (arith, nat_tests)

-- a session has a mode in the list exactly if it is in the list
pub mode-has : (s : ℕ) (cs : List SessionMode) → is_some (mode_of s cs) ≡ has_session s cs
mode-has s [] = refl
mode-has s (c ∷ cs) = grind (arith, nat_tests, mode-has s cs)

-- requests in the queue
