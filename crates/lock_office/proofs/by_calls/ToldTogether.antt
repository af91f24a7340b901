-- What two sessions of a board were told goes together, in every state with the rule.
use Rattle.std.proofs.Common.{◌≡◌, ◌≢◌, ◌⊎◌, inl, inr, ℕ, true, false, not, ◌||◌, Option, List, ◌++◌, refl}
use Rattle.std.specs.List.{All}
use Rattle.std.proofs.lemmas.Bool.{or_left, or_right}
use Rattle.lock_modes.specs.declared.Mode.{Mode}
use Rattle.lock_modes.specs.declared.Mode.TheVariants.{S, X}
use Rattle.lock_modes.specs.Order.{IsAtOrBelow, same}
use Rattle.lock_modes.specs.Compatibility.{are_compatible}
use Rattle.lock_modes.proofs.Every.{every-at, implied}
use Rattle.lock_modes.proofs.Order.{order-from, order-tests, at_or_below-trans}
use Rattle.lock_modes.proofs.Compatibility.{compatible-tests}
use Rattle.lock_modes.proofs.Lower.{compatible-below}
use Rattle.lock_rules.specs.Entries.{Entry, Answered}
use Rattle.lock_rules.specs.State.{State}
use Rattle.lock_rules.specs.Step.{is_nothing}
use Rattle.lock_rules.specs.Legal.{IsLegal, state_of}
use Rattle.sequential.specs.Histories.{calls_of}
use Rattle.lock_rules.specs.Laws.{DoesRefusalKeep, HoldsAtLeast, GoTogether, Reads, Writes}
use Rattle.lock_rules.proofs.Lawful.{lawful}
use Rattle.lock_rules.proofs.Steps.{state-lawful}
use Rattle.lock_office.specs.by_calls.HoldsAsTold.{Pending, KeptLock, HoldsAsTold, MayReadAsTold, MayWriteAsTold}
use Rattle.lock_office.proofs.by_calls.ToldIsHeld.{told-grant, told-later}

-- Modes that go together.

-- Modes at or below two that go together go together, in the same order.
pub together-below : (a b c d : Mode) → IsAtOrBelow a b → IsAtOrBelow c d → GoTogether b d → GoTogether a c
together-below a b c d p q (inl h) = inl (compatible-below a b c d p q h)
together-below a b c d p q (inr h) = inr (compatible-below c d a b q p h)

-- Only NL goes together with X, in either order, and NL is no lock.
none-beside-x : (k : Mode) → GoTogether X k → is_nothing k ≡ true
none-beside-x k g = implied (are_compatible X k || are_compatible k X) (is_nothing k) (every-at (λ k. not (are_compatible X k || are_compatible k X) || is_nothing k) refl k) (tests g)
  where
    tests : GoTogether X k → (are_compatible X k || are_compatible k X) ≡ true
    tests (inl h) = or_left (are_compatible X k) (are_compatible k X) (compatible-tests X k h)
    tests (inr h) = or_right (are_compatible X k) (are_compatible k X) (compatible-tests k X h)

-- What two sessions were told that they hold, if each holds it in the state of one history.

module _ (h : List Entry) (i : ℕ) (Told : List ℕ → Mode → Type 0) (holds : (r : List ℕ) (m : Mode) → Told r m → HoldsAtLeast (state_of h).table i r m) where
  reads : (x : List ℕ) → MayReadAsTold Told x → Reads (state_of h).table i x
  reads x t = let k = holds t.resource t.mode t.told in (t.resource, t.over, (k.0, k.1, order-from S k.0 (at_or_below-trans S t.mode k.0 (order-tests t.reads) (order-tests k.2))))

  writes : (x : List ℕ) → MayWriteAsTold Told x → Writes (state_of h).table i x
  writes x t = let k = holds t.resource t.mode t.told in (t.resource, t.over, (k.0, k.1, order-from X k.0 (at_or_below-trans X t.mode k.0 (order-tests t.writes) (order-tests k.2))))

module _ (h : List Entry) (i j : ℕ) (ne : i ≢ j) (Mine Theirs : List ℕ → Mode → Type 0) (my-locks : (r : List ℕ) (m : Mode) → Mine r m → HoldsAtLeast (state_of h).table i r m) (their-locks : (r : List ℕ) (m : Mode) → Theirs r m → HoldsAtLeast (state_of h).table j r m) where
  pub modes-together : (r : List ℕ) (m k : Mode) → Mine r m → Theirs r k → GoTogether m k
  modes-together r m k t u =
      let x = my-locks r m t in
      let y = their-locks r k u in
      together-below m x.0 k y.0 x.2 y.2 ((lawful h).holders_compatible i j r x.0 y.0 ne x.1 y.1)

  pub none-beside : (r : List ℕ) (k : Mode) → Mine r X → Theirs r k → ⊥
  none-beside r k t u =
      let x = my-locks r X t in
      let y = their-locks r k u in
      let some : is_nothing y.0 ≡ false = ((state-lawful h).sound.held_under j r y.0 y.1).1 in
      let none : is_nothing y.0 ≡ true = none-beside-x y.0 (together-below X x.0 y.0 y.0 x.2 same ((lawful h).holders_compatible i j r x.0 y.0 ne x.1 y.1)) in
      absurd (cc (some, none))

  pub access-apart : (x : List ℕ) → MayWriteAsTold Mine x → MayReadAsTold Theirs x ⊎ MayWriteAsTold Theirs x → ⊥
  access-apart x t u = (lawful h).access_compatible i j x ne (writes h i Mine my-locks x t) (elim u [
    | inl k ↦ inl (reads h j Theirs their-locks x k)
    | inr k ↦ inr (writes h j Theirs their-locks x k)
  ])

module _ (refuses : (st : State) → DoesRefusalKeep st) where
  -- A lock held as told is held after any legal history in which the session's calls are its answers and then calls that
  -- keep the lock.
  pub told-held : (h : List Entry) → IsLegal h → (i : ℕ) (answers more : List Answered) (pending : Option Pending) (r : List ℕ) (m : Mode)
      → calls_of i h ≡ answers ++ more → All (KeptLock r) more → HoldsAsTold answers pending r m → HoldsAtLeast (state_of h).table i r m
  told-held h legal i answers more pending r m calls kept t = elim t.told [
    | inl g ↦ told-grant refuses i r h legal answers more calls kept m g
    | inr g ↦ told-later refuses i r h legal answers more calls kept m g
  ]
