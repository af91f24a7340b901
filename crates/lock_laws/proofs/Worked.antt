-- Histories worked by hand: the prover serves their calls, walks the waits, and ends the transactions.
use Rattle.std.proofs.Common.{◌≡◌, false, inr, List, [], ◌∷◌, ◌++◌, Some, refl, subst}
use Rattle.lock_modes.specs.declared.Mode.{Mode}
use Rattle.lock_modes.specs.declared.Mode.TheVariants.{S, U, X}
use Rattle.lock_modes.specs.Compatibility.{IsCompatible, are_compatible}
use Rattle.lock_modes.proofs.Compatibility.{compatible-tests}
use Rattle.lock_rules.specs.declared.calls.Call.TheVariants.{Begin, Lock, Convert}
use Rattle.lock_rules.specs.declared.calls.Reply.TheVariants.{Began, Granted, Waiting}
use Rattle.lock_rules.specs.Entries.{Entry}
use Rattle.lock_rules.specs.State.{State, held_mode}
use Rattle.lock_rules.specs.Examples.{entry, database}
use Rattle.lock_rules.specs.Legal.{IsLegal, state_of}
use Rattle.lock_rules.specs.Waits.{waits_for}
use Rattle.waits_for.specs.Walks.{AreOnCircle}
use Rattle.lock_rules.proofs.Alters.{true≢false}
use Rattle.lock_rules.proofs.Histories.{legal-served}
use Rattle.lock_rules.proofs.Settle.{reaches-walk}
use Rattle.lock_laws.specs.Ends.{ended, AreEnds, DoWaitsEnd}
use Rattle.lock_laws.specs.Victims.{BeginsToWait, with_waiting}
use Rattle.lock_laws.specs.Cycles.{DoesDoom, ClosesCycleWith}
use Rattle.lock_laws.specs.Examples.{reader_behind_update, update_behind_reader, conversion_behind_reader, readers_before_a_deadlock, reader_behind_a_deadlock, tries_past_a_waiter, WaitsThrough, LeavesNothing, WaitsFirst}
use Rattle.lock_laws.specs.Grants.{IsGrantedAt}
use Rattle.lock_laws.proofs.Victims.{request-exactly}

-- modes that the test finds incompatible conflict
conflict : (m k : Mode) → are_compatible m k ≡ false → IsCompatible m k → ⊥
conflict m k e c = true≢false (compatible-tests m k c) e

pub legal-reader : IsLegal reader_behind_update
legal-reader = legal-served reader_behind_update refl

pub reader-waits : WaitsThrough (state_of reader_behind_update) 3 [] 2
reader-waits = (record { others = []; walk = refl; request = record { session = 3; resource = database 1; mode = S }; asked = refl; held = (U, refl, conflict S U refl); runs = refl; opened = refl }, refl)

pub reader-ends : LeavesNothing (2 ∷ 3 ∷ 1 ∷ []) (state_of reader_behind_update)
reader-ends = (ended 1 (ended 3 (ended 2 (state_of reader_behind_update))), ((refl, refl), ((refl, refl), ((refl, refl), refl))), refl)

pub reader-cannot_end : (last : State) → AreEnds (3 ∷ []) (state_of reader_behind_update) last → ⊥
reader-cannot_end last a = let e = a.0.1 in absurd (cc e)

pub legal-update : IsLegal update_behind_reader
legal-update = legal-served update_behind_reader refl

pub update-waits : WaitsThrough (state_of update_behind_reader) 3 (2 ∷ []) 1
update-waits = (record { others = 2 ∷ []; walk = (refl, refl); request = record { session = 2; resource = database 1; mode = S }; asked = refl; held = (X, refl, conflict S X refl); runs = refl; opened = refl }, refl)

pub update-ends : LeavesNothing (1 ∷ 3 ∷ 2 ∷ []) (state_of update_behind_reader)
update-ends = (ended 2 (ended 3 (ended 1 (state_of update_behind_reader))), ((refl, refl), ((refl, refl), ((refl, refl), refl))), refl)

pub legal-conversion : IsLegal conversion_behind_reader
legal-conversion = legal-served conversion_behind_reader refl

pub conversion-waits : WaitsThrough (state_of conversion_behind_reader) 2 [] 1
conversion-waits = (record { others = []; walk = refl; request = record { session = 2; resource = database 1; mode = X }; asked = refl; held = (S, refl, conflict X S refl); runs = refl; opened = refl }, refl)

pub behind_conversion-waits : WaitsThrough (state_of conversion_behind_reader) 3 (2 ∷ []) 1
behind_conversion-waits = (record { others = 2 ∷ []; walk = (refl, refl); request = record { session = 2; resource = database 1; mode = X }; asked = refl; held = (S, refl, conflict X S refl); runs = refl; opened = refl }, refl)

pub conversion-ends : LeavesNothing (1 ∷ 2 ∷ 3 ∷ []) (state_of conversion_behind_reader)
conversion-ends = (ended 3 (ended 2 (ended 1 (state_of conversion_behind_reader))), ((refl, refl), ((refl, refl), ((refl, refl), refl))), refl)

pub legal-deadlock : IsLegal readers_before_a_deadlock
legal-deadlock = legal-served readers_before_a_deadlock refl

pub deadlock-begins : BeginsToWait (state_of readers_before_a_deadlock) 2 (Convert (database 1) X) (database 1) X
deadlock-begins = record { asked = X; call = inr refl; target = refl; passes = refl; waits = refl }

-- 2 waits for 1, and 1 for 2
pub deadlock-stays : DoWaitsEnd (with_waiting 2 (database 1) X (state_of readers_before_a_deadlock)) → ⊥
deadlock-stays ends = (request-exactly readers_before_a_deadlock 2 (Convert (database 1) X) (database 1) X deadlock-begins).0 ends 2 (record { others = 1 ∷ []; walk = (refl, refl) })

pub legal-tries : IsLegal tries_past_a_waiter
legal-tries = legal-served tries_past_a_waiter refl

pub tries-wait : WaitsFirst (state_of tries_past_a_waiter) 2
tries-wait = (record { session = 2; resource = database 1; mode = X }, [], refl, refl)

-- what holds of each front of a list of one entry holds of any
one-front : (P : List Entry → Type 0) (a : Entry) → P [] → P (a ∷ []) → (front rest : List Entry) → a ∷ [] ≡ front ++ rest → P front
one-front P a n o [] rest h = n
one-front P a n o (x ∷ []) rest h = let head : a ≡ x = cc in subst (λ (y : Entry). P (y ∷ [])) head o
one-front P a n o (x ∷ y ∷ front) rest h = absurd (cc)

-- and so of a list of two
two-fronts : (P : List Entry → Type 0) (a b : Entry) → P [] → P (a ∷ []) → P (a ∷ b ∷ []) → (front rest : List Entry) → a ∷ b ∷ [] ≡ front ++ rest → P front
two-fronts P a b n o t [] rest h = n
two-fronts P a b n o t (x ∷ front) rest h =
    let head : a ≡ x = cc in
    let tail : b ∷ [] ≡ front ++ rest = cc in
    subst (λ (y : Entry). P (y ∷ front)) head (one-front (λ (xs : List Entry). P (a ∷ xs)) b o t front rest tail)

-- the first three entries of the history, in which transactions begin
begins : List Entry
begins = entry 1 Begin (Began 1) ∷ entry 2 Begin (Began 2) ∷ entry 3 Begin (Began 3) ∷ []

pub first-granted : IsGrantedAt reader_behind_update 3 1 (database 1) S
unfolding begins
first-granted = record {
  before = begins;
  entry = entry 1 (Lock (database 1) S) (Granted S);
  since = entry 2 (Lock (database 1) U) (Granted U) ∷ entry 3 (Lock (database 1) S) Waiting ∷ [];
  history = refl;
  at_place = refl;
  not_before = λ e. absurd (cc);
  held_since = two-fronts (λ (xs : List Entry). held_mode (state_of (begins ++ entry 1 (Lock (database 1) S) (Granted S) ∷ xs)).table 1 (database 1) ≡ Some S) (entry 2 (Lock (database 1) U) (Granted U)) (entry 3 (Lock (database 1) S) Waiting) refl refl refl;
}

pub later-granted : IsGrantedAt reader_behind_update 4 2 (database 1) U
unfolding begins
later-granted = record {
  before = begins ++ entry 1 (Lock (database 1) S) (Granted S) ∷ [];
  entry = entry 2 (Lock (database 1) U) (Granted U);
  since = entry 3 (Lock (database 1) S) Waiting ∷ [];
  history = refl;
  at_place = refl;
  not_before = λ e. absurd (cc);
  held_since = one-front (λ (xs : List Entry). held_mode (state_of (begins ++ entry 1 (Lock (database 1) S) (Granted S) ∷ entry 2 (Lock (database 1) U) (Granted U) ∷ xs)).table 2 (database 1) ≡ Some U) (entry 3 (Lock (database 1) S) Waiting) refl refl;
}

-- a reader behind a deadlock

pub legal-behind : IsLegal reader_behind_a_deadlock
legal-behind = legal-served reader_behind_a_deadlock refl

pub behind-closed : ClosesCycleWith (state_of reader_behind_a_deadlock) 2 (Convert (database 1) X) 1
behind-closed = record {
  resource = database 1;
  target = X;
  begins = record { asked = X; call = inr refl; target = refl; passes = refl; waits = refl };
  on_cycle = record { there = record { others = []; walk = refl }; back = record { others = []; walk = refl } };
}

pub behind-beside : AreOnCircle (waits_for (with_waiting 2 (database 1) X (state_of reader_behind_a_deadlock)).table) 2 3 → ⊥
behind-beside c = true≢false (reaches-walk (with_waiting 2 (database 1) X (state_of reader_behind_a_deadlock)).table 2 3 c.there) refl

pub behind-victim : DoesDoom (state_of reader_behind_a_deadlock) 2 (Convert (database 1) X) 2
behind-victim = (refl, refl)

pub behind-spared : DoesDoom (state_of reader_behind_a_deadlock) 2 (Convert (database 1) X) 3 → ⊥
behind-spared d = true≢false d.1 refl
