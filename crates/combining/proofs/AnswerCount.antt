-- A history with entries of these sessions only has as many entries as the sessions have calls in it.
use Rattle.std.proofs.Common.{◌≡◌, ◌≢◌, ℕ, zero, suc, ◌+◌, ◌<◌, ◌≤◌, Bool, true, false, cond, eqb, List, [], ◌∷◌, length, get_or, refl, sym, ap, ◌∙◌, arith, eq-eqb, ne_eqb}
use Rattle.std.specs.Prelude.{All, Any, sum_by}
use Rattle.std.proofs.lemmas.List.Sums.{sum_by-cons}
use mathlib.Core.Logic.{dite}
use native.Mathlib.Decide.{ℕ_discrete}
use Rattle.sequential.specs.declared.entry.Entry.{Entry}
use Rattle.sequential.specs.Histories.{Answered, calls_from, calls_of}
use Rattle.sequential.specs.Histories.{IsEntryWithin}
use Rattle.publication.specs.Views.{TicketView}
use Rattle.publication.specs.Boards.{IsEachOnce, AccountsFor}
use Rattle.combining.specs.Closed.{answers_of}

-- sums over the numbers from 1 to n

-- The sum of f over the numbers 1 to n.
abbrev sum_to : ℕ → (ℕ → ℕ) → ℕ
sum_to zero f = 0
sum_to (suc n) f = sum_to n f + f (suc n)

sum_to_same : (n : ℕ) (f g : ℕ → ℕ) → ((j : ℕ) → f j ≡ g j) → sum_to n f ≡ sum_to n g
sum_to_same zero f g same = refl
sum_to_same (suc n) f g same = omega (arith, sum_to_same n f g same, same (suc n))

sum_to_both : (n : ℕ) (f g : ℕ → ℕ) → sum_to n (λ j. f j + g j) ≡ sum_to n f + sum_to n g
sum_to_both zero f g = refl
sum_to_both (suc n) f g = omega (arith, sum_to_both n f g)

sum_to_zero : (n : ℕ) → sum_to n (λ _. 0) ≡ 0
sum_to_zero zero = refl
sum_to_zero (suc n) = omega (arith, sum_to_zero n)

-- 1 at number s, and 0 elsewhere.
abbrev one_at : ℕ → ℕ → ℕ
one_at s j = cond (eqb s j) 1 0

one_here : (s j : ℕ) → s ≡ j → one_at s j ≡ 1
one_here s j e = ap (λ (b : Bool). cond {A = ℕ} b 1 0) (eq-eqb s j e)

one_elsewhere : (s j : ℕ) → s ≢ j → one_at s j ≡ 0
one_elsewhere s j ne = ap (λ (b : Bool). cond {A = ℕ} b 1 0) (ne_eqb s j ne)

sum_to_below : (n s : ℕ) → n < s → sum_to n (one_at s) ≡ 0
sum_to_below zero s few = refl
sum_to_below (suc n) s few = omega (arith, sum_to_below n s (omega arith), one_elsewhere s (suc n) (λ e. omega arith))

sum_to_one : (n s : ℕ) → 0 < s → s ≤ n → sum_to n (one_at s) ≡ 1
sum_to_one zero s some few = absurd (omega arith)
sum_to_one (suc n) s some few = dite (ℕ_discrete s (suc n))
    (λ e. omega (arith, sum_to_below n s (omega arith), one_here s (suc n) e))
    (λ ne. omega (arith, sum_to_one n s some (omega arith), one_elsewhere s (suc n) ne))

module _ {C R : Type 0} where
  -- entries counted by session

  -- How many of these entries, the first at `place`, are session j's.
  abbrev count_from : ℕ → List (Entry C R) → ℕ → ℕ
  count_from place es j = length (calls_from j place es)

  count_next : (j place : ℕ) (e : Entry C R) (es : List (Entry C R)) → count_from place (e ∷ es) j ≡ one_at e.session j + count_from (place + 1) es j
  count_next j place e es =
      let later : List (Answered C R) = calls_from j (place + 1) es in
      elim (eqb e.session j) as (λ b. length (cond b (record { place = place; call = e.call; reply = e.reply } ∷ later) later) ≡ cond {A = ℕ} b 1 0 + length later) [ true ↦ omega arith | false ↦ omega arith ]

  counted_from : (n place : ℕ) (es : List (Entry C R)) → All (IsEntryWithin n) es → length es ≡ sum_to n (count_from place es)
  counted_from n place [] within = sym (sum_to_zero n)
  counted_from n place (e ∷ es) within =
      let first : IsEntryWithin n e = within 0 e (omega arith) in
      let later = counted_from n (place + 1) es (λ k d few. within (suc k) d (omega arith)) in
      let split = sum_to_same n (count_from place (e ∷ es)) (λ j. one_at e.session j + count_from (place + 1) es j) (λ j. count_next j place e es) in
      omega (arith, later, split, sum_to_both n (one_at e.session) (count_from (place + 1) es), sum_to_one n e.session (omega (arith, first.some)) first.within)

  -- sessions, each of which is in the list once

  -- The session with number n, and the list without it.
  record IsTaken (n : ℕ) (ts : List (TicketView C R)) (t : TicketView C R) (rest : List (TicketView C R)) : Type 0 where
    number : t.number ≡ n
    long : length ts ≡ suc (length rest)
    sum : (f : TicketView C R → ℕ) → sum_by f ts ≡ f t + sum_by f rest
    still : (m : ℕ) → n ≢ m → Any (λ u. u.number ≡ m) ts → Any (λ u. u.number ≡ m) rest

  -- A session with number m is in the list.
  abbrev Found : ℕ → List (TicketView C R) → Type 0
  Found m ts = Any (λ u. u.number ≡ m) ts

  first_taken : (n : ℕ) (t : TicketView C R) (ts : List (TicketView C R)) → t.number ≡ n → IsTaken n (t ∷ ts) t ts
  first_taken n t ts is = record { number = is; long = refl; sum = λ f. sum_by-cons f t ts; still = λ m ne r. go m ne r.0 r.1 r.2 r.3 r.4 }
    where
      go : (m : ℕ) → n ≢ m → (k : ℕ) (u : TicketView C R) → k < length (t ∷ ts) → get_or (t ∷ ts) k u ≡ u → u.number ≡ m → Found m ts
      go m ne zero u few here is_m = absurd (ne (sym is ∙ (ap (λ (v : TicketView C R). v.number) here ∙ is_m)))
      go m ne (suc k) u few here is_m = (k, u, omega arith, here, is_m)

  later_taken : (n : ℕ) (x : TicketView C R) (ts : List (TicketView C R)) (t : TicketView C R) (rest : List (TicketView C R)) → IsTaken n ts t rest → IsTaken n (x ∷ ts) t (x ∷ rest)
  later_taken n x ts t rest taken = record {
    number = taken.number;
    long = ap suc taken.long;
    sum = λ f. omega (arith, sum_by-cons f x ts, sum_by-cons f x rest, taken.sum f);
    still = λ m ne r. go m ne r.0 r.1 r.2 r.3 r.4;
  }
    where
      go : (m : ℕ) → n ≢ m → (k : ℕ) (u : TicketView C R) → k < length (x ∷ ts) → get_or (x ∷ ts) k u ≡ u → u.number ≡ m → Found m (x ∷ rest)
      go m ne zero u few here is_m = (0, u, omega arith, here, is_m)
      go m ne (suc k) u few here is_m = let r = taken.still m ne (k, u, omega arith, here, is_m) in (suc r.0, r.1, omega (arith, r.2), r.3, r.4)

  take_out : (n : ℕ) (ts : List (TicketView C R)) (k : ℕ) (u : TicketView C R) → k < length ts → get_or ts k u ≡ u → u.number ≡ n → (t : TicketView C R) × (rest : List (TicketView C R)) × IsTaken n ts t rest
  take_out n [] k u few here is = absurd (omega arith)
  take_out n (t ∷ ts) zero u few here is = (t, ts, first_taken n t ts (ap (λ (v : TicketView C R). v.number) here ∙ is))
  take_out n (t ∷ ts) (suc k) u few here is = let r = take_out n ts k u (omega arith) here is in (r.0, t ∷ r.1, later_taken n t ts r.0 r.1 r.2)

  -- A sum over the sessions is a sum over their numbers.
  sum_of_each : (f : ℕ → ℕ) (n : ℕ) (ts : List (TicketView C R)) → IsEachOnce n ts → sum_by (λ t. f t.number) ts ≡ sum_to n f
  sum_of_each f zero [] all = refl
  sum_of_each f zero (t ∷ ts) all = absurd (omega (arith, all.as_many))
  sum_of_each f (suc n) ts all =
      let r = all.each (suc n) (omega arith) (omega arith) in
      let taken = take_out (suc n) ts r.0 r.1 r.2 r.3 r.4 in
      let is = taken.2 in
      let others : IsEachOnce n taken.1 = record {
        as_many = omega (arith, is.long, all.as_many);
        each = λ number some few. is.still number (λ e. omega arith) (all.each number some (omega arith));
      } in
      omega (arith, is.sum (λ t. f t.number), ap f is.number, sum_of_each f n taken.1 others)

  sums_same : (f g : TicketView C R → ℕ) (ts : List (TicketView C R)) → All (λ t. f t ≡ g t) ts → sum_by f ts ≡ sum_by g ts
  sums_same f g [] same = refl
  sums_same f g (t ∷ ts) same = omega (arith, sum_by-cons f t ts, sum_by-cons g t ts, same 0 t (omega arith), sums_same f g ts (λ k d few. same (suc k) d (omega arith)))

  -- The history has as many entries as the sessions collected answers.
  pub counted : (n : ℕ) (ts : List (TicketView C R)) (h : List (Entry C R)) → IsEachOnce n ts → All (IsEntryWithin n) h → All (AccountsFor h) ts → length h ≡ answers_of ts
  counted n ts h all within accounts =
      let by_numbers = counted_from n 0 h within in
      let by_sessions = sum_of_each (λ j. length (calls_of j h)) n ts all in
      let collected = sums_same (λ t. length (calls_of t.number h)) (λ t. length t.collected) ts (λ k d few. ap (λ (l : List (Answered C R)). length l) (accounts k d few).calls) in
      omega (arith, by_numbers, by_sessions, collected)
