-- Where the calls of a program stand.
use Rattle.std.proofs.Common.{◌≡◌, inl, inr, ℕ, zero, suc, ◌+◌, ◌<◌, ◌≤◌, Bool, List, [], ◌∷◌, ◌++◌, length, Some, slice_get, refl, ap, subst, ◌∙◌, arith}
use Rattle.sequential.specs.declared.entry.Entry.{Entry}
use Rattle.programs.specs.Form.{Form}
use Rattle.programs.specs.Flat.{entry, entries, entries_of, flat, IsRun, IsAnswer, AreRun}
use Rattle.programs.specs.Laws.{served, IsPlaced}

-- an item of the first of two lists
get-left : {T : Type 0} (xs ys : List T) (k : ℕ) (x : T) → slice_get xs k ≡ Some x → slice_get (xs ++ ys) k ≡ Some x
get-left [] ys k x h = absurd (cc)
get-left (z ∷ zs) ys zero x h = h
get-left (z ∷ zs) ys (suc k) x h = get-left zs ys k x h

-- an item of the second
get-right : {T : Type 0} (xs ys : List T) (k n : ℕ) (x : T) → n ≡ length xs + k → slice_get ys k ≡ Some x → slice_get (xs ++ ys) n ≡ Some x
get-right [] ys k n x e h = let f : n ≡ k = omega (arith, e) in ap (slice_get ys) f ∙ h
get-right (z ∷ zs) ys k zero x e h = absurd (omega (arith, e))
get-right (z ∷ zs) ys k (suc n) x e h = get-right zs ys k n x (omega (arith, e)) h

-- a call with its reply, and the entry of both
pub record IsEntryAt {C R : Type 0} (s : ℕ) (cs : List C) (rs : List R) (es : List (Entry C R)) (k : ℕ) : Type 0 where
  pub call : C
  pub reply : R
  pub of_calls : slice_get cs k ≡ Some call
  pub of_replies : slice_get rs k ≡ Some reply
  pub of_entries : slice_get es k ≡ Some (entry s call reply)

entries-at : {C R : Type 0} (s : ℕ) (cs : List C) (rs : List R) (k : ℕ) → length rs ≤ length cs → k < length rs → IsEntryAt s cs rs (entries s cs rs) k
entries-at s cs [] k n l = absurd (omega (arith, l))
entries-at s [] (r ∷ rs) k n l = absurd (omega (arith, n))
entries-at s (c ∷ cs) (r ∷ rs) zero n l = record { call = c; reply = r; of_calls = refl; of_replies = refl; of_entries = refl }
entries-at {C} {R} s (c ∷ cs) (r ∷ rs) (suc k) n l =
    let h : IsEntryAt s cs rs (entries s cs rs) k = entries-at s cs rs k (omega (arith, n)) (omega (arith, l)) in
    record { call = h.call; reply = h.reply; of_calls = h.of_calls; of_replies = h.of_replies; of_entries = h.of_entries }

-- as many entries as replies
pub entries-length : {C R : Type 0} (s : ℕ) (cs : List C) (rs : List R) → length rs ≤ length cs → length (entries s cs rs) ≡ length rs
entries-length s [] [] n = refl
entries-length s [] (r ∷ rs) n = absurd (omega (arith, n))
entries-length s (c ∷ cs) [] n = refl
entries-length s (c ∷ cs) (r ∷ rs) n = ap suc (entries-length s cs rs (omega (arith, n)))

module _ {P A C R : Type 0} (form : Form P A C R) where
  -- no more replies than calls
  pub run-few : (cs : List C) (rs : List R) (x : Bool) → IsRun form cs rs x → length rs ≤ length cs
  run-few [] [] x h = omega arith
  run-few [] (r ∷ rs) x h = absurd h
  run-few (c ∷ cs) [] x h = omega arith
  run-few (c ∷ cs) (r ∷ rs) x (inl h) = omega (arith, run-few cs rs x h.1)
  run-few (c ∷ cs) (r ∷ rs) x (inr h) = omega (arith, ap (λ (l : List R). length l) h.1)

  -- a program of a history, by the place of its first call behind the start
  pub record IsAt (place : ℕ) (h : List (Entry P A)) (e : Entry P A) : Type 0 where
    pub behind : ℕ
    pub first : form.first e.reply ≡ place + behind
    pub run : IsAnswer form e.call e.reply
    pub calls : (k : ℕ) → k < served form e → (c : C) × (r : R) × (slice_get (form.calls e.call) k ≡ Some c) × (slice_get (form.replies e.call e.reply) k ≡ Some r) × (slice_get (flat form h) (behind + k) ≡ Some (entry e.session c r))

  -- the first program of a history
  at-first : (place : ℕ) (e : Entry P A) (es : List (Entry P A)) → AreRun form place (e ∷ es) → IsAt place (e ∷ es) e
  at-first place e es h = record {
    behind = 0;
    first = omega (arith, h.0);
    run = h.1;
    calls = λ (k : ℕ) (l : k < served form e).
        let n : length (form.replies e.call e.reply) ≤ length (form.calls e.call) = run-few (form.calls e.call) (form.replies e.call e.reply) (form.refused e.reply) h.1.0 in
        let f : IsEntryAt e.session (form.calls e.call) (form.replies e.call e.reply) (entries_of form e) k = entries-at e.session (form.calls e.call) (form.replies e.call e.reply) k n l in
        let z : 0 + k ≡ k = omega arith in
        (f.call, f.reply, f.of_calls, f.of_replies, ap (slice_get (flat form (e ∷ es))) z ∙ get-left (entries_of form e) (flat form es) k (entry e.session f.call f.reply) f.of_entries);
  }

  -- a later one
  at-later : (place : ℕ) (x : Entry P A) (xs : List (Entry P A)) (e : Entry P A) → IsAt (place + length (entries_of form x)) xs e → IsAt place (x ∷ xs) e
  at-later place x xs e h = record {
    behind = length (entries_of form x) + h.behind;
    first = omega (arith, h.first);
    run = h.run;
    calls = λ (k : ℕ) (l : k < served form e).
        let f = h.calls k l in
        let n : length (entries_of form x) + h.behind + k ≡ length (entries_of form x) + (h.behind + k) = omega arith in
        (f.0, f.1, f.2, f.3, get-right (entries_of form x) (flat form xs) (h.behind + k) (length (entries_of form x) + h.behind + k) (entry e.session f.0 f.1) n f.4);
  }

  -- any of them
  pub at-place : (place : ℕ) (h : List (Entry P A)) (i : ℕ) (e : Entry P A) → AreRun form place h → slice_get h i ≡ Some e → IsAt place h e
  at-place place [] i e h g = absurd (cc)
  at-place place (x ∷ xs) zero e h g =
      let q : x ≡ e = cc in subst (λ (y : Entry P A). IsAt place (x ∷ xs) y) q (at-first place x xs h)
  at-place place (x ∷ xs) (suc i) e h g = at-later place x xs e (at-place (place + length (entries_of form x)) xs i e h.2 g)

  -- the calls of each program of a history stand side by side
  pub placed : (h : List (Entry P A)) (i : ℕ) (e : Entry P A) → AreRun form 0 h → slice_get h i ≡ Some e → IsPlaced form h e
  placed h i e a g = λ (k : ℕ) (l : k < served form e).
      let p : IsAt 0 h e = at-place 0 h i e a g in
      let f = p.calls k l in
      let n : form.first e.reply + k ≡ p.behind + k = omega (arith, p.first) in
      (f.0, f.1, f.2, f.3, ap (slice_get (flat form h)) n ∙ f.4)

  -- as many entries as were served
  entries_of-length : (e : Entry P A) → IsRun form (form.calls e.call) (form.replies e.call e.reply) (form.refused e.reply) → length (entries_of form e) ≡ served form e
  entries_of-length e r = entries-length e.session (form.calls e.call) (form.replies e.call e.reply) (run-few (form.calls e.call) (form.replies e.call e.reply) (form.refused e.reply) r)

  -- a later program's calls stand behind an earlier one's
  pub ordered : (place : ℕ) (h : List (Entry P A)) (i j : ℕ) (e f : Entry P A) → AreRun form place h → i < j → slice_get h i ≡ Some e → slice_get h j ≡ Some f → form.first e.reply + served form e ≤ form.first f.reply
  ordered place [] i j e f a l g k = absurd (cc)
  ordered place (x ∷ xs) i zero e f a l g k = absurd (omega (arith, l))
  ordered place (x ∷ xs) zero (suc j) e f a l g k =
      let q : x ≡ e = cc in
      let p : IsAt (place + length (entries_of form x)) xs f = at-place (place + length (entries_of form x)) xs j f a.2 k in
      subst (λ (y : Entry P A). form.first y.reply + served form y ≤ form.first f.reply) q (omega (arith, a.0, p.first, entries_of-length x a.1.0))
  ordered place (x ∷ xs) (suc i) (suc j) e f a l g k = ordered (place + length (entries_of form x)) xs i j e f a.2 (omega (arith, l)) g k
