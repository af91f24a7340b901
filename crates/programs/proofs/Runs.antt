-- A program while it runs, and at its end.
use Rattle.std.proofs.Common.{◌≡◌, inl, inr, ℕ, ◌+◌, ◌<◌, Bool, true, false, List, [], ◌∷◌, ◌++◌, length, length-append, append_assoc, append-nil, Some, slice_get, refl, sym, ap, subst, ◌∙◌, arith}
use Rattle.sequential.specs.declared.entry.Entry.{Entry}
use Rattle.programs.specs.Form.{Form, AllGoOn}
use Rattle.programs.specs.Flat.{entry, entries, IsRun}
use Rattle.programs.specs.Runs.{HasRun}
use Rattle.programs.specs.inner.Running.{HasBegun, IsRunning}

-- one more reply is one more entry
pub entries-push : {C R : Type 0} (s : ℕ) (cs : List C) (rs : List R) (c : C) (r : R) → slice_get cs (length rs) ≡ Some c → entries s cs (rs ++ r ∷ []) ≡ entries s cs rs ++ entry s c r ∷ []
entries-push s [] rs c r h = absurd (cc)
entries-push {C} {R} s (d ∷ cs) [] c r h = let e : d ≡ c = cc in ap (λ (x : C). entry s x r ∷ entries s cs []) e ∙ more cs
  where
    more : (xs : List C) → entry s c r ∷ entries s xs [] ≡ entry s c r ∷ []
    more [] = refl
    more (x ∷ xs) = refl
entries-push {C} {R} s (d ∷ cs) (q ∷ rs) c r h = ap (λ (x : List (Entry C R)). entry s d q ∷ x) (entries-push s cs rs c r h)

-- no entry without replies
entries-none : {C R : Type 0} (s : ℕ) (cs : List C) (rs : List R) → length rs ≡ 0 → entries s cs rs ≡ []
entries-none s [] rs n = refl
entries-none s (c ∷ cs) [] n = refl
entries-none s (c ∷ cs) (r ∷ rs) n = absurd (omega (arith, n))

-- a history with no entries more
same-history : {C R : Type 0} (s : ℕ) (cs : List C) (rs : List R) (old : List (Entry C R)) → length rs ≡ 0 → old ≡ old ++ entries s cs rs
same-history {C} {R} s cs rs old n = sym (append-nil old) ∙ ap (λ (x : List (Entry C R)). old ++ x) (sym (entries-none s cs rs n))

module _ {P A C R : Type 0} (form : Form P A C R) where
  -- the program goes on behind one more
  pub going-push : (rs : List R) (r : R) → AllGoOn form rs → form.goes_on r ≡ true → AllGoOn form (rs ++ r ∷ [])
  going-push [] r h e = (e, tt)
  going-push (q ∷ rs) r h e = (h.0, going-push rs r h.1 e)

  -- all calls were served, and the program goes on behind the last
  pub run-whole : (cs : List C) (rs : List R) → AllGoOn form rs → length rs ≡ length cs → IsRun form cs rs false
  run-whole [] [] h n = refl
  run-whole [] (r ∷ rs) h n = omega (arith, n)
  run-whole (c ∷ cs) [] h n = absurd (omega (arith, n))
  run-whole (c ∷ cs) (r ∷ rs) h n = inl (h.0, run-whole cs rs h.1 (omega (arith, n)))

  -- memory was refused to the next call
  pub run-cut : (cs : List C) (rs : List R) → AllGoOn form rs → length rs < length cs → IsRun form cs rs true
  run-cut [] rs h n = absurd (omega (arith, n))
  run-cut (c ∷ cs) [] h n = refl
  run-cut (c ∷ cs) (r ∷ rs) h n = inl (h.0, run-cut cs rs h.1 (omega (arith, n)))

  -- the program stops at the last reply
  pub run-stopped : (cs : List C) (rs : List R) (r : R) → AllGoOn form rs → length rs < length cs → form.goes_on r ≡ false → IsRun form cs (rs ++ r ∷ []) false
  run-stopped [] rs r h n e = absurd (omega (arith, n))
  run-stopped (c ∷ cs) [] r h n e = inr (e, refl, refl)
  run-stopped (c ∷ cs) (q ∷ rs) r h n e = inl (h.0, run-stopped cs rs r h.1 (omega (arith, n)) e)

  -- before the first call
  pub running-new : (s : ℕ) (p : P) (old : List (Entry C R)) (a : A) → form.first a ≡ length old → form.replies p a ≡ [] → form.refused a ≡ false → IsRunning form s p old old a 0
  running-new s p old a f n e =
      let z : length (form.replies p a) ≡ 0 = ap (λ (rs : List R). length rs) n in record {
        first = f;
        history = same-history s (form.calls p) (form.replies p a) old z;
        count = z;
        going = subst (AllGoOn form) (sym n) tt;
        refused = e;
      }

  -- the history with the entry of one more call
  longer : (s : ℕ) (p : P) (old new newer : List (Entry C R)) (a b : A) (at : ℕ) (c : C) (r : R) → IsRunning form s p old new a at → slice_get (form.calls p) at ≡ Some c
      → newer ≡ new ++ entry s c r ∷ [] → form.replies p b ≡ form.replies p a ++ r ∷ [] → newer ≡ old ++ entries s (form.calls p) (form.replies p b)
  longer s p old new newer a b at c r h g e f =
      let k : slice_get (form.calls p) (length (form.replies p a)) ≡ Some c = ap (slice_get (form.calls p)) h.count ∙ g in
      e ∙ ap (λ (x : List (Entry C R)). x ++ entry s c r ∷ []) h.history ∙ append_assoc old (entries s (form.calls p) (form.replies p a)) (entry s c r ∷ [])
      ∙ ap (λ (x : List (Entry C R)). old ++ x) (sym (entries-push s (form.calls p) (form.replies p a) c r k) ∙ ap (entries s (form.calls p)) (sym f))

  -- one more call, behind which the program goes on
  pub running-push : (s : ℕ) (p : P) (old new newer : List (Entry C R)) (a b : A) (at : ℕ) (c : C) (r : R) → IsRunning form s p old new a at → slice_get (form.calls p) at ≡ Some c
      → newer ≡ new ++ entry s c r ∷ [] → form.replies p b ≡ form.replies p a ++ r ∷ [] → form.first b ≡ form.first a → form.refused b ≡ form.refused a
      → form.goes_on r ≡ true → IsRunning form s p old newer b (at + 1)
  running-push s p old new newer a b at c r h g e f i j k = record {
    first = i ∙ h.first;
    history = longer s p old new newer a b at c r h g e f;
    count = omega (arith, h.count, ap (λ (rs : List R). length rs) f, length-append (form.replies p a) (r ∷ []));
    going = subst (AllGoOn form) (sym f) (going-push (form.replies p a) r h.going k);
    refused = j ∙ h.refused;
  }

  -- one more call, at whose reply the program stops
  pub run-at-stop : (s : ℕ) (p : P) (old new newer : List (Entry C R)) (a b : A) (at : ℕ) (c : C) (r : R) → IsRunning form s p old new a at → at < length (form.calls p) → slice_get (form.calls p) at ≡ Some c
      → newer ≡ new ++ entry s c r ∷ [] → form.replies p b ≡ form.replies p a ++ r ∷ [] → form.first b ≡ form.first a → form.refused b ≡ form.refused a
      → form.goes_on r ≡ false → HasRun form s p old newer b
  run-at-stop s p old new newer a b at c r h l g e f i j k = record {
    first = i ∙ h.first;
    history = longer s p old new newer a b at c r h g e f;
    run = (
      as_run (form.replies p b) (form.refused b) f (j ∙ h.refused) (run-stopped (form.calls p) (form.replies p a) r h.going (omega (arith, h.count, l)) k),
      λ x. absurd (let y = j in let z = h.refused in cc),
    );
  }
    where
      as_run : (rs : List R) (x : Bool) → rs ≡ form.replies p a ++ r ∷ [] → x ≡ false → IsRun form (form.calls p) (form.replies p a ++ r ∷ []) false → IsRun form (form.calls p) rs x
      as_run rs x u v w = subst (λ (q : List R). IsRun form (form.calls p) q x) (sym u) (subst (IsRun form (form.calls p) (form.replies p a ++ r ∷ [])) (sym v) w)

  -- memory was refused to the next call
  pub run-at-cut : (s : ℕ) (p : P) (old new newer : List (Entry C R)) (a b : A) (at : ℕ) → IsRunning form s p old new a at → 0 < at → at < length (form.calls p)
      → newer ≡ new → form.replies p b ≡ form.replies p a → form.first b ≡ form.first a → form.refused b ≡ true → HasRun form s p old newer b
  run-at-cut s p old new newer a b at h some l e f i j = record {
    first = i ∙ h.first;
    history = e ∙ h.history ∙ ap (λ (rs : List R). old ++ entries s (form.calls p) rs) (sym f);
    run = (
      subst (λ (q : List R). IsRun form (form.calls p) q (form.refused b)) (sym f)
          (subst (IsRun form (form.calls p) (form.replies p a)) (sym j) (run-cut (form.calls p) (form.replies p a) h.going (omega (arith, h.count, l)))),
      λ x. omega (arith, some, h.count, ap (λ (q : List R). length q) f),
    );
  }

  -- all calls were served
  pub run-at-end : (s : ℕ) (p : P) (old new : List (Entry C R)) (a : A) (at : ℕ) → IsRunning form s p old new a at → at ≡ length (form.calls p) → HasRun form s p old new a
  run-at-end s p old new a at h n = record {
    first = h.first;
    history = h.history;
    run = (
      subst (IsRun form (form.calls p) (form.replies p a)) (sym h.refused) (run-whole (form.calls p) (form.replies p a) h.going (h.count ∙ n)),
      λ x. absurd (let y = h.refused in cc),
    );
  }

  -- a program with a first call has calls
  pub some-calls : (cs : List C) (c : C) → slice_get cs 0 ≡ Some c → 0 < length cs
  some-calls [] c h = absurd (cc)
  some-calls (d ∷ cs) c h = omega arith

  -- the answer has the reply to the first call, and the program goes on
  pub begun-on : (s : ℕ) (p : P) (old new : List (Entry C R)) (a b : A) (r : R) → HasBegun form s p old new a r → form.replies p b ≡ form.replies p a ++ r ∷ [] → form.first b ≡ form.first a → form.refused b ≡ form.refused a
      → form.goes_on r ≡ true → IsRunning form s p old new b 1
  begun-on s p old new a b r h f i j k =
      running-push s p old old new a b 0 h.call r (running-new s p old a h.first h.none h.refused) h.is_first h.history f i j k

  -- the program stops at the reply to its first call
  pub begun-stop : (s : ℕ) (p : P) (old new : List (Entry C R)) (a b : A) (r : R) → HasBegun form s p old new a r → form.replies p b ≡ form.replies p a ++ r ∷ [] → form.first b ≡ form.first a → form.refused b ≡ form.refused a
      → form.goes_on r ≡ false → HasRun form s p old new b
  begun-stop s p old new a b r h f i j k =
      run-at-stop s p old old new a b 0 h.call r (running-new s p old a h.first h.none h.refused) (some-calls (form.calls p) h.call h.is_first) h.is_first h.history f i j k
