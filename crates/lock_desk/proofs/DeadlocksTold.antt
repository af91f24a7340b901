-- What a log tells: the newest deadlocks, and one more.
use Rattle.std.proofs.Common.{◌≡◌, ℕ, zero, suc, ◌+◌, ◌-◌, ◌<◌, ◌≤◌, List, [], ◌∷◌, ◌++◌, length, drop, refl, sym, ◌∙◌, ap, arith, subst, append_assoc, append-nil, length-append, length-drop}
use Rattle.std.proofs.lemmas.List.{drop-append-le, drop-drop}
use Rattle.lock_table.specs.Deadlocks.{Moment}
use Rattle.lock_desk.specs.Deadlocks.{IsCycleTold, IsDeadlockTold, AreDeadlocksTold, newest}
use Rattle.lock_desk.specs.declared.deadlock_log.Deadlock.{Deadlock}
use Rattle.lock_table.specs.Noting.{IsNotedAhead}
use Rattle.lock_desk.specs.inner.Noting.{LogView, HasTold, HasCounted, HasNoted}
use Rattle.lock_desk.proofs.VictimsCounted.{counted-on}

-- lists of deadlocks told

-- as many are told as there are
pub told-length : (ms : List Moment) (ds : List Deadlock) → AreDeadlocksTold ms ds → length ms ≡ length ds
told-length [] [] h = refl
told-length [] (d ∷ ds) h = absurd h
told-length (m ∷ ms) [] h = absurd h
told-length (m ∷ ms) (d ∷ ds) h = omega (arith, told-length ms ds h.1)

-- one more is told
pub told-push : (ms : List Moment) (ds : List Deadlock) (m : Moment) (d : Deadlock) → AreDeadlocksTold ms ds → IsDeadlockTold m d → AreDeadlocksTold (ms ++ m ∷ []) (ds ++ d ∷ [])
told-push [] [] m d h t = (t, tt)
told-push [] (x ∷ ds) m d h t = absurd h
told-push (x ∷ ms) [] m d h t = absurd h
told-push (x ∷ ms) (y ∷ ds) m d h t = (h.0, told-push ms ds m d h.1 t)

-- the oldest are told no more
pub told-drop : (k : ℕ) (ms : List Moment) (ds : List Deadlock) → AreDeadlocksTold ms ds → AreDeadlocksTold (drop k ms) (drop k ds)
told-drop zero ms ds h = h
told-drop (suc k) [] [] h = tt
told-drop (suc k) [] (d ∷ ds) h = absurd h
told-drop (suc k) (m ∷ ms) [] h = absurd h
told-drop (suc k) (m ∷ ms) (d ∷ ds) h = told-drop k ms ds h.1

pub told-newest : (n : ℕ) (ms : List Moment) (ds : List Deadlock) → AreDeadlocksTold ms ds → AreDeadlocksTold (newest n ms) (newest n ds)
told-newest n ms ds h = subst (λ (k : ℕ). AreDeadlocksTold (drop (k - n) ms) (newest n ds)) (sym (told-length ms ds h)) (told-drop (length ds - n) ms ds h)

-- the newest of a list

-- if there are no more, they are all
pub newest-all : {X : Type 0} (n : ℕ) (xs : List X) → length xs ≤ n → newest n xs ≡ xs
newest-all n xs le = let none : length xs - n ≡ 0 = omega (arith, le) in ap (λ (k : ℕ). drop k xs) none

-- if there are as many, each new one takes the place of the oldest
pub newest-push : {X : Type 0} (n : ℕ) (xs : List X) (x : X) → 0 < n → n ≤ length xs → newest n (xs ++ x ∷ []) ≡ drop 1 (newest n xs) ++ x ∷ []
newest-push {X = X} n xs x some full =
    let more : length (xs ++ x ∷ []) - n ≡ length xs - n + 1 = omega (arith, length-append xs (x ∷ []), full) in
    ap (λ (k : ℕ). drop k (xs ++ x ∷ [])) more
    ∙ (drop-append-le (length xs - n + 1) xs (x ∷ []) (omega (arith, some, full))
    ∙ ap (λ (ys : List X). ys ++ x ∷ []) (sym (drop-drop 1 (length xs - n) xs)))

-- if as many stand at the end, they are these
pub newest-behind : {X : Type 0} (n : ℕ) (xs ys : List X) → n ≤ length ys → newest n (xs ++ ys) ≡ newest n ys
newest-behind n [] ys le = refl
newest-behind {X = X} n (x ∷ xs) ys le =
    let more : length (x ∷ xs ++ ys) - n ≡ suc (length (xs ++ ys) - n) = omega (arith, length-append xs ys, le) in
    ap (λ (k : ℕ). drop k (x ∷ xs ++ ys)) more ∙ newest-behind n xs ys le

-- how many there are
pub newest-length : {X : Type 0} (n : ℕ) (xs : List X) → length (newest n xs) ≡ length xs - (length xs - n)
newest-length n xs = length-drop (length xs - n) xs

-- what a log notes and tells

-- some deadlocks, and then more
pub noted-on : (a b c : LogView) (ms ns : List Moment) → HasNoted ms a b → HasNoted ns b c → HasNoted (ms ++ ns) a c
noted-on a b c ms ns h k = record {
  most = k.most ∙ h.most;
  told = λ before told.
      let one = subst (λ (n : ℕ). AreDeadlocksTold (newest n (before ++ ms)) b.told) (sym h.most) (h.told before told) in
      let two = subst (λ (n : ℕ). AreDeadlocksTold (newest n (before ++ ms ++ ns)) c.told) h.most (k.told (before ++ ms) one) in
      subst (λ (all : List Moment). AreDeadlocksTold (newest a.most all) c.told) (append_assoc before ms ns) two;
  counted = counted-on a.counts b.counts c.counts ms ns h.counted k.counted;
}

-- what is noted whatever is noted behind it
pub noted-ahead : (n : ℕ) (a b : LogView) (ms : List Moment) → HasNoted ms a b → IsNotedAhead HasNoted n ms a b
noted-ahead n a b ms h more c few k = noted-on a b c ms more h k

-- the first of many needn't be kept
pub skipped-ahead : (n : ℕ) (a b : LogView) (ms : List Moment) → a.most ≤ n → b.most ≡ a.most → b.told ≡ a.told → HasCounted ms a.counts b.counts → IsNotedAhead HasNoted n ms a b
skipped-ahead n a b ms few most told counted more c le k = record {
  most = k.most ∙ most;
  told = λ before h.
      let one = subst (λ (m : ℕ). AreDeadlocksTold (newest m before) b.told) (sym most) (subst (AreDeadlocksTold (newest a.most before)) (sym told) h) in
      let two = subst (λ (m : ℕ). AreDeadlocksTold (newest m (before ++ more)) c.told) most (k.told before one) in
      subst (λ (xs : List Moment). AreDeadlocksTold xs c.told) (newest-behind a.most before more (omega (arith, few, le)) ∙ (sym (newest-behind a.most (before ++ ms) more (omega (arith, few, le))) ∙ ap (newest a.most) (append_assoc before ms more))) two;
  counted = counted-on a.counts b.counts c.counts ms more counted k.counted;
}

-- one deadlock, while there is room
pub told-in_room : (a b : LogView) (m : Moment) (d : Deadlock) → IsDeadlockTold m d → b.most ≡ a.most → length a.told < a.most → b.told ≡ a.told ++ d ∷ [] → HasTold (m ∷ []) a b
told-in_room a b m d t same room more = record {
  most = same;
  told = λ before h.
      let few : length before < a.most = omega (arith, newest-length a.most before, told-length (newest a.most before) a.told h, room) in
      let all = subst (λ (ms : List Moment). AreDeadlocksTold ms a.told) (newest-all a.most before (omega (arith, few))) h in
      subst (AreDeadlocksTold (newest a.most (before ++ m ∷ []))) (sym more)
      (subst (λ (ms : List Moment). AreDeadlocksTold ms (a.told ++ d ∷ [])) (sym (newest-all a.most (before ++ m ∷ []) (omega (arith, few, length-append before (m ∷ [])))))
      (told-push before a.told m d all t));
}

-- one deadlock, in the place of the oldest
pub told-instead : (a b : LogView) (m : Moment) (d : Deadlock) → IsDeadlockTold m d → b.most ≡ a.most → 0 < a.most → length a.told ≡ a.most → b.told ≡ drop 1 a.told ++ d ∷ [] → HasTold (m ∷ []) a b
told-instead a b m d t same some full more = record {
  most = same;
  told = λ before h.
      let many : a.most ≤ length before = omega (arith, newest-length a.most before, told-length (newest a.most before) a.told h, full) in
      subst (AreDeadlocksTold (newest a.most (before ++ m ∷ []))) (sym more)
      (subst (λ (ms : List Moment). AreDeadlocksTold ms (drop 1 a.told ++ d ∷ [])) (sym (newest-push a.most before m some many))
      (told-push (drop 1 (newest a.most before)) (drop 1 a.told) m d (told-drop 1 (newest a.most before) a.told h) t));
}

-- nothing is told of nothing
pub newest-none : {X : Type 0} (n : ℕ) → newest {X = X} n [] ≡ []
newest-none {X = X} n = let none : 0 - n ≡ 0 = omega arith in ap (λ (k : ℕ). drop {A = X} k []) none

pub told-none : (n : ℕ) (ms : List Moment) (ds : List Deadlock) → ms ≡ [] → ds ≡ [] → AreDeadlocksTold (newest n ms) ds
told-none n ms ds e f =
    subst (λ (xs : List Moment). AreDeadlocksTold (newest n xs) ds) (sym e)
    (subst (AreDeadlocksTold (newest n [])) (sym f) (subst (λ (xs : List Moment). AreDeadlocksTold xs []) (sym (newest-none n)) tt))
