-- What is counted of victims, one after another.
use Rattle.std.proofs.Common.{◌≡◌, ℕ, suc, ◌+◌, ◌<◌, ◌≤◌, ◌%◌, ◌^◌, Bool, true, false, cond, not, eqb, ◌||◌, inl, inr, List, [], ◌∷◌, ◌++◌, length, append-nil, append_assoc, length-append, refl, sym, ◌∙◌, ap, subst, arith, mod-eq_of_lt}
use Rattle.std.proofs.lemmas.Bool.{cases_Bool}
use Rattle.std.proofs.lemmas.Bool.Decides.{Decides-eqb}
use Rattle.lock_rules.proofs.Lists.{other, apart}
use Rattle.lock_rules.proofs.Sound.{eqb-swap}
use Rattle.lock_rules.specs.Counts.{one_if}
use Rattle.lock_rules.proofs.Counting.{one_if-le}
use Rattle.lock_desk.specs.declared.wait_counts.WaitCounts.{WaitCounts}
use Rattle.lock_table.specs.Deadlocks.{Moment}
use Rattle.lock_desk.specs.inner.WaitCounts.{up_if, with_victim, closings, behind, AreVictimsCounted}
use Rattle.lock_desk.specs.inner.Noting.{HasCounted}

-- one more moment

closings-push : (next : ℕ) (ms : List Moment) (m : Moment) → closings next (ms ++ m ∷ []) ≡ closings next ms + one_if (not (eqb (suc m.place) (behind next ms)))
closings-push next [] m = omega arith
closings-push next (x ∷ ms) m = omega (arith, closings-push (suc x.place) ms m)

behind-push : (next : ℕ) (ms : List Moment) (m : Moment) → behind next (ms ++ m ∷ []) ≡ suc m.place
behind-push next [] m = refl
behind-push next (x ∷ ms) m = behind-push (suc x.place) ms m

-- no more calls made victims than there are victims
pub closings-few : (next : ℕ) (ms : List Moment) → closings next ms ≤ length ms
closings-few next [] = omega arith
closings-few next (m ∷ ms) = omega (arith, one_if-le (not (eqb (suc m.place) next)), closings-few (suc m.place) ms)

-- a counter of 64 bits that has room goes up as a number does
pub goes-up : (b : Bool) (x n z : ℕ) → z ≡ up_if b x → x ≡ n → n + 1 < 2 ^ 64 → z ≡ n + one_if b
goes-up true x n z e f few = e ∙ mod-eq_of_lt (omega (arith, f, few)) ∙ omega (arith, f)
goes-up false x n z e f few = e ∙ omega (arith, f)

-- some are counted, and then more
pub counted-on : (a b c : WaitCounts) (ms ns : List Moment) → HasCounted ms a b → HasCounted ns b c → HasCounted (ms ++ ns) a c
counted-on a b c ms ns h k = record {
  victims = λ before few counted.
      let long = length-append ms ns in
      let all = length-append before ms in
      subst (λ (xs : List Moment). AreVictimsCounted xs c) (append_assoc before ms ns)
      (k.victims (before ++ ms) (omega (arith, few, long, all)) (h.victims before (omega (arith, few, long)) counted));
  aborted = k.aborted ∙ h.aborted;
  restarted = k.restarted ∙ h.restarted;
}

-- one is counted
pub counted-one : (c : WaitCounts) (m : Moment) → HasCounted (m ∷ []) c (with_victim m.place c)
counted-one c m = record {
  victims = λ before few h.
      let long = length-append before (m ∷ []) in
      let more : (c.victims + 1) % 2 ^ 64 ≡ length before + 1 = mod-eq_of_lt (omega (arith, few, h.victims)) ∙ omega (arith, h.victims) in
      record {
        victims = more ∙ omega (arith, long);
        closing =
            goes-up (eqb c.victims 0 || not (eqb c.last m.place)) c.closing (closings 0 before) _ refl h.closing (omega (arith, few, closings-few 0 before))
            ∙ ap (λ (b : Bool). closings 0 before + one_if b) (sym (ap (λ (n : ℕ). not (eqb (suc m.place) n)) h.last ∙ closes (eqb c.victims 0)))
            ∙ sym (closings-push 0 before m);
        last =
            behind-push 0 before m
            ∙ sym (ap (λ (n : ℕ). cond (eqb n 0) 0 (suc m.place)) more ∙ ap (λ (b : Bool). cond b 0 (suc m.place)) (other 0 (length before + 1) (λ f. omega (arith, f))));
      };
  aborted = refl;
  restarted = refl;
}
  where
    eqb-zero : (n : ℕ) → eqb (suc n) 0 ≡ false
    eqb-zero n = other 0 (suc n) (λ f. omega (arith, f))

    eqb-suc : (x y : ℕ) → eqb (suc x) (suc y) ≡ eqb x y
    eqb-suc x y = elim (cases_Bool (eqb x y)) [
      | inl e ↦ (Decides-eqb (suc x) (suc y)).1 (ap suc ((Decides-eqb x y).0 e)) ∙ sym e
      | inr n ↦ other (suc y) (suc x) (λ f. apart y x n (omega (arith, f))) ∙ sym n
    ]

    swap : (x y : ℕ) → eqb x y ≡ eqb y x
    swap x y = elim (cases_Bool (eqb x y)) [
      | inl e ↦ e ∙ sym ((Decides-eqb y x).1 (sym ((Decides-eqb x y).0 e)))
      | inr n ↦ n ∙ sym (eqb-swap x y n)
    ]

    closes : (b : Bool) → not (eqb (suc m.place) (cond b 0 (suc c.last))) ≡ (b || not (eqb c.last m.place))
    closes true = ap not (eqb-zero m.place)
    closes false = ap not (eqb-suc m.place c.last ∙ swap m.place c.last)
