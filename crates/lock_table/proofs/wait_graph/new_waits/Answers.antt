use Rattle.std.proofs.Common.{◌≡◌, ℕ, zero, suc, List, [], ◌∷◌, ◌++◌, get_or, refl, arith}
use Rattle.lock_table.proofs.wait_graph.new_waits.Goals as goal

-- A list of zeros with one more 0 behind it has no other number.
still-none : (xs : List ℕ) → ((a : ℕ) → get_or xs a 0 ≡ 0) → (a : ℕ) → get_or (xs ++ 0 ∷ []) a 0 ≡ 0
still-none [] none zero = refl
still-none [] none (suc a) = refl
still-none (x ∷ xs) none zero = none zero
still-none (x ∷ xs) none (suc a) = still-none xs (λ b. none (suc b)) a

pub loop-session-preserved : goal.loop-session-preserved
loop-session-preserved c = record {
  numbers = omega (arith, c.in_ok-push.ensures.len, c.loop-session.invariant.numbers);
  none = λ a. rw c.in_ok-push.ensures.items (still-none c.loop-session.numbers.items c.loop-session.invariant.none a);
}
