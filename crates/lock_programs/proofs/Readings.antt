-- Single replies of an answer.
use Rattle.std.proofs.Common.{◌≡◌, ℕ, zero, suc, ◌+◌, ◌≤◌, List, [], ◌∷◌, length, Some, slice_get, refl, ap, ◌∙◌, arith}
use Rattle.lock_rules.specs.declared.calls.Call.{Call}
use Rattle.lock_programs.specs.Answers.{NotedReplies, reply_at, replies_from}

-- the reply to the call at place j, which has so many behind it
pub from-at : (t : NotedReplies) (cs : List Call) (k n j b : ℕ) (c : Call) → slice_get cs j ≡ Some c → n ≡ j + 1 + b → slice_get (replies_from t cs k n) j ≡ Some (reply_at t c (k + j) b)
from-at t [] k n j b c h e = absurd (cc)
from-at t (d ∷ ds) k zero j b c h e = absurd (omega (arith, e))
from-at t (d ∷ ds) k (suc n) zero b c h e =
    let z : k ≡ k + 0 = omega arith in
    let m : n ≡ b = omega (arith, e) in
    let q : d ≡ c = cc in
    λ i. Some (reply_at t (q i) (z i) (m i))
from-at t (d ∷ ds) k (suc n) (suc j) b c h e =
    let z : k + 1 + j ≡ k + suc j = omega arith in
    from-at t ds (k + 1) n j b c h (omega (arith, e)) ∙ ap (λ (i : ℕ). Some (reply_at t c i b)) z

-- no more than there are calls
pub all-from : (t : NotedReplies) (cs : List Call) (k n : ℕ) → length cs ≤ n → length (replies_from t cs k n) ≡ length cs
all-from t [] k n l = refl
all-from t (c ∷ cs) k zero l = absurd (omega (arith, l))
all-from t (c ∷ cs) k (suc n) l = ap suc (all-from t cs (k + 1) n (omega (arith, l)))

-- and no more than were served
pub few-from : (t : NotedReplies) (cs : List Call) (k n : ℕ) → length (replies_from t cs k n) ≤ n
few-from t [] k n = omega arith
few-from t (c ∷ cs) k zero = omega arith
few-from t (c ∷ cs) k (suc n) = let l = few-from t cs (k + 1) n in omega (arith, l)

-- and no more than there are calls
pub within-calls : (t : NotedReplies) (cs : List Call) (k n : ℕ) → length (replies_from t cs k n) ≤ length cs
within-calls t [] k n = omega arith
within-calls t (c ∷ cs) k zero = omega arith
within-calls t (c ∷ cs) k (suc n) = let l = within-calls t cs (k + 1) n in omega (arith, l)
