-- Counters kept call by call: what one entry more adds, and which sums of them are the counters of a history.
use Rattle.std.proofs.Common.{◌≡◌, ℕ, zero, suc, ◌+◌, ◌*◌, ◌<◌, Bool, true, false, eqb, ltb, ◌&&◌, ◌||◌, List, [], ◌∷◌, ◌++◌, get_or, replicate, refl, sym, arith}
use Rattle.std.proofs.lemmas.Bool.{and_right}
use Rattle.std.proofs.lemmas.Bool.Decides.{Decides-eqb, Decides-ltb}
use Rattle.lock_rules.specs.declared.kinds.Op.{Op}
use Rattle.lock_rules.specs.declared.kinds.Op.TheVariants as op
use Rattle.lock_rules.specs.declared.kinds.ReplyKind.{ReplyKind}
use Rattle.lock_rules.specs.declared.kinds.ReplyKind.TheVariants as kind
use Rattle.lock_rules.specs.Kinds.{op_of_call, kind_of_reply, number_of_op, number_of_kind}
use Rattle.lock_rules.specs.Entries.{Entry}
use Rattle.lock_rules.specs.State.{State, empty}
use Rattle.lock_rules.specs.Step.{step}
use Rattle.lock_rules.specs.Legal.{state_of}
use Rattle.lock_rules.proofs.Lists.{other, apart}
use Rattle.lock_rules.specs.Counts.{one_if, count_if, total_from, is_op, is_kind, is_request, is_requesting, calls, replies, begins_wait, waits_begun}
use Rattle.lock_rules.proofs.Counting.{count-append, count-splits, count-alike, count-none, total-append}
use Rattle.lock_rules.proofs.CountNumbers.{kind_few}

-- two counters of replies have one index exactly if they are of one operation and one kind
pub cells-apart : (a b x y : ℕ) → b < 12 → y < 12 → eqb (a * 12 + b) (x * 12 + y) ≡ (eqb x a && eqb y b)
cells-apart a b x y p q = go (eqb x a) (eqb y b) refl refl
  where
    go : (c d : Bool) → eqb x a ≡ c → eqb y b ≡ d → eqb (a * 12 + b) (x * 12 + y) ≡ (c && d)
    go true true e f =
        let same = (Decides-eqb x a).0 e in
        let alike = (Decides-eqb y b).0 f in
        (Decides-eqb (a * 12 + b) (x * 12 + y)).1 (omega (arith, same, alike))
    go true false e f =
        let same = (Decides-eqb x a).0 e in
        other (x * 12 + y) (a * 12 + b) (λ g. apart b y f (omega (arith, g, same)))
    go false d e f = other (x * 12 + y) (a * 12 + b) (λ g. apart a x e (omega (arith, g, p, q)))

-- one entry more

-- one more item of a list
pub count-push : {X : Type 0} (p : X → Bool) (xs : List X) (x : X) → count_if p (xs ++ x ∷ []) ≡ count_if p xs + one_if (p x)
count-push p xs x = omega (arith, count-append p xs (x ∷ []))

-- one more entry of a sum
pub total-push : (amount : State → Entry → State → ℕ) (h : List Entry) (e : Entry)
    → total_from amount empty (h ++ e ∷ []) ≡ total_from amount empty h + amount (state_of h) e (step (state_of h) e.session e.call).state
total-push amount h e = omega (arith, total-append amount empty h (e ∷ []))

-- a list of one number
pub zeros : (n z i : ℕ) → get_or (replicate n z) i z ≡ z
zeros zero z i = refl
zeros (suc n) z zero = refl
zeros (suc n) z (suc i) = zeros n z i

-- sums of counters

-- the requests of three operations are those of all
one-operation : (o : Op) (x : Bool) → one_if (is_requesting o && x) ≡ one_if (eqb (number_of_op o) 2 && x) + one_if (eqb (number_of_op o) 3 && x) + one_if (eqb (number_of_op o) 8 && x)
one-operation op.Begin x = refl
one-operation op.Lock x = omega arith
one-operation op.Convert x = omega arith
one-operation op.Poll x = refl
one-operation op.Release x = refl
one-operation op.Commit x = refl
one-operation op.Abort x = refl
one-operation op.Try x = omega arith
one-operation op.Withdraw x = refl
one-operation op.Restart x = refl

-- the requests with a reply of a kind, by operation
pub requests-with : (k : ReplyKind) (h : List Entry)
    → replies op.Lock k h + replies op.Convert k h + replies op.Try k h ≡ count_if (λ e. is_request e && is_kind k e) h
requests-with k [] = refl
requests-with k (e ∷ es) = omega (arith, one-operation (op_of_call e.call) (is_kind k e), requests-with k es)

-- the waits that began, by what their replies told
waits-told : (e : Entry) → one_if (begins_wait e) ≡ one_if (is_request e && is_kind kind.Waiting e) + one_if (is_request e && is_kind kind.Deadlock e)
waits-told e = go (is_request e) (number_of_kind (kind_of_reply e.reply))
  where
    go : (r : Bool) (n : ℕ) → one_if (r && (eqb n 3 || eqb n 4)) ≡ one_if (r && eqb n 3) + one_if (r && eqb n 4)
    go false n = refl
    go true n = told (eqb n 3) (eqb n 4) (λ a b. let x = (Decides-eqb n 3).0 a in let y = (Decides-eqb n 4).0 b in omega (arith, x, y))
      where
        told : (a b : Bool) → (a ≡ true → b ≡ true → ⊥) → one_if (a || b) ≡ one_if a + one_if b
        told true true never = absurd (never refl refl)
        told true false never = refl
        told false b never = omega arith

-- the waits that began
pub begun-with : (h : List Entry)
    → count_if (λ e. is_request e && is_kind kind.Waiting e) h + count_if (λ e. is_request e && is_kind kind.Deadlock e) h ≡ waits_begun h
begun-with [] = refl
begun-with (e ∷ es) = omega (arith, waits-told e, begun-with es)

-- the calls of an operation whose replies have numbers below n
abbrev pub below : Op → ℕ → Entry → Bool
below o n e = is_op o e && ltb (number_of_kind (kind_of_reply e.reply)) n

-- a number is below the next one if it is below this one or is it
below-next : (p : Bool) (k n : ℕ) → one_if (p && ltb k (n + 1)) ≡ one_if (p && ltb k n) + one_if (p && eqb k n)
below-next false k n = refl
below-next true k n = go (ltb k n) (eqb k n) (ltb k (n + 1)) refl refl refl
  where
    go : (a b c : Bool) → ltb k n ≡ a → eqb k n ≡ b → ltb k (n + 1) ≡ c → one_if c ≡ one_if a + one_if b
    go true true c e f g = let x = (Decides-ltb k n).0 e in let y = (Decides-eqb k n).0 f in absurd (omega (arith, x, y))
    go true false true e f g = refl
    go true false false e f g = let x = (Decides-ltb k n).0 e in let z = (Decides-ltb k (n + 1)).1 (omega (arith, x)) in absurd (cc)
    go false true true e f g = refl
    go false true false e f g = let y = (Decides-eqb k n).0 f in let z = (Decides-ltb k (n + 1)).1 (omega (arith, y)) in absurd (cc)
    go false false true e f g =
        let z = (Decides-ltb k (n + 1)).0 g in
        let w = apart n k f in
        let t = (Decides-ltb k n).1 (omega (arith, z, w)) in
        absurd (cc)
    go false false false e f g = refl

-- one number more
pub called-next : (o : Op) (n : ℕ) (h : List Entry)
    → count_if (below o (n + 1)) h ≡ count_if (below o n) h + count_if (λ e. is_op o e && eqb (number_of_kind (kind_of_reply e.reply)) n) h
called-next o n h =
    count-splits (below o (n + 1)) (below o n) (λ (e : Entry). is_op o e && eqb (number_of_kind (kind_of_reply e.reply)) n) h
    (λ e k. below-next (is_op o e) (number_of_kind (kind_of_reply e.reply)) n)

-- all numbers
pub called-all : (o : Op) (h : List Entry) → count_if (below o 12) h ≡ calls o h
called-all o h = count-alike (below o 12) (is_op o) h (λ e k. all (is_op o e) (ltb (number_of_kind (kind_of_reply e.reply)) 12) ((Decides-ltb (number_of_kind (kind_of_reply e.reply)) 12).1 (kind_few (kind_of_reply e.reply))))
  where
    all : (a b : Bool) → b ≡ true → (a && b) ≡ a
    all true b e = e
    all false b e = refl

-- no number is below 0
not-below : (k : ℕ) (b : Bool) → ltb k 0 ≡ b → ltb k 0 ≡ false
not-below k true e = let l = (Decides-ltb k 0).0 e in absurd (omega (arith, l))
not-below k false e = e

-- no numbers
pub called-none : (o : Op) (h : List Entry) → 0 ≡ count_if (below o 0) h
called-none o h = sym (count-none (below o 0) h (λ e k. and_right (is_op o e) (ltb (number_of_kind (kind_of_reply e.reply)) 0) (not-below (number_of_kind (kind_of_reply e.reply)) (ltb (number_of_kind (kind_of_reply e.reply)) 0) refl)))
