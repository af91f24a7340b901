use Rattle.std.proofs.Common.{rules, ◌≡◌, ℕ, zero, suc, ◌+◌, ◌-◌, ◌^◌, ◌<◌, List, [], ◌∷◌, ◌++◌, length, Some, slice_get, refl, ap, arith}
use Rattle.std.specs.Prelude.{min}
use Rattle.lock_rules.specs.declared.calls.Reply.{Reply}
use Rattle.lock_programs.specs.Answers.{replies_of}
use Rattle.lock_office.proofs.session.last_of.Goals as goal

-- a list ends with its last item
ends-with : (rs : List Reply) (k : ℕ) (r : Reply) → k + 1 ≡ length rs → slice_get rs k ≡ Some r → (earlier : List Reply) × (rs ≡ earlier ++ r ∷ []) × (length earlier ≡ k)
ends-with [] k r e at = absurd (omega (arith, e))
ends-with (x ∷ []) zero r e at = let same : x ≡ r = cc in ([], ap (λ (q : Reply). q ∷ []) same, refl)
ends-with (x ∷ (y ∷ ys)) zero r e at = absurd (omega (arith, e))
ends-with (x ∷ xs) (suc k) r e at = let i = ends-with xs k r (omega (arith, e)) at in (x ∷ i.0, ap (λ (l : List Reply). x ∷ l) i.1, ap suc i.2)

pub returns : goal.returns
returns c =
    let some = c.requires.served in
    let count = c.served-last.ensures.value in
    let k : ℕ = c.served-last.result - 1 in
    let i = ends-with (replies_of c.args.program.now c.args.answer.now) k c.reply.result (omega (arith, some, count)) c.reply.ensures in
    let sum : c.saturating_add.result ≡ min (c.args.answer.now.first + length i.0) (2 ^ 64 - 1) = (let long = i.2 in let first = c.first.ensures in search rules) in
    let range : c.first.result < 2 ^ 64 = search rules in
    record { last = (i.0, i.1, sum); first = λ one. let long = i.2 in let first = c.first.ensures in omega (arith, one, count, sum, long, first, range) }
