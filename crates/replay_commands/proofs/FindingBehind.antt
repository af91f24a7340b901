-- What a history is found to be has the verdict on the history.
use Rattle.std.proofs.Common.{◌≡◌, ℕ, ◌+◌, ◌≤◌, Bool, true, false, ltb, ltb-true, ltb-false, List, length, take_all, refl, sym, ap, subst, arith}
use Rattle.lock_rules.specs.Entries.{Entry}
use Rattle.lock_rules.specs.Legal.{IsLegal}
use Rattle.replay_commands.specs.declared.checking.Verdict.TheVariants as verdict
use Rattle.replay_commands.specs.declared.finding.Finding.{Finding}
use Rattle.replay_commands.specs.declared.finding.Finding.TheVariants as finding
use Rattle.replay_commands.specs.Verdicts.{IsFinding, IsFirstWrong, verdict_of}
use Rattle.replay_commands.proofs.IsVerdict.{fewer}

-- a history has one first wrong entry
one_first : (es : List Entry) (a b : ℕ) → IsFirstWrong es a → IsFirstWrong es b → a ≡ b
one_first es a b at_a at_b = go (ltb a b) refl (ltb b a) refl
  where
    go : (s : Bool) → ltb a b ≡ s → (t : Bool) → ltb b a ≡ t → a ≡ b
    go true below t other = absurd (at_a.wrong (at_b.least a (ltb-true a b below)))
    go false least true below = absurd (at_b.wrong (at_a.least b (ltb-true b a below)))
    go false least false most = omega (arith, ltb-false a b least, ltb-false b a most)

-- of a history with a wrong entry, the first wrong entry is found
pub wrong_found : (es : List Entry) (first : ℕ) (found : Finding) → IsFirstWrong es first → IsFinding es found → verdict_of found ≡ verdict.Illegal first
wrong_found es first (finding.Legal count) wrong is =
    let ends : length es ≤ length es = omega arith in
    absurd (wrong.wrong (fewer es (first + 1) (length es) (omega (arith, wrong.within)) (subst IsLegal (sym (take_all (length es) es ends)) is.1)))
wrong_found es first (finding.Wrong reply) wrong is = ap verdict.Illegal (one_first es reply.place first is.first wrong)
