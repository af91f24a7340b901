-- The first wrong reply of a history, one entry at a time.
use Rattle.std.proofs.Common.{◌≡◌, ℕ, ◌+◌, List, [], ◌∷◌, ◌++◌, Option, Some, None, Result, Ok, length, length-append, take, take_all, sym, ap, ◌∙◌, subst, arith}
use Rattle.std.proofs.lemmas.List.{take-append-le}
use Rattle.std.proofs.Math.Seq.{take-append_seam}
use Rattle.lock_rules.specs.declared.calls.Reply.{Reply}
use Rattle.lock_rules.specs.Entries.{Entry}
use Rattle.lock_rules.specs.Step.{step}
use Rattle.lock_rules.specs.Legal.{state_of, IsLegal}
use Rattle.lock_rules.proofs.Histories.{legal-steps}
use Rattle.lock_trace.specs.declared.faults.TraceFault.{TraceFault}
use Rattle.lock_trace.specs.ReadHistories.{history_of}
use Rattle.replay_commands.specs.declared.finding.Finding.{Finding}
use Rattle.replay_commands.specs.declared.finding.Finding.TheVariants as finding
use Rattle.replay_commands.specs.declared.finding.WrongReply.{WrongReply}
use Rattle.replay_commands.specs.RowsJudged.{FindsIn, IsFound}
use Rattle.replay_commands.specs.Verdicts.{Checks, Finds, IsWrongReply, verdict_of}
use Rattle.replay_commands.proofs.IsVerdict.{fewer}

-- an `Ok` of entries, with the fault type fixed
abbrev pub read : List Entry → Result (List Entry) TraceFault
read entries = Ok entries

-- an entry behind a legal history whose reply isn't the lock table's is the first wrong one
pub wrong_here : (es : List Entry) (e : Entry) (given : Reply) (place : ℕ) → place ≡ length es → IsLegal es → given ≡ (step (state_of es) e.session e.call).reply
    → ¬ (given ≡ e.reply) → IsWrongReply (es ++ e ∷ []) (record { place = place; said = e; given = given })
wrong_here es e given place at legal by_step other =
    let long : length (es ++ e ∷ []) ≡ length es + 1 = length-append es (e ∷ []) in
    let front : take place (es ++ e ∷ []) ≡ es = ap (λ (k : ℕ). take k (es ++ e ∷ [])) at ∙ take-append_seam es (e ∷ []) in
    let whole : take (place + 1) (es ++ e ∷ []) ≡ es ++ e ∷ [] = ap (λ (k : ℕ). take k (es ++ e ∷ [])) (ap (λ (k : ℕ). k + 1) at ∙ sym long) ∙ take_all (length (es ++ e ∷ [])) (es ++ e ∷ []) (omega arith) in
    record {
      first = record {
        within = omega (arith, at, long);
        wrong = λ too. other (by_step ∙ sym (legal-steps (es ++ e ∷ []) (subst IsLegal whole too) es [] e (λ i. es ++ e ∷ [])));
        least = λ q below. subst IsLegal (sym (take-append-le (q + 1) es (e ∷ []) (omega (arith, at, below))))
            (fewer es (q + 1) (length es) (omega (arith, at, below)) (subst IsLegal (sym (take_all (length es) es (omega arith))) legal));
      };
      told = whole ∙ ap (λ (xs : List Entry). xs ++ e ∷ []) (sym front);
      given = by_step ∙ ap (λ (xs : List Entry). (step (state_of xs) e.session e.call).reply) (sym front);
    }

-- the first wrong reply stays it whatever entries follow
pub wrong_before : (es more : List Entry) (wrong : WrongReply) → IsWrongReply es wrong → IsWrongReply (es ++ more) wrong
wrong_before es more wrong is =
    let here : take wrong.place (es ++ more) ≡ take wrong.place es = take-append-le wrong.place es more (omega (arith, is.first.within)) in
    let there : take (wrong.place + 1) (es ++ more) ≡ take (wrong.place + 1) es = take-append-le (wrong.place + 1) es more (omega (arith, is.first.within)) in
    record {
      first = record {
        within = omega (arith, is.first.within, length-append es more);
        wrong = λ legal. is.first.wrong (subst IsLegal there legal);
        least = λ q below. subst IsLegal (sym (take-append-le (q + 1) es more (omega (arith, below, is.first.within)))) (is.first.least q below);
      };
      told = there ∙ is.told ∙ ap (λ (xs : List Entry). xs ++ wrong.said ∷ []) (sym here);
      given = is.given ∙ ap (λ (xs : List Entry). (step (state_of xs) wrong.said.session wrong.said.call).reply) (sym here);
    }

-- what was found in the first entries is found in the history, whatever entries follow
pub found_before : (n : ℕ) (bytes : List ℕ) (es more : List Entry) (found : Option Finding) → IsFound es found → history_of n bytes ≡ read (es ++ more)
    → FindsIn n bytes (Ok found)
found_before n bytes es more None is all = (es ++ more, all)
found_before n bytes es more (Some (finding.Legal count)) is all = absurd is
found_before n bytes es more (Some (finding.Wrong wrong)) is all = (es ++ more, (all, wrong_before es more wrong is))

-- what is found for one number of sessions is found for an equal one
pub found_for : (m n : ℕ) (bytes : List ℕ) (result : Result (Option Finding) TraceFault) → m ≡ n → FindsIn m bytes result → FindsIn n bytes result
found_for m n bytes result is h = subst (λ (k : ℕ). FindsIn k bytes result) is h
