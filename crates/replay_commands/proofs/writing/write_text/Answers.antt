use Rattle.std.proofs.Common.{◌≡◌, ◌∙◌, ℕ, ◌-◌, List, ◌++◌, Option, Result, Ok, Err, length, take, drop, sym, ap, append_assoc, take-append-drop}
use Rattle.std.proofs.lemmas.List.{take_rest}
use Rattle.std.specs.Io.KnownBytes.{Appends, WriteAppends}
use Rattle.std.proofs.KnownBytes.{Appends-trans, Appends-kept}
use Rattle.replay_commands.specs.Written.{AppendsPart}
use Rattle.replay_commands.proofs.Written.{part_of}
use Rattle.replay_commands.proofs.writing.write_text.Goals as goal
use Rattle.replay_commands.proofs.writing.write_text.Goals.{in-Ok, in-Err}

-- one more write, whether it fails or not, leaves a part of the text written
part_after : {E : Type 0} (a b c : Option (List ℕ)) (result : Result ℕ E) (text done rest : List ℕ) → text ≡ done ++ rest
    → Appends a b done → WriteAppends b c result rest → AppendsPart a c text
part_after a b c (Ok n) text done rest split before step =
    part_of a c text (done ++ take n rest) (drop n rest)
    (split ∙ ap (λ (l : List ℕ). done ++ l) (sym (take-append-drop n rest)) ∙ sym (append_assoc done (take n rest) (drop n rest)))
    (Appends-trans a b c done (take n rest) before step)
part_after a b c (Err e) text done rest split before step = part_of a c text done rest split (Appends-kept a b c done before step)

-- what was written and what is left, after a write of n bytes of the rest
after_write : (a b c : Option (List ℕ)) (text done rest : List ℕ) (n : ℕ) → text ≡ done ++ rest → Appends a b done → Appends b c (take n rest)
    → (x : List ℕ) × (text ≡ x ++ take (length rest - n) (drop n rest)) × Appends a c x
after_write a b c text done rest n split before step = (
  done ++ take n rest,
  split ∙ ap (λ (l : List ℕ). done ++ l) (sym (take-append-drop n rest)) ∙ sym (append_assoc done (take n rest) (drop n rest))
      ∙ ap (λ (l : List ℕ). (done ++ take n rest) ++ l) (sym (take_rest rest n)),
  Appends-trans a b c done (take n rest) before step,
)

pub returns-in-Ok-eq0-clause-part : goal.returns-in-Ok-eq0-clause-part
returns-in-Ok-eq0-clause-part g c =
    let (done, split, appended) = c.loop.invariant in
    part_after _ _ _ c.write.result _ done _ split appended c.write.ensures.bytes

pub returns-in-Err-2-clause-part : goal.returns-in-Err-2-clause-part
returns-in-Err-2-clause-part g c =
    let (done, split, appended) = c.loop.invariant in
    part_after _ _ _ c.write.result _ done _ split appended c.write.ensures.bytes

pub returns-clause-part : goal.returns-clause-part
returns-clause-part g c =
    let (done, split, appended) = c.loop.invariant in
    part_of _ _ _ done _ split appended

pub loop-preserved : goal.loop-preserved
loop-preserved g c =
    let (done, split, appended) = c.loop.invariant in
    elim c.match-write.branch [
      | in-Ok w ↦ rw w.rest-is (after_write _ _ _ _ done _ w.in-Ok.written split appended w.in-Ok.ensures.bytes)
      | in-Err w ↦ rw w.rest-is (done, split, Appends-kept _ _ _ done appended w.in-Err.ensures.bytes)
    ]
