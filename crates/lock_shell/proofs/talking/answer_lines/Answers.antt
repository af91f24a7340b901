use Rattle.std.proofs.Common.{◌≡◌, ◌⊎◌, ◌-◌, ◌^◌, ℕ, List, Option, inl, inr, subst, sym, arith}
use Rattle.lock_desk.proofs.Results.{on-err-from}
use Rattle.lock_shell.specs.Turns.{Kept}
use Rattle.lock_shell.specs.inner.Answered.{HasAnswered, HasAnsweredPart, HasTurned, HasTurnedPart}
use Rattle.lock_shell.specs.inner.Desks.{AreAlike, kept_in}
use Rattle.lock_shell.proofs.Talks.{answered_more, answered_part, answered_whole, none_answered}
use Rattle.lock_shell.proofs.talking.answer_lines.Goals as goal

pub loop-count-init : goal.loop-count-init
loop-count-init g c = record { alike = c.requires.alike; answered = none_answered c.args.desk.now.after.sessions (kept_in c.args.desk.now.after c.args.marks.now.items) (g.W.Write.contents c.args.output.now) }

pub answer_next-requires : goal.answer_next-requires
answer_next-requires g c =
    let so_far = c.loop-count.invariant in
    record { alike = subst (λ (n : ℕ). AreAlike n c.loop-count.desk.before c.loop-count.desk.after) (sym so_far.alike.others) so_far.alike }

-- a part of the answer to the next line, or nothing of it, behind those so far
part_more : (n count : ℕ) (front back : Kept) (old mid new : Option (List ℕ)) → HasAnswered n count front back old mid
    → (new ≡ mid) ⊎ HasTurnedPart n back mid new → HasAnsweredPart n front old new
part_more n count front back old mid new h (inl same) = subst (HasAnsweredPart n front old) (sym same) (answered_whole n count front back old mid h)
part_more n count front back old mid new h (inr part) = answered_part n count front back old mid new h part

pub returns-in_err-went-clause-part : goal.returns-in_err-went-clause-part
returns-in_err-went-clause-part g c =
    let so_far = c.loop-count.invariant in
    let back = kept_in c.loop-count.desk.after c.loop-count.marks.items in
    on-err-from c.from_residual.result (part_more c.args.desk.now.after.sessions c.loop-count.count _ back _ (g.W.Write.contents c.loop-count.output) (g.W.Write.contents c.answer_next.new.output) so_far.answered
    (subst (λ (n : ℕ). (g.W.Write.contents c.answer_next.new.output ≡ g.W.Write.contents c.loop-count.output) ⊎ HasTurnedPart n back (g.W.Write.contents c.loop-count.output) (g.W.Write.contents c.answer_next.new.output))
    so_far.alike.others c.in_err-went.ensures.part))

pub returns-then-not-went-clause-answered : goal.returns-then-not-went-clause-answered
returns-then-not-went-clause-answered g c =
    let so_far = c.loop-count.invariant in (
      kept_in c.loop-count.desk.after c.loop-count.marks.items,
      subst (HasAnswered c.args.desk.now.after.sessions c.loop-count.count _ _ _) (sym (c.in_ok-went.ensures.ended c.if-not-went.true)) so_far.answered,
    )

pub loop-count-preserved : goal.loop-count-preserved
loop-count-preserved g c =
    let so_far = c.loop-count.invariant in
    let went = c.if-not-went.false in
    let back = kept_in c.loop-count.desk.after c.loop-count.marks.items in
    let more = kept_in c.answer_next.new.desk.after c.answer_next.new.marks.items in
    record {
      alike = subst (λ (n : ℕ). AreAlike n c.answer_next.new.desk.before c.answer_next.new.desk.after) so_far.alike.others (c.in_ok-went.ensures.alike went);
      answered = answered_more c.args.desk.now.after.sessions c.loop-count.count _ back more _ (g.W.Write.contents c.loop-count.output) (g.W.Write.contents c.answer_next.new.output)
          so_far.answered (subst (λ (n : ℕ). HasTurned n back more (g.W.Write.contents c.loop-count.output) (g.W.Write.contents c.answer_next.new.output)) so_far.alike.others (c.in_ok-went.ensures.turn went));
    }

pub returns-clause-answered : goal.returns-clause-answered
returns-clause-answered g c =
    let so_far = c.loop-count.invariant in
    let all : c.loop-count.count ≡ 2 ^ 64 - 1 = omega (arith, c.loop-count-test.false) in (
      kept_in c.loop-count.desk.after c.loop-count.marks.items,
      subst (λ (n : ℕ). HasAnswered c.args.desk.now.after.sessions n (kept_in c.args.desk.now.after c.args.marks.now.items)
          (kept_in c.loop-count.desk.after c.loop-count.marks.items) (g.W.Write.contents c.args.output.now) (g.W.Write.contents c.loop-count.output)) all so_far.answered,
    )
