use Rattle.std.proofs.Common.{◌≡◌, ℕ, ◌+◌, ◌-◌, suc, ◌∙◌, sym, ap, arith, Some}
use Rattle.lock_rules.specs.declared.calls.Reply.{Reply}
use Rattle.lock_programs.specs.Answers.{noted_of, done_reply, stop_reply}
use Rattle.lock_programs.specs.Calls.{calls_of}
use Rattle.lock_programs.proofs.Readings.{from-at, few-from, within-calls}
use Rattle.lock_programs.proofs.notes.ReplyNotes.reply.Goals as goal

pub returns-then-at-self : goal.returns-then-at-self
returns-then-at-self c =
    let a = c.args.self.now in
    let d = c.done-done.ensures in
    let z : 0 + c.args.at ≡ c.args.at = omega arith in
    from-at (noted_of a) (calls_of c.args.program.now) 0 a.served c.args.at 0 d.0 d.1 (omega (arith, c.if-at-self.true))
    ∙ ap (λ (k : ℕ). Some (stop_reply a.stop (done_reply (noted_of a) d.0 k))) z
    ∙ ap (λ (r : Reply). Some r) (ap (stop_reply a.stop) (sym d.2) ∙ sym c.stop_reply.ensures)

pub returns : goal.returns
returns c =
    let a = c.args.self.now in
    let d = c.done-done.ensures in
    let z : 0 + c.args.at ≡ c.args.at = omega arith in
    let few = few-from (noted_of a) (calls_of c.args.program.now) 0 a.served in
    from-at (noted_of a) (calls_of c.args.program.now) 0 a.served c.args.at (suc (a.served - c.args.at - 2)) d.0 d.1 (omega (arith, c.if-at-self.false, c.requires, few))
    ∙ ap (λ (k : ℕ). Some (done_reply (noted_of a) d.0 k)) z
    ∙ ap (λ (r : Reply). Some r) (sym d.2)

pub done-done-requires : goal.done-done-requires
done-done-requires c = let few = within-calls (noted_of c.args.self.now) (calls_of c.args.program.now) 0 c.args.self.now.served in omega (arith, c.requires, few)
