use Rattle.std.proofs.Common.{rules, ◌≡◌, ◌≢◌, ◌∙◌, inl, inr, None, false, ap}
use Rattle.combining.proofs.Turns.{by-next, calling-answered, calling-live, calling-on, calling-pending}
use Rattle.lock_office.specs.ProgramBoards.{TicketView}
use Rattle.lock_office.specs.ProgramTurns.{IsPendingSingle}
use Rattle.run_commands.specs.Workers.{calls_known}
use Rattle.run_commands.proofs.Turns.{begun-answered, begun-pending, look-answered, look-pending, known-waiting, single-idle, single-same, single-calling, single-on}
use Rattle.run_commands.proofs.workers.OfficeService.turn.Goals as goal

-- a session with a call pending

pub returns-then-not-is_idle-clause-ours : goal.returns-then-not-is_idle-clause-ours
returns-then-not-is_idle-clause-ours c =
    let t = c.args.session.now in
    let u = c.run_look.new.self in
    let e = c.run_look.ensures.awaited in
    let live : u.retired ≡ false = by-next c.run_look.result (λ a is. (e.idle a is).1) (λ is. ap (λ (x : TicketView). x.retired) (e.starved is).0.session ∙ c.requires.1)
    (λ is. ap (λ (x : TicketView). x.retired) (e.waits is).session ∙ c.requires.1) in
    let single : IsPendingSingle u = by-next c.run_look.result (λ a is. single-idle u (e.idle a is).0) (λ is. single-on t u c.requires.2 (e.starved is).0) (λ is. single-on t u c.requires.2 (e.waits is)) in
    (c.run_look.ensures.ours, live, single)

pub returns-then-not-is_idle-clause-answered : goal.returns-then-not-is_idle-clause-answered
returns-then-not-is_idle-clause-answered c answer is = look-answered _ _ c.args.call.now answer.place answer.reply c.requires.2 (c.run_look.ensures.awaited.answered answer is)

pub returns-then-not-is_idle-clause-pending : goal.returns-then-not-is_idle-clause-pending
returns-then-not-is_idle-clause-pending c is =
    let some : c.args.session.now.pending ≢ None = search rules in
    look-pending _ _ _ some (c.run_look.ensures.awaited.starved is).0

pub returns-then-not-is_idle-clause-waits : goal.returns-then-not-is_idle-clause-waits
returns-then-not-is_idle-clause-waits c is = inl (known-waiting _ _ (c.run_look.ensures.awaited.waits is))

-- the first turn of an idle session

pub returns-then-made-eq0-clause-ours : goal.returns-then-made-eq0-clause-ours
returns-then-made-eq0-clause-ours c =
    let t = c.args.session.now in
    let u = c.run_attempt.new.self in
    let p = c.one-program.result in
    let e = c.run_attempt.ensures.attempted in
    let single : IsPendingSingle u = by-next c.run_attempt.result (λ a is. single-idle u (e.idle a is).0) (λ is. single-calling t u p c.args.call.now c.one-program.ensures (e.starved is))
    (λ is. single-same t u (ap (λ (x : TicketView). x.pending) (e.waits is).0) c.requires.2) in
    (c.run_attempt.ensures.ours, e.live, single)

pub returns-then-made-eq0-clause-answered : goal.returns-then-made-eq0-clause-answered
returns-then-made-eq0-clause-answered c answer is =
    let none : c.args.session.now.pending ≡ None = search rules in
    begun-answered _ _ c.one-program.result answer.reply c.args.call.now _ answer.place none c.one-program.ensures (c.run_attempt.ensures.attempted.called answer is)

pub returns-then-made-eq0-clause-pending : goal.returns-then-made-eq0-clause-pending
returns-then-made-eq0-clause-pending c is =
    let none : c.args.session.now.pending ≡ None = search rules in
    begun-pending _ _ c.one-program.result c.args.call.now none c.one-program.ensures (c.run_attempt.ensures.attempted.starved is)

pub returns-then-made-eq0-clause-waits : goal.returns-then-made-eq0-clause-waits
returns-then-made-eq0-clause-waits c is = inl (ap calls_known (c.run_attempt.ensures.attempted.waits is).0)

-- the next one, which publishes the call

pub run_look-requires-2-clause-pending : goal.run_look-requires-2-clause-pending
run_look-requires-2-clause-pending c =
    let none : c.args.session.now.pending ≡ None = search rules in
    calling-pending _ _ c.one-program.result (c.publish_program_if_idle.ensures.published none)

pub returns-clause-ours : goal.returns-clause-ours
returns-clause-ours c =
    let none : c.args.session.now.pending ≡ None = search rules in
    let t = c.args.session.now in
    let w = c.publish_program_if_idle.new.self in
    let u = c.run_look-2.new.self in
    let p = c.one-program.result in
    let calling = c.publish_program_if_idle.ensures.published none in
    let e = c.run_look-2.ensures.awaited in
    let live : u.retired ≡ false = by-next c.run_look-2.result (λ a is. (e.idle a is).1) (λ is. calling-live t u p (calling-on t w u p calling (e.starved is).0) ∙ c.requires.1)
    (λ is. calling-live t u p (calling-on t w u p calling (e.waits is)) ∙ c.requires.1) in
    let single : IsPendingSingle u = by-next c.run_look-2.result (λ a is. single-idle u (e.idle a is).0)
    (λ is. single-calling t u p c.args.call.now c.one-program.ensures (calling-on t w u p calling (e.starved is).0))
    (λ is. single-calling t u p c.args.call.now c.one-program.ensures (calling-on t w u p calling (e.waits is))) in
    (c.run_look-2.ensures.ours, live, single)

pub returns-clause-answered : goal.returns-clause-answered
returns-clause-answered c answer is =
    let none : c.args.session.now.pending ≡ None = search rules in
    let t = c.args.session.now in
    let p = c.one-program.result in
    begun-answered t _ p answer.reply c.args.call.now _ answer.place none c.one-program.ensures
    (calling-answered t c.publish_program_if_idle.new.self c.run_look-2.new.self p answer.place answer.reply (c.publish_program_if_idle.ensures.published none) (c.run_look-2.ensures.awaited.answered answer is))

pub returns-clause-pending : goal.returns-clause-pending
returns-clause-pending c is =
    let none : c.args.session.now.pending ≡ None = search rules in
    let t = c.args.session.now in
    let p = c.one-program.result in
    begun-pending t _ p c.args.call.now none c.one-program.ensures
    (calling-on t c.publish_program_if_idle.new.self c.run_look-2.new.self p (c.publish_program_if_idle.ensures.published none) (c.run_look-2.ensures.awaited.starved is).0)

pub returns-clause-waits : goal.returns-clause-waits
returns-clause-waits c is =
    let none : c.args.session.now.pending ≡ None = search rules in
    let t = c.args.session.now in
    let p = c.one-program.result in
    inr (begun-pending t _ p c.args.call.now none c.one-program.ensures
    (calling-on t c.publish_program_if_idle.new.self c.run_look-2.new.self p (c.publish_program_if_idle.ensures.published none) (c.run_look-2.ensures.awaited.waits is)))
