use Rattle.std.proofs.Common.{◌∙◌, ℕ, sym, subst}
use Rattle.lock_rules.specs.declared.calls.Call.TheVariants.{Convert}
use Rattle.lock_table.specs.Changes.{idle_tests, convert_tests}
use Rattle.lock_table.proofs.Results.{first-some, first-none}
use Rattle.lock_table.proofs.Simulation.{convert-may, refused-step, passed-steps, same-shown}
use Rattle.lock_table.proofs.DeadlocksOfCalls.{refused-noted, passed-noted}
use Rattle.lock_table.proofs.EndedWaits.{waits_ended-same}
use Rattle.lock_table.proofs.table.LockTable.serve_convert.Goals as goal

pub returns-in-Some-clause-step : goal.returns-in-Some-clause-step
returns-in-Some-clause-step g c = λ st i j h.
    let d = c.likely_converted-likely.new.self in
    let s = c.args.session in
    refused-step d st s (Convert c.args.resource c.args.mode) c.in-Some.why c.likely_converted-likely.ensures.kept.whole i (same-shown c.args.self.now d st c.likely_converted-likely.ensures.same h) (first-some (idle_tests d s) (convert_tests d s c.args.resource c.args.mode) c.in-Some.why c.in-Some.ensures)

pub returns-in-Some-clause-waits_ended : goal.returns-in-Some-clause-waits_ended
returns-in-Some-clause-waits_ended g c = waits_ended-same c.args.session c.args.self.now c.likely_converted-likely.new.self c.likely_converted-likely.ensures.same

pub returns-in-Some-convert_refusal-clause-step : goal.returns-in-Some-convert_refusal-clause-step
returns-in-Some-convert_refusal-clause-step g c = λ st i j h.
    let d = c.likely_converted-likely.new.self in
    let s = c.args.session in
    let none = first-none (idle_tests d s) (convert_tests d s c.args.resource c.args.mode) c.in_default.ensures in
    (refused-step d st s (Convert c.args.resource c.args.mode) c.in-Some-convert_refusal.why c.likely_converted-likely.ensures.kept.whole i (same-shown c.args.self.now d st c.likely_converted-likely.ensures.same h) (c.in-Some-convert_refusal.ensures ∙ sym none))

pub ask_lock-requires-clause-may : goal.ask_lock-requires-clause-may
ask_lock-requires-clause-may g c =
    let d = c.likely_converted-likely.new.self in
    let s = c.args.session in
    convert-may d s c.args.resource c.args.mode c.likely_converted-likely.ensures.kept.whole (first-none (idle_tests d s) (convert_tests d s c.args.resource c.args.mode) c.in_default.ensures ∙ sym c.in_default-convert_refusal.ensures)

pub returns-clause-step : goal.returns-clause-step
returns-clause-step g c = λ st i j h.
    let d = c.likely_converted-likely.new.self in
    let s = c.args.session in
    let shown = same-shown c.args.self.now d st c.likely_converted-likely.ensures.same h in
    let none = first-none (idle_tests d s) (convert_tests d s c.args.resource c.args.mode) c.in_default.ensures in
    passed-steps d c.ask_lock.new.self st s (Convert c.args.resource c.args.mode) c.ask_lock.result c.likely_converted-likely.ensures.kept.whole i shown (c.in_default-convert_refusal.ensures ∙ sym none) (c.ask_lock.ensures.ask st i j shown)

pub returns-in-Some-clause-noted : goal.returns-in-Some-clause-noted
returns-in-Some-clause-noted g c = λ st i j h.
    let d = c.likely_converted-likely.new.self in
    let s = c.args.session in
    refused-noted g.N.DeadlockNotes.noted g.met.N.DeadlockNotes.none d st s c.args.resource c.args.mode c.in-Some.why c.args.served c.args.notes.now (Convert c.args.resource c.args.mode) c.likely_converted-likely.ensures.kept.whole i (same-shown c.args.self.now d st c.likely_converted-likely.ensures.same h) (first-some (idle_tests d s) (convert_tests d s c.args.resource c.args.mode) c.in-Some.why c.in-Some.ensures)

pub returns-in-Some-convert_refusal-clause-noted : goal.returns-in-Some-convert_refusal-clause-noted
returns-in-Some-convert_refusal-clause-noted g c = λ st i j h.
    let d = c.likely_converted-likely.new.self in
    let s = c.args.session in
    let none = first-none (idle_tests d s) (convert_tests d s c.args.resource c.args.mode) c.in_default.ensures in
    refused-noted g.N.DeadlockNotes.noted g.met.N.DeadlockNotes.none d st s c.args.resource c.args.mode c.in-Some-convert_refusal.why c.args.served c.args.notes.now (Convert c.args.resource c.args.mode) c.likely_converted-likely.ensures.kept.whole i (same-shown c.args.self.now d st c.likely_converted-likely.ensures.same h) (c.in-Some-convert_refusal.ensures ∙ sym none)

pub returns-clause-noted : goal.returns-clause-noted
returns-clause-noted g c = λ st i j h.
    let d = c.likely_converted-likely.new.self in
    let s = c.args.session in
    let shown = same-shown c.args.self.now d st c.likely_converted-likely.ensures.same h in
    let none = first-none (idle_tests d s) (convert_tests d s c.args.resource c.args.mode) c.in_default.ensures in
    passed-noted g.N.DeadlockNotes.noted d st s c.args.resource c.args.mode c.args.served c.args.notes.now c.ask_lock.new.notes (Convert c.args.resource c.args.mode) c.ask_lock.result c.likely_converted-likely.ensures.kept.whole i shown (c.in_default-convert_refusal.ensures ∙ sym none) (c.ask_lock.ensures.noted st i j shown)

pub ask_lock-requires-clause-fits : goal.ask_lock-requires-clause-fits
ask_lock-requires-clause-fits g c = subst (λ (n : ℕ). g.N.DeadlockNotes.fits n c.args.notes.now) (sym c.likely_converted-likely.ensures.kept.lockers) c.requires.fits

pub returns-clause-fits : goal.returns-clause-fits
returns-clause-fits g c = subst (λ (n : ℕ). g.N.DeadlockNotes.fits n c.ask_lock.new.notes) c.likely_converted-likely.ensures.kept.lockers c.ask_lock.ensures.fits
