use Rattle.std.proofs.Common.{◌∙◌, refl, sym}
use Rattle.lock_rules.specs.declared.calls.Call.TheVariants.{Release}
use Rattle.lock_rules.specs.declared.calls.Reply.TheVariants.{Released}
use Rattle.lock_table.specs.Changes.{idle_tests, release_tests}
use Rattle.lock_table.proofs.Results.{first-some, first-none}
use Rattle.lock_table.proofs.Simulation.{release-can, released-shown, same-shown, refused-step, passed-step}
use Rattle.lock_table.proofs.EndedWaits.{waits_ended-same, waits_ended-on}
use Rattle.lock_table.proofs.table.LockTable.serve_release.Goals as goal

pub returns-in-Some-clause-step : goal.returns-in-Some-clause-step
returns-in-Some-clause-step c = λ st i j h.
    let d = c.index.new.self in
    let s = c.args.session in
    refused-step d st s (Release c.args.resource) c.in-Some.why c.index.ensures.kept.whole i (same-shown c.args.self.now d st c.index.ensures.same h) (first-some (idle_tests d s) (release_tests d s c.args.resource) c.in-Some.why c.in-Some.ensures)

pub returns-in-Some-release_refusal-clause-step : goal.returns-in-Some-release_refusal-clause-step
returns-in-Some-release_refusal-clause-step c = λ st i j h.
    let d = c.index.new.self in
    let s = c.args.session in
    let none = first-none (idle_tests d s) (release_tests d s c.args.resource) c.in_default.ensures in
    refused-step d st s (Release c.args.resource) c.in-Some-release_refusal.why c.index.ensures.kept.whole i (same-shown c.args.self.now d st c.index.ensures.same h) (c.in-Some-release_refusal.ensures ∙ sym none)

pub release-requires-clause-can : goal.release-requires-clause-can
release-requires-clause-can c =
    let d = c.index.new.self in
    let s = c.args.session in
    release-can d s c.args.resource (first-none (idle_tests d s) (release_tests d s c.args.resource) c.in_default.ensures ∙ sym c.in_default-release_refusal.ensures)

pub returns-clause-step : goal.returns-clause-step
returns-clause-step c = λ st i j h.
    let d = c.index.new.self in
    let s = c.args.session in
    let w = c.index.ensures.kept.whole in
    let shown = same-shown c.args.self.now d st c.index.ensures.same h in
    let none = c.in_default-release_refusal.ensures ∙ sym (first-none (idle_tests d s) (release_tests d s c.args.resource) c.in_default.ensures) in
    let can = release-can d s c.args.resource (sym none) in
    passed-step d c.release.new.self st s (Release c.args.resource) Released w i shown none (refl, released-shown d c.release.new.self st s c.args.resource i w can c.release.ensures.freed shown)

pub returns-in-Some-clause-waits_ended : goal.returns-in-Some-clause-waits_ended
returns-in-Some-clause-waits_ended c = waits_ended-same c.args.session c.args.self.now c.index.new.self c.index.ensures.same

pub returns-in-Some-release_refusal-clause-waits_ended : goal.returns-in-Some-release_refusal-clause-waits_ended
returns-in-Some-release_refusal-clause-waits_ended c = waits_ended-same c.args.session c.args.self.now c.index.new.self c.index.ensures.same

pub returns-clause-waits_ended : goal.returns-clause-waits_ended
returns-clause-waits_ended c = waits_ended-on c.args.session c.args.self.now c.index.new.self c.release.new.self (waits_ended-same c.args.session c.args.self.now c.index.new.self c.index.ensures.same) c.release.ensures.waits_ended
