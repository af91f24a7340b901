use Rattle.std.proofs.Common.{◌≡◌, Bool, true, cond, [], ◌∷◌, Option, Some, None, ◌∙◌, sym, ap}
use Rattle.lock_rules.specs.declared.calls.Why.TheVariants.{WouldWait}
use Rattle.lock_rules.specs.Step.{target_of}
use Rattle.lock_modes.specs.declared.Mode.{Mode}
use Rattle.lock_table.specs.Changes.{mode_held, lock_tests, would_wait}
use Rattle.lock_table.proofs.Results.{first-some, first-none}
use Rattle.lock_table.proofs.table.LockTable.try_refusal.Goals as goal

pub returns-in-Some : goal.returns-in-Some
returns-in-Some c =
    let d = c.args.self.now in
    let s = c.args.session in
    first-some (lock_tests d s c.args.resource c.args.mode) ((would_wait d s c.args.resource (target_of (mode_held d s c.args.resource) c.args.mode), WouldWait) ∷ []) c.in-Some.why c.in-Some.ensures

pub returns-then-would_wait : goal.returns-then-would_wait
returns-then-would_wait c =
    let d = c.args.self.now in
    let s = c.args.session in
    let r = c.args.resource in
    let last = (would_wait d s r (target_of (mode_held d s r) c.args.mode), WouldWait) ∷ [] in
    let waits : would_wait d s r (target_of (mode_held d s r) c.args.mode) ≡ true = ap (λ (o : Option Mode). would_wait d s r (target_of o c.args.mode)) (sym c.requires.held) ∙ (ap (would_wait d s r) (sym c.target_of.ensures) ∙ (sym c.would_wait.ensures ∙ c.if-would_wait.true)) in
    sym (first-none (lock_tests d s r c.args.mode) last c.in_default.ensures ∙ ap (λ (b : Bool). cond b (Some WouldWait) None) waits)
