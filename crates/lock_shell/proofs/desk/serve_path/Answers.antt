use Rattle.std.proofs.Common.{◌∙◌, ◌+◌, ◌∷◌, [], ℕ, arith, subst, sym}
use Rattle.lock_shell.specs.Turns.{HasServed}
use Rattle.lock_shell.specs.inner.Desks.{AreAlike}
use Rattle.lock_shell.proofs.Served.{entry_of, levels_end, levels_more, levels_stop, no_levels, row_of_level}
use Rattle.lock_shell.proofs.desk.serve_path.Goals as goal

pub loop-level-init : goal.loop-level-init
loop-level-init c = record { alike = c.requires.alike; served = no_levels c.args.desk.now.after.sessions c.args.session c.args.resource c.args.mode c.args.desk.now.after.history c.args.text.now.items }

pub serve_told-requires : goal.serve_told-requires
serve_told-requires c =
    let so_far = c.loop-level.invariant in
    record { some = c.requires.some; within = omega (arith, c.requires.within, so_far.alike.others); alike = subst (λ (n : ℕ). AreAlike n c.loop-level.desk.before c.loop-level.desk.after) (sym so_far.alike.others) so_far.alike }

pub returns-then-not-grants-clause-served : goal.returns-then-not-grants-clause-served
returns-then-not-grants-clause-served c =
    let so_far = c.loop-level.invariant in
    let e = entry_of c.args.session c.lock_of_level.result c.in_ok-reply.reply in
    let told = subst (λ (n : ℕ). HasServed n c.loop-level.desk.after.history c.serve_told.new.after.history (e ∷ []) c.loop-level.text.items c.serve_told.new.text.items)
    so_far.alike.others c.in_ok-reply.ensures.served in
    levels_stop c.args.desk.now.after.sessions c.args.session c.args.resource c.args.mode c.loop-level.level _ _ _ e _ _ _ so_far.served told
    (row_of_level c.args.session c.args.resource c.args.mode (c.loop-level.level + 1) c.lock_of_level.result c.in_ok-reply.reply c.lock_of_level.ensures)
    (omega (arith, c.loop-level-test.true, c.level-level-end.ensures)) (sym c.grants.ensures ∙ c.if-not-grants.true)

pub loop-level-preserved : goal.loop-level-preserved
loop-level-preserved c =
    let so_far = c.loop-level.invariant in
    let e = entry_of c.args.session c.lock_of_level.result c.in_ok-reply.reply in
    let told = subst (λ (n : ℕ). HasServed n c.loop-level.desk.after.history c.serve_told.new.after.history (e ∷ []) c.loop-level.text.items c.serve_told.new.text.items)
    so_far.alike.others c.in_ok-reply.ensures.served in
    record {
      alike = subst (λ (n : ℕ). AreAlike n c.serve_told.new.before c.serve_told.new.after) so_far.alike.others c.in_ok-reply.ensures.alike;
      served = levels_more c.args.desk.now.after.sessions c.args.session c.args.resource c.args.mode c.loop-level.level _ _ _ e _ _ _ so_far.served told
          (row_of_level c.args.session c.args.resource c.args.mode (c.loop-level.level + 1) c.lock_of_level.result c.in_ok-reply.reply c.lock_of_level.ensures)
          (sym c.grants.ensures ∙ c.if-not-grants.false);
    }

pub returns-clause-served : goal.returns-clause-served
returns-clause-served c =
    levels_end c.args.desk.now.after.sessions c.args.session c.args.resource c.args.mode c.loop-level.level _ _ _ _
    (omega (arith, c.level-level-end.ensures, c.loop-level-test.false, c.loop-level.auto.level-end)) c.loop-level.invariant.served
