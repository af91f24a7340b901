use Rattle.std.proofs.Common.{subst, sym}
use Rattle.run_commands.specs.Runs.{IsRunOf}
use Rattle.run_commands.proofs.IsRunOf.{all_ours, closes, run_of_closed, sessions_new}
use Rattle.run_commands.proofs.running.run_in_office.Goals as goal

pub work_in_threads-requires-after_bounds : goal.work_in_threads-requires-after_bounds
work_in_threads-requires-after_bounds g c κs within =
    sessions_new c.in-Ok.office c.args.sessions c.in-Ok.all.items c.in-Ok.ensures.sessions c.in-Ok.ensures.ready

pub close-requires : goal.close-requires
close-requires g c = record { ours = all_ours c.in-Ok.office c.args.rows.now c.in_ok-all.all.items c.in_ok-all.ensures.performed }

pub unreachable-requires : goal.unreachable-requires
unreachable-requires g c =
    closes c.in-Ok.office c.args.sessions c.args.rows.now c.in-Ok.all.items c.in_ok-all.all.items c.in-Err.field-0.0
    c.in-Ok.ensures.office c.in-Ok.ensures.sessions c.in_ok-all.ensures.numbers c.in_ok-all.ensures.performed
    c.in-Err.ensures.missing c.in-Err.ensures.unsettled

pub returns : goal.returns
returns g c =
    subst (IsRunOf c.args.rows.now) (sym c.into_object.ensures.history)
    (run_of_closed c.in-Ok.office c.args.sessions c.args.rows.now c.in-Ok.all.items c.in_ok-all.all.items c.in-Ok-close.programs
    c.in-Ok.ensures.office c.in-Ok.ensures.sessions c.in_ok-all.ensures.numbers c.in_ok-all.ensures.performed c.requires.within
    c.in-Ok-close.ensures.ok)
