use Rattle.std.proofs.Common.{List, sym, subst}
use Rattle.std.specs.Prelude.{All}
use Rattle.lock_report.specs.declared.snapshot.OpenTransaction.{OpenTransaction}
use Rattle.lock_report.specs.declared.snapshot.WaitFor.{WaitFor}
use Rattle.lock_report.specs.ReadRows.{IsSession, IsWait}
use Rattle.lock_report.proofs.DumpSessions.{opens_within, waits_within}
use Rattle.history_commands.proofs.dumps.dump_text.Goals as goal

pub form_text-requires-clause-opens : goal.form_text-requires-clause-opens
form_text-requires-clause-opens c =
    subst (λ (l : List OpenTransaction). All (λ o. IsSession c.args.sessions o.session) l) (sym c.in_ok-lists.ensures.lists.0) (opens_within c.args.sessions c.args.rows c.requires.rows)

pub form_text-requires-clause-waits : goal.form_text-requires-clause-waits
form_text-requires-clause-waits c =
    subst (λ (l : List WaitFor). All (IsWait c.args.sessions) l) (sym c.in_ok-lists.ensures.lists.2)
    (waits_within c.args.sessions c.args.rows.opens.items c.args.rows.claims.items (opens_within c.args.sessions c.args.rows c.requires.rows))
