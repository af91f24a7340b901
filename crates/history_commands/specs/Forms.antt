-- The lists of a state in a form of `show`.
use Rattle.std.specs.Prelude.{ℕ, List, Option, Some, None, map}
use Rattle.lock_rules.specs.declared.listing.Claim.{Claim}
use Rattle.lock_rules.specs.Entries.{Entry}
use Rattle.lock_report.specs.declared.snapshot.OpenTransaction.{OpenTransaction}
use Rattle.lock_report.specs.declared.snapshot.WaitLine.{WaitLine}
use Rattle.lock_report.specs.declared.snapshot.WaitFor.{WaitFor}
use Rattle.lock_report.specs.Dot.{dot_of_waits}
use Rattle.lock_report.specs.LocksDot.{dot_of_locks}
use Rattle.lock_report.specs.StateRows.{rows_of_state}
use Rattle.lock_report.specs.declared.blocking.showing.Moment.{Moment}
use Rattle.lock_report.specs.Blockers.{told_waits}
use Rattle.lock_report.specs.Blocking.{first_waits}
use Rattle.lock_report.specs.Shown.{text_of_lists}
use Rattle.command_line.specs.declared.args.Form.{Form}
use Rattle.command_line.specs.declared.args.Form.TheVariants as form
use Rattle.history_commands.specs.Waits.{with_since}

-- the waits of a state in front of a place, to which these entries have led, with the places since when sessions wait; of a dump, which has
-- no place, without these
abbrev pub told_at : Option ℕ → List Entry → List WaitLine → List WaitLine
told_at None front waits = waits
told_at (Some place) front waits = map (with_since front) waits

-- the lists in this form, of a moment to which these entries have led
abbrev pub form_of_lists : Form → Moment → List Entry → List OpenTransaction → List Claim → List WaitFor → List ℕ
form_of_lists form.Lines m front opens claims waits =
    text_of_lists m.sessions m.place m.waiting opens claims waits (told_at m.place front (told_waits opens claims waits))
form_of_lists form.Rows m front opens claims waits = rows_of_state opens claims (first_waits (told_waits opens claims waits))
form_of_lists form.Graph m front opens claims waits = dot_of_locks opens claims (told_at m.place front (told_waits opens claims waits))
form_of_lists form.Waits m front opens claims waits = dot_of_waits opens waits
