use Rattle.std.proofs.Common.{◌≡◌, ◌+◌, ◌-◌, ◌≤◌, true, length, take, drop, vec_len, IfSome}
use Rattle.lock_holders.specs.SessionModes.{go_with}
use Rattle.lock_table.specs.inner.Cells.{view_of, view_after_promotion, IsOnce}
use Rattle.lock_table.specs.inner.Lockers.{standings_of, AreSameOrGranted, DoAgree}
use Rattle.lock_table.specs.inner.Ended.{DoNoteEnded}
use Rattle.lock_table.specs.inner.Blocking.{with_holders}
use Rattle.lock_table.proofs.ResourceViews.{both}
use Rattle.lock_table.proofs.promotion.promote.Given as goal

abbrev pub invariant-loop-next : goal.invariant-loop-next
invariant-loop-next l =
    let now = both l.cell.holders.items (drop l.granted l.cell.waiting.items) in
    record {
      view : view_after_promotion now ≡ view_after_promotion (view_of l.initial.cell);
      queue : l.cell.waiting ≡ l.initial.cell.waiting;
      held : l.cell.holders.items ≡ with_holders (take l.granted l.cell.waiting.items) l.initial.cell.holders.items;
      passed : l.granted ≤ vec_len l.cell.waiting;
      room : length l.cell.holders.items + vec_len l.cell.waiting ≤ l.cell.holders.capacity + l.granted;
      shared : IfSome l.shared (λ m. go_with m l.cell.holders.items ≡ true);
      once : IsOnce now;
      agree : DoAgree l.resource now (standings_of l.lockers.items);
      changed : AreSameOrGranted l.resource (standings_of l.initial.lockers.items) (standings_of l.lockers.items);
      len : vec_len l.lockers ≡ vec_len l.initial.lockers;
      waits_ended : DoNoteEnded 0 l.initial.lockers.items l.lockers.items l.initial.ended l.ended;
    }

abbrev pub decreases-loop-next : goal.decreases-loop-next
decreases-loop-next l = vec_len l.cell.waiting - l.granted
