-- What a log of deadlocks counts on the way: victims, and waits that their own sessions give up.
use Rattle.std.specs.Prelude.{◌≡◌, ℕ, suc, ◌+◌, ◌%◌, ◌^◌, Bool, not, ◌||◌, ◌==◌, if◌then◌else◌, List, [], ◌∷◌, length}
use Rattle.lock_rules.specs.Counts.{one_if}
use Rattle.lock_table.specs.Deadlocks.{Moment}
use Rattle.lock_desk.specs.declared.wait_counts.WaitCounts.{WaitCounts}

-- a counter of 64 bits, one up if the test holds
abbrev pub up_if : Bool → ℕ → ℕ
up_if b n = if b then (n + 1) % 2 ^ 64 else n

-- no victim, and no wait given up
abbrev pub no_waits : WaitCounts
no_waits = record { victims = 0; closing = 0; last = 0; aborted = 0; restarted = 0 }

-- after one more victim of the call at this place
abbrev pub with_victim : ℕ → WaitCounts → WaitCounts
with_victim place c = record c {
  victims = (c.victims + 1) % 2 ^ 64;
  closing = up_if ((c.victims == 0) || not (c.last == place)) c.closing;
  last = place;
}

-- after an abort of a session that waits, or doesn't
abbrev pub with_abort : Bool → WaitCounts → WaitCounts
with_abort waits c = record c { aborted = up_if waits c.aborted }

-- after a restart
abbrev pub with_restart : Bool → WaitCounts → WaitCounts
with_restart waits c = record c { restarted = up_if waits c.restarted }

-- how many of these moments are of another call than the moment before; `next` is the place behind that of the one before the first, 0
-- if there is none
abbrev pub closings : ℕ → List Moment → ℕ
closings next [] = 0
closings next (m ∷ ms) = one_if (not (suc m.place == next)) + closings (suc m.place) ms

-- the place behind that of the last of them
abbrev pub behind : ℕ → List Moment → ℕ
behind next [] = next
behind next (m ∷ ms) = behind (suc m.place) ms

-- the victims of these moments are counted, and the calls that made them
pub record AreVictimsCounted (ms : List Moment) (c : WaitCounts) : Type 0 where
  pub victims : c.victims ≡ length ms
  pub closing : c.closing ≡ closings 0 ms
  pub last : behind 0 ms ≡ (if c.victims == 0 then 0 else suc c.last)
