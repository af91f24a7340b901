-- The counters and gauges of a lock table in numbers, as the exports state them.
use Rattle.std.specs.Prelude.{ℕ, List, [], ◌∷◌}
use Rattle.lock_desk.specs.declared.counts.Calls.{Calls}
use Rattle.lock_desk.specs.declared.counts.Refusals.{Refusals}
use Rattle.lock_desk.specs.declared.counts.Counts.{Counts}
use Rattle.lock_desk.specs.declared.gauges.Gauges.{Gauges}
use Rattle.library_books.specs.declared.count_numbers.CountNumbers.{CountNumbers}
use Rattle.library_books.specs.declared.count_numbers.GaugeNumbers.{GaugeNumbers}

-- the calls of each operation, in the order of their numbers; no operation has number 0
abbrev pub calls_by_number : Calls → List ℕ
calls_by_number c = 0 ∷ c.begin ∷ c.lock ∷ c.convert ∷ c.poll ∷ c.release ∷ c.commit ∷ c.abort ∷ c.try_lock ∷ c.withdraw ∷ c.restart ∷ []

-- the refused calls, by the number of their refusal; no refusal has number 0, or the retired 10
abbrev pub refusals_by_number : Refusals → List ℕ
refusals_by_number r = 0 ∷ r.already_open ∷ r.no_transaction ∷ r.is_waiting ∷ r.is_doomed ∷ r.nothing_asked ∷ r.not_held ∷ r.parent_not_held
    ∷ r.child_held ∷ r.too_many_locks ∷ 0 ∷ r.would_wait ∷ r.not_waiting ∷ []

-- the counters in numbers
abbrev pub numbers_of_counts : Counts → CountNumbers
numbers_of_counts c = record {
  calls = calls_by_number c.calls;
  refusals = refusals_by_number c.refusals;
  requests = c.requests;
  granted_at_once = c.granted_at_once;
  requests_refused = c.requests_refused;
  waits_begun = c.waits_begun;
  waits_granted = c.waits_granted;
  victims = c.victims;
  waits_withdrawn = c.waits_withdrawn;
  waits_aborted = c.waits_aborted;
  waits_restarted = c.waits_restarted;
  waiting = c.waiting;
  deadlocks = c.deadlocks;
}

-- the gauges in numbers, with so many idle cells
abbrev pub numbers_of_gauges : Gauges → ℕ → GaugeNumbers
numbers_of_gauges g cells = record { transactions = g.transactions; locks = g.locks; waiting = g.waiting; longest_queue = g.longest_queue; idle_cells = cells }
