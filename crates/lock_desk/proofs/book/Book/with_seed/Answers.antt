use Rattle.std.proofs.Common.{ℕ, sym, subst, arith, ◌≤◌, length, List, []}
use Rattle.std.specs.List.{All}
use Rattle.sequential.specs.Histories.{IsEntryWithin}
use Rattle.lock_rules.specs.Entries.{Entry}
use Rattle.lock_rules.specs.Legal.{IsLegal, state_of}
use Rattle.lock_table.specs.Shows.{Shows}
use Rattle.lock_desk.specs.Deadlocks.{AreDeadlocksTold, deadlocks_in, newest}
use Rattle.lock_holders.proofs.EndedList.{none-in}
use Rattle.lock_desk.specs.inner.Counting.{AreCallsCounted, AreWaitsCounted}
use Rattle.lock_desk.proofs.CallsCounted.{none-counted}
use Rattle.lock_desk.proofs.book.Book.with_seed.Goals as goal

pub invariant_of-result : goal.invariant_of-result
invariant_of-result c =
    let lock_table = c.in_ok-lock_table.ensures in
    let none = sym c.new.ensures.items in
    record {
      some = c.requires.some;
      few = c.requires.few;
      legal = subst IsLegal none tt;
      within = subst (All (IsEntryWithin c.args.sessions)) none (λ k d lt. absurd (omega (arith, lt)));
      shows = subst (λ (es : List Entry). Shows c.in_ok-lock_table.lock_table.value (state_of es)) none lock_table.shows;
      whole = lock_table.whole;
      ready = lock_table.ready;
      lockers = lock_table.lockers;
      counted = subst (λ (es : List Entry). c.in_ok-lock_table.lock_table.value.count ≤ length es) none (omega (arith, lock_table.shows.count));
      log = λ some. absurd (omega (arith, some, c.in_ok-log.ensures.most));
      told = subst (λ (es : List Entry). AreDeadlocksTold (newest c.in_ok-log.log.most (deadlocks_in es)) c.in_ok-log.log.told) none
          (subst (AreDeadlocksTold (newest c.in_ok-log.log.most [])) (sym c.in_ok-log.ensures.told) (subst (λ (n : ℕ). AreDeadlocksTold (newest n []) []) (sym c.in_ok-log.ensures.most) tt));
      calls = subst (λ (es : List Entry). AreCallsCounted es c.new-2.result) none c.new-2.ensures;
      waits = subst (λ (es : List Entry). AreWaitsCounted es c.in_ok-log.log.counts) none
          (subst (AreWaitsCounted []) (sym c.in_ok-log.ensures.counts) none-counted);
    }

pub returns-clause-ended : goal.returns-clause-ended
returns-clause-ended c = none-in c.in_ok-lock_table.lock_table.value.ended c.in_ok-lock_table.ensures.none
