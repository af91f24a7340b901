-- The book's batches as those of a sequential object.
use Rattle.std.proofs.Common.{◌≡◌, ℕ, List, [], ◌∷◌, ◌++◌, map, take, drop, refl, ap}
use Rattle.sequential.specs.Batches.{IsBatch, item_of, asked_by, asked_in}
use Rattle.lock_rules.specs.declared.calls.Call.{Call}
use Rattle.lock_rules.specs.Entries.{Entry}
use Rattle.lock_rules.specs.State.{State}
use Rattle.lock_rules.specs.Step.{step}
use Rattle.lock_desk.specs.Batches.{Item, entries_from}

asked-book : (st : State) (is : List Item) → asked_in (entries_from st is) ≡ asked_by is
asked-book st [] = refl
asked-book st (i ∷ is) = ap (λ (l : List (ℕ × Call)). (i.session, i.call) ∷ l) (asked-book (step st i.session i.call).state is)

-- A batch of the book is a batch of the object.
pub book-batch : (st : State) (before after : List Entry) (old new : List Item) (served : ℕ) → after ≡ before ++ entries_from st (take served old)
    → new ≡ map item_of (entries_from st (take served old)) ++ drop served old → IsBatch before after old new served
book-batch st before after old new served history items = record {
  entries = entries_from st (take served old);
  history = history;
  asked = asked-book st (take served old);
  items = items;
}
