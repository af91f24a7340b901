-- The outcome of a batch of calls of a book, as its export states it.
use Rattle.std.specs.Prelude.{◌≡◌, ◌≢◌, ℕ, ◌≤◌, ◌⊎◌, List, [], ◌∷◌, ◌++◌, length, take, ⊤}
use Rattle.lock_rules.specs.Legal.{state_of}
use Rattle.lock_desk.specs.Batches.{Item, entries_from, ended_waits_in}
use Rattle.lock_desk.specs.BookView.{BookView}
use Rattle.library_books.specs.declared.numbers.EntryNumbers.{EntryNumbers}
use Rattle.library_books.specs.declared.status.TheConstants.{NO_SUCH_SESSION, NO_SUCH_OP, NO_SUCH_MODE}
use Rattle.library_books.specs.Numbers.{IsCall, IsCallFault, numbers_of_entry}
use Rattle.library_books.specs.Calls.{IsSession, written}

-- the call that the numbers encode, of a session of the book; the reply in them isn't read
pub record IsItem (book : BookView) (numbers : EntryNumbers) (item : Item) : Type 0 where
  pub known : IsSession book numbers.session
  pub session : item.session ≡ numbers.session
  pub call : IsCall numbers.call item.call

-- the calls that the numbers encode, one for each
abbrev pub AreItems : BookView → List EntryNumbers → List Item → Type 0
AreItems book [] [] = ⊤
AreItems book [] (i ∷ is) = ⊥
AreItems book (n ∷ ns) [] = ⊥
AreItems book (n ∷ ns) (i ∷ is) = IsItem book n i × AreItems book ns is

-- the status for numbers that encode no call of a session of the book: that of the first test that fails
pub record IsItemFault (book : BookView) (numbers : EntryNumbers) (fault : ℕ) : Type 0 where
  pub known : (fault ≡ NO_SUCH_SESSION) ⊎ ((NO_SUCH_OP ≤ fault) × (fault ≤ NO_SUCH_MODE))
  pub session : fault ≡ NO_SUCH_SESSION → ¬ (IsSession book numbers.session)
  pub call : fault ≢ NO_SUCH_SESSION → IsSession book numbers.session × IsCallFault numbers.call fault

-- the status of the first of the numbers that encode no call
abbrev pub IsFirstFault : BookView → List EntryNumbers → ℕ → Type 0
IsFirstFault book asked fault = (front : List EntryNumbers) × (bad : EntryNumbers) × (rest : List EntryNumbers)
    × (asked ≡ front ++ bad ∷ rest) × ((items : List Item) × AreItems book front items) × IsItemFault book bad fault

-- the first `count` calls were served, one after another: each of their numbers is now that of its entry in the history, which has
-- these entries at its end, the numbers behind them are as they were, and the book tells whose wait these calls have ended
abbrev pub IsBatchServed : BookView → BookView → List EntryNumbers → List EntryNumbers → ℕ → Type 0
IsBatchServed before after asked answered count = (items : List Item) × AreItems before asked items × (count ≤ length asked)
    × (let entries = entries_from (state_of before.history) (take count items) in
    (after ≡ record before { history = before.history ++ entries; ended = ended_waits_in before.sessions (state_of before.history) (take count items) })
    × (answered ≡ written numbers_of_entry count entries asked))
