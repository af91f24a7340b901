-- A session that was told to wait, in a history of calls.
use Rattle.std.specs.Prelude.{◌≡◌, ◌≢◌, ℕ, List, ◌∷◌, ◌++◌, All}
use Rattle.lock_rules.specs.declared.calls.Call.{Call}
use Rattle.lock_rules.specs.declared.calls.Reply.TheVariants.{Waiting}
use Rattle.lock_rules.specs.Entries.{Entry}
use Rattle.publication.specs.Views.{entry}

-- None of these entries is session u's.
abbrev pub MakesNoCall : ℕ → List Entry → Type 0
MakesNoCall u entries = All (λ entry. entry.session ≢ u) entries

-- The last call that session u has in the history was answered Waiting.
pub record WasToldToWait (history : List Entry) (u : ℕ) : Type 0 where
  pub front : List Entry
  pub call : Call
  pub rest : List Entry
  pub history_is : history ≡ front ++ entry u call Waiting ∷ rest
  pub quiet : MakesNoCall u rest
