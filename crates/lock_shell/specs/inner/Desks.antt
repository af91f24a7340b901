-- The books of a shell, between two calls.
use Rattle.std.specs.Prelude.{◌≡◌, ℕ, List}
use Rattle.lock_desk.specs.BookView.{BookView}
use Rattle.sequential.specs.declared.trimmed_list.TheConstants.{NO_BOUND}
use Rattle.lock_shell.specs.Turns.{Kept}

-- the two books have the same history of the sessions 1 to n, all of which the second keeps in memory
pub record AreAlike (n : ℕ) (before after : BookView) : Type 0 where
  pub sessions : before.sessions ≡ n
  pub others : after.sessions ≡ n
  pub history : before.history ≡ after.history
  pub all : after.cut ≡ 0
  pub unbounded : after.bound ≡ NO_BOUND

-- what a shell with this second book and these marks keeps
abbrev pub kept_in : BookView → List ℕ → Kept
kept_in after marks = record { history = after.history; marks = marks }
