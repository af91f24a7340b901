-- The histories of an object that is given by one function: its reply to each call of each session behind each history.
use Rattle.std.specs.Prelude.{◌≡◌, ℕ, List, ◌∷◌, ◌++◌}
use Rattle.sequential.specs.declared.entry.Entry.{Entry}

module _ {C R : Type 0} (reply_to : List (Entry C R) → ℕ → C → R) where
  -- Each reply is the object's to its call behind the entries before it.
  abbrev pub AreRepliesOf : List (Entry C R) → Type 0
  AreRepliesOf h = (front rest : List (Entry C R)) (e : Entry C R) → h ≡ front ++ e ∷ rest → e.reply ≡ reply_to front e.session e.call
