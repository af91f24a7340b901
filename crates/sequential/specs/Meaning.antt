-- What the laws of a sequential object say.
use Rattle.std.specs.Prelude.{ℕ, List, [], ◌∷◌, ◌++◌}
use Rattle.sequential.specs.declared.entry.Entry.{Entry}
use Rattle.sequential.specs.declared.object.Sequential.{Ghosts}

-- A front of a legal history is legal.
abbrev pub AreFrontsLegal : {O C R : Type 0} → Ghosts O C R → Type 0
AreFrontsLegal {O} {C} {R} obj = (front rest : List (Entry C R)) → obj.is_legal (front ++ rest) → obj.is_legal front

-- Any two replies that are legal at one place agree.
abbrev pub AreRepliesDetermined : {O C R : Type 0} → Ghosts O C R → Type 0
AreRepliesDetermined {O} {C} {R} obj = (front : List (Entry C R)) (session : ℕ) (call : C) (reply other : R) →
    obj.is_legal (front ++ record { session = session; call = call; reply = reply } ∷ [])
    → obj.is_legal (front ++ record { session = session; call = call; reply = other } ∷ []) → obj.agree call reply other
