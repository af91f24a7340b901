-- Histories of programs, and the histories of the calls that the programs made.
use Rattle.std.specs.Prelude.{◌≡◌, ◌⊎◌, ℕ, ◌+◌, ◌<◌, Bool, true, false, List, [], ◌∷◌, ◌++◌, length}
use Rattle.sequential.specs.declared.entry.Entry.{Entry}
use Rattle.sequential.specs.Histories.{Answered}
use Rattle.programs.specs.Form.{Form}

-- The entry of a session's call with its reply.
abbrev pub entry : {C R : Type 0} → ℕ → C → R → Entry C R
entry session call reply = record { session = session; call = call; reply = reply }

-- The entries of a session's calls, one for each reply.
abbrev pub entries : {C R : Type 0} → ℕ → List C → List R → List (Entry C R)
entries s (c ∷ cs) (r ∷ rs) = entry s c r ∷ entries s cs rs
entries s (c ∷ cs) [] = []
entries s [] rs = []

-- The same calls with their places, if the first one has this place.
abbrev pub answers_from : {C R : Type 0} → ℕ → List C → List R → List (Answered C R)
answers_from place (c ∷ cs) (r ∷ rs) = record { place = place; call = c; reply = r } ∷ answers_from (place + 1) cs rs
answers_from place (c ∷ cs) [] = []
answers_from place [] rs = []

module _ {P A C R : Type 0} (form : Form P A C R) where
  -- The entries of the calls of a program that were served.
  abbrev pub entries_of : Entry P A → List (Entry C R)
  entries_of e = entries e.session (form.calls e.call) (form.replies e.call e.reply)

  -- The calls of the programs, laid end to end.
  abbrev pub flat : List (Entry P A) → List (Entry C R)
  flat [] = []
  flat (e ∷ es) = entries_of e ++ flat es

  -- The calls of the programs of one session, laid end to end, each with its place.
  abbrev pub flat_calls : List (Answered P A) → List (Answered C R)
  flat_calls [] = []
  flat_calls (a ∷ rest) = answers_from (form.first a.reply) (form.calls a.call) (form.replies a.call a.reply) ++ flat_calls rest

  -- These replies are those to a program of these calls: it goes on behind each but the last, and ends behind the last call,
  -- behind a reply at which it stops, or if the answer says that memory was refused.
  abbrev pub IsRun : List C → List R → Bool → Type 0
  IsRun [] [] refused = refused ≡ false
  IsRun [] (r ∷ rs) refused = ⊥
  IsRun (c ∷ cs) [] refused = refused ≡ true
  IsRun (c ∷ cs) (r ∷ rs) refused =
      ((form.goes_on r ≡ true) × IsRun cs rs refused) ⊎ ((form.goes_on r ≡ false) × (rs ≡ []) × (refused ≡ false))

  -- The program can have this answer: its replies are those to the program. If memory was refused to a call, one before it was
  -- served: a program whose first call is refused memory has no answer.
  abbrev pub IsAnswer : P → A → Type 0
  IsAnswer p a = IsRun (form.calls p) (form.replies p a) (form.refused a) × (form.refused a ≡ true → 0 < length (form.replies p a))

  -- Each answer is one that its program can have, and has the place of its first call, if the first program's is this one.
  abbrev pub AreRun : ℕ → List (Entry P A) → Type 0
  AreRun place [] = Unit {0}
  AreRun place (e ∷ es) =
      (form.first e.reply ≡ place) × IsAnswer e.call e.reply × AreRun (place + length (entries_of e)) es

  -- A history of programs is legal: the calls laid end to end are, and each answer tells of its program's.
  abbrev pub IsLegal : (List (Entry C R) → Type 0) → List (Entry P A) → Type 0
  IsLegal is_legal h = is_legal (flat h) × AreRun 0 h
