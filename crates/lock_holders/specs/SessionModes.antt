-- Lists of sessions, each with a mode: the holders or the queue of one resource.
use Rattle.std.specs.Prelude.{◌≡◌, ℕ, ◌+◌, ◌≤◌, Bool, true, false, not, ◌&&◌, ◌||◌, if◌then◌else◌, ◌==◌, nat_lt, List, [], ◌∷◌, filter, map, Option, Some, None}
use Rattle.std.specs.List.{list_any, list_all, All}
use Rattle.lock_modes.specs.declared.Mode.{Mode}
use Rattle.lock_modes.specs.Compatibility.{are_compatible}
use Rattle.lock_rules.specs.Sound.{ascend}
use Rattle.lock_holders.specs.declared.session_mode.SessionMode.{SessionMode}

-- session `s` is in the list
abbrev pub has_session : ℕ → List SessionMode → Bool
has_session s cs = list_any (λ c. c.session == s) cs

-- the mode of session `s` in the list, if it is there
abbrev pub mode_of : ℕ → List SessionMode → Option Mode
mode_of s [] = None
mode_of s (c ∷ cs) = if c.session == s then Some c.mode else mode_of s cs

-- the session and its mode as a pair
abbrev pub pair_of : SessionMode → ℕ × Mode
pair_of c = (c.session, c.mode)

-- how often session `s` is in the list
abbrev pub times : ℕ → List SessionMode → ℕ
times s [] = 0
times s (c ∷ cs) = (if c.session == s then 1 else 0) + times s cs

-- the holders after session `c.session` has got the mode `c.mode`: it replaces its own mode, or is inserted by session
-- number
abbrev pub with_holder : SessionMode → List SessionMode → List SessionMode
with_holder c [] = c ∷ []
with_holder c (h ∷ hs) =
    if h.session == c.session then c ∷ hs
    else (if nat_lt c.session h.session then c ∷ h ∷ hs else h ∷ with_holder c hs)

-- the list without session `s`
abbrev pub without : ℕ → List SessionMode → List SessionMode
without s cs = filter (λ c. not (c.session == s)) cs

-- the list is empty
abbrev pub is_nobody : List SessionMode → Bool
is_nobody [] = true
is_nobody (c ∷ cs) = false

-- the mode of `c` is compatible with the modes of all other sessions among these holders
abbrev pub fits_among : SessionMode → List SessionMode → Bool
fits_among c hs = list_all (λ h. (h.session == c.session) || are_compatible c.mode h.mode) hs

-- mode `m` is compatible with the modes of all these holders
abbrev pub go_with : Mode → List SessionMode → Bool
go_with m hs = list_all (λ h. are_compatible m h.mode) hs

-- the session numbers are strictly increasing
abbrev pub Ascends : List SessionMode → Type 0
Ascends hs = ascend (map pair_of hs) ≡ true

-- whom holders block

-- `u` is one of these holders, is not `s`, and holds a mode that conflicts with `m`
abbrev pub holder_blocks : ℕ → Mode → ℕ → List SessionMode → Bool
holder_blocks s m u hs = list_any (λ h. (h.session == u) && (not (h.session == s) && not (are_compatible m h.mode))) hs

-- each of them is one of the sessions 1 to `n`
abbrev pub AreOfSessions : ℕ → List SessionMode → Type 0
AreOfSessions n cs = All (λ c. (1 ≤ c.session) × (c.session ≤ n)) cs
