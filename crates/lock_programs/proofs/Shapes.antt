-- Where the calls of a program stand.
use Rattle.std.proofs.Common.{◌≡◌, ℕ, zero, suc, ◌+◌, ◌-◌, ◌≤◌, Bool, true, false, List, [], ◌∷◌, ◌++◌, length, length-append, Some, slice_get, take, refl, sym, ap, ◌∙◌, arith}
use Rattle.lock_modes.specs.declared.Mode.{Mode}
use Rattle.lock_rules.specs.declared.calls.Call.{Call}
use Rattle.lock_rules.specs.declared.calls.Call.TheVariants.{Begin, Lock, Convert, Poll, Release, Commit, Abort, Try, Withdraw, Restart}
use Rattle.lock_rules.specs.declared.calls.Reply.TheVariants.{Granted}
use Rattle.lock_programs.specs.Answers.{done_with}
use Rattle.lock_programs.specs.declared.program.Start.{Start}
use Rattle.lock_programs.specs.declared.program.Start.TheVariants.{Nothing, Begins, Commits, Aborts, CommitsAndBegins, AbortsAndBegins, Restarts}
use Rattle.lock_programs.specs.declared.program.Last.{Last}
use Rattle.lock_programs.specs.declared.program.Last.TheVariants.{Locks, Converts, Tries, Releases, Polls, Withdraws}
use Rattle.lock_programs.specs.declared.path.StartedPath.{StartedPath}
use Rattle.lock_programs.specs.declared.program.Calls.{Calls}
use Rattle.lock_programs.specs.declared.program.Calls.TheVariants.{One, Path}
use Rattle.lock_programs.specs.declared.program.Program.{Program}
use Rattle.lock_programs.specs.Starts.{start_calls, last_call, ancestor_call, call_before, path_calls}
use Rattle.lock_programs.specs.Calls.{path_of, calls_started, calls_in, calls_of}

-- as many calls on a path as were counted
pub path-length : (r : List ℕ) (above : Mode) (last : Last) (from n : ℕ) → length (path_calls r above last from n) ≡ n
path-length r above last from zero = refl
path-length r above last from (suc n) = ap suc (path-length r above last (from + 1) n)

-- no more calls than there are places in an answer
start-few : (s : Start) → length (start_calls s) ≤ 2
start-few Nothing = omega arith
start-few Begins = omega arith
start-few Commits = omega arith
start-few Aborts = omega arith
start-few CommitsAndBegins = omega arith
start-few AbortsAndBegins = omega arith
start-few Restarts = omega arith

started-few : (p : StartedPath) → length (calls_started p) ≤ 7
started-few p =
    let a = start-few p.start in
    let n = path-length p.resource p.above p.last p.from (length p.resource + 1 - p.from) in
    let deep : length p.resource ≤ 5 = p.deep in
    let some : 1 ≤ p.from = p.some in
    omega (arith, length-append (start_calls p.start) (path_of p), a, n, deep, some)

few-in : (cs : Calls) → length (calls_in cs) ≤ 7
few-in (One c) = omega arith
few-in (Path p) = started-few p

pub calls-few : (p : Program) → length (calls_of p) ≤ 7
calls-few p = few-in p.calls

-- the call at a place of a path, which has so many behind it
pub path-at : (r : List ℕ) (above : Mode) (last : Last) (from n j b : ℕ) → n ≡ j + 1 + b → slice_get (path_calls r above last from n) j ≡ Some (call_before above last b (take (from + j) r))
path-at r above last from zero j b e = absurd (omega (arith, e))
path-at r above last from (suc n) zero b e =
    let z : from ≡ from + 0 = omega arith in
    let m : n ≡ b = omega (arith, e) in
    λ i. Some (call_before above last (m i) (take (z i) r))
path-at r above last from (suc n) (suc j) b e =
    let z : from + 1 + j ≡ from + suc j = omega arith in
    path-at r above last (from + 1) n j b (omega (arith, e)) ∙ ap (λ (k : ℕ). Some (call_before above last b (take k r))) z

-- the calls that end, begin and restart transactions

-- the call ends a transaction, begins one or restarts it
abbrev is_turn : Call → Bool
is_turn Begin = true
is_turn Commit = true
is_turn Abort = true
is_turn Restart = true
is_turn (Lock r m) = false
is_turn (Convert r m) = false
is_turn Poll = false
is_turn (Release r) = false
is_turn (Try r m) = false
is_turn Withdraw = false

last-no_turn : (l : Last) (r : List ℕ) → is_turn (last_call l r) ≡ false
last-no_turn (Locks m) r = refl
last-no_turn (Converts m) r = refl
last-no_turn (Tries m) r = refl
last-no_turn Releases r = refl
last-no_turn Polls r = refl
last-no_turn Withdraws r = refl

ancestor-no_turn : (above : Mode) (l : Last) (r : List ℕ) → is_turn (ancestor_call above l r) ≡ false
ancestor-no_turn above (Locks m) r = refl
ancestor-no_turn above (Converts m) r = refl
ancestor-no_turn above (Tries m) r = refl
ancestor-no_turn above Releases r = refl
ancestor-no_turn above Polls r = refl
ancestor-no_turn above Withdraws r = refl

-- the reply to it, if it was granted
pub ancestor-done : (above : Mode) (l : Last) (r : List ℕ) (began ended : ℕ) (mode : Mode) → Granted mode ≡ done_with began ended mode (ancestor_call above l r)
ancestor-done above (Locks m) r began ended mode = refl
ancestor-done above (Converts m) r began ended mode = refl
ancestor-done above (Tries m) r began ended mode = refl
ancestor-done above Releases r began ended mode = refl
ancestor-done above Polls r began ended mode = refl
ancestor-done above Withdraws r began ended mode = refl

call-no_turn : (above : Mode) (last : Last) (n : ℕ) (r : List ℕ) → is_turn (call_before above last n r) ≡ false
call-no_turn above last zero r = last-no_turn last r
call-no_turn above last (suc n) r = ancestor-no_turn above last r

-- none of them is on a path
path-no_turn : (r : List ℕ) (above : Mode) (last : Last) (from n i : ℕ) (c : Call) → slice_get (path_calls r above last from n) i ≡ Some c → is_turn c ≡ false
path-no_turn r above last from zero i c h = absurd (cc)
path-no_turn r above last from (suc n) zero c h =
    let e : call_before above last n (take from r) ≡ c = cc in
    ap is_turn (sym e) ∙ call-no_turn above last n (take from r)
path-no_turn r above last from (suc n) (suc i) c h = path-no_turn r above last (from + 1) n i c h

no_begin : (c : Call) → is_turn c ≡ false → c ≡ Begin → ⊥
no_begin c h e = let t : is_turn c ≡ true = ap is_turn e in cc

no_commit : (c : Call) → is_turn c ≡ false → c ≡ Commit → ⊥
no_commit c h e = let t : is_turn c ≡ true = ap is_turn e in cc

no_abort : (c : Call) → is_turn c ≡ false → c ≡ Abort → ⊥
no_abort c h e = let t : is_turn c ≡ true = ap is_turn e in cc

no_restart : (c : Call) → is_turn c ≡ false → c ≡ Restart → ⊥
no_restart c h e = let t : is_turn c ≡ true = ap is_turn e in cc

-- the place of the begin
abbrev pub begins_at : Start → ℕ
begins_at Nothing = 0
begins_at Begins = 0
begins_at Commits = 0
begins_at Aborts = 0
begins_at CommitsAndBegins = 1
begins_at AbortsAndBegins = 1
begins_at Restarts = 0

begin-among : (s : Start) (ps : List Call) → ((i : ℕ) → slice_get ps i ≡ Some Begin → ⊥) → (i : ℕ) → slice_get (start_calls s ++ ps) i ≡ Some Begin → i ≡ begins_at s
begin-among Nothing ps none_of i h = absurd (none_of i h)
begin-among Begins ps none_of zero h = refl
begin-among Begins ps none_of (suc i) h = absurd (none_of i h)
begin-among Commits ps none_of zero h = refl
begin-among Commits ps none_of (suc i) h = absurd (none_of i h)
begin-among Aborts ps none_of zero h = refl
begin-among Aborts ps none_of (suc i) h = absurd (none_of i h)
begin-among CommitsAndBegins ps none_of zero h = absurd (cc)
begin-among CommitsAndBegins ps none_of (suc zero) h = refl
begin-among CommitsAndBegins ps none_of (suc (suc i)) h = absurd (none_of i h)
begin-among AbortsAndBegins ps none_of zero h = absurd (cc)
begin-among AbortsAndBegins ps none_of (suc zero) h = refl
begin-among AbortsAndBegins ps none_of (suc (suc i)) h = absurd (none_of i h)
begin-among Restarts ps none_of zero h = refl
begin-among Restarts ps none_of (suc i) h = absurd (none_of i h)

-- what isn't on a path and isn't a begin is at the front
front-among : (c : Call) → (c ≡ Begin → ⊥) → (s : Start) (ps : List Call) → ((i : ℕ) → slice_get ps i ≡ Some c → ⊥) → (i : ℕ) → slice_get (start_calls s ++ ps) i ≡ Some c → i ≡ 0
front-among c other Nothing ps none_of i h = absurd (none_of i h)
front-among c other Begins ps none_of zero h = refl
front-among c other Begins ps none_of (suc i) h = absurd (none_of i h)
front-among c other Commits ps none_of zero h = refl
front-among c other Commits ps none_of (suc i) h = absurd (none_of i h)
front-among c other Aborts ps none_of zero h = refl
front-among c other Aborts ps none_of (suc i) h = absurd (none_of i h)
front-among c other CommitsAndBegins ps none_of zero h = refl
front-among c other CommitsAndBegins ps none_of (suc zero) h = absurd (other (cc))
front-among c other CommitsAndBegins ps none_of (suc (suc i)) h = absurd (none_of i h)
front-among c other AbortsAndBegins ps none_of zero h = refl
front-among c other AbortsAndBegins ps none_of (suc zero) h = absurd (other (cc))
front-among c other AbortsAndBegins ps none_of (suc (suc i)) h = absurd (none_of i h)
front-among c other Restarts ps none_of zero h = refl
front-among c other Restarts ps none_of (suc i) h = absurd (none_of i h)

off-path : (p : StartedPath) (i : ℕ) (c : Call) → slice_get (path_of p) i ≡ Some c → is_turn c ≡ false
off-path p i c h = path-no_turn p.resource p.above p.last p.from (length p.resource + 1 - p.from) i c h

-- a single call is at the front
single-place : (c d : Call) (i : ℕ) → slice_get (c ∷ []) i ≡ Some d → i ≡ 0
single-place c d zero h = refl
single-place c d (suc i) h = absurd (cc)

-- the place of the begin of a program
abbrev begins_in : Calls → ℕ
begins_in (One c) = 0
begins_in (Path p) = begins_at p.start

begin-in : (cs : Calls) (i : ℕ) → slice_get (calls_in cs) i ≡ Some Begin → i ≡ begins_in cs
begin-in (One c) i h = single-place c Begin i h
begin-in (Path p) i h = begin-among p.start (path_of p) (λ j k. no_begin Begin (off-path p j Begin k) refl) i h

-- what isn't on a path and isn't a begin is at the front of a program
front-in : (d : Call) → (d ≡ Begin → ⊥) → (is_turn d ≡ false → ⊥) → (cs : Calls) (i : ℕ) → slice_get (calls_in cs) i ≡ Some d → i ≡ 0
front-in d other turns (One c) i h = single-place c d i h
front-in d other turns (Path p) i h = front-among d other p.start (path_of p) (λ j k. turns (off-path p j d k)) i h

pub begin-once : (p : Program) (i j : ℕ) → slice_get (calls_of p) i ≡ Some Begin → slice_get (calls_of p) j ≡ Some Begin → i ≡ j
begin-once p i j h k = begin-in p.calls i h ∙ sym (begin-in p.calls j k)

pub commit-place : (p : Program) (i : ℕ) → slice_get (calls_of p) i ≡ Some Commit → i ≡ 0
commit-place p i h = front-in Commit (λ e. cc) (λ t. no_commit Commit t refl) p.calls i h

pub abort-place : (p : Program) (i : ℕ) → slice_get (calls_of p) i ≡ Some Abort → i ≡ 0
abort-place p i h = front-in Abort (λ e. cc) (λ t. no_abort Abort t refl) p.calls i h

pub restart-place : (p : Program) (i : ℕ) → slice_get (calls_of p) i ≡ Some Restart → i ≡ 0
restart-place p i h = front-in Restart (λ e. cc) (λ t. no_restart Restart t refl) p.calls i h
