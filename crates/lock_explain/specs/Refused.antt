-- Why a call was refused: the first of its tests that failed, and what failed it.
use Rattle.std.specs.Prelude.{◌≡◌, ℕ, Bool, true, false, ◌&&◌, ◌==◌, List, [], filter, Option, Some, None}
use Rattle.lock_modes.specs.declared.Mode.{Mode}
use Rattle.lock_modes.specs.Order.{need_of}
use Rattle.lock_tree.specs.Paths.{is_ancestor, parent_of}
use Rattle.lock_rules.specs.declared.calls.Call.{Call}
use Rattle.lock_rules.specs.declared.calls.Call.TheVariants.{Lock, Convert, Release, Try}
use Rattle.lock_rules.specs.declared.calls.Reply.TheVariants.{Refused}
use Rattle.lock_rules.specs.declared.calls.Why.{Why}
use Rattle.lock_rules.specs.declared.calls.Why.TheVariants.{ParentNotHeld, ChildHeld, WouldWait}
use Rattle.lock_rules.specs.declared.listing.Claim.{Claim as ListedClaim}
use Rattle.lock_rules.specs.declared.listing.ClaimKind.{ClaimKind}
use Rattle.lock_rules.specs.declared.listing.ClaimKind.TheVariants.{Held, Conversion, Fresh}
use Rattle.lock_rules.specs.State.{Claim, State, held_mode}
use Rattle.lock_rules.specs.Step.{step, target_of}
use Rattle.lock_rules.specs.Listing.{listing_of, listed_request}
use Rattle.lock_explain.specs.Waiting.{request_made, waiting_state, blockers_of}
use Rattle.lock_explain.specs.declared.explanation.Blocker.{Blocker}
use Rattle.lock_explain.specs.declared.explanation.MissedParent.{MissedParent}
use Rattle.lock_explain.specs.declared.explanation.Refusal.{Refusal}

-- what a request of the session for the resource, with this mode asked, lacks of the parent
abbrev pub parent_missed : State → ℕ → List ℕ → Mode → MissedParent
parent_missed st s r m = record {
  parent = parent_of r;
  needed = need_of (target_of (held_mode st.table s r) m);
  held = held_mode st.table s (parent_of r);
}

-- the parent that a call with this refusal lacks, None if the refusal is another one
abbrev pub missed_by : State → ℕ → Call → Why → Option MissedParent
missed_by st s (Lock r m) ParentNotHeld = Some (parent_missed st s r m)
missed_by st s (Convert r m) ParentNotHeld = Some (parent_missed st s r m)
missed_by st s (Try r m) ParentNotHeld = Some (parent_missed st s r m)
missed_by st s _ _ = None

-- the line is a lock
abbrev pub is_lock : ClaimKind → Bool
is_lock Held = true
is_lock Conversion = false
is_lock Fresh = false

-- the line is a lock of the session on a descendant of the resource
abbrev pub is_lock_below : ℕ → List ℕ → ListedClaim → Bool
is_lock_below s r l = is_lock l.kind && ((l.session == s) && is_ancestor r l.resource)

-- the locks that the session holds below the resource of a call with this refusal, in the order of the listing
abbrev pub locks_below : State → ℕ → Call → Why → List ListedClaim
locks_below st s (Release r) ChildHeld = filter (is_lock_below s r) (listing_of st)
locks_below st s _ _ = []

-- the request of a call with this refusal, if it is refused since the request would wait; None if the refusal is another one
abbrev pub request_refused : State → ℕ → Call → Why → Option Claim
request_refused st s call WouldWait = request_made st s call
request_refused st s _ _ = None

-- the sessions, of 1 to n, that the request would wait for, none for None
abbrev pub blockers_if_asked : ℕ → State → Option Claim → List Blocker
blockers_if_asked n st None = []
blockers_if_asked n st (Some q) = blockers_of n (waiting_state st q) q

-- with sessions 1 to n, this is why the call of the session was refused
pub record IsRefusalOf (n : ℕ) (st : State) (s : ℕ) (call : Call) (f : Refusal) : Type 0 where
  pub why : (step st s call).reply ≡ Refused f.why
  pub missed : f.missed ≡ missed_by st s call f.why
  pub below : f.below.items ≡ locks_below st s call f.why
  pub request : f.request ≡ listed_request st (request_refused st s call f.why)
  pub blockers : f.blockers.items ≡ blockers_if_asked n st (request_refused st s call f.why)
