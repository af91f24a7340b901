-- A session that has no request waits for nobody.
use Rattle.std.proofs.Common.{◌≡◌, ℕ, List, [], ◌∷◌, ◌++◌, Option, Some, None, refl, ap, ◌∙◌, arith}
use Rattle.std.specs.List.{flat_map, range_with_len}
use Rattle.std.proofs.lemmas.List.Concat.{flat_map-cons}
use Rattle.lock_report.specs.declared.snapshot.WaitFor.{WaitFor}
use Rattle.lock_rules.specs.State.{Claim, State, request_of}
use Rattle.lock_rules.specs.Listing.{listed_request}
use Rattle.history_commands.specs.Showing.{wait_of, waits_by}

-- it has no edge to another session
no-wait : (st : State) (s u : ℕ) → request_of s st.table.requests ≡ None → wait_of st s u ≡ []
no-wait st s u none = search arith

-- the line of a request is none only if there is no request
pub no-request : (st : State) (q : Option Claim) → listed_request st q ≡ None → q ≡ None
no-request st None is = refl
no-request st (Some q) is = absurd (cc)

-- a session that has no request has no edges
pub no-waits : (st : State) (s n : ℕ) → request_of s st.table.requests ≡ None → waits_by n st s ≡ []
no-waits st s n none = go (range_with_len 1 n)
  where
    go : (us : List ℕ) → flat_map (wait_of st s) us ≡ []
    go [] = refl
    go (u ∷ us) = flat_map-cons (wait_of st s) u us ∙ (ap (λ (l : List WaitFor). l ++ flat_map (wait_of st s) us) (no-wait st s u none) ∙ go us)
