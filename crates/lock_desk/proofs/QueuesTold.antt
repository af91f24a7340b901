-- The queue in which a session waits, as the cell of its request has it.
use Rattle.std.proofs.Common.{◌≡◌, List, Option, Some, None, length, ap, sym, ◌∙◌, ℕ, refl}
use Rattle.std.proofs.lemmas.List.{length-map}
use Rattle.lock_rules.specs.declared.listing.Claim.{Claim as ListedClaim}
use Rattle.lock_rules.specs.State as rules
use Rattle.lock_rules.specs.Queue.{queue}
use Rattle.lock_rules.specs.Listing.{kind_of_request, listed_as, listed_request}
use Rattle.lock_table.specs.declared.table.LockTable.{LockTable}
use Rattle.lock_desk.specs.Gauges.{queue_length}
use Rattle.lock_table.specs.inner.Cells.{View}
use Rattle.lock_table.specs.Changes.{view_at}
use Rattle.lock_table.specs.Shows.{Shows, short}

same-line : (a b : ListedClaim) → Some a ≡ Some b → a ≡ b
same-line a b h = cc h

-- as many requests wait at the resource of the line as in the queue of the request
pub queue-told : (d : LockTable) (st : rules.State) (o : Option rules.Claim) (l : ListedClaim) → Shows d st → listed_request st o ≡ Some l
    → length (view_at l.resource d).waiting ≡ queue_length st.table o
queue-told d st None l h e = absurd (cc e)
queue-told d st (Some q) l h e =
    let at : q.resource ≡ l.resource = ap (λ (x : ListedClaim). x.resource) (same-line (listed_as st (kind_of_request st q) q) l e) in
    ap (λ (r : List ℕ). length (view_at r d).waiting) (sym at)
    ∙ (ap (λ (v : View). length v.waiting) (h.views q.resource)
    ∙ length-map (queue st.table q.resource) short)

-- nobody waits in a queue who doesn't wait
pub none-told : (st : rules.State) (o : Option rules.Claim) → listed_request st o ≡ None → 0 ≡ queue_length st.table o
none-told st None e = refl
none-told st (Some q) e = absurd (cc e)
