-- The lists of a book's state in each form.
use Rattle.std.proofs.Common.{◌≡◌, ℕ, ◌+◌, ◌≤◌, true, cond, not, leb, leb-true, List, [], ◌∷◌, ◌++◌, length, map, Some, is_some, refl, sym, ◌∙◌, ap}
use Rattle.std.specs.Prelude.{All}
use Rattle.std.specs.List.{position_or_len}
use Rattle.std.proofs.lemmas.Bool.{and_parts}
use Rattle.lock_rules.specs.declared.listing.Claim.{Claim as ListedClaim}
use Rattle.lock_rules.specs.Entries.{Entry}
use Rattle.lock_rules.specs.State.{Claim, request_of}
use Rattle.lock_rules.specs.Legal.{state_of}
use Rattle.lock_rules.specs.Listing.{listing_of}
use Rattle.lock_rules.specs.Waits.{waits_for}
use Rattle.lock_rules.proofs.Owners.{state-numbered}
use Rattle.sequential.specs.Histories.{IsEntryWithin}
use Rattle.lock_explain.proofs.SessionsOfAHistory.{all-inside, inside, waits-open}
use Rattle.lock_report.specs.ReadRows.{IsSession, IsWait}
use Rattle.lock_report.specs.declared.snapshot.OpenTransaction.{OpenTransaction}
use Rattle.lock_report.specs.declared.snapshot.WaitLine.{WaitLine}
use Rattle.lock_report.specs.declared.snapshot.WaitFor.{WaitFor}
use Rattle.lock_report.specs.Dot.{dot_of_waits}
use Rattle.lock_report.specs.LocksDot.{dot_of_locks}
use Rattle.lock_report.specs.StateRows.{rows_of_state}
use Rattle.lock_report.specs.StateText.{text_of_state}
use Rattle.lock_report.specs.Blockers.{told_waits}
use Rattle.lock_report.specs.Blocking.{first_waits, rows_of_waits}
use Rattle.lock_report.specs.Jam.{roots_of as roots_listed}
use Rattle.command_line.specs.declared.args.Form.{Form}
use Rattle.command_line.specs.declared.args.Form.TheVariants as form
use Rattle.history_commands.specs.Forms.{form_of_lists}
use Rattle.history_commands.specs.Roots.{roots_of}
use Rattle.history_commands.specs.Showing.{open_of, opens_of, text_in, waits_by, waits_of}
use Rattle.history_commands.specs.Waits.{waits_told, with_since}
use Rattle.history_commands.specs.Waits.{waits_of as waits_told_of}
use Rattle.history_commands.proofs.StateLists.{opens-within, roots-told, session-told, waits-told, waits-within}
use Rattle.history_commands.proofs.WaitsFollow.{waits-follow}

-- the places since when sessions wait are in no row
others-told : (front : List Entry) (ws : List WaitLine) → position_or_len (λ (v : WaitLine). v.first) (map (with_since front) ws) ≡ position_or_len (λ (v : WaitLine). v.first) ws
others-told front [] = refl
others-told front (w ∷ ws) = ap (λ (k : ℕ). cond (not w.first) (1 + k) 0) (others-told front ws)

rows-told : (front : List Entry) (ws : List WaitLine) → first_waits (map (with_since front) ws) ≡ first_waits ws
rows-told front [] = refl
rows-told front (w ∷ ws) = λ i. cond w.first (record { wait = w.wait; others = others-told front ws i } ∷ []) [] ++ rows-told front ws i

module _ (n : ℕ) (es : List Entry) (inner : All (IsEntryWithin n) es) where
  -- a session that is inside is one of the sessions 1 to n
  number-within : (v : ℕ) → inside n v ≡ true → (1 ≤ v) × (v ≤ n)
  number-within v k = let p = and_parts (leb 1 v) (leb v n) k in (leb-true 1 v p.0, leb-true v n p.1)

  -- who waits, and who is waited for, is one of the sessions 1 to n
  wait-within : (i u : ℕ) → waits_for (state_of es).table i u ≡ true → ((1 ≤ i) × (i ≤ n)) × ((1 ≤ u) × (u ≤ n))
  wait-within i u h = let b = waits-open (inside n) (state_of es).table (all-inside n es inner) i u h in (number-within i b.0, number-within u b.1)

  -- who has a request is one of them, and has a transaction
  asker-within : (s : ℕ) (q : Claim) → request_of s (state_of es).table.requests ≡ Some q → ((1 ≤ s) × (s ≤ n)) × (is_some ((state_of es).begun s) ≡ true)
  asker-within s q e = (number-within s ((all-inside n es inner).waiting s q e), (state-numbered es).owners.waiting s q e)

  -- the sessions of the lists
  pub lists-within : All (λ o. IsSession n o.session) (opens_of n (state_of es)) × All (IsWait n) (waits_of n (state_of es))
  lists-within = (opens-within n es wait-within asker-within, waits-within n es wait-within asker-within)

  -- the waits of one session
  pub waits-by-told : (front : List Entry) (s : ℕ) (opens : List OpenTransaction) (claims : List ListedClaim) (own : List WaitFor)
      → opens ≡ open_of s ((state_of es).begun s) → claims ≡ listing_of (state_of es) → own ≡ waits_by n (state_of es) s
      → map (with_since front) (told_waits opens claims own) ≡ waits_told_of n (state_of es).table front s
  waits-by-told front s opens claims own o c w = (λ i. map (with_since front) (told_waits (o i) (c i) (w i))) ∙ session-told n es wait-within asker-within front s

  -- the lists in each form
  pub form-told : (form : Form) (place waiting : ℕ) (front : List Entry) (opens : List OpenTransaction) (claims : List ListedClaim) (waits : List WaitFor) → es ≡ front
      → waiting ≡ length (state_of es).table.requests → opens ≡ opens_of n (state_of es) → claims ≡ listing_of (state_of es) → waits ≡ waits_of n (state_of es)
      → form_of_lists form (record { sessions = n; place = Some place; waiting = waiting }) front opens claims waits ≡ text_in form n place front
  form-told form.Lines place waiting front opens claims waits served k o c w =
      (λ i. text_of_state (Some place) (k i) (roots_listed n (o i) (c i) (w i)) (o i) (c i) (map (with_since front) (told_waits (o i) (c i) (w i))))
      ∙ ((λ i. text_of_state (Some place) (length (state_of es).table.requests) (roots-told n es wait-within asker-within i) (opens_of n (state_of es)) (listing_of (state_of es)) (waits-told n es wait-within asker-within front i))
      ∙ ap (λ (h : List Entry). text_of_state (Some place) (length (state_of h).table.requests) (roots_of n (state_of h)) (opens_of n (state_of h)) (listing_of (state_of h)) (waits_told n (state_of h) front)) served)
  form-told form.Rows place waiting front opens claims waits served k o c w =
      (λ i. rows_of_state (o i) (c i) (first_waits (told_waits (o i) (c i) (w i))))
      ∙ ((λ i. rows_of_state (opens_of n (state_of es)) (listing_of (state_of es)) (sym (rows-told front (told_waits (opens_of n (state_of es)) (listing_of (state_of es)) (waits_of n (state_of es)))) i))
      ∙ ((λ i. rows_of_state (opens_of n (state_of es)) (listing_of (state_of es)) (first_waits (waits-told n es wait-within asker-within front i)))
      ∙ ap (λ (h : List Entry). rows_of_state (opens_of n (state_of h)) (listing_of (state_of h)) (first_waits (waits_told n (state_of h) front))) served))
  form-told form.Graph place waiting front opens claims waits served k o c w =
      (λ i. dot_of_locks (o i) (c i) (map (with_since front) (told_waits (o i) (c i) (w i))))
      ∙ ((λ i. dot_of_locks (opens_of n (state_of es)) (listing_of (state_of es)) (waits-told n es wait-within asker-within front i))
      ∙ ap (λ (h : List Entry). dot_of_locks (opens_of n (state_of h)) (listing_of (state_of h)) (waits_told n (state_of h) front)) served)
  form-told form.Waits place waiting front opens claims waits served k o c w =
      (λ i. dot_of_waits (o i) (w i)) ∙ ap (λ (h : List Entry). dot_of_waits (opens_of n (state_of h)) (waits_of n (state_of h))) served

  -- the rows of waits
  pub rows-follow : rows_of_waits n (opens_of n (state_of es)) (listing_of (state_of es)) ≡ first_waits (waits_told n (state_of es) es)
  rows-follow =
      (λ i. first_waits (told_waits (opens_of n (state_of es)) (listing_of (state_of es)) (waits-follow es n (λ s q e. (asker-within s q e).1) i)))
      ∙ (sym (rows-told es (told_waits (opens_of n (state_of es)) (listing_of (state_of es)) (waits_of n (state_of es)))) ∙ ap first_waits (waits-told n es wait-within asker-within es))
