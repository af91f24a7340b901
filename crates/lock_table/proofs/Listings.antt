-- What a lock table tells of its locks and requests is what the state that it represents has.
use Rattle.std.proofs.Common.{◌≡◌, ℕ, Bool, true, false, cond, not, ◌&&◌, ◌||◌, List, [], ◌∷◌, ◌++◌, map, Option, Some, None, is_some, IfSome, refl, sym, ◌∙◌, ap, subst}
use Rattle.std.specs.Prelude.{filter}
use Rattle.std.specs.List.{flat_map}
use Rattle.std.specs.Map.{keys_of}
use Rattle.std.proofs.lemmas.Bool.{and_parts, not-true}
use Rattle.std.proofs.lemmas.List.{append_assoc, map-append}
use Rattle.lock_tree.specs.Paths.{same_path}
use Rattle.lock_rules.specs.State as rules
use Rattle.lock_rules.specs.Queue.{conversions, fresh_requests, queue}
use Rattle.lock_rules.specs.Sound.{IsSound}
use Rattle.lock_rules.specs.declared.calls.Transaction.{Transaction}
use Rattle.lock_rules.specs.declared.listing.ClaimKind.{ClaimKind}
use Rattle.lock_rules.specs.declared.listing.ClaimKind.TheVariants.{Held, Conversion, Fresh}
use Rattle.lock_rules.specs.Listing.{with_path, resources_of, transaction_of, listed_as, listed_on, listing_of, kind_of_request, listed_request, waiting_line}
use Rattle.lock_rules.proofs.Lists.{same_path-true, request_of-session}
use Rattle.lock_rules.proofs.Steps.{is-none}
use Rattle.lock_holders.specs.declared.session_mode.SessionMode.{SessionMode}
use Rattle.lock_table.specs.declared.cells.Cell.{Cell}
use Rattle.lock_table.specs.declared.table.LockTable.{LockTable}
use Rattle.lock_table.specs.inner.Cells.{View, Cells, view_in, cell_at, cell_view, is_busy, IsKeptCell, AreKeptCells}
use Rattle.session_locks.specs.Resources.{has_path, in_order}
use Rattle.lock_holders.specs.SessionModes.{mode_of, is_nobody}
use Rattle.lock_table.specs.inner.Lockers.{is_wanted}
use Rattle.lock_table.specs.Changes.{view_at, standing, IsWhole}
use Rattle.lock_table.specs.Listing.{transaction_shown, line, kind_beside, request_line, lines_in, lines_at, lines_of, asked_line, request_at}
use Rattle.lock_table.specs.Shows.{short, claims_on, view, Shows}
use Rattle.session_locks.proofs.ResourceLists.{same_path-equivalence}
use Rattle.session_locks.proofs.InOrder.{same-in_order}
use Rattle.lock_holders.proofs.SessionModes.{mode-has}
use Rattle.lock_table.proofs.Simulation.{waits-shown}
use Rattle.lock_table.proofs.TableViews.{held-seen}
use Rattle.lock_table.proofs.WaitsOfTheState.{mode-short, request-queued}

-- the resources

-- the resources of some claims are theirs in order
resources-in_order : (cs : List rules.Claim) → in_order (map (λ c. c.resource) cs) ≡ resources_of cs
resources-in_order [] = refl
resources-in_order (c ∷ cs) = ap (with_path c.resource) (resources-in_order cs)

-- a resource has a cell exactly if it is among the keys
has-cell : (r : List ℕ) (es : Cells) → has_path r (keys_of es) ≡ is_some (cell_at r es)
has-cell r [] = refl
has-cell r ((k, x) ∷ es) = ap (λ (b : Bool). b || has_path r (keys_of es)) (same_path-equivalence.symm k r) ∙ go (same_path r k) (has-cell r es)
  where
    go : (b : Bool) → has_path r (keys_of es) ≡ is_some (cell_at r es) → (b || has_path r (keys_of es)) ≡ is_some (cond b (Some x) (cell_at r es))
    go true next = refl
    go false next = next

-- a resource has a cell exactly if somebody holds it or waits for it there
cell-busy : (r : List ℕ) (es : Cells) → AreKeptCells es → is_some (cell_at r es) ≡ is_busy (cell_view r es)
cell-busy r es k = go (cell_at r es) refl
  where
    go : (o : Option Cell) → cell_at r es ≡ o → is_some (cell_at r es) ≡ is_busy (cell_view r es)
    go None e = ap is_some e ∙ sym (ap (λ (o : Option Cell). is_busy (view_in o)) e)
    go (Some c) e = let kept : IsKeptCell c = subst (λ (o : Option Cell). IfSome o IsKeptCell) e (k r) in ap is_some e ∙ sym (ap (λ (o : Option Cell). is_busy (view_in o)) e ∙ kept.busy)

-- nobody holds a resource exactly if it is not the resource of a lock
nobody-holds : (r : List ℕ) (cs : List rules.Claim) → is_nobody (claims_on r cs) ≡ not (has_path r (map (λ c. c.resource) cs))
nobody-holds r [] = refl
nobody-holds r (c ∷ cs) = go (same_path c.resource r) (nobody-holds r cs)
  where
    go : (b : Bool) → is_nobody (claims_on r cs) ≡ not (has_path r (map (λ c. c.resource) cs)) → is_nobody (cond b (short c ∷ claims_on r cs) (claims_on r cs)) ≡ not (b || has_path r (map (λ c. c.resource) cs))
    go true next = refl
    go false next = next

-- a list with a request in its middle is not empty
somebody : (xs : List rules.Claim) (q : rules.Claim) (ys : List rules.Claim) → is_nobody (map short (xs ++ q ∷ ys)) ≡ false
somebody [] q ys = refl
somebody (x ∷ xs) q ys = refl

-- nobody waits for a resource exactly if it is not the resource of a request
nobody-waits : (r : List ℕ) (f : rules.Claim → Bool) (qs : List rules.Claim)
    → is_nobody (map short (filter (λ q. same_path q.resource r && f q) qs ++ filter (λ q. same_path q.resource r && not (f q)) qs)) ≡ not (has_path r (map (λ q. q.resource) qs))
nobody-waits r f [] = refl
nobody-waits r f (q ∷ qs) = go (same_path q.resource r) (f q) (nobody-waits r f qs)
  where
    xs : List rules.Claim
    xs = filter (λ q. same_path q.resource r && f q) qs

    ys : List rules.Claim
    ys = filter (λ q. same_path q.resource r && not (f q)) qs

    go : (b c : Bool) → is_nobody (map short (xs ++ ys)) ≡ not (has_path r (map (λ q. q.resource) qs))
        → is_nobody (map short (cond (b && c) (q ∷ xs) xs ++ cond (b && not c) (q ∷ ys) ys)) ≡ not (b || has_path r (map (λ q. q.resource) qs))
    go true true next = refl
    go true false next = somebody xs q ys
    go false c next = next

-- a resource is among those of two lists exactly if it is among those of one
has-both : (r : List ℕ) (cs qs : List rules.Claim) → has_path r (map (λ c. c.resource) (cs ++ qs)) ≡ (has_path r (map (λ c. c.resource) cs) || has_path r (map (λ c. c.resource) qs))
has-both r [] qs = refl
has-both r (c ∷ cs) qs = ap (λ (b : Bool). same_path c.resource r || b) (has-both r cs qs) ∙ go (same_path c.resource r)
  where
    go : (b : Bool) → (b || (has_path r (map (λ c. c.resource) cs) || has_path r (map (λ c. c.resource) qs))) ≡ ((b || has_path r (map (λ c. c.resource) cs)) || has_path r (map (λ c. c.resource) qs))
    go true = refl
    go false = refl

-- somebody holds a resource of the table or waits for it exactly if it is the resource of a lock or of a request
view-busy : (r : List ℕ) (t : rules.Table) → is_busy (view r t) ≡ has_path r (map (λ c. c.resource) (t.held ++ t.requests))
view-busy r t =
    (λ i. not (nobody-holds r t.held i && nobody-waits r (λ q. is_some (rules.held_mode t q.session r)) t.requests i))
    ∙ (go (has_path r (map (λ c. c.resource) t.held)) (has_path r (map (λ c. c.resource) t.requests)) ∙ sym (has-both r t.held t.requests))
  where
    go : (a b : Bool) → not (not a && not b) ≡ (a || b)
    go true true = refl
    go true false = refl
    go false true = refl
    go false false = refl

module _ (d : LockTable) (st : rules.State) (w : IsWhole d) (h : Shows d st) where
  -- the resources that have a cell are those that are held or waited for
  resources-shown : in_order (keys_of d.cells.entries) ≡ resources_of (st.table.held ++ st.table.requests)
  resources-shown =
      same-in_order (keys_of d.cells.entries) (map (λ c. c.resource) (st.table.held ++ st.table.requests))
      (λ r. has-cell r d.cells.entries ∙ (cell-busy r d.cells.entries w.cells ∙ (ap is_busy (h.views r) ∙ view-busy r st.table)))
      ∙ resources-in_order (st.table.held ++ st.table.requests)

  -- lines

  -- the transaction of a session in a line
  transaction-told : (s : ℕ) → transaction_shown d s ≡ transaction_of st s
  transaction-told s = ap (λ (o : Option Transaction). record { number = rules.number_in o; doomed = rules.doomed_in o }) (h.transactions s)

  -- the lines of the holders
  holders-told : (r : List ℕ) (cs : List rules.Claim) → map (line d r Held) (claims_on r cs) ≡ map (λ p. listed_as st Held (record { session = p.0; resource = r; mode = p.1 })) (rules.holders r cs)
  holders-told r [] = refl
  holders-told r (c ∷ cs) = go (same_path c.resource r) (holders-told r cs)
    where
      go : (b : Bool) → map (line d r Held) (claims_on r cs) ≡ map (λ p. listed_as st Held (record { session = p.0; resource = r; mode = p.1 })) (rules.holders r cs)
          → map (line d r Held) (cond b (short c ∷ claims_on r cs) (claims_on r cs)) ≡ map (λ p. listed_as st Held (record { session = p.0; resource = r; mode = p.1 })) (cond b ((c.session, c.mode) ∷ rules.holders r cs) (rules.holders r cs))
      go true next = λ i. record { resource = r; session = c.session; transaction = transaction-told c.session i; mode = c.mode; kind = Held } ∷ next i
      go false next = next

  -- the lines of the requests for a resource that pass a test, which are all of one kind
  requests-told : (r : List ℕ) (hs : List SessionMode) (kind : ClaimKind) (p : rules.Claim → Bool) → ((q : rules.Claim) → p q ≡ true → (r ≡ q.resource) × (kind_beside hs q.session ≡ kind))
      → (qs : List rules.Claim) → map (request_line d r hs) (map short (filter p qs)) ≡ map (listed_as st kind) (filter p qs)
  requests-told r hs kind p each [] = refl
  requests-told r hs kind p each (q ∷ qs) = go (p q) refl (requests-told r hs kind p each qs)
    where
      go : (b : Bool) → p q ≡ b → map (request_line d r hs) (map short (filter p qs)) ≡ map (listed_as st kind) (filter p qs)
          → map (request_line d r hs) (map short (cond b (q ∷ filter p qs) (filter p qs))) ≡ map (listed_as st kind) (cond b (q ∷ filter p qs) (filter p qs))
      go true e next = let k = each q e in λ i. record { resource = k.0 i; session = q.session; transaction = transaction-told q.session i; mode = q.mode; kind = k.1 i } ∷ next i
      go false e next = next

  -- the kind of a request beside the holders
  kind-told : (r : List ℕ) (s : ℕ) (b : Bool) → is_some (rules.held_mode st.table s r) ≡ b → kind_beside (claims_on r st.table.held) s ≡ cond b Conversion Fresh
  kind-told r s b e = ap (λ (x : Bool). cond x Conversion Fresh) (sym (held-seen s r st.table.held) ∙ e)

  -- the lines of a resource
  lines-told : (r : List ℕ) → lines_at d r ≡ listed_on st r
  lines-told r =
      ap (lines_in d r) (h.views r)
      ∙ ((λ i. holders-told r st.table.held i ++ queue-told i)
      ∙ sym (append_assoc (map (λ p. listed_as st Held (record { session = p.0; resource = r; mode = p.1 })) (rules.holders r st.table.held)) (map (listed_as st Conversion) (conversions st.table r)) (map (listed_as st Fresh) (fresh_requests st.table r))))
    where
      hs : List SessionMode
      hs = claims_on r st.table.held

      has : rules.Claim → Bool
      has q = is_some (rules.held_mode st.table q.session r)

      one : map (request_line d r hs) (map short (conversions st.table r)) ≡ map (listed_as st Conversion) (conversions st.table r)
      one = requests-told r hs Conversion _ (λ q e. let k = and_parts (same_path q.resource r) (has q) e in (sym (same_path-true q.resource r k.0), kind-told r q.session true k.1)) st.table.requests

      two : map (request_line d r hs) (map short (fresh_requests st.table r)) ≡ map (listed_as st Fresh) (fresh_requests st.table r)
      two = requests-told r hs Fresh _ (λ q e. let k = and_parts (same_path q.resource r) (not (has q)) e in (sym (same_path-true q.resource r k.0), kind-told r q.session false (not-true (has q) k.1))) st.table.requests

      queue-told : map (request_line d r hs) (map short (queue st.table r)) ≡ map (listed_as st Conversion) (conversions st.table r) ++ map (listed_as st Fresh) (fresh_requests st.table r)
      queue-told =
          ap (map (request_line d r hs)) (map-append short (conversions st.table r) (fresh_requests st.table r))
          ∙ (map-append (request_line d r hs) (map short (conversions st.table r)) (map short (fresh_requests st.table r))
          ∙ (λ i. one i ++ two i))

  -- the whole listing
  pub listing-shown : lines_of d ≡ listing_of st
  listing-shown = λ i. flat_map (λ r. lines-told r i) (resources-shown i)

  -- the request of a session

  pub request-shown : (s : ℕ) → IsSound st.table → request_at d s (standing s d).wanted ≡ waiting_line st s
  request-shown s sound = go (rules.request_of s st.table.requests) refl
    where
      go : (o : Option rules.Claim) → rules.request_of s st.table.requests ≡ o → request_at d s (standing s d).wanted ≡ waiting_line st s
      go None e =
          ap (request_at d s) (is-none (standing s d).wanted (waits-shown d st s w h ∙ ap is_some e))
          ∙ sym (ap (listed_request st) e)
      go (Some q) e = ap (request_at d s) wanted ∙ (ap (asked_line d s q.resource) target ∙ (told ∙ sym (ap (listed_request st) e)))
        where
          session : q.session ≡ s
          session = request_of-session s st.table.requests q e

          queued : mode_of s (view q.resource st.table).waiting ≡ Some q.mode
          queued = mode-short s (queue st.table q.resource) q (request-queued s st.table q (sound.once s) e)

          target : mode_of s (view_at q.resource d).waiting ≡ Some q.mode
          target = ap (λ (v : View). mode_of s v.waiting) (h.views q.resource) ∙ queued

          there : is_wanted q.resource (standing s d).wanted ≡ true
          there = (w.agree q.resource).wanted s ∙ (sym (mode-has s (view_at q.resource d).waiting) ∙ ap is_some target)

          of : (o : Option (List ℕ)) → is_wanted q.resource o ≡ true → o ≡ Some q.resource
          of None k = absurd (cc)
          of (Some x) k = ap Some (same_path-true x q.resource k)

          wanted : (standing s d).wanted ≡ Some q.resource
          wanted = of (standing s d).wanted there

          kind : kind_beside (view_at q.resource d).holders s ≡ kind_of_request st q
          kind = ap (λ (v : View). kind_beside v.holders s) (h.views q.resource) ∙ (kind-told q.resource s _ refl ∙ ap (λ (u : ℕ). cond (is_some (rules.held_mode st.table u q.resource)) Conversion Fresh) (sym session))

          told : Some (request_line d q.resource (view_at q.resource d).holders (record { session = s; mode = q.mode })) ≡ Some (listed_as st (kind_of_request st q) q)
          told = λ i. Some (record { resource = q.resource; session = sym session i; transaction = (transaction-told s ∙ ap (transaction_of st) (sym session)) i; mode = q.mode; kind = kind i })
