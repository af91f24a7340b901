-- A transaction begins, is doomed, ends or begins again, and a request is cancelled.
use Rattle.std.proofs.Common.{◌≡◌, ℕ, zero, suc, ◌+◌, ◌<◌, ◌≤◌, Bool, true, false, cond, eqb, inl, inr, List, [], ◌∷◌, length, get_or, set, Option, Some, None, refl, sym, ◌∙◌, ap, arith, subst, vec_len}
use Rattle.std.proofs.lemmas.Bool.{cases_Bool}
use Rattle.lock_rules.proofs.Sound.{eqb-swap}
use Rattle.std.proofs.lemmas.Bool.Decides.{Decides-eqb}
use Rattle.lock_tree.specs.Paths.{same_path}
use Rattle.lock_rules.specs.declared.calls.TheConstants.{MAX_LOCKS}
use Rattle.lock_rules.proofs.Lists.{same_path_tells}
use Rattle.lock_table.specs.declared.cells.GivenUp.TheVariants as claim
use Rattle.lock_rules.specs.declared.calls.Transaction.{Transaction}
use Rattle.lock_rules.specs.Waits.{doom}
use Rattle.lock_table.specs.declared.lockers.Locker.{Locker}
use Rattle.lock_table.specs.declared.table.LockTable.{LockTable}
use Rattle.lock_table.specs.inner.Cells.{View, view_after_giving_up, view_after_freeing, cell_view, AreKeptCells, CellsBecame}
use Rattle.lock_holders.specs.SessionModes.{has_session}
use Rattle.session_locks.specs.Resources.{has_path}
use Rattle.lock_table.specs.inner.Requests.{wanted_in}
use Rattle.lock_table.specs.inner.Lockers.{Standing, standing_of, standings_of, standing_at, is_wanted, AreSameOrGranted, DoAgree}
use Rattle.lock_table.specs.Changes.{view_at, standings, standing, view_after_unlock, view_after_cancel, IsWhole, DoesKeep, IsSameSeen, HasFreed, HasGivenBackAll, HasCancelled, HasDoomed, HasBegun, HasGivenUpAll}
use Rattle.lock_table.specs.inner.Blocking.{DoFollow}
use Rattle.lock_table.specs.Ready.{IsReadyTable}
use Rattle.lock_table.proofs.LockerStandings.{IsPositionOf, standings-set, standing-here, length-standings}
use Rattle.lock_table.proofs.Agreement.{own-standing, other-standing, GivesUp}
use Rattle.lock_table.proofs.Asking.{idle-there}
use Rattle.lock_table.proofs.GivingUp.{gives-request, freed-agree, freed-own, has-freed, freed-keeps}

-- no session holds more than its limit
pub few-at : (ws : List Locker) (s : ℕ) → length (standing_at s (standings_of ws)).held ≤ MAX_LOCKS
few-at ws zero = omega arith
few-at [] (suc s) = omega arith
few-at (w ∷ ws) (suc zero) = omega (arith, w.few)
few-at (w ∷ ws) (suc (suc s)) = few-at ws (suc s)

-- the standing with this transaction
abbrev pub with_transaction : Option Transaction → Standing → Standing
with_transaction o x = record { transaction = o; held = x.held; wanted = x.wanted }

module _ (d : LockTable) (s : ℕ) (o : Option Transaction) (locker new : Locker) (e : LockTable) (w : IsWhole d) {i : ℕ} (lt : IsPositionOf s i d.lockers.items) (at : locker ≡ get_or d.lockers.items i locker)
    (same : standing_of new ≡ with_transaction o (standing_of locker)) (held : new.held ≡ locker.held) (wanted : new.wanted ≡ locker.wanted) (lockers : e.lockers.items ≡ set d.lockers.items i new) (cells : e.cells ≡ d.cells) where
  all-told : standings e ≡ set (standings d) s (with_transaction o (standing s d))
  all-told = ap standings_of lockers ∙ (standings-set d.lockers.items s new lt.session ∙ ap (λ (x : Standing). set (standings d) s x) (same ∙ ap (with_transaction o) (sym (standing-here d.lockers.items s locker lt at))))

  long : s < length (standings d)
  long = omega (arith, lt.session, lt.within, length-standings d.lockers.items)

  -- the standing of the session afterwards
  pub own-told : standing s e ≡ with_transaction o (standing s d)
  own-told = ap (standing_at s) all-told ∙ own-standing (standings d) s (with_transaction o (standing s d)) long

  -- the standing of each other session
  pub other-told : (u : ℕ) → eqb s u ≡ false → standing u e ≡ standing u d
  other-told u n = ap (standing_at u) all-told ∙ other-standing (standings d) s u (with_transaction o (standing s d)) n

  -- both in one
  pub each-told : (u : ℕ) → standing u e ≡ cond (eqb u s) (with_transaction o (standing u d)) (standing u d)
  each-told u = elim (cases_Bool (eqb u s)) [
    | inl h ↦ let f = (Decides-eqb u s).0 h in sym (ap (λ (b : Bool). cond b (with_transaction o (standing u d)) (standing u d)) h ∙ subst (λ (i : ℕ). with_transaction o (standing i d) ≡ standing i e) (sym f) (sym own-told))
    | inr h ↦ other-told u (eqb-swap u s h) ∙ sym (ap (λ (b : Bool). cond b (with_transaction o (standing u d)) (standing u d)) h)
  ]

  held-told : (b : Bool) (x : Standing) → (cond b (with_transaction o x) x).held ≡ x.held
  held-told true x = refl
  held-told false x = refl

  wanted-told : (b : Bool) (x : Standing) → (cond b (with_transaction o x) x).wanted ≡ x.wanted
  wanted-told true x = refl
  wanted-told false x = refl

  transaction-told : (b : Bool) (x : Standing) → (cond b (with_transaction o x) x).transaction ≡ cond b o x.transaction
  transaction-told true x = refl
  transaction-told false x = refl

  -- the cells are unchanged
  pub seen-told : (q : List ℕ) → view_at q e ≡ view_at q d
  seen-told q = ap (λ cs. cell_view q cs.entries) cells

  -- each session holds what it held
  pub held-each : (u : ℕ) → (standing u e).held ≡ (standing u d).held
  held-each u = ap (λ (x : Standing). x.held) (each-told u) ∙ held-told (eqb u s) (standing u d)

  -- and waits for what it waited for
  pub wanted-each : (u : ℕ) → (standing u e).wanted ≡ (standing u d).wanted
  wanted-each u = ap (λ (x : Standing). x.wanted) (each-told u) ∙ wanted-told (eqb u s) (standing u d)

  -- and only the one transaction has changed
  pub transaction-each : (u : ℕ) → (standing u e).transaction ≡ cond (eqb u s) o (standing u d).transaction
  transaction-each u = ap (λ (x : Standing). x.transaction) (each-told u) ∙ transaction-told (eqb u s) (standing u d)

  -- the lock table stays whole
  pub told-whole : IsWhole e
  told-whole = record {
    cells = subst (λ cs. AreKeptCells cs.entries) (sym cells) w.cells;
    agree = λ x. subst (λ (v : View). DoAgree x v (standings e)) (sym (seen-told x)) (record {
      held = λ u. ap (has_path x) (held-each u) ∙ (w.agree x).held u;
      wanted = λ u. ap (is_wanted x) (wanted-each u) ∙ (w.agree x).wanted u;
    });
  }

  -- a transaction has begun
  pub has-begun : e.count ≡ d.count + 1 → o ≡ Some (record { number = d.count + 1; doomed = false }) → HasBegun s d e
  has-begun count number = record {
    count = count;
    transactions = λ u. transaction-each u ∙ ap (λ (x : Option Transaction). cond (eqb u s) x (standing u d).transaction) number;
    views = seen-told;
  }

-- all locks were given back

nothing : (rs : List (List ℕ)) → length rs ≡ 0 → rs ≡ []
nothing [] h = refl
nothing (r ∷ rs) h = absurd (omega arith)

-- a session that doesn't wait has nothing to cancel
pub none-cancelled : (s : ℕ) (d : LockTable) → IsWhole d → (standing s d).wanted ≡ None → (q : List ℕ) → view_after_cancel s (view_at q d) ≡ view_at q d
none-cancelled s d w idle q = ap (λ (b : Bool). cond b (view_after_freeing claim.Request s (view_at q d)) (view_at q d)) (idle-there s q d w idle)

-- once all locks are given back and the transaction is changed, the session has given up all
pub has-given_up : (after : Option Transaction → Option Transaction) (s : ℕ) (d f e : LockTable) → IsWhole d → (standing s d).wanted ≡ None → HasGivenBackAll s d f → length (standing s f).held ≡ 0 → e.count ≡ f.count → ((q : List ℕ) → view_at q e ≡ view_at q f)
    → ((u : ℕ) → (standing u e).transaction ≡ cond (eqb u s) (after (standing u f).transaction) (standing u f).transaction) → HasGivenUpAll after s d e
has-given_up after s d f e w idle g none count views transactions = record {
  count = count ∙ g.count;
  transactions = λ u. transactions u ∙ ap (λ (o : Option Transaction). cond (eqb u s) (after o) o) (g.transactions u);
  views = λ q. views q ∙ (g.views q ∙ (ap (λ (rs : List (List ℕ)). cond (has_path q rs) (view_at q d) (view_after_unlock s (view_at q d))) (nothing (standing s f).held none)
      ∙ sym (ap (view_after_unlock s) (none-cancelled s d w idle q))));
}

-- the request was cancelled before
pub given_up-after : (after : Option Transaction → Option Transaction) (s : ℕ) (d f e : LockTable) → IsWhole f → HasCancelled s d f → HasGivenUpAll after s f e → HasGivenUpAll after s d e
given_up-after after s d f e w c h = record {
  count = h.count ∙ c.count;
  transactions = λ u. h.transactions u ∙ ap (λ (o : Option Transaction). cond (eqb u s) (after o) o) (c.transactions u);
  views = λ q. h.views q ∙ ap (view_after_unlock s) (none-cancelled s f w c.idle q ∙ c.views q);
}

-- a request is cancelled

module _ (d : LockTable) (s : ℕ) (r : List ℕ) (locker new : Locker) (w : IsWhole d) {i : ℕ} (lt : IsPositionOf s i d.lockers.items) (at : locker ≡ get_or d.lockers.items i locker)
    (asks : (standing_of locker).wanted ≡ Some r) (transaction : new.transaction ≡ locker.transaction) (held : new.held ≡ locker.held) (gone : new.wanted ≡ None) where
  gives : GivesUp claim.Request r (standing_of locker) (standing_of new)
  gives = gives-request r (standing_of locker) (standing_of new) transaction (ap (λ v. v.items) held) asks (ap wanted_in gone)

  -- the locker without the request agrees with the cell
  pub cancel-agree : DoAgree r (view_after_giving_up claim.Request s (view_at r d)) (standings_of (set d.lockers.items i new))
  cancel-agree = freed-agree d claim.Request s r locker new lt at gives w

  module _ (e : LockTable) (b : CellsBecame r (view_after_freeing claim.Request s (view_at r d)) d.cells.entries e.cells.entries)
      (agree : DoAgree r (view_after_freeing claim.Request s (view_at r d)) (standings e)) (granted : AreSameOrGranted r (standings_of (set d.lockers.items i new)) (standings e)) where
    freed : e.count ≡ d.count → HasFreed claim.Request s r d e
    freed count = has-freed d claim.Request s r locker new lt at gives w e (ap wanted_in gone) b agree granted count

    own : standing s e ≡ standing_of new
    own = freed-own d claim.Request s r locker new lt at gives w e (ap wanted_in gone) b agree granted

    waits-there : (x : List ℕ) → has_session s (view_at x d).waiting ≡ same_path r x
    waits-there x = sym ((w.agree x).wanted s) ∙ ap (is_wanted x) (ap (λ (y : Standing). y.wanted) (standing-here d.lockers.items s locker lt at) ∙ asks)

    -- the change is that of a cancelled request
    pub has-cancelled : e.count ≡ d.count → HasCancelled s d e
    has-cancelled count = record {
      count = count;
      idle = ap (λ (x : Standing). x.wanted) own ∙ (ap wanted_in gone);
      held = ap (λ (x : Standing). x.held) own ∙ (ap (λ v. v.items) held ∙ sym (ap (λ (x : Standing). x.held) (standing-here d.lockers.items s locker lt at)));
      transactions = (freed count).transactions;
      views = λ x. (freed count).views x ∙ elim (same_path_tells r x) [
        | inl k ↦ ap (λ (c : Bool). cond c (view_after_freeing claim.Request s (view_at r d)) (view_at x d)) k.0
            ∙ (ap (λ (y : List ℕ). view_after_freeing claim.Request s (view_at y d)) k.1 ∙ sym (ap (λ (c : Bool). cond c (view_after_freeing claim.Request s (view_at x d)) (view_at x d)) (waits-there x ∙ k.0)))
        | inr k ↦ ap (λ (c : Bool). cond c (view_after_freeing claim.Request s (view_at r d)) (view_at x d)) k ∙ sym (ap (λ (c : Bool). cond c (view_after_freeing claim.Request s (view_at x d)) (view_at x d)) (waits-there x ∙ k))
      ];
    }

    -- the lock table is whole, and the waits-for rows are right
    pub cancel-keeps : vec_len e.lockers ≡ vec_len d.lockers → e.count ≡ d.count → length e.ended.places ≡ length d.ended.places → DoFollow (view_at r d) (view_after_freeing claim.Request s (view_at r d)) d.waits e.waits → IsReadyTable d → DoesKeep d e
    cancel-keeps len count sized rows k = freed-keeps d claim.Request s r locker new lt at gives w e (ap wanted_in gone) b agree granted len count sized rows k

-- cancelling changes nothing in a locker without a request
pub cancelled-same : (locker new : Locker) → new.transaction ≡ locker.transaction → new.held ≡ locker.held → new.wanted ≡ None → wanted_in locker.wanted ≡ None → standing_of new ≡ standing_of locker
cancelled-same locker new transaction held gone none = λ i. record { transaction = transaction i; held = (held i).items; wanted = (ap wanted_in gone ∙ sym none) i }

-- a lock table with the same standings and the same cells is whole too
pub same-whole : (d e : LockTable) → IsWhole d → standings e ≡ standings d → e.cells ≡ d.cells → IsWhole e
same-whole d e w lockers cells = record {
  cells = subst (λ cs. AreKeptCells cs.entries) (sym cells) w.cells;
  agree = λ r. subst (DoAgree r (view_at r e)) (sym lockers) (subst (λ cs. DoAgree r (cell_view r cs.entries) (standings d)) (sym cells) (w.agree r));
}

-- and nothing visible has changed
pub same-seen : (d e : LockTable) → e.count ≡ d.count → standings e ≡ standings d → e.cells ≡ d.cells → e.ended ≡ d.ended → IsSameSeen d e
same-seen d e count lockers cells ended = record { count = count; standings_same = lockers; views = λ q. ap (λ cs. cell_view q cs.entries) cells; ended = ended }

-- for a session that doesn't wait, no change is a cancelled request
pub same-cancelled : (s : ℕ) (d e : LockTable) → IsWhole d → (standing s d).wanted ≡ None → e.count ≡ d.count → standings e ≡ standings d → e.cells ≡ d.cells → HasCancelled s d e
same-cancelled s d e w idle count lockers cells =
    let stands = λ (u : ℕ). ap (standing_at u) lockers in
    record {
      count = count;
      idle = ap (λ (x : Standing). x.wanted) (stands s) ∙ idle;
      held = ap (λ (x : Standing). x.held) (stands s);
      transactions = λ u. ap (λ (x : Standing). x.transaction) (stands u);
      views = λ q. ap (λ cs. cell_view q cs.entries) cells ∙ sym (none-cancelled s d w idle q);
    }

-- a session is doomed once its request was cancelled
pub has-doomed : (s : ℕ) (d f e : LockTable) → HasCancelled s d f → e.count ≡ f.count → ((q : List ℕ) → view_at q e ≡ view_at q f)
    → ((u : ℕ) → (standing u e).transaction ≡ cond (eqb u s) (doom (standing s f).transaction) (standing u f).transaction) → HasDoomed s d e
has-doomed s d f e c count views transactions = record {
  count = count ∙ c.count;
  transactions = λ u. transactions u ∙ go u (eqb u s) refl;
  views = λ q. views q ∙ c.views q;
}
  where
    go : (u : ℕ) (b : Bool) → eqb u s ≡ b → cond b (doom (standing s f).transaction) (standing u f).transaction ≡ cond b (doom (standing u d).transaction) (standing u d).transaction
    go u true e = ap doom (c.transactions s ∙ ap (λ (i : ℕ). (standing i d).transaction) (sym ((Decides-eqb u s).0 e)))
    go u false e = c.transactions u

-- a transaction that its locker changes is that of the session's standing
pub changed-each : (after : Option Transaction → Option Transaction) (f : LockTable) (s : ℕ) {i : ℕ} (locker : Locker) (o : Option Transaction) → IsPositionOf s i f.lockers.items → locker ≡ get_or f.lockers.items i locker → o ≡ after locker.transaction
    → (e : LockTable) → ((u : ℕ) → (standing u e).transaction ≡ cond (eqb u s) o (standing u f).transaction) → (u : ℕ) → (standing u e).transaction ≡ cond (eqb u s) (after (standing s f).transaction) (standing u f).transaction
changed-each after f s {i} locker o lt at is e h u = h u ∙ ap (λ (x : Option Transaction). cond (eqb u s) x (standing u f).transaction) (is ∙ ap (λ (x : Standing). after x.transaction) (sym (standing-here f.lockers.items s locker lt at)))

-- the same, with the session named by the other number
pub changed-there : (after : Option Transaction → Option Transaction) (f : LockTable) (s u : ℕ) → cond (eqb u s) (after (standing s f).transaction) (standing u f).transaction ≡ cond (eqb u s) (after (standing u f).transaction) (standing u f).transaction
changed-there after f s u = go (eqb u s) refl
  where
    go : (b : Bool) → eqb u s ≡ b → cond b (after (standing s f).transaction) (standing u f).transaction ≡ cond b (after (standing u f).transaction) (standing u f).transaction
    go true e = ap (λ (i : ℕ). after (standing i f).transaction) (sym ((Decides-eqb u s).0 e))
    go false e = refl
