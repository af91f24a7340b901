-- A session asks: the lock table stays whole, and shows what the reply says.
use Rattle.std.proofs.Common.{◌≡◌, ℕ, zero, suc, ◌-◌, ◌<◌, Bool, true, false, cond, eqb, inl, inr, List, [], ◌∷◌, ◌++◌, length, get_or, set, None, is_some, refl, sym, ◌∙◌, ap, arith, subst}
use Rattle.std.specs.Prelude.{vec_len}
use Rattle.std.proofs.lemmas.Bool.Decides.{Decides-eqb}
use Rattle.std.proofs.lemmas.List.{get_or-set_same}
use Rattle.std.proofs.lemmas.Bool.{cases_Bool}
use Rattle.lock_modes.specs.declared.Mode.{Mode}
use Rattle.lock_table.specs.declared.lockers.Locker.{Locker}
use Rattle.lock_table.specs.declared.table.LockTable.{LockTable}
use Rattle.lock_table.specs.inner.Cells.{View, can_grant, view_after_asking, CellsBecame}
use Rattle.lock_holders.specs.SessionModes.{has_session}
use Rattle.session_locks.specs.Resources.{has_path}
use Rattle.lock_tree.specs.Paths.{parent_of}
use Rattle.session_locks.specs.LockLists.{IsUnder}
use Rattle.lock_table.specs.inner.Lockers.{Standing, standing_of, standings_of, standing_at, is_wanted, standing_after_asking, DoAgree}
use Rattle.lock_table.specs.Changes.{view_at, standings, standing, mode_held, IsWhole, DoesKeep, IsSession, IsSameSeen, HasAsked}
use Rattle.lock_table.specs.inner.Blocking.{DoFollow}
use Rattle.lock_table.specs.Ready.{IsReadyTable}
use Rattle.lock_table.proofs.RowsOfTheTable.{ready-follow}
use Rattle.lock_holders.proofs.SessionModes.{mode-has}
use Rattle.lock_table.proofs.LockerStandings.{IsPositionOf, standings-set, standing-here, length-standings}
use Rattle.lock_table.proofs.CellTable.{same-view}
use Rattle.lock_table.proofs.Agreement.{own-standing, other-standing, standings-same, all-agree, asked-agree, asked-other}

-- a session that doesn't wait is in no queue
pub idle-there : (s : ℕ) (r : List ℕ) (d : LockTable) → IsWhole d → (standing s d).wanted ≡ None → has_session s (view_at r d).waiting ≡ false
idle-there s r d w idle = sym ((w.agree r).wanted s) ∙ ap (is_wanted r) idle

-- a session holds a resource in its locker exactly if it is among the holders
pub held-locker : (s : ℕ) (r : List ℕ) (d : LockTable) → IsWhole d → has_path r (standing s d).held ≡ is_some (mode_held d s r)
held-locker s r d w = (w.agree r).held s ∙ sym (mode-has s (view_at r d).holders)

-- a session has a locker, at its index
pub within : (d : LockTable) (s : ℕ) {i : ℕ} → i ≡ s - 1 → IsSession s d → IsPositionOf s i d.lockers.items
within d s is h = record { session = omega (arith, is, h.some); within = omega (arith, is, h.some, h.within, d.lockers.ok.0) }

-- and still has after an operation
pub session-on : {s : ℕ} {d e : LockTable} → DoesKeep d e → IsSession s d → IsSession s e
session-on k h = record { some = h.some; within = omega (arith, h.within, k.lockers) }

-- writing a standing that is there changes nothing
set-there : (ss : List Standing) (s : ℕ) → set ss s (standing_at s ss) ≡ ss
set-there [] s = refl
set-there (x ∷ ss) zero = refl
set-there (x ∷ ss) (suc s) = ap (λ (xs : List Standing). x ∷ xs) (set-there ss s)

-- a locker that got room says the same
module _ (d : LockTable) (s : ℕ) (locker new : Locker) (w : IsWhole d) {i : ℕ} (lt : IsPositionOf s i d.lockers.items) (at : locker ≡ get_or d.lockers.items i locker) (same : standing_of new ≡ standing_of locker) where
  seen-again : (r : List ℕ) (e : LockTable) → CellsBecame r (view_at r d) d.cells.entries e.cells.entries → (q : List ℕ) → view_at q e ≡ view_at q d
  seen-again r e b q = b.views q ∙ sym (same-view r q d.cells.entries)

  module _ (r : List ℕ) (e : LockTable) (count : e.count ≡ d.count) (lockers : e.lockers.items ≡ set d.lockers.items i new) (ended : e.ended ≡ d.ended) (b : CellsBecame r (view_at r d) d.cells.entries e.cells.entries) where
    standings-again : standings e ≡ standings d
    standings-again = ap standings_of lockers ∙ standings-same d.lockers.items s locker new lt at same

    -- nothing visible has changed
    pub room-same : IsSameSeen d e
    room-same = record { count = count; standings_same = standings-again; views = seen-again r e b; ended = ended }

    -- and the lock table is whole
    pub room-whole : IsWhole e
    room-whole = record {
      cells = b.kept;
      agree = λ x. subst (λ (v : View). DoAgree x v (standings e)) (sym (seen-again r e b x)) (subst (DoAgree x (view_at x d)) (sym standings-again) (w.agree x));
    }

  -- the session holds what it held
  pub mid-held : (r : List ℕ) (mid : Locker) → mid ≡ get_or (set d.lockers.items i new) i mid → has_path r mid.held.items ≡ has_path r (standing s d).held
  mid-held r mid at-mid = ap (λ (x : Standing). has_path r x.held) (ap standing_of (at-mid ∙ get_or-set_same d.lockers.items i new mid lt.within) ∙ (same ∙ sym (standing-here d.lockers.items s locker lt at)))

  -- and so the parent of what it asks for is held
  pub mid-under : (r : List ℕ) (mid : Locker) → mid ≡ get_or (set d.lockers.items i new) i mid → IsUnder (standing s d).held r → IsUnder mid.held.items r
  mid-under r mid at-mid u has = mid-held (parent_of r) mid at-mid ∙ u has

  -- the same locker is then written once more
  module _ (r : List ℕ) (granted : Bool) (mid last : Locker) (items : List Locker) (at-mid : mid ≡ get_or (set d.lockers.items i new) i mid) (then : standing_of last ≡ standing_after_asking granted r (standing_of mid))
      (lockers : items ≡ set (set d.lockers.items i new) i last) where
    mid-new : mid ≡ new
    mid-new = at-mid ∙ get_or-set_same d.lockers.items i new mid lt.within

    pub twice-own : standings_of items ≡ set (standings d) s (standing_after_asking granted r (standing s d))
    twice-own =
        ap standings_of lockers ∙ (standings-set (set d.lockers.items i new) s last lt.session
        ∙ (ap (λ (ss : List Standing). set ss s (standing_of last)) (standings-same d.lockers.items s locker new lt at same)
        ∙ ap (λ (x : Standing). set (standings d) s x) (then ∙ ap (standing_after_asking granted r) (ap standing_of mid-new ∙ (same ∙ sym (standing-here d.lockers.items s locker lt at))))))

-- a locker is written once
pub once-own : (d : LockTable) (s : ℕ) {i : ℕ} (r : List ℕ) (locker last : Locker) (items : List Locker) (granted : Bool) → IsPositionOf s i d.lockers.items → locker ≡ get_or d.lockers.items i locker → standing_of last ≡ standing_after_asking granted r (standing_of locker) → items ≡ set d.lockers.items i last
    → standings_of items ≡ set (standings d) s (standing_after_asking granted r (standing s d))
once-own d s r locker last items granted lt at then lockers =
    ap standings_of lockers ∙ (standings-set d.lockers.items s last lt.session ∙ ap (λ (x : Standing). set (standings d) s x) (then ∙ ap (standing_after_asking granted r) (sym (standing-here d.lockers.items s locker lt at))))

-- or not at all, if the resource is held already
pub never-own : (d : LockTable) (s : ℕ) (r : List ℕ) → has_path r (standing s d).held ≡ true → (standing s d).wanted ≡ None → standings d ≡ set (standings d) s (standing_after_asking true r (standing s d))
never-own d s r held idle =
    sym (set-there (standings d) s)
    ∙ ap (λ (x : Standing). set (standings d) s x) (λ i. record {
      transaction = (standing s d).transaction;
      held = sym (ap (λ (b : Bool). cond b (standing s d).held ((standing s d).held ++ r ∷ [])) held) i;
      wanted = idle i;
    })

-- a cell that got room says the same

pub there-same : (r : List ℕ) (d e : LockTable) → e.count ≡ d.count → e.lockers ≡ d.lockers → e.ended ≡ d.ended → CellsBecame r (view_at r d) d.cells.entries e.cells.entries → IsSameSeen d e
there-same r d e count lockers ended b = record { count = count; standings_same = ap (λ v. standings_of v.items) lockers; views = λ q. b.views q ∙ sym (same-view r q d.cells.entries); ended = ended }

pub there-whole : (r : List ℕ) (d e : LockTable) → e.count ≡ d.count → e.lockers ≡ d.lockers → e.ended ≡ d.ended → CellsBecame r (view_at r d) d.cells.entries e.cells.entries → IsWhole d → IsWhole e
there-whole r d e count lockers ended b w =
    let same = there-same r d e count lockers ended b in
    record {
      cells = b.kept;
      agree = λ x. subst (λ (v : View). DoAgree x v (standings e)) (sym (same.views x)) (subst (DoAgree x (view_at x d)) (sym same.standings_same) (w.agree x));
    }

-- the session has asked
module _ (d : LockTable) (s : ℕ) (r : List ℕ) (m : Mode) (granted : Bool) (e : LockTable) (w : IsWhole d) {i : ℕ} (lt : IsPositionOf s i d.lockers.items) (idle : (standing s d).wanted ≡ None) (is : granted ≡ can_grant (record { session = s; mode = m }) (view_at r d))
    (own : standings e ≡ set (standings d) s (standing_after_asking granted r (standing s d))) (b : CellsBecame r (view_after_asking (record { session = s; mode = m }) (view_at r d)) d.cells.entries e.cells.entries) where
  long : s < length (standings d)
  long = omega (arith, lt.session, lt.within, length-standings d.lockers.items)

  asked-transaction : (g : Bool) (x : Standing) → (standing_after_asking g r x).transaction ≡ x.transaction
  asked-transaction true x = refl
  asked-transaction false x = refl

  -- the change is that of the request
  pub has-asked : e.count ≡ d.count → HasAsked s r m granted d e
  has-asked count = record {
    granted_is = is;
    count = count;
    transactions = λ u. ap (λ (ss : List Standing). (standing_at u ss).transaction) own ∙ elim (cases_Bool (eqb s u)) [
      | inl h ↦ let f = (Decides-eqb s u).0 h in
          subst (λ (i : ℕ). (standing_at i (set (standings d) s (standing_after_asking granted r (standing s d)))).transaction ≡ (standing i d).transaction) f
          (ap (λ (x : Standing). x.transaction) (own-standing (standings d) s (standing_after_asking granted r (standing s d)) long) ∙ asked-transaction granted (standing s d))
      | inr h ↦ ap (λ (x : Standing). x.transaction) (other-standing (standings d) s u (standing_after_asking granted r (standing s d)) h)
    ];
    views = b.views;
  }

  -- and the lock table is whole
  pub asked-whole : IsWhole e
  asked-whole = record {
    cells = b.kept;
    agree = all-agree r (view_after_asking (record { session = s; mode = m }) (view_at r d)) d e b.views
        (subst (DoAgree r (view_after_asking (record { session = s; mode = m }) (view_at r d))) (sym own) (asked-agree (standings d) s r (record { session = s; mode = m }) long refl idle (view_at r d) granted is (w.agree r)))
        (λ x n. subst (DoAgree x (view_at x d)) (sym own) (asked-other (standings d) s r (record { session = s; mode = m }) long refl x (view_at x d) granted n idle (w.agree x)));
  }

  -- and the waits-for rows are right, if they follow the cell
  pub asked-keeps : vec_len e.lockers ≡ vec_len d.lockers → e.count ≡ d.count → length e.ended.places ≡ length d.ended.places → DoFollow (view_at r d) (view_after_asking (record { session = s; mode = m }) (view_at r d)) d.waits e.waits → IsReadyTable d → DoesKeep d e
  asked-keeps len count sized rows k =
      let whole = asked-whole in
      record { whole = whole; lockers = len; ready = ready-follow r (view_after_asking (record { session = s; mode = m }) (view_at r d)) d e w whole b.views len sized (has-asked count).transactions rows k }
