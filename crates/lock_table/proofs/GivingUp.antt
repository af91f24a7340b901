-- A session gives up one lock, wherever it is in its list, or its request.
use Rattle.std.proofs.Common.{◌≡◌, ℕ, ◌+◌, ◌<◌, Bool, true, false, cond, not, eqb, ◌⊎◌, inl, inr, List, [], ◌∷◌, ◌++◌, length, get_or, set, Some, None, refl, sym, ◌∙◌, ap, arith, subst, vec_len}
use Rattle.std.proofs.lemmas.Bool.{or_parts, cases_Bool}
use Rattle.std.proofs.lemmas.Bool.Decides.{Decides-eqb}
use Rattle.lock_tree.specs.Paths.{same_path}
use Rattle.lock_rules.proofs.Lists.{same_path_tells}
use Rattle.lock_table.specs.declared.cells.GivenUp.{GivenUp}
use Rattle.lock_table.specs.declared.cells.GivenUp.TheVariants as claim
use Rattle.lock_table.specs.declared.lockers.Locker.{Locker}
use Rattle.lock_table.specs.declared.table.LockTable.{LockTable}
use Rattle.lock_table.specs.inner.Cells.{view_after_giving_up, view_after_freeing, CellsBecame}
use Rattle.session_locks.specs.Resources.{has_path, AreApart}
use Rattle.lock_table.specs.inner.Lockers.{Standing, standing_of, standings_of, standing_at, is_wanted, paths_but, IsSameOrGranted, AreSameOrGranted, DoAgree}
use Rattle.lock_table.specs.Changes.{view_at, standings, standing, IsWhole, DoesKeep, HasFreed}
use Rattle.lock_table.specs.inner.Blocking.{DoFollow}
use Rattle.lock_table.specs.Ready.{IsReadyTable}
use Rattle.lock_table.proofs.RowsOfTheTable.{ready-follow}
use Rattle.lock_table.proofs.LockerStandings.{IsPositionOf, standings-set, standing-here, length-standings}
use Rattle.session_locks.proofs.ResourceLists.{apart-pop, has_path-push_other}
use Rattle.lock_table.proofs.Agreement.{own-standing, other-standing, all-agree, GivesUp, given-agree, given-other, granted-other, not-granted}

-- a grant leaves the transaction as it is
transaction-granted : (r : List ℕ) (a b : Standing) → IsSameOrGranted r a b → b.transaction ≡ a.transaction
transaction-granted r a b (inl e) = ap (λ (x : Standing). x.transaction) e
transaction-granted r a b (inr e) = ap (λ (x : Standing). x.transaction) e.1

-- lists of resources without one

-- the resource is gone
pub gone-but : (r : List ℕ) (rs : List (List ℕ)) → has_path r (paths_but r rs) ≡ false
gone-but r [] = refl
gone-but r (p ∷ rs) = grind (arith, cases_Bool (same_path p r), gone-but r rs)

-- every other resource is there as before
pub other-but : (r x : List ℕ) (rs : List (List ℕ)) → same_path r x ≡ false → has_path x (paths_but r rs) ≡ has_path x rs
other-but r x [] h = refl
other-but r x (p ∷ rs) h = grind (arith, same_path_tells p r, cases_Bool (same_path p x), other-but r x rs h)

none-but : (x r : List ℕ) (rs : List (List ℕ)) → has_path x rs ≡ false → has_path x (paths_but r rs) ≡ false
none-but x r [] h = refl
none-but x r (p ∷ rs) h = let k = or_parts (same_path p x) (has_path x rs) h in grind (arith, cases_Bool (same_path p r), none-but x r rs k.1)

-- no resource is there twice
pub apart-but : (r : List ℕ) (rs : List (List ℕ)) → AreApart rs → AreApart (paths_but r rs)
apart-but r [] a = tt
apart-but r (p ∷ rs) a = go (same_path p r) (apart-but r rs a.1)
  where
    go : (b : Bool) → AreApart (paths_but r rs) → AreApart (cond (not b) (p ∷ paths_but r rs) (paths_but r rs))
    go true rest = rest
    go false rest = (none-but p r rs a.0, rest)

same-but : (r : List ℕ) (rs : List (List ℕ)) → has_path r rs ≡ false → paths_but r rs ≡ rs
same-but r [] h = refl
same-but r (p ∷ rs) h = let k = or_parts (same_path p r) (has_path r rs) h in grind (arith, same-but r rs k.1)

-- if it was there, they are one less
pub less-but : (r : List ℕ) (rs : List (List ℕ)) → AreApart rs → has_path r rs ≡ true → length (paths_but r rs) + 1 ≡ length rs
less-but r [] a h = absurd (cc)
less-but r (p ∷ rs) a h = go (same_path_tells p r) (less-but r rs a.1)
  where
    go : ((same_path p r ≡ true) × (p ≡ r)) ⊎ (same_path p r ≡ false) → (has_path r rs ≡ true → length (paths_but r rs) + 1 ≡ length rs) → length (paths_but r (p ∷ rs)) + 1 ≡ length (p ∷ rs)
    go (inl e) next = let n = same-but r rs (subst (λ (q : List ℕ). has_path q rs ≡ false) e.1 a.0) in let l = ap length n in let t = e.0 in grind (arith)
    go (inr e) next = grind (arith)

-- one session gives up a claim

module _ (d : LockTable) (p : GivenUp) (s : ℕ) (r : List ℕ) (locker new : Locker) {i : ℕ} (lt : IsPositionOf s i d.lockers.items) (at : locker ≡ get_or d.lockers.items i locker) (gives : GivesUp p r (standing_of locker) (standing_of new)) (w : IsWhole d) where
  long : s < length (standings d)
  long = omega (arith, lt.session, lt.within, length-standings d.lockers.items)

  mid : standings_of (set d.lockers.items i new) ≡ set (standings d) s (standing_of new)
  mid = standings-set d.lockers.items s new lt.session

  here : GivesUp p r (standing s d) (standing_of new)
  here = subst (λ (x : Standing). GivesUp p r x (standing_of new)) (sym (standing-here d.lockers.items s locker lt at)) gives

  -- its locker agrees with the cell it has left
  pub freed-agree : DoAgree r (view_after_giving_up p s (view_at r d)) (standings_of (set d.lockers.items i new))
  freed-agree = subst (DoAgree r (view_after_giving_up p s (view_at r d))) (sym mid) (given-agree (standings d) p s r (standing_of new) long here (view_at r d) (w.agree r))

  module _ (e : LockTable) (idle : (standing_of new).wanted ≡ None) (b : CellsBecame r (view_after_freeing p s (view_at r d)) d.cells.entries e.cells.entries)
      (agree : DoAgree r (view_after_freeing p s (view_at r d)) (standings e)) (granted : AreSameOrGranted r (standings_of (set d.lockers.items i new)) (standings e)) where
    granted-mid : AreSameOrGranted r (set (standings d) s (standing_of new)) (standings e)
    granted-mid = subst (λ (ss : List Standing). AreSameOrGranted r ss (standings e)) mid granted

    own-mid : standing_at s (set (standings d) s (standing_of new)) ≡ standing_of new
    own-mid = own-standing (standings d) s (standing_of new) long

    -- the standing of the session is what its locker says
    pub freed-own : standing s e ≡ standing_of new
    freed-own = not-granted r _ (standing s e) (ap (λ (x : Standing). x.wanted) own-mid ∙ idle) (granted-mid s) ∙ own-mid

    -- the change is that of a claim that is freed
    pub has-freed : e.count ≡ d.count → HasFreed p s r d e
    has-freed count = record {
      count = count;
      transactions = λ u. elim (cases_Bool (eqb s u)) [
        | inl h ↦ let f = (Decides-eqb s u).0 h in subst (λ (i : ℕ). (standing i e).transaction ≡ (standing i d).transaction) f (ap (λ (x : Standing). x.transaction) freed-own ∙ here.transaction)
        | inr h ↦ transaction-granted r _ (standing u e) (granted-mid u) ∙ ap (λ (x : Standing). x.transaction) (other-standing (standings d) s u (standing_of new) h)
      ];
      views = b.views;
    }

    -- and the lock table is whole
    pub freed-whole : IsWhole e
    freed-whole = record {
      cells = b.kept;
      agree = all-agree r (view_after_freeing p s (view_at r d)) d e b.views agree (λ x n. granted-other r x (view_at x d) _ (standings e) n granted-mid (given-other (standings d) p s r (standing_of new) long here x n (view_at x d) (w.agree x)));
    }

    -- and the waits-for rows are right, if they follow the cell
    pub freed-keeps : vec_len e.lockers ≡ vec_len d.lockers → e.count ≡ d.count → length e.ended.places ≡ length d.ended.places → DoFollow (view_at r d) (view_after_freeing p s (view_at r d)) d.waits e.waits → IsReadyTable d → DoesKeep d e
    freed-keeps len count sized rows k = record { whole = freed-whole; lockers = len; ready = ready-follow r (view_after_freeing p s (view_at r d)) d e w freed-whole b.views len sized (has-freed count).transactions rows k }

-- what is given up

-- a lock that is removed from the locker
pub gives-lock : (r : List ℕ) (x y : Standing) → y.transaction ≡ x.transaction → y.wanted ≡ x.wanted → has_path r y.held ≡ false → ((q : List ℕ) → same_path r q ≡ false → has_path q y.held ≡ has_path q x.held) → GivesUp claim.Lock r x y
gives-lock r x y t w gone others = record {
  transaction = t;
  held = gone;
  wanted = ap (is_wanted r) w;
  held_elsewhere = others;
  wanted_elsewhere = λ q n. ap (is_wanted q) w;
}

-- the last lock
pub gives-last : (r : List ℕ) (x y : Standing) → AreApart x.held → y.transaction ≡ x.transaction → y.wanted ≡ x.wanted → x.held ≡ y.held ++ r ∷ [] → GivesUp claim.Lock r x y
gives-last r x y apart t w h = record {
  transaction = t;
  held = (apart-pop y.held r (subst AreApart h apart)).1;
  wanted = ap (is_wanted r) w;
  held_elsewhere = λ q n. sym (ap (has_path q) h ∙ has_path-push_other q r y.held n);
  wanted_elsewhere = λ q n. ap (is_wanted q) w;
}

-- the request
pub gives-request : (r : List ℕ) (x y : Standing) → y.transaction ≡ x.transaction → y.held ≡ x.held → x.wanted ≡ Some r → y.wanted ≡ None → GivesUp claim.Request r x y
gives-request r x y t h w n = record {
  transaction = t;
  held = ap (has_path r) h;
  wanted = ap (is_wanted r) n;
  held_elsewhere = λ q k. ap (has_path q) h;
  wanted_elsewhere = λ q k. ap (is_wanted q) n ∙ sym (ap (is_wanted q) w ∙ k);
}
