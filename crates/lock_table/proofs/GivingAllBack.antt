-- A session gives back all its locks, the last one first.
use Rattle.std.proofs.Common.{◌≡◌, ℕ, Bool, true, false, cond, inl, inr, List, [], ◌∷◌, ◌++◌, get_or, set, None, refl, sym, ◌∙◌, ap, subst, length, vec_len}
use Rattle.std.proofs.lemmas.Bool.{or_right}
use Rattle.lock_tree.specs.Paths.{same_path}
use Rattle.lock_rules.proofs.Lists.{same_path-refl, same_path_tells}
use Rattle.lock_table.specs.declared.cells.GivenUp.TheVariants as claim
use Rattle.lock_table.specs.declared.lockers.Locker.{Locker}
use Rattle.lock_table.specs.declared.table.LockTable.{LockTable}
use Rattle.lock_table.specs.inner.Cells.{View, view_after_giving_up, view_after_freeing, CellsBecame}
use Rattle.lock_holders.specs.SessionModes.{has_session}
use Rattle.session_locks.specs.Resources.{has_path, AreApart}
use Rattle.lock_table.specs.inner.Requests.{wanted_in}
use Rattle.lock_table.specs.inner.Lockers.{Standing, standing_of, standings_of, AreSameOrGranted, DoAgree}
use Rattle.lock_table.specs.Changes.{view_at, standings, standing, view_after_unlock, IsWhole, DoesKeep, HasGivenBack, HasGivenBackAll}
use Rattle.lock_table.specs.inner.Blocking.{DoFollow}
use Rattle.lock_table.specs.Ready.{IsReadyTable}
use Rattle.lock_table.proofs.LockerStandings.{IsPositionOf, standing-here}
use Rattle.session_locks.proofs.ResourceLists.{apart-pop, has_path-push, has_path-push_other}
use Rattle.lock_table.proofs.Agreement.{apart-at, GivesUp}
use Rattle.lock_table.proofs.GivingUp.{gives-last, freed-agree, freed-own, has-freed, freed-keeps}

-- the last lock is given back

module _ (d : LockTable) (s : ℕ) (r : List ℕ) (locker new : Locker) (w : IsWhole d) {i : ℕ} (lt : IsPositionOf s i d.lockers.items) (at : locker ≡ get_or d.lockers.items i locker)
    (pops : locker.held.items ≡ new.held.items ++ r ∷ []) (transaction : new.transaction ≡ locker.transaction) (wanted : new.wanted ≡ locker.wanted) (idle : (standing s d).wanted ≡ None) where
  waits-not : (standing_of locker).wanted ≡ None
  waits-not = ap (λ (x : Standing). x.wanted) (sym (standing-here d.lockers.items s locker lt at)) ∙ idle

  gives : GivesUp claim.Lock r (standing_of locker) (standing_of new)
  gives = gives-last r (standing_of locker) (standing_of new) locker.apart transaction (ap wanted_in wanted) pops

  -- the locker without the lock agrees with the cell that its holder has left
  pub back-agree : DoAgree r (view_after_giving_up claim.Lock s (view_at r d)) (standings_of (set d.lockers.items i new))
  back-agree = freed-agree d claim.Lock s r locker new lt at gives w

  module _ (e : LockTable) (count : e.count ≡ d.count)
      (b : CellsBecame r (view_after_freeing claim.Lock s (view_at r d)) d.cells.entries e.cells.entries) (agree : DoAgree r (view_after_freeing claim.Lock s (view_at r d)) (standings e)) (granted : AreSameOrGranted r (standings_of (set d.lockers.items i new)) (standings e)) where
    none-left : (standing_of new).wanted ≡ None
    none-left = ap wanted_in wanted ∙ waits-not

    own : standing s e ≡ standing_of new
    own = freed-own d claim.Lock s r locker new lt at gives w e none-left b agree granted

    -- the change is that of a lock given back
    pub back-gives : HasGivenBack s d e
    back-gives = record {
      resource = r;
      held = ap (λ (x : Standing). x.held) (standing-here d.lockers.items s locker lt at) ∙ (pops ∙ sym (ap (λ (x : Standing). x.held ++ r ∷ []) own));
      idle = ap (λ (x : Standing). x.wanted) own ∙ none-left;
      freed = has-freed d claim.Lock s r locker new lt at gives w e none-left b agree granted count;
    }

    -- the lock table is whole, and the waits-for rows are right
    pub back-keeps : vec_len e.lockers ≡ vec_len d.lockers → length e.ended.places ≡ length d.ended.places → DoFollow (view_at r d) (view_after_freeing claim.Lock s (view_at r d)) d.waits e.waits → IsReadyTable d → DoesKeep d e
    back-keeps len sized rows k = freed-keeps d claim.Lock s r locker new lt at gives w e none-left b agree granted len count sized rows k

-- lock after lock

-- nothing is given back yet
pub back-none : (s : ℕ) (d : LockTable) → IsWhole d → (standing s d).wanted ≡ None → HasGivenBackAll s d d
back-none s d w idle = record { count = refl; idle = idle; transactions = λ u. refl; views = λ q. go q (has_path q (standing s d).held) refl }
  where
    go : (q : List ℕ) (b : Bool) → has_path q (standing s d).held ≡ b → view_at q d ≡ cond b (view_at q d) (view_after_unlock s (view_at q d))
    go q true e = refl
    go q false e = sym (ap (λ (c : Bool). cond c (view_after_freeing claim.Lock s (view_at q d)) (view_at q d)) (sym ((w.agree q).held s) ∙ e))

-- one more lock is given back
pub back-more : (s : ℕ) (d e f : LockTable) → IsWhole e → HasGivenBackAll s d e → HasGivenBack s e f → HasGivenBackAll s d f
back-more s d e f w h g = record {
  count = g.freed.count ∙ h.count;
  idle = g.idle;
  transactions = λ u. g.freed.transactions u ∙ h.transactions u;
  views = λ q. elim (same_path_tells g.resource q) [
    | inl k ↦ here q k.0 k.1
    | inr k ↦ g.freed.views q ∙ (ap (λ (b : Bool). cond b (view_after_freeing claim.Lock s (view_at g.resource e)) (view_at q e)) k
        ∙ (h.views q ∙ ap (λ (b : Bool). cond b (view_at q d) (view_after_unlock s (view_at q d))) (ap (has_path q) g.held ∙ has_path-push_other q g.resource (standing s f).held k)))
  ];
}
  where
    gone : has_path g.resource (standing s f).held ≡ false
    gone = (apart-pop (standing s f).held g.resource (subst AreApart g.held (apart-at e.lockers.items s))).1

    had : has_path g.resource (standing s e).held ≡ true
    had = ap (has_path g.resource) g.held ∙ (has_path-push g.resource g.resource (standing s f).held ∙ or_right (has_path g.resource (standing s f).held) (same_path g.resource g.resource) (same_path-refl g.resource))

    before : view_at g.resource e ≡ view_at g.resource d
    before = h.views g.resource ∙ ap (λ (b : Bool). cond b (view_at g.resource d) (view_after_unlock s (view_at g.resource d))) had

    holds : has_session s (view_at g.resource d).holders ≡ true
    holds = ap (λ (v : View). has_session s v.holders) (sym before) ∙ (sym ((w.agree g.resource).held s) ∙ had)

    at-it : view_at g.resource f ≡ cond (has_path g.resource (standing s f).held) (view_at g.resource d) (view_after_unlock s (view_at g.resource d))
    at-it =
        g.freed.views g.resource ∙ (ap (λ (b : Bool). cond b (view_after_freeing claim.Lock s (view_at g.resource e)) (view_at g.resource e)) (same_path-refl g.resource)
        ∙ (ap (λ (v : View). view_after_freeing claim.Lock s v) before
        ∙ sym (ap (λ (b : Bool). cond b (view_at g.resource d) (view_after_unlock s (view_at g.resource d))) gone
        ∙ ap (λ (b : Bool). cond b (view_after_freeing claim.Lock s (view_at g.resource d)) (view_at g.resource d)) holds)))

    here : (q : List ℕ) → same_path g.resource q ≡ true → g.resource ≡ q → view_at q f ≡ cond (has_path q (standing s f).held) (view_at q d) (view_after_unlock s (view_at q d))
    here q t e = subst (λ (p : List ℕ). view_at p f ≡ cond (has_path p (standing s f).held) (view_at p d) (view_after_unlock s (view_at p d))) e at-it
