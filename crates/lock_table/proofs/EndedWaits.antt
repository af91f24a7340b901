-- Which sessions are listed because their wait has ended, after each change of the lockers.
use Rattle.std.proofs.Common.{◌≡◌, ℕ, zero, suc, Bool, true, false, not, eqb, ◌&&◌, ◌||◌, List, length, get_or, set, None, is_some, refl, sym, ◌∙◌, ap, arith, subst}
use Rattle.std.proofs.Math.Bool.{or-false}
use Rattle.std.proofs.lemmas.Bool.Decides.{Decides-eqb}
use Rattle.lock_rules.proofs.Sound.{eqb-swap}
use Rattle.lock_rules.specs.State.{State}
use Rattle.lock_table.specs.declared.lockers.Locker.{Locker}
use Rattle.lock_table.specs.declared.table.LockTable.{LockTable}
use Rattle.lock_table.specs.inner.Requests.{wanted_in}
use Rattle.lock_table.specs.inner.Lockers.{Standing, standing_of, standings_of, standing_at}
use Rattle.lock_holders.specs.Woken.{WokenListView, is_ended}
use Rattle.lock_table.specs.inner.Ended.{waits_at, DoNoteEnded}
use Rattle.lock_table.specs.Changes.{with_ended, IsWhole, DoesKeep, IsSameSeen, HasNotedEnded, HasCancelled}
use Rattle.lock_table.specs.Ready.{IsReadyTable}
use Rattle.lock_table.specs.Shows.{Shows}
use Rattle.lock_holders.proofs.EndedList.{eqb-apart}
use Rattle.lock_table.proofs.LockerStandings.{IsPositionOf, standings-set, standing-here, length-standings}
use Rattle.lock_table.proofs.Agreement.{own-standing, other-standing}

-- one locker is written

-- whether another session waits doesn't change
pub waits-other : (ws : List Locker) (s u : ℕ) {i : ℕ} (new : Locker) → suc i ≡ s → eqb u s ≡ false → waits_at u (set ws i new) ≡ waits_at u ws
waits-other ws s u new e n =
    ap (λ (ss : List Standing). is_some (standing_at u ss).wanted) (standings-set ws s new e)
    ∙ ap (λ (x : Standing). is_some x.wanted) (other-standing (standings_of ws) s u (standing_of new) (eqb-swap u s n))

-- its own session waits as the new locker says
pub waits-own : (ws : List Locker) (s : ℕ) {i : ℕ} (new : Locker) → IsPositionOf s i ws → waits_at s (set ws i new) ≡ is_some (wanted_in new.wanted)
waits-own ws s new p =
    ap (λ (ss : List Standing). is_some (standing_at s ss).wanted) (standings-set ws s new p.session)
    ∙ ap (λ (x : Standing). is_some x.wanted) (own-standing (standings_of ws) s (standing_of new) (omega (arith, p.session, p.within, length-standings ws)))

-- the list is unchanged

-- no other session has begun or ceased to wait
pub list-same : (s : ℕ) (old new : List Locker) (a : WokenListView) → ((u : ℕ) → eqb u s ≡ false → waits_at u new ≡ waits_at u old) → DoNoteEnded s old new a a
list-same s old new a h = record { sized = refl; waits_ended = λ u. go u (eqb u s) refl; waits = λ u n w. sym (h u n) ∙ w }
  where
    still : (x o n : Bool) → n ≡ o → x ≡ (x || (true && (o && not n)))
    still true o n e = refl
    still false true true e = refl
    still false true false e = absurd (cc)
    still false false n e = refl

    go : (u : ℕ) (b : Bool) → eqb u s ≡ b → is_ended a u ≡ (is_ended a u || (not b && (waits_at u old && not (waits_at u new))))
    go u true e = sym (or-false (is_ended a u))
    go u false e = still (is_ended a u) (waits_at u old) (waits_at u new) (h u e)

-- nothing has changed
pub list-none : (s : ℕ) (ws : List Locker) (a : WokenListView) → DoNoteEnded s ws ws a a
list-none s ws a = list-same s ws ws a (λ u n. refl)

-- the standings are unchanged
pub list-standings : (s : ℕ) (old new : List Locker) (a : WokenListView) → standings_of new ≡ standings_of old → DoNoteEnded s old new a a
list-standings s old new a e = list-same s old new a (λ u n. ap (λ (ss : List Standing). is_some (standing_at u ss).wanted) e)

-- the session's own locker is written
pub list-own : (s : ℕ) (ws : List Locker) {i : ℕ} (new : Locker) (a : WokenListView) → suc i ≡ s → DoNoteEnded s ws (set ws i new) a a
list-own s ws new a e = list-same s ws (set ws _ new) a (λ u n. waits-other ws s u new e n)

-- a locker is written that waits as before
pub list-wanted : (t s : ℕ) (ws : List Locker) {i : ℕ} (locker new : Locker) (a : WokenListView) → IsPositionOf s i ws → locker ≡ get_or ws i locker → new.wanted ≡ locker.wanted → DoNoteEnded t ws (set ws i new) a a
list-wanted t s ws {i} locker new a p at same = list-same t ws (set ws i new) a (λ u n. go u (eqb u s) refl)
  where
    go : (u : ℕ) (b : Bool) → eqb u s ≡ b → waits_at u (set ws i new) ≡ waits_at u ws
    go u true e =
        subst (λ (v : ℕ). waits_at v (set ws i new) ≡ waits_at v ws) (sym ((Decides-eqb u s).0 e))
        (waits-own ws s new p ∙ (ap (λ o. is_some (wanted_in o)) same ∙ sym (ap (λ (x : Standing). is_some x.wanted) (standing-here ws s locker p at))))
    go u false e = waits-other ws s u new p.session e

-- changes one after another

pub list-on : (s : ℕ) (old mid new : List Locker) (a b c : WokenListView) → DoNoteEnded s old mid a b → DoNoteEnded s mid new b c → DoNoteEnded s old new a c
list-on s old mid new a b c h k = record {
  sized = k.sized ∙ h.sized;
  waits_ended = λ u. k.waits_ended u ∙ (ap (λ (x : Bool). x || (not (eqb u s) && (waits_at u mid && not (waits_at u new)))) (h.waits_ended u)
      ∙ go (is_ended a u) (eqb u s) (waits_at u old) (waits_at u mid) (waits_at u new) (h.waits u) (k.waits u));
  waits = λ u n w. h.waits u n (k.waits u n w);
}
  where
    go : (x b o m n : Bool) → (b ≡ false → m ≡ true → o ≡ true) → (b ≡ false → n ≡ true → m ≡ true) → ((x || (not b && (o && not m))) || (not b && (m && not n))) ≡ (x || (not b && (o && not n)))
    go true b o m n f g = refl
    go false true o m n f g = refl
    go false false true true n f g = refl
    go false false true false true f g = absurd (let e = g refl refl in cc)
    go false false true false false f g = refl
    go false false false true n f g = absurd (let e = f refl refl in cc)
    go false false false false n f g = refl

-- the session's own locker is written twice
pub list-twice : (s : ℕ) (ws : List Locker) {i : ℕ} (new last : Locker) (a : WokenListView) → suc i ≡ s → DoNoteEnded s ws (set (set ws i new) i last) a a
list-twice s ws {i} new last a e = list-on s ws (set ws i new) (set (set ws i new) i last) a a a (list-own s ws new a e) (list-own s (set ws i new) last a e)

-- with nobody left out, and with one session left out

-- a number that isn't 0
not-none : (u : ℕ) → eqb (suc u) 0 ≡ false
not-none u = eqb-apart (suc u) 0 (λ e. absurd (omega (arith, e)))

-- session 0 doesn't wait
every : (old : List Locker) (n : Bool) (u : ℕ) → (not (eqb u 0) && (waits_at u old && not n)) ≡ (waits_at u old && not n)
every old n zero = refl
every old n (suc u) = ap (λ (b : Bool). not b && (waits_at (suc u) old && not n)) (not-none u)

-- who waits has waited before
waited-before : (old new : List Locker) (a b : WokenListView) → DoNoteEnded 0 old new a b → (u : ℕ) → waits_at u new ≡ true → waits_at u old ≡ true
waited-before old new a b h zero w = absurd (cc)
waited-before old new a b h (suc u) w = h.waits (suc u) (not-none u) w

-- the session that is left out did not wait
pub list-all : (s : ℕ) (old new : List Locker) (a b : WokenListView) → DoNoteEnded 0 old new a b → waits_at s old ≡ false → DoNoteEnded s old new a b
list-all s old new a b h idle = record {
  sized = h.sized;
  waits_ended = λ u. h.waits_ended u ∙ (ap (λ (x : Bool). is_ended a u || x) (every old (waits_at u new) u) ∙ go u (eqb u s) refl);
  waits = λ u n w. waited-before old new a b h u w;
}
  where
    go : (u : ℕ) (b : Bool) → eqb u s ≡ b → (is_ended a u || (waits_at u old && not (waits_at u new))) ≡ (is_ended a u || (not b && (waits_at u old && not (waits_at u new))))
    go u true e = ap (λ (x : Bool). is_ended a u || (x && not (waits_at u new))) (ap (λ (v : ℕ). waits_at v old) ((Decides-eqb u s).0 e) ∙ idle)
    go u false e = refl

-- a session's own locker is written, which doesn't wait then, and others are granted what they wait for
pub list-freed : (s : ℕ) (ws : List Locker) {i : ℕ} (new : Locker) (after : List Locker) (a b : WokenListView) → IsPositionOf s i ws → wanted_in new.wanted ≡ None → DoNoteEnded 0 (set ws i new) after a b → DoNoteEnded s ws after a b
list-freed s ws {i} new after a b p idle h = list-on s ws (set ws i new) after a a b (list-own s ws new a p.session) (list-all s (set ws i new) after a b h (waits-own ws s new p ∙ ap is_some idle))

-- one more session is listed, whose wait has ended
pub list-also : (s : ℕ) (old new : List Locker) (a b c : WokenListView) → DoNoteEnded s old new a b → waits_at s old ≡ true → waits_at s new ≡ false → length c.places ≡ length b.places → ((u : ℕ) → is_ended c u ≡ (is_ended b u || eqb u s)) → DoNoteEnded 0 old new a c
list-also s old new a b c h waited gone long adds = record {
  sized = long ∙ h.sized;
  waits_ended = λ u. adds u ∙ (ap (λ (x : Bool). x || eqb u s) (h.waits_ended u) ∙ (go u (eqb u s) refl ∙ ap (λ (x : Bool). is_ended a u || x) (sym (every old (waits_at u new) u))));
  waits = λ u n w. began u (eqb u s) refl w;
}
  where
    own : (x o n : Bool) → o ≡ true → n ≡ false → ((x || (not true && (o && not n))) || true) ≡ (x || (o && not n))
    own true o n e f = refl
    own false true false e f = refl
    own false true true e f = absurd (cc)
    own false false n e f = absurd (cc)

    go : (u : ℕ) (b : Bool) → eqb u s ≡ b → ((is_ended a u || (not b && (waits_at u old && not (waits_at u new)))) || b) ≡ (is_ended a u || (waits_at u old && not (waits_at u new)))
    go u true e =
        let is = (Decides-eqb u s).0 e in
        own (is_ended a u) (waits_at u old) (waits_at u new) (ap (λ (v : ℕ). waits_at v old) is ∙ waited) (ap (λ (v : ℕ). waits_at v new) is ∙ gone)
    go u false e = or-false (is_ended a u || (waits_at u old && not (waits_at u new)))

    began : (u : ℕ) (b : Bool) → eqb u s ≡ b → waits_at u new ≡ true → waits_at u old ≡ true
    began u true e w = ap (λ (v : ℕ). waits_at v old) ((Decides-eqb u s).0 e) ∙ waited
    began u false e w = h.waits u e w

-- the session that was left out did not wait before
pub list-idle : (s : ℕ) (old new : List Locker) (a b : WokenListView) → DoNoteEnded s old new a b → waits_at s old ≡ false → waits_at s new ≡ false → DoNoteEnded 0 old new a b
list-idle s old new a b h idle gone = record {
  sized = h.sized;
  waits_ended = λ u. h.waits_ended u ∙ (go u (eqb u s) refl ∙ ap (λ (x : Bool). is_ended a u || x) (sym (every old (waits_at u new) u)));
  waits = λ u n w. began u (eqb u s) refl w;
}
  where
    go : (u : ℕ) (b : Bool) → eqb u s ≡ b → (is_ended a u || (not b && (waits_at u old && not (waits_at u new)))) ≡ (is_ended a u || (waits_at u old && not (waits_at u new)))
    go u true e = ap (λ (x : Bool). is_ended a u || (x && not (waits_at u new))) (sym (ap (λ (v : ℕ). waits_at v old) ((Decides-eqb u s).0 e) ∙ idle))
    go u false e = refl

    began : (u : ℕ) (b : Bool) → eqb u s ≡ b → waits_at u new ≡ true → waits_at u old ≡ true
    began u true e w = absurd (let f = sym w ∙ (ap (λ (v : ℕ). waits_at v new) ((Decides-eqb u s).0 e) ∙ gone) in cc)
    began u false e w = h.waits u e w

-- a request is granted: its session waits no more, and is listed
pub list-granted : (s : ℕ) (ws : List Locker) {i : ℕ} (new : Locker) (a b : WokenListView) → IsPositionOf s i ws → waits_at s ws ≡ true → is_some (wanted_in new.wanted) ≡ false → length b.places ≡ length a.places → ((u : ℕ) → is_ended b u ≡ (is_ended a u || eqb u s)) → DoNoteEnded 0 ws (set ws i new) a b
list-granted s ws new a b p waited gone long adds = list-also s ws (set ws _ new) a a b (list-own s ws new a p.session) waited (waits-own ws s new p ∙ gone) long adds

-- the caller's own wait, which a victim's end or its own doom has ended, is listed no further than before
pub list-but : (s : ℕ) (old new : List Locker) (a b c : WokenListView) → DoNoteEnded 0 old new a b → (was : Bool) → was ≡ is_ended a s → length c.places ≡ length b.places
    → ((u : ℕ) → is_ended c u ≡ (is_ended b u && (was || not (eqb u s)))) → DoNoteEnded s old new a c
list-but s old new a b c h was is long takes = record {
  sized = long ∙ h.sized;
  waits_ended = λ u. takes u ∙ (ap (λ (x : Bool). x && (was || not (eqb u s))) (h.waits_ended u ∙ ap (λ (x : Bool). is_ended a u || x) (every old (waits_at u new) u)) ∙ go u (eqb u s) refl was is);
  waits = λ u n w. waited-before old new a b h u w;
}
  where
    apart : (x y w : Bool) → ((x || y) && (w || true)) ≡ (x || (true && y))
    apart true y true = refl
    apart true y false = refl
    apart false true true = refl
    apart false true false = refl
    apart false false w = refl

    own : (x y w : Bool) → w ≡ x → ((x || y) && (w || false)) ≡ (x || (false && y))
    own true y true e = refl
    own true y false e = absurd (cc)
    own false true true e = absurd (cc)
    own false true false e = refl
    own false false w e = refl

    go : (u : ℕ) (b : Bool) → eqb u s ≡ b → (w : Bool) → w ≡ is_ended a s
        → ((is_ended a u || (waits_at u old && not (waits_at u new))) && (w || not b)) ≡ (is_ended a u || (not b && (waits_at u old && not (waits_at u new))))
    go u true e w f = own (is_ended a u) (waits_at u old && not (waits_at u new)) w (f ∙ ap (is_ended a) (sym ((Decides-eqb u s).0 e)))
    go u false e w f = apart (is_ended a u) (waits_at u old && not (waits_at u new)) w

-- lock tables

pub waits_ended-none : (s : ℕ) (d : LockTable) → HasNotedEnded s d d
waits_ended-none s d = list-none s d.lockers.items d.ended

pub waits_ended-same : (s : ℕ) (d e : LockTable) → IsSameSeen d e → HasNotedEnded s d e
waits_ended-same s d e k = subst (λ (v : WokenListView). DoNoteEnded s d.lockers.items e.lockers.items d.ended v) (sym k.ended) (list-standings s d.lockers.items e.lockers.items d.ended k.standings_same)

pub waits_ended-on : (s : ℕ) (d f e : LockTable) → HasNotedEnded s d f → HasNotedEnded s f e → HasNotedEnded s d e
waits_ended-on s d f e h k = list-on s d.lockers.items f.lockers.items e.lockers.items d.ended f.ended e.ended h k

-- another list of ended waits is no other change

pub whole-relisted : (d : LockTable) (v : WokenListView) → IsWhole d → IsWhole (with_ended v d)
whole-relisted d v w = record { cells = w.cells; agree = w.agree }

pub ready-relisted : (d : LockTable) (v : WokenListView) → length v.places ≡ length d.ended.places → IsReadyTable d → IsReadyTable (with_ended v d)
ready-relisted d v long k = record { long = k.long; ready = k.ready; waits_ended = long ∙ k.waits_ended; filled = k.filled }

pub keeps-relisted : (d e : LockTable) (v : WokenListView) → length v.places ≡ length e.ended.places → DoesKeep d e → DoesKeep d (with_ended v e)
keeps-relisted d e v long k = record { whole = whole-relisted e v k.whole; lockers = k.lockers; ready = ready-relisted e v long k.ready }

pub cancelled-relisted : (s : ℕ) (d e : LockTable) (v : WokenListView) → HasCancelled s d e → HasCancelled s d (with_ended v e)
cancelled-relisted s d e v h = record { count = h.count; idle = h.idle; held = h.held; transactions = h.transactions; views = h.views }

pub shows-relisted : (d : LockTable) (v : WokenListView) (st : State) → Shows d st → Shows (with_ended v d) st
shows-relisted d v st h = record { count = h.count; transactions = h.transactions; views = h.views }
