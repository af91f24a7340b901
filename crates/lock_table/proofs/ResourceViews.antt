-- What a grant, a request and a release do to the holders and the queue of one resource.
use Rattle.std.proofs.Common.{◌≡◌, ℕ, zero, suc, ◌+◌, ◌<◌, ◌≤◌, Bool, true, false, cond, not, eqb, ◌&&◌, ◌||◌, inl, inr, List, [], ◌∷◌, length, drop, Some, None, refl, sym, ◌∙◌, ap, arith, subst}
use Rattle.std.proofs.lemmas.Bool.{and_right, or_from, or_parts}
use Rattle.std.proofs.Math.Bool.{and-false}
use Rattle.std.proofs.lemmas.Bool.Decides.{nat_tests, Decides-eqb}
use Rattle.std.proofs.lemmas.List.{drop-drop}
use Rattle.lock_holders.specs.declared.session_mode.SessionMode.{SessionMode}
use Rattle.lock_table.specs.declared.cells.Cell.{Cell}
use Rattle.lock_table.specs.declared.cells.GivenUp.{GivenUp}
use Rattle.lock_table.specs.declared.cells.GivenUp.TheVariants as claim
use Rattle.lock_table.specs.inner.Cells.{View, no_view, next_grant, view_after_grants, view_after_promotion, view_after_giving_up, queue_with, IsOnce, is_busy, view_of, HasRoom, IsKeptCell}
use Rattle.lock_holders.specs.SessionModes.{with_holder, has_session, times, is_nobody, fits_among, Ascends}
use Rattle.lock_holders.proofs.Rising.{ascends-with, ascends-without}
use Rattle.lock_holders.proofs.SessionModes.{has_tells, has_session-with_holder, has_session-without, times-without, nobody-with_holder}
use Rattle.lock_table.proofs.WaitQueues.{has_session-queued, times-queued, nobody-queued}

-- the view with these holders and this queue
abbrev pub both : List SessionMode → List SessionMode → View
both hs ws = record { holders = hs; waiting = ws }

-- the step from view `v` to view `w` grants the first request, `c`, and takes it off the queue
pub record IsNext (v : View) (c : SessionMode) (w : View) : Type 0 where
  pub first : v.waiting ≡ c ∷ w.waiting
  pub fits : fits_among c v.holders ≡ true
  pub holders : w.holders ≡ with_holder c v.holders

-- granting the first request, which fits, is such a step
pub next-granted : (hs ws : List SessionMode) (c : SessionMode) → Some c ≡ next_grant hs ws → IsNext (both hs ws) c (both (with_holder c hs) (drop 1 ws))
next-granted hs [] c h = absurd (cc)
next-granted hs (q ∷ ws) c h = go (fits_among q hs) refl h
  where
    go : (b : Bool) → fits_among q hs ≡ b → Some c ≡ cond b (Some q) None → IsNext (both hs (q ∷ ws)) c (both (with_holder c hs) ws)
    go false e k = absurd (cc)
    go true e k = let same : q ≡ c = cc in record {
      first = ap (λ (x : SessionMode). x ∷ ws) same;
      fits = ap (λ (x : SessionMode). fits_among x hs) (sym same) ∙ e;
      holders = refl;
    }

-- the same when the first n requests of a longer queue are granted already
pub next-passed : (hs ws : List SessionMode) (n : ℕ) (c : SessionMode) (new : List SessionMode) → Some c ≡ next_grant hs (drop n ws) → new ≡ with_holder c hs → IsNext (both hs (drop n ws)) c (both new (drop (n + 1) ws))
next-passed hs ws n c new h e = subst (λ (v : View). IsNext (both hs (drop n ws)) c v) (λ i. both (sym e i) (drop-drop 1 n ws i)) (next-granted hs (drop n ws) c h)

-- the index of a request that is granted next is within the queue
pub next-within : (hs ws : List SessionMode) (n : ℕ) (c : SessionMode) → Some c ≡ next_grant hs (drop n ws) → n < length ws
next-within hs [] zero c h = absurd (cc)
next-within hs [] (suc n) c h = absurd (cc)
next-within hs (q ∷ ws) zero c h = omega arith
next-within hs (q ∷ ws) (suc n) c h = omega (arith, next-within hs ws n c h)

-- the promotion from the view after one grant ends in the same view
pub promoted-next : (v : View) (c : SessionMode) (w : View) → IsNext v c w → view_after_promotion w ≡ view_after_promotion v
promoted-next v c w n =
    ap (λ (hs : List SessionMode). view_after_grants hs w.waiting) n.holders
    ∙ sym (ap (view_after_grants v.holders) n.first ∙ ap (λ (b : Bool). cond b (view_after_grants (with_holder c v.holders) w.waiting) (both v.holders (c ∷ w.waiting))) n.fits)

-- the session that is granted next was waiting
pub next-waits : (v : View) (c : SessionMode) (w : View) → IsNext v c w → has_session c.session v.waiting ≡ true
next-waits v c w n = ap (has_session c.session) n.first ∙ ap (λ (b : Bool). b || has_session c.session w.waiting) ((Decides-eqb c.session c.session).1 refl)

-- the invariant of a view: holders in order, at most one request of each session, no session 0

-- a grant of the next request keeps it
pub once-next : (v : View) (c : SessionMode) (w : View) → IsNext v c w → IsOnce v → IsOnce w
once-next v c w n o = record {
  rising = subst Ascends (sym n.holders) (ascends-with c v.holders o.rising);
  once = λ s. let f = ap (times s) n.first in let k = o.once s in grind (arith, nat_tests);
  holders = ap (has_session 0) n.holders ∙ (has_session-with_holder 0 c v.holders ∙ or_from (eqb c.session 0) (has_session 0 v.holders) (or_parts (eqb c.session 0) (has_session 0 w.waiting) waits).0 o.holders);
  waiting = (or_parts (eqb c.session 0) (has_session 0 w.waiting) waits).1;
}
  where
    waits : (eqb c.session 0 || has_session 0 w.waiting) ≡ false
    waits = sym (ap (has_session 0) n.first) ∙ o.waiting

-- queuing a request of a session that has none keeps it
pub once-queued : (c : SessionMode) (v : View) → 1 ≤ c.session → has_session c.session v.waiting ≡ false → IsOnce v → IsOnce (record { holders = v.holders; waiting = queue_with c v.holders v.waiting })
once-queued c v some k o = record {
  rising = o.rising;
  once = λ s. let p = times-queued s c v.holders v.waiting in let q = o.once s in let n = none in grind (arith, nat_tests);
  holders = o.holders;
  waiting = has_session-queued 0 c v.holders v.waiting ∙ (let e = o.waiting in grind (arith, nat_tests));
}
  where
    none : times c.session v.waiting ≡ 0
    none = elim (has_tells c.session v.waiting) [ inl h ↦ absurd (let e = h.0 in cc) | inr h ↦ h.1 ]

-- giving up a lock or a request keeps it
pub once-giving_up : (p : GivenUp) (s : ℕ) (v : View) → IsOnce v → IsOnce (view_after_giving_up p s v)
once-giving_up claim.Lock s v o = record { rising = ascends-without s v.holders o.rising; once = o.once; holders = has_session-without s 0 v.holders ∙ and_right (not (eqb 0 s)) (has_session 0 v.holders) o.holders; waiting = o.waiting }
once-giving_up claim.Request s v o = record { rising = o.rising; once = λ u. omega (arith, o.once u, times-without s u v.waiting); holders = o.holders; waiting = has_session-without s 0 v.waiting ∙ and_right (not (eqb 0 s)) (has_session 0 v.waiting) o.waiting }

-- a grant at once keeps it
pub once-put : (c : SessionMode) (v : View) → 1 ≤ c.session → IsOnce v → IsOnce (record { holders = with_holder c v.holders; waiting = v.waiting })
once-put c v some o = record {
  rising = ascends-with c v.holders o.rising;
  once = o.once;
  holders = has_session-with_holder 0 c v.holders ∙ (let e = o.holders in grind (arith, nat_tests));
  waiting = o.waiting;
}

-- the empty view has it
pub once-nobody : IsOnce no_view
once-nobody = record { rising = refl; once = λ s. omega arith; holders = refl; waiting = refl }

-- views that are not empty

-- a view with a holder is not empty
pub busy-put : (c : SessionMode) (v : View) → is_busy (record { holders = with_holder c v.holders; waiting = v.waiting }) ≡ true
busy-put c v = ap (λ (b : Bool). not (b && is_nobody v.waiting)) (nobody-with_holder c v.holders)

-- a view with a request is not empty
pub busy-queued : (c : SessionMode) (v : View) → is_busy (record { holders = v.holders; waiting = queue_with c v.holders v.waiting }) ≡ true
busy-queued c v = ap (λ (b : Bool). not (is_nobody v.holders && b)) (nobody-queued c v.holders v.waiting) ∙ ap not (and-false (is_nobody v.holders))

-- a second promotion

-- a promotion after these grants changes nothing
promoted-twice : (hs ws : List SessionMode) → view_after_promotion (view_after_grants hs ws) ≡ view_after_grants hs ws
promoted-twice hs [] = refl
promoted-twice hs (q ∷ ws) = go (fits_among q hs) refl (promoted-twice (with_holder q hs) ws)
  where
    go : (b : Bool) → fits_among q hs ≡ b → view_after_promotion (view_after_grants (with_holder q hs) ws) ≡ view_after_grants (with_holder q hs) ws
        → view_after_promotion (cond b (view_after_grants (with_holder q hs) ws) (both hs (q ∷ ws))) ≡ cond b (view_after_grants (with_holder q hs) ws) (both hs (q ∷ ws))
    go true e h = h
    go false e h = ap (λ (b : Bool). cond b (view_after_grants (with_holder q hs) ws) (both hs (q ∷ ws))) e

-- a second promotion changes nothing
pub promoted-again : (v : View) → view_after_promotion (view_after_promotion v) ≡ view_after_promotion v
promoted-again v = promoted-twice v.holders v.waiting

-- the invariant of a cell

-- it follows from the room of the cell and from its view
pub kept-view : (c : Cell) (v : View) → view_of c ≡ v → HasRoom c → IsOnce v → is_busy v ≡ true → IsKeptCell c
kept-view c v e room once busy = record { room = room; once = subst IsOnce (sym e) once; busy = ap is_busy e ∙ busy }
