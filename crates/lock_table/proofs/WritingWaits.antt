-- What blocks the sessions that wait for one resource.
use Rattle.std.proofs.Common.{◌≡◌, ℕ, zero, suc, ◌<◌, Bool, true, false, cond, eqb, ◌&&◌, ◌||◌, List, [], ◌∷◌, length, get_or, take, Option, Some, None, is_some, refl, sym, ◌∙◌, ap, arith}
use Rattle.std.proofs.lemmas.Bool.Decides.{Decides-eqb}
use Rattle.lock_modes.specs.declared.Mode.{Mode}
use Rattle.lock_holders.specs.declared.session_mode.SessionMode.{SessionMode}
use Rattle.lock_table.specs.inner.Cells.{View}
use Rattle.lock_holders.specs.SessionModes.{has_session, mode_of}
use Rattle.lock_table.specs.inner.Blocking.{is_ahead, target_blocks, view_blocks}
use Rattle.lock_holders.proofs.SessionModes.{mode-has}

-- the requests ahead of that of a session are those before its index
pub stands-until : (s u : ℕ) (ws : List SessionMode) (i : ℕ) (d : SessionMode) → i < length ws → (get_or ws i d).session ≡ s → has_session s (take i ws) ≡ false → is_ahead u s ws ≡ has_session u (take i ws)
stands-until s u [] i d lt e n = absurd (omega arith)
stands-until s u (q ∷ ws) zero d lt e n = ap (λ (b : Bool). cond b false (eqb q.session u || is_ahead u s ws)) ((Decides-eqb q.session s).1 e)
stands-until s u (q ∷ ws) (suc i) d lt e n = go (eqb q.session s) n (stands-until s u ws i d (omega arith) e)
  where
    go : (b : Bool) → (b || has_session s (take i ws)) ≡ false → (has_session s (take i ws) ≡ false → is_ahead u s ws ≡ has_session u (take i ws)) → cond b false (eqb q.session u || is_ahead u s ws) ≡ (eqb q.session u || has_session u (take i ws))
    go true h next = absurd (cc)
    go false h next = ap (λ (b : Bool). eqb q.session u || b) (next h)

-- sessions that wait, and sessions that do not

-- a session that does not wait here is blocked by nobody
pub blocks-none : (s u : ℕ) (v : View) → has_session s v.waiting ≡ false → view_blocks s u v ≡ false
blocks-none s u v h = go (mode_of s v.waiting) (mode-has s v.waiting ∙ h)
  where
    go : (o : Option Mode) → is_some o ≡ false → target_blocks s u v o ≡ false
    go None e = refl
    go (Some m) e = absurd (cc)

-- so who is blocked here waits here
pub blocks-waiting : (s u : ℕ) (v : View) → (has_session s v.waiting && view_blocks s u v) ≡ view_blocks s u v
blocks-waiting s u v = go (has_session s v.waiting) refl
  where
    go : (b : Bool) → has_session s v.waiting ≡ b → (b && view_blocks s u v) ≡ view_blocks s u v
    go true e = refl
    go false e = sym (blocks-none s u v e)
