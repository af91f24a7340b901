-- The views after a release.
use Rattle.std.proofs.Common.{◌≡◌, ℕ, Bool, false, cond, inl, inr, List, [], ◌∷◌, map, None, refl, sym, ◌∙◌, ap, arith}
use Rattle.std.proofs.lemmas.Bool.Decides.{nat_tests}
use Rattle.std.proofs.lemmas.Bool.{cases_Bool}
use Rattle.lock_tree.specs.Paths.{same_path}
use Rattle.lock_rules.specs.State as rules
use Rattle.lock_rules.specs.Queue.{queue, locks_but}
use Rattle.lock_rules.specs.Step.{holds_child, after_release}
use Rattle.lock_rules.specs.Sound.{IsSound}
use Rattle.lock_rules.proofs.Lists.{same_path_tells}
use Rattle.lock_rules.proofs.Alters.{queue-alters}
use Rattle.lock_rules.proofs.Cuts.{one_less, less-alters, less-sound}
use Rattle.lock_table.specs.declared.cells.GivenUp.TheVariants as claim
use Rattle.lock_holders.specs.SessionModes.{without}
use Rattle.lock_table.specs.inner.Cells.{view_after_giving_up, view_after_freeing, view_after_promotion}
use Rattle.lock_table.specs.Shows.{short, claims_on, view}
use Rattle.lock_table.proofs.TableViews.{queue-apart, promoted-seen}

module _ (s : ℕ) (r : List ℕ) (t : rules.Table) (i : IsSound t) (free : holds_child t s r ≡ false) (n : rules.request_of s t.requests ≡ None) where
  -- the released resource has its holders without the session
  holders-own : (cs : List rules.Claim) → claims_on r (locks_but s r cs) ≡ without s (claims_on r cs)
  holders-own [] = refl
  holders-own (c ∷ cs) = grind (arith, nat_tests, cases_Bool (same_path c.resource r), holders-own cs)

  -- the holders of another resource are unchanged
  holders-other : (x : List ℕ) (cs : List rules.Claim) → same_path r x ≡ false → claims_on x (locks_but s r cs) ≡ claims_on x cs
  holders-other x [] h = refl
  holders-other x (c ∷ cs) h = grind (arith, nat_tests, same_path_tells c.resource r, cases_Bool (same_path c.resource x), holders-other x cs h)

  -- the queues are unchanged
  queue-less : (x : List ℕ) → queue (one_less s r t) x ≡ queue t x
  queue-less x = queue-alters s t (one_less s r t) (less-alters s r t n) x ∙ queue-apart t s x i.once (λ q e. absurd (cc))

  -- the view of the released resource, before its queue is promoted
  less-own : view r (one_less s r t) ≡ view_after_giving_up claim.Lock s (view r t)
  less-own = let hs = holders-own t.held in let ws = queue-less r in λ j. record { holders = hs j; waiting = map short (ws j) }

  -- the views of other resources are unchanged
  less-other : (x : List ℕ) → same_path r x ≡ false → view x (one_less s r t) ≡ view x t
  less-other x h = let hs = holders-other x t.held h in let ws = queue-less x in λ j. record { holders = hs j; waiting = map short (ws j) }

  -- the views of all resources after a release: that of the released one is promoted, the others are unchanged
  pub released-seen : (x : List ℕ) → view x (after_release s r t) ≡ cond (same_path r x) (view_after_freeing claim.Lock s (view r t)) (view x t)
  released-seen x = promoted-seen r (one_less s r t) (less-sound s r t i n free) x ∙ elim (same_path_tells r x) [
    | inl h ↦ ap (λ (b : Bool). cond b (view_after_promotion (view x (one_less s r t))) (view x (one_less s r t))) h.0
        ∙ (ap (λ (y : List ℕ). view_after_promotion (view y (one_less s r t))) (sym h.1) ∙ (ap view_after_promotion less-own
        ∙ sym (ap (λ (b : Bool). cond b (view_after_freeing claim.Lock s (view r t)) (view x t)) h.0)))
    | inr h ↦ ap (λ (b : Bool). cond b (view_after_promotion (view x (one_less s r t))) (view x (one_less s r t))) h
        ∙ (less-other x h ∙ sym (ap (λ (b : Bool). cond b (view_after_freeing claim.Lock s (view r t)) (view x t)) h))
  ]
