-- Which modes fit, which holders are compatible, and what a grant changes, as the laws state it.
use Rattle.std.proofs.Common.{◌≡◌, ◌≢◌, ℕ, true, not, inl, inr, List, Option, Some, None, refl, sym, ◌∙◌, ap}
use Rattle.std.proofs.lemmas.Bool.{not-false, cases_Bool}
use Rattle.lock_modes.specs.declared.Mode.{Mode}
use Rattle.lock_modes.specs.Compatibility.{IsCompatible, are_compatible}
use Rattle.lock_modes.proofs.Compatibility.{compatible-from, compatible-tests}
use Rattle.lock_rules.specs.State.{Table, State, held_mode}
use Rattle.lock_rules.specs.Queue.{fits, after_grant}
use Rattle.lock_rules.specs.Laws.{IsFitExact, AreHoldersCompatible, IsGrantOf}
use Rattle.lock_rules.proofs.Lists.{other, apart, differs, mode_in-with_lock, mode_in-with_lock_path, mode_in-with_lock_other, request_of-claims_but, request_of-claims_but_other}
use Rattle.lock_rules.proofs.Alters.{true≢false}
use Rattle.lock_rules.specs.Waits.{conflicts}
use Rattle.lock_rules.specs.Sound.{IsSound}
use Rattle.lock_rules.proofs.Sound.{fits-tells, unfit-some}

-- in a sound table `fits` is exact
pub fit-tells : (st : State) → IsSound st.table → IsFitExact st
fit-tells st i s r m = (told, fit)
  where
    told : fits st.table s r m ≡ true → (u : ℕ) (k : Mode) → u ≢ s → held_mode st.table u r ≡ Some k → IsCompatible m k
    told h u k n e = compatible-from m k (not-false (are_compatible m k) (ap (conflicts m) (sym e) ∙ fits-tells st.table s r m h u (other s u n)))

    clash : (o : Option Mode) → conflicts m o ≡ true → ((k : Mode) → o ≡ Some k → IsCompatible m k) → ⊥
    clash None c h = absurd (cc)
    clash (Some k) c h = true≢false c (ap not (compatible-tests m k (h k refl)))

    fit : ((u : ℕ) (k : Mode) → u ≢ s → held_mode st.table u r ≡ Some k → IsCompatible m k) → fits st.table s r m ≡ true
    fit h = elim (cases_Bool (fits st.table s r m)) [
      | inl e ↦ e
      | inr e ↦ let w = unfit-some st.table i.order s r m e in absurd (clash (held_mode st.table w.0 r) w.2 (λ k f. h w.0 k (apart s w.0 w.1) f))
    ]

-- in a sound table two holders of one resource have compatible modes
pub holders-compatible : (st : State) → IsSound st.table → AreHoldersCompatible st
holders-compatible st i s u r k l n e f = elim (i.agree s u r k l (other u s n) e f) [ inl h ↦ inl (compatible-from k l h) | inr h ↦ inr (compatible-from l k h) ]

-- a grant changes one lock of one session
pub grant-one : (s : ℕ) (r : List ℕ) (m : Mode) (t : Table) → IsGrantOf s r m t (after_grant s r m t)
grant-one s r m t = record {
  held = mode_in-with_lock s r m t.held;
  elsewhere = λ x n. mode_in-with_lock_path s s x r m t.held (differs x r n);
  others_hold = λ u x n. mode_in-with_lock_other u s x r m t.held (other s u n);
  waits_no_more = request_of-claims_but s t.requests;
  others_wait = λ u n. request_of-claims_but_other u s t.requests (other s u n);
  in_order = refl;
}
