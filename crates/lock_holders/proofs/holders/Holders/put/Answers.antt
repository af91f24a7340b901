use Rattle.std.proofs.Common.{◌≡◌, ℕ, zero, suc, List, [], ◌∷◌, Option, arith, sym, ◌∙◌, ap, subst}
use Rattle.lock_holders.specs.declared.session_mode.SessionMode.{SessionMode}
use Rattle.lock_holders.specs.inner.SingleHolder.{single_or}
use Rattle.lock_holders.specs.SessionModes.{with_holder}
use Rattle.lock_holders.specs.Holders.{HolderList, IsOwn, IsPlaceOf}
use Rattle.lock_holders.proofs.Rising.{with-own}
use Rattle.lock_holders.proofs.holders.Holders.put.Goals as goal

-- the single holder gets its new mode
single-with : (c h : SessionMode) (n : ℕ) → IsOwn c.session (h ∷ []) n → with_holder c (h ∷ []) ≡ c ∷ []
single-with c h zero own = sym (with-own c (h ∷ []) zero own)
single-with c h (suc n) own = absurd (let w = own.within in omega (arith, w))

pub returns-in-Own-clause-items : goal.returns-in-Own-clause-items
returns-in-Own-clause-items c =
    let s = c.args.holder.session in
    let hs = c.args.self.now.items in
    let first = c.in-Some.first in
    let n = c.in-Own.field-0 in
    let is : hs ≡ first ∷ [] = sym (ap (λ (v : HolderList). v.items) c.self.view_is) ∙ ap (λ (o : Option SessionMode). single_or o c.self.inside.columns.items) c.in-Some.is in
    let own : IsOwn s (first ∷ []) n = subst (λ (xs : List SessionMode). IsOwn s xs n) is (subst (IsPlaceOf s hs) c.in-Own.is c.requires.place) in
    sym (ap (with_holder c.args.holder) is ∙ single-with c.args.holder first n own)
