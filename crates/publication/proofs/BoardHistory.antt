-- The rule's history is the one that the state determines, and a step keeps it if the combiner's front stays.
use Rattle.std.proofs.Common.{◌≡◌, ◌≢◌, ◌⊎◌, ⊎_elim, ℕ, ◌<◌, cond, Bool, true, false, List, length, get_or, refl, sym, ap, ◌∙◌, arith, eq-eqb, ne_eqb, get_or-set_same, get_or-set_other}
use mathlib.Core.Option as opt
use mathlib.Core.Logic.{dite}
use native.Mathlib.Decide.{ℕ_discrete}
use lib.ListN.{get_elem?}
use Rattle.atomic_table.specs.Table.{Act, homes_after, stepped}
use Rattle.publication.specs.Words.{FREE}
use Rattle.publication.specs.Rule.{blank, BoardState, word, home, seat, IsOrderly}
use Rattle.publication.specs.BoardHistory.{history_in, history_of}
use Rattle.publication.specs.declared.view.View.{View}
use Rattle.publication.specs.declared.slot.SlotValue.{SlotValue}
use Rattle.publication.specs.declared.slot.SlotValue.TheVariants.{ObjectLoad}
use Rattle.publication.proofs.Lists.{at_there}
use Rattle.sequential.specs.declared.object.Sequential.{Ghosts}

module _ {O C R : Type 0} {obj : Ghosts O C R} where
  -- The rule's history is that of the state.

  pub is-history : (s : BoardState O C R) (o : IsOrderly obj s) → o.history ≡ (history_of obj) s
  is-history s o = dite (ℕ_discrete (word s 0) FREE)
      (λ none. let t = o.free none in
      sym (ap (λ (b : Bool). cond b (history_in obj (home s 0)) (seat s (word s 0)).front) (eq-eqb (word s 0) FREE none) ∙ (ap (history_in obj) t.1 ∙ t.2.history)))
      (λ some. let t = o.taken some in
      sym (ap (λ (b : Bool). cond b (history_in obj (home s 0)) (seat s (word s 0)).front) (ne_eqb (word s 0) FREE some) ∙ (o.combiners (word s 0) t.0).whole))

  -- While the lock word is FREE there is no combiner.
  pub nobody : (s : BoardState O C R) (o : IsOrderly obj s) → word s 0 ≡ FREE → (k : ℕ) → (seat s k).combiner.has_object ≢ true
  nobody s o none k has = let b = o.combiners k has in omega (arith, none, b.lock_is, b.session)

false-not : (b : Bool) → b ≢ true → b ≡ false
false-not true n = absurd (n refl)
false-not false n = refl

module _ {O C R : Type 0} {obj : Ghosts O C R} where
  -- Two states with the rule have the same history if the same combiner knows as much, or the same object is at home.
  module _ (s t : BoardState O C R) (o : IsOrderly obj s) (p : IsOrderly obj t) where
    -- The same session is the combiner, and knows as much.
    pub same-holder : (k : ℕ) → (seat s k).combiner.has_object ≡ true → (seat t k).combiner.has_object ≡ true → (seat t k).front ≡ (seat s k).front → p.history ≡ o.history
    same-holder k had has same = sym (p.combiners k has).whole ∙ (same ∙ (o.combiners k had).whole)

    -- There is no combiner before or after, and the same object is at home.
    pub same-home : word s 0 ≡ FREE → word t 0 ≡ FREE → home t 0 ≡ home s 0 → p.history ≡ o.history
    same-home none free same =
        let b = o.free none in
        let c = p.free free in
        sym c.2.history ∙ (ap (history_in obj) (sym c.1 ∙ (same ∙ b.1)) ∙ b.2.history)

    -- If there is no combiner, the lock word is FREE.
    pub none-after : ((k : ℕ) → (seat t k).combiner.has_object ≢ true) → word t 0 ≡ FREE
    none-after n = dite (ℕ_discrete (word t 0) FREE) (λ e. e) (λ some. absurd (n (word t 0) (p.taken some).0))

  -- A step of seat id, with view v before and w after.
  module _ (s : BoardState O C R) (o : IsOrderly obj s) (at put id : ℕ) (c : List (ℕ × SlotValue O C R)) (v w : View C R) (a : Act (SlotValue O C R)) (p : IsOrderly obj (stepped s at put id c w a))
      (me : get_elem? s.views id ≡ opt.some v) where
    abbrev t : BoardState O C R
    t = stepped s at put id c w a

    is_me : seat s id ≡ v
    is_me = (at_there s.views id v blank me).0

    sits : id < length s.views
    sits = (at_there s.views id v blank me).1

    pub is_after : seat t id ≡ w
    is_after = get_or-set_same s.views id w blank sits

    pub other_after : (k : ℕ) → k ≢ id → seat t k ≡ seat s k
    other_after k ne = get_or-set_other s.views id k w blank ne

    pub had : v.combiner.has_object ≡ true → (seat s id).combiner.has_object ≡ true
    had h = ap (λ (x : View C R). x.combiner.has_object) is_me ∙ h

    -- Another seat is the combiner's.
    elsewhere : word s 0 ≢ FREE → word s 0 ≢ id → p.history ≡ o.history
    elsewhere some ne =
        let k : ℕ = word s 0 in
        let has = (o.taken some).0 in
        same-holder s t o p k has (ap (λ (x : View C R). x.combiner.has_object) (other_after k ne) ∙ has) (ap (λ (x : View C R). x.front) (other_after k ne))

    -- This seat is the combiner's before and after.
    kept_here : v.combiner.has_object ≡ true → w.combiner.has_object ≡ true → w.front ≡ v.front → p.history ≡ o.history
    kept_here has still same = same-holder s t o p id (had has) (ap (λ (x : View C R). x.combiner.has_object) is_after ∙ still)
        (ap (λ (x : View C R). x.front) is_after ∙ (same ∙ ap (λ (x : View C R). x.front) (sym is_me)))

    -- The lock's slot, if it is at home before and after, is as before.
    abbrev pub IsLockLeft : Type 0
    IsLockLeft = word s 0 ≡ FREE → (get_or (homes_after s.homes c a) 0 opt.none ≡ opt.none) ⊎ (get_or (homes_after s.homes c a) 0 opt.none ≡ get_or s.homes 0 opt.none)

    -- There is no combiner before or after.
    stays_home : IsLockLeft → word s 0 ≡ FREE → w.combiner.has_object ≡ false → p.history ≡ o.history
    stays_home left none lacks =
        let free : word t 0 ≡ FREE = none-after s t o p (λ k has. dite (ℕ_discrete k id)
        (λ e. let f : w.combiner.has_object ≡ true = ap (λ (x : View C R). x.combiner.has_object) (sym is_after) ∙ (ap (λ (n : ℕ). (seat t n).combiner.has_object) (sym e) ∙ has) in absurd (cc (f, lacks)))
        (λ ne. nobody s o none k (ap (λ (x : View C R). x.combiner.has_object) (sym (other_after k ne)) ∙ has))) in
        same-home s t o p none free (⊎_elim (λ (gone : home t 0 ≡ opt.none). absurd (opt.some-ne-none (ObjectLoad (p.free free).0) (sym (p.free free).1 ∙ gone))) (λ same. same) (left none))

    -- The history stays if the seat is the combiner's before and after, with the same front, or neither before nor after.
    pub steady : IsLockLeft → w.combiner.has_object ≡ v.combiner.has_object → (v.combiner.has_object ≡ true → w.front ≡ v.front) → p.history ≡ o.history
    steady left object front = dite (ℕ_discrete (word s 0) FREE)
        (λ none. stays_home left none (object ∙ false-not v.combiner.has_object (λ has. nobody s o none id (had has))))
        (λ some. dite (ℕ_discrete (word s 0) id)
        (λ e. let has : v.combiner.has_object ≡ true = ap (λ (x : View C R). x.combiner.has_object) (sym is_me) ∙ (ap (λ (n : ℕ). (seat s n).combiner.has_object) (sym e) ∙ (o.taken some).0) in
        kept_here has (object ∙ has) (front has))
        (λ ne. elsewhere some ne))
