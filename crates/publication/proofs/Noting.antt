-- An event comes behind all events so far, whatever moment its session notes for it; and seats that are split or joined note none.
use Rattle.std.proofs.Common.{◌≡◌, ◌≢◌, ◌⊎◌, inl, inr, ⊎_elim, ℕ, ◌+◌, ◌<◌, List, [], ◌∷◌, ◌++◌, length, map, set, refl, sym, ap, subst, ◌∙◌, arith, append-nil}
use mathlib.Core.Option as opt
use mathlib.Core.Logic.{dite}
use native.Mathlib.Decide.{ℕ_discrete}
use lib.ListN.{get_elem?}
use Rattle.atomic_table.specs.Table.{Act, stepped}
use Rattle.atomic_table.proofs.Lists.{at_set, set_here, set_else}
use Rattle.sequential.specs.declared.object.Sequential.{Ghosts}
use Rattle.sequential.specs.Linearizable.{Event}
use Rattle.publication.specs.Moments.{session_of, noted_from, noted_by}
use Rattle.publication.specs.Views.{Handed}
use Rattle.publication.specs.Rule.{blank, maker, new_session, BoardState, own_at}
use Rattle.publication.specs.List.{IsRuled}
use Rattle.publication.specs.StepKinds.{copy_of, front_copy_of, joined, handed_in, gathered}
use Rattle.publication.specs.Instants.{HasView, Tells, AreEventsOf, AreFrom}
use Rattle.publication.specs.Runs.{IsSeatSplit, IsSeatJoin}
use Rattle.publication.specs.declared.view.View.{View}
use Rattle.publication.specs.declared.slot.SlotValue.{SlotValue}
use Rattle.publication.proofs.Lists.{at_there, at_pushed}
use Rattle.publication.proofs.SeatViews.{others_of}
use Rattle.publication.proofs.Present.{still_there, last_there}
use Rattle.publication.proofs.Moments.{noted-append}
use Rattle.publication.proofs.OnlyEvents.{here, else, nothing-more, same-rest, begins, only, told-so}

module _ {C R : Type 0} where
  -- Events that one session alone has noted are what it has noted, with moments one after another.

  first : (at n : ℕ) (r : Event C R) (rs : List (Event C R)) (l : List (ℕ × Event C R)) → session_of r ≡ n → noted_from n at (r ∷ rs) ≡ l
      → ((more : List (ℕ × Event C R)) → noted_from n (at + 1) rs ≡ more → AreFrom (at + 1) more × (rs ≡ map (λ x. x.1) more)) → AreFrom at l × (r ∷ rs ≡ map (λ x. x.1) l)
  first at n r rs [] e is later = absurd (let z = sym (here n at r rs e) ∙ is in cc z)
  first at n r rs (x ∷ l) e is later =
      let z : (at, r) ∷ noted_from n (at + 1) rs ≡ x ∷ l = sym (here n at r rs e) ∙ is in
      let y : (at, r) ≡ x = cc z in
      let rest : noted_from n (at + 1) rs ≡ l = cc z in
      let t = later l rest in (
        (ap (λ (p : ℕ × Event C R). p.0) (sym y), t.0),
        ap (λ (p : ℕ × Event C R). p.1 ∷ rs) y ∙ ap (λ (es : List (Event C R)). x.1 ∷ es) t.1,
      )

  mine : (at n : ℕ) (rs : List (Event C R)) (l : List (ℕ × Event C R)) → ((i : ℕ) → i ≢ n → noted_from i at rs ≡ []) → noted_from n at rs ≡ l → AreFrom at l × (rs ≡ map (λ x. x.1) l)
  mine at n [] [] others is = (tt, refl)
  mine at n [] (x ∷ l) others is = absurd (cc is)
  mine at n (r ∷ rs) l others is = dite (ℕ_discrete (session_of r) n)
      (λ e. first at n r rs l e is (λ more rest. mine (at + 1) n rs more (λ i ne. sym (else i at r rs (λ z. ne (sym z ∙ e))) ∙ others i ne) rest))
      (λ ne. absurd (let z = sym (here (session_of r) at r rs refl) ∙ others (session_of r) ne in cc z))

  -- If one session alone has noted more, these events come last.
  more-last : (n : ℕ) (more : List (ℕ × Event C R)) (E F : List (Event C R)) → ((i : ℕ) → i ≢ n → noted_by i F ≡ noted_by i E) → noted_by n F ≡ noted_by n E ++ more → AreFrom (length E) more × (F ≡ E ++ map (λ x. x.1) more)
  more-last n more E F others own =
      let t = begins 0 E F (λ i. dite (ℕ_discrete i n)
      (λ e. (more, subst (λ (j : ℕ). noted_by j F ≡ noted_by j E ++ more) (sym e) own))
      (λ ne. ([], others i ne ∙ sym (append-nil (noted_by i E))))) in
      let r = mine (0 + length E) n t.0 more
      (λ i ne. nothing-more (noted_by i E) (noted_from i (0 + length E) t.0) (sym (noted-append i 0 E t.0) ∙ (ap (noted_by i) (sym t.1) ∙ others i ne)))
      (same-rest (noted_by n E) (noted_from n (0 + length E) t.0) more (sym (noted-append n 0 E t.0) ∙ (ap (noted_by n) (sym t.1) ∙ own))) in
      let z : 0 + length E ≡ length E = omega arith in
      (subst (λ (k : ℕ). AreFrom k more) z r.0, t.1 ∙ ap (λ (l : List (Event C R)). E ++ l) r.1)

module _ {O C R : Type 0} where
  -- A step on a word.

  module _ (s : BoardState O C R) (at put id : ℕ) (carried : List (ℕ × SlotValue O C R)) (v w : View C R) (act : Act (SlotValue O C R)) (E F : List (Event C R))
      (me : HasView s id v) (number : w.number ≡ v.number) (logs : w.others.logs ≡ v.others.logs) (before : AreEventsOf s E) (after : AreEventsOf (stepped s at put id carried w act) F) where
    -- A view tells the same of a session after the step.
    module _ (i : ℕ) (log : List (ℕ × Event C R)) where
      forth : (v.number ≡ i → v.own.log ≡ log → w.own.log ≡ log) → Tells v i log → Tells w i log
      forth f (inl t) = inl ((λ z. let n = t.0 in n (sym number ∙ z)), number ∙ t.1, f t.1 t.2)
      forth f (inr t) = inr (t.0, ap (λ (l : List (ℕ × List (ℕ × Event C R))). get_elem? l t.0) logs ∙ t.1)

      back : (v.number ≡ i → w.own.log ≡ log → v.own.log ≡ log) → Tells w i log → Tells v i log
      back f (inl t) = inl ((λ z. let n = t.0 in n (number ∙ z)), sym number ∙ t.1, f (sym number ∙ t.1) t.2)
      back f (inr t) = inr (t.0, ap (λ (l : List (ℕ × List (ℕ × Event C R))). get_elem? l t.0) (sym logs) ∙ t.1)

    changed : HasView (stepped s at put id carried w act) id w
    changed = set_here s.views id w (at_there s.views id v blank me).1

    -- What another session has noted is the same after the step.
    kept : (i : ℕ) → (v.number ≡ i → (log : List (ℕ × Event C R)) → (v.own.log ≡ log → w.own.log ≡ log) × (w.own.log ≡ log → v.own.log ≡ log)) → noted_by i F ≡ noted_by i E
    kept i same = told-so (noted_by i F) (noted_by i E)
        (λ some. let t = after.no_others i some in ⊎_elim
        (λ z. before.noted_so id v i (noted_by i F) me (back i (noted_by i F) (λ n. (same n (noted_by i F)).1) (subst (λ (x : View C R). Tells x i (noted_by i F)) (sym z.1) t.3)))
        (λ z. before.noted_so t.0 t.1 i (noted_by i F) z.1 t.3)
        (at_set s.views id t.0 w t.1 t.2))
        (λ some. let t = before.no_others i some in dite (ℕ_discrete t.0 id)
        (λ e. let is : t.1 ≡ v = opt.some-injective t.1 v (sym t.2 ∙ (ap (get_elem? s.views) e ∙ me)) in
        after.noted_so id w i (noted_by i E) changed (forth i (noted_by i E) (λ n. (same n (noted_by i E)).0) (subst (λ (x : View C R). Tells x i (noted_by i E)) is t.3)))
        (λ ne. after.noted_so t.0 t.1 i (noted_by i E) (set_else s.views id t.0 w ne ∙ t.2) t.3))

    -- A step at which nothing is noted is no event.
    pub no-event : w.own.log ≡ v.own.log → F ≡ E
    no-event same = only E F (λ i. kept i (λ n log. ((λ e. same ∙ e), λ e. sym same ∙ e)))

    -- A step at which events are noted is these events, at the moments that come next.
    pub more-events : v.number ≢ 0 → (more : List (ℕ × Event C R)) → w.own.log ≡ v.own.log ++ more → AreFrom (length E) more × (F ≡ E ++ map (λ x. x.1) more)
    more-events some more grown = more-last v.number more E F
        (λ i ne. kept i (λ n. absurd (ne (sym n))))
        (sym (after.noted_so id w v.number w.own.log changed (inl ((λ z. some (sym number ∙ z)), number, refl)))
        ∙ (grown ∙ ap (λ (l : List (ℕ × Event C R)). l ++ more) (before.noted_so id v v.number v.own.log me (inl (some, refl, refl)))))

  -- Splits and joins of seats.

  -- Some seat tells it.
  abbrev IsTold : BoardState O C R → ℕ → List (ℕ × Event C R) → Type 0
  IsTold s i log = (k : ℕ) × (v : View C R) × HasView s k v × Tells v i log

  -- If two states tell the same, they have the same events.
  same-told : (s t : BoardState O C R) (E F : List (Event C R)) → ((i : ℕ) (log : List (ℕ × Event C R)) → log ≢ [] → IsTold s i log → IsTold t i log) → ((i : ℕ) (log : List (ℕ × Event C R)) → log ≢ [] → IsTold t i log → IsTold s i log)
      → AreEventsOf s E → AreEventsOf t F → F ≡ E
  same-told s t E F on was a b = sym (only F E (λ i. told-so (noted_by i E) (noted_by i F)
      (λ some. let x = a.no_others i some in let y = on i (noted_by i E) some (x.0, x.1, x.2, x.3) in b.noted_so y.0 y.1 i (noted_by i E) y.2 y.3)
      (λ some. let x = b.no_others i some in let y = was i (noted_by i F) some (x.0, x.1, x.2, x.3) in a.noted_so y.0 y.1 i (noted_by i F) y.2 y.3)))

module _ {C R : Type 0} where
  -- A seat that is no session's, and has no logs, tells nothing.
  silent : (v : View C R) → v.number ≡ 0 → v.others.logs ≡ [] → (i : ℕ) (log : List (ℕ × Event C R)) → Tells v i log → ⊥
  silent v none empty i log (inl t) = let n = t.0 in n none
  silent v none empty i log (inr t) = opt.some-ne-none (i, log) (sym t.1 ∙ ap (λ (l : List (ℕ × List (ℕ × Event C R))). get_elem? l t.0) empty)

  -- A session that is just made has noted nothing.
  fresh-silent : (slots number : ℕ) (i : ℕ) (log : List (ℕ × Event C R)) → log ≢ [] → Tells (new_session slots number) i log → ⊥
  fresh-silent slots number i log some (inl t) = some (sym t.2)
  fresh-silent slots number i log some (inr t) = opt.some-ne-none (i, log) (sym t.1)

  same-tells : (v w : View C R) → w ≡ v → (i : ℕ) (log : List (ℕ × Event C R)) → Tells v i log → Tells w i log
  same-tells v w e i log = subst (λ (x : View C R). Tells x i log) (sym e)

module _ {O C R : Type 0} {obj : Ghosts O C R} where
  no-logs : (s : BoardState O C R) (r : IsRuled obj s) (k : ℕ) (v : View C R) → HasView s k v → v.others.handed ≡ [] → v.others.logs ≡ []
  no-logs s r k v me none = (others_of s r.records k v me).logged ∙ ap (λ (l : List (Handed C R)). map (λ x. (x.number, (own_at r.records.owns x.number).log)) l) none

  module _ (s : BoardState O C R) (r : IsRuled obj s) (id : ℕ) (v left right : View C R) (me : HasView s id v)
      (cut : ((v.number ≡ 0) × (v.others.handed ≡ []) × (left ≡ maker v.slots (v.made + 1)) × (right ≡ new_session v.slots (v.made + 1))) ⊎ ((left ≡ v) × ((right ≡ copy_of v) ⊎ (right ≡ front_copy_of v)))) where
    abbrev after-split : BoardState O C R
    after-split = record { words = s.words; homes = s.homes; views = set s.views id left ++ right ∷ [] }

    there : id < length s.views
    there = (at_there s.views id v blank me).1

    right-silent : (i : ℕ) (log : List (ℕ × Event C R)) → log ≢ [] → Tells right i log → ⊥
    right-silent i log some t = ⊎_elim
        (λ m. fresh-silent v.slots (v.made + 1) i log some (same-tells right (new_session v.slots (v.made + 1)) (sym m.3) i log t))
        (λ m. ⊎_elim
        (λ e. silent right (ap (λ (x : View C R). x.number) e) (ap (λ (x : View C R). x.others.logs) e) i log t)
        (λ e. silent right (ap (λ (x : View C R). x.number) e) (ap (λ (x : View C R). x.others.logs) e) i log t) m.1) cut

    split-forth : (i : ℕ) (log : List (ℕ × Event C R)) → log ≢ [] → IsTold s i log → IsTold after-split i log
    split-forth i log some x = dite (ℕ_discrete x.0 id)
        (λ e. let is : x.1 ≡ v = opt.some-injective x.1 v (sym x.2 ∙ (ap (get_elem? s.views) e ∙ me)) in ⊎_elim
        (λ m. absurd (silent x.1 (ap (λ (y : View C R). y.number) is ∙ m.0) (ap (λ (y : View C R). y.others.logs) is ∙ no-logs s r id v me m.1) i log x.3))
        (λ m. (id, left, still_there (set s.views id left) (right ∷ []) id left (set_here s.views id left there), same-tells x.1 left (m.0 ∙ sym is) i log x.3)) cut)
        (λ ne. (x.0, x.1, still_there (set s.views id left) (right ∷ []) x.0 x.1 (set_else s.views id x.0 left ne ∙ x.2), x.3))

    split-back : (i : ℕ) (log : List (ℕ × Event C R)) → log ≢ [] → IsTold after-split i log → IsTold s i log
    split-back i log some x = ⊎_elim
        (λ old. ⊎_elim
        (λ z. ⊎_elim
        (λ m. absurd (silent x.1 (ap (λ (y : View C R). y.number) (sym z.1 ∙ m.2)) (ap (λ (y : View C R). y.others.logs) (sym z.1 ∙ m.2)) i log x.3))
        (λ m. (id, v, me, same-tells x.1 v (sym m.0 ∙ z.1) i log x.3)) cut)
        (λ z. (x.0, x.1, z.1, x.3))
        (at_set s.views id x.0 left x.1 old))
        (λ new. absurd (right-silent i log some (same-tells x.1 right new i log x.3)))
        (at_pushed (set s.views id left) right x.0 x.1 x.2)

  module _ (s : BoardState O C R) (r : IsRuled obj s) (id other : ℕ) (v w both : View C R) (me : HasView s id v) (apart_from : ¬ (other ≡ id)) (with : HasView s other w)
      (q : IsRuled obj (record { words = s.words; homes = s.homes; views = set (set s.views id both) other blank }))
      (join : ((both ≡ joined v w) × (w.number ≡ 0) × (w.others.handed ≡ [])) ⊎ ((both ≡ gathered v w) × (v.number ≡ 0) × (w.others.handed ≡ []))) where
    abbrev after-join : BoardState O C R
    after-join = record { words = s.words; homes = s.homes; views = set (set s.views id both) other blank }

    here-after : HasView after-join id both
    here-after = set_else (set s.views id both) other id blank (λ e. apart_from (sym e)) ∙ set_here s.views id both (at_there s.views id v blank me).1

    -- What the seat told, it tells.
    tells-on : (i : ℕ) (log : List (ℕ × Event C R)) → Tells v i log → Tells both i log
    tells-on i log t = ⊎_elim
        (λ m. same-tells (joined v w) both m.0 i log t)
        (λ m. same-tells (gathered v w) both m.0 i log (longer t)) join
      where
        longer : Tells v i log → Tells (gathered v w) i log
        longer (inl t) = inl t
        longer (inr t) = inr (t.0, still_there v.others.logs ((w.number, w.own.log) ∷ []) t.0 (i, log) t.1)

    -- What the other told, it tells.
    tells-theirs : (i : ℕ) (log : List (ℕ × Event C R)) → Tells w i log → Tells both i log
    tells-theirs i log t = ⊎_elim
        (λ m. absurd (silent w m.1 (no-logs s r other w with m.2) i log t))
        (λ m. same-tells (gathered v w) both m.0 i log (taken t (no-logs s r other w with m.2))) join
      where
        taken : Tells w i log → w.others.logs ≡ [] → Tells (gathered v w) i log
        taken (inl t) empty = inr (length v.others.logs, last_there v.others.logs (w.number, w.own.log) ∙ ap (λ (k : ℕ). opt.some (k, w.own.log)) t.1 ∙ ap (λ (l : List (ℕ × Event C R)). opt.some (i, l)) t.2)
        taken (inr t) empty = absurd (opt.some-ne-none (i, log) (sym t.1 ∙ ap (λ (l : List (ℕ × List (ℕ × Event C R))). get_elem? l t.0) empty))

    join-forth : (i : ℕ) (log : List (ℕ × Event C R)) → log ≢ [] → IsTold s i log → IsTold after-join i log
    join-forth i log some x = dite (ℕ_discrete x.0 id)
        (λ e. let is : x.1 ≡ v = opt.some-injective x.1 v (sym x.2 ∙ (ap (get_elem? s.views) e ∙ me)) in
        (id, both, here-after, tells-on i log (same-tells x.1 v (sym is) i log x.3)))
        (λ ne. dite (ℕ_discrete x.0 other)
        (λ e. let is : x.1 ≡ w = opt.some-injective x.1 w (sym x.2 ∙ (ap (get_elem? s.views) e ∙ with)) in
        (id, both, here-after, tells-theirs i log (same-tells x.1 w (sym is) i log x.3)))
        (λ not_other. (x.0, x.1, set_else (set s.views id both) other x.0 blank not_other ∙ (set_else s.views id x.0 both ne ∙ x.2), x.3)))

    -- What the seat tells, it told, or the other did.
    told-before : (i : ℕ) (log : List (ℕ × Event C R)) → Tells both i log → IsTold s i log
    told-before i log t = ⊎_elim
        (λ m. (id, v, me, same-tells both (joined v w) (sym m.0) i log t))
        (λ m. earlier m.0 (same-tells both (gathered v w) (sym m.0) i log t)) join
      where
        earlier : both ≡ gathered v w → Tells (gathered v w) i log → IsTold s i log
        earlier is (inl t) = (id, v, me, inl t)
        earlier is (inr t) = ⊎_elim
            (λ old. (id, v, me, inr (t.0, old)))
            (λ new. let d = (others_of after-join q.records id both here-after).handed (length v.others.handed) (handed_in w)
            (ap (λ (x : View C R). get_elem? x.others.handed (length v.others.handed)) is ∙ last_there v.others.handed (handed_in w)) in
            let some = d.some in
            (other, w, with, inl ((λ z. omega (arith, some, z)), ap (λ (y : ℕ × List (ℕ × Event C R)). y.0) new, ap (λ (y : ℕ × List (ℕ × Event C R)). y.1) new)))
            (at_pushed v.others.logs (w.number, w.own.log) t.0 (i, log) t.1)

    join-back : (i : ℕ) (log : List (ℕ × Event C R)) → log ≢ [] → IsTold after-join i log → IsTold s i log
    join-back i log some x = ⊎_elim
        (λ z. absurd (silent x.1 (ap (λ (y : View C R). y.number) (sym z.1)) (ap (λ (y : View C R). y.others.logs) (sym z.1)) i log x.3))
        (λ z. ⊎_elim
        (λ y. told-before i log (same-tells x.1 both y.1 i log x.3))
        (λ y. (x.0, x.1, y.1, x.3))
        (at_set s.views id x.0 both x.1 z.1))
        (at_set (set s.views id both) other x.0 blank x.1 x.2)

  -- No event happens when a seat is split or joined.
  pub seats-note-none : (s t : BoardState O C R) (E F : List (Event C R)) → IsRuled obj s → IsRuled obj t → IsSeatSplit s t ⊎ IsSeatJoin s t → AreEventsOf s E → AreEventsOf t F → F ≡ E
  seats-note-none s t E F r q (inl c) a b =
      same-told s (after-split s r c.id c.view c.left c.right c.seated c.cut) E F
      (split-forth s r c.id c.view c.left c.right c.seated c.cut) (split-back s r c.id c.view c.left c.right c.seated c.cut) a (subst (λ (x : BoardState O C R). AreEventsOf x F) c.is b)
  seats-note-none s t E F r q (inr c) a b =
      let after : IsRuled obj (record { words = s.words; homes = s.homes; views = set (set s.views c.id c.both) c.other blank }) = subst (IsRuled obj) c.is q in
      same-told s (after-join s r c.id c.other c.view c.theirs c.both c.seated c.apart c.beside after c.join) E F
      (join-forth s r c.id c.other c.view c.theirs c.both c.seated c.apart c.beside after c.join) (join-back s r c.id c.other c.view c.theirs c.both c.seated c.apart c.beside after c.join)
      a (subst (λ (x : BoardState O C R). AreEventsOf x F) c.is b)
