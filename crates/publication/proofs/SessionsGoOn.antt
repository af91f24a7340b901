-- No session is lost in a run: what it collected stays, at its seat or with the seat into which it was joined.
use Rattle.std.proofs.Common.{◌≡◌, ◌≢◌, inl, inr, ℕ, zero, suc, ◌<◌, Option, None, List, [], ◌∷◌, ◌++◌, length, get_or, set, refl, sym, ap, subst, ◌∙◌, arith, length-set}
use mathlib.Core.Option as opt
use mathlib.Core.Logic.{dite}
use mathlib.Core.List.{IsPrefix}
use native.Mathlib.Decide.{ℕ_discrete}
use lib.ListN.{get_elem?}
use Rattle.atomic_table.specs.Table.{step}
use Rattle.sequential.specs.Histories.{Answered}
use Rattle.publication.specs.Words.{FREE, POSTED, SERVED, CLOSED, EMPTY}
use Rattle.publication.specs.Views.{Pending, Handed, answer}
use Rattle.publication.specs.Rule.{blank, BoardState, seat}
use Rattle.publication.specs.StepKinds.{Seated, joined, handed_in, gathered}
use Rattle.publication.specs.Collected.{IsSeated, IsHandedIn, HasCollected}
use Rattle.publication.specs.Runs.{StepName, start, post, look_at_head, link, enlist, look_for_reply, take_reply, look_at_lock, seize, release, walk, walk_on, unlink, mark_out, relink, look_at_record, open_record, lay, pick, answer_record, put_back, enter, learn, compare, retire, leave, kind_of, IsStep, IsSeatSplit, IsSeatJoin, IsMove, IsRun, stop, move}
use Rattle.publication.specs.declared.view.View.{View}
use Rattle.publication.specs.declared.slot.SlotValue.{SlotValue}
use Rattle.publication.proofs.Lists.{at_there, each_set, each_snoc, past_end, prefix_self, prefix_trans}
use Rattle.sequential.specs.declared.object.Sequential.{Ghosts}

module _ {O C R : Type 0} where
  -- The session is there, and its answers begin with these.
  abbrev GoesOn : BoardState O C R → ℕ → List (Answered C R) → Type 0
  GoesOn t i a = (b : List (Answered C R)) × (q : Option (Pending C)) × HasCollected t i b q × IsPrefix a b

module _ {C R : Type 0} where
  -- A session's seat stays its own, and its answers only grow.
  abbrev pub Sits : View C R → View C R → Type 0
  Sits v w = 0 < v.number → (w.number ≡ v.number) × IsPrefix v.own.collected w.own.collected

  -- The sessions that were handed in stay so.
  abbrev pub Keeps : View C R → View C R → Type 0
  Keeps v w = IsPrefix v.others.handed w.others.handed

  -- Both of a seat.
  abbrev pub Follows : View C R → View C R → Type 0
  Follows v w = Sits v w × Keeps v w

  -- Both hold if number, answers and handed-in sessions stay as they are.
  like : (v w : View C R) → w.number ≡ v.number → w.own.collected ≡ v.own.collected → w.others.handed ≡ v.others.handed → Follows v w
  like v w number collected handed = (
    (λ _. (number, subst (IsPrefix v.own.collected) (sym collected) (prefix_self v.own.collected))),
    subst (IsPrefix v.others.handed) (sym handed) (prefix_self v.others.handed),
  )

  itself : (v : View C R) → Follows v v
  itself v = like v v refl refl refl

  -- Both hold of a seat that is no session's and into which none was joined.
  nobody : (v w : View C R) → v.number ≡ 0 → v.others.handed ≡ [] → Follows v w
  nobody v w none empty = ((λ some. absurd (omega (arith, some, none))), subst (λ (l : List (Handed C R)). IsPrefix l w.others.handed) (sym empty) (w.others.handed, refl))

module _ {O C R : Type 0} where
  -- Each kind of step.

  module _ (m n : Seated O C R) where
    calmly : (w : View C R) (d : List (ℕ × SlotValue O C R)) → n ≡ (w, d) → w.number ≡ m.0.number → w.own.collected ≡ m.0.own.collected → w.others.handed ≡ m.0.others.handed → Follows m.0 n.0
    calmly w d e number collected handed = subst (λ (x : Seated O C R). Follows m.0 x.0) (sym e) (like m.0 w number collected handed)

    same : n ≡ m → Follows m.0 n.0
    same e = calmly m.0 m.1 e refl refl refl

    module _ (obj : Ghosts O C R) where
      pub follows : (name : StepName C R) (slots at first second found : ℕ) → kind_of obj name (step slots at first second opt.none) m found n → Follows m.0 n.0
      follows start slots at first second found told = calmly _ _ told refl refl refl
      follows post slots at first second found told = calmly _ _ told.0 refl refl refl
      follows look_at_head slots at first second found told = same told.0
      follows link slots at first second found told = calmly _ _ told refl refl refl
      follows enlist slots at first second found told = dite (ℕ_discrete found first) (λ e. calmly _ _ (told.0 e) refl refl refl) (λ ne. calmly _ _ (told.1 ne).0 refl refl refl)
      follows look_for_reply slots at first second found told = same told.0
      follows take_reply slots at first second found told = dite (ℕ_discrete found SERVED)
          (λ e. let x = told.0 e in let t = x.2 in
          subst (λ (y : Seated O C R). Follows m.0 y.0) (sym t.4) ((λ _. (refl, (answer x.0 t.0 x.1 ∷ [], refl))), prefix_self m.0.others.handed))
          (λ ne. same (told.1 ne).0)
      follows look_at_lock slots at first second found told = same told.0
      follows seize slots at first second found told = dite (ℕ_discrete found FREE) (λ e. let x = told.0 e in calmly _ _ x.1 refl refl refl) (λ ne. same (told.1 ne).0)
      follows release slots at first second found told = calmly _ _ told refl refl refl
      follows walk slots at first second found told = calmly _ _ told.1 refl refl refl
      follows walk_on slots at first second found told = same told.0
      follows unlink slots at first second found told = calmly _ _ told refl refl refl
      follows mark_out slots at first second found told = dite (ℕ_discrete found EMPTY) (λ e. calmly _ _ (told.0 e) refl refl refl)
          (λ ne. dite (ℕ_discrete found CLOSED) (λ e. calmly _ _ (told.1 e) refl refl refl) (λ nc. same (told.2 ne nc)))
      follows relink slots at first second found told = calmly _ _ told refl refl refl
      follows look_at_record slots at first second found told = same told.0
      follows open_record slots at first second found told = dite (ℕ_discrete found POSTED) (λ e. let x = told.0 e in calmly _ _ x.1 refl refl refl) (λ ne. same (told.1 ne).0)
      follows lay slots at first second found told = calmly _ _ told refl refl refl
      follows pick slots at first second found told = calmly _ _ told refl refl refl
      follows answer_record slots at first second found told = calmly _ _ told.0 refl refl refl
      follows put_back slots at first second found told = calmly _ _ told refl refl refl
      follows (enter call reply) slots at first second found told =
          subst (λ (y : Seated O C R). Follows m.0 y.0) (sym told.0) ((λ _. (refl, (answer (length m.0.front) call reply ∷ [], refl))), prefix_self m.0.others.handed)
      follows learn slots at first second found told = calmly _ _ told.0 refl refl refl
      follows compare slots at first second found told = same told.0
      follows retire slots at first second found told = calmly _ _ told refl refl refl
      follows leave slots at first second found told = calmly _ _ told refl refl refl

module _ {C R : Type 0} where
  -- From the seats to the session.

  still-there : (xs ys : List (Handed C R)) (p : ℕ) (x : Handed C R) → get_elem? xs p ≡ opt.some x → get_elem? (xs ++ ys) p ≡ opt.some x
  still-there [] ys p x e = absurd (opt.some-ne-none x (sym e))
  still-there (z ∷ zs) ys zero x e = e
  still-there (z ∷ zs) ys (suc p) x e = still-there zs ys p x e

  pushed-there : (xs : List (Handed C R)) (x : Handed C R) → get_elem? (xs ++ x ∷ []) (length xs) ≡ opt.some x
  pushed-there [] x = refl
  pushed-there (z ∷ zs) x = pushed-there zs x

module _ {O C R : Type 0} where
  module _ (s t : BoardState O C R) (i : ℕ) (a : List (Answered C R)) (p : Option (Pending C)) where
    seat-on : Sits (seat s i) (seat t i) → IsSeated s i a p → GoesOn t i a
    seat-on f d =
        let g = f (let n = d.some in let e = d.named in omega (arith, n, e)) in (
          (seat t i).own.collected,
          (seat t i).own.pending,
          inl (record { some = d.some; named = g.0 ∙ d.named; answers_are = refl; pending_is = refl }),
          subst (λ (l : List (Answered C R)). IsPrefix l (seat t i).own.collected) d.answers_are g.1,
        )

    handed-on : ((k : ℕ) → Keeps (seat s k) (seat t k)) → IsHandedIn s i a p → GoesOn t i a
    handed-on f d =
        let k = f d.closing in (
          a,
          None,
          inr (record {
            closing = d.closing;
            place = d.place;
            handed = d.handed;
            there = subst (λ (l : List (Handed C R)). get_elem? l d.place ≡ opt.some d.handed) k.1 (still-there (seat s d.closing).others.handed k.0 d.place d.handed d.there);
            named = d.named;
            answers_are = d.answers_are;
            settled = refl;
          }),
          prefix_self a,
        )

    each-on : ((k : ℕ) → Follows (seat s k) (seat t k)) → HasCollected s i a p → GoesOn t i a
    each-on f (inl d) = seat-on (f i).0 d
    each-on f (inr d) = handed-on (λ k. (f k).1) d

  -- Each move.

  module _ (s : BoardState O C R) (i : ℕ) (a : List (Answered C R)) (p : Option (Pending C)) (has : HasCollected s i a p) where
    module _ {obj : Ghosts O C R} where
      step-on : (t : BoardState O C R) (name : StepName C R) → IsStep obj name s t → GoesOn t i a
      step-on t name c =
          let at = at_there s.views c.id c.before.0 blank c.seated in
          let f = follows c.before c.after obj name (length s.homes) c.at c.first c.second (get_or s.words c.at 0) c.told in
          each-on s t i a p (subst (λ (x : BoardState O C R). (k : ℕ) → Follows (seat s k) (seat x k)) (sym c.is)
          (each_set s.views c.id c.after.0 blank (λ k x. Follows (seat s k) x) at.1 (subst (λ (v : View C R). Follows v c.after.0) (sym at.0) f) (λ k ne. itself (seat s k)))) has

    cut-on : (t : BoardState O C R) → IsSeatSplit s t → GoesOn t i a
    cut-on t c =
        let at = at_there s.views c.id c.view blank c.seated in
        each-on s t i a p (subst (λ (x : BoardState O C R). (k : ℕ) → Follows (seat s k) (seat x k)) (sym c.is)
        (each_snoc (set s.views c.id c.left) c.right blank (λ k x. Follows (seat s k) x) beyond
        (each_set s.views c.id c.left blank (λ k x. Follows (seat s k) x) at.1 (subst (λ (v : View C R). Follows v c.left) (sym at.0) left) (λ k ne. itself (seat s k))))) has
      where
        left : Follows c.view c.left
        left = elim c.cut [
          | inl m ↦ nobody c.view c.left m.0 m.1
          | inr m ↦ subst (Follows c.view) (sym m.0) (itself c.view)
        ]

        beyond : Follows (seat s (length (set s.views c.id c.left))) c.right
        beyond =
            let none : seat s (length (set s.views c.id c.left)) ≡ blank = ap (seat s) (length-set s.views c.id c.left) ∙ past_end s.views blank in
            subst (λ (v : View C R). Follows v c.right) (sym none) (nobody blank c.right refl refl)

    -- A join of two seats, at both of them and at the others.
    module _ (t : BoardState O C R) (c : IsSeatJoin s t) where
      each : (P : ℕ → View C R → Type 0) → P c.id c.both → P c.other blank → ((k : ℕ) → k ≢ c.id → P k (seat s k)) → (k : ℕ) → P k (seat t k)
      each P mine theirs else =
          let one = at_there s.views c.id c.view blank c.seated in
          let two = at_there s.views c.other c.theirs blank c.beside in
          subst (λ (x : BoardState O C R). (k : ℕ) → P k (seat x k)) (sym c.is)
          (each_set (set s.views c.id c.both) c.other blank blank P (let l = length-set s.views c.id c.both in let n = two.1 in omega (arith, l, n)) theirs
          (λ k not_other. each_set s.views c.id c.both blank P one.1 mine else k))

      is_me : seat s c.id ≡ c.view
      is_me = (at_there s.views c.id c.view blank c.seated).0

      is_other : seat s c.other ≡ c.theirs
      is_other = (at_there s.views c.other c.theirs blank c.beside).0

      me_after : seat t c.id ≡ c.both
      me_after = each (λ k x. k ≡ c.id → x ≡ c.both) (λ _. refl) (λ e. absurd (c.apart e)) (λ k ne e. absurd (ne e)) c.id refl

      joined-on : c.both ≡ joined c.view c.theirs → c.theirs.number ≡ 0 → c.theirs.others.handed ≡ [] → GoesOn t i a
      joined-on is none empty = each-on s t i a p (each (λ k x. Follows (seat s k) x)
          (subst (λ (v : View C R). Follows v c.both) (sym is_me) (subst (Follows c.view) (sym is) (like c.view (joined c.view c.theirs) refl refl refl)))
          (subst (λ (v : View C R). Follows v blank) (sym is_other) (nobody c.theirs blank none empty))
          (λ k ne. itself (seat s k))) has

      gathered-on : c.both ≡ gathered c.view c.theirs → c.theirs.others.handed ≡ [] → GoesOn t i a
      gathered-on is empty = elim has [
        | inl d ↦ dite (ℕ_discrete i c.other) (λ e. handed d e) (λ ne. seat-on s t i a p (sits i ne) d)
        | inr d ↦ handed-on s t i a p keeps d
      ]
        where
          keeps : (k : ℕ) → Keeps (seat s k) (seat t k)
          keeps = each (λ k x. Keeps (seat s k) x)
              (subst (λ (v : View C R). Keeps v c.both) (sym is_me) (subst (Keeps c.view) (sym is) (handed_in c.theirs ∷ [], refl)))
              (subst (λ (v : View C R). Keeps v blank) (sym is_other) (subst (λ (l : List (Handed C R)). IsPrefix l []) (sym empty) ([], refl)))
              (λ k ne. prefix_self (seat s k).others.handed)

          sits : (k : ℕ) → k ≢ c.other → Sits (seat s k) (seat t k)
          sits = each (λ k x. k ≢ c.other → Sits (seat s k) x)
              (λ _. subst (λ (v : View C R). Sits v c.both) (sym is_me) (subst (Sits c.view) (sym is) (λ _. (refl, prefix_self c.view.own.collected))))
              (λ ne. absurd (ne refl))
              (λ k ne _. (itself (seat s k)).0)

          handed : IsSeated s i a p → i ≡ c.other → GoesOn t i a
          handed d e =
              let theirs_is : seat s i ≡ c.theirs = ap (seat s) e ∙ is_other in (
                a,
                None,
                inr (record {
                  closing = c.id;
                  place = length c.view.others.handed;
                  handed = handed_in c.theirs;
                  there = subst (λ (v : View C R). get_elem? v.others.handed (length c.view.others.handed) ≡ opt.some (handed_in c.theirs)) (sym (me_after ∙ is))
                      (pushed-there c.view.others.handed (handed_in c.theirs));
                  named = ap (λ (x : View C R). x.number) (sym theirs_is) ∙ d.named;
                  answers_are = ap (λ (x : View C R). x.own.collected) (sym theirs_is) ∙ d.answers_are;
                  settled = refl;
                }),
                prefix_self a,
              )

      taken-on : GoesOn t i a
      taken-on = elim c.join [
        | inl m ↦ joined-on m.0 m.1 m.2
        | inr m ↦ gathered-on m.0 m.2
      ]

    module _ {obj : Ghosts O C R} where
      move-on : (t : BoardState O C R) → IsMove obj s t → GoesOn t i a
      move-on t (inl c) = step-on t c.0 c.1
      move-on t (inr (inl c)) = cut-on t c
      move-on t (inr (inr c)) = taken-on t c

module _ {O C R : Type 0} {obj : Ghosts O C R} where
  pub goes-on : (s t : BoardState O C R) → IsRun obj s t → (i : ℕ) (a : List (Answered C R)) (p : Option (Pending C)) → HasCollected s i a p → GoesOn t i a
  goes-on s t stop i a p has = (a, p, has, prefix_self a)
  goes-on s u (move {t} m q more) i a p has =
      let g = move-on s i a p has t m in
      let k = goes-on t u more i g.0 g.1 g.2 in
      (k.0, k.1, k.2, prefix_trans a g.0 k.0 g.3 k.3)
