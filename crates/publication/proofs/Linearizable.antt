-- A board's history linearizes the calls of its sessions.
use Rattle.std.proofs.Common.{◌≡◌, inl, inr, ℕ, suc, ◌+◌, ◌<◌, ◌≤◌, cond, is_some, Option, Some, None, List, [], ◌∷◌, ◌++◌, length, replicate, length-append, refl, sym, ap, subst, ◌∙◌, arith}
use Rattle.std.specs.Prelude.{All}
use Rattle.std.proofs.lemmas.List.{length-map, length-replicate}
use Rattle.std.proofs.lemmas.List.Elements.{All-push}
use Rattle.std.specs.Global.{Box}
use mathlib.Core.Option as opt
use Rattle.sequential.specs.declared.entry.Entry.{Entry}
use Rattle.sequential.specs.declared.object.Sequential.{Ghosts}
use Rattle.sequential.specs.Histories.{Answered, calls_from, calls_of, IsEntryWithin}
use Rattle.sequential.specs.Linearizable.{Event, Calls, calls_in, invoked, performed_by, IsCompletionOf, IsLinearization}
use Rattle.sequential.proofs.Members.{Member, member-contains}
use Rattle.sequential.proofs.SessionCalls.{calls_from-append, contains-entry}
use Rattle.publication.specs.Views.{Pending, IsAccountedIn, entry, answer}
use Rattle.publication.specs.Rule.{BoardState, IsOrderly}
use Rattle.publication.specs.List.{IsRuled}
use Rattle.publication.specs.StepKinds.{replied}
use Rattle.publication.specs.BoardHistory.{history_of, new_board}
use Rattle.publication.specs.Runs.{StepName, answer_record, enter, IsStep, IsMove, IsRun, stop, move, calls_made}
use Rattle.publication.specs.Linearizable.{told_in, IsOfPending, IsCarriedOut, AreEventsOfRun}
use Rattle.publication.specs.declared.slot.Load.{Load}
use Rattle.publication.specs.declared.slot.SlotValue.{SlotValue}
use Rattle.publication.specs.declared.slot.SlotValue.TheVariants.{Empty}
use Rattle.publication.proofs.BoardHistory.{is-history}
use Rattle.publication.proofs.Collected.{own-of}
use Rattle.publication.proofs.HistorySteps.{joins, hand-within}
use Rattle.publication.proofs.ListLaws.{run_keeps}
use Rattle.publication.proofs.RealTime.{is-answer, is-enter, step-enters, step-unchanged, seats-unchanged, still-ruled, begins, accounted, behind-all, there}

module _ {C R : Type 0} where
  -- Calls of a session, and what they say of its answers.

  told-push : (xs : List (Answered C R)) (x : Answered C R) → told_in (xs ++ x ∷ []) ≡ told_in xs ++ (x.call, x.reply) ∷ []
  told-push [] x = refl
  told-push (y ∷ ys) x = ap (λ (l : List (C × R)). (y.call, y.reply) ∷ l) (told-push ys x)

  told-length : (xs : List (Answered C R)) → length (told_in xs) ≡ length xs
  told-length [] = refl
  told-length (x ∷ xs) = ap suc (told-length xs)

  -- What a board has carried out of a session's calls is complete, or lacks the pending call alone.
  completes : (h : List (Entry C R)) (i : ℕ) (d : Calls C R) (answers : List (Answered C R)) (pending : Option (Pending C)) → IsAccountedIn h i answers pending → IsCarriedOut d answers pending → IsCompletionOf d (performed_by i h)
  completes h i d answers pending (inl calls) (inl all) = inl (ap told_in calls ∙ all.0)
  completes h i d answers pending (inl calls) (inr more) = inr (more.0, more.1, more.2, ap told_in calls ∙ more.3)
  completes h i d answers pending (inr k) (inl all) =
      let of : IsOfPending (Some (record { call = k.0; floor = k.1 })) d.pending = subst (λ (p : Option (Pending C)). IsOfPending p d.pending) k.4 all.1 in
      inr (k.0, k.3, of, ap told_in k.6 ∙ (told-push answers (answer k.2 k.0 k.3) ∙ ap (λ (l : List (C × R)). l ++ (k.0, k.3) ∷ []) all.0))
  completes h i d answers pending (inr k) (inr more) = absurd (let none = more.4 in let some = k.4 in cc (none, some))

  -- Each call that has returned is collected, and each that is at the board was made.
  collected-late : (d : Calls C R) (answers : List (Answered C R)) (pending : Option (Pending C)) → IsCarriedOut d answers pending → length d.returned ≤ length answers
  collected-late d answers pending (inl all) = omega (arith, told-length answers, ap {B = ℕ} (λ (l : List (C × R)). length l) all.0)
  collected-late d answers pending (inr more) = omega (arith, told-length answers, ap {B = ℕ} (λ (l : List (C × R)). length l) more.3, length-append d.returned ((more.0, more.1) ∷ []))

  made-early : (d : Calls C R) (answers : List (Answered C R)) (pending : Option (Pending C)) → IsCarriedOut d answers pending → calls_made answers pending ≤ invoked d
  made-early d answers None (inl all) = omega (arith, told-length answers, ap {B = ℕ} (λ (l : List (C × R)). length l) all.0)
  made-early d answers (Some p) (inl all) = omega (arith, told-length answers, ap {B = ℕ} (λ (l : List (C × R)). length l) all.0, ap {B = ℕ} (λ (o : Option C). cond (is_some o) 1 0) all.1)
  made-early d answers pending (inr more) = omega (
    arith,
    told-length answers,
    ap {B = ℕ} (λ (l : List (C × R)). length l) more.3,
    length-append d.returned ((more.0, more.1) ∷ []),
    ap {B = ℕ} (λ (o : Option C). cond (is_some o) 1 0) more.2,
    ap {B = ℕ} (λ (o : Option (Pending C)). cond (is_some o) 1 0) more.4,
  )

  -- An element before the end of the first list is one of the first.
  in-first : (xs zs before : List (Answered C R)) (y : Answered C R) (rest : List (Answered C R)) → xs ++ zs ≡ before ++ y ∷ rest → length before < length xs → Member y xs
  in-first [] zs before y rest e lt = absurd (omega arith)
  in-first (a ∷ xs) zs [] y rest e lt = inl (cc e)
  in-first (a ∷ xs) zs (b ∷ before) y rest e lt = inr (in-first xs zs before y rest (cc e) (omega (arith, lt)))

  -- A collected call that is among the calls of a longer history has a place in the shorter one.
  placed : (h rest : List (Entry C R)) (i : ℕ) (answers : List (Answered C R)) (pending : Option (Pending C)) → IsAccountedIn h i answers pending → (x : Answered C R) (first others : List (Answered C R))
      → calls_of i (h ++ rest) ≡ first ++ x ∷ others → length first < length answers → x.place < length h
  placed h rest i answers pending stands x first others is lt =
      let whole : calls_of i h ++ calls_from i (0 + length h) rest ≡ first ++ x ∷ others = sym (calls_from-append i 0 h rest) ∙ is in
      let m = in-first (calls_of i h) (calls_from i (0 + length h) rest) first x others whole (enough stands) in
      there h x.place (entry i x.call x.reply) (contains-entry i h x (member-contains x (calls_of i h) m))
    where
      enough : IsAccountedIn h i answers pending → length first < length (calls_of i h)
      enough (inl calls) = omega (arith, lt, ap (λ (l : List (Answered C R)). length l) calls)
      enough (inr k) = omega (arith, lt, ap (λ (l : List (Answered C R)). length l) k.6, length-append answers (answer k.2 k.0 k.3 ∷ []))

module _ {C R : Type 0} where
  -- One entry more.
  pushed-within : (n : ℕ) (h k : List (Entry C R)) (e : Entry C R) → k ≡ h ++ e ∷ [] → All (IsEntryWithin n) h → 0 < e.session → e.session < n + 1 → All (IsEntryWithin n) k
  pushed-within n h k e is all some few = subst (λ (l : List (Entry C R)). All (IsEntryWithin n) l) (sym is) (All-push (IsEntryWithin n) h e all (record { some = omega (arith, some); within = omega (arith, few) }))

module _ {O C R : Type 0} {obj : Ghosts O C R} where
  -- Each entry is of a session of the board.

  move-within : (n : ℕ) (s t : BoardState O C R) → IsRuled obj s → IsRuled obj t → IsMove obj s t → length s.homes ≡ n + 1 → All (IsEntryWithin n) (history_of obj s) → All (IsEntryWithin n) (history_of obj t)
  move-within n s t r q (inl c) long all = elim (is-answer c.0) [
    | inl e ↦ answered (subst (λ (m : StepName C R). IsStep obj m s t) e c.1)
    | inr ne ↦ elim (is-enter c.0) [
      | inl e ↦ entered e.0 e.1 (subst (λ (m : StepName C R). IsStep obj m s t) e.2 c.1)
      | inr direct ↦ subst (λ (l : List (Entry C R)). All (IsEntryWithin n) l) (sym (step-unchanged c.0 s t ne direct r q c.1)) all
    ]
  ]
    where
      appended : (d : IsStep obj answer_record s t) (p : IsOrderly obj t) → p.history ≡ r.records.history ++ entry d.before.0.combiner.hand d.asked.1.0 (replied obj d.before.1) ∷ []
      appended d p = (subst (λ (x : BoardState O C R). (p : IsOrderly obj x) → p.history ≡ r.records.history ++ entry d.before.0.combiner.hand d.asked.1.0 (replied obj d.before.1) ∷ []) (sym d.is)
          (λ p. joins s r.records d.at d.put d.id d.first d.second d.before d.after d.act p d.seated d.valid d.carried d.asked.1.0 d.asked.0 d.asked.1.1 d.told.0)) p

      answered : IsStep obj answer_record s t → All (IsEntryWithin n) (history_of obj t)
      answered d =
          let o = r.records in
          let call = d.asked.1.0 in
          let e : Entry C R = entry d.before.0.combiner.hand call (replied obj d.before.1) in
          let w = hand-within s o d.at d.put d.id d.first d.second d.before d.after d.act (subst (IsOrderly obj) d.is q.records) d.seated d.valid d.carried call d.asked.1.1 in
          let few = w.1 in
          pushed-within n (history_of obj s) (history_of obj t) e (sym (is-history t q.records) ∙ (appended d q.records ∙ ap (λ (l : List (Entry C R)). l ++ e ∷ []) (is-history s o))) all w.0 (omega (arith, few, long, o.homes_are))

      entered : (call : C) (reply : R) → IsStep obj (enter call reply) s t → All (IsEntryWithin n) (history_of obj t)
      entered call reply d =
          let j = step-enters call reply s t r q d in
          let own = own-of s r.records j.0 j.1.answers None (inl j.1.before) in
          let few = own.small in
          pushed-within n (history_of obj s) (history_of obj t) (entry j.0 call reply) j.1.history all own.some (omega (arith, few, long, r.records.homes_are))
  move-within n s t r q (inr c) long all = subst (λ (l : List (Entry C R)). All (IsEntryWithin n) l) (sym (seats-unchanged s t r q c)) all

  run-within : (n : ℕ) {s t : BoardState O C R} → IsRuled obj s → IsRun obj s t → length s.homes ≡ n + 1 → All (IsEntryWithin n) (history_of obj s) → All (IsEntryWithin n) (history_of obj t)
  run-within n r stop long all = all
  run-within n {s} r (move {t} m q more) long all =
      run-within n q more (run_keeps r (move m q stop) ∙ long) (move-within n s t r q m long all)

  -- The history at the end of a run is a linearization.
  pub linearizes : (n : ℕ) (s t : BoardState O C R) (events : List (Event C R)) → IsRuled obj s → length s.homes ≡ n + 1 → history_of obj s ≡ [] → IsRun obj s t → AreEventsOfRun obj n s t events → IsLinearization obj n events (history_of obj t)
  linearizes n s t events r long empty leads run =
      let q = still-ruled r leads in
      let h : List (Entry C R) = history_of obj t in record {
        legal = subst obj.is_legal (is-history t q.records) q.records.legal;
        equal = λ i some few. let e = run.ends i some few in completes h i (calls_in i events) e.0 e.1 (accounted t q i e.0 e.1 e.2) e.3;
        whose = run-within n r leads long (subst (λ (l : List (Entry C R)). All (IsEntryWithin n) l) (sym empty) (λ k d few. absurd (omega (arith, few))));
        in_time = λ before after split i j i_some i_few j_some j_few x y first others earlier later x_is returned y_is made.
            let m = run.moments before after split in
            let here = still-ruled r m.1 in
            let a = m.3 i i_some i_few in
            let b = m.3 j j_some j_few in
            let e = run.ends j j_some j_few in
            let grown = begins here m.2 in
            let late = collected-late (calls_in i before) a.0 a.1 a.3 in
            let early = made-early (calls_in j before) b.0 b.1 b.3 in
            let p = placed (history_of obj m.0) grown.0 i a.0 a.1 (accounted m.0 here i a.0 a.1 a.2) x first others (ap (calls_of i) grown.1 ∙ x_is) (omega (arith, late, returned)) in
            let o = behind-all m.0 t here m.2 j b.0 e.0 b.1 e.1 b.2 e.2 y earlier later y_is (omega (arith, early, made)) in
            omega (arith, p, o);
      }

module _ {O C R : Type 0} where
  -- A new board has a slot for the lock and one for each session.
  pub slots-of : (n : ℕ) (load : Box (Load O C R)) → length (new_board n load).homes ≡ n + 1
  slots-of n load = omega (arith, length-map {A = SlotValue O C R} (replicate n Empty) opt.some, length-replicate {A = SlotValue O C R} n Empty)
