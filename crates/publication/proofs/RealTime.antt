-- Runs: the history only grows, and calls published or entered directly after a state get places behind its history.
use Rattle.std.proofs.Common.{◌≡◌, ◌≢◌, ◌⊎◌, inl, inr, ℕ, zero, suc, ◌+◌, ◌<◌, ◌≤◌, cond, eqb, is_some, Bool, true, false, Option, Some, None, List, [], ◌∷◌, ◌++◌, length, get_or, set, slice_get, refl, sym, ap, subst, ◌∙◌, arith, append_assoc, length-append, Contains}
use mathlib.Core.Option as opt
use mathlib.Core.Logic.{dite}
use mathlib.Core.List.{IsPrefix}
use native.Mathlib.Decide.{ℕ_discrete}
use lib.ListN.{get_elem?}
use Rattle.atomic_table.specs.Table.{stepped}
use Rattle.sequential.specs.declared.entry.Entry.{Entry}
use Rattle.sequential.specs.Histories.{Answered, calls_from, calls_of}
use Rattle.sequential.proofs.Members.{Member, contains-member, member-contains}
use Rattle.sequential.proofs.SessionCalls.{calls_from-append, contains-entry}
use Rattle.publication.specs.Words.{FREE}
use Rattle.publication.specs.Views.{Pending, IsAccountedIn, entry, answer}
use Rattle.publication.specs.Rule.{blank, BoardState, word, home, seat, own_at, IsOrderly}
use Rattle.publication.specs.List.{IsRuled}
use Rattle.publication.specs.StepKinds.{replied}
use Rattle.publication.specs.Collected.{IsSeated, HasCollected}
use Rattle.publication.specs.BoardHistory.{history_of, IsAppended, IsEnteredDirectly, IsAccounted}
use Rattle.publication.specs.Runs.{StepName, answer_record, enter, IsStep, IsSeatSplit, IsSeatJoin, IsMove, IsRun, stop, move, calls_made, RespectsRealTime}
use Rattle.publication.specs.declared.view.View.{View}
use Rattle.publication.proofs.Lists.{at_there, each_set, each_snoc, prefix_self, prefix_trans}
use Rattle.publication.proofs.Accounts.{account-of}
use Rattle.publication.proofs.Collected.{own-of}
use Rattle.publication.proofs.BoardHistory.{is-history, same-holder, same-home}
use Rattle.publication.proofs.HistorySteps.{unchanged, joins, waits-for, enters-history, names-combiner, still-names, seated-before, seated-after}
use Rattle.sequential.specs.declared.object.Sequential.{Ghosts}

module _ {O C R : Type 0} {obj : Ghosts O C R} where
  -- Moves that change views alone.

  module _ (s : BoardState O C R) (o : IsOrderly obj s) (vs : List (View C R)) (p : IsOrderly obj (record { words = s.words; homes = s.homes; views = vs })) where
    -- The history stays if the combiner knows what it knew.
    views-alone : ((k : ℕ) → (get_or vs k blank).combiner.has_object ≡ true → (get_or vs k blank).front ≡ (seat s k).front) → p.history ≡ o.history
    views-alone same = dite (ℕ_discrete (word s 0) FREE)
        (λ none. same-home s (record { words = s.words; homes = s.homes; views = vs }) o p none none refl)
        (λ some. let has = (p.taken some).0 in
        same-holder s (record { words = s.words; homes = s.homes; views = vs }) o p (word s 0) (o.taken some).0 has (same (word s 0) has))

module _ {O C R : Type 0} where
  abbrev KnowsAsMuch : BoardState O C R → ℕ → View C R → Type 0
  KnowsAsMuch s k u = u.combiner.has_object ≡ true → u.front ≡ (seat s k).front

  no-object : (s : BoardState O C R) (k : ℕ) (u : View C R) → u.combiner.has_object ≡ false → KnowsAsMuch s k u
  no-object s k u lacks has = absurd (cc (lacks, has))

  front-kept : (s : BoardState O C R) (k : ℕ) (v u : View C R) → get_elem? s.views k ≡ opt.some v → u.front ≡ v.front → KnowsAsMuch s k u
  front-kept s k v u me same has = same ∙ ap (λ (x : View C R). x.front) (sym (at_there s.views k v blank me).0)

module _ {O C R : Type 0} {obj : Ghosts O C R} where
  pub cut-unchanged : (s t : BoardState O C R) (o : IsOrderly obj s) (p : IsOrderly obj t) → IsSeatSplit s t → p.history ≡ o.history
  cut-unchanged s t o p c = (subst (λ (x : BoardState O C R). (q : IsOrderly obj x) → q.history ≡ o.history) (sym c.is) (λ q.
      views-alone s o (set s.views c.id c.left ++ c.right ∷ []) q
      (each_snoc (set s.views c.id c.left) c.right blank (KnowsAsMuch s) right
      (each_set s.views c.id c.left blank (KnowsAsMuch s) (at_there s.views c.id c.view blank c.seated).1 left
      (λ k ne has. refl))))) p
    where
      left : KnowsAsMuch s c.id c.left
      left = elim c.cut [
        | inl m ↦ no-object s c.id c.left (ap (λ (x : View C R). x.combiner.has_object) m.2)
        | inr m ↦ front-kept s c.id c.view c.left c.seated (ap (λ (x : View C R). x.front) m.0)
      ]

      right : KnowsAsMuch s (length (set s.views c.id c.left)) c.right
      right = elim c.cut [
        | inl m ↦ no-object s (length (set s.views c.id c.left)) c.right (ap (λ (x : View C R). x.combiner.has_object) m.3)
        | inr m ↦ elim m.1 [
          | inl e ↦ no-object s (length (set s.views c.id c.left)) c.right (ap (λ (x : View C R). x.combiner.has_object) e)
          | inr e ↦ no-object s (length (set s.views c.id c.left)) c.right (ap (λ (x : View C R). x.combiner.has_object) e)
        ]
      ]

  pub joined-unchanged : (s t : BoardState O C R) (o : IsOrderly obj s) (p : IsOrderly obj t) → IsSeatJoin s t → p.history ≡ o.history
  joined-unchanged s t o p c = (subst (λ (x : BoardState O C R). (q : IsOrderly obj x) → q.history ≡ o.history) (sym c.is) (λ q.
      views-alone s o (set (set s.views c.id c.both) c.other blank) q every)) p
    where
      both : KnowsAsMuch s c.id c.both
      both = elim c.join [
        | inl m ↦ front-kept s c.id c.view c.both c.seated (ap (λ (x : View C R). x.front) m.0)
        | inr m ↦ front-kept s c.id c.view c.both c.seated (ap (λ (x : View C R). x.front) m.0)
      ]

      one : (k : ℕ) → KnowsAsMuch s k (get_or (set s.views c.id c.both) k blank)
      one = each_set s.views c.id c.both blank (KnowsAsMuch s) (at_there s.views c.id c.view blank c.seated).1 both (λ k ne has. refl)

      -- A write past the end changes nothing.
      unset : (l : List (View C R)) (i k : ℕ) → (get_or (set l i blank) k blank ≡ get_or l k blank) ⊎ (get_or (set l i blank) k blank ≡ blank)
      unset [] i k = inl refl
      unset (x ∷ xs) zero zero = inr refl
      unset (x ∷ xs) zero (suc k) = inl refl
      unset (x ∷ xs) (suc i) zero = inl refl
      unset (x ∷ xs) (suc i) (suc k) = unset xs i k

      every : (k : ℕ) → KnowsAsMuch s k (get_or (set (set s.views c.id c.both) c.other blank) k blank)
      every k = elim (unset (set s.views c.id c.both) c.other k) [
        | inl e ↦ subst (KnowsAsMuch s k) (sym e) (one k)
        | inr e ↦ subst (KnowsAsMuch s k) (sym e) (no-object s k blank refl)
      ]

  -- Steps, and the history that the states determine.

  pub step-unchanged : (name : StepName C R) (s t : BoardState O C R) → name ≢ answer_record → ((call : C) (reply : R) → name ≢ enter call reply) → IsRuled obj s → IsRuled obj t → IsStep obj name s t → history_of obj t ≡ (history_of obj) s
  step-unchanged name s t other direct r q c = sym (is-history t q.records) ∙ (go q.records ∙ is-history s r.records)
    where
      go : (p : IsOrderly obj t) → p.history ≡ r.records.history
      go p = (subst (λ (x : BoardState O C R). (p : IsOrderly obj x) → p.history ≡ r.records.history) (sym c.is)
          (λ p. unchanged s r.records c.at c.put c.id c.first c.second c.before c.after c.act p c.seated c.valid c.carried name other direct c.asked c.told)) p

  pub step-joins : (s t : BoardState O C R) → IsRuled obj s → IsRuled obj t → IsStep obj answer_record s t → (e : Entry C R) × IsAppended obj s t e
  step-joins s t r q c =
      let o = r.records in
      let call = c.asked.1 in
      let e : Entry C R = entry c.before.0.combiner.hand call.0 (replied obj c.before.1) in
      let w = waits-for s o c.at c.put c.id c.first c.second c.before c.after c.act (moved q.records) c.seated c.valid c.carried call.0 call.1 in (
        e,
        record {
          history = sym (is-history t q.records) ∙ (go q.records ∙ ap (λ (l : List (Entry C R)). l ++ e ∷ []) (is-history s o));
          floor = w.0;
          pending = w.1;
        },
      )
    where
      moved : IsOrderly obj t → IsOrderly obj (stepped s c.at c.put c.id c.before.1 c.after.0 c.act)
      moved = subst (IsOrderly obj) c.is

      go : (p : IsOrderly obj t) → p.history ≡ r.records.history ++ entry c.before.0.combiner.hand c.asked.1.0 (replied obj c.before.1) ∷ []
      go p = (subst (λ (x : BoardState O C R). (p : IsOrderly obj x) → p.history ≡ r.records.history ++ entry c.before.0.combiner.hand c.asked.1.0 (replied obj c.before.1) ∷ []) (sym c.is)
          (λ p. joins s r.records c.at c.put c.id c.first c.second c.before c.after c.act p c.seated c.valid c.carried c.asked.1.0 c.asked.0 c.asked.1.1 c.told.0)) p

  pub step-enters : (call : C) (reply : R) (s t : BoardState O C R) → IsRuled obj s → IsRuled obj t → IsStep obj (enter call reply) s t → (session : ℕ) × IsEnteredDirectly obj s t (entry session call reply)
  step-enters call reply s t r q c =
      let o = r.records in
      let m = c.before.0 in
      let has = c.asked.1 in
      let none = c.asked.2 in
      let e : Entry C R = entry m.number call reply in (
        m.number,
        record {
          history = sym (is-history t q.records) ∙ (go q.records ∙ ap (λ (l : List (Entry C R)). l ++ e ∷ []) (is-history s o));
          combiner = names-combiner s o c.at c.put c.id c.first c.second c.before c.after c.act (moved q.records) c.seated c.valid c.carried has;
          still = subst (λ (x : BoardState O C R). word x 0 ≡ m.number) (sym c.is)
              (still-names s o c.at c.put c.id c.first c.second c.before c.after c.act (moved q.records) c.seated c.valid c.carried call reply has c.told.0);
          answers = m.own.collected;
          before = seated-before s o c.at c.put c.id c.first c.second c.before c.after c.act (moved q.records) c.seated c.valid c.carried has none;
          after = subst (λ (l : List (Entry C R)). IsSeated t m.number (m.own.collected ++ answer (length l) call reply ∷ []) None) (is-history s o)
              (subst (λ (x : BoardState O C R). IsSeated x m.number (m.own.collected ++ answer (length o.history) call reply ∷ []) None) (sym c.is)
              (seated-after s o c.at c.put c.id c.first c.second c.before c.after c.act (moved q.records) c.seated c.valid c.carried call reply has none c.told.0));
        },
      )
    where
      moved : IsOrderly obj t → IsOrderly obj (stepped s c.at c.put c.id c.before.1 c.after.0 c.act)
      moved = subst (IsOrderly obj) c.is

      go : (p : IsOrderly obj t) → p.history ≡ r.records.history ++ entry c.before.0.number call reply ∷ []
      go p = (subst (λ (x : BoardState O C R). (p : IsOrderly obj x) → p.history ≡ r.records.history ++ entry c.before.0.number call reply ∷ []) (sym c.is)
          (λ p. enters-history s r.records c.at c.put c.id c.first c.second c.before c.after c.act p c.seated c.valid c.carried call reply c.asked.1 c.told.0)) p

module _ {C R : Type 0} where
  pub is-answer : (name : StepName C R) → (name ≡ answer_record) ⊎ (name ≢ answer_record)
  is-answer answer_record = inl refl
  is-answer _ = inr (λ e. absurd (cc e))

  pub is-enter : (name : StepName C R) → ((call : C) × (reply : R) × (name ≡ enter call reply)) ⊎ ((call : C) (reply : R) → name ≢ enter call reply)
  is-enter (enter call reply) = inl (call, reply, refl)
  is-enter _ = inr (λ call reply e. absurd (cc e))

  same-begins : (f g : List (Entry C R)) → g ≡ f → IsPrefix f g
  same-begins f g e = subst (IsPrefix f) (sym e) (prefix_self f)

module _ {O C R : Type 0} {obj : Ghosts O C R} where
  pub seats-unchanged : (s t : BoardState O C R) → IsRuled obj s → IsRuled obj t → IsSeatSplit s t ⊎ IsSeatJoin s t → history_of obj t ≡ (history_of obj) s
  seats-unchanged s t r q (inl c) = sym (is-history t q.records) ∙ (cut-unchanged s t r.records q.records c ∙ is-history s r.records)
  seats-unchanged s t r q (inr c) = sym (is-history t q.records) ∙ (joined-unchanged s t r.records q.records c ∙ is-history s r.records)

  pub move-begins : (s t : BoardState O C R) → IsRuled obj s → IsRuled obj t → IsMove obj s t → IsPrefix (history_of obj s) (history_of obj t)
  move-begins s t r q (inl c) = elim (is-answer c.0) [
    | inl e ↦ let j = step-joins s t r q (subst (λ (n : StepName C R). IsStep obj n s t) e c.1) in (j.0 ∷ [], sym j.1.history)
    | inr ne ↦ elim (is-enter c.0) [
      | inl e ↦ let j = step-enters e.0 e.1 s t r q (subst (λ (n : StepName C R). IsStep obj n s t) e.2 c.1) in (entry j.0 e.0 e.1 ∷ [], sym j.1.history)
      | inr direct ↦ same-begins (history_of obj s) (history_of obj t) (step-unchanged c.0 s t ne direct r q c.1)
    ]
  ]
  move-begins s t r q (inr c) = same-begins (history_of obj s) (history_of obj t) (seats-unchanged s t r q c)

  -- Runs.

  pub still-ruled : {s t : BoardState O C R} → IsRuled obj s → IsRun obj s t → IsRuled obj t
  still-ruled r stop = r
  still-ruled r (move m q more) = still-ruled q more

  pub begins : {s t : BoardState O C R} → IsRuled obj s → IsRun obj s t → IsPrefix (history_of obj s) (history_of obj t)
  begins {s} r stop = prefix_self (history_of obj s)
  begins {s} {t = u} r (move {t} m q more) = prefix_trans (history_of obj s) (history_of obj t) (history_of obj u) (move-begins s t r q m) (begins q more)

  -- The calls of a session in the history.

  pub accounted : (s : BoardState O C R) → IsRuled obj s → (i : ℕ) (answers : List (Answered C R)) (pending : Option (Pending C)) → HasCollected s i answers pending → IsAccounted obj s i answers pending
  accounted s r i answers pending has =
      let o = r.records in
      let d = own-of s o i answers pending has in
      subst (λ (h : List (Entry C R)). IsAccountedIn h i answers pending) (is-history s o)
      (subst (λ (l : List (Answered C R)). IsAccountedIn o.history i l pending) d.answers_are
      (subst (λ (p : Option (Pending C)). IsAccountedIn o.history i (own_at o.owns i).collected p) d.pending_is
      (account-of o.history i (word s i) (home s i) (own_at o.owns i) (o.stands i d.some d.small))))

module _ {C R : Type 0} where
  -- The order in time.

  member-append : (x : Answered C R) (xs ys : List (Answered C R)) → Member x xs → Member x (xs ++ ys)
  member-append x [] ys h = absurd h
  member-append x (z ∷ zs) ys (inl e) = inl e
  member-append x (z ∷ zs) ys (inr m) = inr (member-append x zs ys m)

  pub there : (h : List (Entry C R)) (n : ℕ) (e : Entry C R) → slice_get h n ≡ Some e → n < length h
  there [] n e is = absurd (cc is)
  there (x ∷ xs) zero e is = omega arith
  there (x ∷ xs) (suc n) e is = omega (arith, there xs n e is)

module _ {O C R : Type 0} {obj : Ghosts O C R} where
  -- An answer that a session collected has its place in the history.
  pub stood : (s : BoardState O C R) → IsRuled obj s → (i : ℕ) (answers : List (Answered C R)) (pending : Option (Pending C)) → HasCollected s i answers pending → (x : Answered C R) → Contains answers x → x.place < length (history_of obj s)
  stood s r i answers pending has x c = elim (accounted s r i answers pending has) [
    | inl calls ↦ at (subst (λ (l : List (Answered C R)). Member x l) (sym calls) (contains-member x answers c))
    | inr k ↦ at (subst (λ (l : List (Answered C R)). Member x l) (sym k.6) (member-append x answers (answer k.2 k.0 k.3 ∷ []) (contains-member x answers c)))
  ]
    where
      at : Member x (calls_of i (history_of obj s)) → x.place < length (history_of obj s)
      at m = there (history_of obj s) x.place (entry i x.call x.reply) (contains-entry i (history_of obj s) x (member-contains x (calls_of i (history_of obj s)) m))

module _ {C R : Type 0} where
  late-place : (i k : ℕ) (h : List (Entry C R)) (y : Answered C R) → Member y (calls_from i k h) → k ≤ y.place
  late-place i k [] y m = absurd m
  late-place i k (x ∷ xs) y m = go (λ h. let n = late-place i (k + 1) xs y h in omega (arith, n)) (eqb x.session i) m
    where
      go : (Member y (calls_from i (k + 1) xs) → k ≤ y.place) → (b : Bool) → Member y (cond b (answer k x.call x.reply ∷ calls_from i (k + 1) xs) (calls_from i (k + 1) xs)) → k ≤ y.place
      go deep true (inl e) = omega (arith, ap (λ (a : Answered C R). a.place) e)
      go deep true (inr n) = deep n
      go deep false n = deep n

  -- An element at or behind the length of the first list is one of the second.
  in-second : (xs zs before : List (Answered C R)) (y : Answered C R) (rest : List (Answered C R)) → xs ++ zs ≡ before ++ y ∷ rest → length xs ≤ length before → Member y zs
  in-second [] zs before y rest e le = subst (Member y) (sym e) (among before)
    where
      among : (l : List (Answered C R)) → Member y (l ++ y ∷ rest)
      among [] = inl refl
      among (w ∷ ws) = inr (among ws)
  in-second (a ∷ xs) zs [] y rest e le = absurd (omega arith)
  in-second (a ∷ xs) zs (b ∷ before) y rest e le = in-second xs zs before y rest (cc e) (omega arith)

module _ {O C R : Type 0} (obj : Ghosts O C R) where
  few-made : (s : BoardState O C R) (i : ℕ) (answers : List (Answered C R)) (pending : Option (Pending C)) → IsAccounted obj s i answers pending → length (calls_of i (history_of obj s)) ≤ calls_made answers pending
  few-made s i answers pending (inl calls) = omega (arith, ap (λ (l : List (Answered C R)). length l) calls)
  few-made s i answers pending (inr k) = omega (arith, ap (λ (l : List (Answered C R)). length l) k.6, length-append answers (answer k.2 k.0 k.3 ∷ []), ap {B = ℕ} (λ (p : Option (Pending C)). cond (is_some p) 1 0) k.4)

module _ {O C R : Type 0} {obj : Ghosts O C R} where
  -- A call published or entered directly after a state has a place behind the whole history of that state, collected or not.
  pub behind-all : (s t : BoardState O C R) → IsRuled obj s → IsRun obj s t → (j : ℕ) (mine later : List (Answered C R)) (my_pending later_pending : Option (Pending C)) → HasCollected s j mine my_pending → HasCollected t j later later_pending
      → (y : Answered C R) (before behind : List (Answered C R)) → calls_of j (history_of obj t) ≡ before ++ y ∷ behind → calls_made mine my_pending ≤ length before → length (history_of obj s) ≤ y.place
  behind-all s t r leads j mine later my_pending later_pending has then_has y before behind is le =
      let b = begins r leads in
      let n = few-made obj s j mine my_pending (accounted s r j mine my_pending has) in
      let whole : calls_from j 0 (history_of obj s) ++ calls_from j (0 + length (history_of obj s)) b.0 ≡ before ++ y ∷ behind
      = sym (calls_from-append j 0 (history_of obj s) b.0) ∙ (ap (calls_of j) b.1 ∙ is) in
      let m = in-second (calls_from j 0 (history_of obj s)) (calls_from j (0 + length (history_of obj s)) b.0) before y behind whole (omega (arith, n, le)) in
      let p = late-place j (0 + length (history_of obj s)) b.0 y m in
      omega (arith, p)

  -- The same for a collected call.
  behind-collected : (s t : BoardState O C R) → IsRuled obj s → IsRun obj s t → (j : ℕ) (mine later : List (Answered C R)) (my_pending later_pending : Option (Pending C)) → HasCollected s j mine my_pending → HasCollected t j later later_pending
      → (y : Answered C R) (before behind : List (Answered C R)) → later ≡ before ++ y ∷ behind → calls_made mine my_pending ≤ length before → length (history_of obj s) ≤ y.place
  behind-collected s t r leads j mine later my_pending later_pending has then_has y before behind is le = elim (accounted t (still-ruled r leads) j later later_pending then_has) [
    | inl calls ↦ behind-all s t r leads j mine later my_pending later_pending has then_has y before behind (calls ∙ is) le
    | inr k ↦ behind-all s t r leads j mine later my_pending later_pending has then_has y before (behind ++ answer k.2 k.0 k.3 ∷ [])
        (k.6 ∙ (ap (λ (l : List (Answered C R)). l ++ answer k.2 k.0 k.3 ∷ []) is ∙ append_assoc before (y ∷ behind) (answer k.2 k.0 k.3 ∷ []))) le
  ]

  pub in-time : (s t : BoardState O C R) → IsRuled obj s → IsRun obj s t → RespectsRealTime obj s t
  in-time s t r leads i j theirs mine later their_pending my_pending later_pending a b c x y before behind contained is le =
      let p = stood s r i theirs their_pending a x contained in
      let q = behind-collected s t r leads j mine later my_pending later_pending b c y before behind is le in
      omega (arith, p, q)
