-- A whole call of a session: what it knows from turn to turn, and at its end.
use Rattle.std.proofs.Common.{◌≡◌, ◌≢◌, ℕ, ◌+◌, ◌⊎◌, inl, inr, ⊎_elim, Bool, true, Option, Some, None, List, [], ◌∷◌, ◌++◌, length, refl, sym, ap, ◌∙◌, subst, arith, append_assoc, length-append}
use Rattle.std.specs.List.{range_with_len}
use mathlib.Core.List.{IsPrefix}
use mathlib.Core.Option as opt
use lib.ListN.{get_elem?}
use Rattle.sequential.specs.declared.entry.Entry.{Entry}
use Rattle.sequential.specs.Histories.{Answered, calls_of}
use Rattle.publication.specs.Views.{TicketView, Pending, entry, answer, asks}
use Rattle.publication.specs.Boards.{publishing, enlisted, tried}
use Rattle.publication.proofs.Lists.{prefix_self, prefix_trans}
use Rattle.combining.proofs.EndedWaits.{elem-seam}
use Rattle.combining.specs.declared.office.Answer.{Answer}
use Rattle.combining.specs.declared.calling.CallOutcome.{CallOutcome}
use Rattle.combining.specs.declared.calling.CallOutcome.TheVariants.{Answered as IsDone, Starved as HasNone, Wait as Waits}
use Rattle.combining.specs.Sessions.{HasTriedToList, IsPassed, IsCollected, IsPerformed, IsRefused}
use Rattle.publication.specs.declared.board.Posted.{Posted}
use Rattle.publication.specs.declared.board.Posted.TheVariants.{Listed, Unlisted}
use Rattle.combining.specs.Calls.{HasGoneOn}
use Rattle.combining.specs.Woken.{IsNotedUpTo}
use Rattle.combining.specs.Calls.{later, IsWaitingOn, IsAnswered, IsCalled, IsCalling}
use Rattle.sequential.specs.declared.object.Sequential.{Ghosts}

module _ {C R : Type 0} where
  -- A session of which nothing else changed than a turn may change is as `later` has it.
  pub fits : (t u : TicketView C R) (q : Option (Pending C)) (cs : List (Answered C R)) (f : List (Entry C R)) (h : List ℕ) (l : Bool) (n p : ℕ) (m : List ℕ)
      → u ≡ record t { pending = q; collected = cs; front = f; heard = h; listed = l; tries = n; put_backs = p; entered = m } → u ≡ later t q cs u
  fits t u q cs f h l n p m is = is ∙ ap
      (λ (k : List (Entry C R) × (List ℕ × (Bool × (ℕ × (ℕ × List ℕ))))). record t { pending = q; collected = cs; front = k.0; heard = k.1.0; listed = k.1.1.0; tries = k.1.1.1.0; put_backs = k.1.1.1.1.0; entered = k.1.1.1.1.1 })
      (sym (ap (λ (x : TicketView C R). (x.front, (x.heard, (x.listed, (x.tries, (x.put_backs, x.entered)))))) is))

  -- A front that stays begins itself.
  stays : (t u : TicketView C R) (f : List (Entry C R)) → u.front ≡ f → IsPrefix t.front f → IsPrefix t.front u.front
  stays t u f is longer = subst (λ (l : List (Entry C R)). IsPrefix t.front l) (sym is) longer

  -- So do places that stay.
  keeps : (t u : TicketView C R) → u.entered ≡ t.entered → IsPrefix t.entered u.entered
  keeps t u is = subst (λ (l : List ℕ). IsPrefix t.entered l) (sym is) (prefix_self t.entered)

  -- A session that tried once more to have its call listed goes on waiting.
  pub waiting-tried : (t u : TicketView C R) → HasTriedToList t u → IsWaitingOn t u
  waiting-tried t u h = ⊎_elim
      (λ a. ⊎_elim
      (λ is. from t.heard t.listed (t.tries + 1) is)
      (λ is. from (enlisted t).heard true (t.tries + 1) is)
      a.1)
      (λ b. from t.heard t.listed t.tries b.1)
      h
    where
      from : (h : List ℕ) (l : Bool) (n : ℕ) → u ≡ record t { heard = h; listed = l; tries = n } → IsWaitingOn t u
      from h l n is = record {
        session = fits t u t.pending t.collected t.front h l n t.put_backs t.entered is;
        longer = stays t u t.front (ap (λ (x : TicketView C R). x.front) is) (prefix_self t.front);
        entered = keeps t u (ap (λ (x : TicketView C R). x.entered) is);
      }

  -- Waiting goes on.
  pub waiting-trans : (t u v : TicketView C R) → IsWaitingOn t u → IsWaitingOn u v → IsWaitingOn t v
  waiting-trans t u v first last = record {
    session = fits t v t.pending t.collected v.front v.heard v.listed v.tries v.put_backs v.entered
        (last.session ∙ ap (λ (x : TicketView C R). later x x.pending x.collected v) first.session);
    longer = prefix_trans t.front u.front v.front first.longer last.longer;
    entered = prefix_trans t.entered u.entered v.entered first.entered last.entered;
  }

module _ {O C R : Type 0} {obj : Ghosts O C R} where
  -- A session that made a pass goes on waiting.
  pub waiting-passed : (t u : TicketView C R) (served : ℕ) → IsPassed obj t u served → IsWaitingOn t u
  waiting-passed t u served p =
      let first = waiting-tried t p.between p.is_tried in
      record {
        session = fits t u t.pending t.collected u.front p.between.heard p.between.listed p.between.tries u.put_backs u.entered
            (p.session ∙ ap (λ (x : TicketView C R). record x { front = u.front; put_backs = u.put_backs; entered = u.entered }) first.session);
        longer = (p.others ++ p.own, sym (p.front ∙ append_assoc t.front p.others p.own));
        entered = (range_with_len (length (t.front ++ p.others)) served, sym p.entered);
      }

  -- A session that waited collects its answer.
  pub collects : (t u v : TicketView C R) (place : ℕ) (reply : R) → IsWaitingOn t u → IsCollected obj u v place reply → IsAnswered obj t v place reply
  collects t u v place reply w c =
      let number : u.number ≡ t.number = ap (λ (x : TicketView C R). x.number) w.session in
      let pending : u.pending ≡ t.pending = ap (λ (x : TicketView C R). x.pending) w.session in
      let collected : u.collected ≡ t.collected = ap (λ (x : TicketView C R). x.collected) w.session in (
        c.call,
        c.floor,
        sym pending ∙ c.pending,
        record {
          session = fits t v None (t.collected ++ answer place c.call reply ∷ []) v.front u.heard u.listed u.tries u.put_backs u.entered
              (c.session ∙ (ap (λ (x : TicketView C R). record x { front = v.front; pending = None; collected = u.collected ++ answer place c.call reply ∷ [] }) w.session
              ∙ ap (λ (l : List (Answered C R)). record (later t t.pending t.collected u) { front = v.front; pending = None; collected = l ++ answer place c.call reply ∷ [] }) collected));
          longer = prefix_trans t.front u.front v.front w.longer c.longer;
          entered = subst (λ (l : List ℕ). IsPrefix t.entered l) (sym (ap (λ (x : TicketView C R). x.entered) c.session)) w.entered;
          legal = c.legal;
          stands = subst (λ (n : ℕ). get_elem? v.front place ≡ opt.some (entry n c.call reply)) number c.stands;
          late = c.late;
          calls = subst (λ (n : ℕ). calls_of n v.front ≡ v.collected) number c.calls;
        },
      )

module _ {C R : Type 0} where
  -- The idle session that published a call.
  pub posted-waits : (t u : TicketView C R) (call : C) → (u ≡ enlisted (publishing t call)) ⊎ ((u ≡ tried (enlisted (publishing t call))) ⊎ (u ≡ tried (publishing t call))) → IsWaitingOn (publishing t call) u
  posted-waits t u call h = ⊎_elim
      (λ is. from (enlisted p).heard true p.tries is)
      (λ r. ⊎_elim (λ is. from (enlisted p).heard true (p.tries + 1) is) (λ is. from p.heard p.listed (p.tries + 1) is) r)
      h
    where
      p : TicketView C R
      p = publishing t call

      from : (h : List ℕ) (l : Bool) (n : ℕ) → u ≡ record p { heard = h; listed = l; tries = n } → IsWaitingOn p u
      from h l n is = record {
        session = fits p u p.pending p.collected p.front h l n p.put_backs p.entered is;
        longer = stays p u p.front (ap (λ (x : TicketView C R). x.front) is) (prefix_self p.front);
        entered = keeps p u (ap (λ (x : TicketView C R). x.entered) is);
      }

module _ {O C R : Type 0} {obj : Ghosts O C R} where
  -- The call that an idle session published waits for its answer.
  pub published : (s t v : TicketView C R) (call : C) → IsRefused obj s t ⊎ (t ≡ s) → IsWaitingOn (publishing t call) v → IsCalling s v call
  published s t v call before w = ⊎_elim (λ r. from t.front t.put_backs t.entered r.session r.longer (range_with_len (length (s.front ++ r.others)) (length r.own), sym r.entered))
      (λ is. from s.front s.put_backs s.entered is (prefix_self s.front) (prefix_self s.entered)) before
    where
      from : (f : List (Entry C R)) (n : ℕ) (m : List ℕ) → t ≡ record s { front = f; put_backs = n; entered = m } → IsPrefix s.front f → IsPrefix s.entered m → IsCalling s v call
      from f n m is longer more =
          let front : t.front ≡ f = ap (λ (x : TicketView C R). x.front) is in
          let grown : IsPrefix s.front t.front = subst (λ (l : List (Entry C R)). IsPrefix s.front l) (sym front) longer in
          record {
            floor = length t.front;
            session = fits s v (Some (asks call (length t.front))) s.collected v.front v.heard v.listed v.tries v.put_backs v.entered
                (w.session ∙ ap (λ (x : TicketView C R). record x { pending = Some (asks call (length t.front)); front = v.front; heard = v.heard; listed = v.listed; tries = v.tries; put_backs = v.put_backs; entered = v.entered }) is);
            longer = prefix_trans s.front t.front v.front grown w.longer;
            entered = prefix_trans s.entered t.entered v.entered (subst (λ (l : List ℕ). IsPrefix s.entered l) (sym (ap (λ (x : TicketView C R). x.entered) is)) more) w.entered;
            late = omega (arith, ap (λ (l : List (Entry C R)). length l) grown.1, length-append s.front grown.0);
          }

module _ {O C R : Type 0} {obj : Ghosts O C R} where
  -- A call that the session performed at once is answered.
  pub performed-called : (first : Bool) (t u : TicketView C R) (call : C) (place : ℕ) (reply : R) (served : ℕ) → t.pending ≡ None → IsPerformed obj first t u call place reply served → IsCalled obj t u call place reply
  performed-called first t u call place reply served idle p =
      let ahead : List (Entry C R) = t.front ++ p.others ++ p.ahead in
      let e : Entry C R = entry t.number call reply in record {
        session = fits t u None (t.collected ++ answer place call reply ∷ []) u.front t.heard t.listed t.tries u.put_backs u.entered
            (p.session ∙ ap (λ (q : Option (Pending C)). record t { pending = q; collected = t.collected ++ answer place call reply ∷ []; front = u.front; put_backs = u.put_backs; entered = u.entered }) idle);
        longer = (p.others ++ p.ahead ++ e ∷ p.behind, whole);
        entered = (range_with_len (length (t.front ++ p.others)) (served + 1), sym p.entered);
        legal = p.legal;
        stands = subst (λ (l : List (Entry C R)). get_elem? l place ≡ opt.some e) (sym p.front) (subst (λ (n : ℕ). get_elem? (ahead ++ e ∷ p.behind) n ≡ opt.some e) (sym p.place_is) (elem-seam ahead e p.behind));
        late = omega (arith, p.place_is, length-append (t.front ++ p.others) p.ahead, length-append t.front p.others);
        calls = p.calls;
      }
    where
      whole : t.front ++ (p.others ++ p.ahead ++ entry t.number call reply ∷ p.behind) ≡ u.front
      whole = sym (p.front ∙ (append_assoc (t.front ++ p.others) p.ahead (entry t.number call reply ∷ p.behind) ∙ (append_assoc t.front p.others (p.ahead ++ entry t.number call reply ∷ p.behind)
          ∙ ap (λ (l : List (Entry C R)). t.front ++ l) (sym (append_assoc p.others p.ahead (entry t.number call reply ∷ p.behind))))))

-- What was published, whether or not it is listed.
pub posted-cases : {A B D E : Type 0} (p : Posted) → (p ≡ Listed → A ⊎ B) → (p ≡ Unlisted → D × E) → A ⊎ (B ⊎ D)
posted-cases Listed listed unlisted = ⊎_elim (λ a. inl a) (λ b. inr (inl b)) (listed refl)
posted-cases Unlisted listed unlisted = inr (inr (unlisted refl).0)

module _ {C R : Type 0} where
  -- A session that published a call knows what it knew, and has entered what it had.
  pub posted-same : (t u : TicketView C R) (call : C) → (u ≡ enlisted (publishing t call)) ⊎ ((u ≡ tried (enlisted (publishing t call))) ⊎ (u ≡ tried (publishing t call))) → (u.front ≡ t.front) × (u.entered ≡ t.entered)
  posted-same t u call h = ⊎_elim (λ is. both is) (λ r. ⊎_elim (λ is. both is) (λ is. both is) r) h
    where
      both : {w : TicketView C R} → u ≡ w → (u.front ≡ w.front) × (u.entered ≡ w.entered)
      both is = (ap (λ (x : TicketView C R). x.front) is, ap (λ (x : TicketView C R). x.entered) is)

  -- A session whose call was performed, or for which memory was refused, has gone on.
  pub waiting-on : (t u : TicketView C R) → IsWaitingOn t u → HasGoneOn t u
  waiting-on t u w = record { longer = w.longer; entered = w.entered }

  pub on-trans : (t u v : TicketView C R) → HasGoneOn t u → HasGoneOn u v → HasGoneOn t v
  on-trans t u v first later = record { longer = prefix_trans t.front u.front v.front first.longer later.longer; entered = prefix_trans t.entered u.entered v.entered first.entered later.entered }

  pub on-same : (t u : TicketView C R) → u.front ≡ t.front → u.entered ≡ t.entered → HasGoneOn t u
  on-same t u front entered = record { longer = stays t u t.front front (prefix_self t.front); entered = keeps t u entered }

module _ {O C R : Type 0} {obj : Ghosts O C R} where
  pub refused-on : (t u : TicketView C R) → IsRefused obj t u → HasGoneOn t u
  refused-on t u r = record { longer = r.longer; entered = (range_with_len (length (t.front ++ r.others)) (length r.own), sym r.entered) }

  pub collected-on : (t u : TicketView C R) (place : ℕ) (reply : R) → IsCollected obj t u place reply → HasGoneOn t u
  collected-on t u place reply c = record { longer = c.longer; entered = keeps t u (ap (λ (x : TicketView C R). x.entered) c.session) }

module _ {C R : Type 0} where
  -- A session with its call published has it pending.
  pub calling-pending : (t u : TicketView C R) (call : C) → IsCalling t u call → u.pending ≢ None
  calling-pending t u call k none = let some : u.pending ≡ Some (asks call k.floor) = ap (λ (x : TicketView C R). x.pending) k.session in absurd (cc (some, none))

  -- It goes on waiting.
  pub calling-on : (t u v : TicketView C R) (call : C) → IsCalling t u call → IsWaitingOn u v → IsCalling t v call
  calling-on t u v call k w = record {
    floor = k.floor;
    session = fits t v (Some (asks call k.floor)) t.collected v.front v.heard v.listed v.tries v.put_backs v.entered
        (w.session ∙ ap (λ (x : TicketView C R). later x x.pending x.collected v) k.session);
    longer = prefix_trans t.front u.front v.front k.longer w.longer;
    entered = prefix_trans t.entered u.entered v.entered k.entered w.entered;
    late = k.late;
  }

  pub calling-gone : (t u : TicketView C R) (call : C) → IsCalling t u call → HasGoneOn t u
  calling-gone t u call k = record { longer = k.longer; entered = k.entered }

module _ {O C R : Type 0} {obj : Ghosts O C R} where
  -- It is answered.
  pub calling-answered : (t u v : TicketView C R) (call : C) (place : ℕ) (reply : R) → IsCalling t u call → IsAnswered obj u v place reply → IsCalled obj t v call place reply
  calling-answered t u v call place reply k a =
      let known : C = a.0 in
      let floor : ℕ = a.1 in
      let at = a.3 in
      let number : u.number ≡ t.number = ap (λ (x : TicketView C R). x.number) k.session in
      let asked : Some (asks known floor) ≡ Some (asks call k.floor) = sym a.2 ∙ ap (λ (x : TicketView C R). x.pending) k.session in
      let both : asks known floor ≡ asks call k.floor = cc asked in
      let same : known ≡ call = ap (λ (q : Pending C). q.call) both in
      let from : floor ≡ k.floor = ap (λ (q : Pending C). q.floor) both in
      record {
        session = fits t v None (t.collected ++ answer place call reply ∷ []) v.front v.heard v.listed v.tries v.put_backs v.entered
            (at.session ∙ (ap (λ (x : TicketView C R). later x None (x.collected ++ answer place known reply ∷ []) v) k.session
            ∙ ap (λ (x : C). later t None (t.collected ++ answer place x reply ∷ []) v) same));
        longer = prefix_trans t.front u.front v.front k.longer at.longer;
        entered = prefix_trans t.entered u.entered v.entered k.entered at.entered;
        legal = at.legal;
        stands = subst (λ (x : C). get_elem? v.front place ≡ opt.some (entry t.number x reply)) same (subst (λ (n : ℕ). get_elem? v.front place ≡ opt.some (entry n known reply)) number at.stands);
        late = omega (arith, at.late, from, k.late);
        calls = subst (λ (n : ℕ). calls_of n v.front ≡ v.collected) number at.calls;
      }

  pub called-on : (t u : TicketView C R) (call : C) (place : ℕ) (reply : R) → IsCalled obj t u call place reply → HasGoneOn t u
  called-on t u call place reply k = record { longer = k.longer; entered = k.entered }

-- What holds whichever the outcome of a turn is.
pub by-next : {R P : Type 0} (r : CallOutcome R) → ((a : Answer R) → r ≡ IsDone a → P) → (r ≡ HasNone → P) → (r ≡ Waits → P) → P
by-next (IsDone a) answered starved waits = answered a refl
by-next HasNone answered starved waits = starved refl
by-next Waits answered starved waits = waits refl

module _ {C R : Type 0} where
  -- A session whose call is published publishes calls as before.
  pub calling-live : (t u : TicketView C R) (call : C) → IsCalling t u call → u.retired ≡ t.retired
  calling-live t u call k = ap (λ (x : TicketView C R). x.retired) k.session

module _ {O C R : Type 0} {obj : Ghosts O C R} where
  -- What is noted behind the pass in which a call was performed is true of the front up to it.
  pub noted-performed : (first : Bool) (t u : TicketView C R) (call : C) (place : ℕ) (reply : R) (served : ℕ) (notes : List (Entry C R) → Type 0)
      → IsPerformed obj first t u call place reply served → notes u.front → IsNotedUpTo notes u.front (place + 1)
  noted-performed first t u call place reply served notes p noted =
      let ahead : List (Entry C R) = t.front ++ p.others ++ p.ahead in
      let n = ap (λ (l : List (Entry C R)). length l) p.front in
      let m = length-append ahead (entry t.number call reply ∷ p.behind) in
      record { front = u.front; noted = noted; longer = prefix_self u.front; length_is = omega (arith, n, m, p.place_is) }
