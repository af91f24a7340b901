-- Whose wait the calls of a batch have ended, said of its entries.
use Rattle.std.proofs.Common.{◌≡◌, ℕ, ◌≤◌, ◌↔◌, ◌⊎◌, inl, inr, ⊎_elim, Bool, true, eqb, ◌||◌, List, [], ◌∷◌, ◌++◌, length, map, take, drop, filter, Contains, refl, sym, ap, ◌∙◌, subst, arith}
use Rattle.std.specs.List.{range_with_len, list_any}
use Rattle.std.proofs.lemmas.Bool.{or_cases, or_left, or_right}
use Rattle.std.proofs.Math.Bool.{or-false}
use Rattle.std.proofs.Math.Seq.{drop-append_seam, take-append_seam}
use Rattle.sequential.specs.Batches.{item_of}
use Rattle.sequential.specs.EndedWaits.{HasEndedIn}
use Rattle.sequential.proofs.Members.{contains-member, member-contains}
use Rattle.lock_rules.specs.Entries.{Entry}
use Rattle.lock_rules.specs.State.{State, empty}
use Rattle.lock_rules.specs.Step.{step}
use Rattle.lock_rules.specs.declared.calls.Call.{Call}
use Rattle.lock_rules.specs.declared.calls.Reply.{Reply}
use Rattle.lock_rules.specs.Ended.{has_ended, ended_waits, HasEnded}
use Rattle.lock_rules.specs.Legal.{state_after, state_of}
use Rattle.lock_rules.proofs.Histories.{state_after-append}
use Rattle.lock_rules.proofs.Ended.{ended-decides}
use Rattle.sequential.proofs.Ranges.{member-range}
use Rattle.lock_desk.specs.BookView.{BookView}
use Rattle.programs.proofs.GoingOn.{TellsBy, tells-more, tells-none}
use Rattle.lock_desk.specs.Batches.{Item, entries_from, has_ended_in, ended_waits_in, ended_waits_beside, ends_wait, TellsFrom}
use Rattle.lock_holders.proofs.FilteredNumbers.{among, any-contains}

-- The entries of calls have ended the same waits as the calls.
pub same-ended : (st : State) (is : List Item) (u : ℕ) → has_ended_in st is u ≡ has_ended_in st (map item_of (entries_from st is)) u
same-ended st [] u = refl
same-ended st (i ∷ is) u = ap (λ (b : Bool). has_ended i.session st (step st i.session i.call).state u || b) (same-ended (step st i.session i.call).state is u)

-- From this state on, one of these entries has ended the wait of session u.
abbrev EndedFrom : State → List Entry → ℕ → Type 0
EndedFrom st es u = (earlier later : List Entry) × (e : Entry) × (es ≡ earlier ++ e ∷ later) × (HasEnded e.session (state_after st earlier) (step (state_after st earlier) e.session e.call).state u)

ended-from : (st : State) (es : List Entry) (u : ℕ) → has_ended_in st (map item_of es) u ≡ true → EndedFrom st es u
ended-from st [] u h = absurd (cc h)
ended-from st (e ∷ es) u h =
    let next : State = (step st e.session e.call).state in
    ⊎_elim (λ now. ([], es, e, refl, (ended-decides e.session st next u).0 now))
    (λ later. let r = ended-from next es u later in (e ∷ r.0, r.1, r.2, ap (λ (l : List Entry). e ∷ l) r.3, r.4))
    (or_cases (has_ended e.session st next u) (has_ended_in next (map item_of es) u) h)

from-ended : (st : State) (earlier later : List Entry) (e : Entry) (u : ℕ) → HasEnded e.session (state_after st earlier) (step (state_after st earlier) e.session e.call).state u
    → has_ended_in st (map item_of (earlier ++ e ∷ later)) u ≡ true
from-ended st [] later e u h =
    let next : State = (step st e.session e.call).state in
    or_left (has_ended e.session st next u) (has_ended_in next (map item_of later) u) ((ended-decides e.session st next u).1 h)
from-ended st (x ∷ xs) later e u h =
    let next : State = (step st x.session x.call).state in
    or_right (has_ended x.session st next u) (has_ended_in next (map item_of (xs ++ e ∷ later)) u) (from-ended next xs later e u h)

-- One of these entries has ended the wait of session u exactly if has_ended_in says so.
pub ended-says : (front es : List Entry) (u : ℕ) → (has_ended_in (state_of front) (map item_of es) u ≡ true) ↔ HasEndedIn ends_wait front es u
ended-says front es u = (
  λ h. let r = ended-from (state_of front) es u h in
      record {
        earlier = r.0;
        entry = r.2;
        later = r.1;
        entries_are = r.3;
        ended = subst (λ (st : State). HasEnded r.2.session st (step st r.2.session r.2.call).state u) (sym (behind front r.0)) r.4;
      },
  λ k. subst (λ (l : List Entry). has_ended_in (state_of front) (map item_of l) u ≡ true) (sym k.entries_are)
      (from-ended (state_of front) k.earlier k.later k.entry u (subst (λ (st : State). HasEnded k.entry.session st (step st k.entry.session k.entry.call).state u) (behind front k.earlier) k.ended)),
)
  where
    behind : (f earlier : List Entry) → state_of (f ++ earlier) ≡ state_after (state_of f) earlier
    behind f earlier = state_after-append f earlier empty

-- The sessions that the book tells are those from 1 to n whose wait one of the entries has ended.
pub members : (n : ℕ) (front es : List Entry) (u : ℕ) → Contains (ended_waits_in n (state_of front) (map item_of es)) u ↔ ((1 ≤ u) × (u ≤ n) × HasEndedIn ends_wait front es u)
members n front es u =
    let p = has_ended_in (state_of front) (map item_of es) in
    let m = member-range p n 1 u in
    let d = ended-says front es u in (
      λ h. let k = m.0 (contains-member u (ended_waits_in n (state_of front) (map item_of es)) h) in let l = k.1 in (k.0, omega (arith, l), d.0 k.2),
      λ h. let l = h.1 in member-contains u (ended_waits_in n (state_of front) (map item_of es)) (m.1 (h.0, omega (arith, l), d.1 h.2)),
    )

-- A book that tells whose wait these entries have ended, which follow this front of its history.
tells-behind : (book : BookView) (front es : List Entry) → book.history ≡ front ++ es → book.ended ≡ ended_waits_in book.sessions (state_of front) (map item_of es) → TellsFrom book (length front)
tells-behind book front es whole listed u =
    let ahead : take (length front) book.history ≡ front = ap (λ (l : List Entry). take (length front) l) whole ∙ take-append_seam front es in
    let gained : drop (length front) book.history ≡ es = ap (λ (l : List Entry). drop (length front) l) whole ∙ drop-append_seam front es in
    let m = subst (λ (l : List ℕ). Contains l u ↔ ((1 ≤ u) × (u ≤ book.sessions) × HasEndedIn ends_wait front es u)) (sym listed) (members book.sessions front es u) in
    let k = subst (λ (f : List Entry). Contains book.ended u ↔ ((1 ≤ u) × (u ≤ book.sessions) × HasEndedIn ends_wait f es u)) (sym ahead) m in
    subst (λ (l : List Entry). Contains book.ended u ↔ ((1 ≤ u) × (u ≤ book.sessions) × HasEndedIn ends_wait (take (length front) book.history) l u)) (sym gained) k

-- After a batch, the book tells exactly the sessions whose wait its entries have ended.
pub batch-tells : (before after : BookView) (is : List Item)
    → after ≡ record before { history = before.history ++ entries_from (state_of before.history) is; ended = ended_waits_in before.sessions (state_of before.history) is } → TellsFrom after (length before.history)
batch-tells before after is same =
    let st : State = state_of before.history in
    let es : List Entry = entries_from st is in
    let entered : ended_waits_in before.sessions st is ≡ ended_waits_in before.sessions st (map item_of es) = λ i. filter (λ v. same-ended st is v i) (range_with_len 1 before.sessions) in
    let many : before.sessions ≡ after.sessions = sym (ap (λ (b : BookView). b.sessions) same) in
    tells-behind after before.history es (ap (λ (b : BookView). b.history) same)
    (ap (λ (b : BookView). b.ended) same ∙ (entered ∙ ap (λ (n : ℕ). ended_waits_in n st (map item_of es)) many))

-- After a call, the book tells exactly the sessions whose wait its entry has ended.
pub call-tells : (before after : BookView) (session : ℕ) (call : Call) (reply : Reply)
    → after ≡ record before {
      history = before.history ++ record { session = session; call = call; reply = reply } ∷ [];
      ended = ended_waits before.sessions session (state_of before.history) (step (state_of before.history) session call).state;
    } → TellsFrom after (length before.history)
call-tells before after session call reply same =
    let st : State = state_of before.history in
    let next : State = (step st session call).state in
    let e : Entry = record { session = session; call = call; reply = reply } in
    let one : ended_waits before.sessions session st next ≡ ended_waits_in before.sessions st (map item_of (e ∷ [])) =
    λ i. filter (λ v. sym (or-false (has_ended session st next v)) i) (range_with_len 1 before.sessions) in
    let many : before.sessions ≡ after.sessions = sym (ap (λ (b : BookView). b.sessions) same) in
    tells-behind after before.history (e ∷ []) (ap (λ (b : BookView). b.history) same)
    (ap (λ (b : BookView). b.ended) same ∙ (one ∙ ap (λ (n : ℕ). ended_waits_in n st (map item_of (e ∷ []))) many))

-- A call that is served on adds those whose wait its entry has ended to those that the book tells.
pub beside-tells : (before after : BookView) (session : ℕ) (call : Call) (reply : Reply)
    → after ≡ record before {
      history = before.history ++ record { session = session; call = call; reply = reply } ∷ [];
      ended = ended_waits_beside before.sessions before.ended session (state_of before.history) (step (state_of before.history) session call).state;
    } → (from : ℕ) → from ≤ length before.history → TellsFrom before from → TellsFrom after from
beside-tells before after session call reply same from few told =
    let st : State = state_of before.history in
    let next : State = (step st session call).state in
    let n = before.sessions in
    let e : Entry = record { session = session; call = call; reply = reply } in
    let test : ℕ → Bool = λ u. list_any (λ v. eqb v u) before.ended || has_ended session st next u in
    let longer : List ℕ = ended_waits_beside n before.ended session st next in
    let grown : (u : ℕ) → Contains longer u ↔ (Contains before.ended u ⊎ ((1 ≤ u) × (u ≤ n) × ends_wait before.history e u))
    = λ u. let among_them = among test n u in (
      λ c. let k = among_them.0 c in ⊎_elim
          (λ a. inl ((any-contains before.ended u).0 a))
          (λ b. inr (k.0, k.1, (ended-decides session st next u).0 b))
          (or_cases (list_any (λ v. eqb v u) before.ended) (has_ended session st next u) k.2),
      λ d. ⊎_elim
          (λ a. let t = (told u).0 a in among_them.1 (t.0, t.1, or_left (list_any (λ v. eqb v u) before.ended) (has_ended session st next u) ((any-contains before.ended u).1 a)))
          (λ b. among_them.1 (b.0, b.1, or_right (list_any (λ v. eqb v u) before.ended) (has_ended session st next u) ((ended-decides session st next u).1 b.2)))
          d,
    ) in
    let more : TellsBy ends_wait n longer (before.history ++ e ∷ []) from = tells-more ends_wait n before.ended longer before.history e grown from few told in
    subst (λ (b : BookView). TellsFrom b from) (sym same) more

-- A book that tells no session tells of no call.
pub tells-nothing : (before after : BookView) → after ≡ record before { ended = [] } → TellsFrom after (length before.history)
tells-nothing before after same = subst (λ (b : BookView). TellsFrom b (length before.history)) (sym same) (tells-none ends_wait before.sessions before.history)
