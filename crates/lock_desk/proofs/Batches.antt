-- A batch, one item further.
use Rattle.std.proofs.Common.{◌≡◌, ℕ, zero, suc, ◌+◌, ◌<◌, Bool, false, ◌||◌, filter, List, [], ◌∷◌, ◌++◌, Some, length, map, take, drop, get_or, set, sym, ap, arith, ◌∙◌, append_assoc, append-nil, refl, subst}
use Rattle.std.specs.List.{range_with_len}
use Rattle.std.proofs.Math.Bool.{or-false, or_assoc}
use Rattle.lock_rules.specs.declared.calls.Reply.{Reply}
use Rattle.lock_rules.specs.Entries.{Entry}
use Rattle.lock_rules.specs.State.{State, empty}
use Rattle.lock_rules.specs.Step.{step}
use Rattle.lock_rules.specs.Ended.{has_ended}
use Rattle.lock_rules.specs.Legal.{state_of, state_after}
use Rattle.lock_rules.proofs.Histories.{state_after-append}
use Rattle.lock_desk.specs.Batches.{Item, entries_from, has_ended_in, ended_waits_in}
use Rattle.lock_desk.specs.BookView.{BookView}
use Rattle.sequential.specs.Batches.{item_of}
use Rattle.lock_holders.specs.Woken.{WokenListView, is_ended, ended_in}
use Rattle.lock_desk.specs.inner.Served.{AreServed}
use Rattle.lock_holders.proofs.FilteredNumbers.{same-tests, same-numbers, no-numbers}

-- the entries of the first k items
abbrev pub entries_of_first : State → ℕ → List Item → List Entry
entries_of_first st k items = entries_from st (take k items)

-- the items after the first k are served
abbrev pub items_after : State → ℕ → List Item → List Item
items_after st k items = map item_of (entries_of_first st k items) ++ drop k items

-- the entry of an item with its reply
abbrev pub entry_of : Item → Reply → Entry
entry_of i reply = record { session = i.session; call = i.call; reply = reply }

-- the item with its reply
abbrev pub with_reply : Item → Reply → Item
with_reply i reply = record { session = i.session; call = i.call; reply = Some reply }

-- whether the call of an item ends the wait of session u
abbrev pub item_ends : State → Item → ℕ → Bool
item_ends st i u = has_ended i.session st (step st i.session i.call).state u

-- the next item is served with this reply: its entry is added, its reply is written, and the waits that it ends are added
pub record IsNext (st : State) (k : ℕ) (items : List Item) (i : Item) (reply : Reply) : Type 0 where
  pub entries : entries_of_first st (suc k) items ≡ entries_of_first st k items ++ entry_of i reply ∷ []
  pub written : set (items_after st k items) k (with_reply i reply) ≡ items_after st (suc k) items
  pub ended : (u : ℕ) → has_ended_in st (take (suc k) items) u ≡ (has_ended_in st (take k items) u || item_ends (state_after st (entries_of_first st k items)) i u)

-- the reply of the step in the state after the first k items serves the next item
pub next-item : (st : State) (items : List Item) (k : ℕ) (d : Item) (reply : Reply) → k < length items
    → reply ≡ (step (state_after st (entries_of_first st k items)) (get_or (items_after st k items) k d).session (get_or (items_after st k items) k d).call).reply
    → IsNext st k items (get_or (items_after st k items) k d) reply
next-item st [] k d reply h e = absurd (omega arith)
next-item st (x ∷ xs) zero d reply h e = record {
  entries = ap (λ (r : Reply). entry_of x r ∷ []) (sym e);
  written = ap (λ (r : Reply). with_reply x r ∷ xs) e;
  ended = λ u. or-false (item_ends st x u);
}
next-item st (x ∷ xs) (suc k) d reply h e =
    let after = (step st x.session x.call).state in
    let first : Entry = entry_of x (step st x.session x.call).reply in
    let n = next-item after xs k d reply (omega (arith, h)) e in
    record {
      entries = ap (λ (es : List Entry). first ∷ es) n.entries;
      written = ap (λ (is : List Item). item_of first ∷ is) n.written;
      ended = λ u. ap (λ (b : Bool). item_ends st x u || b) (n.ended u)
          ∙ sym (or_assoc (item_ends st x u) (has_ended_in after (take k xs) u) (item_ends (state_after after (entries_of_first after k xs)) (get_or (items_after after k xs) k d) u));
    }

-- serving changes no number of items
pub length-after : (st : State) (k : ℕ) (items : List Item) → length (items_after st k items) ≡ length items
length-after st zero items = refl
length-after st (suc k) [] = refl
length-after st (suc k) (x ∷ xs) = ap suc (length-after (step st x.session x.call).state k xs)

-- the waits that a call ends, beside those that the calls before it have ended
abbrev pub ended_also : ℕ → State → List Item → State → Item → List ℕ
ended_also n start items st i = filter (λ u. has_ended_in start items u || item_ends st i u) (range_with_len 1 n)

-- what a list has in addition to one with the waits that have ended before
pub ends-also : (n : ℕ) (start : State) (items : List Item) (st : State) (i : Item) (old new : ℕ → Bool) → filter old (range_with_len 1 n) ≡ ended_waits_in n start items → ((u : ℕ) → new u ≡ (old u || item_ends st i u))
    → filter new (range_with_len 1 n) ≡ ended_also n start items st i
ends-also n start items st i old new same h =
    same-numbers new (λ u. has_ended_in start items u || item_ends st i u) 1 n
    (λ u l k. h u ∙ ap (λ (b : Bool). b || item_ends st i u) (same-tests old (has_ended_in start items) n same u l (omega (arith, k))))

-- so of the list of a lock table
pub waits_ended-also : (n : ℕ) (start : State) (items : List Item) (st : State) (i : Item) (v w : WokenListView) → length v.places ≡ n → length w.places ≡ n → ended_in v ≡ ended_waits_in n start items
    → ((u : ℕ) → is_ended w u ≡ (is_ended v u || item_ends st i u)) → ended_in w ≡ ended_also n start items st i
waits_ended-also n start items st i v w long still same adds =
    ap (λ (m : ℕ). filter (is_ended w) (range_with_len 1 m)) still
    ∙ ends-also n start items st i (is_ended v) (is_ended w) (sym (ap (λ (m : ℕ). filter (is_ended v) (range_with_len 1 m)) long) ∙ same) adds

-- no item is served yet
pub served-none : (n : ℕ) (batch : List Item) (start : List Entry) → AreServed n 0 batch start [] start batch
served-none n batch start = record {
  few = omega arith;
  entries = sym (append-nil start);
  replies = refl;
  waits = sym (no-numbers (has_ended_in (state_of start) []) 1 n (λ u. refl));
}

-- in a book whose list of ended waits is empty
pub served-start : (b : BookView) (items : List Item) → b.ended ≡ [] → AreServed b.sessions 0 items b.history b.ended b.history items
served-start b items none = subst (λ (xs : List ℕ). AreServed b.sessions 0 items b.history xs b.history items) (sym none) (served-none b.sessions items b.history)

-- what a book has after a batch, before which its list of ended waits was emptied
pub served-book : (b c d : BookView) (k : ℕ) (batch items : List Item) → c ≡ record b { ended = [] } → d.sessions ≡ c.sessions → d.cut ≡ c.cut → d.bound ≡ c.bound → d.deadlocks ≡ c.deadlocks → AreServed c.sessions k batch c.history d.ended d.history items
    → d ≡ record b { history = b.history ++ entries_from (state_of b.history) (take k batch); ended = ended_waits_in b.sessions (state_of b.history) (take k batch) }
served-book b c d k batch items e sessions cut bound deadlocks s =
    let h = ap (λ (t : BookView). t.history) e in
    let n = ap (λ (t : BookView). t.sessions) e in
    let all = sessions ∙ n in
    let history = s.entries ∙ (λ i. h i ++ entries_from (state_of (h i)) (take k batch)) in
    let cuts = cut ∙ ap (λ (t : BookView). t.cut) e in
    let bounds = bound ∙ ap (λ (t : BookView). t.bound) e in
    let most = deadlocks ∙ ap (λ (t : BookView). t.deadlocks) e in
    let ends = s.waits ∙ (λ i. ended_waits_in (n i) (state_of (h i)) (take k batch)) in
    λ i. record { sessions = all i; history = history i; cut = cuts i; bound = bounds i; ended = ends i; deadlocks = most i }

-- and what its items are
pub served-items : (b c : BookView) (k : ℕ) (batch : List Item) (ended : List ℕ) (after : List Entry) (items : List Item) → c ≡ record b { ended = [] } → AreServed c.sessions k batch c.history ended after items
    → items ≡ map item_of (entries_from (state_of b.history) (take k batch)) ++ drop k batch
served-items b c k batch ended after items e s = s.replies ∙ ap (λ (t : BookView). map item_of (entries_from (state_of t.history) (take k batch)) ++ drop k batch) e

-- the next item of a batch is served
pub served-next : (n k : ℕ) (batch : List Item) (start : List Entry) (ended more : List ℕ) (h : List Entry) (items : List Item) (i : Item) (reply : Reply) → AreServed n k batch start ended h items → k < length items → i ≡ get_or items k i
    → reply ≡ (step (state_of h) i.session i.call).reply → more ≡ ended_also n (state_of start) (take k batch) (state_of h) i
    → AreServed n (k + 1) batch start more (h ++ entry_of i reply ∷ []) (set items k (with_reply i reply))
served-next n k batch start ended more h items i reply s lt found told adds =
    let st = state_of start in
    let at = λ (is : List Item). get_or is k i in
    let here : at (items_after st k batch) ≡ i = ap at (sym s.replies) ∙ sym found in
    let now : state_of h ≡ state_after st (entries_of_first st k batch) = ap state_of s.entries ∙ state_after-append start (entries_of_first st k batch) empty in
    let same : reply ≡ (step (state_after st (entries_of_first st k batch)) (at (items_after st k batch)).session (at (items_after st k batch)).call).reply
    = rw (here, ← now) told in
    let few : k < length batch = omega (arith, lt, ap (λ (is : List Item). length is) s.replies, length-after st k batch) in
    let next = next-item st batch k i reply few same in
    let suc_is : suc k ≡ k + 1 = omega arith in
    let e : Entry = entry_of i reply in
    let entries : entries_of_first st (k + 1) batch ≡ entries_of_first st k batch ++ e ∷ []
    = ap (λ (j : ℕ). entries_of_first st j batch) (sym suc_is) ∙ (next.entries ∙ ap (λ (x : Item). entries_of_first st k batch ++ entry_of x reply ∷ []) here) in
    let ends : (u : ℕ) → (has_ended_in st (take k batch) u || item_ends (state_of h) i u) ≡ has_ended_in st (take (k + 1) batch) u
    = λ u. ap (λ (x : State). has_ended_in st (take k batch) u || item_ends x i u) now
    ∙ (ap (λ (x : Item). has_ended_in st (take k batch) u || item_ends (state_after st (entries_of_first st k batch)) x u) (sym here)
    ∙ (sym (next.ended u) ∙ ap (λ (j : ℕ). has_ended_in st (take j batch) u) suc_is)) in
    record {
      few = omega (arith, few);
      entries = ap (λ (es : List Entry). es ++ e ∷ []) s.entries ∙ (append_assoc start (entries_of_first st k batch) (e ∷ []) ∙ ap (λ (es : List Entry). start ++ es) (sym entries));
      replies = ap (λ (is : List Item). set is k (with_reply i reply)) s.replies
          ∙ (ap (λ (x : Item). set (items_after st k batch) k (with_reply x reply)) (sym here)
          ∙ (next.written ∙ ap (λ (j : ℕ). items_after st j batch) suc_is));
      waits = adds ∙ same-numbers (λ u. has_ended_in st (take k batch) u || item_ends (state_of h) i u) (has_ended_in st (take (k + 1) batch)) 1 n (λ u l m. ends u);
    }
