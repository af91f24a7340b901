-- A lock table with its history: one call with its entry, and whose wait it has ended.
use Rattle.std.proofs.Common.{◌≡◌, Bool, not, eqb, ◌&&◌, ◌||◌, ℕ, zero, suc, ◌+◌, ◌≤◌, List, [], ◌∷◌, ◌++◌, length, map, filter, refl, length-append, sym, ap, ◌∙◌, arith, subst}
use Rattle.std.specs.Prelude.{vec_len}
use Rattle.std.specs.List.{All, range_with_len, list_any}
use Rattle.std.proofs.lemmas.List.Elements.{All-push}
use Rattle.lock_rules.specs.Entries.{Entry}
use Rattle.lock_rules.specs.declared.calls.Call.{Call}
use Rattle.lock_rules.specs.declared.calls.Reply.{Reply}
use Rattle.lock_rules.specs.State as rules
use Rattle.lock_rules.specs.Ended.{has_ended, ended_waits}
use Rattle.lock_rules.specs.Step.{step}
use Rattle.lock_rules.specs.Legal.{state_of}
use Rattle.lock_rules.proofs.Histories.{legal-push, state_of-push}
use Rattle.lock_table.specs.declared.lockers.Locker.{Locker}
use Rattle.lock_table.specs.inner.Lockers.{no_standing, standing_of, standings_of, standing_at}
use Rattle.lock_table.specs.Changes.{with_ended, with_ended_count, IsWhole, HasNotedEnded}
use Rattle.lock_holders.specs.Woken.{WokenListView, is_ended, ended_in}
use Rattle.lock_table.specs.declared.table.LockTable.{LockTable}
use Rattle.lock_table.specs.Ready.{IsReadyTable}
use Rattle.lock_table.specs.Shows.{Shows}
use Rattle.lock_desk.specs.inner.Served.{AreKept}
use Rattle.lock_desk.specs.BookView.{BookView}
use Rattle.lock_desk.specs.Deadlocks.{AreDeadlocksTold, deadlocks_in, newest}
use Rattle.lock_desk.specs.inner.Counting.{AreCallsCounted, AreWaitsCounted}
use Rattle.lock_desk.specs.inner.Noting.{IsLogFor}
use Rattle.lock_desk.specs.Batches.{ended_waits_beside}
use Rattle.sequential.specs.Histories.{IsEntryWithin}
use Rattle.lock_desk.specs.inner.Invariant.{book_view_of, IsKept}
use Rattle.lock_desk.specs.declared.book.Book.TheInside.{Inside}
use Rattle.waits_for.specs.declared.TheConstants.{MAX_SESSIONS}
use Rattle.lock_holders.proofs.EndedList.{none-waits_ended}
use Rattle.lock_holders.proofs.FilteredNumbers.{any-among, same-numbers}
use Rattle.lock_table.proofs.EndedWaits.{whole-relisted, ready-relisted, shows-relisted}
use Rattle.lock_table.proofs.Simulation.{waits-shown}

-- after one more entry
pub kept-more : (d e : LockTable) (es more : List Entry) (session : ℕ) (call : Call) (reply : Reply) → more ≡ es ++ record { session = session; call = call; reply = reply } ∷ []
    → AreKept d es → 1 ≤ session → session ≤ vec_len d.lockers
    → reply ≡ (step (state_of es) session call).reply → Shows e (step (state_of es) session call).state → IsWhole e → IsReadyTable e → vec_len e.lockers ≡ vec_len d.lockers → e.count ≤ d.count + 1 → AreKept e more
kept-more d e es more session call reply h k some most same shows whole ready lockers counted =
    let x : Entry = record { session = session; call = call; reply = reply } in
    subst (AreKept e) (sym h) (record {
      legal = legal-push es x k.legal same;
      within = subst (λ (n : ℕ). All (IsEntryWithin n) (es ++ x ∷ [])) (sym lockers) (All-push (IsEntryWithin (vec_len d.lockers)) es x k.within (record { some = some; within = most }));
      shows = subst (Shows e) (sym (state_of-push es x)) shows;
      whole = whole;
      ready = ready;
      counted = let n = k.counted in omega (arith, length-append es (x ∷ []), counted, n);
    })

-- with the same history
pub kept-same : (d e : LockTable) (es more : List Entry) → more ≡ es → AreKept d es → Shows e (state_of es) → IsWhole e → IsReadyTable e → vec_len e.lockers ≡ vec_len d.lockers → AreKept e more
kept-same d e es more h k shows whole ready lockers = subst (AreKept e) (sym h) (record {
  legal = k.legal;
  within = subst (λ (n : ℕ). All (IsEntryWithin n) es) (sym lockers) k.within;
  shows = shows;
  whole = whole;
  ready = ready;
  counted = let n = k.counted in let a = shows.count in let b = k.shows.count in omega (arith, n, a, b);
})

-- what is listed in addition has ended by the rules

pub waits_ended-ends : (s : ℕ) (d e : LockTable) (before after : rules.State) → IsWhole d → IsWhole e → Shows d before → Shows e after → HasNotedEnded s d e
    → (u : ℕ) → is_ended e.ended u ≡ (is_ended d.ended u || has_ended s before after u)
waits_ended-ends s d e before after w x h k l u =
    let o = waits-shown d before u w h in
    let n = waits-shown e after u x k in
    l.waits_ended u ∙ (λ i. is_ended d.ended u || (not (eqb u s) && (o i && not (n i))))

-- the invariant of a book: its lock table with its history, and a locker and a mark for each session

pub kept-of : (a : Inside) → IsKept a → AreKept a.lock_table.value a.history.items
kept-of a k = record {
  legal = k.legal;
  within = subst (λ (n : ℕ). All (IsEntryWithin n) a.history.items) (sym k.lockers) k.within;
  shows = k.shows;
  whole = k.whole;
  ready = k.ready;
  counted = k.counted;
}

pub of-kept : (a : Inside) → 1 ≤ a.sessions → a.sessions ≤ MAX_SESSIONS → AreKept a.lock_table.value a.history.items → vec_len a.lock_table.value.lockers ≡ a.sessions
    → IsLogFor (vec_len a.lock_table.value.lockers) a.notes.log → AreDeadlocksTold (newest a.notes.log.most (deadlocks_in a.history.items)) a.notes.log.told
    → AreCallsCounted a.history.items a.notes.counts → AreWaitsCounted a.history.items a.notes.log.counts → IsKept a
of-kept a some few k lockers log told calls waits = record {
  some = some;
  few = few;
  legal = k.legal;
  within = subst (λ (n : ℕ). All (IsEntryWithin n) a.history.items) lockers k.within;
  shows = k.shows;
  whole = k.whole;
  ready = k.ready;
  lockers = lockers;
  counted = k.counted;
  log = log;
  told = told;
  calls = calls;
  waits = waits;
}

-- another list of ended waits makes no difference
pub kept-relisted : (d : LockTable) (v : WokenListView) (es : List Entry) → length v.places ≡ length d.ended.places → AreKept d es → AreKept (with_ended v d) es
kept-relisted d v es long k = record {
  legal = k.legal;
  within = k.within;
  shows = shows-relisted d v (state_of es) k.shows;
  whole = whole-relisted d v k.whole;
  ready = ready-relisted d v long k.ready;
  counted = k.counted;
}

-- in a table whose list was cleared, those are listed whose wait the call has ended
pub waits_ended-alone : (n s : ℕ) (before after : rules.State) (v w : WokenListView) → length w.places ≡ n → v.count ≡ 0 → ((u : ℕ) → is_ended w u ≡ (is_ended v u || has_ended s before after u)) → ended_in w ≡ ended_waits n s before after
waits_ended-alone n s before after v w long none adds =
    same-numbers (is_ended w) (has_ended s before after) 1 (length w.places) (λ u l k. adds u ∙ ap (λ (b : Bool). b || has_ended s before after u) (none-waits_ended v none u))
    ∙ ap (λ (m : ℕ). ended_waits m s before after) long

-- in one whose list was not cleared, they are listed beside those that were
waits_ended-beside : (n s : ℕ) (before after : rules.State) (v w : WokenListView) → length v.places ≡ n → length w.places ≡ n → ((u : ℕ) → is_ended w u ≡ (is_ended v u || has_ended s before after u))
    → ended_in w ≡ ended_waits_beside n (ended_in v) s before after
waits_ended-beside n s before after v w long still adds =
    let listed : ended_in v ≡ filter (is_ended v) (range_with_len 1 n) = ap (λ (m : ℕ). filter (is_ended v) (range_with_len 1 m)) long in
    ap (λ (m : ℕ). filter (is_ended w) (range_with_len 1 m)) still
    ∙ (same-numbers (is_ended w) (λ u. list_any (λ x. eqb x u) (filter (is_ended v) (range_with_len 1 n)) || has_ended s before after u) 1 n
    (λ u l k. adds u ∙ ap (λ b. b || has_ended s before after u) (sym (any-among (is_ended v) n u l (omega (arith, k)))))
    ∙ ap (λ (told : List ℕ). ended_waits_beside n told s before after) (sym listed))

-- A book whose lock table is as it is read behind its box.
abbrev pub read_as : LockTable → Inside → Inside
read_as d a = record a { lock_table = record a.lock_table { value = d } }

pub behind : (a : Inside) (d : LockTable) → d ≡ a.lock_table.value → IsKept a → IsKept (read_as d a)
behind a d is k = subst (λ (x : LockTable). IsKept (read_as x a)) (sym is) k

pub view-behind : (a : Inside) (d : LockTable) (b : BookView) → d ≡ a.lock_table.value → book_view_of a ≡ b → book_view_of (read_as d a) ≡ b
view-behind a d b is seen = subst (λ (x : LockTable). book_view_of (read_as x a) ≡ b) (sym is) seen

-- the invariant, when as many sessions are listed as `n`
pub relisted-kept : (a : Inside) (n : ℕ) (e : LockTable) → e ≡ with_ended_count n a.lock_table.value → IsKept a → IsKept (record { sessions = a.sessions; lock_table = record a.lock_table { value = e }; history = a.history; notes = a.notes })
relisted-kept a n e is k =
    subst (λ (d : LockTable). IsKept (record { sessions = a.sessions; lock_table = record a.lock_table { value = d }; history = a.history; notes = a.notes })) (sym is)
    (of-kept _ k.some k.few (kept-relisted a.lock_table.value _ a.history.items refl (kept-of a k)) k.lockers k.log k.told k.calls k.waits)

-- what contracts see of a book after a call, when these sessions are listed
pub listed-view : (a : Inside) (b : BookView) → book_view_of a ≡ b → (e : Entry) (es : List Entry) (cut bound : ℕ) (ended told : List ℕ) (deadlocks : ℕ)
    → es ≡ a.history.items ++ e ∷ [] → cut ≡ a.history.cut → bound ≡ a.history.bound → ended ≡ told → deadlocks ≡ a.notes.log.most
    → record { sessions = a.sessions; history = es; cut = cut; bound = bound; ended = ended; deadlocks = deadlocks } ≡ record b { history = b.history ++ e ∷ []; ended = told }
listed-view a b is e es cut bound ended told deadlocks entries cuts bounds ends most =
    let n = ap (λ (t : BookView). t.sessions) is in
    let history = entries ∙ ap (λ (t : BookView). t.history ++ e ∷ []) is in
    let all_cut = cuts ∙ ap (λ (t : BookView). t.cut) is in
    let all_bound = bounds ∙ ap (λ (t : BookView). t.bound) is in
    let all_most = most ∙ ap (λ (t : BookView). t.deadlocks) is in
    λ i. record { sessions = n i; history = history i; cut = all_cut i; bound = all_bound i; ended = ends i; deadlocks = all_most i }

-- when exactly those are listed whose wait it has ended
pub entry-view : (a : Inside) (b : BookView) → book_view_of a ≡ b → (s : ℕ) (call : Call) (reply : Reply) (es : List Entry) (cut bound : ℕ) (ended : List ℕ) (deadlocks : ℕ)
    → es ≡ a.history.items ++ record { session = s; call = call; reply = reply } ∷ [] → cut ≡ a.history.cut → bound ≡ a.history.bound
    → ended ≡ ended_waits a.sessions s (state_of a.history.items) (step (state_of a.history.items) s call).state → deadlocks ≡ a.notes.log.most
    → record { sessions = a.sessions; history = es; cut = cut; bound = bound; ended = ended; deadlocks = deadlocks } ≡ record b { history = b.history ++ record { session = s; call = call; reply = reply } ∷ []; ended = ended_waits b.sessions s (state_of b.history) (step (state_of b.history) s call).state }
entry-view a b is s call reply es cut bound ended deadlocks entries cuts bounds ends most =
    let e : Entry = record { session = s; call = call; reply = reply } in
    listed-view a b is e es cut bound ended _ deadlocks entries cuts bounds
    (ends ∙ ap (λ (t : BookView). ended_waits t.sessions s (state_of t.history) (step (state_of t.history) s call).state) is) most

-- when they are listed beside those that were
pub beside-view : (a : Inside) (b : BookView) → book_view_of a ≡ b → (s : ℕ) (call : Call) (reply : Reply) (es : List Entry) (cut bound : ℕ) (w : WokenListView) (deadlocks : ℕ)
    → es ≡ a.history.items ++ record { session = s; call = call; reply = reply } ∷ [] → cut ≡ a.history.cut → bound ≡ a.history.bound
    → length a.lock_table.value.ended.places ≡ a.sessions → length w.places ≡ a.sessions
    → ((u : ℕ) → is_ended w u ≡ (is_ended a.lock_table.value.ended u || has_ended s (state_of a.history.items) (step (state_of a.history.items) s call).state u)) → deadlocks ≡ a.notes.log.most
    → record { sessions = a.sessions; history = es; cut = cut; bound = bound; ended = ended_in w; deadlocks = deadlocks } ≡ record b { history = b.history ++ record { session = s; call = call; reply = reply } ∷ []; ended = ended_waits_beside b.sessions b.ended s (state_of b.history) (step (state_of b.history) s call).state }
beside-view a b is s call reply es cut bound w deadlocks entries cuts bounds long still adds most =
    let e : Entry = record { session = s; call = call; reply = reply } in
    let st = state_of a.history.items in
    listed-view a b is e es cut bound (ended_in w) _ deadlocks entries cuts bounds
    (waits_ended-beside a.sessions s st (step st s call).state a.lock_table.value.ended w long still adds
    ∙ ap (λ (t : BookView). ended_waits_beside t.sessions t.ended s (state_of t.history) (step (state_of t.history) s call).state) is) most
