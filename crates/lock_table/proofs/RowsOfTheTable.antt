-- The waits-for graph of a lock table stays current: an operation changes the view of one resource, and the rows of the
-- sessions that wait for it.
use Rattle.std.proofs.Common.{◌≡◌, ℕ, ◌+◌, ◌-◌, leb, Bool, true, false, cond, not, eqb, ◌&&◌, ◌||◌, inl, inr, List, [], ◌∷◌, length, Option, Some, None, refl, sym, ◌∙◌, ap, arith, subst}
use Rattle.std.proofs.lemmas.Bool.{cases_lt, le-leb}
use Rattle.std.proofs.lemmas.Bool.Decides.{Decides-eqb}
use Rattle.std.proofs.Math.Bool.{and-true, and-false, or-false}
use Rattle.std.specs.Prelude.{vec_len, slice_index_or}
use Rattle.waits_for.specs.Pairs.{pairs_of}
use Rattle.lock_modes.specs.declared.Mode.{Mode}
use Rattle.lock_tree.specs.Paths.{same_path}
use Rattle.lock_rules.specs.declared.calls.Transaction.{Transaction}
use Rattle.lock_rules.specs.State.{number_in}
use Rattle.lock_rules.specs.Waits.{doom}
use Rattle.lock_rules.specs.Step.{restarted}
use Rattle.lock_rules.proofs.Lists.{same_path-refl, same_path-true, same_path_tells}
use Rattle.lock_table.specs.declared.table.LockTable.{LockTable}
use Rattle.lock_table.specs.declared.wait_graph.Waits.{Waits}
use Rattle.lock_holders.specs.declared.session_mode.SessionMode.{SessionMode}
use Rattle.lock_table.specs.inner.Cells.{View}
use Rattle.lock_holders.specs.SessionModes.{has_session, mode_of, is_nobody}
use Rattle.lock_table.specs.inner.Lockers.{Standing, standing_at, is_wanted, no_standing}
use Rattle.lock_table.specs.Changes.{view_at, standings, standing, IsWhole, IsSameSeen}
use Rattle.lock_table.specs.inner.Blocking.{target_blocks, view_blocks, blocks_at, blocks, IsSizedFor, AreWritten, IsWritten, DoFollow}
use Rattle.lock_holders.specs.Woken.{WokenListView}
use Rattle.lock_table.specs.Ready.{IsReadyTable}
use Rattle.lock_table.proofs.SessionsInRange.{numbered-whole, once-at}
use Rattle.lock_table.proofs.WritingWaits.{blocks-none}
use Rattle.lock_table.proofs.QueuedSessions.{none-blocks, none-ahead}

-- for whom a session waits, by cells and lockers

-- the resource that a session waits for is the one in its locker
waits-for : (o : Option (List ℕ)) (r : List ℕ) → is_wanted r o ≡ true → o ≡ Some r
waits-for None r h = absurd (cc)
waits-for (Some q) r h = ap (λ (p : List ℕ). Some p) (same_path-true q r h)

module _ (d : LockTable) (w : IsWhole d) (s u : ℕ) where
  -- a session that is in the queue of a resource is blocked by what blocks it there
  pub blocks-there : (r : List ℕ) → has_session s (view_at r d).waiting ≡ true → blocks d.cells.entries (standings d) s u ≡ view_blocks s u (view_at r d)
  blocks-there r h = ap (blocks_at s u d.cells.entries) (waits-for (standing s d).wanted r ((w.agree r).wanted s ∙ h))

  -- a session that is in no queue is blocked by nobody
  pub blocks-nowhere : ((q : List ℕ) → has_session s (view_at q d).waiting ≡ false) → blocks d.cells.entries (standings d) s u ≡ false
  blocks-nowhere h = go (standing s d).wanted refl
    where
      go : (o : Option (List ℕ)) → (standing s d).wanted ≡ o → blocks_at s u d.cells.entries o ≡ false
      go None e = refl
      go (Some q) e = blocks-none s u (view_at q d) (h q)

  -- a session is in one queue at most
  pub waits-once : (r q : List ℕ) → has_session s (view_at r d).waiting ≡ true → same_path r q ≡ false → has_session s (view_at q d).waiting ≡ false
  waits-once r q h n = sym ((w.agree q).wanted s) ∙ (ap (is_wanted q) (waits-for (standing s d).wanted r ((w.agree r).wanted s ∙ h)) ∙ n)

-- the view of one resource has changed

module _ (r : List ℕ) (v : View) (d e : LockTable) (w : IsWhole d) (x : IsWhole e) (views : (q : List ℕ) → view_at q e ≡ cond (same_path r q) v (view_at q d)) where
  -- the view of the resource after the change
  here : view_at r e ≡ v
  here = views r ∙ ap (λ (b : Bool). cond b v (view_at r d)) (same_path-refl r)

  -- the views of other resources are unchanged
  elsewhere : (q : List ℕ) → same_path r q ≡ false → view_at q e ≡ view_at q d
  elsewhere q n = views q ∙ ap (λ (b : Bool). cond b v (view_at q d)) n

  -- sessions that are not in its queue, before and after, are blocked as before
  blocks-elsewhere : (s u : ℕ) → has_session s (view_at r d).waiting ≡ false → has_session s v.waiting ≡ false → blocks e.cells.entries (standings e) s u ≡ blocks d.cells.entries (standings d) s u
  blocks-elsewhere s u before after = go (standing s d).wanted refl
    where
      none-there : (standing s d).wanted ≡ None → (q : List ℕ) → has_session s (view_at q e).waiting ≡ false
      none-there f q = elim (same_path_tells r q) [
        | inl k ↦ ap (λ (p : List ℕ). has_session s (view_at p e).waiting) (sym k.1) ∙ (ap (λ (y : View). has_session s y.waiting) here ∙ after)
        | inr k ↦ ap (λ (y : View). has_session s y.waiting) (elsewhere q k) ∙ (sym ((w.agree q).wanted s) ∙ ap (is_wanted q) f)
      ]

      go : (o : Option (List ℕ)) → (standing s d).wanted ≡ o → blocks e.cells.entries (standings e) s u ≡ blocks d.cells.entries (standings d) s u
      go None f = blocks-nowhere e x s u (none-there f) ∙ sym (ap (blocks_at s u d.cells.entries) f)
      go (Some q) f =
          let there : has_session s (view_at q d).waiting ≡ true = sym ((w.agree q).wanted s) ∙ (ap (is_wanted q) f ∙ same_path-refl q) in
          elim (same_path_tells r q) [
            | inl k ↦ absurd (let g : has_session s (view_at q d).waiting ≡ false = ap (λ (p : List ℕ). has_session s (view_at p d).waiting) (sym k.1) ∙ before in cc)
            | inr k ↦ blocks-there e x s u q (ap (λ (y : View). has_session s y.waiting) (elsewhere q k) ∙ there) ∙ (ap (view_blocks s u) (elsewhere q k) ∙ sym (blocks-there d w s u q there))
          ]

  -- a session that has left its queue is blocked by nobody
  blocks-left : (s u : ℕ) → has_session s (view_at r d).waiting ≡ true → has_session s v.waiting ≡ false → blocks e.cells.entries (standings e) s u ≡ false
  blocks-left s u before after = blocks-nowhere e x s u (λ q. elim (same_path_tells r q) [
    | inl k ↦ ap (λ (p : List ℕ). has_session s (view_at p e).waiting) (sym k.1) ∙ (ap (λ (y : View). has_session s y.waiting) here ∙ after)
    | inr k ↦ ap (λ (y : View). has_session s y.waiting) (elsewhere q k) ∙ waits-once d w s u r q before k
  ])

  -- so only the rows of the sessions in its queue, before or after, change
  pub blocks-follow : (s u : ℕ) → blocks e.cells.entries (standings e) s u ≡ ((blocks d.cells.entries (standings d) s u && not (has_session s (view_at r d).waiting)) || view_blocks s u v)
  blocks-follow s u = go (has_session s (view_at r d).waiting) (has_session s v.waiting) refl refl
    where
      old : Bool
      old = blocks d.cells.entries (standings d) s u

      drop-it : (a c : Bool) → ((a && false) || c) ≡ c
      drop-it true c = refl
      drop-it false c = refl

      quiet : (a b : Bool) → (b ≡ true → a ≡ false) → (c : Bool) → ((a && not b) || c) ≡ (a || c)
      quiet true true h c = absurd (let f = h refl in cc)
      quiet true false h c = refl
      quiet false true h c = refl
      quiet false false h c = refl

      go : (b c : Bool) → has_session s (view_at r d).waiting ≡ b → has_session s v.waiting ≡ c → blocks e.cells.entries (standings e) s u ≡ ((old && not b) || view_blocks s u v)
      go true true f g = blocks-there e x s u r (ap (λ (y : View). has_session s y.waiting) here ∙ g) ∙ (ap (view_blocks s u) here ∙ sym (drop-it old (view_blocks s u v)))
      go true false f g = blocks-left s u f g ∙ sym (drop-it old (view_blocks s u v) ∙ blocks-none s u v g)
      go false false f g = blocks-elsewhere s u f g ∙ sym (ap (λ (o : Bool). (old && true) || o) (blocks-none s u v g) ∙ (or-false (old && true) ∙ and-true old))
      go false true f g =
          let there = ap (λ (y : View). has_session s y.waiting) here ∙ g in
          blocks-there e x s u r there ∙ (ap (view_blocks s u) here
          ∙ sym (ap (λ (o : Bool). (o && true) || view_blocks s u v) idle))
        where
          before : (q : List ℕ) → has_session s (view_at q d).waiting ≡ false
          before q = elim (same_path_tells r q) [
            | inl k ↦ ap (λ (p : List ℕ). has_session s (view_at p d).waiting) (sym k.1) ∙ f
            | inr k ↦ ap (λ (y : View). has_session s y.waiting) (sym (elsewhere q k)) ∙ waits-once e x s u r q (ap (λ (y : View). has_session s y.waiting) here ∙ g) k
          ]

          idle : old ≡ false
          idle = blocks-nowhere d w s u before

  -- the waits-for graph is current again
  pub ready-follow : vec_len e.lockers ≡ vec_len d.lockers → length e.ended.places ≡ length d.ended.places → ((u : ℕ) → (standing u e).transaction ≡ (standing u d).transaction) → DoFollow (view_at r d) v d.waits e.waits → IsReadyTable d → IsReadyTable e
  ready-follow len sized transactions f k = record {
    long = f.sessions ∙ (k.long ∙ sym len);
    ready = record {
      few = omega (arith, f.sessions, k.ready.few);
      sessions = refl;
      numbers = ap (λ ns. vec_len ns) f.numbers ∙ (k.ready.numbers ∙ sym f.sessions);
    };
    waits_ended = sized ∙ (k.waits_ended ∙ sym len);
    filled = record {
      pairs = λ a b. f.pairs a b ∙ (ap (λ (o : Bool). (o && not (has_session (a + 1) (view_at r d).waiting)) || view_blocks (a + 1) (b + 1) v) (k.filled.pairs a b) ∙ sym (blocks-follow (a + 1) (b + 1)));
      numbers = λ a. ap (λ ns. slice_index_or ns.items a 0) f.numbers ∙ (k.filled.numbers a ∙ sym (ap number_in (transactions (a + 1))));
    };
  }

-- no session is in an empty queue
nobody-waits : (s : ℕ) (qs : List SessionMode) → is_nobody qs ≡ true → has_session s qs ≡ false
nobody-waits s [] h = refl
nobody-waits s (q ∷ qs) h = absurd (cc)

-- changes that leave all queues as they are

-- if count, standings and views are unchanged, the graph stays current
pub ready-same : (d e : LockTable) → IsSameSeen d e → vec_len e.lockers ≡ vec_len d.lockers → e.waits ≡ d.waits → IsReadyTable d → IsReadyTable e
ready-same d e same len waits k = record {
  long = ap (λ (x : Waits). x.rows.sessions) waits ∙ (k.long ∙ sym len);
  ready = subst (λ (x : Waits). IsSizedFor x.rows.sessions x) (sym waits) k.ready;
  waits_ended = ap (λ (v : WokenListView). length v.places) same.ended ∙ (k.waits_ended ∙ sym len);
  filled = record {
    pairs = λ a b. ap (λ (x : Waits). pairs_of x.rows a b) waits ∙ (k.filled.pairs a b ∙ sym (blocks-same (a + 1) (b + 1)));
    numbers = λ a. ap (λ (x : Waits). slice_index_or x.numbers.items a 0) waits ∙ (k.filled.numbers a ∙ sym (ap (λ (ss : List Standing). number_in (standing_at (a + 1) ss).transaction) same.standings_same));
  };
}
  where
    blocks-same : (s u : ℕ) → blocks e.cells.entries (standings e) s u ≡ blocks d.cells.entries (standings d) s u
    blocks-same s u = ap (λ (ss : List Standing). blocks_at s u e.cells.entries (standing_at s ss).wanted) same.standings_same ∙ go (standing s d).wanted
      where
        go : (o : Option (List ℕ)) → blocks_at s u e.cells.entries o ≡ blocks_at s u d.cells.entries o
        go None = refl
        go (Some q) = ap (view_blocks s u) (same.views q)

-- if only transactions change, the graph stays current, given the new transaction numbers
ready-transactions : (d e : LockTable) → IsWhole d → IsWhole e → ((q : List ℕ) → view_at q e ≡ view_at q d) → vec_len e.lockers ≡ vec_len d.lockers → length e.ended.places ≡ length d.ended.places → e.waits.rows ≡ d.waits.rows → vec_len e.waits.numbers ≡ vec_len d.waits.numbers
    → ((a : ℕ) → slice_index_or e.waits.numbers.items a 0 ≡ number_in (standing (a + 1) e).transaction) → IsReadyTable d → IsReadyTable e
ready-transactions d e w x views len sized rows length numbers k =
    let sessions = ap (λ rs. rs.sessions) rows in
    record {
      long = sessions ∙ (k.long ∙ sym len);
      ready = record { few = omega (arith, sessions, k.ready.few); sessions = refl; numbers = length ∙ (k.ready.numbers ∙ sym sessions) };
      waits_ended = sized ∙ (k.waits_ended ∙ sym len);
      filled = record {
        pairs = λ a b. ap (λ rs. pairs_of rs a b) rows ∙ (k.filled.pairs a b ∙ sym (blocks-unchanged (a + 1) (b + 1)));
        numbers = numbers;
      };
    }
  where
    blocks-unchanged : (s u : ℕ) → blocks e.cells.entries (standings e) s u ≡ blocks d.cells.entries (standings d) s u
    blocks-unchanged s u = go (standing s d).wanted refl
      where
        seen : (q : List ℕ) → has_session s (view_at q e).waiting ≡ is_wanted q (standing s d).wanted
        seen q = ap (λ (y : View). has_session s y.waiting) (views q) ∙ sym ((w.agree q).wanted s)

        go : (o : Option (List ℕ)) → (standing s d).wanted ≡ o → blocks e.cells.entries (standings e) s u ≡ blocks d.cells.entries (standings d) s u
        go None f = blocks-nowhere e x s u (λ q. seen q ∙ ap (is_wanted q) f) ∙ sym (ap (blocks_at s u d.cells.entries) f)
        go (Some q) f =
            blocks-there e x s u q (seen q ∙ (ap (is_wanted q) f ∙ same_path-refl q)) ∙ (ap (view_blocks s u) (views q) ∙ sym (ap (blocks_at s u d.cells.entries) f))

-- the transaction numbers after that of one session has changed
numbers-changed : (d e : LockTable) (s n : ℕ) (o : Option Transaction) → n ≡ number_in o → ((u : ℕ) → (standing u e).transaction ≡ cond (eqb u s) o (standing u d).transaction)
    → ((a : ℕ) → slice_index_or e.waits.numbers.items a 0 ≡ cond (eqb (a + 1) s) n (slice_index_or d.waits.numbers.items a 0)) → IsReadyTable d → (a : ℕ) → slice_index_or e.waits.numbers.items a 0 ≡ number_in (standing (a + 1) e).transaction
numbers-changed d e s n o is transactions numbers k a = numbers a ∙ (go (eqb (a + 1) s) ∙ sym (ap number_in (transactions (a + 1))))
  where
    go : (b : Bool) → cond b n (slice_index_or d.waits.numbers.items a 0) ≡ number_in (cond b o (standing (a + 1) d).transaction)
    go true = is
    go false = k.filled.numbers a

-- the graph stays current when the transaction of a session begins or ends
pub ready-numbered : (d e : LockTable) (s n : ℕ) (o : Option Transaction) → n ≡ number_in o → IsWhole d → IsWhole e → ((q : List ℕ) → view_at q e ≡ view_at q d) → vec_len e.lockers ≡ vec_len d.lockers → length e.ended.places ≡ length d.ended.places → ((u : ℕ) → (standing u e).transaction ≡ cond (eqb u s) o (standing u d).transaction)
    → e.waits.rows ≡ d.waits.rows → vec_len e.waits.numbers ≡ vec_len d.waits.numbers → ((a : ℕ) → slice_index_or e.waits.numbers.items a 0 ≡ cond (eqb (a + 1) s) n (slice_index_or d.waits.numbers.items a 0)) → IsReadyTable d → IsReadyTable e
ready-numbered d e s n o is w x views len sized transactions rows length numbers k = ready-transactions d e w x views len sized rows length (numbers-changed d e s n o is transactions numbers k) k

-- the graph stays current when a transaction changes and keeps its number
pub ready-changed : (after : Option Transaction → Option Transaction) → ((o : Option Transaction) → number_in o ≡ number_in (after o)) → (d e : LockTable) (s : ℕ) → IsWhole d → IsWhole e → ((q : List ℕ) → view_at q e ≡ view_at q d) → vec_len e.lockers ≡ vec_len d.lockers → length e.ended.places ≡ length d.ended.places
    → ((u : ℕ) → (standing u e).transaction ≡ cond (eqb u s) (after (standing s d).transaction) (standing u d).transaction) → e.waits ≡ d.waits → IsReadyTable d → IsReadyTable e
ready-changed after same d e s w x views len sized transactions waits k =
    ready-transactions d e w x views len sized (ap (λ (y : Waits). y.rows) waits) (ap (λ (y : Waits). vec_len y.numbers) waits)
    (λ a. ap (λ (y : Waits). slice_index_or y.numbers.items a 0) waits ∙ (k.filled.numbers a ∙ (go a (eqb (a + 1) s) refl ∙ sym (ap number_in (transactions (a + 1)))))) k
  where
    go : (a : ℕ) (b : Bool) → eqb (a + 1) s ≡ b → number_in (standing (a + 1) d).transaction ≡ number_in (cond b (after (standing s d).transaction) (standing (a + 1) d).transaction)
    go a true e = ap (λ (i : ℕ). number_in (standing i d).transaction) ((Decides-eqb (a + 1) s).0 e) ∙ same (standing s d).transaction
    go a false e = refl

-- a doom keeps the number
pub doom-number : (o : Option Transaction) → number_in o ≡ number_in (doom o)
doom-number None = refl
doom-number (Some t) = refl

-- so does a restart
pub restart-number : (o : Option Transaction) → number_in o ≡ number_in (restarted o)
restart-number None = refl
restart-number (Some t) = refl

-- the graph of an empty table is current
pub ready-new : (d : LockTable) → d.waits.rows.sessions ≡ vec_len d.lockers → length d.ended.places ≡ vec_len d.lockers → IsSizedFor d.waits.rows.sessions d.waits → ((a b : ℕ) → pairs_of d.waits.rows a b ≡ false) → ((a : ℕ) → slice_index_or d.waits.numbers.items a 0 ≡ 0) → ((s : ℕ) → standing s d ≡ no_standing) → IsReadyTable d
ready-new d long waits_ended ready pairs numbers none = record {
  long = long;
  ready = ready;
  waits_ended = waits_ended;
  filled = record {
    pairs = λ a b. pairs a b ∙ sym (ap (λ (x : Standing). blocks_at (a + 1) (b + 1) d.cells.entries x.wanted) (none (a + 1)));
    numbers = λ a. numbers a ∙ sym (ap (λ (x : Standing). number_in x.transaction) (none (a + 1)));
  };
}

-- a session that waits for a resource is in its queue
pub request-there : (s : ℕ) (r : List ℕ) (d : LockTable) → IsWhole d → (standing s d).wanted ≡ Some r → has_session s (view_at r d).waiting ≡ true
request-there s r d w waits = sym ((w.agree r).wanted s) ∙ (ap (is_wanted r) waits ∙ same_path-refl r)

-- the rows of the sessions that wait for a resource are current
pub written-at : (d : LockTable) (r : List ℕ) → IsWhole d → IsReadyTable d → AreWritten (view_at r d) d.waits
written-at d r w k a b h = k.filled.pairs a b ∙ blocks-there d w (a + 1) (b + 1) r h

-- a request finds the rows of a resource current, and its own row empty
pub written-for : (d : LockTable) (s : ℕ) (r : List ℕ) → IsWhole d → IsReadyTable d → (standing s d).wanted ≡ None → IsWritten s (view_at r d) d.waits
written-for d s r w k idle = record {
  within = numbered-whole d d.waits.rows.sessions (omega (arith, k.long, d.lockers.ok.0)) w r;
  waiting = written-at d r w k;
  idle = λ a b e. k.filled.pairs a b ∙ (ap (λ (i : ℕ). blocks d.cells.entries (standings d) i (b + 1)) e ∙ ap (blocks_at s (b + 1) d.cells.entries) idle);
}

-- the edges are those that cells and lockers determine, for any two session numbers

-- a session that neither holds a resource nor waits for it blocks nobody there
absent-blocks : (s u : ℕ) (v : View) → has_session u v.holders ≡ false → has_session u v.waiting ≡ false → view_blocks s u v ≡ false
absent-blocks s u v h q = go (mode_of s v.waiting)
  where
    go : (o : Option Mode) → target_blocks s u v o ≡ false
    go None = refl
    go (Some m) = (λ i. none-blocks s u m v.holders h i || none-ahead s u v.waiting q i)

-- an edge between sessions of any number, 0 too, is one that cells and lockers determine
pub written-blocks : (d : LockTable) → IsWhole d → IsReadyTable d → (s u : ℕ) → (leb 1 s && (leb 1 u && pairs_of d.waits.rows (s - 1) (u - 1))) ≡ blocks d.cells.entries (standings d) s u
written-blocks d w k s u = elim (cases_lt 0 s) [
  | inr none ↦ let zero_is : s ≡ 0 = omega (arith, none) in rw zero_is (sym (blocks-nowhere d w 0 u (λ q. (once-at q d.cells.entries w.cells).waiting)))
  | inl some ↦ elim (cases_lt 0 u) [
    | inr none ↦ let zero_is : u ≡ 0 = omega (arith, none) in rw zero_is (and-false (leb 1 s) ∙ sym (nobody (standing s d).wanted))
    | inl other ↦
        let one : s - 1 + 1 ≡ s = omega (arith, some) in
        let two : u - 1 + 1 ≡ u = omega (arith, other) in
        (λ i. le-leb 1 s (omega (arith, some)) i && (le-leb 1 u (omega (arith, other)) i && k.filled.pairs (s - 1) (u - 1) i)) ∙ (λ i. blocks d.cells.entries (standings d) (one i) (two i))
  ]
]
  where
    nobody : (o : Option (List ℕ)) → blocks_at s 0 d.cells.entries o ≡ false
    nobody None = refl
    nobody (Some r) = let o = once-at r d.cells.entries w.cells in absent-blocks s 0 (view_at r d) o.holders o.waiting
