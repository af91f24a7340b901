-- The state of a record, read off its state word or off what its session knows; and how many calls a session has
-- announced.
use Rattle.std.proofs.Common.{◌≡◌, ◌≢◌, ◌⊎◌, ⊎_elim, ℕ, ◌+◌, ◌<◌, ◌≤◌, ◌&&◌, Bool, true, false, cond, is_some, Option, Some, None, List, [], ◌∷◌, ◌++◌, length, sym, refl, ap, ◌∙◌, subst, arith, length-append}
use mathlib.Core.Option as opt
use Rattle.sequential.specs.declared.entry.Entry.{Entry}
use Rattle.sequential.specs.Histories.{Answered, calls_of}
use Rattle.publication.specs.Words.{OUT, POSTED, BUSY, SERVED, EMPTY}
use Rattle.publication.specs.Views.{Pending, Own, entry, answer, asks}
use Rattle.publication.specs.List.{belongs}
use Rattle.publication.specs.Rule.{announced, IsVacant, IsPosted, IsBusy, IsServed, RecordState}
use Rattle.publication.specs.Rule.RecordState.{vacant, posted, busy, served, retired}
use Rattle.publication.specs.declared.slot.SlotValue.{SlotValue}
use Rattle.publication.specs.declared.slot.SlotValue.TheVariants.{Empty}
use Rattle.atomic_table.proofs.Lists.{at_longer}
use Rattle.publication.proofs.Histories.{calls-other}

-- The state word of a vacant record isn't POSTED, BUSY, SERVED or CLOSED.
pub vacant_word : (w : ℕ) → (w ≡ EMPTY) ⊎ (w ≡ OUT) → 0 < w → w < EMPTY → ⊥
vacant_word w is some few = ⊎_elim (λ (e : w ≡ EMPTY). absurd (omega arith)) (λ (e : w ≡ OUT). absurd (omega arith)) is

module _ {O C R : Type 0} where
  module _ {h : List (Entry C R)} {i w : ℕ} {at : opt.Option (SlotValue O C R)} {o : Own C R} where
    -- With no call pending, the record of a session that hasn't retired is vacant.
    pub is_vacant : RecordState h i w at o → o.pending ≡ None → o.retired ≡ false → IsVacant h i w at o
    is_vacant (vacant t) none live = t
    is_vacant (posted call floor t) none live = absurd (cc (t.some, none))
    is_vacant (busy call floor t) none live = absurd (cc (t.some, none))
    is_vacant (served call floor place reply t) none live = absurd (cc (t.some, none))
    is_vacant (retired t) none live = absurd (cc (t.retired, live))

    -- A record whose word is SERVED holds a reply.
    pub is_served : RecordState h i w at o → w ≡ SERVED → (call : C) × (floor : ℕ) × (place : ℕ) × (reply : R) × IsServed h i w at o call floor place reply
    is_served (vacant t) is = absurd (vacant_word w t.is (omega arith) (omega arith))
    is_served (posted call floor t) is = absurd (omega (arith, t.is))
    is_served (busy call floor t) is = absurd (omega (arith, t.is))
    is_served (served call floor place reply t) is = (call, floor, place, reply, t)
    is_served (retired t) is = absurd (omega (arith, t.is))

    -- A record whose word is POSTED holds the pending call.
    pub is_posted : RecordState h i w at o → w ≡ POSTED → (call : C) × (floor : ℕ) × IsPosted h i w at o call floor
    is_posted (vacant t) is = absurd (vacant_word w t.is (omega arith) (omega arith))
    is_posted (posted call floor t) is = (call, floor, t)
    is_posted (busy call floor t) is = absurd (omega (arith, t.is))
    is_posted (served call floor place reply t) is = absurd (omega (arith, t.is))
    is_posted (retired t) is = absurd (omega (arith, t.is))

    -- A record whose word is EMPTY is vacant.
    pub is_empty : RecordState h i w at o → w ≡ EMPTY → IsVacant h i w at o
    is_empty (vacant t) is = t
    is_empty (posted call floor t) is = absurd (omega (arith, t.is))
    is_empty (busy call floor t) is = absurd (omega (arith, t.is))
    is_empty (served call floor place reply t) is = absurd (omega (arith, t.is))
    is_empty (retired t) is = absurd (omega (arith, t.is))

    -- A record whose word is BUSY has its pending call with the combiner.
    pub is_busy : RecordState h i w at o → w ≡ BUSY → (call : C) × (floor : ℕ) × IsBusy h i w at o call floor
    is_busy (vacant t) is = absurd (vacant_word w t.is (omega arith) (omega arith))
    is_busy (posted call floor t) is = absurd (omega (arith, t.is))
    is_busy (busy call floor t) is = (call, floor, t)
    is_busy (served call floor place reply t) is = absurd (omega (arith, t.is))
    is_busy (retired t) is = absurd (omega (arith, t.is))

    -- A session whose pending call isn't served has collected all its calls in the history.
    pub is_waiting : RecordState h i w at o → w ≢ SERVED → o.pending ≢ None → calls_of i h ≡ o.collected
    is_waiting (vacant t) other some = t.calls
    is_waiting (posted call floor t) other some = t.calls
    is_waiting (busy call floor t) other some = t.calls
    is_waiting (served call floor place reply t) other some = absurd (other t.is)
    is_waiting (retired t) other some = t.calls

  -- With no call pending, whether the record has to be on the list doesn't depend on which call was listed.
  pub idle_belongs : {h : List (Entry C R)} {i w : ℕ} {at : opt.Option (SlotValue O C R)} {o : Own C R} → RecordState h i w at o → o.pending ≡ None → (x y b : Bool) → belongs w x ≡ Some b → belongs w y ≡ Some b
  idle_belongs {w = w} (vacant t) none x y b is = ⊎_elim
      (λ (e : w ≡ EMPTY). subst (λ (n : ℕ). belongs n x ≡ Some b → belongs n y ≡ Some b) (sym e) (λ z. z) is)
      (λ (e : w ≡ OUT). subst (λ (n : ℕ). belongs n x ≡ Some b → belongs n y ≡ Some b) (sym e) (λ z. z) is) t.is
  idle_belongs (posted call floor t) none x y b is = absurd (cc (t.some, none))
  idle_belongs (busy call floor t) none x y b is = absurd (cc (t.some, none))
  idle_belongs (served call floor place reply t) none x y b is = absurd (cc (t.some, none))
  idle_belongs {w = w} (retired t) none x y b is = subst (λ (n : ℕ). belongs n x ≡ Some b → belongs n y ≡ Some b) (sym t.is) (λ z. z) is

  -- With a call pending, the record has to be on the list exactly if the call is listed.
  pub waiting_belongs : {h : List (Entry C R)} {i w : ℕ} {at : opt.Option (SlotValue O C R)} {o : Own C R} → RecordState h i w at o → o.pending ≢ None → (b : Bool) → belongs w b ≡ Some b
  waiting_belongs (vacant t) some b = absurd (some t.none)
  waiting_belongs (posted call floor t) some b = ap (λ (n : ℕ). belongs n b) t.is
  waiting_belongs (busy call floor t) some b = ap (λ (n : ℕ). belongs n b) t.is
  waiting_belongs (served call floor place reply t) some b = ap (λ (n : ℕ). belongs n b) t.is
  waiting_belongs (retired t) some b = absurd (some t.none)

module _ {C R : Type 0} where
  -- What a session knows of its calls once it has left.
  abbrev pub left : Own C R → Own C R
  left o = record { started = false; retired = o.retired; pending = None; collected = o.collected; listed = o.listed; log = o.log }

  -- The record of a session with no call pending isn't BUSY; its state stays the same once its slot is home; and all
  -- its calls in the history are collected.
  pub record IsLeft (O : Type 0) (h : List (Entry C R)) (i w : ℕ) (o : Own C R) : Type 0 where
    pub shut : w ≢ BUSY
    pub stands : RecordState {O = O} h i w (opt.some Empty) (left o)
    pub calls : calls_of i h ≡ o.collected

module _ {O C R : Type 0} where
  -- The record of a session with no call pending is fit to be left.
  pub leaves_record : (h : List (Entry C R)) (i w : ℕ) (at : opt.Option (SlotValue O C R)) (o : Own C R) → RecordState h i w at o → o.pending ≡ None → IsLeft O h i w o
  leaves_record h i w at o (vacant t) none = record {
    shut = λ e. vacant_word w t.is (omega arith) (omega arith);
    stands = vacant record { is = t.is; none = refl; out = λ e. absurd (cc e); empty_slot = λ _. refl; publishes = t.publishes; calls = t.calls };
    calls = t.calls;
  }
  leaves_record h i w at o (posted call floor t) none = absurd (cc (t.some, none))
  leaves_record h i w at o (busy call floor t) none = absurd (cc (t.some, none))
  leaves_record h i w at o (served call floor place reply t) none = absurd (cc (t.some, none))
  leaves_record h i w at o (retired t) none = record {
    shut = λ e. omega (arith, t.is);
    stands = retired record { is = t.is; none = refl; out = λ e. absurd (cc e); empty_slot = λ _. refl; retired = t.retired; calls = t.calls };
    calls = t.calls;
  }

module _ {C : Type 0} where
  -- An option without a value is `None`.
  pub lacks : (x : Option (Pending C)) → is_some x ≡ false → x ≡ None
  lacks None e = refl
  lacks (Some y) e = absurd (cc e)

module _ {C R : Type 0} where
  -- With no call pending, a session has announced the calls that it collected.
  pub idle_announced : (o : Own C R) → o.pending ≡ None → announced o ≡ length o.collected + 0
  idle_announced o e = ap (λ (p : Option (Pending C)). length o.collected + cond (is_some p && o.listed) 1 0) e

  -- With a call pending, it has announced one more if that call is listed.
  pub waits_announced : (o : Own C R) (p : Pending C) → o.pending ≡ Some p → announced o ≡ length o.collected + cond o.listed 1 0
  waits_announced o p e = ap (λ (q : Option (Pending C)). length o.collected + cond (is_some q && o.listed) 1 0) e

  -- With a listed call pending, it has announced one more than it collected.
  pub announced_both : (o : Own C R) → is_some o.pending ≡ true → o.listed ≡ true → announced o ≡ length o.collected + 1
  announced_both o a b = ap (λ (x : Bool). length o.collected + cond (x && o.listed) 1 0) a ∙ ap (λ (x : Bool). length o.collected + cond x 1 0) b

  -- It has announced at most the calls collected and the pending one.
  pub announced_few : (o : Own C R) → announced o ≤ length o.collected + cond (is_some o.pending) 1 0
  announced_few o = few (is_some o.pending) o.listed
    where
      few : (a b : Bool) → length o.collected + cond (a && b) 1 0 ≤ length o.collected + cond a 1 0
      few true true = omega arith
      few true false = omega arith
      few false b = omega arith

-- A count of a condition is at most 1.
pub at_most_one : (b : Bool) → cond b 1 0 ≤ 1
at_most_one true = omega arith
at_most_one false = omega arith

module _ {O C R : Type 0} where
  -- All that a session has announced is in the history, unless its record is POSTED or BUSY.
  pub all_entered : (h : List (Entry C R)) (i w : ℕ) (at : opt.Option (SlotValue O C R)) (o : Own C R) → RecordState h i w at o → w ≢ POSTED → w ≢ BUSY → announced o ≤ length (calls_of i h)
  all_entered h i w at o (vacant t) a b = omega (arith, idle_announced o t.none, ap (λ (l : List (Answered C R)). length l) t.calls)
  all_entered h i w at o (posted call floor t) a b = absurd (a t.is)
  all_entered h i w at o (busy call floor t) a b = absurd (b t.is)
  all_entered h i w at o (served call floor place reply t) a b =
      omega (arith, waits_announced o (asks call floor) t.some, at_most_one o.listed, ap (λ (l : List (Answered C R)). length l) t.calls, length-append o.collected (answer place call reply ∷ []))
  all_entered h i w at o (retired t) a b = omega (arith, idle_announced o t.none, ap (λ (l : List (Answered C R)). length l) t.calls)

  -- If its record is POSTED, all but that call is.
  pub posted_entered : (h : List (Entry C R)) (i w : ℕ) (at : opt.Option (SlotValue O C R)) (o : Own C R) (call : C) (floor : ℕ) → IsPosted h i w at o call floor → announced o ≤ length (calls_of i h) + 1
  posted_entered h i w at o call floor t = omega (arith, waits_announced o (asks call floor) t.some, at_most_one o.listed, ap (λ (l : List (Answered C R)). length l) t.calls)

  -- A pending call is in the history, unless its record is POSTED or BUSY.
  pub own_entered : (h : List (Entry C R)) (i w : ℕ) (at : opt.Option (SlotValue O C R)) (o : Own C R) → RecordState h i w at o → w ≢ POSTED → w ≢ BUSY → o.pending ≢ None → length o.collected < length (calls_of i h)
  own_entered h i w at o (vacant t) a b some = absurd (some t.none)
  own_entered h i w at o (posted call floor t) a b some = absurd (a t.is)
  own_entered h i w at o (busy call floor t) a b some = absurd (b t.is)
  own_entered h i w at o (served call floor place reply t) a b some = omega (arith, ap (λ (l : List (Answered C R)). length l) t.calls, length-append o.collected (answer place call reply ∷ []))
  own_entered h i w at o (retired t) a b some = absurd (some t.none)

module _ {C R : Type 0} where
  -- An entry of another session doesn't change the state of a record.
  module _ (h : List (Entry C R)) (i j : ℕ) (call : C) (reply : R) (ne : i ≢ j) where
    -- The history with one more entry, of session j.
    abbrev h_after : List (Entry C R)
    h_after = h ++ entry j call reply ∷ []

    same_calls : calls_of i h_after ≡ calls_of i h
    same_calls = calls-other i j h call reply (λ e. ne (sym e))

    longer : length h_after ≡ length h + 1
    longer = length-append h (entry j call reply ∷ [])

    module _ {O : Type 0} where
      -- The record's state holds in the longer history.
      pub grown : {w : ℕ} {slot : opt.Option (SlotValue O C R)} {o : Own C R} → RecordState h i w slot o → RecordState h_after i w slot o
      grown (vacant t) = vacant record { is = t.is; none = t.none; out = t.out; empty_slot = t.empty_slot; publishes = t.publishes; calls = same_calls ∙ t.calls }
      grown (posted c floor t) = posted c floor record { is = t.is; some = t.some; asked = t.asked; early = omega (arith, t.early, longer); publishes = t.publishes; calls = same_calls ∙ t.calls }
      grown (busy c floor t) = busy c floor record { is = t.is; some = t.some; early = omega (arith, t.early, longer); publishes = t.publishes; calls = same_calls ∙ t.calls }
      grown (served c floor place r t) = served c floor place r record {
        is = t.is;
        some = t.some;
        replied = t.replied;
        stands = at_longer h (entry j call reply ∷ []) place (entry i c r) t.stands;
        late = t.late;
        publishes = t.publishes;
        calls = same_calls ∙ t.calls;
      }
      grown (retired t) = retired record { is = t.is; none = t.none; out = t.out; empty_slot = t.empty_slot; retired = t.retired; calls = same_calls ∙ t.calls }

module _ {O C R : Type 0} where
  -- The call and floor of a BUSY record are those of its session's pending call.
  pub as_called : (h : List (Entry C R)) (i w : ℕ) (at : opt.Option (SlotValue O C R)) (o : Own C R) (c : C) (f : ℕ) (call : C) (floor : ℕ) → IsBusy h i w at o c f → o.pending ≡ Some (asks call floor) → IsBusy h i w at o call floor
  as_called h i w at o c f call floor t is =
      let e : Some (asks c f) ≡ Some (asks call floor) = sym t.some ∙ is in
      let p : asks c f ≡ asks call floor = cc e in
      let q : f ≡ floor = ap (λ (z : Pending C). z.floor) p in
      record { is = t.is; some = is; early = subst (λ (n : ℕ). n ≤ length h) q t.early; publishes = t.publishes; calls = t.calls }

-- A session that has announced a call which isn't in the history has it pending and listed.
one_more : (b : Bool) (n m : ℕ) → n < m → m ≡ n + cond b 1 0 → b ≡ true
one_more true n m lt e = refl
one_more false n m lt e = absurd (omega (arith, e))

module _ {O C R : Type 0} where
  -- Such a session's record has to be on the list.
  pub announced_listed : (h : List (Entry C R)) (i w : ℕ) (at : opt.Option (SlotValue O C R)) (o : Own C R) → RecordState h i w at o → length (calls_of i h) < announced o → (o.pending ≢ None) × (belongs w o.listed ≡ Some true)
  announced_listed h i w at o (vacant t) more = absurd (omega (arith, idle_announced o t.none, ap (λ (l : List (Answered C R)). length l) t.calls))
  announced_listed h i w at o (posted call floor t) more =
      let b : o.listed ≡ true = one_more o.listed (length o.collected) (announced o) (omega (arith, ap (λ (l : List (Answered C R)). length l) t.calls)) (waits_announced o (asks call floor) t.some) in
      ((λ none. absurd (let e = t.some in cc (e, none))), ap (λ (n : ℕ). belongs n o.listed) t.is ∙ ap (λ (x : Bool). Some x) b)
  announced_listed h i w at o (busy call floor t) more =
      let b : o.listed ≡ true = one_more o.listed (length o.collected) (announced o) (omega (arith, ap (λ (l : List (Answered C R)). length l) t.calls)) (waits_announced o (asks call floor) t.some) in
      ((λ none. absurd (let e = t.some in cc (e, none))), ap (λ (n : ℕ). belongs n o.listed) t.is ∙ ap (λ (x : Bool). Some x) b)
  announced_listed h i w at o (served call floor place reply t) more = absurd
      (omega (arith, waits_announced o (asks call floor) t.some, at_most_one o.listed, ap (λ (l : List (Answered C R)). length l) t.calls, length-append o.collected (answer place call reply ∷ [])))
  announced_listed h i w at o (retired t) more = absurd (omega (arith, idle_announced o t.none, ap (λ (l : List (Answered C R)). length l) t.calls))

  -- The state of a record doesn't depend on whether the call was listed.
  pub stands_listed : {h : List (Entry C R)} {i w : ℕ} {at : opt.Option (SlotValue O C R)} {o : Own C R} (b : Bool) → RecordState h i w at o
      → RecordState h i w at (record { started = o.started; retired = o.retired; pending = o.pending; collected = o.collected; listed = b; log = o.log })
  stands_listed b (vacant t) = vacant record { is = t.is; none = t.none; out = t.out; empty_slot = t.empty_slot; publishes = t.publishes; calls = t.calls }
  stands_listed b (posted call floor t) = posted call floor record { is = t.is; some = t.some; asked = t.asked; early = t.early; publishes = t.publishes; calls = t.calls }
  stands_listed b (busy call floor t) = busy call floor record { is = t.is; some = t.some; early = t.early; publishes = t.publishes; calls = t.calls }
  stands_listed b (served call floor place reply t) = served call floor place reply record { is = t.is; some = t.some; replied = t.replied; stands = t.stands; late = t.late; publishes = t.publishes; calls = t.calls }
  stands_listed b (retired t) = retired record { is = t.is; none = t.none; out = t.out; empty_slot = t.empty_slot; retired = t.retired; calls = t.calls }

module _ {C : Type 0} where
  -- An option that isn't `None` has a value.
  pub waits_for : (x : Option (Pending C)) → x ≢ None → (p : Pending C) × (x ≡ Some p)
  waits_for None some = absurd (some refl)
  waits_for (Some p) some = (p, refl)
