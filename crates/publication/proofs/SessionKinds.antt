-- The kinds of step of a session on its own record keep the rule: start, post, look for reply, take, retire and
-- leave.
use Rattle.std.proofs.Common.{◌≡◌, ◌≢◌, ◌⊎◌, inl, inr, ⊎_elim, ℕ, zero, suc, ◌+◌, ◌<◌, ◌≤◌, ◌==◌, max, cond, Bool, true, false, Option, Some, None, List, [], ◌∷◌, ◌++◌, length, get_or, set, take, sym, refl, ap, ◌∙◌, subst, arith, length-append, length-set, eqb, is_some, get_or-set_other, get_or-set_same}
use Rattle.sequential.specs.Bounds.{Bounds}
use Rattle.std.proofs.lemmas.List.{set-get_or}
use Rattle.std.proofs.Math.Seq.{take-length}
use mathlib.Core.Option as opt
use prog.Atomic.{either}
use lib.ListN.{get_elem?}
use Rattle.atomic_table.specs.Table.{Act, keeps, takes, gives, Valid, carried_after, stepped, step, Allows}
use Rattle.atomic_table.proofs.Lists.{exchanged, set_again}
use Rattle.sequential.specs.declared.entry.Entry.{Entry}
use Rattle.sequential.specs.Histories.{Answered, calls_of}
use Rattle.sequential.specs.Linearizable.{Event, invocation, response}
use Rattle.publication.specs.Words.{word_of, OUT, POSTED, SERVED, CLOSED, EMPTY}
use Rattle.publication.specs.Views.{Own, entry, answer, asks}
use Rattle.publication.specs.Rule.{blank, BoardState, word, home, seat, own_at, announced, IsVacant, IsServed, RecordState, call_of, IsOrderly}
use Rattle.publication.specs.Rule.RecordState.{vacant, posted, retired}
use Rattle.publication.specs.List.{belongs, IsLinked, IsRuled, IsBounded}
use Rattle.publication.specs.StepKinds.{Seated, own, as_session, forget_head, heard_all, started, starts, posting, posts, IsUnanswered, looks_for_reply, taking, Took, takes_reply, retiring, retires, leaving, leaves}
use Rattle.publication.specs.declared.view.View.{View}
use Rattle.publication.specs.declared.slot.SlotValue.{SlotValue}
use Rattle.publication.specs.declared.slot.SlotValue.TheVariants.{Empty, PostedCall, ServedReply}
use Rattle.publication.proofs.Lists.{at_there, at_home, at_taken, IsCut, cut}
use Rattle.publication.proofs.SeatViews.{session_of, front_of, heard_few, whole_of}
use Rattle.publication.proofs.Histories.{legal-begins, length-begins, calls-cut, calls-fewer}
use Rattle.publication.proofs.RecordStates.{vacant_word, at_most_one, is_vacant, is_served, is_waiting, left, leaves_record, lacks, idle_announced, waits_announced}
use Rattle.publication.proofs.LaidDown.{Fits, valid_of, stays_home}
use Rattle.publication.proofs.UnchangedList.{links_kept, aside, same_walk}
use Rattle.publication.proofs.OrderlySession.{IsOwnStep, moved}
use Rattle.publication.proofs.InTime.{same_known, invokes, responds}
use Rattle.sequential.specs.Meaning.{AreFrontsLegal}
use Rattle.sequential.specs.declared.object.Sequential.{Ghosts}

module _ {O C R : Type 0} {obj : Ghosts O C R} where
  -- A step that changes nothing keeps the rule.
  pub unmoved : (s : BoardState O C R) → IsOrderly obj s → IsLinked s → (i id : ℕ) (v : View C R) → get_elem? s.views id ≡ opt.some v
      → IsRuled obj record { words = set s.words (word_of i) (word s i); homes = s.homes; views = set s.views id v }
  unmoved s o l i id v me = subst (λ (ws : List ℕ). IsRuled obj record { words = ws; homes = s.homes; views = set s.views id v }) (sym (set-get_or s.words (word_of i) 0))
      (subst (λ (vs : List (View C R)). IsRuled obj record { words = s.words; homes = s.homes; views = vs }) (sym (set_again s.views id v me)) (record { records = o; list = l }))

module _ {O C R : Type 0} (obj : Ghosts O C R) where
  -- Seat `id`, in state m, has a step on state word i that keeps the rule, leaves k in the word, lays down no load, and says `then`.
  abbrev pub Goes : BoardState O C R → ℕ → ℕ → Seated O C R → (ℕ → Seated O C R → Type 0) → ℕ → Type 0
  Goes s i id m then k = (w : View C R) × (a : Act (SlotValue O C R)) × Fits s.homes m.1 a × IsRuled obj (stepped s (word_of i) k id m.1 w a) × then (word s i) (w, carried_after m.1 a)

module _ {O C R : Type 0} {obj : Ghosts O C R} where
  -- Session i has seat i.
  pub named : (s : BoardState O C R) (o : IsOrderly obj s) (id i : ℕ) (v : View C R) → get_elem? s.views id ≡ opt.some v → v.number ≡ i → 0 < i → (id ≡ i) × (i < o.slots) × (length v.combiner.opened ≡ o.slots)
  named s o id i v me is some_number =
      let t = session_of s o id v me (λ z. omega arith) in
      (omega (arith, t.is), omega (arith, t.is, t.small), t.wide)

module _ {O C R : Type 0} (obj : Ghosts O C R) where
  -- Like `Goes`, for the word at index p, which may be a link word.
  abbrev pub GoesAt : BoardState O C R → ℕ → ℕ → Seated O C R → (ℕ → Seated O C R → Type 0) → ℕ → Type 0
  GoesAt s p id m then k = (w : View C R) × (a : Act (SlotValue O C R)) × Fits s.homes m.1 a × IsRuled obj (stepped s p k id m.1 w a) × then (get_or s.words p 0) (w, carried_after m.1 a)

module _ {O C R : Type 0} {obj : Ghosts O C R} {bound : Bounds} where
  -- A step that lays down no load leaves an object at home that was there.
  bounded : (s : BoardState O C R) (p id : ℕ) (m : Seated O C R) (then : Seated O C R → Type 0) (k : ℕ) → IsBounded obj bound s
      → (w : View C R) × (a : Act (SlotValue O C R)) × Fits s.homes m.1 a × IsRuled obj (stepped s p k id m.1 w a) × then (w, carried_after m.1 a)
      → (w : View C R) × (a : Act (SlotValue O C R)) × Valid s.homes m.1 a × IsBounded obj bound (stepped s p k id m.1 w a) × then (w, carried_after m.1 a)
  bounded s p id m then k b g = (
    g.0,
    g.1,
    valid_of s.homes m.1 g.1 g.2,
    record { ruled = g.3; within = λ load there. b.within load (stays_home s.homes m.1 g.1 g.2 load there) },
    g.4,
  )

  -- A step of session i's seat, which is seat i.
  pub seated_at : (slots id i p : ℕ) (v : View C R) (more : List (ℕ × SlotValue O C R)) (f : ℕ → ℕ) (then : ℕ → Seated O C R → Type 0) → v.number ≡ i → 0 < i
      → ((s : BoardState O C R) (o : IsOrderly obj s) (l : IsLinked s) → get_elem? s.views i ≡ opt.some v → i < o.slots → o.slots ≡ slots → GoesAt obj s p i (v, more) then (f (get_or s.words p 0)))
      → Allows (IsBounded obj bound) slots id (v, more) p f then
  seated_at slots id i p v more f then is some_number goes s b wide me _ =
      let r = b.ruled in
      let o = r.records in
      let t = named s o id i v me is some_number in
      bounded s p id (v, more) (then (get_or s.words p 0)) (f (get_or s.words p 0)) b
      (subst (λ (k : ℕ). GoesAt obj s p k (v, more) then (f (get_or s.words p 0))) (sym t.0) (goes s o r.list (subst (λ (k : ℕ). get_elem? s.views k ≡ opt.some v) t.0 me) t.1 (sym o.homes_are ∙ wide)))

  -- Like `seated_at`, for the state word of record x, given how many entries the object at home keeps.
  pub seated_within : (slots id i x : ℕ) (v : View C R) (more : List (ℕ × SlotValue O C R)) (f : ℕ → ℕ) (then : ℕ → Seated O C R → Type 0) → v.number ≡ i → 0 < i
      → ((s : BoardState O C R) (b : IsBounded obj bound s) → get_elem? s.views i ≡ opt.some v → i < b.ruled.records.slots → length v.combiner.opened ≡ b.ruled.records.slots → b.ruled.records.slots ≡ slots → Goes obj s x i (v, more) then (f (word s x)))
      → Allows (IsBounded obj bound) slots id (v, more) (word_of x) f then
  seated_within slots id i x v more f then is some_number goes s b wide me _ =
      let o = b.ruled.records in
      let t = named s o id i v me is some_number in
      bounded s (word_of x) id (v, more) (then (word s x)) (f (word s x)) b
      (subst (λ (k : ℕ). Goes obj s x k (v, more) then (f (word s x))) (sym t.0) (goes s b (subst (λ (k : ℕ). get_elem? s.views k ≡ opt.some v) t.0 me) t.1 t.2 (sym o.homes_are ∙ wide)))

  -- Like `seated_at`, for the state word of record x.
  pub seated : (slots id i x : ℕ) (v : View C R) (more : List (ℕ × SlotValue O C R)) (f : ℕ → ℕ) (then : ℕ → Seated O C R → Type 0) → v.number ≡ i → 0 < i
      → ((s : BoardState O C R) (o : IsOrderly obj s) (l : IsLinked s) → get_elem? s.views i ≡ opt.some v → i < o.slots → length v.combiner.opened ≡ o.slots → o.slots ≡ slots → Goes obj s x i (v, more) then (f (word s x)))
      → Allows (IsBounded obj bound) slots id (v, more) (word_of x) f then
  seated slots id i x v more f then is some_number goes = seated_within slots id i x v more f then is some_number (λ s b. goes s b.ruled.records b.ruled.list)

module _ {O C R : Type 0} {obj : Ghosts O C R} where
  module _ (i : ℕ) (v : View C R) (is : v.number ≡ i) (some_number : 0 < i) (s : BoardState O C R) (o : IsOrderly obj s) (l : IsLinked s) (me : get_elem? s.views i ≡ opt.some v) (small : i < o.slots) where
    -- The view names a session.
    pub lives : v.number ≢ 0
    lives e = omega arith

    -- Seat i has view v.
    pub is_me : seat s i ≡ v
    is_me = (at_there s.views i v blank me).0

    -- The view has what the rule says of the session's own calls.
    pub own_is : v.own ≡ own_at o.owns i
    own_is = (session_of s o i v me lives).own_is

    -- The session's record is in the state that its word names.
    pub stand : RecordState o.history i (word s i) (home s i) v.own
    stand = subst (λ (u : Own C R). RecordState o.history i (word s i) (home s i) u) (sym own_is) (o.stands i some_number small)

    -- The session has heard of no more of its calls than it announced.
    pub heard_own : get_or v.heard i 0 ≤ announced v.own
    heard_own = subst (λ (u : Own C R). get_or v.heard i 0 ≤ announced u) (sym own_is) (heard_few s o i v me i)

    here_now : (n : ℕ) → get_or (set s.words (word_of i) n) (word_of i) 0 ≡ n
    here_now n = get_or-set_same s.words (word_of i) n 0 (omega (arith, o.words_are))

    -- The publication list doesn't change, if the record has to be on it, or off it, only if it had to before.
    still_listed : (n : ℕ) (at : opt.Option (SlotValue O C R)) (front : List (Entry C R)) (w : Own C R) (heard : List ℕ) → ((b : Bool) → belongs n w.listed ≡ Some b → belongs (word s i) v.own.listed ≡ Some b)
        → IsLinked record { words = set s.words (word_of i) n; homes = set s.homes i at; views = set s.views i (as_session v front w heard (forget_head v.listing)) }
    still_listed n at front w heard claims =
        let u : View C R = as_session v front w heard (forget_head v.listing) in
        let ws : List ℕ = set s.words (word_of i) n in
        let hs : List (opt.Option (SlotValue O C R)) = set s.homes i at in
        aside s l i v u ws hs me (links_kept s.words i n) (length-set s.homes i at)
        (λ e. l.whole (sym (get_or-set_other s.words (word_of i) (word_of 0) n 0 (λ z. omega (arith, z))) ∙ e))
        (λ j b some ne. ap (λ (m : ℕ). belongs m b) (get_or-set_other s.words (word_of i) (word_of j) n 0 (λ e. ne (omega (arith, e)))))
        (record {
          claims = λ b some e. claims b (sym (ap (λ (m : ℕ). belongs m w.listed) (here_now n)) ∙ e);
          heads_seen = λ m e. absurd (cc e);
          walkers = λ has. same_walk s l i v u ws hs me has refl refl refl;
        })

    -- start

    start_step : IsVacant o.history i (word s i) (home s i) v.own
        → IsOwnStep s o i v (word s i) opt.none v.front (own None v.own.collected v.own.listed v.own.log) v.heard (forget_head v.listing) me some_number small lives
    start_step t = record {
      more = omega (arith, idle_announced v.own t.none);
      hears = λ j ne. refl;
      hears_own = omega (arith, heard_own, idle_announced v.own t.none);
      was_busy = λ e. absurd (vacant_word (word s i) t.is (omega arith) (omega arith));
      is_busy = λ e. e;
      begins = front_of s o i v me;
      whole = whole_of s o i v me;
      stands = vacant record { is = t.is; none = refl; out = λ _. refl; empty_slot = λ e. absurd (cc e); publishes = refl; calls = t.calls };
      noted = inl (refl, same_known v.own (own None v.own.collected v.own.listed v.own.log) refl (sym t.none));
    }

    start_goes : (more : List (ℕ × SlotValue O C R)) → v.own.started ≡ false → IsVacant o.history i (word s i) (home s i) v.own
        → Goes obj s i i (v, more) (starts (step o.slots (word_of i) 0 0 opt.none) (v, more)) (word s i)
    start_goes more unstarted t = (
      started v,
      takes i Empty,
      at_home s.homes i Empty (t.empty_slot unstarted),
      record {
        records = moved s o i v (word s i) opt.none v.front (own None v.own.collected v.own.listed v.own.log) v.heard (forget_head v.listing) me some_number small lives (start_step t);
        list = still_listed (word s i) opt.none v.front (own None v.own.collected v.own.listed v.own.log) v.heard (λ b is. is);
      },
      ap (λ (k : ℕ). (started v, (k, Empty) ∷ more)) (sym is),
    )

    -- post

    -- The session's events after post.
    abbrev log_posted : C → List (ℕ × Event C R)
    log_posted call = v.own.log ++ (length o.in_time.events, invocation v.number call) ∷ []

    -- The session's own calls after post.
    abbrev own_posted : C → Bool → Own C R
    own_posted call listed = own (Some (asks call (length v.front))) v.own.collected listed (log_posted call)

    -- The heard counts after post.
    abbrev heard_posted : Bool → List ℕ
    heard_posted listed = cond listed (heard_all v) v.heard

    -- The element at an index after a write there, or past the end.
    at_most : (l : List ℕ) (k n : ℕ) → get_or (set l k n) k 0 ≤ n
    at_most [] k n = omega arith
    at_most (x ∷ xs) zero n = omega arith
    at_most (x ∷ xs) (suc k) n = at_most xs k n

    -- What the session heard of other sessions doesn't change.
    pub hears_others : (b : Bool) (j : ℕ) → j ≢ i → get_or (heard_posted b) j 0 ≡ get_or v.heard j 0
    hears_others true j ne = get_or-set_other v.heard v.number j (length v.own.collected + 1) 0 (λ e. ne (e ∙ is))
    hears_others false j ne = refl

    -- Once it counts its pending call, it has heard of at most one call more than it collected.
    pub heard_at_most : get_or (heard_all v) i 0 ≤ length v.own.collected + 1
    heard_at_most = subst (λ (k : ℕ). get_or (set v.heard k (length v.own.collected + 1)) i 0 ≤ length v.own.collected + 1) (sym is) (at_most v.heard i (length v.own.collected + 1))

    hears_posted : (call : C) (b : Bool) → get_or v.heard i 0 ≤ length v.own.collected + 0 → get_or (heard_posted b) i 0 ≤ announced (own_posted call b)
    hears_posted call true was = heard_at_most
    hears_posted call false was = was

    post_step : (call : C) (b : Bool) → IsVacant o.history i (word s i) (home s i) v.own
        → IsOwnStep s o i v POSTED (opt.some (PostedCall call)) v.front (own_posted call b) (heard_posted b) (forget_head v.listing) me some_number small lives
    post_step call b t = record {
      more = omega (arith, idle_announced v.own t.none);
      hears = hears_others b;
      hears_own = hears_posted call b (omega (arith, heard_own, idle_announced v.own t.none));
      was_busy = λ e. absurd (vacant_word (word s i) t.is (omega arith) (omega arith));
      is_busy = λ e. absurd (omega arith);
      begins = front_of s o i v me;
      whole = whole_of s o i v me;
      stands = posted call (length v.front) record { is = refl; some = refl; asked = refl; early = length-begins v.front o.history (front_of s o i v me); publishes = refl; calls = t.calls };
      noted = inr (invokes o.history o.slots o.owns o.in_time i v.own (own_posted call b) own_is some_number small v.number is call t.none refl refl refl);
    }

    -- The record of a posted call has to be on the list exactly if it had to before.
    posted_claims : (w : ℕ) → (w ≡ EMPTY) ⊎ (w ≡ OUT) → (b : Bool) → belongs POSTED (w == EMPTY) ≡ Some b → belongs w v.own.listed ≡ Some b
    posted_claims w is b e = ⊎_elim
        (λ (here : w ≡ EMPTY). subst (λ (n : ℕ). belongs POSTED (n == EMPTY) ≡ Some b → belongs n v.own.listed ≡ Some b) (sym here) (λ z. z) e)
        (λ (out : w ≡ OUT). subst (λ (n : ℕ). belongs POSTED (n == EMPTY) ≡ Some b → belongs n v.own.listed ≡ Some b) (sym out) (λ z. z) e) is

    post_goes : (call : C) (more : List (ℕ × SlotValue O C R)) → IsVacant o.history i (word s i) (home s i) v.own
        → Goes obj s i i (v, (i, PostedCall call) ∷ more) (posts obj (step o.slots (word_of i) POSTED 0 opt.none) (v, (i, PostedCall call) ∷ more)) POSTED
    post_goes call more t = (
      posting v (log_posted call) call (word s i == EMPTY),
      gives,
      tt,
      record {
        records = moved s o i v POSTED (opt.some (PostedCall call)) v.front (own_posted call (word s i == EMPTY)) (heard_posted (word s i == EMPTY)) (forget_head v.listing) me some_number small lives
            (post_step call (word s i == EMPTY) t);
        list = still_listed POSTED (opt.some (PostedCall call)) v.front (own_posted call (word s i == EMPTY)) (heard_posted (word s i == EMPTY)) (posted_claims (word s i) t.is);
      },
      (refl, (length o.in_time.events, refl)),
    )

    -- look for reply

    unanswered : word s i ≢ SERVED → IsUnanswered v
    unanswered miss some = subst (λ (k : ℕ). length (calls_of k v.front) ≤ length v.own.collected) (sym is)
        (subst (λ (l : List (Answered C R)). length (calls_of i v.front) ≤ length l) (is_waiting stand miss some) (calls-fewer i v.front o.history (front_of s o i v me)))

    look_goes : (more : List (ℕ × SlotValue O C R)) → Goes obj s i i (v, more) (looks_for_reply (step o.slots (word_of i) 0 0 opt.none) (v, more)) (word s i)
    look_goes more = (v, keeps, tt, unmoved s o l i i v me, (refl, unanswered))

    -- take: a record whose call was listed stays on the list, and one whose call wasn't stays off it

    -- The state word after take, by whether the call was listed.
    abbrev left_word : Bool → ℕ
    left_word b = cond b EMPTY OUT

    left_vacant : (b : Bool) → (left_word b ≡ EMPTY) ⊎ (left_word b ≡ OUT)
    left_vacant true = inl refl
    left_vacant false = inr refl

    left_belongs : (b c : Bool) → belongs (left_word b) c ≡ Some b
    left_belongs true c = refl
    left_belongs false c = refl

    module _ (call : C) (floor place : ℕ) (reply : R) (f : IsServed o.history i (word s i) (home s i) v.own call floor place reply) where
      -- The length of the front that the session knows after take.
      abbrev known : ℕ
      known = max (length v.front) (place + 1)

      -- The front that the session knows after take.
      abbrev front : List (Entry C R)
      front = take known o.history

      -- The answers that the session has collected after take.
      abbrev collected : List (Answered C R)
      collected = v.own.collected ++ answer place call reply ∷ []

      -- The session's events after take.
      abbrev log_taken : List (ℕ × Event C R)
      log_taken = v.own.log ++ (length o.in_time.events, response v.number reply) ∷ []

      -- The session's own calls after take.
      abbrev own_taken : Own C R
      own_taken = record { started = true; retired = v.own.retired; pending = None; collected = collected; listed = v.own.listed; log = log_taken }

      stands_there : place < length o.history
      stands_there = (at_there o.history place (entry i call reply) (entry 0 obj.any_call obj.any_reply) f.stands).1

      cut_off : IsCut v.front o.history known
      cut_off = cut v.front o.history known (front_of s o i v me) (omega arith) (omega (arith, stands_there, length-begins v.front o.history (front_of s o i v me)))

      calls_known : calls_of i front ≡ collected
      calls_known = calls-cut i 0 known o.history v.own.collected (answer place call reply) f.calls (omega arith) ∙ f.calls

      took : AreFrontsLegal obj → Took obj v.number v.front v.own.collected call floor place reply front
      took fronts = record {
        legal = legal-begins obj fronts front o.history cut_off.front o.legal;
        short = omega (arith, o.short, length-begins front o.history cut_off.front);
        longer = cut_off.longer;
        long = cut_off.long;
        stands = subst (λ (k : ℕ). get_elem? front place ≡ opt.some (entry k call reply)) (sym is) (at_taken o.history known place (entry i call reply) (omega arith) f.stands);
        late = f.late;
        calls = subst (λ (k : ℕ). calls_of k front ≡ collected) (sym is) calls_known;
      }

      no_more : announced v.own ≤ length collected
      no_more = omega (arith, waits_announced v.own (asks call floor) f.some, at_most_one v.own.listed, length-append v.own.collected (answer place call reply ∷ []))

      take_step : (b : Bool) → IsOwnStep s o i v (left_word b) opt.none front own_taken v.heard (forget_head v.listing) me some_number small lives
      take_step b = record {
        more = omega (arith, no_more);
        hears = λ j ne. refl;
        hears_own = omega (arith, heard_own, no_more);
        was_busy = λ e. absurd (omega (arith, f.is));
        is_busy = λ e. absurd (vacant_word (left_word b) (left_vacant b) (omega arith) (omega arith));
        begins = cut_off.front;
        whole = λ has. let e : known ≡ length o.history = omega (arith, stands_there, ap (λ (l : List (Entry C R)). length l) (whole_of s o i v me has)) in rw e (take-length o.history);
        stands = vacant record { is = left_vacant b; none = refl; out = λ _. refl; empty_slot = λ e. absurd (cc e); publishes = f.publishes; calls = f.calls };
        noted = inr (responds o.history o.slots o.owns o.in_time i v.own own_taken own_is some_number small v.number is call place reply (ap {B = Option C} call_of f.some) refl refl refl);
      }

      take_won : AreFrontsLegal obj → (more : List (ℕ × SlotValue O C R)) → word s i ≡ SERVED
          → Goes obj s i i (v, more) (takes_reply obj (step o.slots (word_of i) SERVED (left_word v.own.listed) opt.none) (v, more)) (left_word v.own.listed)
      take_won fronts more hit = (
        taking v log_taken front call place reply,
        takes i (ServedReply place reply),
        at_home s.homes i (ServedReply place reply) f.replied,
        record {
          records = moved s o i v (left_word v.own.listed) opt.none front own_taken v.heard (forget_head v.listing) me some_number small lives (take_step v.own.listed);
          list = still_listed (left_word v.own.listed) opt.none front own_taken v.heard
              (λ b e. subst (λ (n : ℕ). belongs n v.own.listed ≡ Some b) (sym hit) (sym (left_belongs v.own.listed v.own.listed) ∙ e));
        },
        (
          (λ _. (place, reply, (call, floor, front, f.some, ap (λ (k : ℕ). (taking v log_taken front call place reply, (k, ServedReply place reply) ∷ more)) (sym is), took fronts, (length o.in_time.events, refl)))),
          λ miss. absurd (miss hit),
        ),
      )

    take_lost : (more : List (ℕ × SlotValue O C R)) → word s i ≢ SERVED → Goes obj s i i (v, more) (takes_reply obj (step o.slots (word_of i) SERVED (left_word v.own.listed) opt.none) (v, more)) (word s i)
    take_lost more miss = (v, keeps, tt, unmoved s o l i i v me, ((λ hit. absurd (miss hit)), λ _. (refl, unanswered miss)))

    take_goes : AreFrontsLegal obj → (more : List (ℕ × SlotValue O C R)) → Goes obj s i i (v, more) (takes_reply obj (step o.slots (word_of i) SERVED (left_word v.own.listed) opt.none) (v, more)) (either (eqb (word s i) SERVED) (left_word v.own.listed) (word s i))
    take_goes fronts more = exchanged (word s i) SERVED (left_word v.own.listed) (Goes obj s i i (v, more) (takes_reply obj (step o.slots (word_of i) SERVED (left_word v.own.listed) opt.none) (v, more)))
        (λ hit. let t = is_served stand hit in take_won t.0 t.1 t.2 t.3 t.4 fronts more hit) (take_lost more)

    -- retire

    -- The session's own calls after retire.
    abbrev own_retired : Own C R
    own_retired = record { started = true; retired = true; pending = None; collected = v.own.collected; listed = v.own.listed; log = v.own.log }

    retire_step : v.own.started ≡ true → IsVacant o.history i (word s i) (home s i) v.own
        → IsOwnStep s o i v CLOSED (home s i) v.front own_retired v.heard (forget_head v.listing) me some_number small lives
    retire_step has_started t = record {
      more = omega (arith, idle_announced v.own t.none);
      hears = λ j ne. refl;
      hears_own = omega (arith, heard_own, idle_announced v.own t.none);
      was_busy = λ e. absurd (vacant_word (word s i) t.is (omega arith) (omega arith));
      is_busy = λ e. absurd (omega arith);
      begins = front_of s o i v me;
      whole = whole_of s o i v me;
      stands = retired record { is = refl; none = refl; out = λ _. t.out has_started; empty_slot = λ e. absurd (cc e); retired = refl; calls = t.calls };
      noted = inl (refl, same_known v.own own_retired refl (sym t.none));
    }

    retire_goes : (more : List (ℕ × SlotValue O C R)) → v.own.started ≡ true → IsVacant o.history i (word s i) (home s i) v.own
        → Goes obj s i i (v, more) (λ _. retires (step o.slots (word_of i) CLOSED 0 opt.none) (v, more) CLOSED) CLOSED
    retire_goes more has_started t = (
      retiring v,
      keeps,
      tt,
      subst (λ (hs : List (opt.Option (SlotValue O C R))). IsRuled obj record { words = set s.words (word_of i) CLOSED; homes = hs; views = set s.views i (retiring v) }) (set-get_or s.homes i opt.none)
          (record {
            records = moved s o i v CLOSED (home s i) v.front own_retired v.heard (forget_head v.listing) me some_number small lives (retire_step has_started t);
            list = still_listed CLOSED (home s i) v.front own_retired v.heard (λ b e. absurd (cc e));
          }),
      refl,
    )

    -- leave

    leave_step : v.own.pending ≡ None → IsOwnStep s o i v (word s i) (opt.some Empty) v.front (left v.own) v.heard (forget_head v.listing) me some_number small lives
    leave_step none = let t = leaves_record o.history i (word s i) (home s i) v.own stand none in record {
      more = omega (arith, idle_announced v.own none);
      hears = λ j ne. refl;
      hears_own = omega (arith, heard_own, idle_announced v.own none);
      was_busy = λ e. absurd (t.shut e);
      is_busy = λ e. e;
      begins = front_of s o i v me;
      whole = whole_of s o i v me;
      stands = t.stands;
      noted = inl (refl, same_known v.own (left v.own) refl (sym none));
    }

    leave_goes : (more : List (ℕ × SlotValue O C R)) → v.own.pending ≡ None
        → Goes obj s i i (v, (i, Empty) ∷ more) (leaves (step o.slots (word_of i) 0 0 opt.none) (v, (i, Empty) ∷ more)) (word s i)
    leave_goes more none = (
      leaving v,
      gives,
      tt,
      record {
        records = moved s o i v (word s i) (opt.some Empty) v.front (left v.own) v.heard (forget_head v.listing) me some_number small lives (leave_step none);
        list = still_listed (word s i) (opt.some Empty) v.front (left v.own) v.heard (λ b e. e);
      },
      refl,
    )

module _ {O C R : Type 0} where
  -- What the table demands of each of these steps.
  module _ (slots id i : ℕ) (v : View C R) (more : List (ℕ × SlotValue O C R)) (is : v.number ≡ i) (some_number : 0 < i) where
    module _ {obj : Ghosts O C R} {bound : Bounds} where
      -- Start keeps the rule, for a session that hasn't started.
      pub start_kept : v.own.started ≡ false → v.own.pending ≡ None → v.own.retired ≡ false
          → Allows (IsBounded obj bound) slots id (v, more) (word_of i) (λ n. n) (starts (step slots (word_of i) 0 0 opt.none) (v, more))
      start_kept unstarted none live = seated slots id i i v more (λ n. n) (starts (step slots (word_of i) 0 0 opt.none) (v, more)) is some_number
          (λ s o l me small wide e. start_goes i v is some_number s o l me small more unstarted (is_vacant (stand i v is some_number s o l me small) none live))

      -- Post keeps the rule, for a session that may publish.
      pub post_kept : (call : C) → is_some v.own.pending ≡ false → v.own.retired ≡ false
          → Allows (IsBounded obj bound) slots id (v, (i, PostedCall call) ∷ more) (word_of i) (λ _. POSTED) (posts obj (step slots (word_of i) POSTED 0 opt.none) (v, (i, PostedCall call) ∷ more))
      post_kept call none live = seated slots id i i v ((i, PostedCall call) ∷ more) (λ _. POSTED) (posts obj (step slots (word_of i) POSTED 0 opt.none) (v, (i, PostedCall call) ∷ more)) is some_number
          (λ s o l me small wide e. post_goes i v is some_number s o l me small call more (is_vacant (stand i v is some_number s o l me small) (lacks v.own.pending none) live))

      -- Look for reply keeps the rule.
      pub look_kept : Allows (IsBounded obj bound) slots id (v, more) (word_of i) (λ n. n) (looks_for_reply (step slots (word_of i) 0 0 opt.none) (v, more))
      look_kept = seated slots id i i v more (λ n. n) (looks_for_reply (step slots (word_of i) 0 0 opt.none) (v, more)) is some_number
          (λ s o l me small wide e. look_goes i v is some_number s o l me small more)

      -- Take keeps the rule.
      pub take_kept : AreFrontsLegal obj → Allows (IsBounded obj bound) slots id (v, more) (word_of i) (λ n. either (eqb n SERVED) (cond v.own.listed EMPTY OUT) n) (takes_reply obj (step slots (word_of i) SERVED (cond v.own.listed EMPTY OUT) opt.none) (v, more))
      take_kept fronts = seated slots id i i v more (λ n. either (eqb n SERVED) (cond v.own.listed EMPTY OUT) n) (takes_reply obj (step slots (word_of i) SERVED (cond v.own.listed EMPTY OUT) opt.none) (v, more)) is some_number
          (λ s o l me small wide e. take_goes i v is some_number s o l me small fronts more)

      -- Retire keeps the rule, for a session with no call pending.
      pub retire_kept : is_some v.own.pending ≡ false → v.own.retired ≡ false → v.own.started ≡ true
          → Allows (IsBounded obj bound) slots id (v, more) (word_of i) (λ _. CLOSED) (λ _. retires (step slots (word_of i) CLOSED 0 opt.none) (v, more) CLOSED)
      retire_kept none live has_started = seated slots id i i v more (λ _. CLOSED) (λ _. retires (step slots (word_of i) CLOSED 0 opt.none) (v, more) CLOSED) is some_number
          (λ s o l me small wide e. retire_goes i v is some_number s o l me small more has_started (is_vacant (stand i v is some_number s o l me small) (lacks v.own.pending none) live))

      -- Leave keeps the rule, for a session with no call pending.
      pub leave_kept : is_some v.own.pending ≡ false
          → Allows (IsBounded obj bound) slots id (v, (i, Empty) ∷ more) (word_of i) (λ n. n) (leaves (step slots (word_of i) 0 0 opt.none) (v, (i, Empty) ∷ more))
      leave_kept none = seated slots id i i v ((i, Empty) ∷ more) (λ n. n) (leaves (step slots (word_of i) 0 0 opt.none) (v, (i, Empty) ∷ more)) is some_number
          (λ s o l me small wide e. leave_goes i v is some_number s o l me small more (lacks v.own.pending none))
