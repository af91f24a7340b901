-- The kinds of step of a combiner on a record keep the rule: look at record, open, lay, pick, answer and put back.
use Rattle.std.proofs.Common.{◌≡◌, ◌≢◌, inl, inr, ℕ, ◌+◌, ◌^◌, ◌<◌, ◌≤◌, Bool, true, eqb, Option, Some, None, List, [], ◌∷◌, ◌++◌, length, get_or, set, sym, refl, ap, ◌∙◌, subst, arith, length-append, length-set, get_or-set_other, get_or-set_same}
use Rattle.sequential.specs.Bounds.{Bounds}
use mathlib.Core.Option as opt
use mathlib.Core.Logic.{dite}
use native.Mathlib.Decide.{ℕ_discrete}
use prog.Atomic.{either}
use lib.ListN.{get_elem?}
use Rattle.atomic_table.specs.Table.{keeps, takes, gives, step, Allows, rest}
use Rattle.atomic_table.proofs.Lists.{exchanged, set_here, set_else, at_last}
use Rattle.sequential.specs.declared.entry.Entry.{Entry}
use Rattle.sequential.specs.Histories.{Answered, calls_of}
use Rattle.publication.specs.Words.{word_of, session_of_word, POSTED, BUSY, SERVED}
use Rattle.publication.specs.List.{belongs, IsLinked, IsBounded}
use Rattle.publication.specs.Views.{Own, Combiner, IsAccountedIn, entry, answer, asks}
use Rattle.publication.specs.Rule.{blank, BoardState, word, home, seat, own_at, announced, IsPosted, IsBusy, RecordState, HasObject, IsOpened, IsOrderly}
use Rattle.publication.specs.Rule.RecordState.{posted, busy, served}
use Rattle.publication.specs.StepKinds.{Seated, combiner, as_combiner, opened_in, called, call_at, HasEntered, looks_at, looks_at_record, opening, Opened, opens_record, opens, in_hand, lays, picks_slot, picks, with_entered, answering, answers, putting_back, puts_back}
use Rattle.publication.specs.declared.view.View.{View}
use Rattle.publication.specs.declared.slot.SlotValue.{SlotValue}
use Rattle.publication.specs.declared.slot.SlotValue.TheVariants.{Empty, PostedCall, ServedReply}
use Rattle.publication.proofs.Lists.{at_there, at_home, prefix_self, there_at}
use Rattle.publication.proofs.SeatViews.{session_of, heard_few, object_of, opened_of}
use Rattle.publication.proofs.Histories.{calls-mine, calls-other}
use Rattle.publication.proofs.Accounts.{account-of, account-whole, account-same}
use Rattle.publication.proofs.RecordStates.{is_posted, is_busy, all_entered, posted_entered, own_entered, grown, as_called}
use Rattle.publication.proofs.SessionKinds.{Goes, seated, unmoved}
use Rattle.publication.proofs.UnchangedList.{links_kept, aside, same_walk}
use Rattle.publication.proofs.OrderlyCombiner.{IsRecordStep, combined}
use Rattle.sequential.specs.declared.object.Sequential.{Ghosts}

-- No two records share a state word.
pub session_of_its_word : (number : ℕ) → session_of_word (word_of number) ≡ number
session_of_its_word number = omega arith

module _ {O C R : Type 0} where
  -- The slot in hand is that of the record with this word, and holds the value put into it.
  pub in_hand_with : (at : ℕ) (m x y : Seated O C R) (held : SlotValue O C R) → x ≡ (in_hand m.0 (session_of_word (word_of at)), (session_of_word (word_of at), Empty) ∷ m.1) → y ≡ (x.0, (at, held) ∷ rest x.1)
      → y ≡ (in_hand m.0 at, (at, held) ∷ m.1)
  in_hand_with at m x y held picked put =
      put ∙ ap (λ (z : Seated O C R). (z.0, (at, held) ∷ rest z.1)) (subst (λ (k : ℕ). x ≡ (in_hand m.0 k, (k, Empty) ∷ m.1)) (session_of_its_word at) picked)

module _ {O C R : Type 0} {obj : Ghosts O C R} where
  module _ (i : ℕ) (v : View C R) (is : v.number ≡ i) (some_number : 0 < i) (s : BoardState O C R) (o : IsOrderly obj s) (l : IsLinked s) (me : get_elem? s.views i ≡ opt.some v) (small : i < o.slots)
      (has : v.combiner.has_object ≡ true) (j : ℕ) (some_record : 0 < j) (few : j < o.slots) (wide : length v.combiner.opened ≡ o.slots) where
    is_me : seat s i ≡ v
    is_me = (at_there s.views i v blank me).0

    object : HasObject o.history (word s 0) i v
    object = object_of s o i v me has

    stands_at : RecordState o.history j (word s j) (home s j) (own_at o.owns j)
    stands_at = o.stands j some_record few

    heard_at : get_or v.heard j 0 ≤ announced (own_at o.owns j)
    heard_at = heard_few s o i v me j

    known : length (calls_of j v.front) ≡ length (calls_of j o.history)
    known = ap (λ (f : List (Entry C R)). length (calls_of j f)) object.whole

    -- A step on the record that doesn't change the history.
    same_history : (n : ℕ) (at : opt.Option (SlotValue O C R)) (d : Combiner C) → d.has_object ≡ true → length d.opened ≡ length v.combiner.opened
        → ((k : ℕ) → k ≢ j → get_elem? d.opened k ≡ get_elem? v.combiner.opened k) → ((k : ℕ) → 0 < k → k ≢ j → v.combiner.hand ≢ k)
        → ((call : C) → get_elem? d.opened j ≡ opt.some (Some call) → (n ≡ BUSY) × ((floor : ℕ) × ((own_at o.owns j).pending ≡ Some (asks call floor))) × (d.hand ≢ j → at ≡ opt.some Empty))
        → (n ≡ BUSY → (call : C) × (get_elem? d.opened j ≡ opt.some (Some call)))
        → RecordState o.history j n at (own_at o.owns j) → IsRecordStep s o i v j n at v.front d v.listing v.pieces me some_number o.history
    same_history n at d still as_wide others hands new_open new_busy stands = record {
      has = has;
      still = still;
      some_record = some_record;
      few = few;
      legal = o.legal;
      short = o.short;
      grows = prefix_self o.history;
      whole = object.whole;
      wide = as_wide;
      others = others;
      hands = hands;
      new_open = new_open;
      new_busy = new_busy;
      stands = stands;
      grow = λ k w a u ne t. t;
      pieces = refl;
      entered = inl refl;
    }

    own_is : v.own ≡ own_at o.owns i
    own_is = (session_of s o i v me (λ e. omega arith)).own_is

    -- A change between two state words of a pending call doesn't change the publication list.
    still_listed : (n : ℕ) (at : opt.Option (SlotValue O C R)) (front : List (Entry C R)) (d : Combiner C) → ((b : Bool) → belongs n b ≡ belongs (word s j) b)
        → IsLinked record { words = set s.words (word_of j) n; homes = set s.homes j at; views = set s.views i (as_combiner v front d v.listing) }
    still_listed n at front d same =
        let u : View C R = as_combiner v front d v.listing in
        let ws : List ℕ = set s.words (word_of j) n in
        let hs : List (opt.Option (SlotValue O C R)) = set s.homes j at in
        let each : (k : ℕ) (b : Bool) → belongs (get_or ws (word_of k) 0) b ≡ belongs (word s k) b = λ k b. dite (ℕ_discrete k j)
        (λ e. ap (λ (m : ℕ). belongs (get_or ws (word_of m) 0) b) e ∙ (ap (λ (m : ℕ). belongs m b) (get_or-set_same s.words (word_of j) n 0 (omega (arith, o.words_are)))
        ∙ (same b ∙ ap (λ (m : ℕ). belongs (word s m) b) (sym e))))
        (λ ne. ap (λ (m : ℕ). belongs m b) (get_or-set_other s.words (word_of j) (word_of k) n 0 (λ e. ne (omega (arith, e))))) in
        aside s l i v u ws hs me (links_kept s.words j n) (length-set s.homes j at) (λ e. l.whole (sym (get_or-set_other s.words (word_of j) (word_of 0) n 0 (λ z. omega (arith, z))) ∙ e)) (λ k b some ne. each k b) (record {
          claims = λ b some e. sym (each i v.own.listed) ∙ e;
          heads_seen = λ m e. (e, λ some. each i v.own.listed);
          walkers = λ _. same_walk s l i v u ws hs me has refl refl refl;
        })

    -- The state words of a record with a pending call.
    as_pending : (n : ℕ) → word s j ≡ n → (m : ℕ) → ((b : Bool) → belongs m b ≡ belongs n b) → (b : Bool) → belongs m b ≡ belongs (word s j) b
    as_pending n hit m same b = same b ∙ ap (λ (k : ℕ). belongs k b) (sym hit)

    -- look at record

    not_busy : opened_in v j ≡ None → word s j ≢ BUSY
    not_busy shut busy_now =
        let t = o.opened j some_record busy_now in
        let here : get_elem? v.combiner.opened j ≡ opt.some (Some t.0)
        = ap (λ (u : View C R). get_elem? u.combiner.opened j) (sym is_me) ∙ (ap (λ (k : ℕ). get_elem? (seat s k).combiner.opened j) (sym object.lock_is) ∙ t.1) in
        let q : Some t.0 ≡ None = sym (at_there v.combiner.opened j (Some t.0) None here).0 ∙ shut in absurd (cc q)

    entered : word s j ≢ POSTED → HasEntered v j
    entered miss shut = (
      omega (arith, heard_at, known, all_entered o.history j (word s j) (home s j) (own_at o.owns j) stands_at miss (not_busy shut)),
      λ mine some. let e : own_at o.owns j ≡ v.own = ap (own_at o.owns) (sym (sym is ∙ mine)) ∙ sym own_is in
          let t = own_entered o.history j (word s j) (home s j) (own_at o.owns j) stands_at miss (not_busy shut) (λ none. some (sym (ap (λ (u : Own C R). u.pending) e) ∙ none)) in
          let c : length (own_at o.owns j).collected ≡ length v.own.collected = ap (λ (u : Own C R). length u.collected) e in omega (arith, known, t, c),
    )

    look_goes : (more : List (ℕ × SlotValue O C R)) → Goes obj s j i (v, more) (looks_at j (v, more)) (word s j)
    look_goes more = (v, keeps, tt, unmoved s o l j i v me, (refl, entered))

    -- open

    module _ (call : C) (floor : ℕ) (f : IsPosted o.history j (word s j) (home s j) (own_at o.owns j) call floor) where
      now_open : get_elem? (set v.combiner.opened j (Some call)) j ≡ opt.some (Some call)
      now_open = set_here v.combiner.opened j (Some call) (omega arith)

      open_step : v.combiner.hand ≡ 0 → IsRecordStep s o i v j BUSY opt.none v.front (combiner v.combiner true (set v.combiner.opened j (Some call)) j) v.listing v.pieces me some_number o.history
      open_step empty = same_history BUSY opt.none (combiner v.combiner true (set v.combiner.opened j (Some call)) j) refl (length-set v.combiner.opened j (Some call))
          (λ k ne. set_else v.combiner.opened j k (Some call) ne)
          (λ k some ne e. absurd (omega arith))
          (λ c there. (
            refl,
            (floor, f.some ∙ ap (λ (z : C). Some (asks z floor)) (let p : Some call ≡ Some c = opt.some-injective (Some call) (Some c) (sym now_open ∙ there) in cc p)),
            λ away. absurd (away refl),
          ))
          (λ _. (call, now_open))
          (busy call floor record { is = refl; some = f.some; early = f.early; publishes = f.publishes; calls = f.calls })

      shut : word s j ≡ POSTED → opened_in v j ≡ None
      shut hit = none_of (opened_in v j) (λ c shown.
          let at : get_elem? (seat s i).combiner.opened j ≡ opt.some (Some c) = ap (λ (u : View C R). get_elem? u.combiner.opened j) is_me ∙ there_at v.combiner.opened j c shown in
          let t = o.opens i j c at in absurd (omega (arith, hit, t.is_busy)))
        where
          none_of : (x : Option C) → ((c : C) → x ≢ Some c) → x ≡ None
          none_of None h = refl
          none_of (Some c) h = absurd (h c refl)

      opened_now : word s j ≡ POSTED → Opened v j call
      opened_now hit = record {
        lacked = shut hit;
        call_is = (at_there (set v.combiner.opened j (Some call)) j (Some call) None now_open).0;
        heard = omega (arith, heard_at, known, posted_entered o.history j (word s j) (home s j) (own_at o.owns j) call floor f);
        own = λ mine. let e : own_at o.owns j ≡ v.own = ap (own_at o.owns) (sym (sym is ∙ mine)) ∙ sym own_is in
            let c : length (own_at o.owns j).collected ≡ length v.own.collected = ap (λ (u : Own C R). length u.collected) e in
            let a : length (calls_of j o.history) ≡ length (own_at o.owns j).collected = ap (λ (cs : List (Answered C R)). length cs) f.calls in omega (arith, known, a, c);
      }

      open_won : (more : List (ℕ × SlotValue O C R)) → v.combiner.hand ≡ 0 → word s j ≡ POSTED → Goes obj s j i (v, more) (opens_record j (v, more)) BUSY
      open_won more empty hit = (
        opening v j call,
        takes j (PostedCall call),
        at_home s.homes j (PostedCall call) f.asked,
        record {
          records = combined s o i v j BUSY opt.none v.front (combiner v.combiner true (set v.combiner.opened j (Some call)) j) v.listing v.pieces me some_number o.history (open_step empty);
          list = still_listed BUSY opt.none v.front (combiner v.combiner true (set v.combiner.opened j (Some call)) j) (as_pending POSTED hit BUSY (λ b. refl));
        },
        ((λ _. (call, refl, opened_now hit)), λ miss. absurd (miss hit)),
      )

    open_lost : (more : List (ℕ × SlotValue O C R)) → word s j ≢ POSTED → Goes obj s j i (v, more) (opens_record j (v, more)) (word s j)
    open_lost more miss = (v, keeps, tt, unmoved s o l j i v me, ((λ hit. absurd (miss hit)), λ _. (refl, entered miss)))

    open_goes : (more : List (ℕ × SlotValue O C R)) → v.combiner.hand ≡ 0 → Goes obj s j i (v, more) (opens_record j (v, more)) (either (eqb (word s j) POSTED) BUSY (word s j))
    open_goes more empty = exchanged (word s j) POSTED BUSY (Goes obj s j i (v, more) (opens_record j (v, more)))
        (λ hit. let t = is_posted stands_at hit in open_won t.0 t.1 t.2 more empty hit) (open_lost more)

    -- Record j is opened with this call.
    module _ (call : C) (shown : get_elem? v.combiner.opened j ≡ opt.some (Some call)) where
      was : IsOpened s o.owns v.combiner j call
      was = opened_of s o i v me j call shown

      busy_is : IsBusy o.history j (word s j) (home s j) (own_at o.owns j) call was.call_of.0
      busy_is = let t = is_busy stands_at was.is_busy in as_called o.history j (word s j) (home s j) (own_at o.owns j) t.0 t.1 call was.call_of.0 t.2 was.call_of.1

      -- lay and pick: the record stays opened, its slot goes home or in hand

      still_open : (at : opt.Option (SlotValue O C R)) (hand : ℕ) → (hand ≢ j → at ≡ opt.some Empty) → (c : C) → get_elem? v.combiner.opened j ≡ opt.some (Some c)
          → (word s j ≡ BUSY) × ((floor : ℕ) × ((own_at o.owns j).pending ≡ Some (asks c floor))) × (hand ≢ j → at ≡ opt.some Empty)
      still_open at hand empty_slot c there = (
        was.is_busy,
        (was.call_of.0, was.call_of.1 ∙ ap (λ (z : C). Some (asks z was.call_of.0)) (let p : Some call ≡ Some c = opt.some-injective (Some call) (Some c) (sym shown ∙ there) in cc p)),
        empty_slot,
      )

      hand_step : (at : opt.Option (SlotValue O C R)) (hand : ℕ) → (hand ≢ j → at ≡ opt.some Empty) → ((k : ℕ) → 0 < k → k ≢ j → v.combiner.hand ≢ k)
          → IsRecordStep s o i v j (word s j) at v.front (combiner v.combiner true v.combiner.opened hand) v.listing v.pieces me some_number o.history
      hand_step at hand empty_slot hands = same_history (word s j) at (combiner v.combiner true v.combiner.opened hand) refl refl (λ k ne. refl) hands (still_open at hand empty_slot)
          (λ _. (call, shown))
          (busy call was.call_of.0 record { is = was.is_busy; some = busy_is.some; early = busy_is.early; publishes = busy_is.publishes; calls = busy_is.calls })

      lay_goes : (more : List (ℕ × SlotValue O C R)) → v.combiner.hand ≡ j → Goes obj s j i (v, (j, Empty) ∷ more) (lays (step o.slots (word_of j) 0 0 opt.none) (v, (j, Empty) ∷ more)) (word s j)
      lay_goes more held = (
        in_hand v 0,
        gives,
        tt,
        record {
          records = combined s o i v j (word s j) (opt.some Empty) v.front (combiner v.combiner true v.combiner.opened 0) v.listing v.pieces me some_number o.history
              (hand_step (opt.some Empty) 0 (λ away. refl) (λ k some ne e. ne (sym e ∙ held)));
          list = still_listed (word s j) (opt.some Empty) v.front (combiner v.combiner true v.combiner.opened 0) (λ b. refl);
        },
        refl,
      )

      pick_goes : (more : List (ℕ × SlotValue O C R)) → v.combiner.hand ≡ 0 → Goes obj s j i (v, more) (picks_slot j (v, more)) (word s j)
      pick_goes more empty = (
        in_hand v j,
        takes j Empty,
        at_home s.homes j Empty (was.empty_slot (λ e. omega arith)),
        record {
          records = combined s o i v j (word s j) opt.none v.front (combiner v.combiner true v.combiner.opened j) v.listing v.pieces me some_number o.history
              (hand_step opt.none j (λ away. absurd (away refl)) (λ k some ne e. absurd (omega arith)));
          list = still_listed (word s j) opt.none v.front (combiner v.combiner true v.combiner.opened j) (λ b. refl);
        },
        refl,
      )

      -- answer and put back: the record isn't opened any more

      -- The combiner's part once record j is answered.
      abbrev cleared : Combiner C
      cleared = with_entered v (combiner v.combiner true (set v.combiner.opened j None) 0)

      no_more : (c : C) → get_elem? cleared.opened j ≢ opt.some (Some c)
      no_more c there = let p : None ≡ Some c = opt.some-injective None (Some c) (sym (set_here v.combiner.opened j None (omega arith)) ∙ there) in absurd (cc p)

      -- The same after the call was put back, which counts.
      abbrev put_back : Combiner C
      put_back = record { has_object = true; opened = set v.combiner.opened j None; hand = 0; put_backs = v.combiner.put_backs + 1; entered = v.combiner.entered }

      put_back_step : v.combiner.hand ≡ j → IsRecordStep s o i v j POSTED (opt.some (PostedCall call)) v.front put_back v.listing v.pieces me some_number o.history
      put_back_step held = same_history POSTED (opt.some (PostedCall call)) put_back refl (length-set v.combiner.opened j None)
          (λ k ne. set_else v.combiner.opened j k None ne) (λ k some ne e. ne (sym e ∙ held)) (λ c there. absurd (no_more c there)) (λ two. absurd (omega arith))
          (posted call was.call_of.0 record { is = refl; some = busy_is.some; asked = refl; early = busy_is.early; publishes = busy_is.publishes; calls = busy_is.calls })

      put_back_goes : (more : List (ℕ × SlotValue O C R)) → v.combiner.hand ≡ j
          → Goes obj s j i (v, (j, PostedCall call) ∷ more) (λ _. puts_back (step o.slots (word_of j) POSTED 0 opt.none) (v, (j, PostedCall call) ∷ more) POSTED) POSTED
      put_back_goes more held = (
        putting_back v j,
        gives,
        tt,
        record {
          records = combined s o i v j POSTED (opt.some (PostedCall call)) v.front put_back v.listing v.pieces me some_number o.history (put_back_step held);
          list = still_listed POSTED (opt.some (PostedCall call)) v.front put_back (as_pending BUSY was.is_busy POSTED (λ b. refl));
        },
        ap (λ (k : ℕ). (putting_back v k, more)) (sym held),
      )

      module _ (reply : R) (legal : obj.is_legal (v.front ++ entry j call reply ∷ [])) (short : length v.front + 1 < 2 ^ 64) where
        -- The known history with the call's entry.
        abbrev longer : List (Entry C R)
        longer = v.front ++ entry j call reply ∷ []

        longer_is : longer ≡ o.history ++ entry j call reply ∷ []
        longer_is = ap (λ (f : List (Entry C R)). f ++ entry j call reply ∷ []) object.whole

        served_now : RecordState {O = O} longer j SERVED (opt.some (ServedReply (length v.front) reply)) (own_at o.owns j)
        served_now = served call was.call_of.0 (length v.front) reply record {
          is = refl;
          some = busy_is.some;
          replied = refl;
          stands = at_last v.front (entry j call reply) (length v.front) refl;
          late = subst (λ (f : List (Entry C R)). was.call_of.0 ≤ length f) (sym object.whole) busy_is.early;
          publishes = busy_is.publishes;
          calls = calls-mine j v.front call reply ∙ ap (λ (cs : List (Answered C R)). cs ++ answer (length v.front) call reply ∷ []) (ap (calls_of j) object.whole ∙ busy_is.calls);
        }

        answer_step : v.combiner.hand ≡ j → IsRecordStep s o i v j SERVED (opt.some (ServedReply (length v.front) reply)) longer cleared v.listing v.pieces me some_number longer
        answer_step held = record {
          has = has;
          still = refl;
          some_record = some_record;
          few = few;
          legal = legal;
          short = omega (arith, short, length-append v.front (entry j call reply ∷ []));
          grows = (entry j call reply ∷ [], sym longer_is);
          whole = refl;
          wide = length-set v.combiner.opened j None;
          others = λ k ne. set_else v.combiner.opened j k None ne;
          hands = λ k some ne e. ne (sym e ∙ held);
          new_open = λ c there. absurd (no_more c there);
          new_busy = λ two. absurd (omega arith);
          stands = served_now;
          grow = λ k w a u ne t. subst (λ (f : List (Entry C R)). RecordState f k w a u) (sym longer_is) (grown o.history k j call reply ne t);
          pieces = refl;
          entered = inr (entry j call reply, longer_is, record { some = omega (arith, some_record); within = omega (arith, few, o.in_time.sessions_are) });
        }

        call_is : call_at obj v j ≡ call
        call_is = ap (called obj) (at_there v.combiner.opened j (Some call) None shown).0

        -- The longer history has the calls that the combiner collected, or those and its pending call.
        account_after : IsAccountedIn longer v.number v.own.collected v.own.pending
        account_after =
            let lives : v.number ≢ 0 = λ none. omega arith in
            let mine : v.own ≡ own_at o.owns i = (session_of s o i v me lives).own_is in dite (ℕ_discrete j v.number)
            (λ e. subst (λ (k : ℕ). IsAccountedIn longer k v.own.collected v.own.pending) e
            (subst (λ (w : Own C R). IsAccountedIn longer j w.collected w.pending) (ap (own_at o.owns) (e ∙ is) ∙ sym mine)
            (account-of longer j SERVED (opt.some (ServedReply (length v.front) reply)) (own_at o.owns j) served_now)))
            (λ ne. account-same v.number v.front longer v.own.collected v.own.pending (calls-other v.number j v.front call reply ne)
            (subst (λ (f : List (Entry C R)). IsAccountedIn f v.number v.own.collected v.own.pending) (sym object.whole) (account-whole s o i v me some_number lives)))

        answer_goes : (more : List (ℕ × SlotValue O C R)) → v.combiner.hand ≡ j
            → Goes obj s j i (v, (j, ServedReply (length v.front) reply) ∷ more) (λ _. answers obj (step o.slots (word_of j) SERVED 0 opt.none) (v, (j, ServedReply (length v.front) reply) ∷ more) SERVED) SERVED
        answer_goes more held = (
          answering v j (call_at obj v j) reply,
          gives,
          tt,
          rw call_is (record {
            records = combined s o i v j SERVED (opt.some (ServedReply (length v.front) reply)) longer cleared v.listing v.pieces me some_number longer (answer_step held);
            list = still_listed SERVED (opt.some (ServedReply (length v.front) reply)) longer cleared (as_pending BUSY was.is_busy SERVED (λ b. refl));
          }),
          (ap (λ (k : ℕ). (answering v k (call_at obj v k) reply, more)) (sym held), rw call_is account_after),
        )

module _ {C R : Type 0} where
  -- What the table demands of each of these steps.
  module _ (slots id : ℕ) (v : View C R) (is : v.number ≢ 0) (has : v.combiner.has_object ≡ true) (j : ℕ) (some_record : 0 < j) (few : j < slots) where
    some_number : 0 < v.number
    some_number = omega arith

    module _ {O : Type 0} {obj : Ghosts O C R} {bound : Bounds} where
      -- Look at record keeps the rule.
      pub look_at_record_kept : (more : List (ℕ × SlotValue O C R)) → Allows (IsBounded obj bound) slots id (v, more) (word_of j) (λ n. n) (looks_at_record (step slots (word_of j) 0 0 opt.none) (v, more))
      look_at_record_kept more = subst (λ (k : ℕ). Allows (IsBounded obj bound) slots id (v, more) (word_of j) (λ n. n) (looks_at k (v, more))) (sym (session_of_its_word j))
          (seated slots id v.number j v more (λ n. n) (looks_at j (v, more)) refl some_number
          (λ s o l me small wide e. look_goes v.number v refl some_number s o l me small has j some_record (omega arith) wide more))

      -- Open keeps the rule, for a combiner with no slot in hand.
      pub open_kept : (more : List (ℕ × SlotValue O C R)) → v.combiner.hand ≡ 0
          → Allows (IsBounded obj bound) slots id (v, more) (word_of j) (λ n. either (eqb n POSTED) BUSY n) (opens (step slots (word_of j) POSTED BUSY opt.none) (v, more))
      open_kept more empty = subst (λ (k : ℕ). Allows (IsBounded obj bound) slots id (v, more) (word_of j) (λ n. either (eqb n POSTED) BUSY n) (opens_record k (v, more))) (sym (session_of_its_word j))
          (seated slots id v.number j v more (λ n. either (eqb n POSTED) BUSY n) (opens_record j (v, more)) refl some_number
          (λ s o l me small wide e. open_goes v.number v refl some_number s o l me small has j some_record (omega arith) wide more empty))

    module _ {O : Type 0} where
      module _ (call : C) (shown : get_elem? v.combiner.opened j ≡ opt.some (Some call)) (more : List (ℕ × SlotValue O C R)) where
        module _ {obj : Ghosts O C R} {bound : Bounds} where
          -- Lay keeps the rule, with record j's slot in hand and empty.
          pub lay_kept : v.combiner.hand ≡ j → Allows (IsBounded obj bound) slots id (v, (j, Empty) ∷ more) (word_of j) (λ n. n) (lays (step slots (word_of j) 0 0 opt.none) (v, (j, Empty) ∷ more))
          lay_kept held = seated slots id v.number j v ((j, Empty) ∷ more) (λ n. n) (lays (step slots (word_of j) 0 0 opt.none) (v, (j, Empty) ∷ more)) refl some_number
              (λ s o l me small wide e. lay_goes v.number v refl some_number s o l me small has j some_record (omega arith) wide call shown more held)

          -- Pick keeps the rule, for a combiner with no slot in hand.
          pub pick_kept : v.combiner.hand ≡ 0 → Allows (IsBounded obj bound) slots id (v, more) (word_of j) (λ n. n) (picks (step slots (word_of j) 0 0 opt.none) (v, more))
          pick_kept empty = subst (λ (k : ℕ). Allows (IsBounded obj bound) slots id (v, more) (word_of j) (λ n. n) (picks_slot k (v, more))) (sym (session_of_its_word j))
              (seated slots id v.number j v more (λ n. n) (picks_slot j (v, more)) refl some_number
              (λ s o l me small wide e. pick_goes v.number v refl some_number s o l me small has j some_record (omega arith) wide call shown more empty))

          -- Put back keeps the rule, with the call in record j's slot in hand.
          pub put_back_kept : v.combiner.hand ≡ j
              → Allows (IsBounded obj bound) slots id (v, (j, PostedCall call) ∷ more) (word_of j) (λ _. POSTED) (λ _. puts_back (step slots (word_of j) POSTED 0 opt.none) (v, (j, PostedCall call) ∷ more) POSTED)
          put_back_kept held = seated slots id v.number j v ((j, PostedCall call) ∷ more) (λ _. POSTED) (λ _. puts_back (step slots (word_of j) POSTED 0 opt.none) (v, (j, PostedCall call) ∷ more) POSTED) refl some_number
              (λ s o l me small wide e. put_back_goes v.number v refl some_number s o l me small has j some_record (omega arith) wide call shown more held)

          -- Answer keeps the rule, with a reply in record j's slot in hand that makes the history a longer legal one.
          pub answer_kept : (place : ℕ) (reply : R) → v.combiner.hand ≡ j → place ≡ length v.front → obj.is_legal (v.front ++ entry j call reply ∷ []) → length v.front + 1 < 2 ^ 64
              → Allows (IsBounded obj bound) slots id (v, (j, ServedReply place reply) ∷ more) (word_of j) (λ _. SERVED) (λ _. answers obj (step slots (word_of j) SERVED 0 opt.none) (v, (j, ServedReply place reply) ∷ more) SERVED)
          answer_kept place reply held here legal short =
              subst (λ (p : ℕ). Allows (IsBounded obj bound) slots id (v, (j, ServedReply p reply) ∷ more) (word_of j) (λ _. SERVED) (λ _. answers obj (step slots (word_of j) SERVED 0 opt.none) (v, (j, ServedReply p reply) ∷ more) SERVED)) (sym here)
              (seated slots id v.number j v ((j, ServedReply (length v.front) reply) ∷ more) (λ _. SERVED) (λ _. answers obj (step slots (word_of j) SERVED 0 opt.none) (v, (j, ServedReply (length v.front) reply) ∷ more) SERVED) refl some_number
              (λ s o l me small wide e. answer_goes v.number v refl some_number s o l me small has j some_record (omega arith) wide call shown reply legal short more held))
