-- The kinds of step on the lock word keep the rule: look at lock, seize and release.
use Rattle.std.proofs.Common.{◌≡◌, ◌≢◌, ℕ, zero, suc, ◌<◌, true, false, eqb, Some, None, List, [], ◌∷◌, ◌++◌, get_or, length, length-set, get_or-set_other, set, sym, refl, ap, ◌∙◌, subst, arith, append-nil}
use Rattle.sequential.specs.Bounds.{Bounds}
use Rattle.std.proofs.lemmas.Bool.{false_from_ne_true}
use mathlib.Core.Option as opt
use mathlib.Core.Logic.{dite}
use mathlib.Core.List.{IsPrefix}
use native.Mathlib.Decide.{ℕ_discrete}
use prog.Atomic.{either}
use lib.ListN.{get_elem?}
use Rattle.std.specs.Global.{Box}
use Rattle.atomic_table.specs.Table.{keeps, takes, gives, step, stepped, Allows}
use Rattle.atomic_table.proofs.Lists.{exchanged}
use Rattle.sequential.specs.declared.entry.Entry.{Entry}
use Rattle.publication.specs.Words.{word_of, FREE}
use Rattle.publication.specs.List.{belongs, IsWalking, IsLinked, IsRuled, IsBounded}
use Rattle.publication.specs.Rule.{blank, BoardState, word, home, seat, no_combiner, pieces_in, IsHome, HasObject, IsOrderly}
use Rattle.publication.specs.Pieces.{pieces_of, HasAdded, added}
use Rattle.publication.specs.Views.{Combiner, Taken, IsAccountedIn}
use Rattle.publication.specs.declared.piece.Piece.{Piece}
use Rattle.publication.specs.StepKinds.{combiner, as_combiner, with_pieces, no_walk, HasOthers, looks_at_lock, seizing, Seized, seizes_within, releasing, releases}
use Rattle.publication.specs.declared.view.View.{View}
use Rattle.publication.specs.declared.slot.Load.{Load}
use Rattle.publication.specs.declared.slot.SlotValue.{SlotValue}
use Rattle.publication.specs.declared.slot.SlotValue.TheVariants.{ObjectLoad}
use Rattle.publication.proofs.Lists.{at_there, at_home}
use Rattle.publication.proofs.SeatViews.{front_of, object_of, pieces_of_seat}
use Rattle.publication.proofs.Pieces.{own_added, others_kept, within_added}
use Rattle.publication.proofs.Accounts.{account-whole}
use Rattle.publication.proofs.SessionKinds.{Goes, named, seated, seated_within, unmoved}
use Rattle.publication.proofs.UnchangedList.{links_kept, aside}
use Rattle.publication.proofs.OrderlyCombiner.{IsNothingOpened, IsLockStep, relocked}
use Rattle.sequential.specs.declared.object.Sequential.{Ghosts}

-- A session that isn't a combiner has opened no record.
pub nothing_at : {C : Type 0} (slots : ℕ) → IsNothingOpened {C = C} (no_combiner slots)
nothing_at zero j call e = opt.some-ne-none (Some call) (sym e)
nothing_at (suc n) zero call e = let t : None ≡ Some call = opt.some-injective None (Some call) e in absurd (cc t)
nothing_at (suc n) (suc j) call e = nothing_at n j call e

module _ {O C R : Type 0} where
  -- Two lists of carried slots that begin with a load begin with the same one.
  first_load : {a b : Box (Load O C R)} {xs ys : List (ℕ × SlotValue O C R)} → (0, ObjectLoad a) ∷ xs ≡ (0, ObjectLoad b) ∷ ys → a ≡ b
  first_load {a} {b} same =
      let values : ObjectLoad a ≡ ObjectLoad b = ap (λ (l : List (ℕ × SlotValue O C R)). value_of (ObjectLoad a) l) same in
      cc values
    where
      value_of : SlotValue O C R → List (ℕ × SlotValue O C R) → SlotValue O C R
      value_of x [] = x
      value_of x (y ∷ ys) = y.1

module _ {O C R : Type 0} (obj : Ghosts O C R) where
  -- The load at this place, if one is there, is of an object that keeps so many entries at most.
  abbrev IsBoundAt : Bounds → opt.Option (SlotValue O C R) → Type 0
  IsBoundAt bound at = (load : Box (Load O C R)) → at ≡ opt.some (ObjectLoad load) → obj.bound load.value.object ≡ bound

module _ {O C R : Type 0} {obj : Ghosts O C R} where
  module _ (i : ℕ) (v : View C R) (is : v.number ≡ i) (some_number : 0 < i) (s : BoardState O C R) (o : IsOrderly obj s) (l : IsLinked s) (me : get_elem? s.views i ≡ opt.some v) (small : i < o.slots) where
    is_me : seat s i ≡ v
    is_me = (at_there s.views i v blank me).0

    object_here : (seat s i).combiner.has_object ≡ v.combiner.has_object
    object_here = ap (λ (u : View C R). u.combiner.has_object) is_me

    -- The publication list doesn't change, if no record is unlinked and no walk has begun.
    still_listed : (n : ℕ) (at : opt.Option (SlotValue O C R)) (front : List (Entry C R)) (d : Combiner C) (q : Taken) → l.off ≡ 0
        → IsLinked record { words = set s.words (word_of 0) n; homes = set s.homes 0 at; views = set s.views i (with_pieces (as_combiner v front d (no_walk v.listing)) q) }
    still_listed n at front d q none_off =
        let u : View C R = with_pieces (as_combiner v front d (no_walk v.listing)) q in
        let ws : List ℕ = set s.words (word_of 0) n in
        let hs : List (opt.Option (SlotValue O C R)) = set s.homes 0 at in
        let same : (j : ℕ) → 0 < j → get_or ws (word_of j) 0 ≡ word s j = λ j some. get_or-set_other s.words (word_of 0) (word_of j) n 0 (λ e. omega (arith, e)) in
        aside s l i v u ws hs me (links_kept s.words 0 n) (length-set s.homes 0 at) (λ _. none_off) (λ j b some ne. ap (λ (m : ℕ). belongs m b) (same j some)) (record {
          claims = λ b some e. sym (ap (λ (m : ℕ). belongs m v.own.listed) (same i some)) ∙ e;
          heads_seen = λ m e. absurd (cc e);
          walkers = λ has. record { new = l.list; list_is = sym (append-nil l.list); off_is = sym none_off; before_is = λ some. absurd (some none_off) };
        })

    -- look at lock

    another : word s 0 ≢ FREE → HasOthers o.slots v
    another miss lacks =
        let t = o.taken miss in
        let ne : word s 0 ≢ i = λ e. let has : v.combiner.has_object ≡ true = sym object_here ∙ (ap (λ (k : ℕ). (seat s k).combiner.has_object) (sym e) ∙ t.0) in absurd (cc (has, lacks)) in
        omega (arith, t.1)

    look_goes : (more : List (ℕ × SlotValue O C R)) → Goes obj s 0 i (v, more) (looks_at_lock (step o.slots 0 0 0 opt.none) (v, more)) (word s 0)
    look_goes more = (v, keeps, tt, unmoved s o l 0 i v me, (refl, another))

    -- seize

    module _ (hit : word s 0 ≡ FREE) where
      nobody : (k : ℕ) → (seat s k).combiner.has_object ≢ true
      nobody k has = let b = o.combiners k has in absurd (omega (arith, b.lock_is, b.session))

      own_now : v.pieces.own ≡ pieces_of i o.pieces.all
      own_now = (pieces_of_seat s o i v me).own (λ e. omega arith) ∙ ap (λ (j : ℕ). pieces_of j o.pieces.all) is

      seize_step : IsLockStep s o i v 0 i opt.none o.history (combiner v.combiner true v.combiner.opened 0) (no_walk v.listing) (record { own = v.pieces.own; all = o.pieces.all }) me some_number
      seize_step = record {
        lock = refl;
        whole = refl;
        named = is;
        same = refl;
        none = λ k j call shown. nobody k (o.opens k j call shown).object;
        alone = λ k ne has. nobody k has;
        free = λ z. absurd (omega arith);
        taken = λ _. (refl, refl, small, refl);
        mine_then = λ _. refl;
        pieces = o.pieces.all;
        within = o.pieces.within;
        own_pieces = own_now;
        other_pieces = λ j ne. refl;
        known = λ _. refl;
        noted = λ z. absurd (omega arith);
      }

      seized : (load : Load O C R) → IsHome obj o.history o.slots load → load.pieces.items ≡ o.pieces.all → Seized obj v o.slots load
      seized load home noted_all = record {
        lacked = false_from_ne_true v.combiner.has_object (λ has. nobody i (object_here ∙ has));
        home = record { history = refl; sessions = home.sessions; empty = home.empty; room = home.room; ages = home.ages; past = home.past; pieces = home.pieces; in_a_row = home.in_a_row };
        legal = subst obj.is_legal (sym home.history) o.legal;
        longer = subst (λ (f : List (Entry C R)). IsPrefix v.front f) (sym home.history) (front_of s o i v me);
        accounted = subst (λ (f : List (Entry C R)). IsAccountedIn f v.number v.own.collected v.own.pending) (sym home.history) (account-whole s o i v me some_number (λ e. omega arith));
        pieces = own_now ∙ (ap (λ (j : ℕ). pieces_of j o.pieces.all) (sym is) ∙ ap (pieces_of v.number) (sym noted_all));
      }

      seize_won : (bound : Bounds) → IsBoundAt obj bound (home s 0) → (more : List (ℕ × SlotValue O C R)) → Goes obj s 0 i (v, more) (seizes_within obj bound (step o.slots 0 FREE i opt.none) (v, more)) i
      seize_won bound within more = let t = o.free hit in let load = t.0 in let noted_all : load.value.pieces.items ≡ o.pieces.all = ap pieces_in (sym t.1) ∙ o.pieces.home hit in (
        seizing v (obj.history load.value.object) load.value.pieces.items,
        takes 0 (ObjectLoad load),
        at_home s.homes 0 (ObjectLoad load) t.1,
        subst (λ (f : List (Entry C R)). IsRuled obj record { words = set s.words (word_of 0) i; homes = set s.homes 0 opt.none; views = set s.views i (seizing v f load.value.pieces.items) }) (sym t.2.history)
            (subst (λ (ps : List Piece). IsRuled obj record { words = set s.words (word_of 0) i; homes = set s.homes 0 opt.none; views = set s.views i (seizing v o.history ps) }) (sym noted_all) (record {
              records = relocked s o i v 0 i opt.none o.history (combiner v.combiner true v.combiner.opened 0) (no_walk v.listing) (record { own = v.pieces.own; all = o.pieces.all }) me some_number seize_step;
              list = still_listed i opt.none o.history (combiner v.combiner true v.combiner.opened 0) (record { own = v.pieces.own; all = o.pieces.all }) (l.whole hit);
            })),
        (((λ _. (load, refl, seized load.value t.2 noted_all)), λ miss. absurd (miss hit)), λ _ other rest carried. subst (λ (b : Box (Load O C R)). obj.bound b.value.object ≡ bound) (first_load carried) (within load t.1)),
      )

    seize_lost : (bound : Bounds) (more : List (ℕ × SlotValue O C R)) → word s 0 ≢ FREE → Goes obj s 0 i (v, more) (seizes_within obj bound (step o.slots 0 FREE i opt.none) (v, more)) (word s 0)
    seize_lost bound more miss = (v, keeps, tt, unmoved s o l 0 i v me, (((λ hit. absurd (miss hit)), λ _. (refl, another miss)), λ hit. absurd (miss hit)))

    seize_goes : (bound : Bounds) → IsBoundAt obj bound (home s 0) → (more : List (ℕ × SlotValue O C R)) → Goes obj s 0 i (v, more) (seizes_within obj bound (step o.slots 0 FREE i opt.none) (v, more)) (either (eqb (word s 0) FREE) i (word s 0))
    seize_goes bound within more = exchanged (word s 0) FREE i (Goes obj s 0 i (v, more) (seizes_within obj bound (step o.slots 0 FREE i opt.none) (v, more))) (λ hit. seize_won hit bound within more) (seize_lost bound more)

    -- release

    module _ (has : v.combiner.has_object ≡ true) (load : Box (Load O C R)) (full : IsHome obj v.front o.slots load.value) (took : HasAdded v.number v.pieces.all load.value.pieces.items) (none : IsNothingOpened v.combiner) (settled : v.listing.off ≡ 0) where
      -- What the session knows of pieces afterwards.
      abbrev now_taken : Taken
      now_taken = record { own = v.pieces.own ++ added v.pieces.all load.value.pieces.items; all = [] }

      known_all : v.pieces.all ≡ o.pieces.all
      known_all = (pieces_of_seat s o i v me).known has

      -- The session added its pieces to those that were taken before.
      took_more : HasAdded i o.pieces.all load.value.pieces.items
      took_more = subst (λ (ps : List Piece). HasAdded i ps load.value.pieces.items) known_all (subst (λ (j : ℕ). HasAdded j v.pieces.all load.value.pieces.items) is took)

      none_off : l.off ≡ 0
      none_off = sym (subst (λ (u : View C R). u.combiner.has_object ≡ true → IsWalking l.list l.off l.before u.listing) is_me (l.walkers i) has).off_is ∙ settled

      object : HasObject o.history (word s 0) i v
      object = object_of s o i v me has

      nobody_else : (k : ℕ) → k ≢ i → (seat s k).combiner.has_object ≢ true
      nobody_else k ne too = ne (sym (o.combiners k too).lock_is ∙ object.lock_is)

      none_here : IsNothingOpened (seat s i).combiner
      none_here = subst (λ (u : View C R). IsNothingOpened u.combiner) (sym is_me) none

      release_step : IsLockStep s o i v 0 FREE (opt.some (ObjectLoad load)) o.history (combiner v.combiner false v.combiner.opened 0) (no_walk v.listing) now_taken me some_number
      release_step = record {
        lock = refl;
        whole = refl;
        named = is;
        same = refl;
        none = λ k. dite (ℕ_discrete k i)
            (λ e. subst (λ (l : ℕ). IsNothingOpened (seat s l).combiner) (sym e) none_here)
            (λ ne j call shown. nobody_else k ne (o.opens k j call shown).object);
        alone = nobody_else;
        free = λ _. (load, refl, record { history = full.history ∙ object.whole; sessions = full.sessions; empty = full.empty; room = full.room; ages = full.ages; past = full.past; pieces = full.pieces; in_a_row = full.in_a_row });
        taken = λ z. absurd (z refl);
        mine_then = λ e. absurd (cc e);
        pieces = load.value.pieces.items;
        within = within_added i o.pieces.all load.value.pieces.items took_more o.slots (length s.views) some_number small (at_there s.views i v blank me).1 o.pieces.within;
        own_pieces = ap (λ (ps : List Piece). ps ++ added v.pieces.all load.value.pieces.items) ((pieces_of_seat s o i v me).own (λ e. omega arith) ∙ ap (λ (j : ℕ). pieces_of j o.pieces.all) is)
            ∙ (ap (λ (ps : List Piece). pieces_of i o.pieces.all ++ added ps load.value.pieces.items) known_all ∙ sym (own_added i o.pieces.all load.value.pieces.items took_more));
        other_pieces = others_kept i o.pieces.all load.value.pieces.items took_more;
        known = λ e. absurd (cc e);
        noted = λ _. refl;
      }

      release_goes : (more : List (ℕ × SlotValue O C R)) → (w : View C R) × IsRuled obj (stepped s 0 FREE i ((0, ObjectLoad load) ∷ more) w gives) × releases (step o.slots 0 FREE 0 opt.none) (v, (0, ObjectLoad load) ∷ more) FREE (w, more)
      release_goes more = (
        releasing v load.value.pieces.items,
        subst (λ (f : List (Entry C R)). IsRuled obj record {
          words = set s.words (word_of 0) FREE;
          homes = set s.homes 0 (opt.some (ObjectLoad load));
          views = set s.views i (with_pieces (as_combiner v f (combiner v.combiner false v.combiner.opened 0) (no_walk v.listing)) now_taken);
        }) (sym object.whole) (record {
          records = relocked s o i v 0 FREE (opt.some (ObjectLoad load)) o.history (combiner v.combiner false v.combiner.opened 0) (no_walk v.listing) now_taken me some_number release_step;
          list = still_listed FREE (opt.some (ObjectLoad load)) o.history (combiner v.combiner false v.combiner.opened 0) now_taken none_off;
        }),
        refl,
      )

module _ {O C R : Type 0} where
  -- what the table demands of each of these steps

  module _ (slots id i : ℕ) (v : View C R) (more : List (ℕ × SlotValue O C R)) (is : v.number ≡ i) (some_number : 0 < i) where
    module _ {obj : Ghosts O C R} {bound : Bounds} where
      -- Look at lock keeps the rule.
      pub look_at_lock_kept : Allows (IsBounded obj bound) slots id (v, more) 0 (λ n. n) (looks_at_lock (step slots 0 0 0 opt.none) (v, more))
      look_at_lock_kept = seated slots id i 0 v more (λ n. n) (looks_at_lock (step slots 0 0 0 opt.none) (v, more)) is some_number
          (λ s o l me small wide e. subst (λ (n : ℕ). Goes obj s 0 i (v, more) (looks_at_lock (step n 0 0 0 opt.none) (v, more)) (word s 0)) e (look_goes i v is some_number s o l me small more))

      -- Seize keeps the rule.
      pub seize_kept : Allows (IsBounded obj bound) slots id (v, more) 0 (λ n. either (eqb n FREE) i n) (seizes_within obj bound (step slots 0 FREE i opt.none) (v, more))
      seize_kept = seated_within slots id i 0 v more (λ n. either (eqb n FREE) i n) (seizes_within obj bound (step slots 0 FREE i opt.none) (v, more)) is some_number
          (λ s b me small wide e. subst (λ (n : ℕ). Goes obj s 0 i (v, more) (seizes_within obj bound (step n 0 FREE i opt.none) (v, more)) (either (eqb (word s 0) FREE) i (word s 0))) e
          (seize_goes i v is some_number s b.ruled.records b.ruled.list me small bound b.within more))

module _ {O C R : Type 0} where
  -- What is at home once the load was laid down is this load.
  laid_down : (hs : List (opt.Option (SlotValue O C R))) (load other : Box (Load O C R)) → get_or (set hs 0 (opt.some (ObjectLoad load))) 0 opt.none ≡ opt.some (ObjectLoad other) → 0 < length hs → load ≡ other
  laid_down [] load other there some = absurd (omega (arith, some))
  laid_down (h ∷ hs) load other there some =
      let same : ObjectLoad load ≡ ObjectLoad other = opt.some-injective (ObjectLoad load) (ObjectLoad other) there in
      cc same

module _ {C R : Type 0} where
  module _ (slots id : ℕ) (v : View C R) (is : v.number ≢ 0) (has : v.combiner.has_object ≡ true) where
    some_number : 0 < v.number
    some_number = omega arith

    module _ {O : Type 0} {obj : Ghosts O C R} {bound : Bounds} where
      -- Release keeps the rule, for a combiner with no record opened or unlinked and a load fit to go home.
      pub release_kept : (load : Box (Load O C R)) (more : List (ℕ × SlotValue O C R)) → IsHome obj v.front slots load.value → obj.bound load.value.object ≡ bound → HasAdded v.number v.pieces.all load.value.pieces.items → IsNothingOpened v.combiner → v.listing.off ≡ 0
          → Allows (IsBounded obj bound) slots id (v, (0, ObjectLoad load) ∷ more) 0 (λ _. FREE) (λ _. releases (step slots 0 FREE 0 opt.none) (v, (0, ObjectLoad load) ∷ more) FREE)
      release_kept load more full kept took none settled s b wide me _ =
          let o = b.ruled.records in
          let t = named s o id v.number v me refl some_number in
          let here : get_elem? s.views v.number ≡ opt.some v = subst (λ (k : ℕ). get_elem? s.views k ≡ opt.some v) t.0 me in
          let slots_are : o.slots ≡ slots = sym o.homes_are ∙ wide in
          let g = release_goes v.number v refl some_number s o b.ruled.list here t.1 has load (subst (λ (n : ℕ). IsHome obj v.front n load.value) (sym slots_are) full) took none settled more in (
            g.0,
            gives,
            tt,
            record {
              ruled = subst (λ (k : ℕ). IsRuled obj (stepped s 0 FREE k ((0, ObjectLoad load) ∷ more) g.0 gives)) (sym t.0) g.1;
              within = λ other there. subst (λ (x : Box (Load O C R)). obj.bound x.value.object ≡ bound) (laid_down s.homes load other there (omega (arith, wide, slots_are, t.1))) kept;
            },
            subst (λ (n : ℕ). releases (step n 0 FREE 0 opt.none) (v, (0, ObjectLoad load) ∷ more) FREE (g.0, more)) slots_are g.2,
          )
