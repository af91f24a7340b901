-- A step that changes only views keeps the rule, if each seat keeps its combiner's part, or had none and has none.
use Rattle.std.proofs.Common.{◌≡◌, ◌≢◌, ◌⊎◌, inl, ⊎_elim, ℕ, ◌≤◌, true, false, Some, None, List, length, get_or, refl, sym, ap, ◌∙◌, subst, arith}
use mathlib.Core.Option as opt
use mathlib.Core.List.{IsPrefix}
use lib.ListN.{get_elem?}
use Rattle.publication.specs.Views.{Combiner}
use Rattle.publication.specs.Rule.{blank, no_combiner, BoardState, word, seat, own_at, announced, HasObject, IsOpened, IsSession, IsMaker, AreTrue, HasPieces, ArePresent, IsOrderly}
use Rattle.publication.specs.declared.view.View.{View}
use Rattle.publication.proofs.Lists.{prefix_self}
use Rattle.publication.proofs.Others.{StaysGone, still-true}
use Rattle.publication.proofs.Pieces.{pieces_kept}
use Rattle.publication.proofs.LockKinds.{nothing_at}
use Rattle.sequential.specs.declared.object.Sequential.{Ghosts}

module _ {O C R : Type 0} {obj : Ghosts O C R} where
  module _ (s : BoardState O C R) (o : IsOrderly obj s) (vs : List (View C R)) where
    -- The board with other views.
    abbrev pub viewed : BoardState O C R
    viewed = record { words = s.words; homes = s.homes; views = vs }

    -- What the rule demands of seat k with view u, which keeps its combiner's part, or had none and has none.
    pub record Sits (k : ℕ) (u : View C R) : Type 0 where
      pub front : IsPrefix u.front o.history
      pub heard : (j : ℕ) → get_or u.heard j 0 ≤ announced (own_at o.owns j)
      pub others : AreTrue o.history viewed o.slots o.owns u.others
      pub waits : (own_at o.owns k).pending ≢ None → u.own ≡ own_at o.owns k
      pub session : u.number ≢ 0 → IsSession o.slots o.owns k u
      pub object : u.combiner.has_object ≡ true → HasObject o.history (word s 0) k u
      pub combiner : (u.combiner ≡ (seat s k).combiner) ⊎ (((seat s k).combiner.has_object ≡ false) × (u.combiner ≡ no_combiner 0))
      pub pieces : HasPieces o.pieces.all u

    module _ (more : length s.views ≤ length vs) where
      -- What a seat knows of others is still true.
      pub sits-others : StaysGone s viewed o.owns o.owns → (k : ℕ) → AreTrue o.history viewed o.slots o.owns (seat s k).others
      sits-others gone k = still-true o.history o.history s viewed o.slots o.owns o.owns (seat s k).others (prefix_self o.history) more gone (o.others k)

      -- A seat whose view is the same meets the demands.
      pub sits-same : StaysGone s viewed o.owns o.owns → (k : ℕ) → Sits k (seat s k)
      sits-same gone k = record { front = o.fronts k; heard = o.heard k; others = sits-others gone k; waits = o.waits k; session = o.sessions k; object = o.combiners k; combiner = inl refl; pieces = o.pieces.seats k }

      -- The rule is stated of one board, so each of its facts is proved anew for the changed board, also those that
      -- don't change; `OrderlyCombiner`, `ListKinds` and `NewBoards` do the same.
      pub reviewed : IsMaker o.slots (length vs) (get_or vs 0 blank) → ((k : ℕ) → Sits k (get_or vs k blank)) → ArePresent o.slots viewed → IsOrderly obj viewed
      reviewed makes sits present = record {
        history = o.history;
        slots = o.slots;
        owns = o.owns;
        legal = o.legal;
        short = o.short;
        owns_are = o.owns_are;
        words_are = o.words_are;
        homes_are = o.homes_are;
        makes = makes;
        unmade = λ j past. o.unmade j (omega arith);
        sessions = λ k. (sits k).session;
        waits = λ k. (sits k).waits;
        fronts = λ k. (sits k).front;
        heard = λ k. (sits k).heard;
        others = λ k. (sits k).others;
        stands = o.stands;
        combiners = λ k. (sits k).object;
        free = o.free;
        taken = λ some_lock. let t = o.taken some_lock in (still_has (word s 0) t.0, t.1, t.2);
        opens = λ k j call is. still_open k j call is (sits k).combiner;
        opened = λ j some_session is. let t = o.opened j some_session is in (t.0, still_opened (word s 0) j t.0 t.1);
        pieces = pieces_kept o.slots s viewed o.pieces more (λ e. (e, refl)) (λ k. (sits k).pieces);
        present = present;
        in_time = o.in_time;
      }
        where
          still_has : (k : ℕ) → (seat s k).combiner.has_object ≡ true → (get_or vs k blank).combiner.has_object ≡ true
          still_has k has = ⊎_elim (λ same. ap (λ (c : Combiner C). c.has_object) same ∙ has) (λ lost. let z = lost.0 in absurd (cc (has, z))) (sits k).combiner

          still_open : (k j : ℕ) (call : C) → get_elem? (get_or vs k blank).combiner.opened j ≡ opt.some (Some call)
              → ((get_or vs k blank).combiner ≡ (seat s k).combiner) ⊎ (((seat s k).combiner.has_object ≡ false) × ((get_or vs k blank).combiner ≡ no_combiner 0))
              → IsOpened viewed o.owns (get_or vs k blank).combiner j call
          still_open k j call is = ⊎_elim
              (λ same. let p = o.opens k j call (ap (λ (c : Combiner C). get_elem? c.opened j) (sym same) ∙ is) in
              subst (λ (c : Combiner C). IsOpened viewed o.owns c j call) (sym same) (record { object = p.object; record_of = p.record_of; is_busy = p.is_busy; call_of = p.call_of; empty_slot = p.empty_slot }))
              (λ lost. absurd (nothing_at 0 j call (ap (λ (c : Combiner C). get_elem? c.opened j) (sym lost.1) ∙ is)))

          still_opened : (k j : ℕ) (call : C) → get_elem? (seat s k).combiner.opened j ≡ opt.some (Some call) → get_elem? (get_or vs k blank).combiner.opened j ≡ opt.some (Some call)
          still_opened k j call was = ⊎_elim (λ same. ap (λ (c : Combiner C). get_elem? c.opened j) same ∙ was)
              (λ lost. let p = o.opens k j call was in let z = lost.0 in let y = p.object in absurd (cc (y, z))) (sits k).combiner
