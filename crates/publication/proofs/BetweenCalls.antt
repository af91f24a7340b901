-- A combiner's seat between two calls, after it opened or answered a record, entered a call or took a record off the list.
use Rattle.std.proofs.Common.{◌≡◌, inl, ℕ, ◌+◌, Bool, true, false, Option, Some, None, IfSome, IfNone, List, [], ◌∷◌, ◌++◌, length, refl, sym, subst, arith, length-append}
use Rattle.sequential.specs.declared.entry.Entry.{Entry}
use Rattle.sequential.specs.Histories.{calls_of}
use Rattle.publication.specs.Views.{Combiner, Listing, IsAccountedIn, entry, answer}
use Rattle.publication.specs.StepKinds.{Seated, as_combiner, opening, in_hand, bypassing, none_unlinked, answering, entering}
use Rattle.publication.specs.inner.Tickets.{IsBetweenCalls}

-- A seat between two calls, whose view changes by a front, by what the combiner knows and by what is known of the list.
pub still-between : {O C R : Type 0} (m : Seated O C R) (number seen seen' : ℕ) (b p l r : Bool) (t : IsBetweenCalls m number seen b p l r) (front : List (Entry C R)) (d : Combiner C) (a : Listing)
    → length front ≡ seen' → IsAccountedIn front m.0.number m.0.own.collected m.0.own.pending → d.has_object ≡ b → d.hand ≡ 0 → a.head_seen ≡ None → a.off ≡ 0 → (b ≡ false → a.route ≡ [])
    → IsBetweenCalls (as_combiner m.0 front d a, m.1) number seen' b p l r
still-between m number seen seen' b p l r t front d a seen_is accounted object hand no_head_seen whole routed = record {
  number_is = t.number_is;
  some_number = t.some_number;
  seen_is = seen_is;
  started = t.started;
  retired = t.retired;
  pending = t.pending;
  object = object;
  hand = hand;
  listed = t.listed;
  heard_few = t.heard_few;
  heard = t.heard;
  wide = t.wide;
  all_made = t.all_made;
  accounted = accounted;
  no_head_seen = no_head_seen;
  whole = whole;
  routed = routed;
  unknown = t.unknown;
  carried = t.carried;
}

module _ {O C R : Type 0} (m m' : Seated O C R) (number seen : ℕ) (b p l r : Bool) (t : IsBetweenCalls m number seen b p l r) where
  module _ (has : b ≡ true) where
    -- After it opened record `at`, or found no call posted there.
    pub opened-between : (at : ℕ) (found : Option C) → IfSome found (λ call. m' ≡ (in_hand (opening m.0 at call) 0, m.1)) → IfNone found (m' ≡ m) → IsBetweenCalls m' number seen b p l r
    opened-between at None some none = subst (λ (x : Seated O C R). IsBetweenCalls x number seen b p l r) (sym none) t
    opened-between at (Some call) some none = subst (λ (x : Seated O C R). IsBetweenCalls x number seen b p l r) (sym some)
        (still-between m number seen seen b p l r t m.0.front (in_hand (opening m.0 at call) 0).combiner m.0.listing t.seen_is t.accounted (sym has) refl t.no_head_seen t.whole t.routed)

    -- After it took a record off the list, or linked it again.
    pub unlinked-between : (before : ℕ) (off : Bool) → (off ≡ true → m' ≡ (none_unlinked (bypassing m.0 before), m.1)) → (off ≡ false → m' ≡ (none_unlinked m.0, m.1)) → IsBetweenCalls m' number seen b p l r
    unlinked-between before true out kept = subst (λ (x : Seated O C R). IsBetweenCalls x number seen b p l r) (sym (out refl))
        (still-between m number seen seen b p l r t m.0.front m.0.combiner (none_unlinked (bypassing m.0 before)).listing t.seen_is t.accounted t.object t.hand t.no_head_seen refl (λ lacks. absurd (cc (has, lacks))))
    unlinked-between before false out kept = subst (λ (x : Seated O C R). IsBetweenCalls x number seen b p l r) (sym (kept refl))
        (still-between m number seen seen b p l r t m.0.front m.0.combiner (none_unlinked m.0).listing t.seen_is t.accounted t.object t.hand t.no_head_seen refl t.routed)

    -- After it answered record `at`.
    pub answered-between : (at : ℕ) (call : C) (reply : R) → m' ≡ (answering m.0 at call reply, m.1) → IsAccountedIn m'.0.front m'.0.number m'.0.own.collected m'.0.own.pending → IsBetweenCalls m' number (seen + 1) b p l r
    answered-between at call reply is accounted = subst (λ (x : Seated O C R). IsBetweenCalls x number (seen + 1) b p l r) (sym is)
        (still-between m number seen (seen + 1) b p l r t (m.0.front ++ entry at call reply ∷ []) (answering m.0 at call reply).combiner m.0.listing (omega (arith, t.seen_is, length-append m.0.front (entry at call reply ∷ [])))
        (subst (λ (x : Seated O C R). IsAccountedIn x.0.front x.0.number x.0.own.collected x.0.own.pending) is accounted) (sym has) refl t.no_head_seen t.whole t.routed)

    -- After it entered a call of its own.
    pub entered-between : (call : C) (reply : R) → p ≡ false → m' ≡ (entering m.0 m'.0.own.log call reply, m.1) → calls_of m.0.number m'.0.front ≡ m'.0.own.collected → IsBetweenCalls m' number (seen + 1) b p l r
    entered-between call reply idle is calls = subst (λ (x : Seated O C R). IsBetweenCalls x number (seen + 1) b p l r) (sym is) record {
      number_is = t.number_is;
      some_number = t.some_number;
      seen_is = omega (arith, t.seen_is, length-append m.0.front (entry m.0.number call reply ∷ []));
      started = t.started;
      retired = t.retired;
      pending = t.pending;
      object = t.object;
      hand = t.hand;
      listed = t.listed;
      heard_few = omega (arith, t.heard_few, length-append m.0.own.collected (answer (length m.0.front) call reply ∷ []));
      heard = λ waits. absurd (cc (waits, idle));
      wide = t.wide;
      all_made = t.all_made;
      accounted = inl (subst (λ (x : Seated O C R). calls_of m.0.number x.0.front ≡ x.0.own.collected) is calls);
      no_head_seen = t.no_head_seen;
      whole = t.whole;
      routed = t.routed;
      unknown = t.unknown;
      carried = t.carried;
    }
