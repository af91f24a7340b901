-- When a lock begins to be held as told, what it lasts past, and when it ends.
use Rattle.std.proofs.Common.{◌≡◌, inl, inr, ℕ, Option, Some, None, List, [], ◌∷◌, ◌++◌, refl, sym, ap, subst, ◌∙◌, append_assoc}
use Rattle.std.specs.List.{All}
use Rattle.std.proofs.lemmas.List.Elements.{All-nil, All-cons, All-head, All-tail, All-append}
use Rattle.lock_modes.specs.declared.Mode.{Mode}
use Rattle.lock_rules.specs.declared.calls.Call.{Call}
use Rattle.lock_rules.specs.declared.calls.Call.TheVariants.{Poll, Withdraw}
use Rattle.lock_rules.specs.declared.calls.Reply.{Reply}
use Rattle.lock_rules.specs.declared.calls.Reply.TheVariants.{Granted, Waiting, Clear, Refused}
use Rattle.lock_rules.specs.declared.calls.Why.{Why}
use Rattle.lock_rules.specs.declared.calls.Why.TheVariants.{NotWaiting}
use Rattle.lock_rules.specs.Entries.{Answered}
use Rattle.publication.specs.Views.{answer, asks}
use Rattle.lock_office.specs.by_calls.HoldsAsTold.{Pending, AsksFor, KeepsLock, KeptLock, ToldOfGrant, TookNothingBack, HoldsAsTold}
use Rattle.lock_office.proofs.by_calls.Telling.{not-waiting}

asking-keeps : (c : Call) (r x : List ℕ) (m : Mode) → AsksFor c r m → KeepsLock x c
asking-keeps c r x m (inl e) = ((λ f. cc (e, f)), (λ f. cc (e, f)), (λ f. cc (e, f)), (λ f. cc (e, f)))
asking-keeps c r x m (inr (inl e)) = ((λ f. cc (e, f)), (λ f. cc (e, f)), (λ f. cc (e, f)), (λ f. cc (e, f)))
asking-keeps c r x m (inr (inr e)) = ((λ f. cc (e, f)), (λ f. cc (e, f)), (λ f. cc (e, f)), (λ f. cc (e, f)))

polling-keeps : (c : Call) (x : List ℕ) → c ≡ Poll → KeepsLock x c
polling-keeps c x e = ((λ f. cc (e, f)), (λ f. cc (e, f)), (λ f. cc (e, f)), (λ f. cc (e, f)))

nothing-pending : (r : List ℕ) (p : Pending) → None ≡ Some p → KeepsLock r p.call
nothing-pending r p e = absurd (cc e)

-- It begins with the grant.
pub begins : (answers : List Answered) (call : Call) (place : ℕ) (r : List ℕ) (k m : Mode) → AsksFor call r k → HoldsAsTold (answers ++ answer place call (Granted m) ∷ []) None r m
begins answers call place r k m asked = record {
  told = inl (record { before = answers; grant = answer place call (Granted m); after = []; answers_are = refl; asked = (k, asked); granted = refl; kept = All-nil (KeptLock r) });
  kept = nothing-pending r;
}

-- After a wait it begins with the answer that tells of the grant, unless that call gives the lock back.
pub begins-by-next-call : (answers between : List Answered) (call next : Call) (place later : ℕ) (reply : Reply) (r : List ℕ) (m : Mode) → AsksFor call r m → All (KeptLock r) between
    → All TookNothingBack between → ToldOfGrant (answer later next reply) → KeptLock r (answer later next reply)
    → HoldsAsTold (answers ++ answer place call Waiting ∷ (between ++ answer later next reply ∷ [])) None r m
begins-by-next-call answers between call next place later reply r m asked kept standing ended keeps = record {
  told = inr (record {
    before = answers;
    wait = answer place call Waiting;
    between = between;
    ending = answer later next reply;
    after = [];
    answers_are = refl;
    asked = asked;
    waited = refl;
    ended = ended;
    kept_waiting = kept;
    not_withdrawn = standing;
    kept_telling = keeps;
    kept = All-nil (KeptLock r);
  });
  kept = nothing-pending r;
}

-- That may be the poll that is answered Clear,
pub begins-later : (answers between : List Answered) (call : Call) (place later : ℕ) (r : List ℕ) (m : Mode) → AsksFor call r m → All (KeptLock r) between → All TookNothingBack between
    → HoldsAsTold (answers ++ answer place call Waiting ∷ (between ++ answer later Poll Clear ∷ [])) None r m
begins-later answers between call place later r m asked kept standing =
    begins-by-next-call answers between call Poll place later Clear r m asked kept standing tt (inl (polling-keeps Poll r refl))

-- or the withdrawal that comes too late.
pub begins-meanwhile : (answers between : List Answered) (call : Call) (place later : ℕ) (r : List ℕ) (m : Mode) → AsksFor call r m → All (KeptLock r) between → All TookNothingBack between
    → HoldsAsTold (answers ++ answer place call Waiting ∷ (between ++ answer later Withdraw (Refused NotWaiting) ∷ [])) None r m
begins-meanwhile answers between call place later r m asked kept standing =
    begins-by-next-call answers between call Withdraw place later (Refused NotWaiting) r m asked kept standing not-waiting (inr (NotWaiting, refl))

-- It lasts past each answer that kept the lock.
one-more : (r : List ℕ) (after : List Answered) (x : Answered) → All (KeptLock r) after → KeptLock r x → All (KeptLock r) (after ++ x ∷ [])
one-more r after x all kept = All-append (KeptLock r) after (x ∷ []) all (All-cons (KeptLock r) x [] kept (All-nil (KeptLock r)))

pub goes-on : (answers : List Answered) (x : Answered) (pending : Option Pending) (r : List ℕ) (m : Mode) → KeptLock r x → HoldsAsTold answers pending r m → HoldsAsTold (answers ++ x ∷ []) None r m
goes-on answers x pending r m kept t = elim t.told [
  | inl g ↦ record {
    told = inl (record {
      before = g.before;
      grant = g.grant;
      after = g.after ++ x ∷ [];
      answers_are = ap (λ (l : List Answered). l ++ x ∷ []) g.answers_are ∙ append_assoc g.before (g.grant ∷ g.after) (x ∷ []);
      asked = g.asked;
      granted = g.granted;
      kept = one-more r g.after x g.kept kept;
    });
    kept = nothing-pending r;
  }
  | inr g ↦ record {
    told = inr (record {
      before = g.before;
      wait = g.wait;
      between = g.between;
      ending = g.ending;
      after = g.after ++ x ∷ [];
      answers_are = ap (λ (l : List Answered). l ++ x ∷ []) g.answers_are ∙ (append_assoc g.before (g.wait ∷ (g.between ++ g.ending ∷ g.after)) (x ∷ [])
          ∙ ap (λ (l : List Answered). g.before ++ g.wait ∷ l) (append_assoc g.between (g.ending ∷ g.after) (x ∷ [])));
      asked = g.asked;
      waited = g.waited;
      ended = g.ended;
      kept_waiting = g.kept_waiting;
      not_withdrawn = g.not_withdrawn;
      kept_telling = g.kept_telling;
      kept = one-more r g.after x g.kept kept;
    });
    kept = nothing-pending r;
  }
]

-- It lasts while a call is pending that keeps the lock.
pub asks-on : (answers : List Answered) (call : Call) (floor : ℕ) (r : List ℕ) (m : Mode) → KeepsLock r call → HoldsAsTold answers None r m → HoldsAsTold answers (Some (asks call floor)) r m
asks-on answers call floor r m keeps t = record {
  told = t.told;
  kept = λ p e. let same : asks call floor ≡ p = cc e in subst (λ (q : Pending). KeepsLock r q.call) same keeps;
}

-- A refusal leaves it as it was before the call.
pub comes-back : (answers : List Answered) (call : Call) (place : ℕ) (why : Why) (r : List ℕ) (m : Mode) → HoldsAsTold answers None r m → HoldsAsTold (answers ++ answer place call (Refused why) ∷ []) None r m
comes-back answers call place why r m = goes-on answers (answer place call (Refused why)) None r m (inr (why, refl))

-- It ends when a call is published that may give the lock back.
pub ends-asked : (answers : List Answered) (call : Call) (floor : ℕ) (r : List ℕ) (m : Mode) → (KeepsLock r call → ⊥) → HoldsAsTold answers (Some (asks call floor)) r m → ⊥
ends-asked answers call floor r m gives t = gives (t.kept (asks call floor) refl)

-- It doesn't last past the answer of such a call.
last : (P : Answered → Type 0) (l : List Answered) (x : Answered) → All P (l ++ x ∷ []) → P x
last P [] x all = All-head P x [] all
last P (y ∷ ys) x all = last P ys x (All-tail P y (ys ++ x ∷ []) all)

last-kept : (P : Answered → Type 0) (l : List Answered) (x : Answered) (before : List Answered) (g : Answered) (after : List Answered) → l ++ x ∷ [] ≡ before ++ g ∷ after → P g → All P after → P x
last-kept P [] x [] g after e here all = subst P (sym (let f : x ≡ g = cc e in f)) here
last-kept P [] x (b ∷ []) g after e here all = absurd (cc e)
last-kept P [] x (b ∷ c ∷ bs) g after e here all = absurd (cc e)
last-kept P (y ∷ ys) x [] g after e here all = last P ys x (subst (All P) (sym (let f : ys ++ x ∷ [] ≡ after = cc e in f)) all)
last-kept P (y ∷ ys) x (b ∷ bs) g after e here all = last-kept P ys x bs g after (cc e) here all

pub ends : (answers : List Answered) (x : Answered) (pending : Option Pending) (r : List ℕ) (m : Mode) → (KeptLock r x → ⊥) → HoldsAsTold (answers ++ x ∷ []) pending r m → ⊥
ends answers x pending r m gives t = elim t.told [
  | inl g ↦ gives (last-kept (KeptLock r) answers x g.before g.grant g.after g.answers_are (inl (asking-keeps g.grant.call r r g.asked.0 g.asked.1)) g.kept)
  | inr g ↦ gives (last-kept (KeptLock r) answers x g.before g.wait (g.between ++ g.ending ∷ g.after) g.answers_are (inl (asking-keeps g.wait.call r r m g.asked))
      (All-append (KeptLock r) g.between (g.ending ∷ g.after) g.kept_waiting (All-cons (KeptLock r) g.ending g.after g.kept_telling g.kept)))
]
