-- Each run of a program is told by an answer.
use Rattle.std.proofs.Common.{◌≡◌, inl, inr, ℕ, zero, suc, ◌+◌, ◌<◌, ◌≤◌, Bool, false, List, [], ◌∷◌, ◌++◌, length, Some, slice_get, slice_index_or, set, take, refl, sym, ap, subst, ◌∙◌, arith}
use Rattle.std.proofs.lemmas.List.{length-set}
use Rattle.std.proofs.Math.Seq.{take-length}
use Rattle.lock_modes.specs.declared.Mode.TheVariants.{NL}
use Rattle.lock_rules.specs.declared.calls.Call.{Call}
use Rattle.lock_rules.specs.declared.calls.Reply.{Reply}
use Rattle.programs.specs.Form.{AllGoOn}
use Rattle.programs.specs.Flat.{IsRun}
use Rattle.programs.specs.Answers.{RepliesFit, AreTold}
use Rattle.programs.proofs.Placed.{run-few}
use Rattle.lock_programs.specs.declared.stop.Stop.TheVariants.{GoesOn}
use Rattle.lock_programs.specs.declared.program.Program.{Program}
use Rattle.lock_programs.specs.declared.notes.ReplyNotes.{ReplyNotes}
use Rattle.lock_programs.specs.declared.answer.Replies.{Replies}
use Rattle.lock_programs.specs.declared.answer.Replies.TheVariants as told_by
use Rattle.lock_programs.specs.Calls.{calls_of}
use Rattle.lock_programs.specs.Answers.{NotedReplies, stop_at, replies_from, replies_told, replies_in, program_form}
use Rattle.lock_programs.specs.Fits.{Fits}
use Rattle.lock_programs.specs.inner.Noting.{began_after, ended_after, granted_after}
use Rattle.lock_programs.proofs.Shapes.{calls-few}
use Rattle.lock_programs.proofs.Appends.{none-from, appended}

-- an item at each place of a list, and the front with it
item : (rs : List Reply) (n : ℕ) → n < length rs → (r : Reply) × (slice_get rs n ≡ Some r) × (take (suc n) rs ≡ take n rs ++ r ∷ [])
item [] n h = absurd (omega (arith, h))
item (x ∷ xs) zero h = (x, refl, refl)
item (x ∷ xs) (suc n) h = let i = item xs n (omega (arith, h)) in (i.0, i.1, ap (λ (l : List Reply). x ∷ l) i.2)

front-length : (rs : List Reply) (n : ℕ) → n < length rs → length (take n rs) ≡ n
front-length [] n h = absurd (omega (arith, h))
front-length (x ∷ xs) zero h = refl
front-length (x ∷ xs) (suc n) h = ap suc (front-length xs n (omega (arith, h)))

-- a program goes on behind all replies before the last
front-going : (cs : List Call) (rs : List Reply) (x : Bool) (n : ℕ) → IsRun program_form cs rs x → n < length rs → AllGoOn program_form (take n rs)
front-going cs [] x n h l = absurd (omega (arith, l))
front-going [] (r ∷ rs) x n h l = absurd h
front-going (c ∷ cs) (r ∷ rs) x zero h l = tt
front-going (c ∷ cs) (r ∷ rs) x (suc n) (inl h) l = (h.0, front-going cs rs x n h.1 (omega (arith, l)))
front-going (c ∷ cs) (r ∷ rs) x (suc n) (inr h) l = absurd (omega (arith, l, ap (λ (q : List Reply). length q) h.1))

-- what tells the first n of these replies
record Tells (p : Program) (rs : List Reply) (n : ℕ) : Type 0 where
  told : NotedReplies
  places : length told.granted ≡ 7
  replies : replies_from told (calls_of p) 0 n ≡ take n rs

tells-first : (p : Program) (rs : List Reply) → IsRun program_form (calls_of p) rs false → RepliesFit program_form Fits (calls_of p) rs → (n : ℕ) → n ≤ length rs → Tells p rs n
tells-first p rs run fit zero l =
    let none : NotedReplies = record { began = 0; ended = 0; granted = NL ∷ NL ∷ NL ∷ NL ∷ NL ∷ NL ∷ NL ∷ []; stop = GoesOn } in
    record { told = none; places = refl; replies = none-from none (calls_of p) 0 }
tells-first p rs run fit (suc n) l =
    let old : Tells p rs n = tells-first p rs run fit n (omega (arith, l)) in
    let i = item rs n (omega (arith, l)) in
    let few : length rs ≤ length (calls_of p) = run-few program_form (calls_of p) rs false run in
    let long : length (take n rs) ≡ n = front-length rs n (omega (arith, l)) in
    let here : length (replies_from old.told (calls_of p) 0 n) ≡ n = ap (λ (q : List Reply). length q) old.replies ∙ long in
    let m = granted_after (slice_index_or old.told.granted n NL) i.0 in
    let new : NotedReplies = record { began = began_after old.told.began i.0; ended = ended_after old.told.ended i.0; granted = set old.told.granted n m; stop = stop_at i.0 } in
    let one : suc n ≡ n + 1 = omega arith in
    record {
      told = new;
      places = length-set old.told.granted n m ∙ old.places;
      replies = ap (replies_from new (calls_of p) 0) one
          ∙ (appended p old.told new n i.0
          (subst (AllGoOn program_form) (sym old.replies) (front-going (calls_of p) rs false n run (omega (arith, l))))
          (omega (arith, here, few, l))
          (λ c at. fit n c i.0 (ap (slice_get (calls_of p)) (sym here) ∙ at) i.1)
          (omega (arith, old.places, few, l, calls-few p))
          refl refl refl refl
          ∙ (ap (λ (q : List Reply). q ++ i.0 ∷ []) old.replies ∙ sym i.2));
    }

-- told by a single reply, or by notes
told-by : (cs : List Call) (rs : List Reply) → length rs ≤ length cs → (n : ReplyNotes) → replies_told cs n ≡ rs → (x : Replies) × (replies_in cs x ≡ rs)
told-by [] rs few n e = (told_by.Several n, e)
told-by (c ∷ []) [] few n e = (told_by.None, refl)
told-by (c ∷ []) (r ∷ []) few n e = (told_by.One r, refl)
told-by (c ∷ []) (r ∷ q ∷ rs) few n e = absurd (omega (arith, few))
told-by (c ∷ d ∷ cs) rs few n e = (told_by.Several n, e)

pub runs_are_told : AreTold program_form Fits
runs_are_told p first rs run fit =
    let t : Tells p rs (length rs) = tells-first p rs run fit (length rs) (omega arith) in
    let few : length rs ≤ length (calls_of p) = run-few program_form (calls_of p) rs false run in
    let x = told-by (calls_of p) rs few (notes t.told (omega (arith, few, calls-few p))) (t.replies ∙ take-length rs) in
    (record { first = first; is_refused = false; replies = x.0 }, x.1, refl, refl)
  where
    notes : NotedReplies → length rs ≤ 7 → ReplyNotes
    notes t few = record { began = t.began; ended = t.ended; granted = t.granted; served = length rs; stop = t.stop; few = few }
