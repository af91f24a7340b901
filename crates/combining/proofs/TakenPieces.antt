-- A session that took the object for a moment, and gave it back.
use Rattle.std.proofs.Common.{◌≡◌, ℕ, zero, suc, ◌+◌, ◌<◌, ◌≤◌, ◌⊎◌, inl, inr, ⊎_elim, Bool, true, false, List, [], ◌∷◌, ◌++◌, length, take, drop, refl, sym, ap, ◌∙◌, subst, arith, append-nil}
use Rattle.std.proofs.lemmas.List.{take_all, length-drop, length-take}
use Rattle.std.proofs.Math.Seq.{drop-append_seam}
use Rattle.sequential.specs.declared.entry.Entry.{Entry}
use Rattle.publication.specs.Pieces.{added}
use Rattle.publication.specs.Views.{TicketView}
use Rattle.publication.specs.Boards.{tried, enlisted}
use Rattle.publication.specs.declared.piece.Piece.{Piece}
use Rattle.publication.specs.declared.slot.Load.{Load}
use Rattle.combining.specs.Sessions.{HasTriedToList, IsPassed}
use Rattle.combining.specs.inner.Passes.{HasMadePass}
use Rattle.combining.specs.Looks.{HasLooked, HasBegunToLook}
use mathlib.Core.List.{IsPrefix}
use Rattle.sequential.specs.declared.object.Sequential.{Ghosts}

module _ {C R : Type 0} where
  -- A session that isn't the combiner is none afterwards, has begun no walk, and knows nothing of others' pieces.
  same_rest : (t : TicketView C R) (f : List (Entry C R)) (n : ℕ) (m : List ℕ) (q : List Piece) → t.has_object ≡ false → t.route ≡ [] → t.taken ≡ []
      → record t { front = f; put_backs = n; entered = m; pieces = q; has_object = false; route = []; taken = [] } ≡ record t { front = f; put_backs = n; entered = m; pieces = q }
  same_rest t f n m q lacked no_walk untaken =
      ap (λ (b : Bool). record t { front = f; put_backs = n; entered = m; pieces = q; has_object = b; route = []; taken = [] }) (sym lacked)
      ∙ (ap (λ (r : List ℕ). record t { front = f; put_backs = n; entered = m; pieces = q; route = r; taken = [] }) (sym no_walk)
      ∙ ap (λ (ps : List Piece). record t { front = f; put_backs = n; entered = m; pieces = q; taken = ps }) (sym untaken))

  -- The session noted one piece meanwhile: it knows the history, and the piece is its own.
  pub noted_one : (t u w : TicketView C R) (h : List (Entry C R)) (all after : List Piece) (p : Piece) → u ≡ record t { front = h; has_object = true; taken = all }
      → w ≡ record u { has_object = false; route = []; pieces = u.pieces ++ added u.taken after; taken = [] } → t.has_object ≡ false → t.route ≡ [] → t.taken ≡ []
      → after ≡ all ++ p ∷ [] → w ≡ record t { front = w.front; pieces = t.pieces ++ p ∷ [] }
  noted_one t u w h all after p seized released lacked no_walk untaken noted =
      let whole : w ≡ record t { front = h; has_object = false; route = []; pieces = t.pieces ++ added all after; taken = [] }
      = released ∙ ap (λ (x : TicketView C R). record x { has_object = false; route = []; pieces = x.pieces ++ added x.taken after; taken = [] }) seized in
      let one : added all after ≡ p ∷ [] = ap (added all) noted ∙ drop-append_seam all (p ∷ []) in
      let front : w.front ≡ h = ap (λ (x : TicketView C R). x.front) whole in
      whole ∙ (ap (λ (ps : List Piece). record t { front = h; has_object = false; route = []; pieces = t.pieces ++ ps; taken = [] }) one
      ∙ (same_rest t h t.put_backs t.entered (t.pieces ++ p ∷ []) lacked no_walk untaken ∙ ap (λ (f : List (Entry C R)). record t { front = f; pieces = t.pieces ++ p ∷ [] }) (sym front)))

  -- The session took the object and made a pass, and noted no piece.
  pub made : (t u v : TicketView C R) (h : List (Entry C R)) (all after : List Piece) → u ≡ record t { front = h; has_object = true; taken = all }
      → v ≡ record u { front = v.front; route = v.route; put_backs = v.put_backs; entered = v.entered } → after ≡ all
      → v ≡ record t { front = v.front; has_object = true; route = v.route; put_backs = v.put_backs; entered = v.entered; taken = after }
  made t u v h all after seized served same =
      served ∙ (ap (λ (x : TicketView C R). record x { front = v.front; route = v.route; put_backs = v.put_backs; entered = v.entered }) seized
      ∙ ap (λ (ps : List Piece). record t { front = v.front; has_object = true; route = v.route; put_backs = v.put_backs; entered = v.entered; taken = ps }) (sym same))

  -- Giving the object back notes no piece if none was taken meanwhile.
  pub gave_back : (v w : TicketView C R) (after : List Piece) → w ≡ record v { has_object = false; route = []; pieces = v.pieces ++ added v.taken after; taken = [] } → v.taken ≡ after
      → w ≡ record v { has_object = false; route = []; taken = [] }
  gave_back v w after released same =
      let none : added v.taken after ≡ [] = ap (added v.taken) (sym same ∙ sym (append-nil v.taken)) ∙ drop-append_seam v.taken [] in
      let kept : v.pieces ++ added v.taken after ≡ v.pieces = ap (λ (ps : List Piece). v.pieces ++ ps) none ∙ append-nil v.pieces in
      released ∙ ap (λ (q : List Piece). record v { has_object = false; route = []; pieces = q; taken = [] }) kept

  -- The session made a pass meanwhile, and noted no piece.
  passed : (t v w : TicketView C R) (all : List Piece) → v ≡ record t { front = v.front; has_object = true; route = v.route; put_backs = v.put_backs; entered = v.entered; taken = all }
      → w ≡ record v { has_object = false; route = []; taken = [] } → t.has_object ≡ false → t.route ≡ [] → t.taken ≡ [] → w ≡ record t { front = w.front; put_backs = w.put_backs; entered = w.entered }
  passed t v w all late released lacked no_walk untaken =
      let whole : w ≡ record t { front = v.front; put_backs = v.put_backs; entered = v.entered; has_object = false; route = []; taken = [] }
      = released ∙ ap (λ (x : TicketView C R). record x { has_object = false; route = []; taken = [] }) late in
      let both : (v.front, (v.put_backs, v.entered)) ≡ (w.front, (w.put_backs, w.entered)) = sym (ap (λ (x : TicketView C R). (x.front, (x.put_backs, x.entered))) whole) in
      whole ∙ (same_rest t v.front v.put_backs v.entered t.pieces lacked no_walk untaken ∙ ap (λ (k : List (Entry C R) × (ℕ × List ℕ)). record t { front = k.0; put_backs = k.1.0; entered = k.1.1 }) both)

module _ {O C R : Type 0} {obj : Ghosts O C R} where
  -- The session looked at the object meanwhile, and noted no piece.
  pub looked : (before mid after : TicketView C R) → HasBegunToLook obj before mid → after ≡ record mid { has_object = false; route = []; taken = [] } → HasLooked obj before after
  looked before mid after b released =
      let whole : after ≡ record before { front = mid.front; has_object = false; route = []; taken = [] }
      = released ∙ ap (λ (x : TicketView C R). record x { has_object = false; route = []; taken = [] }) b.session in
      let front : after.front ≡ mid.front = ap (λ (x : TicketView C R). x.front) whole in
      record {
        session = whole ∙ (same_rest before mid.front before.put_backs before.entered before.pieces b.lacked b.no_walk b.untaken ∙ ap (λ (f : List (Entry C R)). record before { front = f }) (sym front));
        longer = subst (IsPrefix before.front) (sym front) b.longer;
        legal = subst obj.is_legal (sym front) b.legal;
      }

module _ {O C R : Type 0} {obj : Ghosts O C R} where
  -- A pass that was made and ended.
  pub pass-ended : (n : ℕ) (before mid after : TicketView C R) (load : Load O C R) (served : ℕ) → HasMadePass obj n before mid load served → after ≡ record mid { has_object = false; route = []; taken = [] }
      → IsPassed obj before after served
  pass-ended n before mid after load served m released =
      let front : after.front ≡ mid.front = ap (λ (x : TicketView C R). x.front) released in
      record {
        between = m.between;
        is_tried = m.is_tried;
        session = passed m.between mid after load.pieces.items m.session released m.lacked.0 m.lacked.1 m.lacked.2;
        others = m.others;
        own = m.own;
        front = front ∙ m.front;
        count = m.count;
        entered = ap (λ (x : TicketView C R). x.entered) released ∙ m.entered;
        legal = subst obj.is_legal (sym front) m.legal;
      }

module _ {C R : Type 0} where
  -- A try to have a call listed changes nothing of the known history.
  pub tried-front : (t u : TicketView C R) → HasTriedToList t u → u.front ≡ t.front
  tried-front t u h = ⊎_elim (λ unlisted. ⊎_elim (λ (e : u ≡ tried t). ap (λ (x : TicketView C R). x.front) e) (λ (e : u ≡ tried (enlisted t)). ap (λ (x : TicketView C R). x.front) e) unlisted.1)
      (λ other. ap (λ (x : TicketView C R). x.front) other.1) h

  -- Nor of what the session is, and of what it entered.
  pub tried-rest : (t u : TicketView C R) → HasTriedToList t u → (u.has_object ≡ t.has_object) × (u.route ≡ t.route) × (u.entered ≡ t.entered)
  tried-rest t u h = ⊎_elim (λ unlisted. ⊎_elim (λ (e : u ≡ tried t). (ap (λ (x : TicketView C R). x.has_object) e, ap (λ (x : TicketView C R). x.route) e, ap (λ (x : TicketView C R). x.entered) e))
      (λ (e : u ≡ tried (enlisted t)). (ap (λ (x : TicketView C R). x.has_object) e, ap (λ (x : TicketView C R). x.route) e, ap (λ (x : TicketView C R). x.entered) e)) unlisted.1)
      (λ other. (ap (λ (x : TicketView C R). x.has_object) other.1, ap (λ (x : TicketView C R). x.route) other.1, ap (λ (x : TicketView C R). x.entered) other.1)) h

-- which lines

at_most : (m n : ℕ) → (m ≤ n) ⊎ (n < m)
at_most zero n = inl (omega arith)
at_most (suc m) zero = inr (omega arith)
at_most (suc m) (suc n) = ⊎_elim (λ le. inl (omega (arith, le))) (λ more. inr (omega (arith, more))) (at_most m n)

module _ {L : Type 0} where
  -- All lines from a place on, or none: they are the part that begins there and is as long.
  pub all_or_none : (h taken : List L) (first most : ℕ) → first ≤ length h → (length h ≤ most → taken ≡ drop first h) → (most < length h → taken ≡ [])
      → (taken ≡ take (length taken) (drop first h)) × (first + length taken ≤ length h)
  all_or_none h taken first most within all none = ⊎_elim
      (λ few. let e = all few in (
        e ∙ sym (take_all (length taken) (drop first h) (omega (arith, ap (λ (l : List L). length l) e))),
        omega (arith, ap (λ (l : List L). length l) e, length-drop first h),
      ))
      (λ many. let e = none many in
      (subst (λ (l : List L). l ≡ take (length l) (drop first h)) (sym e) refl, omega (arith, ap (λ (l : List L). length l) e)))
      (at_most (length h) most)

  -- The first lines from a place on: they are the part that begins there and is as long.
  pub first_ones : (h taken : List L) (first count : ℕ) → first ≤ length h → count ≤ length (drop first h) → taken ≡ take count (drop first h)
      → (taken ≡ take (length taken) (drop first h)) × (first + length taken ≤ length h) × (length taken ≡ count)
  first_ones h taken first count within few is =
      let long : length taken ≡ count = omega (arith, ap (λ (l : List L). length l) is, length-take count (drop first h), few) in
      (is ∙ ap (λ (n : ℕ). take n (drop first h)) (sym long), omega (arith, long, few, length-drop first h), long)
