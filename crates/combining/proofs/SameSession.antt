-- What doesn't change in a session from one step of its pass to the next, and which places it enters.
use Rattle.std.proofs.Common.{◌≡◌, ℕ, ◌+◌, List, [], ◌∷◌, ◌++◌, length, sym, ap, ◌∙◌, arith, append_assoc}
use Rattle.std.specs.List.{range_with_len}
use Rattle.sequential.specs.declared.entry.Entry.{Entry}
use Rattle.publication.specs.Views.{TicketView}
use Rattle.publication.specs.Boards.{OpensNone}
use Rattle.combining.specs.inner.Passes.{IsSameSession, HasAnswered, IsAfterRow, HasPassed}
use Rattle.combining.proofs.OpenedRow.{Calls, none-opened}
use Rattle.combining.proofs.Places.{range-last}

module _ {C R : Type 0} where
  -- `IsSameSession` is transitive.
  pub same_session-trans : (t u v : TicketView C R) → IsSameSession t u → IsSameSession u v → IsSameSession t v
  same_session-trans t u v first later = record {
    same = later.same ∙ ap (λ (w : TicketView C R). record w { opened = v.opened; route = v.route }) first.same;
    wide = later.wide ∙ first.wide;
  }

  -- One more record is answered.
  pub one-answered : (t u v : TicketView C R) (served : ℕ) (front : List (Entry C R)) → HasAnswered t u served → v ≡ record u { front = front; opened = v.opened; entered = u.entered ++ length u.front ∷ [] } → length v.opened ≡ length u.opened
      → length front ≡ length u.front + 1 → HasAnswered t v (served + 1)
  one-answered t u v served front first last wide one =
      let whole : v ≡ record t { front = front; opened = v.opened; entered = u.entered ++ length u.front ∷ [] }
      = last ∙ ap (λ (w : TicketView C R). record w { front = front; opened = v.opened; entered = u.entered ++ length u.front ∷ [] }) first.same in
      let known : v.front ≡ front = ap (λ (w : TicketView C R). w.front) whole in
      let places : v.entered ≡ u.entered ++ length u.front ∷ [] = ap (λ (w : TicketView C R). w.entered) whole in
      record {
        same = whole ∙ ap (λ (k : List (Entry C R) × List ℕ). record t { front = k.0; opened = v.opened; entered = k.1 }) (sym (ap (λ (w : TicketView C R). (w.front, w.entered)) whole));
        wide = wide ∙ first.wide;
        count = omega (arith, ap (λ (l : List (Entry C R)). length l) known, one, first.count);
        entered = places ∙ (ap (λ (l : List ℕ). l ++ length u.front ∷ []) first.entered ∙ (append_assoc t.entered (range_with_len (length t.front) served) (length u.front ∷ [])
            ∙ ap (λ (l : List ℕ). t.entered ++ l) (sym (range-last (length t.front) served (length u.front) (sym first.count)))));
      }

  -- The records of the row that were answered, and then the calls that were put back.
  pub after_row : (t u v : TicketView C R) (served count : ℕ) → HasAnswered t u served → v ≡ record u { opened = v.opened; put_backs = count } → length v.opened ≡ length u.opened → IsAfterRow t v served
  after_row t u v served count first last wide = record {
    same = last ∙ (ap (λ (w : TicketView C R). record w { opened = v.opened; put_backs = count }) first.same
        ∙ ap (λ (k : List (Entry C R) × (ℕ × List ℕ)). record t { front = k.0; opened = v.opened; put_backs = k.1.0; entered = k.1.1 }) (sym (ap (λ (w : TicketView C R). (w.front, (w.put_backs, w.entered))) last)));
    wide = wide ∙ first.wide;
    count = ap (λ (w : TicketView C R). length w.front) last ∙ first.count;
    entered = ap (λ (w : TicketView C R). w.entered) last ∙ first.entered;
  }

  -- A whole pass: records were opened, and then answered or put back, and none is opened before and after.
  pub passed : (t u v : TicketView C R) (served : ℕ) → IsSameSession t u → IsAfterRow u v served → OpensNone t → OpensNone v → HasPassed t v served
  passed t u v served first last none none' =
      let front : u.front ≡ t.front = ap (λ (w : TicketView C R). w.front) first.same in
      let route : u.route ≡ v.route = sym (ap (λ (w : TicketView C R). w.route) last.same) in
      record {
        session = last.same ∙ (ap (λ (w : TicketView C R). record w { front = v.front; opened = v.opened; put_backs = v.put_backs; entered = v.entered }) first.same
            ∙ (ap (λ (r : List ℕ). record t { front = v.front; opened = v.opened; route = r; put_backs = v.put_backs; entered = v.entered }) route
            ∙ ap (λ (opened : Calls C). record t { front = v.front; opened = opened; route = v.route; put_backs = v.put_backs; entered = v.entered }) (none-opened v.opened t.opened (last.wide ∙ first.wide) none' none)));
        count = last.count ∙ ap (λ (f : List (Entry C R)). length f + served) front;
        entered = last.entered ∙ (ap (λ (l : List ℕ). l ++ range_with_len (length u.front) served) (ap (λ (w : TicketView C R). w.entered) first.same)
            ∙ ap (λ (f : List (Entry C R)). t.entered ++ range_with_len (length f) served) front);
      }

  -- After the pass, only the route changes.
  pub cleaned : (t u v : TicketView C R) (served : ℕ) → HasPassed t u served → v ≡ record u { route = v.route } → HasPassed t v served
  cleaned t u v served p last = record {
    session = last ∙ (ap (λ (w : TicketView C R). record w { route = v.route }) p.session
        ∙ ap (λ (k : List (Entry C R) × (ℕ × List ℕ)). record t { front = k.0; route = v.route; put_backs = k.1.0; entered = k.1.1 }) (sym (ap (λ (w : TicketView C R). (w.front, (w.put_backs, w.entered))) last)));
    count = ap (λ (w : TicketView C R). length w.front) last ∙ p.count;
    entered = ap (λ (w : TicketView C R). w.entered) last ∙ p.entered;
  }
