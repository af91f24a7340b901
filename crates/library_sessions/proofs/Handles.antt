-- Lists of handles, shares and sessions.
use Rattle.std.proofs.Common.{◌≡◌, ℕ, zero, suc, ◌+◌, List, [], ◌∷◌, ◌++◌, length, refl, sym, ap, subst, ◌∙◌, arith}
use Rattle.std.proofs.lemmas.List.{length-append}
use Rattle.std.proofs.lemmas.List.Elements.{All-append, All-cons}
use Rattle.std.specs.Prelude.{Bool, true, false, ◌||◌, ◌==◌, All}
use Rattle.atomic_table.specs.Seated.{TableId}
use Rattle.publication.specs.Boards.{new_ticket}
use Rattle.lock_office.specs.ProgramBoards.{new_tickets, TicketView}
use Rattle.publication.proofs.Gathering.{has_number}

-- the list of k new sessions has length k
pub new_tickets_count : (id : TableId) (sessions k : ℕ) → length (new_tickets id sessions k) ≡ k
new_tickets_count id sessions zero = refl
new_tickets_count id sessions (suc k) =
    length-append (new_tickets id sessions k) (new_ticket id sessions (suc k) ∷ []) ∙ (ap (λ n. n + 1) (new_tickets_count id sessions k) ∙ omega arith)

-- a number is in a list with one more session if it is in the list or is the number of that session
pub has_number_last : (n : ℕ) (xs : List TicketView) (x : TicketView) → has_number n (xs ++ x ∷ []) ≡ has_number n xs || (x.number == n)
has_number_last n [] x = or_false (x.number == n)
  where
    or_false : (b : Bool) → b || false ≡ false || b
    or_false true = refl
    or_false false = refl
has_number_last n (y ∷ ys) x = ap (λ b. (y.number == n) || b) (has_number_last n ys x) ∙ or_assoc (y.number == n) (has_number n ys) (x.number == n)
  where
    or_assoc : (a b c : Bool) → a || (b || c) ≡ (a || b) || c
    or_assoc true b c = refl
    or_assoc false b c = refl

-- new sessions know no entry of the history
new_tickets_unknowing : (id : TableId) (sessions k : ℕ) → All (λ ticket. ticket.front ≡ []) (new_tickets id sessions k)
new_tickets_unknowing id sessions zero = λ j d few. absurd (omega (arith, few))
new_tickets_unknowing id sessions (suc k) =
    let P : TicketView → Type 0 = λ ticket. ticket.front ≡ [] in
    let none : All P [] = λ j d few. absurd (omega (arith, few)) in
    let last : TicketView = new_ticket id sessions (suc k) in
    All-append P (new_tickets id sessions k) (last ∷ []) (new_tickets_unknowing id sessions k) (All-cons P last [] refl none)

pub are_unknowing : (id : TableId) (sessions k : ℕ) (tickets : List TicketView) → tickets ≡ new_tickets id sessions k → All (λ ticket. ticket.front ≡ []) tickets
are_unknowing id sessions k tickets is = subst (λ (l : List TicketView). All (λ ticket. ticket.front ≡ []) l) (sym is) (new_tickets_unknowing id sessions k)
