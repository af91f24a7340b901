-- What the rule has of a session that has collected some answers.
use Rattle.std.proofs.Common.{◌≡◌, inl, inr, ℕ, ◌<◌, Option, List, sym, ap, subst, ◌∙◌, arith}
use Rattle.sequential.specs.Histories.{Answered}
use Rattle.sequential.specs.declared.object.Sequential.{Ghosts}
use Rattle.publication.specs.Views.{Pending, Own}
use Rattle.publication.specs.Rule.{BoardState, own_at, IsOrderly}
use Rattle.publication.specs.Collected.{HasCollected}

module _ {O C R : Type 0} {obj : Ghosts O C R} (s : BoardState O C R) (o : IsOrderly obj s) where
  -- The rule has these answers and this pending call for session i, which is one of the board's.
  pub record IsOwn (i : ℕ) (answers : List (Answered C R)) (pending : Option (Pending C)) : Type 0 where
    pub some : 0 < i
    pub small : i < o.slots
    pub answers_are : (own_at o.owns i).collected ≡ answers
    pub pending_is : (own_at o.owns i).pending ≡ pending

  pub own-of : (i : ℕ) (answers : List (Answered C R)) (pending : Option (Pending C)) → HasCollected s i answers pending → IsOwn i answers pending
  own-of i answers pending (inl d) =
      let t = o.sessions i (λ e. let n = d.named in let f = d.some in omega arith) in record {
        some = d.some;
        small = t.small;
        answers_are = ap (λ (w : Own C R). w.collected) (sym t.own_is) ∙ d.answers_are;
        pending_is = ap (λ (w : Own C R). w.pending) (sym t.own_is) ∙ d.pending_is;
      }
  own-of i answers pending (inr d) =
      let t = (o.others d.closing).handed d.place d.handed d.there in record {
        some = subst (λ (n : ℕ). 0 < n) d.named t.some;
        small = subst (λ (n : ℕ). n < o.slots) d.named t.small;
        answers_are = ap (λ (n : ℕ). (own_at o.owns n).collected) (sym d.named) ∙ (t.collected ∙ d.answers_are);
        pending_is = ap (λ (n : ℕ). (own_at o.owns n).pending) (sym d.named) ∙ (t.settled ∙ sym d.settled);
      }
