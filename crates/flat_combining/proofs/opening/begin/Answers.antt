use Rattle.std.proofs.Common.{◌≡◌, ◌∙◌, ap, sym, Result, Ok, Err, IfOk, IsOk, List, map, [], ◌∷◌, ◌++◌}
use Rattle.std.proofs.lemmas.List.{map_push}
use Rattle.publication.specs.Views.{TicketView, answer}
use Rattle.flat_combining.proofs.Runs.{but_known}
use Rattle.flat_combining.proofs.opening.begin.Goals as goal

-- What is put behind a list is its last; the others are what they were.
joined : {V X Y E : Type 0} (items : V → List X) (f : X → Y) (P : X → Type 0) (xs : List X) (x : X) (all others : Result V E)
    → IfOk all (λ _. IsOk others) → IfOk all (λ v. IfOk others (λ made. items v ≡ items made ++ x ∷ []))
    → IfOk others (λ _. P x) → IfOk others (λ made. map f (items made) ≡ map f xs)
    → IfOk all (λ v. (y : X) × P y × (map f (items v) ≡ map f (xs ++ y ∷ [])))
joined items f P xs x (Err e) others came is its same = tt
joined items f P xs x (Ok v) (Err e) came is its same = absurd (cc came)
joined items f P xs x (Ok v) (Ok made) came is its same =
    (x, its, ap (map f) is ∙ map_push f (items made) x ∙ ap (λ ys. ys ++ f x ∷ []) same ∙ sym (map_push f xs x))

pub returns-clause-called : goal.returns-clause-called
returns-clause-called g c =
    joined (λ v. v.items) but_known (λ (last : TicketView g.row.M-Call.Denot g.row.M-Reply.Denot). (last.number ≡ c.args.own.number) × (reply : g.row.M-Reply.Denot) × (last.collected ≡ c.args.own.collected ++ answer 0 c.args.first reply ∷ []))
    c.args.others.items c.begin_others-made.new.own c.join.result c.begin_others-made.result
    c.join.ensures.came c.join.ensures.items c.begin_others-made.ensures.called c.begin_others-made.ensures.unchanged
