-- What is told of a listing from a claim on, claim by claim.
use Rattle.std.proofs.Common.{◌≡◌, ℕ, ◌+◌, ◌-◌, ◌<◌, ◌≤◌, List, [], ◌∷◌, ◌++◌, Option, Some, drop, take, get_or, length, ap, sym, ◌∙◌, append_assoc}
use Rattle.std.proofs.lemmas.List.{append-nil, drop_all, drop_more}
use Rattle.lock_rules.specs.declared.listing.Claim.{Claim}
use Rattle.lock_report.proofs.Sessions.{rest_is}

-- What is told from the next claim on is what `at` tells of it, and then what is told from the claim behind it on.
pub next_suffix : {X : Type 0} (at : Option (List ℕ) → List ℕ → List Claim → List X) (behind : Option (List ℕ) → List Claim → List X) (cs : List Claim) (i : ℕ) (d : Claim) (last : Option (List ℕ)) (start out out2 : List X)
    → ((x : Claim) (xs : List Claim) → behind last (x ∷ xs) ≡ at last x.resource (x ∷ xs) ++ behind (Some x.resource) xs)
    → i < length cs → out2 ≡ out ++ at last (get_or cs i d).resource (take (length cs - i) (drop i cs)) → out ++ behind last (drop i cs) ≡ start
    → out2 ++ behind (Some (get_or cs i d).resource) (drop (i + 1) cs) ≡ start
next_suffix {X} at behind cs i d last start out out2 unfolds lt more so_far =
    let c : Claim = get_or cs i d in
    let rest : List Claim = drop (i + 1) cs in
    let front : drop i cs ≡ c ∷ rest = drop_more cs i d lt in
    ap (λ (t : List X). t ++ behind (Some c.resource) rest) (more ∙ ap (λ (xs : List Claim). out ++ at last c.resource xs) (sym (rest_is i cs) ∙ front))
    ∙ append_assoc out (at last c.resource (c ∷ rest)) (behind (Some c.resource) rest)
    ∙ ap (λ (t : List X). out ++ t) (sym (unfolds c rest)) ∙ ap (λ (xs : List Claim). out ++ behind last xs) (sym front) ∙ so_far

-- Behind the last claim, nothing is left to be told.
pub no_suffix : {X : Type 0} (behind : Option (List ℕ) → List Claim → List X) (cs : List Claim) (i : ℕ) (last : Option (List ℕ)) (start out : List X)
    → behind last [] ≡ [] → length cs ≤ i → out ++ behind last (drop i cs) ≡ start → out ≡ start
no_suffix {X} behind cs i last start out none end so_far =
    sym (append-nil out) ∙ ap (λ (t : List X). out ++ t) (sym none) ∙ ap (λ (xs : List Claim). out ++ behind last xs) (sym (drop_all i cs end)) ∙ so_far
