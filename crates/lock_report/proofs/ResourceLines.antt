-- The lines of the resources, claim by claim.
use Rattle.std.proofs.Common.{◌≡◌, ℕ, ◌+◌, ◌<◌, List, [], ◌∷◌, ◌++◌, Option, Some, None, take, get_or, length, refl, ap, sym, ◌∙◌, append_assoc, rules}
use Rattle.std.proofs.lemmas.List.{append-nil}
use Rattle.lock_rules.specs.declared.listing.Claim.{Claim}
use Rattle.lock_report.specs.StateText.{resource_heading, line_of_resource, resource_lines}
use Rattle.lock_report.proofs.Pieces.{with_next}

-- The resource that was shown last, after these claims.
abbrev pub last_shown : Option (List ℕ) → List Claim → Option (List ℕ)
last_shown last [] = last
last_shown last (c ∷ cs) = last_shown (Some c.resource) cs

-- One claim more at the end of the list shows its resource as the last.
last_push : (last : Option (List ℕ)) (cs : List Claim) (c : Claim) → last_shown last (cs ++ (c ∷ [])) ≡ Some c.resource
last_push last [] c = refl
last_push last (x ∷ cs) c = last_push (Some x.resource) cs c

-- One claim more adds its heading and its line.
lines_push : (last : Option (List ℕ)) (cs : List Claim) (c : Claim) → resource_lines last (cs ++ (c ∷ [])) ≡ resource_lines last cs ++ (resource_heading (last_shown last cs) c.resource ++ line_of_resource c)
lines_push last [] c = search (rules, append-nil)
lines_push last (x ∷ cs) c =
    let front : List ℕ = resource_heading last x.resource ++ line_of_resource x in
    ap (λ (t : List ℕ). front ++ t) (lines_push (Some x.resource) cs c)
    ∙ sym (append_assoc front (resource_lines (Some x.resource) cs) (resource_heading (last_shown (Some x.resource) cs) c.resource ++ line_of_resource c))

-- After the next claim, its resource is the last shown.
pub next_last : (cs : List Claim) (i : ℕ) (c : Claim) → i < length cs → c ≡ get_or cs i c → Some c.resource ≡ last_shown None (take (i + 1) cs)
next_last cs i c lt is = sym (ap (λ (xs : List Claim). last_shown None xs) (with_next cs i c lt is) ∙ last_push None (take i cs) c)

-- After the heading and the line of the next claim, the text so far is that of one claim more.
pub next_claim : (cs : List Claim) (i : ℕ) (c : Claim) (last : Option (List ℕ)) (start out mid out2 : List ℕ) → i < length cs → c ≡ get_or cs i c → last ≡ last_shown None (take i cs)
    → out ≡ start ++ resource_lines None (take i cs) → mid ≡ out ++ resource_heading last c.resource → out2 ≡ mid ++ line_of_resource c
    → out2 ≡ start ++ resource_lines None (take (i + 1) cs)
next_claim cs i c last start out mid out2 lt is shown so_far heading line =
    let xs : List Claim = take i cs in
    let head : List ℕ = resource_heading (last_shown None xs) c.resource in
    line ∙ ap (λ (t : List ℕ). t ++ line_of_resource c) (heading ∙ ap (λ (t : List ℕ). t ++ resource_heading last c.resource) so_far ∙ ap (λ (o : Option (List ℕ)). (start ++ resource_lines None xs) ++ resource_heading o c.resource) shown)
    ∙ append_assoc (start ++ resource_lines None xs) head (line_of_resource c)
    ∙ append_assoc start (resource_lines None xs) (head ++ line_of_resource c)
    ∙ ap (λ (t : List ℕ). start ++ t) (sym (lines_push None xs c) ∙ sym (ap (λ (ys : List Claim). resource_lines None ys) (with_next cs i c lt is)))
