-- The lines of a queue, claim by claim.
use Rattle.std.proofs.Common.{◌≡◌, ℕ, ◌+◌, ◌<◌, ◌≤◌, Bool, true, false, cond, List, [], ◌∷◌, ◌++◌, take, get_or, length, refl, ap, sym, ◌∙◌, append_assoc, arith}
use Rattle.std.proofs.lemmas.List.{append-nil}
use Rattle.lock_rules.specs.declared.listing.Claim.{Claim}
use Rattle.lock_report.specs.Claims.{is_request_kind}
use Rattle.lock_report.specs.LocksDot.{numbered_line, queue_lines}
use Rattle.lock_report.proofs.Pieces.{with_next}

-- The number behind that of the last request among these claims, which begin with `number`.
abbrev pub number_after : ℕ → List Claim → ℕ
number_after number [] = number
number_after number (c ∷ cs) = cond (is_request_kind c.kind) (number_after (number + 1) cs) (number_after number cs)

-- The line of a claim with this number, nothing if it is no request.
abbrev pub piece : ℕ → Claim → List ℕ
piece number c = cond (is_request_kind c.kind) (numbered_line number c) []

-- One claim more adds its line.
lines_push : (n : ℕ) (cs : List Claim) (c : Claim) → queue_lines n (cs ++ (c ∷ [])) ≡ queue_lines n cs ++ piece (number_after n cs) c
lines_push n [] c = go (is_request_kind c.kind)
  where
    go : (b : Bool) → cond b (numbered_line n c ++ []) [] ≡ cond b (numbered_line n c) []
    go true = append-nil (numbered_line n c)
    go false = refl
lines_push n (x ∷ cs) c = go (is_request_kind x.kind) (lines_push (n + 1) cs c) (lines_push n cs c)
  where
    go : (b : Bool) → queue_lines (n + 1) (cs ++ (c ∷ [])) ≡ queue_lines (n + 1) cs ++ piece (number_after (n + 1) cs) c
        → queue_lines n (cs ++ (c ∷ [])) ≡ queue_lines n cs ++ piece (number_after n cs) c
        → cond b (numbered_line n x ++ queue_lines (n + 1) (cs ++ (c ∷ []))) (queue_lines n (cs ++ (c ∷ [])))
        ≡ cond b (numbered_line n x ++ queue_lines (n + 1) cs) (queue_lines n cs) ++ piece (cond b (number_after (n + 1) cs) (number_after n cs)) c
    go true one other = ap (λ (t : List ℕ). numbered_line n x ++ t) one ∙ sym (append_assoc (numbered_line n x) (queue_lines (n + 1) cs) (piece (number_after (n + 1) cs) c))
    go false one other = other

-- One request more raises the number, another claim doesn't.
number_push : (n : ℕ) (cs : List Claim) (c : Claim) → number_after n (cs ++ (c ∷ [])) ≡ cond (is_request_kind c.kind) (number_after n cs + 1) (number_after n cs)
number_push n [] c = refl
number_push n (x ∷ cs) c = go (is_request_kind x.kind) (number_push (n + 1) cs c) (number_push n cs c)
  where
    go : (b : Bool) → number_after (n + 1) (cs ++ (c ∷ [])) ≡ cond (is_request_kind c.kind) (number_after (n + 1) cs + 1) (number_after (n + 1) cs)
        → number_after n (cs ++ (c ∷ [])) ≡ cond (is_request_kind c.kind) (number_after n cs + 1) (number_after n cs)
        → cond b (number_after (n + 1) (cs ++ (c ∷ []))) (number_after n (cs ++ (c ∷ [])))
        ≡ cond (is_request_kind c.kind) (cond b (number_after (n + 1) cs) (number_after n cs) + 1) (cond b (number_after (n + 1) cs) (number_after n cs))
    go true one other = one
    go false one other = other

-- A number is no greater than the one it began with and the count of the claims.
pub number_few : (n : ℕ) (cs : List Claim) → number_after n cs ≤ n + length cs
number_few n [] = omega arith
number_few n (x ∷ cs) = go (is_request_kind x.kind) (number_few (n + 1) cs) (number_few n cs)
  where
    go : (b : Bool) → number_after (n + 1) cs ≤ n + 1 + length cs → number_after n cs ≤ n + length cs → cond b (number_after (n + 1) cs) (number_after n cs) ≤ n + length (x ∷ cs)
    go true one other = omega (arith, one)
    go false one other = omega (arith, other)

-- After the next claim, which is a request, its number is the last.
pub next_number : (cs : List Claim) (i ahead : ℕ) (c : Claim) → i < length cs → c ≡ get_or cs i c → is_request_kind c.kind ≡ true → ahead + 1 ≡ number_after 1 (take i cs)
    → ahead + 1 + 1 ≡ number_after 1 (take (i + 1) cs)
next_number cs i ahead c lt is waits so_far =
    ap (λ (n : ℕ). n + 1) so_far
    ∙ ap (λ (b : Bool). cond b (number_after 1 (take i cs) + 1) (number_after 1 (take i cs))) (sym waits)
    ∙ sym (number_push 1 (take i cs) c) ∙ sym (ap (λ (xs : List Claim). number_after 1 xs) (with_next cs i c lt is))

-- The same if it is none.
pub same_number : (cs : List Claim) (i ahead : ℕ) (c : Claim) → i < length cs → c ≡ get_or cs i c → is_request_kind c.kind ≡ false → ahead + 1 ≡ number_after 1 (take i cs)
    → ahead + 1 ≡ number_after 1 (take (i + 1) cs)
same_number cs i ahead c lt is other so_far =
    so_far
    ∙ ap (λ (b : Bool). cond b (number_after 1 (take i cs) + 1) (number_after 1 (take i cs))) (sym other)
    ∙ sym (number_push 1 (take i cs) c) ∙ sym (ap (λ (xs : List Claim). number_after 1 xs) (with_next cs i c lt is))

-- After the line of the next claim, which is a request, the text so far is that of one claim more.
pub next_line : (cs : List Claim) (i ahead : ℕ) (c : Claim) (start out out2 : List ℕ) → i < length cs → c ≡ get_or cs i c → is_request_kind c.kind ≡ true
    → ahead + 1 ≡ number_after 1 (take i cs) → out ≡ start ++ queue_lines 1 (take i cs) → out2 ≡ out ++ numbered_line (ahead + 1) c
    → out2 ≡ start ++ queue_lines 1 (take (i + 1) cs)
next_line cs i ahead c start out out2 lt is waits numbered so_far line =
    let xs : List Claim = take i cs in
    line ∙ ap (λ (t : List ℕ). t ++ numbered_line (ahead + 1) c) so_far ∙ append_assoc start (queue_lines 1 xs) (numbered_line (ahead + 1) c)
    ∙ ap (λ (t : List ℕ). start ++ t) (ap (λ (n : ℕ). queue_lines 1 xs ++ numbered_line n c) numbered
    ∙ ap (λ (b : Bool). queue_lines 1 xs ++ cond b (numbered_line (number_after 1 xs) c) []) (sym waits)
    ∙ sym (lines_push 1 xs c) ∙ sym (ap (λ (ys : List Claim). queue_lines 1 ys) (with_next cs i c lt is)))

-- The same if it is none, and nothing was written.
pub no_line : (cs : List Claim) (i : ℕ) (c : Claim) (start out : List ℕ) → i < length cs → c ≡ get_or cs i c → is_request_kind c.kind ≡ false
    → out ≡ start ++ queue_lines 1 (take i cs) → out ≡ start ++ queue_lines 1 (take (i + 1) cs)
no_line cs i c start out lt is other so_far =
    let xs : List Claim = take i cs in
    so_far ∙ ap (λ (t : List ℕ). start ++ t) (sym (append-nil (queue_lines 1 xs))
    ∙ ap (λ (b : Bool). queue_lines 1 xs ++ cond b (numbered_line (number_after 1 xs) c) []) (sym other)
    ∙ sym (lines_push 1 xs c) ∙ sym (ap (λ (ys : List Claim). queue_lines 1 ys) (with_next cs i c lt is)))
