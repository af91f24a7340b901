-- The rows of a state come in their order: transactions, then locks and requests, then waits.
use Rattle.std.proofs.Common.{◌≡◌, ℕ, ◌<◌, ◌≤◌, true, false, List, [], ◌∷◌, ◌++◌, map, refl, sym, ap, ◌∙◌, arith, subst, append_assoc, append-nil}
use Rattle.std.specs.List.{AllByRecursion}
use Rattle.std.proofs.lemmas.List.Elements.{recursion_from_All}
use Rattle.lock_rules.specs.declared.listing.Claim.{Claim}
use Rattle.lock_report.specs.declared.snapshot.OpenTransaction.{OpenTransaction}
use Rattle.lock_report.specs.declared.snapshot.FirstWait.{FirstWait}
use Rattle.lock_report.specs.declared.reading.row.StateRow.{StateRow}
use Rattle.lock_report.specs.declared.reading.row.StateRow.TheVariants as row
use Rattle.lock_report.specs.ReadStates.{has_request, has_transaction, rows_in, IsLate}

-- The number of a kind of rows, by their order.
abbrev rank : StateRow → ℕ
rank (row.Transaction o) = 0
rank (row.Claim c) = 1
rank (row.Wait w) = 2

-- The ranks rise from q on.
abbrev Rise : ℕ → List StateRow → Type 0
Rise q [] = Unit {0}
Rise q (r ∷ rs) = (q ≤ rank r) × Rise (rank r) rs

lower : (p q : ℕ) (rs : List StateRow) → p ≤ q → Rise q rs → Rise p rs
lower p q [] le h = tt
lower p q (r ∷ rs) le h = (omega (arith, le, h.0), h.1)

waits-rise : (ws : List FirstWait) → Rise 2 (map row.Wait ws)
waits-rise [] = tt
waits-rise (w ∷ ws) = (omega arith, waits-rise ws)

claims-rise : (cs : List Claim) (ws : List FirstWait) → Rise 1 (map row.Claim cs ++ map row.Wait ws)
claims-rise [] ws = lower 1 2 (map row.Wait ws) (omega arith) (waits-rise ws)
claims-rise (c ∷ cs) ws = (omega arith, claims-rise cs ws)

rows-rise : (os : List OpenTransaction) (cs : List Claim) (ws : List FirstWait) → Rise 0 (rows_in os cs ws)
rows-rise [] cs ws = lower 0 1 (map row.Claim cs ++ map row.Wait ws) (omega arith) (claims-rise cs ws)
rows-rise (o ∷ os) cs ws = (omega arith, rows-rise os cs ws)

-- Behind a row no row has a lower rank.
first-below : (q : ℕ) (xs : List StateRow) (y : StateRow) (rest : List StateRow) → Rise q (xs ++ y ∷ rest) → q ≤ rank y
first-below q [] y rest h = h.0
first-below q (x ∷ xs) y rest h = let more = first-below (rank x) xs y rest h.1 in omega (arith, h.0, more)

below : (q : ℕ) (xs ys : List StateRow) (x y : StateRow) (rest : List StateRow) → Rise q ((xs ++ x ∷ ys) ++ y ∷ rest) → rank x ≤ rank y
below q [] ys x y rest h = first-below (rank x) ys y rest h.1
below q (z ∷ xs) ys x y rest h = below (rank z) xs ys x y rest h.1

-- So a row that has a row of a higher rank before it is late.
late-behind : (rows xs ys : List StateRow) (x y : StateRow) → rows ≡ xs ++ x ∷ ys → (rank x ≤ rank y → ⊥) → IsLate y rows
late-behind rows xs ys x y is higher = λ os cs ws rest owned same.
    let rises : Rise 0 ((xs ++ x ∷ ys) ++ y ∷ rest) = subst (Rise 0) (sym same ∙ ap (λ (l : List StateRow). l ++ y ∷ rest) is) (rows-rise os cs ws) in
    higher (below 0 xs ys x y rest rises)

-- A transaction is late behind a lock, a request or a wait.
pub late-open : (os : List OpenTransaction) (cs : List Claim) (ws : List FirstWait) (o : OpenTransaction) → (cs ≡ [] → ws ≡ [] → ⊥) → IsLate (row.Transaction o) (rows_in os cs ws)
late-open os [] [] o some = absurd (some refl refl)
late-open os [] (w ∷ ws) o some = late-behind (rows_in os [] (w ∷ ws)) (map row.Transaction os) (map row.Wait ws) (row.Wait w) (row.Transaction o) refl (λ le. omega (arith, le))
late-open os (c ∷ cs) ws o some =
    late-behind (rows_in os (c ∷ cs) ws) (map row.Transaction os) (map row.Claim cs ++ map row.Wait ws) (row.Claim c) (row.Transaction o) refl (λ le. omega (arith, le))

-- A lock or a request is late behind a wait.
pub late-claim : (os : List OpenTransaction) (cs : List Claim) (ws : List FirstWait) (c : Claim) → (ws ≡ [] → ⊥) → IsLate (row.Claim c) (rows_in os cs ws)
late-claim os cs [] c some = absurd (some refl)
late-claim os cs (w ∷ ws) c some =
    late-behind (rows_in os cs (w ∷ ws)) (map row.Transaction os ++ map row.Claim cs) (map row.Wait ws) (row.Wait w) (row.Claim c)
    (sym (append_assoc (map row.Transaction os) (map row.Claim cs) (row.Wait w ∷ map row.Wait ws))) (λ le. omega (arith, le))

-- The list begins with no row of rank q or less.
abbrev Above : ℕ → List StateRow → Type 0
Above q [] = Unit {0}
Above q (r ∷ rs) = q < rank r

claims-above : (cs : List Claim) (xs : List StateRow) → Above 0 xs → Above 0 (map row.Claim cs ++ xs)
claims-above [] xs h = h
claims-above (c ∷ cs) xs h = omega arith

waits-above : (q : ℕ) (ws : List FirstWait) (xs : List StateRow) → q < 2 → Above q xs → Above q (map row.Wait ws ++ xs)
waits-above q [] xs lt h = h
waits-above q (w ∷ ws) xs lt h = lt

last-above : (q : ℕ) (ws : List FirstWait) → q < 2 → Above q (map row.Wait ws)
last-above q [] lt = tt
last-above q (w ∷ ws) lt = lt

-- The transactions in front of a row of a higher rank are those of the whole state.
same-opens : (ns os : List OpenTransaction) (xs ys : List StateRow) → Above 0 xs → Above 0 ys → map row.Transaction ns ++ xs ≡ map row.Transaction os ++ ys → (ns ≡ os) × (xs ≡ ys)
same-opens [] [] xs ys a b e = (refl, e)
same-opens [] (o ∷ os) xs ys a b e = let bad : 0 < 0 = subst (Above 0) e a in absurd (omega (arith, bad))
same-opens (n ∷ ns) [] xs ys a b e = let bad : 0 < 0 = subst (Above 0) (sym e) b in absurd (omega (arith, bad))
same-opens (n ∷ ns) (o ∷ os) xs ys a b e =
    let head : n ≡ o = cc in
    let more : map row.Transaction ns ++ xs ≡ map row.Transaction os ++ ys = cc in
    let same = same-opens ns os xs ys a b more in
    (λ i. head i ∷ same.0 i, same.1)

-- So are the claims in front of a wait.
same-claims : (bs cs : List Claim) (xs ys : List StateRow) → Above 1 xs → Above 1 ys → map row.Claim bs ++ xs ≡ map row.Claim cs ++ ys → (bs ≡ cs) × (xs ≡ ys)
same-claims [] [] xs ys a b e = (refl, e)
same-claims [] (c ∷ cs) xs ys a b e = let bad : 1 < 1 = subst (Above 1) e a in absurd (omega (arith, bad))
same-claims (d ∷ bs) [] xs ys a b e = let bad : 1 < 1 = subst (Above 1) (sym e) b in absurd (omega (arith, bad))
same-claims (d ∷ bs) (c ∷ cs) xs ys a b e =
    let head : d ≡ c = cc in
    let more : map row.Claim bs ++ xs ≡ map row.Claim cs ++ ys = cc in
    let same = same-claims bs cs xs ys a b more in
    (λ i. head i ∷ same.0 i, same.1)

-- What holds of all claims holds of one among their rows, and so of waits.
of-claim : (P : Claim → Type 0) (bs cs : List Claim) (ws : List FirstWait) (c : Claim) (rest : List StateRow) → map row.Claim bs ++ row.Claim c ∷ rest ≡ map row.Claim cs ++ map row.Wait ws → AllByRecursion P cs → P c
of-claim P [] [] ws c rest e all = let bad : 1 < 1 = subst (Above 1) (sym e) (last-above 1 ws (omega arith)) in absurd (omega (arith, bad))
of-claim P (b ∷ bs) [] ws c rest e all = let bad : 1 < 1 = subst (Above 1) (sym e) (last-above 1 ws (omega arith)) in absurd (omega (arith, bad))
of-claim P [] (d ∷ cs) ws c rest e all = let same : d ≡ c = cc in subst P same all.0
of-claim P (b ∷ bs) (d ∷ cs) ws c rest e all = let more : map row.Claim bs ++ row.Claim c ∷ rest ≡ map row.Claim cs ++ map row.Wait ws = cc in of-claim P bs cs ws c rest more all.1

of-wait : (P : FirstWait → Type 0) (vs ws : List FirstWait) (w : FirstWait) (rest : List StateRow) → map row.Wait vs ++ row.Wait w ∷ rest ≡ map row.Wait ws → AllByRecursion P ws → P w
of-wait P [] [] w rest e all = absurd cc
of-wait P [] (x ∷ ws) w rest e all = let same : x ≡ w = cc in subst P same all.0
of-wait P (v ∷ vs) [] w rest e all = absurd cc
of-wait P (v ∷ vs) (x ∷ ws) w rest e all = let more : map row.Wait vs ++ row.Wait w ∷ rest ≡ map row.Wait ws = cc in of-wait P vs ws w rest more all.1

-- A lock or a request of a session that has no open transaction is late.
pub late-unopened : (os : List OpenTransaction) (cs : List Claim) (ws : List FirstWait) (c : Claim) → has_transaction os c.session ≡ false → IsLate (row.Claim c) (rows_in os cs ws)
late-unopened os cs (w ∷ ws) c none = late-claim os cs (w ∷ ws) c (λ (e : w ∷ ws ≡ []). absurd cc)
late-unopened os cs [] c none = λ ns bs vs rest owned same.
    let parts = ap (λ (l : List StateRow). (map row.Transaction os ++ l) ++ row.Claim c ∷ rest) (append-nil (map row.Claim cs)) ∙ append_assoc (map row.Transaction os) (map row.Claim cs) (row.Claim c ∷ rest) in
    let opens = same-opens os ns (map row.Claim cs ++ row.Claim c ∷ rest) (map row.Claim bs ++ map row.Wait vs)
    (claims-above cs (row.Claim c ∷ rest) (omega arith)) (claims-above bs (map row.Wait vs) (last-above 0 vs (omega arith))) (sym parts ∙ same) in
    let P = λ (x : Claim). has_transaction ns x.session ≡ true in
    let opened : has_transaction os c.session ≡ true = ap (λ (l : List OpenTransaction). has_transaction l c.session) opens.0 ∙ of-claim P cs bs vs c rest opens.1 (recursion_from_All P bs owned.opened) in
    cc

-- A wait of a session that has no request is late.
pub late-wait : (os : List OpenTransaction) (cs : List Claim) (ws : List FirstWait) (w : FirstWait) → has_request cs w.wait.session ≡ false → IsLate (row.Wait w) (rows_in os cs ws)
late-wait os cs ws w none = λ ns bs vs rest owned same.
    let back = map row.Wait ws ++ row.Wait w ∷ rest in
    let parts = append_assoc (map row.Transaction os) (map row.Claim cs ++ map row.Wait ws) (row.Wait w ∷ rest)
    ∙ ap (λ (l : List StateRow). map row.Transaction os ++ l) (append_assoc (map row.Claim cs) (map row.Wait ws) (row.Wait w ∷ rest)) in
    let opens = same-opens os ns (map row.Claim cs ++ back) (map row.Claim bs ++ map row.Wait vs)
    (claims-above cs back (waits-above 0 ws (row.Wait w ∷ rest) (omega arith) (omega arith))) (claims-above bs (map row.Wait vs) (last-above 0 vs (omega arith))) (sym parts ∙ same) in
    let claims = same-claims cs bs back (map row.Wait vs) (waits-above 1 ws (row.Wait w ∷ rest) (omega arith) (omega arith)) (last-above 1 vs (omega arith)) opens.1 in
    let P = λ (x : FirstWait). has_request bs x.wait.session ≡ true in
    let asked : has_request cs w.wait.session ≡ true = ap (λ (l : List Claim). has_request l w.wait.session) claims.0 ∙ of-wait P ws vs w rest claims.1 (recursion_from_All P vs owned.requested) in
    cc
