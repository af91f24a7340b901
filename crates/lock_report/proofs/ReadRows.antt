-- A row is read from its fields exactly if each of its parts is.
use Rattle.std.proofs.Common.{◌≡◌, ◌≢◌, ◌↔◌, ℕ, ◌+◌, ◌<◌, ◌^◌, Bool, true, false, cond, not, List, [], ◌∷◌, ◌++◌, length, map, take, drop, get_or, Option, Some, None, subst, refl, sym, ap, ◌∙◌, arith}
use Rattle.std.proofs.Math.Seq.{take-append_seam, drop-append_seam}
use Rattle.std.proofs.lemmas.Bool.{and_parts}
use Rattle.std.proofs.lemmas.List.{take-append-drop}
use Rattle.std.specs.Prelude.{◌==◌, codes, decimal}
use Rattle.std.specs.List.{list_all, position_or_len}
use Rattle.lock_modes.specs.declared.Mode.{Mode}
use Rattle.lock_modes.specs.declared.Mode.TheVariants.{NL}
use Rattle.lock_modes.specs.Codes.{name_of}
use Rattle.lock_tree.specs.Paths.{IsResource}
use Rattle.lock_tree.specs.Text.{text_of}
use Rattle.lock_rules.specs.declared.calls.Transaction.{Transaction}
use Rattle.lock_rules.specs.declared.listing.Claim.{Claim}
use Rattle.lock_rules.specs.declared.listing.ClaimKind.{ClaimKind}
use Rattle.lock_report.specs.declared.snapshot.OpenTransaction.{OpenTransaction}
use Rattle.lock_report.specs.declared.snapshot.FirstWait.{FirstWait}
use Rattle.lock_rules.specs.declared.listing.ClaimKind.TheVariants.{Held, Conversion, Fresh}
use Rattle.lock_report.specs.Claims.{word_of_kind}
use Rattle.lock_report.specs.StateRows.{fields_of_transaction, fields_of_wait, others_text, victim_field}
use Rattle.lock_report.specs.declared.reading.row.StateRow.{StateRow}
use Rattle.lock_report.specs.declared.reading.row.StateRow.TheVariants as row
use Rattle.lock_report.specs.ReadRows.{IsClaim, IsFirstWait, IsNumbered, IsOpen, IsRow, IsSession, fields_of_row}
use Rattle.lock_report.specs.inner.ReadFields.{is_plus}
use Rattle.lock_report.proofs.ReadLines.{number-plusless}

-- What is read of a text is one thing.
pub only : {X : Type 0} (o : Option X) (x y : X) → o ≡ Some x → o ≡ Some y → x ≡ y
only o x y is also = cc

-- An open transaction is read exactly if its session and its transaction are.
pub open-iff : (n : ℕ) (session number victim : List ℕ) (so : Option ℕ) (to : Option Transaction) (s : ℕ) (t : Transaction)
    → ((u : ℕ) → (so ≡ Some u) ↔ (IsSession n u × (session ≡ decimal u)))
    → ((x : Transaction) → (to ≡ Some x) ↔ (IsNumbered x × (number ≡ decimal x.number) × (victim ≡ victim_field x)))
    → so ≡ Some s → to ≡ Some t
    → (o : OpenTransaction) → (Some (record { session = s; transaction = t }) ≡ Some o)
    ↔ (IsOpen n o × (session ≡ decimal o.session) × (number ≡ decimal o.transaction.number) × (victim ≡ victim_field o.transaction))
open-iff n session number victim so to s t sessions transactions is also o = (
  λ e.
      let made : OpenTransaction = record { session = s; transaction = t } in
      let same : made ≡ o = cc in
      let a = (sessions s).0 is in
      let b = (transactions t).0 also in
      subst (λ (x : OpenTransaction). IsOpen n x × (session ≡ decimal x.session) × (number ≡ decimal x.transaction.number) × (victim ≡ victim_field x.transaction)) same
      ((a.0, b.0), a.1, b.1, b.2),
  λ h.
      let a = only so s o.session is ((sessions o.session).1 (h.0.0, h.1)) in
      let b = only to t o.transaction also ((transactions o.transaction).1 (h.0.1, h.2, h.3)) in
      λ i. Some (record { session = a i; transaction = b i }),
)

-- The first plus behind a number without one is that of what tells of others.
front-first : (ds ms : List ℕ) → list_all (λ b. not (is_plus b)) ds ≡ true → position_or_len is_plus ms ≡ 0 → position_or_len is_plus (ds ++ ms) ≡ length ds
front-first [] ms all none = none
front-first (d ∷ ds) ms all none =
    let both = and_parts (not (is_plus d)) (list_all (λ b. not (is_plus b)) ds) all in
    let next = front-first ds ms both.1 none in
    ap (λ (b : Bool). cond b (1 + position_or_len is_plus (ds ++ ms)) 0) both.0 ∙ omega (arith, next)

others-first : (k : ℕ) → position_or_len is_plus (others_text k) ≡ 0
others-first k = go (k == 0)
  where
    go : (b : Bool) → position_or_len is_plus (cond b [] (43 ∷ decimal k)) ≡ 0
    go true = refl
    go false = refl

-- A field of waits is parted at its first plus.
pub parted-at : (n : ℕ) (other : List ℕ) (p : ℕ) (w : FirstWait) → n < 2 ^ 16 → p ≡ position_or_len is_plus other → IsFirstWait n w → other ≡ decimal w.wait.other ++ others_text w.others
    → (take p other ≡ decimal w.wait.other) × (drop p other ≡ others_text w.others)
parted-at n other p w lt front h is =
    let ds = decimal w.wait.other in
    let ms = others_text w.others in
    let at : p ≡ length ds = front ∙ (ap (position_or_len is_plus) is ∙ front-first ds ms (number-plusless w.wait.other (omega (arith, lt, h.0.1.1))) (others-first w.others)) in
    ((λ i. take (at i) (is i)) ∙ take-append_seam ds ms, (λ i. drop (at i) (is i)) ∙ drop-append_seam ds ms)

-- The waits of a session are read exactly if their sessions and their number are.
pub wait-iff : (n : ℕ) (session other : List ℕ) (p : ℕ) (so uo ko : Option ℕ) (s u k : ℕ)
    → ((x : ℕ) → (so ≡ Some x) ↔ (IsSession n x × (session ≡ decimal x)))
    → ((x : ℕ) → (uo ≡ Some x) ↔ (IsSession n x × (take p other ≡ decimal x)))
    → ((x : ℕ) → (ko ≡ Some x) ↔ ((x < 2 ^ 64) × (drop p other ≡ others_text x)))
    → n < 2 ^ 16 → p ≡ position_or_len is_plus other → so ≡ Some s → uo ≡ Some u → ko ≡ Some k
    → (w : FirstWait) → (Some (record { wait = record { session = s; other = u }; others = k }) ≡ Some w)
    ↔ (IsFirstWait n w × (session ≡ decimal w.wait.session) × (other ≡ decimal w.wait.other ++ others_text w.others))
wait-iff n session other p so uo ko s u k sessions firsts others lt front is also last w = (
  λ e.
      let made : FirstWait = record { wait = record { session = s; other = u }; others = k } in
      let same : made ≡ w = cc in
      let a = (sessions s).0 is in
      let b = (firsts u).0 also in
      let c = (others k).0 last in
      subst (λ (x : FirstWait). IsFirstWait n x × (session ≡ decimal x.wait.session) × (other ≡ decimal x.wait.other ++ others_text x.others)) same
      (((a.0, b.0), c.0), a.1, sym (take-append-drop p other) ∙ (λ i. b.1 i ++ c.1 i)),
  λ h.
      let parts = parted-at n other p w lt front h.0 h.2 in
      let a = only so s w.wait.session is ((sessions w.wait.session).1 (h.0.0.0, h.1)) in
      let b = only uo u w.wait.other also ((firsts w.wait.other).1 (h.0.0.1, parts.0)) in
      let c = only ko k w.others last ((others w.others).1 (h.0.1, parts.1)) in
      λ i. Some (record { wait = record { session = a i; other = b i }; others = c i }),
)

-- A lock or a request is read exactly if its parts are.
pub claim-iff : (n : ℕ) (word session number victim resource mode : List ℕ) (ko : Option ClaimKind) (oo : Option OpenTransaction) (ro : Option (List ℕ)) (mo : Option Mode)
    (k : ClaimKind) (o : OpenTransaction) (r : List ℕ) (m : Mode)
    → ((x : ClaimKind) → (ko ≡ Some x) ↔ (word ≡ word_of_kind x))
    → ((x : OpenTransaction) → (oo ≡ Some x) ↔ (IsOpen n x × (session ≡ decimal x.session) × (number ≡ decimal x.transaction.number) × (victim ≡ victim_field x.transaction)))
    → ((x : List ℕ) → (ro ≡ Some x) ↔ (IsResource x × (resource ≡ text_of x)))
    → ((x : Mode) → (mo ≡ Some x) ↔ ((x ≢ NL) × (mode ≡ name_of x)))
    → ko ≡ Some k → oo ≡ Some o → ro ≡ Some r → mo ≡ Some m
    → (c : Claim) → (Some (record { resource = r; session = o.session; transaction = o.transaction; mode = m; kind = k }) ≡ Some c)
    ↔ (IsClaim n c × (word ≡ word_of_kind c.kind) × (session ≡ decimal c.session) × (number ≡ decimal c.transaction.number) × (victim ≡ victim_field c.transaction)
    × (resource ≡ text_of c.resource) × (mode ≡ name_of c.mode))
claim-iff n word session number victim resource mode ko oo ro mo k o r m kinds opens resources modes k-is o-is r-is m-is c = (
  λ e.
      let made : Claim = record { resource = r; session = o.session; transaction = o.transaction; mode = m; kind = k } in
      let same : made ≡ c = cc in
      let x = (kinds k).0 k-is in
      let y = (opens o).0 o-is in
      let z = (resources r).0 r-is in
      let w = (modes m).0 m-is in
      subst (λ (d : Claim). IsClaim n d × (word ≡ word_of_kind d.kind) × (session ≡ decimal d.session) × (number ≡ decimal d.transaction.number) × (victim ≡ victim_field d.transaction)
      × (resource ≡ text_of d.resource) × (mode ≡ name_of d.mode)) same
      ((y.0.0, y.0.1, z.0, w.0), x, y.1, y.2, y.3, z.1, w.1),
  λ h.
      let begun : OpenTransaction = record { session = c.session; transaction = c.transaction } in
      let x = only ko k c.kind k-is ((kinds c.kind).1 h.1) in
      let y = only oo o begun o-is ((opens begun).1 ((h.0.0, h.0.1), h.2, h.3, h.4)) in
      let z = only ro r c.resource r-is ((resources c.resource).1 (h.0.2, h.5)) in
      let w = only mo m c.mode m-is ((modes c.mode).1 (h.0.3, h.6)) in
      λ i. Some (record { resource = z i; session = (y i).session; transaction = (y i).transaction; mode = w i; kind = x i }),
)

-- Lists of seven that are equal have equal items.
pub seven : {A : Type 0} {a b c d e f g a2 b2 c2 d2 e2 f2 g2 : A} → a ∷ b ∷ c ∷ d ∷ e ∷ f ∷ g ∷ [] ≡ a2 ∷ b2 ∷ c2 ∷ d2 ∷ e2 ∷ f2 ∷ g2 ∷ []
    → (a ≡ a2) × (b ≡ b2) × (c ≡ c2) × (d ≡ d2) × (e ≡ e2) × (f ≡ f2) × (g ≡ g2)
seven is = (cc, cc, cc, cc, cc, cc, cc)

-- A row has seven fields.
pub seven-fields : (r : StateRow) → length (fields_of_row r) ≡ 7
seven-fields (row.Transaction o) = refl
seven-fields (row.Claim c) = refl
seven-fields (row.Wait w) = refl

-- The items of a list of seven.
pub seven-items : {A B : Type 0} (of : A → B) (xs : List A) (a b c d e f g : A) → length xs ≡ 7
    → a ≡ get_or xs 0 a → b ≡ get_or xs 1 b → c ≡ get_or xs 2 c → d ≡ get_or xs 3 d → e ≡ get_or xs 4 e → f ≡ get_or xs 5 f → g ≡ get_or xs 6 g
    → map of xs ≡ of a ∷ of b ∷ of c ∷ of d ∷ of e ∷ of f ∷ of g ∷ []
seven-items of [] a b c d e f g long a-is b-is c-is d-is e-is f-is g-is = absurd (omega (arith, long))
seven-items of (p ∷ []) a b c d e f g long a-is b-is c-is d-is e-is f-is g-is = absurd (omega (arith, long))
seven-items of (p ∷ q ∷ []) a b c d e f g long a-is b-is c-is d-is e-is f-is g-is = absurd (omega (arith, long))
seven-items of (p ∷ q ∷ r ∷ []) a b c d e f g long a-is b-is c-is d-is e-is f-is g-is = absurd (omega (arith, long))
seven-items of (p ∷ q ∷ r ∷ s ∷ []) a b c d e f g long a-is b-is c-is d-is e-is f-is g-is = absurd (omega (arith, long))
seven-items of (p ∷ q ∷ r ∷ s ∷ t ∷ []) a b c d e f g long a-is b-is c-is d-is e-is f-is g-is = absurd (omega (arith, long))
seven-items of (p ∷ q ∷ r ∷ s ∷ t ∷ u ∷ []) a b c d e f g long a-is b-is c-is d-is e-is f-is g-is = absurd (omega (arith, long))
seven-items of (p ∷ q ∷ r ∷ s ∷ t ∷ u ∷ v ∷ []) a b c d e f g long a-is b-is c-is d-is e-is f-is g-is =
    λ i. of (sym a-is i) ∷ of (sym b-is i) ∷ of (sym c-is i) ∷ of (sym d-is i) ∷ of (sym e-is i) ∷ of (sym f-is i) ∷ of (sym g-is i) ∷ []
seven-items of (p ∷ q ∷ r ∷ s ∷ t ∷ u ∷ v ∷ w ∷ xs) a b c d e f g long a-is b-is c-is d-is e-is f-is g-is = absurd (omega (arith, long))

-- The words of a transaction and a wait are those of no claim.
no-transaction : (k : ClaimKind) → codes "transaction" ≡ word_of_kind k → ⊥
no-transaction Held e = cc
no-transaction Conversion e = cc
no-transaction Fresh e = cc

no-wait : (k : ClaimKind) → codes "waits" ≡ word_of_kind k → ⊥
no-wait Held e = let bad : 119 ≡ 104 = ap (λ (l : List ℕ). get_or l 0 0) e in omega (arith, bad)
no-wait Conversion e = let bad : 119 ≡ 99 = ap (λ (l : List ℕ). get_or l 0 0) e in omega (arith, bad)
no-wait Fresh e = let bad : 119 ≡ 102 = ap (λ (l : List ℕ). get_or l 0 0) e in omega (arith, bad)

-- Fields that are those of an open transaction are read as its row.
pub row-of-open : (n : ℕ) (fields : List (List ℕ)) (oo : Option OpenTransaction) (o : OpenTransaction)
    → ((x : OpenTransaction) → (oo ≡ Some x) ↔ (IsOpen n x × (fields ≡ fields_of_transaction x)))
    → oo ≡ Some o → (r : StateRow) → (Some (row.Transaction o) ≡ Some r) ↔ (IsRow n r × (fields ≡ fields_of_row r))
row-of-open n fields oo o opens is r = (
  λ e. let same : row.Transaction o ≡ r = cc in subst (λ (x : StateRow). IsRow n x × (fields ≡ fields_of_row x)) same ((opens o).0 is),
  λ h. go r h,
)
  where
    go : (r : StateRow) → IsRow n r × (fields ≡ fields_of_row r) → Some (row.Transaction o) ≡ Some r
    go (row.Transaction x) h = let same = only oo o x is ((opens x).1 h) in λ i. Some (row.Transaction (same i))
    go (row.Claim c) h = absurd (no-transaction c.kind (seven (sym ((opens o).0 is).1 ∙ h.1)).0)
    go (row.Wait w) h = let bad : codes "transaction" ≡ codes "waits" = (seven (sym ((opens o).0 is).1 ∙ h.1)).0 in absurd cc

-- Fields that are those of a wait, and of no open transaction, are read as its row.
pub row-of-wait : (n : ℕ) (fields : List (List ℕ)) (oo : Option OpenTransaction) (wo : Option FirstWait) (w : FirstWait)
    → ((x : OpenTransaction) → (oo ≡ Some x) ↔ (IsOpen n x × (fields ≡ fields_of_transaction x)))
    → ((x : FirstWait) → (wo ≡ Some x) ↔ (IsFirstWait n x × (fields ≡ fields_of_wait x)))
    → oo ≡ None → wo ≡ Some w → (r : StateRow) → (Some (row.Wait w) ≡ Some r) ↔ (IsRow n r × (fields ≡ fields_of_row r))
row-of-wait n fields oo wo w opens waits none is r = (
  λ e. let same : row.Wait w ≡ r = cc in subst (λ (x : StateRow). IsRow n x × (fields ≡ fields_of_row x)) same ((waits w).0 is),
  λ h. go r h,
)
  where
    go : (r : StateRow) → IsRow n r × (fields ≡ fields_of_row r) → Some (row.Wait w) ≡ Some r
    go (row.Transaction x) h = let read = (opens x).1 h in absurd cc
    go (row.Claim c) h = absurd (no-wait c.kind (seven (sym ((waits w).0 is).1 ∙ h.1)).0)
    go (row.Wait x) h = let same = only wo w x is ((waits x).1 h) in λ i. Some (row.Wait (same i))
