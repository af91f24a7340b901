-- Victims that are chosen one after another fall by the numbers of their transactions.
use Rattle.std.proofs.Common.{◌≡◌, ℕ, ◌<◌, ◌≤◌, Bool, true, false, cond, eqb, inl, inr, List, [], ◌∷◌, Option, Some, None, refl, sym, ◌∙◌, ap, arith}
use Rattle.std.proofs.lemmas.Bool.{cases_Bool}
use Rattle.std.proofs.lemmas.Bool.Decides.{nat_tests, Decides-eqb}
use Rattle.lock_rules.specs.declared.calls.Transaction.{Transaction}
use Rattle.lock_rules.specs.State.{State, is_open, number_in, number_of}
use Rattle.lock_rules.specs.Waits.{doom, after_victim}
use Rattle.lock_rules.specs.Laws.{AreVictims}
use Rattle.lock_rules.specs.Effects.{IsAmong}
use Rattle.lock_rules.specs.Sound.{IsNumbered}
use Rattle.lock_rules.proofs.Owners.{victim-numbered}
use Rattle.lock_rules.proofs.Victims.{on_circle-open}
use Rattle.lock_rules.proofs.KeptCycles.{cancelled-cycle, victims-on}

-- lists that fall

-- the age of each is below the ages of those before it
abbrev pub IsFalling : (ℕ → ℕ) → List ℕ → Type 0
IsFalling age [] = Unit {0}
IsFalling age (v ∷ vs) = ((u : ℕ) → IsAmong u vs → age u < age v) × IsFalling age vs

-- equal ages fall alike
falling-alike : (age other : ℕ → ℕ) (vs : List ℕ) → ((u : ℕ) → age u ≡ other u) → IsFalling age vs → IsFalling other vs
falling-alike age other [] same f = tt
falling-alike age other (v ∷ vs) same f = (λ u i. omega (arith, f.0 u i, same u, same v), falling-alike age other vs same f.1)

-- two lists that fall and have the same members are equal
pub same-falling : (age : ℕ → ℕ) (vs ws : List ℕ) → IsFalling age vs → IsFalling age ws → ((u : ℕ) → IsAmong u vs → IsAmong u ws) → ((u : ℕ) → IsAmong u ws → IsAmong u vs) → vs ≡ ws
same-falling age [] [] f g to from = refl
same-falling age [] (w ∷ ws) f g to from = absurd (from w (inl refl))
same-falling age (v ∷ vs) [] f g to from = absurd (to v (inl refl))
same-falling age (v ∷ vs) (w ∷ ws) f g to from =
    let first = heads (to v (inl refl)) (from w (inl refl)) in
    let rest = same-falling age vs ws f.1 g.1 (λ u i. later u (ap age first) (f.0 u i) (to u (inr i))) (λ u i. sooner u (ap age first) (g.0 u i) (from u (inr i))) in
    ap (λ (x : ℕ). x ∷ vs) first ∙ ap (λ (xs : List ℕ). w ∷ xs) rest
  where
    heads : IsAmong v (w ∷ ws) → IsAmong w (v ∷ vs) → v ≡ w
    heads (inl e) k = e
    heads (inr i) (inl e) = sym e
    heads (inr i) (inr j) = let a = g.0 v i in let b = f.0 w j in absurd (omega (arith, a, b))

    later : (u : ℕ) → age v ≡ age w → age u < age v → IsAmong u (w ∷ ws) → IsAmong u ws
    later u e lt (inl k) = let s = ap age k in absurd (omega (arith, e, lt, s))
    later u e lt (inr i) = i

    sooner : (u : ℕ) → age v ≡ age w → age u < age w → IsAmong u (v ∷ vs) → IsAmong u vs
    sooner u e lt (inl k) = let s = ap age k in absurd (omega (arith, e, lt, s))
    sooner u e lt (inr i) = i

-- the numbers of transactions

-- a doom changes no number
doomed-number : (o : Option Transaction) → number_in (doom o) ≡ number_in o
doomed-number None = refl
doomed-number (Some x) = refl

-- a victim changes no number
victim-number : (v : ℕ) (st : State) (u : ℕ) → number_of (after_victim v st) u ≡ number_of st u
victim-number v st u = elim (cases_Bool (eqb u v)) [
  | inl y ↦ (let e = (Decides-eqb u v).0 y in ap (λ (b : Bool). number_in (cond b (doom (st.begun v)) (st.begun u))) y ∙ (doomed-number (st.begun v) ∙ ap (λ (i : ℕ). number_of st i) (sym e)))
  | inr n ↦ ap (λ (b : Bool). number_in (cond b (doom (st.begun v)) (st.begun u))) n
]

-- victims one after another

-- a lower or equal number of another session is lower
lower : (st : State) → IsNumbered st → (u v : ℕ) → is_open st u ≡ true → is_open st v ≡ true → eqb u v ≡ false → number_of st u ≤ number_of st v → number_of st u < number_of st v
lower st i u v o p n le = elim (cases_Bool (eqb (number_of st u) (number_of st v))) [
  | inl y ↦ (let e = i.apart u v o p ((Decides-eqb (number_of st u) (number_of st v)).0 y) in absurd (grind (arith, nat_tests, e, n)))
  | inr m ↦ grind (arith, nat_tests, m, le)
]

-- the numbers of victims that are chosen one after another fall
pub victims-fall : (s : ℕ) (vs : List ℕ) (st last : State) → IsNumbered st → AreVictims s vs st last → IsFalling (number_of st) vs
victims-fall s [] st last i a = tt
victims-fall s (v ∷ vs) st last i a = (
  λ u k. (let c = cancelled-cycle v st.table s u (victims-on s vs (after_victim v st) last a.1 u k) in lower st i u v (on_circle-open st s u i c.0) (on_circle-open st s v i a.0.on_circle) c.1 (a.0.youngest u c.0)),
  falling-alike (number_of (after_victim v st)) (number_of st) vs (victim-number v st) (victims-fall s vs (after_victim v st) last (victim-numbered v st i) a.1),
)

-- victims change no number
pub victims-number : (s : ℕ) (vs : List ℕ) (st last : State) → AreVictims s vs st last → (u : ℕ) → number_of last u ≡ number_of st u
victims-number s [] st last a u = ap (λ (x : State). number_of x u) a.1
victims-number s (v ∷ vs) st last a u = victims-number s vs (after_victim v st) last a.1 u ∙ victim-number v st u
