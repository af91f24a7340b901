-- Holders in order of session number: the place of a session, and modes that fit.
use Rattle.std.proofs.Common.{◌≡◌, ℕ, zero, suc, ◌+◌, ◌<◌, ◌≤◌, Bool, true, false, cond, not, eqb, ◌&&◌, ◌||◌, inl, inr, List, [], ◌∷◌, ◌++◌, length, get_or, take, drop, insert, remove, set, map, Some, None, is_some, nat_lt, refl, sym, ◌∙◌, ap, arith}
use Rattle.std.proofs.Math.Bool.{and_assoc}
use Rattle.std.proofs.lemmas.Bool.Decides.{nat_tests, Decides-eqb}
use Rattle.std.proofs.lemmas.Bool.{and_parts, and_from, cases_Bool, cases_lt}
use Rattle.std.proofs.lemmas.List.{get_or_default}
use Rattle.lock_modes.specs.Compatibility.{are_compatible}
use Rattle.lock_rules.specs.Sound.{after, ascend}
use Rattle.lock_rules.proofs.Lists.{after-trans}
use Rattle.lock_modes.specs.declared.Mode.TheVariants.{NL}
use Rattle.lock_holders.specs.declared.session_mode.SessionMode.{SessionMode}
use Rattle.lock_holders.specs.SessionModes.{pair_of, has_session, mode_of, with_holder, without, fits_among, go_with, Ascends}
use Rattle.lock_holders.specs.Holders.{AreLesser, IsOwn, IsBetween}
use Rattle.lock_holders.proofs.SessionModes.{with_holder-set, mode-has}

-- all these holders have numbers above `s`
abbrev pub IsAfter : ℕ → List SessionMode → Type 0
IsAfter s hs = after s (map pair_of hs) ≡ true

-- inserting a greater holder keeps all numbers greater
pub after-with : (i : ℕ) (c : SessionMode) (hs : List SessionMode) → i < c.session → IsAfter i hs → IsAfter i (with_holder c hs)
after-with i c [] l h = grind (arith, nat_tests)
after-with i c (k ∷ hs) l h = grind (arith, nat_tests, after-with i c hs l)

-- inserting a holder keeps the order
pub ascends-with : (c : SessionMode) (hs : List SessionMode) → Ascends hs → Ascends (with_holder c hs)
ascends-with c [] h = refl
ascends-with c (k ∷ hs) h = let n = after-with k.session c hs in let a = after-trans c.session k.session (map pair_of hs) in grind (arith, nat_tests, ascends-with c hs, n, a)

-- removing a holder keeps all numbers greater
pub after-without : (i s : ℕ) (hs : List SessionMode) → IsAfter i hs → IsAfter i (without s hs)
after-without i s [] h = h
after-without i s (k ∷ hs) h = grind (arith, nat_tests, after-without i s hs)

-- removing a holder keeps the order
pub ascends-without : (s : ℕ) (hs : List SessionMode) → Ascends hs → Ascends (without s hs)
ascends-without s [] h = refl
ascends-without s (k ∷ hs) h =
    let p = and_parts (after k.session (map pair_of hs)) (ascend (map pair_of hs)) h in
    go (eqb k.session s) (ascends-without s hs p.1) (after-without k.session s hs p.0)
  where
    go : (b : Bool) → Ascends (without s hs) → IsAfter k.session (without s hs) → Ascends (cond (not b) (k ∷ without s hs) (without s hs))
    go true rest first = rest
    go false rest first = and_from (after k.session (map pair_of (without s hs))) (ascend (map pair_of (without s hs))) first rest

-- holders above a number have greater numbers at each index
after-at : (s : ℕ) (hs : List SessionMode) (j : ℕ) (d : SessionMode) → IsAfter s hs → j < length hs → s < (get_or hs j d).session
after-at s [] j d h lt = absurd (omega arith)
after-at s (k ∷ hs) zero d h lt = grind (arith, nat_tests)
after-at s (k ∷ hs) (suc j) d h lt = grind (arith, nat_tests, after-at s hs j d)

-- of two holders the earlier one has the lesser number
pub rising-at : (hs : List SessionMode) (i j : ℕ) (d : SessionMode) → Ascends hs → i < j → j < length hs → (get_or hs i d).session < (get_or hs j d).session
rising-at [] i j d h lt le = absurd (omega arith)
rising-at (k ∷ hs) i zero d h lt le = absurd (omega arith)
rising-at (k ∷ hs) zero (suc j) d h lt le = after-at k.session hs j d (and_parts (after k.session (map pair_of hs)) (ascend (map pair_of hs)) h).0 (omega arith)
rising-at (k ∷ hs) (suc i) (suc j) d h lt le = rising-at hs i j d (and_parts (after k.session (map pair_of hs)) (ascend (map pair_of hs)) h).1 (omega arith) (omega arith)

-- a holder is inserted behind those of lesser sessions
pub lesser-with : (c : SessionMode) (hs : List SessionMode) (n : ℕ) → AreLesser c.session n hs → n ≤ length hs → with_holder c hs ≡ take n hs ++ with_holder c (drop n hs)
lesser-with c hs zero l le = refl
lesser-with c [] (suc n) l le = absurd (omega arith)
lesser-with c (k ∷ hs) (suc n) l le =
    let first : k.session < c.session = l 0 c (omega arith) in
    let rest = lesser-with c hs n (λ i d lt. l (suc i) d (omega arith)) (omega arith) in
    grind (arith, nat_tests)

-- a holder that is not there yet is inserted at its place
pub with-between : (c : SessionMode) (hs : List SessionMode) (n : ℕ) → IsBetween c.session hs n → insert hs n c ≡ with_holder c hs
with-between c [] zero b = refl
with-between c (k ∷ hs) zero b = let more = b.greater 0 k (omega arith) (omega arith) in grind (arith, nat_tests)
with-between c [] (suc n) b = absurd (let w = b.within in omega (arith, w))
with-between c (k ∷ hs) (suc n) b =
    let less : k.session < c.session = b.lesser 0 k (omega arith) in
    let rest : insert hs n c ≡ with_holder c hs = with-between c hs n (record {
      within = let w = b.within in omega (arith, w);
      lesser = λ i d l. b.lesser (suc i) d (omega (arith, l));
      greater = λ i d l w. b.greater (suc i) d (omega (arith, l)) (omega (arith, w));
    }) in
    ap (λ (xs : List SessionMode). k ∷ xs) rest ∙ sym (passed (eqb k.session c.session) (nat_lt c.session k.session) (grind (arith, nat_tests)) (grind (arith, nat_tests)))
  where
    passed : (x y : Bool) → x ≡ false → y ≡ false → cond x (c ∷ hs) (cond y (c ∷ k ∷ hs) (k ∷ with_holder c hs)) ≡ k ∷ with_holder c hs
    passed x y e f = rw (e, f) refl

-- a holder that is there gets its new mode at its place
pub with-own : (c : SessionMode) (hs : List SessionMode) (n : ℕ) → IsOwn c.session hs n → set hs n c ≡ with_holder c hs
with-own c hs n o =
    with_holder-set hs n c (get_or hs n c) o.within (get_or_default hs n c (get_or hs n c) o.within) (o.here c) (lesser-with c hs n o.lesser (let w = o.within in omega (arith, w)))

-- there is at most one holder more
pub length-with : (c : SessionMode) (hs : List SessionMode) → length (with_holder c hs) ≤ length hs + 1
length-with c [] = omega arith
length-with c (k ∷ hs) = grind (arith, nat_tests, length-with c hs)

-- there are no more holders than before
pub length-without : (s : ℕ) (hs : List SessionMode) → length (without s hs) ≤ length hs
length-without s [] = omega arith
length-without s (k ∷ hs) = grind (arith, nat_tests, length-without s hs)

-- removing a session that is no holder changes nothing
without-all : (s : ℕ) (hs : List SessionMode) → ((i : ℕ) (d : SessionMode) → i < length hs → (get_or hs i d).session ≡ s → ⊥) → without s hs ≡ hs
without-all s [] n = refl
without-all s (k ∷ hs) n = go (eqb k.session s) refl (without-all s hs (λ i d lt. n (suc i) d (omega arith)))
  where
    go : (b : Bool) → eqb k.session s ≡ b → without s hs ≡ hs → without s (k ∷ hs) ≡ k ∷ hs
    go true e rest = absurd (n 0 k (omega arith) ((Decides-eqb k.session s).0 e))
    go false e rest = ap (λ (c : Bool). cond (not c) (k ∷ without s hs) (without s hs)) e ∙ ap (λ (xs : List SessionMode). k ∷ xs) rest

-- removing a holder removes the one at its index
pub left-one : (s : ℕ) (hs : List SessionMode) (n : ℕ) → n < length hs → AreLesser s n hs → ((d : SessionMode) → (get_or hs n d).session ≡ s) → ((i : ℕ) (d : SessionMode) → n < i → i < length hs → s < (get_or hs i d).session) → take n hs ++ drop (suc n) hs ≡ without s hs
left-one s [] n lt lesser at greater = absurd (omega arith)
left-one s (k ∷ hs) zero lt lesser at greater =
    let e : eqb k.session s ≡ true = (Decides-eqb k.session s).1 (at k) in
    sym (ap (λ (c : Bool). cond (not c) (k ∷ without s hs) (without s hs)) e ∙ without-all s hs (λ i d l f. let a = greater (suc i) d (omega arith) (omega arith) in omega (arith, a, f)))
left-one s (k ∷ hs) (suc n) lt lesser at greater =
    let less = lesser 0 k (omega arith) in
    let e : eqb k.session s ≡ false = grind (arith, nat_tests) in
    ap (λ (xs : List SessionMode). k ∷ xs) (left-one s hs n (omega arith) (λ i d l. lesser (suc i) d (omega arith)) at (λ i d l f. greater (suc i) d (omega arith) (omega arith)))
    ∙ sym (ap (λ (c : Bool). cond (not c) (k ∷ without s hs) (without s hs)) e)

-- a session that would be inserted at an index is at no index
pub none-there : (s : ℕ) (hs : List SessionMode) (n : ℕ) → IsBetween s hs n → (i : ℕ) (d : SessionMode) → i < length hs → (get_or hs i d).session ≡ s → ⊥
none-there s hs n b i d lt e = elim (cases_lt i n) [
  | inl l ↦ (let a = b.lesser i d l in omega (arith, a, e))
  | inr l ↦ (let a = b.greater i d l lt in omega (arith, a, e))
]

-- removing the holder at its place removes the session
pub left-own : (s : ℕ) (hs : List SessionMode) (n : ℕ) → IsOwn s hs n → remove hs n ≡ without s hs
left-own s hs n o = left-one s hs n o.within o.lesser o.here o.greater

-- removing a session that is no holder changes nothing
pub left-between : (s : ℕ) (hs : List SessionMode) (n : ℕ) → IsBetween s hs n → without s hs ≡ hs
left-between s hs n b = without-all s hs (none-there s hs n b)

-- the mode of a holder is the mode at its index
pub mode-own : (s : ℕ) (hs : List SessionMode) (n : ℕ) (d : SessionMode) → IsOwn s hs n → mode_of s hs ≡ Some (get_or hs n d).mode
mode-own s [] n d o = absurd (let w = o.within in omega (arith, w))
mode-own s (k ∷ hs) zero d o = ap (λ (b : Bool). cond b (Some k.mode) (mode_of s hs)) ((Decides-eqb k.session s).1 (o.here d))
mode-own s (k ∷ hs) (suc n) d o =
    let less : k.session < s = o.lesser 0 k (omega arith) in
    let other : eqb k.session s ≡ false = grind (arith, nat_tests) in
    ap (λ (b : Bool). cond b (Some k.mode) (mode_of s hs)) other ∙ mode-own s hs n d (record {
      within = let w = o.within in omega (arith, w);
      lesser = λ i e l. o.lesser (suc i) e (omega (arith, l));
      here = o.here;
      greater = λ i e l w. o.greater (suc i) e (omega (arith, l)) (omega (arith, w));
    })

-- a session that is at no index has no mode
mode-nowhere : (s : ℕ) (hs : List SessionMode) → ((i : ℕ) (d : SessionMode) → i < length hs → (get_or hs i d).session ≡ s → ⊥) → mode_of s hs ≡ None
mode-nowhere s [] n = refl
mode-nowhere s (k ∷ hs) n = go (eqb k.session s) refl (mode-nowhere s hs (λ i d lt. n (suc i) d (omega (arith, lt))))
  where
    go : (b : Bool) → eqb k.session s ≡ b → mode_of s hs ≡ None → mode_of s (k ∷ hs) ≡ None
    go true e rest = absurd (n 0 k (omega arith) ((Decides-eqb k.session s).0 e))
    go false e rest = ap (λ (c : Bool). cond c (Some k.mode) (mode_of s hs)) e ∙ rest

-- a session that would be inserted has no mode
pub mode-between : (s : ℕ) (hs : List SessionMode) (n : ℕ) → IsBetween s hs n → mode_of s hs ≡ None
mode-between s hs n b = mode-nowhere s hs (none-there s hs n b)

-- a session that is at its index is a holder
pub has-own : (s : ℕ) (hs : List SessionMode) (n : ℕ) → IsOwn s hs n → has_session s hs ≡ true
has-own s hs n o = sym (mode-has s hs) ∙ ap is_some (mode-own s hs n (record { session = 0; mode = NL }) o)

-- a session that would be inserted is no holder
pub has-between : (s : ℕ) (hs : List SessionMode) (n : ℕ) → IsBetween s hs n → has_session s hs ≡ false
has-between s hs n b = sym (mode-has s hs) ∙ ap is_some (mode-between s hs n b)

-- a mode fits for a session that is no holder exactly if it is compatible with all holders
fits-others : (c : SessionMode) (hs : List SessionMode) → ((i : ℕ) (d : SessionMode) → i < length hs → (get_or hs i d).session ≡ c.session → ⊥) → fits_among c hs ≡ go_with c.mode hs
fits-others c [] n = refl
fits-others c (k ∷ hs) n = go (eqb k.session c.session) refl (fits-others c hs (λ i d lt. n (suc i) d (omega (arith, lt))))
  where
    go : (b : Bool) → eqb k.session c.session ≡ b → fits_among c hs ≡ go_with c.mode hs → fits_among c (k ∷ hs) ≡ go_with c.mode (k ∷ hs)
    go true e rest = absurd (n 0 k (omega arith) ((Decides-eqb k.session c.session).0 e))
    go false e rest = ap (λ (x : Bool). (x || are_compatible c.mode k.mode) && fits_among c hs) e ∙ ap (λ (x : Bool). are_compatible c.mode k.mode && x) rest

-- the same for a session by the place at which it would be inserted
pub fits-between : (c : SessionMode) (hs : List SessionMode) (n : ℕ) → IsBetween c.session hs n → fits_among c hs ≡ go_with c.mode hs
fits-between c hs n b = fits-others c hs (none-there c.session hs n b)

-- a mode fits for a holder exactly if it is compatible with the holders before its index and behind it
pub fits-own : (c : SessionMode) (hs : List SessionMode) (n : ℕ) → IsOwn c.session hs n → fits_among c hs ≡ (go_with c.mode (take n hs) && go_with c.mode (drop (suc n) hs))
fits-own c [] n o = absurd (let w = o.within in omega (arith, w))
fits-own c (k ∷ hs) zero o =
    ap (λ (x : Bool). (x || are_compatible c.mode k.mode) && fits_among c hs) ((Decides-eqb k.session c.session).1 (o.here k))
    ∙ fits-others c hs (λ i d lt e. let a = o.greater (suc i) d (omega arith) (omega (arith, lt)) in omega (arith, a, e))
fits-own c (k ∷ hs) (suc n) o =
    let less : k.session < c.session = o.lesser 0 k (omega arith) in
    let other : eqb k.session c.session ≡ false = grind (arith, nat_tests) in
    let rest = fits-own c hs n (record {
      within = let w = o.within in omega (arith, w);
      lesser = λ i d l. o.lesser (suc i) d (omega (arith, l));
      here = o.here;
      greater = λ i d l w. o.greater (suc i) d (omega (arith, l)) (omega (arith, w));
    }) in
    ap (λ (x : Bool). (x || are_compatible c.mode k.mode) && fits_among c hs) other
    ∙ (ap (λ (x : Bool). are_compatible c.mode k.mode && x) rest ∙ sym (and_assoc (are_compatible c.mode k.mode) (go_with c.mode (take n hs)) (go_with c.mode (drop (suc n) hs))))

-- a mode that is compatible with all holders fits
pub go-fits : (c : SessionMode) (hs : List SessionMode) → go_with c.mode hs ≡ true → fits_among c hs ≡ true
go-fits c [] h = refl
go-fits c (k ∷ hs) h = grind (arith, cases_Bool (eqb k.session c.session), cases_Bool (are_compatible c.mode k.mode), go-fits c hs)

-- a mode that fits for a session is compatible with the holders of greater numbers
fits-after : (c : SessionMode) (s : ℕ) (hs : List SessionMode) → c.session ≤ s → IsAfter s hs → fits_among c hs ≡ true → go_with c.mode hs ≡ true
fits-after c s [] le a f = refl
fits-after c s (k ∷ hs) le a f = grind (arith, nat_tests, cases_Bool (are_compatible c.mode k.mode), fits-after c s hs le)

-- a mode that fits, and is compatible with itself, is compatible with all holders after it is granted
pub fits-go : (c : SessionMode) (hs : List SessionMode) → Ascends hs → fits_among c hs ≡ true → are_compatible c.mode c.mode ≡ true → go_with c.mode (with_holder c hs) ≡ true
fits-go c [] a f self = grind (arith)
fits-go c (k ∷ hs) a f self =
    let p = and_parts (after k.session (map pair_of hs)) (ascend (map pair_of hs)) a in
    let rest = fits-go c hs p.1 in
    let behind = fits-after c k.session hs in
    grind (arith, nat_tests, cases_Bool (are_compatible c.mode k.mode), p.0, rest, behind)
