-- Holders as two columns: what is read there, what is inserted and removed in both, and what a mask says of the codes.
use Rattle.std.proofs.Common.{◌≡◌, ℕ, zero, suc, Some, None, position, ◌+◌, ◌<◌, ◌≤◌, Bool, true, false, not, eqb, ◌&&◌, ◌||◌, inl, inr, List, [], ◌∷◌, ◌++◌, length, get_or, take, drop, insert, remove, set, map, refl, sym, ◌∙◌, ap, subst, arith, bit_and}
use Rattle.std.specs.List.{list_any, position_or_len}
use Rattle.std.proofs.lemmas.Bool.{cases_order, cases_Bool}
use Rattle.std.proofs.lemmas.Nat.{and_comm}
use Rattle.std.proofs.Math.Bool.{and-false}
use Rattle.std.proofs.lemmas.Bool.Decides.{nat_tests}
use Rattle.std.proofs.lemmas.Grind.{common_steps}
use Rattle.std.proofs.lemmas.List.Elements.{All-get_or}
use Rattle.std.proofs.lemmas.List.Folds.{list_any_at}
use Rattle.std.proofs.lemmas.List.Quantifiers.{position-Some}
use Rattle.std.proofs.lemmas.List.{get_or_default, take_more, length-map, get_or-map, map-append, map-set, take-map, drop-map}
use Rattle.std.proofs.Math.Seq.{map-set_same}
use Rattle.mode_lanes.specs.Masks.{meets}
use Rattle.waits_for.specs.Pairs.{is_met}
use Rattle.lock_modes.specs.declared.Mode.{Mode}
use Rattle.lock_modes.specs.declared.Mode.TheVariants.{NL}
use Rattle.lock_modes.specs.Codes.{code_of, mode_of_code, mask_of}
use Rattle.lock_modes.specs.Compatibility.{are_compatible}
use Rattle.lock_modes.proofs.Codes.{mode_of_code-code, mask-same}
use Rattle.lock_holders.specs.declared.session_mode.SessionMode.{SessionMode}
use Rattle.lock_holders.specs.declared.holder_columns.Columns.TheInside.{Inside}
use Rattle.lock_holders.specs.SessionModes.{Ascends, with_holder, without, go_with, holder_blocks, AreOfSessions}
use Rattle.lock_holders.specs.inner.Columns.{number_at, code_at, side_by_side, holders_of, AreColumns, DoRise, AreBelow, AreNotBelow}
use Rattle.lock_holders.specs.Holders.{HolderList, AreLesser, IsOwn, IsBetween}
use Rattle.lock_holders.proofs.Rising.{rising-at, ascends-with, ascends-without, with-own, with-between, left-own}

-- the columns of a list of holders, side by side, are the list again
beside : (hs : List SessionMode) → side_by_side (map number_at hs) (map code_at hs) ≡ hs
beside [] = refl
beside (h ∷ hs) = λ i. record { session = h.session; mode = mode_of_code-code h.mode i } ∷ beside hs i

-- the two columns are those of these holders, which are in order of session number
pub record AreOf (ss cs : List ℕ) (hs : List SessionMode) : Type 0 where
  pub sessions : ss ≡ map number_at hs
  pub codes : cs ≡ map code_at hs
  pub rising : Ascends hs

-- columns of these holders are these holders, side by side
pub beside-as : (ss cs : List ℕ) (hs : List SessionMode) → AreOf ss cs hs → side_by_side ss cs ≡ hs
beside-as ss cs hs o = (λ i. side_by_side (o.sessions i) (o.codes i)) ∙ beside hs

-- columns of these holders keep the invariant
pub are-columns : (a : Inside) (hs : List SessionMode) → AreOf a.sessions.items a.codes.items hs → AreColumns a
are-columns a hs o =
    let e = beside-as a.sessions.items a.codes.items hs o in
    record {
      sessions = o.sessions ∙ ap (map number_at) (sym e);
      codes = o.codes ∙ ap (map code_at) (sym e);
      rising = subst Ascends (sym e) o.rising;
    }

-- the columns of a value are those of the holders that contracts see
pub columns-of : (a : Inside) (v : HolderList) → holders_of a ≡ v → AreColumns a → AreOf a.sessions.items a.codes.items v.items
columns-of a v e k =
    let same = ap (λ (w : HolderList). w.items) e in
    record {
      sessions = k.sessions ∙ ap (map number_at) same;
      codes = k.codes ∙ ap (map code_at) same;
      rising = subst Ascends same k.rising;
    }

-- each column is as long as the list of holders
pub as-long : (f : SessionMode → ℕ) (xs : List ℕ) (hs : List SessionMode) → xs ≡ map f hs → length xs ≡ length hs
as-long f xs hs e = ap length e ∙ length-map hs f

-- at an index, a column has the value of the holder at that index
pub reads : (f : SessionMode → ℕ) (xs : List ℕ) (hs : List SessionMode) → xs ≡ map f hs → (i d : ℕ) (h : SessionMode) → i < length hs → get_or xs i d ≡ f (get_or hs i h)
reads f xs hs e i d h lt = ap (λ (ys : List ℕ). get_or ys i d) e ∙ get_or-map f hs i h d lt

-- inserting into a column, and removing from it, is inserting and removing holders
pub map-insert : (f : SessionMode → ℕ) (hs : List SessionMode) (i : ℕ) (h : SessionMode) → insert (map f hs) i (f h) ≡ map f (insert hs i h)
map-insert f hs i h = (λ j. take-map f i hs j ++ f h ∷ drop-map f i hs j) ∙ sym (map-append f (take i hs) (h ∷ drop i hs))

-- removing from a column is removing a holder
pub map-remove : (f : SessionMode → ℕ) (hs : List SessionMode) (i : ℕ) → remove (map f hs) i ≡ map f (remove hs i)
map-remove f hs i = (λ j. take-map f i hs j ++ drop-map f (suc i) hs j) ∙ sym (map-append f (take i hs) (drop (suc i) hs))

-- what was inserted is removed again
pub removed-again : {X : Type 0} (xs : List X) (i : ℕ) (x : X) → i ≤ length xs → remove (insert xs i x) i ≡ xs
removed-again xs zero x le = refl
removed-again [] (suc i) x le = absurd (omega (arith, le))
removed-again {X} (y ∷ xs) (suc i) x le = ap (λ (zs : List X). y ∷ zs) (removed-again xs i x (omega (arith, le)))

-- a holder to read with, where there is none
nobody : SessionMode
nobody = record { session = 0; mode = NL }

-- the session numbers of holders in order increase
pub do-rise : (ss : List ℕ) (hs : List SessionMode) → ss ≡ map number_at hs → Ascends hs → DoRise ss
do-rise ss hs e a i j d lt le =
    let within : j < length hs = omega (arith, le, as-long number_at ss hs e) in
    omega (arith, rising-at hs i j nobody a lt within, reads number_at ss hs e i d nobody (omega (arith, lt, within)), reads number_at ss hs e j d nobody within)

-- if the first n numbers are less than s, so are those of the first n holders
lesser-of : (s n : ℕ) (ss : List ℕ) (hs : List SessionMode) → ss ≡ map number_at hs → n ≤ length hs → AreBelow s n ss → AreLesser s n hs
lesser-of s n ss hs e le below i d lt = omega (arith, below i 0 lt, reads number_at ss hs e i 0 d (omega (arith, lt, le)))

-- a session whose number is at an index is the holder at that index
pub is-own : (s n x : ℕ) (ss : List ℕ) (hs : List SessionMode) → ss ≡ map number_at hs → Ascends hs → n < length ss → AreBelow s n ss → x ≡ get_or ss n x → x ≡ s → IsOwn s hs n
is-own s n x ss hs e a lt below at own =
    let within : n < length hs = omega (arith, lt, as-long number_at ss hs e) in
    let here : (d : SessionMode) → (get_or hs n d).session ≡ s = λ d. sym (reads number_at ss hs e n x d within) ∙ (sym at ∙ own) in
    record {
      within = within;
      lesser = lesser-of s n ss hs e (omega (arith, within)) below;
      here = here;
      greater = λ i d l le. omega (arith, rising-at hs n i d a l le, here d);
    }

-- a session whose number is not there would be inserted before the first greater one
pub is-between : (s n : ℕ) (ss : List ℕ) (hs : List SessionMode) → ss ≡ map number_at hs → Ascends hs → n ≤ length ss → AreBelow s n ss → AreNotBelow s n ss → ((d : ℕ) → n < length ss → get_or ss n d ≡ s → ⊥) → IsBetween s hs n
is-between s n ss hs e a le below others other =
    let long = as-long number_at ss hs e in
    let first : (d : SessionMode) → n < length hs → s < (get_or hs n d).session =
    λ d lt. strict s (get_or ss n 0) (get_or hs n d).session (reads number_at ss hs e n 0 d lt) (others n 0 (omega arith) (omega (arith, lt, long))) (other 0 (omega (arith, lt, long))) in
    record {
      within = omega (arith, le, long);
      lesser = lesser-of s n ss hs e (omega (arith, le, long)) below;
      greater = λ i d l lt. elim (cases_order n i) [
        | inl m ↦ subst (λ (k : ℕ). s < (get_or hs k d).session) m (first d (omega (arith, l, lt)))
        | inr o ↦ elim o [
          | inl m ↦ omega (arith, rising-at hs n i d a m lt, first d (omega (arith, m, lt)))
          | inr m ↦ absurd (omega (arith, l, m))
        ]
      ];
    }
  where
    strict : (s x y : ℕ) → x ≡ y → s ≤ x → (x ≡ s → ⊥) → s < y
    strict s x y e le other = elim (cases_order s x) [
      | inl m ↦ absurd (other (sym m))
      | inr o ↦ elim o [
        | inl m ↦ omega (arith, m, e)
        | inr m ↦ absurd (omega (arith, le, m))
      ]
    ]

-- a mask has no bit of a code exactly if the modes are compatible
code-goes : (m : Mode) (h : SessionMode) → eqb (bit_and (code_of h.mode) (mask_of m)) 0 ≡ are_compatible m h.mode
code-goes m h = ap (λ x. eqb x 0) (and_comm (code_of h.mode) (mask_of m)) ∙ mask-same m h.mode

-- a mask has no bit of any code exactly if its mode is compatible with that of each holder
pub meets-goes : (m : Mode) (hs : List SessionMode) → not (list_any (meets (mask_of m)) (map code_at hs)) ≡ go_with m hs
meets-goes m [] = refl
meets-goes m (h ∷ hs) = step (eqb (bit_and (code_of h.mode) (mask_of m)) 0) (list_any (meets (mask_of m)) (map code_at hs)) ∙ (λ i. code-goes m h i && meets-goes m hs i)
  where
    step : (x y : Bool) → not (not x || y) ≡ (x && not y)
    step true y = refl
    step false y = refl

-- the same for the codes before an index, and for those behind it
pub goes-before : (m : Mode) (cs : List ℕ) (hs : List SessionMode) (n : ℕ) → cs ≡ map code_at hs → not (list_any (meets (mask_of m)) (take n cs)) ≡ go_with m (take n hs)
goes-before m cs hs n e = ap (λ (xs : List ℕ). not (list_any (meets (mask_of m)) xs)) (ap (take n) e ∙ take-map code_at n hs) ∙ meets-goes m (take n hs)

-- the same for the codes behind an index
pub goes-behind : (m : Mode) (cs : List ℕ) (hs : List SessionMode) (n : ℕ) → cs ≡ map code_at hs → not (list_any (meets (mask_of m)) (drop n cs)) ≡ go_with m (drop n hs)
goes-behind m cs hs n e = ap (λ (xs : List ℕ). not (list_any (meets (mask_of m)) xs)) (ap (drop n) e ∙ drop-map code_at n hs) ∙ meets-goes m (drop n hs)

-- a mask has no bit of the codes at other indices exactly if the mode is compatible with these holders
pub goes-beside : (m : Mode) (cs : List ℕ) (hs : List SessionMode) (n : ℕ) → cs ≡ map code_at hs → not (list_any (meets (mask_of m)) (take n cs) || list_any (meets (mask_of m)) (drop (suc n) cs)) ≡ (go_with m (take n hs) && go_with m (drop (suc n) hs))
goes-beside m cs hs n e = both (list_any (meets (mask_of m)) (take n cs)) (list_any (meets (mask_of m)) (drop (suc n) cs)) ∙ (λ i. goes-before m cs hs n e i && goes-behind m cs hs (suc n) e i)
  where
    both : (x y : Bool) → not (x || y) ≡ (not x && not y)
    both true y = refl
    both false y = refl

-- if no item before an index passes, the list up to there has none that does
none-before : (p : ℕ → Bool) (cs : List ℕ) (n : ℕ) (d : ℕ) → n ≤ length cs → ((k : ℕ) → k < n → p (get_or cs k d) ≡ false) → list_any p (take n cs) ≡ false
none-before p cs zero d le misses = refl
none-before p [] (suc n) d le misses = absurd (omega (arith, le))
none-before p (c ∷ cs) (suc n) d le misses = (λ i. misses 0 (omega arith) i || list_any p (take n cs)) ∙ none-before p cs n d (omega (arith, le)) (λ k lt. misses (suc k) (omega (arith, lt)))

-- if the first item that passes is at an index, none before it passes
pub none-before-first : (p : ℕ → Bool) (cs : List ℕ) (n : ℕ) → position p cs ≡ Some n → list_any p (take n cs) ≡ false
none-before-first p cs n e =
    let first = position-Some p cs n 0 e in
    none-before p cs n 0 (omega (arith, first.0)) first.2

-- if the first item that passes is at another index, one of the others passes
pub one-of-others : (p : ℕ → Bool) (cs : List ℕ) (n own : ℕ) → position p cs ≡ Some n → (n ≡ own → ⊥) → (list_any p (take own cs) || list_any p (drop (suc own) cs)) ≡ true
one-of-others p cs n own e other =
    let first = position-Some p cs n 0 e in
    others p cs n own first.0 first.1 other
  where
    others : (p : ℕ → Bool) (cs : List ℕ) (n own : ℕ) → n < length cs → p (get_or cs n 0) ≡ true → (n ≡ own → ⊥) → (list_any p (take own cs) || list_any p (drop (suc own) cs)) ≡ true
    others p [] n own lt at other = absurd (omega (arith, lt))
    others p (c ∷ cs) zero zero lt at other = absurd (other refl)
    others p (c ∷ cs) zero (suc own) lt at other = λ i. (at i || list_any p (take own cs)) || list_any p (drop (suc own) cs)
    others p (c ∷ cs) (suc n) zero lt at other = list_any_at p cs n 0 (omega (arith, lt)) at
    others p (c ∷ cs) (suc n) (suc own) lt at other =
        grind (arith, cases_Bool (p c), others p cs n own (omega (arith, lt)) at (λ e. other (ap suc e)))

-- if all items up to the end miss, none passes
none-passes : (p : ℕ → Bool) (cs : List ℕ) → length cs ≤ position_or_len p cs → list_any p cs ≡ false
none-passes p [] le = refl
none-passes p (c ∷ cs) le = grind (arith, cases_Bool (p c), none-passes p cs)

-- if no item passes, none of the others does
none-among-others : (p : ℕ → Bool) (cs : List ℕ) (own : ℕ) → list_any p cs ≡ false → (list_any p (take own cs) || list_any p (drop (suc own) cs)) ≡ false
none-among-others p [] zero e = refl
none-among-others p [] (suc own) e = refl
none-among-others p (c ∷ cs) zero e = grind (arith, cases_Bool (p c))
none-among-others p (c ∷ cs) (suc own) e = grind (arith, cases_Bool (p c), none-among-others p cs own)

-- if there is no first item that passes, none of the others does
pub none-of-others : (p : ℕ → Bool) (cs : List ℕ) (own : ℕ) → position p cs ≡ None → (list_any p (take own cs) || list_any p (drop (suc own) cs)) ≡ false
none-of-others p cs own e = none-among-others p cs own (none-passes p cs (grind (arith, common_steps)))

-- if the number at an index is less, so are those before it
pub below-more : (s : ℕ) (ns : List ℕ) (m : ℕ) → DoRise ns → m < length ns → get_or ns m 0 < s → AreBelow s (m + 1) ns
below-more s ns m r lt less i d le =
    let k = get_or_default ns m d 0 lt in
    elim (cases_order i m) [
      | inl e ↦ rw e (omega (arith, less, k))
      | inr o ↦ elim o [
        | inl l ↦ omega (arith, r i m d l lt, less, k)
        | inr l ↦ absurd (omega (arith, l, le))
      ]
    ]

-- if the number at an index is not less, neither are those behind it
pub others-more : (s : ℕ) (ns : List ℕ) (m : ℕ) → DoRise ns → m < length ns → s ≤ get_or ns m 0 → AreNotBelow s m ns
others-more s ns m r lt less i d le within =
    let k = get_or_default ns m d 0 lt in
    elim (cases_order m i) [
      | inl e ↦ rw (← e) (omega (arith, less, k))
      | inr o ↦ elim o [
        | inl l ↦ omega (arith, r m i d l within, less, k)
        | inr l ↦ absurd (omega (arith, l, le))
      ]
    ]

-- there are as many holders as numbers
pub side-long : (ss cs : List ℕ) → length cs ≡ length ss → length (side_by_side ss cs) ≡ length ss
side-long [] cs e = refl
side-long (s ∷ ss) [] e = absurd (omega (arith, e))
side-long (s ∷ ss) (c ∷ cs) e = ap (λ n. suc n) (side-long ss cs (omega (arith, e)))

-- the holder at an index has the number and the mode at that index
pub side-at : (ss cs : List ℕ) (i : ℕ) (d : SessionMode) → length cs ≡ length ss → i < length ss → get_or (side_by_side ss cs) i d ≡ record { session = get_or ss i 0; mode = mode_of_code (get_or cs i 0) }
side-at [] cs i d e lt = absurd (omega (arith, lt))
side-at (s ∷ ss) [] i d e lt = absurd (omega (arith, e))
side-at (s ∷ ss) (c ∷ cs) zero d e lt = refl
side-at (s ∷ ss) (c ∷ cs) (suc i) d e lt = side-at ss cs i d (omega (arith, e)) (omega (arith, lt))

-- the first holders, and the next one behind them
pub side-next : (ss cs : List ℕ) (i : ℕ) → length cs ≡ length ss → i < length ss → take (i + 1) (side_by_side ss cs) ≡ take i (side_by_side ss cs) ++ record { session = get_or ss i 0; mode = mode_of_code (get_or cs i 0) } ∷ []
side-next ss cs i e lt =
    take_more (side_by_side ss cs) i nobody (omega (arith, lt, side-long ss cs e)) ∙ ap (λ (h : SessionMode). take i (side_by_side ss cs) ++ h ∷ []) (side-at ss cs i nobody e lt)

-- writing a code changes the mode of that holder
pub set-in : (ss cs new-cs : List ℕ) (hs : List SessionMode) (n : ℕ) (c : SessionMode) (x : ℕ) → AreOf ss cs hs → IsOwn c.session hs n → x ≡ code_of c.mode → new-cs ≡ set cs n x → AreOf ss new-cs (with_holder c hs)
set-in ss cs new-cs hs n c x o own e k =
    let new = with-own c hs n own in
    record {
      sessions = o.sessions ∙ (sym (map-set_same number_at hs n c c (sym (own.here c))) ∙ ap (map number_at) new);
      codes = k ∙ ((λ i. set (o.codes i) n (e i)) ∙ (sym (map-set code_at hs n c) ∙ ap (map code_at) new));
      rising = ascends-with c hs o.rising;
    }

-- inserting into both columns inserts a holder
pub insert-in : (ss cs new-ss new-cs : List ℕ) (hs : List SessionMode) (n : ℕ) (c : SessionMode) (x : ℕ) → AreOf ss cs hs → IsBetween c.session hs n → x ≡ code_of c.mode → new-ss ≡ insert ss n c.session → new-cs ≡ insert cs n x → AreOf new-ss new-cs (with_holder c hs)
insert-in ss cs new-ss new-cs hs n c x o between e s k =
    let new = with-between c hs n between in
    record {
      sessions = s ∙ ((λ i. insert (o.sessions i) n c.session) ∙ (map-insert number_at hs n c ∙ ap (map number_at) new));
      codes = k ∙ ((λ i. insert (o.codes i) n (e i)) ∙ (map-insert code_at hs n c ∙ ap (map code_at) new));
      rising = ascends-with c hs o.rising;
    }

-- removing from both columns removes a holder
pub remove-in : (ss cs new-ss new-cs : List ℕ) (hs : List SessionMode) (n s : ℕ) → AreOf ss cs hs → IsOwn s hs n → new-ss ≡ remove ss n → new-cs ≡ remove cs n → AreOf new-ss new-cs (without s hs)
remove-in ss cs new-ss new-cs hs n s o own a b =
    let new = left-own s hs n own in
    record {
      sessions = a ∙ ((λ i. remove (o.sessions i) n) ∙ (map-remove number_at hs n ∙ ap (map number_at) new));
      codes = b ∙ ((λ i. remove (o.codes i) n) ∙ (map-remove code_at hs n ∙ ap (map code_at) new));
      rising = ascends-without s hs o.rising;
    }

-- the sessions whose codes meet the mask, without the session itself, are the holders that block it
module _ (s t b : ℕ) (m : Mode) (own : s ≡ t + 1) where
  -- the sessions whose codes meet the mask, without the session's own, are the holders that block it
  met-blocks : (hs : List SessionMode) → (not (eqb b t) && is_met (mask_of m) b (map number_at hs) (map code_at hs)) ≡ holder_blocks s m (b + 1) hs
  met-blocks [] = and-false (not (eqb b t))
  met-blocks (h ∷ hs) =
      ap (λ (k : Bool). not (eqb b t) && ((eqb h.session (b + 1) && not k) || is_met (mask_of m) b (map number_at hs) (map code_at hs))) (code-goes m h)
      ∙ (split (eqb h.session (b + 1)) (eqb h.session s) (eqb b t) (not (are_compatible m h.mode)) (is_met (mask_of m) b (map number_at hs) (map code_at hs)) same
      ∙ ap (λ (rest : Bool). (eqb h.session (b + 1) && (not (eqb h.session s) && not (are_compatible m h.mode))) || rest) (met-blocks hs))
    where
      same : eqb h.session (b + 1) ≡ true → eqb h.session s ≡ eqb b t
      same e = grind (arith, nat_tests, e, own)

      split : (x y q k met : Bool) → (x ≡ true → y ≡ q) → (not q && ((x && k) || met)) ≡ ((x && (not y && k)) || (not q && met))
      split false y q k met h = refl
      split true y q k met h = rw (h refl) (both q k met)
        where
          both : (q k met : Bool) → (not q && (k || met)) ≡ ((not q && k) || (not q && met))
          both true k met = refl
          both false k met = refl

  -- the same for the row of one session
  pub blocks-met : (a : ℕ) → (hs : List SessionMode) → (eqb a t && (not (eqb b t) && is_met (mask_of m) b (map number_at hs) (map code_at hs))) ≡ (eqb (a + 1) s && holder_blocks s m (b + 1) hs)
  blocks-met a hs = λ i. tests i && met-blocks hs i
    where
      tests : eqb a t ≡ eqb (a + 1) s
      tests = grind (arith, nat_tests, own)

-- the numbers in the column are those of sessions 1 to n
pub numbered-of : (n : ℕ) (ss : List ℕ) (hs : List SessionMode) → ss ≡ map number_at hs → AreOfSessions n hs → (k : ℕ) → k < length ss → (1 ≤ get_or ss k 0) × (get_or ss k 0 ≤ n)
numbered-of n ss hs e all k lt =
    let within : k < length hs = omega (arith, lt, as-long number_at ss hs e) in
    let at = reads number_at ss hs e k 0 nobody within in
    let p = All-get_or (λ (h : SessionMode). (1 ≤ h.session) × (h.session ≤ n)) hs k nobody within all in
    (omega (arith, p.0, at), omega (arith, p.1, at))
