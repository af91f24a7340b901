-- What a page tells, and what pages that are read one after another tell together.
use Rattle.std.proofs.Common.{◌≡◌, ℕ, zero, suc, ◌+◌, ◌<◌, ◌≤◌, Bool, true, false, cond, eqb, ltb, ◌||◌, inl, inr, List, [], ◌∷◌, ◌++◌, length, map, take, Option, Some, None, is_some, refl, sym, ◌∙◌, ap, arith}
use Rattle.std.specs.Prelude.{filter}
use Rattle.std.specs.List.{flat_map, list_all}
use Rattle.std.proofs.lemmas.Bool.{cases_Bool, and_parts, and_from, or_parts}
use Rattle.std.proofs.lemmas.Bool.Decides.{Decides-ltb}
use Rattle.std.proofs.lemmas.List.{length-map, take-map}
use Rattle.lock_modes.specs.declared.Mode.{Mode}
use Rattle.lock_tree.specs.Paths.{same_path}
use Rattle.sequential.proofs.Members.{Member, contains-member, member-contains}
use Rattle.lock_rules.specs.declared.listing.Claim.{Claim as ListedClaim}
use Rattle.lock_rules.specs.Entries.{Entry}
use Rattle.lock_rules.specs.State.{State, held_mode}
use Rattle.lock_rules.specs.Legal.{state_of}
use Rattle.lock_rules.specs.Sound.{IsSound}
use Rattle.lock_rules.specs.Listing.{comes_before, listing_of, lock_line, DoesListingShow}
use Rattle.lock_rules.proofs.Lists.{same_path-refl, same_path_tells, eqb-refl}
use Rattle.lock_rules.proofs.Listings.{listing-shows}
use Rattle.lock_rules.proofs.ResourceOrder.{contrary, precedes, rise, before-self, before-then, before-all, not-behind}
use Rattle.lock_rules.proofs.Steps.{state-lawful}
use Rattle.session_locks.specs.Resources.{is_behind, has_path, AreApart}
use Rattle.lock_desk.specs.Pages.{is_lock_of, locks_of, AreLocksTold, Look, page_at, next_after, lines_told, is_one_short, lines_on, HoldsThroughout, DoPagesTell}
use Rattle.lock_table.proofs.LockCounts.{locks-told}
use Rattle.lock_desk.proofs.Pages.{held_lines, held_lines_on, holds, held_behind, locks-lines, rise-held, has-held, all-held}
use Rattle.lock_table.proofs.TableViews.{held-seen}

-- the first resources of a list that rises

-- the resource of the last of these, `a` if there is none
abbrev last_of : Option (List ℕ) → List (List ℕ) → Option (List ℕ)
last_of a [] = a
last_of a (r ∷ rs) = last_of (Some r) rs

-- each of the resources comes behind `a`
abbrev AreBehind : Option (List ℕ) → List (List ℕ) → Type 0
AreBehind a rs = (q : List ℕ) → has_path q rs ≡ true → is_behind a q ≡ true

-- the first of a list is in it
has-first : (x : List ℕ) (rs : List (List ℕ)) → has_path x (x ∷ rs) ≡ true
has-first x rs = ap (λ (b : Bool). b || has_path x rs) (same_path-refl x)

-- behind the first of a list that rises come the others
behind-first : (x : List ℕ) (rs : List (List ℕ)) → rise (x ∷ rs) ≡ true → AreBehind (Some x) rs
behind-first x rs h q k = let p = and_parts (precedes x rs) (rise rs) h in before-all x rs q p.0 p.1 k

rise-rest : (x : List ℕ) (rs : List (List ℕ)) → rise (x ∷ rs) ≡ true → rise rs ≡ true
rise-rest x rs h = (and_parts (precedes x rs) (rise rs) h).1

-- what comes behind one that comes behind `a` comes behind `a`
behind-then : (a : Option (List ℕ)) (x q : List ℕ) → is_behind a x ≡ true → comes_before x q ≡ true → is_behind a q ≡ true
behind-then None x q h k = refl
behind-then (Some y) x q h k = before-then y x q h k

-- what comes behind the last of the first n comes behind `a`
still-behind : (n : ℕ) (a : Option (List ℕ)) (rs : List (List ℕ)) → rise rs ≡ true → AreBehind a rs → (q : List ℕ) → is_behind (last_of a (take n rs)) q ≡ true → is_behind a q ≡ true
still-behind zero a rs h b q k = k
still-behind (suc n) a [] h b q k = k
still-behind (suc n) a (x ∷ rs) h b q k = behind-then a x q (b x (has-first x rs)) (still-behind n (Some x) rs (rise-rest x rs h) (behind-first x rs h) q k)

-- none of the first n comes behind the last of them
passed : (n : ℕ) (a : Option (List ℕ)) (rs : List (List ℕ)) → rise rs ≡ true → AreBehind a rs → (q : List ℕ) → has_path q (take n rs) ≡ true → is_behind (last_of a (take n rs)) q ≡ false
passed zero a rs h b q k = absurd (cc)
passed (suc n) a [] h b q k = absurd (cc)
passed (suc n) a (x ∷ rs) h b q k = elim (same_path_tells x q) [
  | inl s ↦ elim (cases_Bool (is_behind (last_of (Some x) (take n rs)) q)) [
    | inl t ↦ absurd (contrary (comes_before x x) (ap (comes_before x) s.1 ∙ still-behind n (Some x) rs (rise-rest x rs h) (behind-first x rs h) q t) (before-self x))
    | inr f ↦ f
  ]
  | inr m ↦ passed n (Some x) rs (rise-rest x rs h) (behind-first x rs h) q (sym (ap (λ (b : Bool). b || has_path q (take n rs)) m) ∙ k)
]

-- one that isn't among the first n comes behind the last of them
left-over : (n : ℕ) (a : Option (List ℕ)) (rs : List (List ℕ)) → rise rs ≡ true → AreBehind a rs → (q : List ℕ) → has_path q rs ≡ true → has_path q (take n rs) ≡ false → is_behind (last_of a (take n rs)) q ≡ true
left-over zero a rs h b q k m = b q k
left-over (suc n) a [] h b q k m = absurd (cc)
left-over (suc n) a (x ∷ rs) h b q k m =
    let p = or_parts (same_path x q) (has_path q (take n rs)) m in
    left-over n (Some x) rs (rise-rest x rs h) (behind-first x rs h) q (sym (ap (λ (b : Bool). b || has_path q rs) p.0) ∙ k) p.1

-- the first n are in the list
has-take : (n : ℕ) (q : List ℕ) (rs : List (List ℕ)) → has_path q (take n rs) ≡ true → has_path q rs ≡ true
has-take zero q rs h = absurd (cc)
has-take (suc n) q [] h = absurd (cc)
has-take (suc n) q (x ∷ rs) h = go (same_path x q) h (has-take n q rs)
  where
    go : (b : Bool) → (b || has_path q (take n rs)) ≡ true → (has_path q (take n rs) ≡ true → has_path q rs ≡ true) → (b || has_path q rs) ≡ true
    go true h next = refl
    go false h next = next h

-- the first n rise
precedes-take : (x : List ℕ) (n : ℕ) (rs : List (List ℕ)) → precedes x rs ≡ true → precedes x (take n rs) ≡ true
precedes-take x zero rs h = refl
precedes-take x (suc n) [] h = refl
precedes-take x (suc n) (y ∷ rs) h = h

pub rise-take : (n : ℕ) (rs : List (List ℕ)) → rise rs ≡ true → rise (take n rs) ≡ true
rise-take zero rs h = refl
rise-take (suc n) [] h = refl
rise-take (suc n) (x ∷ rs) h =
    let p = and_parts (precedes x rs) (rise rs) h in
    and_from (precedes x (take n rs)) (rise (take n rs)) (precedes-take x n rs p.0) (rise-take n rs p.1)

-- if they are fewer than n, they are all
all-taken : (n : ℕ) (rs : List (List ℕ)) → length (take n rs) < n → take n rs ≡ rs
all-taken zero rs h = absurd (omega (arith, h))
all-taken (suc n) [] h = refl
all-taken (suc n) (x ∷ rs) h = ap (λ (ys : List (List ℕ)). x ∷ ys) (all-taken n rs (omega (arith, h)))

-- resources that rise are apart
apart-rising : (rs : List (List ℕ)) → rise rs ≡ true → AreApart rs
apart-rising [] h = tt
apart-rising (x ∷ rs) h = let p = and_parts (precedes x rs) (rise rs) h in (not-behind x rs p.0 p.1, apart-rising rs p.1)

-- how often a resource is told

-- how often it is in a list
abbrev times_in : List ℕ → List (List ℕ) → ℕ
times_in q [] = 0
times_in q (x ∷ rs) = cond (same_path x q) 1 0 + times_in q rs

-- in a list that rises it is once at most
times-rising : (q : List ℕ) (rs : List (List ℕ)) → rise rs ≡ true → times_in q rs ≡ cond (has_path q rs) 1 0
times-rising q [] h = refl
times-rising q (x ∷ rs) h =
    let p = and_parts (precedes x rs) (rise rs) h in
    let next = times-rising q rs p.1 in
    elim (same_path_tells x q) [
      | inl s ↦ (let gone : has_path q rs ≡ false = ap (λ (z : List ℕ). has_path z rs) (sym s.1) ∙ not-behind x rs p.0 p.1 in
          let none : times_in q rs ≡ 0 = next ∙ ap (λ (b : Bool). cond b 1 0) gone in
          ap (λ (b : Bool). cond b 1 0 + times_in q rs) s.0 ∙ (one-more (times_in q rs) none ∙ sym (ap (λ (b : Bool). cond (b || has_path q rs) 1 0) s.0)))
      | inr n ↦ ap (λ (b : Bool). cond b 1 0 + times_in q rs) n ∙ (none-more (times_in q rs) ∙ (next ∙ sym (ap (λ (b : Bool). cond (b || has_path q rs) 1 0) n)))
    ]
  where
    one-more : (n : ℕ) → n ≡ 0 → 1 + n ≡ 1
    one-more n e = omega (arith, e)

    none-more : (n : ℕ) → 0 + n ≡ n
    none-more n = omega arith

-- the resource of a line
abbrev resource_in : ListedClaim → List ℕ
resource_in l = l.resource

lines-times : (q : List ℕ) (ls : List ListedClaim) → lines_on q ls ≡ times_in q (map resource_in ls)
lines-times q [] = refl
lines-times q (l ∷ ls) = ap (λ (n : ℕ). cond (same_path l.resource q) 1 0 + n) (lines-times q ls)

lines-append : (q : List ℕ) (ks ls : List ListedClaim) → lines_on q (ks ++ ls) ≡ lines_on q ks + lines_on q ls
lines-append q [] ls = omega arith
lines-append q (k ∷ ks) ls = omega (arith, lines-append q ks ls)

next-last : (a : Option (List ℕ)) (ls : List ListedClaim) → next_after a ls ≡ last_of a (map resource_in ls)
next-last a [] = refl
next-last a (l ∷ ls) = next-last (Some l.resource) ls

-- the lines of resources that a session holds are on them
lines-resources : (st : State) (s : ℕ) (rs : List (List ℕ)) → list_all (holds st s) rs ≡ true → map resource_in (flat_map (held_lines_on st s) rs) ≡ rs
lines-resources st s [] h = refl
lines-resources st s (r ∷ rs) h = let k = and_parts (holds st s r) (list_all (holds st s) rs) h in go (held_mode st.table s r) k.0 (lines-resources st s rs k.1)
  where
    go : (m : Option Mode) → is_some m ≡ true → map resource_in (flat_map (held_lines_on st s) rs) ≡ rs → map resource_in (held_lines st s r m ++ flat_map (held_lines_on st s) rs) ≡ r ∷ rs
    go None k next = absurd (cc)
    go (Some m) k next = ap (λ (qs : List (List ℕ)). r ∷ qs) next

-- one page

module _ (s : ℕ) (a : Option (List ℕ)) (k : Look) where
  abbrev state : State
  state = state_of k.history

  sound : IsSound state.table
  sound = (state-lawful k.history).sound

  -- the resources that the session holds behind `a`, and those of the page
  abbrev all_there : List (List ℕ)
  all_there = held_behind state s a

  abbrev first_there : List (List ℕ)
  first_there = take k.most all_there

  rises : rise all_there ≡ true
  rises = rise-held state s a

  behind : AreBehind a all_there
  behind q h = (and_parts (is_behind a q) (holds state s q) (sym (has-held state s a q) ∙ h)).0

  on-page : map resource_in (page_at s a k) ≡ first_there
  on-page =
      sym (take-map resource_in k.most (locks_of state s a))
      ∙ ap (take k.most) (ap (map resource_in) (locks-lines state s a sound.order) ∙ lines-resources state s all_there (all-held state s a))

  -- a resource is told once if it is one of those, and else not
  told : (q : List ℕ) → lines_on q (page_at s a k) ≡ cond (has_path q first_there) 1 0
  told q = lines-times q (page_at s a k) ∙ (ap (times_in q) on-page ∙ times-rising q first_there (rise-take k.most all_there rises))

  -- the next page begins behind the last of them
  next-is : next_after a (page_at s a k) ≡ last_of a first_there
  next-is = next-last a (page_at s a k) ∙ ap (last_of a) on-page

  -- what doesn't come behind `a` doesn't come behind the page either
  still-not : (q : List ℕ) → is_behind a q ≡ false → is_behind (next_after a (page_at s a k)) q ≡ false
  still-not q h = elim (cases_Bool (is_behind (next_after a (page_at s a k)) q)) [
    | inl t ↦ absurd (contrary (is_behind a q) (still-behind k.most a all_there rises behind q (sym (ap (λ (o : Option (List ℕ)). is_behind o q) next-is) ∙ t)) h)
    | inr f ↦ f
  ]

  -- nor is it told
  not-told : (q : List ℕ) → is_behind a q ≡ false → lines_on q (page_at s a k) ≡ 0
  not-told q h = told q ∙ elim (cases_Bool (has_path q first_there)) [
    | inl t ↦ absurd (contrary (is_behind a q) (behind q (has-take k.most q all_there t)) h)
    | inr f ↦ ap (λ (b : Bool). cond b 1 0) f
  ]

  -- what the page tells doesn't come behind it
  told-passed : (q : List ℕ) → has_path q first_there ≡ true → is_behind (next_after a (page_at s a k)) q ≡ false
  told-passed q h = ap (λ (o : Option (List ℕ)). is_behind o q) next-is ∙ passed k.most a all_there rises behind q h

  -- a lock behind `a` that it doesn't tell comes behind it
  untold-behind : (q : List ℕ) → is_behind a q ≡ true → holds state s q ≡ true → has_path q first_there ≡ false → is_behind (next_after a (page_at s a k)) q ≡ true
  untold-behind q b h f =
      ap (λ (o : Option (List ℕ)). is_behind o q) next-is
      ∙ left-over k.most a all_there rises behind q (has-held state s a q ∙ and_from (is_behind a q) (holds state s q) b h) f

  -- and there is none if the page is short
  short-tells : (q : List ℕ) → is_behind a q ≡ true → holds state s q ≡ true → ltb (length (page_at s a k)) k.most ≡ true → has_path q first_there ≡ true
  short-tells q b h short =
      let few : length (page_at s a k) < k.most = (Decides-ltb (length (page_at s a k)) k.most).0 short in
      let long : length (page_at s a k) ≡ length first_there = sym (length-map (page_at s a k) resource_in) ∙ ap (λ (qs : List (List ℕ)). length qs) on-page in
      ap (has_path q) (all-taken k.most all_there (omega (arith, few, long)))
      ∙ (has-held state s a q ∙ and_from (is_behind a q) (holds state s q) b h)

-- several pages

-- a resource that doesn't come behind `a` is told by none
none-told : (s : ℕ) (ks : List Look) (a : Option (List ℕ)) (q : List ℕ) → is_behind a q ≡ false → lines_on q (lines_told s a ks) ≡ 0
none-told s [] a q h = refl
none-told s (k ∷ ks) a q h =
    let here = not-told s a k q h in
    let there = none-told s ks (next_after a (page_at s a k)) q (still-not s a k q h) in
    lines-append q (page_at s a k) (lines_told s (next_after a (page_at s a k)) ks) ∙ omega (arith, here, there)

-- what a page tells no later page tells
told-once : (s : ℕ) (k : Look) (ks : List Look) (a : Option (List ℕ)) (q : List ℕ) → has_path q (first_there s a k) ≡ true → lines_on q (lines_told s a (k ∷ ks)) ≡ 1
told-once s k ks a q t =
    let here = told s a k q ∙ ap (λ (b : Bool). cond b 1 0) t in
    let there = none-told s ks (next_after a (page_at s a k)) q (told-passed s a k q t) in
    lines-append q (page_at s a k) (lines_told s (next_after a (page_at s a k)) ks) ∙ omega (arith, here, there)

-- what a page doesn't tell is told as often as the later ones tell it
told-later : (s : ℕ) (k : Look) (ks : List Look) (a : Option (List ℕ)) (q : List ℕ) → has_path q (first_there s a k) ≡ false → lines_on q (lines_told s a (k ∷ ks)) ≡ lines_on q (lines_told s (next_after a (page_at s a k)) ks)
told-later s k ks a q f =
    let here = told s a k q ∙ ap (λ (b : Bool). cond b 1 0) f in
    lines-append q (page_at s a k) (lines_told s (next_after a (page_at s a k)) ks) ∙ omega (arith, here)

once : (s : ℕ) (ks : List Look) (a : Option (List ℕ)) (q : List ℕ) → lines_on q (lines_told s a ks) ≤ 1
once s [] a q = omega arith
once s (k ∷ ks) a q = elim (cases_Bool (has_path q (first_there s a k))) [
  | inl t ↦ omega (arith, told-once s k ks a q t)
  | inr f ↦ omega (arith, told-later s k ks a q f, once s ks (next_after a (page_at s a k)) q)
]

all-told : (s : ℕ) (ks : List Look) (a : Option (List ℕ)) (q : List ℕ) → is_behind a q ≡ true → HoldsThroughout s q ks → is_one_short s a ks ≡ true → lines_on q (lines_told s a ks) ≡ 1
all-told s [] a q b h short = absurd (cc)
all-told s (k ∷ ks) a q b h short = elim (cases_Bool (has_path q (first_there s a k))) [
  | inl t ↦ told-once s k ks a q t
  | inr f ↦ told-later s k ks a q f ∙ all-told s ks (next_after a (page_at s a k)) q (untold-behind s a k q b h.0 f) h.1 (later f (ltb (length (page_at s a k)) k.most) refl short)
]
  where
    later : has_path q (first_there s a k) ≡ false → (c : Bool) → ltb (length (page_at s a k)) k.most ≡ c → (c || is_one_short s (next_after a (page_at s a k)) ks) ≡ true → is_one_short s (next_after a (page_at s a k)) ks ≡ true
    later f true e g = absurd (contrary (has_path q (first_there s a k)) (short-tells s a k q b h.0 e) f)
    later f false e g = g

-- pages that are read one after another tell no resource twice, and each lock that is held throughout once
pub pages-tell : (s : ℕ) (a : Option (List ℕ)) (ks : List Look) → DoPagesTell s a ks
pages-tell s a ks = record { once = λ q. once s ks a q; all = λ q b h short. all-told s ks a q b h short }

-- one look

-- a member that passes is kept
member-kept : (p : ListedClaim → Bool) (l : ListedClaim) (ls : List ListedClaim) → Member l ls → p l ≡ true → Member l (filter p ls)
member-kept p l [] h k = absurd h
member-kept p l (x ∷ ls) h k = go (p x) refl (member-kept p l ls)
  where
    go : (b : Bool) → p x ≡ b → (Member l ls → p l ≡ true → Member l (filter p ls)) → Member l (cond b (x ∷ filter p ls) (filter p ls))
    go true e next = elim h [ inl f ↦ inl f | inr i ↦ inr (next i k) ]
    go false e next = elim h [ inl f ↦ absurd (contrary (p l) k (sym (ap p f) ∙ e)) | inr i ↦ next i k ]

-- what is kept was a member, and passes
kept-member : (p : ListedClaim → Bool) (l : ListedClaim) (ls : List ListedClaim) → Member l (filter p ls) → Member l ls × (p l ≡ true)
kept-member p l [] h = absurd h
kept-member p l (x ∷ ls) h = go (p x) refl h (kept-member p l ls)
  where
    go : (b : Bool) → p x ≡ b → Member l (cond b (x ∷ filter p ls) (filter p ls)) → (Member l (filter p ls) → Member l ls × (p l ≡ true)) → Member l (x ∷ ls) × (p l ≡ true)
    go true e h next = elim h [ inl f ↦ (inl f, sym (ap p f) ∙ e) | inr i ↦ let r = next i in (inr r.0, r.1) ]
    go false e h next = let r = next h in (inr r.0, r.1)

-- the locks of a session are told exactly
pub locks-are-told : (history : List Entry) (s : ℕ) → AreLocksTold (state_of history) s
locks-are-told history s = record {
  locks = λ a r m.
      let l = lock_line st s r m in
      let p = is_lock_of s a in (
        λ h. (let k = kept-member p l (listing_of st) (contains-member l (locks_of st s a) h) in (
          (and_parts (eqb s s) (is_behind a r) k.1).1,
          (shows.locks s r m).0 (member-contains l (listing_of st) k.0),
        )),
        λ h. member-contains l (locks_of st s a) (member-kept p l (listing_of st) (contains-member l (listing_of st) ((shows.locks s r m).1 h.1)) (and_from (eqb s s) (is_behind a r) (eqb-refl s) h.0)),
      );
  count =
      sym (length-map (locks_of st s None) resource_in)
      ∙ (ap (λ (qs : List (List ℕ)). length qs) (ap (map resource_in) (locks-lines st s None i.order) ∙ lines-resources st s rs (all-held st s None))
      ∙ locks-told s st.table rs i (apart-rising rs (rise-held st s None)) (λ x. has-held st s None x ∙ held-seen s x st.table.held));
}
  where
    st : State
    st = state_of history

    i : IsSound st.table
    i = (state-lawful history).sound

    rs : List (List ℕ)
    rs = held_behind st s None

    shows : DoesListingShow st
    shows = listing-shows history
