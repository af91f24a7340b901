-- The calls of one session in a history.
use Rattle.std.proofs.Common.{◌≡◌, ℕ, zero, suc, ◌+◌, ◌≤◌, Bool, true, false, cond, eqb, inl, inr, List, [], ◌∷◌, ◌++◌, length, Some, refl, ◌∙◌, ap, arith, slice_get, Contains}
use Rattle.std.proofs.lemmas.Bool.Decides.{Decides-eqb}
use Rattle.sequential.specs.declared.entry.Entry.{Entry}
use Rattle.sequential.specs.Histories.{Answered, calls_from, calls_of, IsEntryOf, ArePlacesRising}
use Rattle.sequential.proofs.Members.{Member, contains-member, member-contains}

-- a head that may be left out, before a concatenation
pub same-append : {A : Type 0} (b : Bool) (x : A) (xs ys : List A) → cond b (x ∷ (xs ++ ys)) (xs ++ ys) ≡ cond b (x ∷ xs) xs ++ ys
same-append true x xs ys = refl
same-append false x xs ys = refl

module _ {C R : Type 0} where
  -- the call and reply of an entry at this place
  abbrev answer : ℕ → Entry C R → Answered C R
  answer place e = record { place = place; call = e.call; reply = e.reply }

  -- one more entry

  -- the entry as a call of the session, if it is the session's
  abbrev pub last_call : ℕ → ℕ → Entry C R → List (Answered C R)
  last_call s place e = cond (eqb e.session s) (answer place e ∷ []) []

  -- the calls in two histories, one behind the other, with places counted from a start
  pub calls_from-append : (s place : ℕ) (xs ys : List (Entry C R)) → calls_from s place (xs ++ ys) ≡ calls_from s place xs ++ calls_from s (place + length xs) ys
  calls_from-append s place [] ys = let z : place ≡ place + 0 = omega arith in ap (λ (p : ℕ). calls_from s p ys) z
  calls_from-append s place (x ∷ xs) ys =
      let n : place + 1 + length xs ≡ place + suc (length xs) = omega arith in
      let next : calls_from s (place + 1) (xs ++ ys) ≡ calls_from s (place + 1) xs ++ calls_from s (place + suc (length xs)) ys
      = calls_from-append s (place + 1) xs ys ∙ ap (λ (p : ℕ). calls_from s (place + 1) xs ++ calls_from s p ys) n in
      ap (λ (l : List (Answered C R)). cond (eqb x.session s) (answer place x ∷ l) l) next
      ∙ same-append (eqb x.session s) (answer place x) (calls_from s (place + 1) xs) (calls_from s (place + suc (length xs)) ys)

  -- one more entry of a history appends one call if it is the session's
  pub calls_of-push : (s : ℕ) (es : List (Entry C R)) (e : Entry C R) → calls_of s (es ++ e ∷ []) ≡ calls_of s es ++ last_call s (length es) e
  calls_of-push s es e = calls_from-append s 0 es (e ∷ []) ∙ ap (λ (p : ℕ). calls_of s es ++ last_call s p e) (let z : 0 + length es ≡ length es = omega arith in z)

  -- the places rise

  -- the first call's place is at least this one
  abbrev StartsAt : ℕ → List (Answered C R) → Type 0
  StartsAt place [] = Unit {0}
  StartsAt place (a ∷ rest) = place ≤ a.place

  -- no call has a place before the first entry's
  starts : (s place : ℕ) (es : List (Entry C R)) → StartsAt place (calls_from s place es)
  starts s place [] = tt
  starts s place (e ∷ es) = go (eqb e.session s) (starts s (place + 1) es)
    where
      later : (xs : List (Answered C R)) → StartsAt (place + 1) xs → StartsAt place xs
      later [] h = tt
      later (a ∷ xs) h = omega (arith, h)

      go : (b : Bool) → StartsAt (place + 1) (calls_from s (place + 1) es) → StartsAt place (cond b (answer place e ∷ calls_from s (place + 1) es) (calls_from s (place + 1) es))
      go true h = omega arith
      go false h = later (calls_from s (place + 1) es) h

  -- the places rise, counted from a start
  rising-from : (s place : ℕ) (es : List (Entry C R)) → ArePlacesRising (calls_from s place es)
  rising-from s place [] = tt
  rising-from s place (e ∷ es) = go (eqb e.session s) (rising-from s (place + 1) es)
    where
      put_first : (xs : List (Answered C R)) → StartsAt (place + 1) xs → ArePlacesRising xs → ArePlacesRising (answer place e ∷ xs)
      put_first [] h k = tt
      put_first (a ∷ xs) h k = (omega (arith, h), k)

      go : (b : Bool) → ArePlacesRising (calls_from s (place + 1) es) → ArePlacesRising (cond b (answer place e ∷ calls_from s (place + 1) es) (calls_from s (place + 1) es))
      go true h = put_first (calls_from s (place + 1) es) (starts s (place + 1) es) h
      go false h = h

  -- the places of a session's calls rise
  pub rising : (s : ℕ) (es : List (Entry C R)) → ArePlacesRising (calls_of s es)
  rising s es = rising-from s 0 es

  -- a session's calls are its entries

  -- the entry of the session with this call and reply
  abbrev entry_of : ℕ → Answered C R → Entry C R
  entry_of s a = record { session = s; call = a.call; reply = a.reply }

  -- the call is the entry at its place, if the first entry has the given place
  abbrev IsAfter : ℕ → ℕ → List (Entry C R) → Answered C R → Type 0
  IsAfter s place es a = (k : ℕ) × (a.place ≡ place + k) × (slice_get es k ≡ Some (entry_of s a))

  -- a call in the list is an entry of the session
  in-entry : (s place : ℕ) (es : List (Entry C R)) (a : Answered C R) → Member a (calls_from s place es) → IsAfter s place es a
  in-entry s place [] a h = absurd h
  in-entry s place (e ∷ es) a h = go (λ i. later (in-entry s (place + 1) es a i)) (eqb e.session s) refl h
    where
      later : IsAfter s (place + 1) es a → IsAfter s place (e ∷ es) a
      later r = (suc r.0, omega (arith, r.1), r.2)

      here : e.session ≡ s → answer place e ≡ a → IsAfter s place (e ∷ es) a
      here f g =
          let p : place ≡ a.place = ap (λ (x : Answered C R). x.place) g in
          (0, omega (arith, p), ap Some (ap (λ (n : ℕ). entry_of n (answer place e)) f ∙ ap (entry_of s) g))

      go : (Member a (calls_from s (place + 1) es) → IsAfter s place (e ∷ es) a) → (b : Bool) → eqb e.session s ≡ b
          → Member a (cond b (answer place e ∷ calls_from s (place + 1) es) (calls_from s (place + 1) es)) → IsAfter s place (e ∷ es) a
      go next true f (inl g) = here ((Decides-eqb e.session s).0 f) g
      go next true f (inr i) = next i
      go next false f i = next i

  -- a member of a list is one behind a head that may be left out
  in-later : (b : Bool) (x a : Answered C R) (xs : List (Answered C R)) → Member a xs → Member a (cond b (x ∷ xs) xs)
  in-later true x a xs h = inr h
  in-later false x a xs h = h

  -- a head that isn't left out is a member
  in-here : (b : Bool) (x a : Answered C R) (xs : List (Answered C R)) → b ≡ true → x ≡ a → Member a (cond b (x ∷ xs) xs)
  in-here true x a xs h e = inl e
  in-here false x a xs h e = absurd (cc)

  -- an entry of the session is a call in the list
  entry-in : (s place : ℕ) (es : List (Entry C R)) (a : Answered C R) (k : ℕ) → a.place ≡ place + k → slice_get es k ≡ Some (entry_of s a) → Member a (calls_from s place es)
  entry-in s place [] a k p h = absurd (cc)
  entry-in s place (e ∷ es) a zero p h =
      let same : e ≡ entry_of s a = cc in
      let q : place ≡ a.place = omega (arith, p) in
      in-here (eqb e.session s) (answer place e) a (calls_from s (place + 1) es) ((Decides-eqb e.session s).1 (ap (λ (x : Entry C R). x.session) same)) (ap (answer place) same ∙ ap (λ (n : ℕ). answer n (entry_of s a)) q)
  entry-in s place (e ∷ es) a (suc k) p h =
      let q : a.place ≡ place + 1 + k = omega (arith, p) in
      in-later (eqb e.session s) (answer place e) a (calls_from s (place + 1) es) (entry-in s (place + 1) es a k q h)

  -- each of a session's calls is its entry
  pub contains-entry : (s : ℕ) (es : List (Entry C R)) (a : Answered C R) → Contains (calls_of s es) a → IsEntryOf s es a
  contains-entry s es a h =
      let r = in-entry s 0 es a (contains-member a (calls_of s es) h) in
      let p : a.place ≡ r.0 = omega (arith, r.1) in
      ap (slice_get es) p ∙ r.2

  -- each of a session's entries is among its calls
  pub entry-contains : (s : ℕ) (es : List (Entry C R)) (a : Answered C R) → IsEntryOf s es a → Contains (calls_of s es) a
  entry-contains s es a h = let p : a.place ≡ 0 + a.place = omega arith in member-contains a (calls_of s es) (entry-in s 0 es a a.place p h)
