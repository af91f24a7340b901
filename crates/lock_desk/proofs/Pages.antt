-- The page that a lock table gives is that of the state which it represents; what one page tells.
use Rattle.std.proofs.Common.{◌≡◌, ℕ, zero, suc, Bool, true, false, cond, eqb, ◌&&◌, ◌||◌, List, [], ◌∷◌, ◌++◌, map, take, Option, Some, None, is_some, refl, sym, ◌∙◌, ap, subst}
use Rattle.std.specs.Prelude.{filter}
use Rattle.std.specs.List.{flat_map, list_any, list_all}
use Rattle.std.proofs.Math.Bool.{and-false}
use Rattle.std.proofs.lemmas.Bool.{and_parts, and_from}
use Rattle.std.proofs.lemmas.Bool.Decides.{Decides-eqb}
use Rattle.std.proofs.lemmas.List.Elements.{filter-append}
use Rattle.std.proofs.lemmas.List.Folds.{list_any-append}
use Rattle.lock_modes.specs.declared.Mode.{Mode}
use Rattle.lock_tree.specs.Paths.{same_path}
use Rattle.lock_rules.specs.declared.calls.Transaction.{Transaction}
use Rattle.lock_rules.specs.declared.listing.Claim.{Claim as ListedClaim}
use Rattle.lock_rules.specs.declared.listing.ClaimKind.TheVariants.{Held, Conversion, Fresh}
use Rattle.lock_rules.specs.State.{Claim, State, mode_in, held_mode, holders, number_in, doomed_in}
use Rattle.lock_rules.specs.Queue.{conversions, fresh_requests}
use Rattle.lock_rules.specs.Sound.{IsOrdered, after, ascend}
use Rattle.lock_rules.specs.Listing.{resources_of, transaction_of, listed_as, listed_on, lock_line, listed_resources}
use Rattle.lock_rules.proofs.Lists.{seek, seek-after, mode_in-seek}
use Rattle.lock_rules.proofs.ResourceOrder.{rise, same-lists, has-with}
use Rattle.lock_table.specs.declared.table.LockTable.{LockTable}
use Rattle.session_locks.specs.Resources.{is_behind, has_path, in_order, those_behind}
use Rattle.lock_desk.specs.Pages.{is_lock_of, locks_of}
use Rattle.lock_table.specs.Changes.{standing, mode_held, IsWhole}
use Rattle.lock_table.specs.Listing.{transaction_shown}
use Rattle.lock_table.specs.LockPages.{lock_lines, lock_lines_at, page_of}
use Rattle.lock_table.specs.Shows.{Shows}
use Rattle.lock_table.proofs.Asking.{held-locker}
use Rattle.session_locks.proofs.InOrder.{rise-in_order, has-in_order}
use Rattle.lock_table.proofs.Simulation.{mode-shown}
use Rattle.session_locks.proofs.FilteredResources.{has-filter, rise-filter, all-filter}
use Rattle.lock_rules.proofs.Listings.{rise-resources}

-- the resources that are listed

-- they are those of the claims
has-resources : (r : List ℕ) (cs : List Claim) → has_path r (resources_of cs) ≡ list_any (λ (c : Claim). same_path c.resource r) cs
has-resources r [] = refl
has-resources r (c ∷ cs) = has-with r c.resource (resources_of cs) ∙ ap (λ (b : Bool). same_path c.resource r || b) (has-resources r cs)

-- a resource that a session holds is that of a lock
held-listed : (s : ℕ) (r : List ℕ) (cs : List Claim) → is_some (mode_in s r cs) ≡ true → list_any (λ (c : Claim). same_path c.resource r) cs ≡ true
held-listed s r [] h = absurd (cc)
held-listed s r (c ∷ cs) h = go (eqb c.session s) (same_path c.resource r) h (held-listed s r cs)
  where
    go : (a b : Bool) → is_some (cond (a && b) (Some c.mode) (mode_in s r cs)) ≡ true → (is_some (mode_in s r cs) ≡ true → list_any (λ (c : Claim). same_path c.resource r) cs ≡ true) → (b || list_any (λ (c : Claim). same_path c.resource r) cs) ≡ true
    go a true h next = refl
    go true false h next = next h
    go false false h next = next h

-- the locks of a session on one resource

-- the line of the session's lock in this mode, if it has one
abbrev pub held_lines : State → ℕ → List ℕ → Option Mode → List ListedClaim
held_lines st s r None = []
held_lines st s r (Some m) = lock_line st s r m ∷ []

-- the line of the session's lock on the resource
abbrev pub held_lines_on : State → ℕ → List ℕ → List ListedClaim
held_lines_on st s r = held_lines st s r (held_mode st.table s r)

-- of lines none of which passes none are kept
none-kept : {A : Type 0} (f : A → ListedClaim) (p : ListedClaim → Bool) → ((a : A) → p (f a) ≡ false) → (xs : List A) → filter p (map f xs) ≡ []
none-kept f p each [] = refl
none-kept f p each (x ∷ xs) = ap (λ (b : Bool). cond b (f x ∷ filter p (map f xs)) (filter p (map f xs))) (each x) ∙ none-kept f p each xs

-- lines that pass alike
alike-kept : (f : ℕ × Mode → ListedClaim) (p q : ListedClaim → Bool) → ((h : ℕ × Mode) → p (f h) ≡ q (f h)) → (hs : List (ℕ × Mode)) → filter p (map f hs) ≡ filter q (map f hs)
alike-kept f p q each [] = refl
alike-kept f p q each (h ∷ hs) = λ i. cond (each h i) (f h ∷ alike-kept f p q each hs i) (alike-kept f p q each hs i)

module _ (st : State) (s : ℕ) where
  -- the line of one of the holders
  abbrev holder_line : List ℕ → ℕ × Mode → ListedClaim
  holder_line r h = listed_as st Held (record { session = h.0; resource = r; mode = h.1 })

  abbrev is_own : ListedClaim → Bool
  is_own l = eqb l.session s

  -- of the holders in order of session number, the session is there once at most
  own-kept : (r : List ℕ) (hs : List (ℕ × Mode)) → ascend hs ≡ true → filter is_own (map (holder_line r) hs) ≡ held_lines st s r (seek s hs)
  own-kept r [] a = refl
  own-kept r (h ∷ hs) a = go (eqb h.0 s) refl (own-kept r hs parts.1)
    where
      parts : (after h.0 hs ≡ true) × (ascend hs ≡ true)
      parts = and_parts (after h.0 hs) (ascend hs) a

      go : (b : Bool) → eqb h.0 s ≡ b → filter is_own (map (holder_line r) hs) ≡ held_lines st s r (seek s hs)
          → cond b (holder_line r h ∷ filter is_own (map (holder_line r) hs)) (filter is_own (map (holder_line r) hs)) ≡ held_lines st s r (cond b (Some h.1) (seek s hs))
      go true e next =
          let same : h.0 ≡ s = (Decides-eqb h.0 s).0 e in
          let none : seek s hs ≡ None = subst (λ (u : ℕ). seek u hs ≡ None) same (seek-after h.0 hs parts.0) in
          λ i. holder_line r (same i, h.1) ∷ (next ∙ ap (held_lines st s r) none) i
      go false e next = next

  -- the lines of the resource that are locks of the session behind `a`
  kept-on : (a : Option (List ℕ)) (r : List ℕ) → IsOrdered st.table.held → filter (is_lock_of s a) (listed_on st r) ≡ cond (is_behind a r) (held_lines_on st s r) []
  kept-on a r o =
      filter-append p (xs ++ ys) zs
      ∙ (ap (λ (ls : List ListedClaim). ls ++ filter p zs) (filter-append p xs ys)
      ∙ ((λ i. (own i ++ none-kept (listed_as st Conversion) p (λ q. refl) (conversions st.table r) i) ++ none-kept (listed_as st Fresh) p (λ q. refl) (fresh_requests st.table r) i)
      ∙ alone))
    where
      p : ListedClaim → Bool
      p = is_lock_of s a

      xs : List ListedClaim
      xs = map (holder_line r) (holders r st.table.held)

      ys : List ListedClaim
      ys = map (listed_as st Conversion) (conversions st.table r)

      zs : List ListedClaim
      zs = map (listed_as st Fresh) (fresh_requests st.table r)

      own : filter p xs ≡ cond (is_behind a r) (held_lines_on st s r) []
      own = go (is_behind a r) refl
        where
          go : (b : Bool) → is_behind a r ≡ b → filter p xs ≡ cond b (held_lines_on st s r) []
          go true e =
              alike-kept (holder_line r) p is_own (λ h. ap (λ (b : Bool). eqb h.0 s && b) e ∙ and-true (eqb h.0 s)) (holders r st.table.held)
              ∙ (own-kept r (holders r st.table.held) (o r)
              ∙ ap (held_lines st s r) (sym (mode_in-seek s r st.table.held)))
            where
              and-true : (b : Bool) → (b && true) ≡ b
              and-true true = refl
              and-true false = refl
          go false e = none-kept (holder_line r) p (λ h. ap (λ (b : Bool). eqb h.0 s && b) e ∙ and-false (eqb h.0 s)) (holders r st.table.held)

      alone : ((cond (is_behind a r) (held_lines_on st s r) [] ++ []) ++ []) ≡ cond (is_behind a r) (held_lines_on st s r) []
      alone = go (is_behind a r) (held_mode st.table s r)
        where
          go : (b : Bool) (m : Option Mode) → ((cond b (held_lines st s r m) [] ++ []) ++ []) ≡ cond b (held_lines st s r m) []
          go true (Some m) = refl
          go true None = refl
          go false m = refl

  -- the session holds the resource
  abbrev pub holds : List ℕ → Bool
  holds r = is_some (held_mode st.table s r)

  -- the resource comes behind `a`, and the session holds it
  abbrev pub is_held_behind : Option (List ℕ) → List ℕ → Bool
  is_held_behind a r = is_behind a r && holds r

  -- the resources that the session holds behind `a`, in order
  abbrev pub held_behind : Option (List ℕ) → List (List ℕ)
  held_behind a = filter (is_held_behind a) (listed_resources st)

  -- the locks among the lines of several resources
  kept-all : (a : Option (List ℕ)) (rs : List (List ℕ)) → IsOrdered st.table.held → filter (is_lock_of s a) (flat_map (listed_on st) rs) ≡ flat_map (held_lines_on st s) (filter (is_held_behind a) rs)
  kept-all a [] o = refl
  kept-all a (r ∷ rs) o =
      filter-append (is_lock_of s a) (listed_on st r) (flat_map (listed_on st) rs)
      ∙ ((λ i. kept-on a r o i ++ kept-all a rs o i)
      ∙ go (is_behind a r) (held_mode st.table s r) refl)
    where
      rest : List (List ℕ)
      rest = filter (is_held_behind a) rs

      go : (b : Bool) (m : Option Mode) → held_mode st.table s r ≡ m → (cond b (held_lines st s r m) [] ++ flat_map (held_lines_on st s) rest) ≡ flat_map (held_lines_on st s) (cond (b && is_some m) (r ∷ rest) rest)
      go true (Some m) e = ap (λ (o : Option Mode). held_lines st s r o ++ flat_map (held_lines_on st s) rest) (sym e)
      go true None e = refl
      go false m e = refl

  -- the locks of the session behind `a` are its lines on these resources
  pub locks-lines : (a : Option (List ℕ)) → IsOrdered st.table.held → locks_of st s a ≡ flat_map (held_lines_on st s) (held_behind a)
  locks-lines a o = kept-all a (listed_resources st) o

  -- the resources that it holds behind `a` rise
  pub rise-held : (a : Option (List ℕ)) → rise (held_behind a) ≡ true
  rise-held a = rise-filter (is_held_behind a) (listed_resources st) (rise-resources (st.table.held ++ st.table.requests))

  -- and they are those which it holds and which come behind `a`
  pub has-held : (a : Option (List ℕ)) (r : List ℕ) → has_path r (held_behind a) ≡ is_held_behind a r
  has-held a r = has-filter (is_held_behind a) r (listed_resources st) ∙ go (is_behind a r) (holds r) refl
    where
      listed : holds r ≡ true → has_path r (listed_resources st) ≡ true
      listed h =
          has-resources r (st.table.held ++ st.table.requests)
          ∙ (list_any-append (λ (c : Claim). same_path c.resource r) st.table.held st.table.requests
          ∙ ap (λ (b : Bool). b || list_any (λ (c : Claim). same_path c.resource r) st.table.requests) (held-listed s r st.table.held h))

      go : (b c : Bool) → holds r ≡ c → ((b && c) && has_path r (listed_resources st)) ≡ (b && c)
      go true true e = listed e
      go true false e = refl
      go false c e = refl

  -- each of them is held
  pub all-held : (a : Option (List ℕ)) → list_all holds (held_behind a) ≡ true
  all-held a = weaken (held_behind a) (all-filter (is_held_behind a) (listed_resources st))
    where
      weaken : (rs : List (List ℕ)) → list_all (is_held_behind a) rs ≡ true → list_all holds rs ≡ true
      weaken [] h = refl
      weaken (r ∷ rs) h =
          let k = and_parts (is_held_behind a r) (list_all (is_held_behind a) rs) h in
          and_from (holds r) (list_all holds rs) (and_parts (is_behind a r) (holds r) k.0).1 (weaken rs k.1)

  -- resources that are held have one line each
  pub one-each : (n : ℕ) (rs : List (List ℕ)) → list_all holds rs ≡ true → take n (flat_map (held_lines_on st s) rs) ≡ flat_map (held_lines_on st s) (take n rs)
  one-each zero rs h = refl
  one-each (suc n) [] h = refl
  one-each (suc n) (r ∷ rs) h = let k = and_parts (holds r) (list_all holds rs) h in go (held_mode st.table s r) k.0 (one-each n rs k.1)
    where
      go : (m : Option Mode) → is_some m ≡ true → take n (flat_map (held_lines_on st s) rs) ≡ flat_map (held_lines_on st s) (take n rs)
          → take (suc n) (held_lines st s r m ++ flat_map (held_lines_on st s) rs) ≡ held_lines st s r m ++ flat_map (held_lines_on st s) (take n rs)
      go None k next = absurd (cc)
      go (Some m) k next = ap (λ (ls : List ListedClaim). lock_line st s r m ∷ ls) next

  -- the first locks of the session behind `a` are its lines on the first of these resources
  pub page-lines : (n : ℕ) (a : Option (List ℕ)) → IsOrdered st.table.held → take n (locks_of st s a) ≡ flat_map (held_lines_on st s) (take n (held_behind a))
  page-lines n a o = ap (take n) (locks-lines a o) ∙ one-each n (held_behind a) (all-held a)

  module _ (d : LockTable) (w : IsWhole d) (h : Shows d st) where
    -- the lines of a lock table are those of the state
    lines-shown : (r : List ℕ) → lock_lines_at d s r ≡ held_lines_on st s r
    lines-shown r = go (held_mode st.table s r) (mode-shown d st s r h)
      where
        told : transaction_shown d s ≡ transaction_of st s
        told = ap (λ (o : Option Transaction). record { number = number_in o; doomed = doomed_in o }) (h.transactions s)

        go : (m : Option Mode) → mode_held d s r ≡ m → lock_lines d s r (mode_held d s r) ≡ held_lines st s r m
        go None e = ap (lock_lines d s r) e
        go (Some m) e = ap (lock_lines d s r) e ∙ (λ i. record { resource = r; session = s; transaction = told i; mode = m; kind = Held } ∷ [])

    -- the resources of its locks are those of the state
    held-shown : (a : Option (List ℕ)) → in_order (those_behind a (standing s d).held) ≡ held_behind a
    held-shown a =
        same-lists (in_order (those_behind a (standing s d).held)) (held_behind a)
        (rise-in_order (those_behind a (standing s d).held)) (rise-held a)
        (λ r. has-in_order r (those_behind a (standing s d).held)
        ∙ (has-filter (is_behind a) r (standing s d).held
        ∙ (ap (λ (b : Bool). is_behind a r && b) (held-locker s r d w ∙ ap is_some (mode-shown d st s r h))
        ∙ sym (has-held a r))))

    -- its page is that of the state
    pub page-shown : (a : Option (List ℕ)) (n : ℕ) → IsOrdered st.table.held → page_of d s a n ≡ take n (locks_of st s a)
    page-shown a n o = (λ i. flat_map (λ r. lines-shown r i) (take n (held-shown a i))) ∙ sym (page-lines n a o)
