-- A locker tells how many locks its session holds, and whether the session waits.
use Rattle.std.proofs.Common.{◌≡◌, ℕ, ◌+◌, ◌≤◌, Bool, true, false, cond, not, eqb, ◌&&◌, ◌||◌, inl, inr, List, [], ◌∷◌, ◌++◌, length, map, Option, Some, None, is_some, refl, sym, ◌∙◌, ap, arith, subst}
use Rattle.std.proofs.Math.Bool.{or_assoc}
use Rattle.lock_rules.proofs.Once.{ordered-rest, none-behind}
use Rattle.std.specs.List.{list_any}
use Rattle.std.specs.Prelude.{filter}
use Rattle.std.proofs.lemmas.Bool.Decides.{nat_tests, Decides-eqb}
use Rattle.std.proofs.lemmas.Bool.{cases_Bool}
use Rattle.lock_tree.specs.Paths.{same_path}
use Rattle.lock_rules.specs.State as rules
use Rattle.lock_rules.specs.Queue.{queue, conversions, fresh_requests}
use Rattle.lock_rules.specs.Waits.{resource_of_request}
use Rattle.lock_rules.specs.Sound.{IsOrdered, IsSound, times}
use Rattle.lock_rules.proofs.Lists.{same_path-refl, same_path_tells}
use Rattle.lock_holders.specs.SessionModes.{has_session}
use Rattle.session_locks.specs.Resources.{has_path, AreApart}
use Rattle.lock_table.specs.inner.Lockers.{is_wanted, paths_but}
use Rattle.lock_table.specs.Shows.{short, claims_on}
use Rattle.lock_table.proofs.TableViews.{held-seen}
use Rattle.lock_table.proofs.GivingUp.{apart-but, other-but, gone-but, less-but}
use Rattle.lock_rules.proofs.Ranges.{both-ways}

-- the waiting request of a session

-- the session waits for the resource
abbrev pub waits_on : ℕ → List ℕ → List rules.Claim → Bool
waits_on u x ws = list_any (λ q. eqb q.session u && same_path q.resource x) ws

has-append : (u : ℕ) (xs ys : List rules.Claim) → has_session u (map short (xs ++ ys)) ≡ (has_session u (map short xs) || has_session u (map short ys))
has-append u [] ys = refl
has-append u (x ∷ xs) ys = ap (λ (b : Bool). eqb x.session u || b) (has-append u xs ys) ∙ sym (or_assoc (eqb x.session u) (has_session u (map short xs)) (has_session u (map short ys)))

two-kinds : (u : ℕ) (x : List ℕ) (p : rules.Claim → Bool) (ws : List rules.Claim) → (has_session u (map short (filter (λ q. same_path q.resource x && p q) ws)) || has_session u (map short (filter (λ q. same_path q.resource x && not (p q)) ws))) ≡ waits_on u x ws
two-kinds u x p [] = refl
two-kinds u x p (q ∷ ws) = grind (arith, cases_Bool (eqb q.session u), cases_Bool (same_path q.resource x), cases_Bool (p q), two-kinds u x p ws)

-- a session that waits for a resource is in its queue
pub queue-has : (u : ℕ) (x : List ℕ) (t : rules.Table) → has_session u (map short (queue t x)) ≡ waits_on u x t.requests
queue-has u x t =
    has-append u (conversions t x) (fresh_requests t x)
    ∙ two-kinds u x (λ q. is_some (rules.held_mode t q.session x)) t.requests

waits_on-request : (u : ℕ) (ws : List rules.Claim) (q : rules.Claim) → rules.request_of u ws ≡ Some q → waits_on u q.resource ws ≡ true
waits_on-request u [] q h = absurd (cc)
waits_on-request u (p ∷ ws) q h = go (eqb p.session u) h (waits_on-request u ws q)
  where
    go : (b : Bool) → cond b (Some p) (rules.request_of u ws) ≡ Some q → (rules.request_of u ws ≡ Some q → waits_on u q.resource ws ≡ true) → ((b && same_path p.resource q.resource) || waits_on u q.resource ws) ≡ true
    go true e next = let same : p ≡ q = cc in ap (λ (c : rules.Claim). same_path c.resource q.resource || waits_on u q.resource ws) same ∙ ap (λ (b : Bool). b || waits_on u q.resource ws) (same_path-refl q.resource)
    go false e next = next e

waits_on-some : (u : ℕ) (x : List ℕ) (ws : List rules.Claim) → waits_on u x ws ≡ true → is_some (rules.request_of u ws) ≡ true
waits_on-some u x [] h = absurd (cc)
waits_on-some u x (q ∷ ws) h = go (eqb q.session u) h (waits_on-some u x ws)
  where
    go : (b : Bool) → ((b && same_path q.resource x) || waits_on u x ws) ≡ true → (waits_on u x ws ≡ true → is_some (rules.request_of u ws) ≡ true) → is_some (cond b (Some q) (rules.request_of u ws)) ≡ true
    go true h next = refl
    go false h next = next h

waits_on-none : (u : ℕ) (x : List ℕ) (ws : List rules.Claim) → times u ws ≡ 0 → waits_on u x ws ≡ false
waits_on-none u x [] h = refl
waits_on-none u x (q ∷ ws) h = grind (arith, nat_tests, cases_Bool (same_path q.resource x), waits_on-none u x ws)

-- a session with one request waits where that request is
pub waits_on-once : (u : ℕ) (x : List ℕ) (ws : List rules.Claim) → times u ws ≤ 1 → waits_on u x ws ≡ has_path x (resource_of_request (rules.request_of u ws))
waits_on-once u x [] h = refl
waits_on-once u x (q ∷ ws) h = go (eqb q.session u) refl h (waits_on-once u x ws) (waits_on-none u x ws)
  where
    go : (b : Bool) → eqb q.session u ≡ b → cond b 1 0 + times u ws ≤ 1 → (times u ws ≤ 1 → waits_on u x ws ≡ has_path x (resource_of_request (rules.request_of u ws))) → (times u ws ≡ 0 → waits_on u x ws ≡ false)
        → ((b && same_path q.resource x) || waits_on u x ws) ≡ has_path x (resource_of_request (cond b (Some q) (rules.request_of u ws)))
    go true e h next none = ap (λ (c : Bool). same_path q.resource x || c) (none (omega (arith, h)))
    go false e h next none = next (omega (arith, h))

-- a locker tells whether its session waits
pub waits-told : (u : ℕ) (t : rules.Table) (o : Option (List ℕ)) → ((x : List ℕ) → is_wanted x o ≡ has_session u (map short (queue t x))) → is_some o ≡ is_some (rules.request_of u t.requests)
waits-told u t o h = both-ways (is_some o) (is_some (rules.request_of u t.requests)) (there o h) (back (rules.request_of u t.requests) refl)
  where
    there : (o : Option (List ℕ)) → ((x : List ℕ) → is_wanted x o ≡ has_session u (map short (queue t x))) → is_some o ≡ true → is_some (rules.request_of u t.requests) ≡ true
    there None h e = absurd (cc)
    there (Some p) h e = waits_on-some u p t.requests (sym (queue-has u p t) ∙ (sym (h p) ∙ same_path-refl p))

    some-wanted : (x : List ℕ) (o : Option (List ℕ)) → is_wanted x o ≡ true → is_some o ≡ true
    some-wanted x None e = cc
    some-wanted x (Some p) e = refl

    back : (q : Option rules.Claim) → rules.request_of u t.requests ≡ q → is_some q ≡ true → is_some o ≡ true
    back None e k = absurd (cc)
    back (Some q) e k = some-wanted q.resource o (h q.resource ∙ (queue-has u q.resource t ∙ waits_on-request u t.requests q e))

-- the number of locks of a session

-- two lists without repetition that have the same resources have the same length
pub as-long : (xs ys : List (List ℕ)) → AreApart xs → AreApart ys → ((x : List ℕ) → has_path x xs ≡ has_path x ys) → length xs ≡ length ys
as-long [] [] a b h = refl
as-long [] (y ∷ ys) a b h = absurd (let e = h y in let f = same_path-refl y in grind (arith))
as-long (x ∷ xs) ys a b h =
    let there : has_path x ys ≡ true = sym (h x) ∙ ap (λ (c : Bool). c || has_path x xs) (same_path-refl x) in
    let n = less-but x ys b there in
    let rest = as-long xs (paths_but x ys) a.1 (apart-but x ys b) same in
    omega (arith, n, rest)
  where
    same : (z : List ℕ) → has_path z xs ≡ has_path z (paths_but x ys)
    same z = elim (same_path_tells x z) [
      | inl k ↦ subst (λ (w : List ℕ). has_path w xs ≡ has_path w (paths_but x ys)) k.1 (a.0 ∙ sym (gone-but x ys))
      | inr k ↦ ap (λ (c : Bool). c || has_path z xs) (sym k) ∙ (h z ∙ sym (other-but x z ys k))
    ]

-- the resources that a session holds in a table
abbrev pub locks_in : ℕ → List rules.Claim → List (List ℕ)
locks_in s cs = map (λ (c : rules.Claim). c.resource) (rules.claims_of s cs)

-- they are the resources where it is a holder
pub listed : (s : ℕ) (x : List ℕ) (cs : List rules.Claim) → has_path x (locks_in s cs) ≡ has_session s (claims_on x cs)
listed s x [] = refl
listed s x (c ∷ cs) = grind (arith, cases_Bool (eqb c.session s), cases_Bool (same_path c.resource x), listed s x cs)

-- none of them is there twice
locks-apart : (s : ℕ) (cs : List rules.Claim) → IsOrdered cs → AreApart (locks_in s cs)
locks-apart s [] o = tt
locks-apart s (c ∷ cs) o = go (eqb c.session s) refl (locks-apart s cs (ordered-rest c cs o))
  where
    none : c.session ≡ s → has_path c.resource (locks_in s cs) ≡ false
    none e = listed s c.resource cs ∙ (sym (held-seen s c.resource cs) ∙ ap is_some (subst (λ (i : ℕ). rules.mode_in i c.resource cs ≡ None) e (none-behind c cs o)))

    go : (b : Bool) → eqb c.session s ≡ b → AreApart (locks_in s cs) → AreApart (map (λ (c : rules.Claim). c.resource) (cond b (c ∷ rules.claims_of s cs) (rules.claims_of s cs)))
    go true e rest = (none ((Decides-eqb c.session s).0 e), rest)
    go false e rest = rest

map-length : (cs : List rules.Claim) → length (map (λ (c : rules.Claim). c.resource) cs) ≡ length cs
map-length [] = refl
map-length (c ∷ cs) = omega (arith, map-length cs)

-- a locker tells how many locks its session holds
pub locks-told : (s : ℕ) (t : rules.Table) (rs : List (List ℕ)) → IsSound t → AreApart rs → ((x : List ℕ) → has_path x rs ≡ has_session s (claims_on x t.held)) → length rs ≡ length (rules.claims_of s t.held)
locks-told s t rs i a h = as-long rs (locks_in s t.held) a (locks-apart s t.held i.order) (λ x. h x ∙ sym (listed s x t.held)) ∙ map-length (rules.claims_of s t.held)
