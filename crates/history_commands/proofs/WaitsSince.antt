-- Since when sessions wait, noted entry by entry.
use Rattle.std.proofs.Common.{◌≡◌, ℕ, ◌+◌, ◌<◌, cond, List, [], ◌∷◌, ◌++◌, take, get_or, map, length, length-take, sym, ap, ap₂, ◌∙◌, arith}
use Rattle.std.proofs.lemmas.List.{map-append, take_more}
use Rattle.lock_rules.specs.Entries.{Entry}
use Rattle.lock_report.proofs.Pieces.{with_next}
use Rattle.lock_report.specs.declared.snapshot.WaitLine.{WaitLine}
use Rattle.history_commands.specs.Waits.{AreSince, begins_wait, since_from, waits_since, with_since}

-- the last of some entries tells, if a wait began with it
pub since-push : (s last place : ℕ) (es : List Entry) (e : Entry) → since_from s last place (es ++ e ∷ []) ≡ cond (begins_wait s e) (place + length es) (since_from s last place es)
since-push s last place [] e = let none : place + 0 ≡ place = omega arith in ap (λ (k : ℕ). cond (begins_wait s e) k last) (sym none)
since-push s last place (x ∷ es) e =
    let rest = since_from s (cond (begins_wait s x) place last) (place + 1) es in
    let long : place + 1 + length es ≡ place + length (x ∷ es) = omega arith in
    since-push s (cond (begins_wait s x) place last) (place + 1) es e ∙ ap (λ (k : ℕ). cond (begins_wait s e) k rest) long

-- with one entry more
one-more : (s i : ℕ) (es : List Entry) (e : Entry) → i < length es → e ≡ get_or es i e → waits_since s (take (i + 1) es) ≡ cond (begins_wait s e) i (waits_since s (take i es))
one-more s i es e lt is =
    let long : 0 + length (take i es) ≡ i = omega (arith, length-take i es) in
    ap (waits_since s) (with_next es i e lt is) ∙ (since-push s 0 0 (take i es) e ∙ ap (λ (k : ℕ). cond (begins_wait s e) k (waits_since s (take i es))) long)

-- the places behind one entry more
pub since-more : (i : ℕ) (es : List Entry) (e : Entry) (old new : List ℕ) → i < length es → e ≡ get_or es i e → length new ≡ length old
    → ((s : ℕ) → s < length old → get_or new s 0 ≡ cond (begins_wait s e) i (get_or old s 0)) → AreSince (take i es) old → AreSince (take (i + 1) es) new
since-more i es e old new lt is same told so_far s below =
    let there : s < length old = omega (arith, same, below) in
    told s there ∙ (ap (λ (k : ℕ). cond (begins_wait s e) i k) (so_far s there) ∙ sym (one-more s i es e lt is))

-- one wait more is told
pub waits-more : (es : List Entry) (ws : List WaitLine) (i : ℕ) (d : WaitLine) (old new : List WaitLine) (x : WaitLine) → i < length ws → x ≡ with_since es (get_or ws i d)
    → old ≡ map (with_since es) (take i ws) → new ≡ old ++ x ∷ [] → new ≡ map (with_since es) (take (i + 1) ws)
waits-more es ws i d old new x lt is so_far more =
    more ∙ (ap₂ (λ (l : List WaitLine) (y : WaitLine). l ++ y ∷ []) so_far is
    ∙ sym (ap (map (with_since es)) (take_more ws i d lt) ∙ map-append (with_since es) (take i ws) (get_or ws i d ∷ [])))
