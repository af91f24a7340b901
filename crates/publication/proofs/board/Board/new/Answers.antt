use Rattle.std.proofs.Common.{rules, ◌≡◌, ◌≤◌, ◌∷◌, ◌∙◌, ℕ, zero, suc, List, [], replicate, get_or, set, ◌+◌, sym, subst, arith}
use Rattle.publication.specs.Words.{word_of, END}
use Rattle.publication.specs.declared.slot.SlotValue.TheVariants.{Empty, ObjectLoad}
use Rattle.publication.proofs.NewBoards.{begins_bounded}
use Rattle.publication.proofs.board.Board.new.Goals as goal

-- No pass has served anybody yet.
no_ages : (n passes i : ℕ) → get_or {A = ℕ} (replicate n 0) i 0 ≤ passes
no_ages zero passes i = omega arith
no_ages (suc n) passes zero = omega arith
no_ages (suc n) passes (suc i) = no_ages n passes i

pub new-requires-4 : goal.new-requires-4
new-requires-4 g c = let n = c.sessions-sessions.result in
    let words : c.as_slice.result.now ≡ set (replicate (word_of (n + 1)) 0) 1 END = c.as_slice.ensures.value ∙ search rules in
    let load = c.in_ok-load.load in
    let ages : load.value.ages.items ≡ replicate n 0 = search rules in
    let slots : c.in_ok-slots.slots.items ≡ ObjectLoad load ∷ replicate n Empty = search rules in
    let untaken : load.value.pieces.items ≡ [] = search rules in
    let uncut : (g.O.Sequential.cut load.value.object) ≡ 0 = search rules in
    let kept : c.push.new.self.items ≡ load.value.object ∷ [] = search rules in
    rw (words, slots) (begins_bounded n load (record { history = search rules; sessions = search rules; empty = search rules; room = search rules; ages = search rules; past = λ i. subst (λ (l : List ℕ). get_or l i 0 ≤ load.value.passes) (sym ages) (no_ages n load.value.passes i); pieces = rw untaken (omega arith); in_a_row = λ _. rw untaken (omega (arith, uncut)) }) g.met.O.Sequential.empty untaken c.push.new.self.items kept)
