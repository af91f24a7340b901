use Rattle.std.proofs.Common.{◌≡◌, ℕ, ◌+◌, ◌-◌, ◌*◌, ◌/◌, ◌<◌, ◌≤◌, Bool, true, not, ◌&&◌, eqb, List, get_or, length, length-set, get_or-set_same, sym, ◌∙◌, arith}
use Rattle.waits_for.specs.Pairs.{Pairs, pairs_of}
use Rattle.waits_for.specs.inner.Bits.{has_bit, words_for, unset_below}
use Rattle.waits_for.proofs.BitRows.{bit-all_cleared, unset-most, unset-some}
use Rattle.waits_for.proofs.DepthFirst.{IsDepthFirst, IsLeading, depth_first-begun, depth_first-pushed, depth_first-popped, depth_first-all, leading-begun, leading-pushed, leading-more, leading-noted, leading-popped, from-within, less-own, less-more}
use Rattle.waits_for.proofs.Places.{pairs_of-within}
use Rattle.waits_for.proofs.search.search_depth_first.Goals as goal

pub loop-depth-init : goal.loop-depth-init
loop-depth-init c =
    let p = pairs_of c.args.matrix.now in
    let t = c.args.t in
    let unseen = c.unset.new.words in
    let one : (j : ℕ) → has_bit unseen j ≡ (has_bit c.args.unseen.now j && not (eqb j t)) = c.unset.ensures in
    let none = bit-all_cleared c.args.circle.now c.clear.new.words _ (omega arith) c.clear.ensures in
    let own = less-own c.args.unseen.now unseen t one in
    let len = length-set c.args.stack.now 0 t in
    record {
      unseen_room = omega (arith, c.unset.auto.words, c.requires.unseen_room);
      circle_room = omega (arith, c.set.auto.words, c.clear.auto.words, c.requires.circle_room);
      stack_room = omega (arith, len, c.requires.stack_room);
      links_room = c.requires.links_room;
      few = unset-some c.args.matrix.now.sessions unseen t c.requires.t_below own;
      search = depth_first-begun p t c.args.unseen.now c.requires.unseen unseen _ one (get_or-set_same c.args.stack.now 0 t 0 (omega (arith, c.requires.stack_room, c.requires.t_below)));
      leading = leading-begun p t c.clear.new.words c.set.new.words _ none c.set.ensures;
    }

-- The stack has no more sessions than there are.
depth-within : (n depth : ℕ) (unseen : List ℕ) → depth ≤ unset_below n unseen → depth ≤ n
depth-within n depth unseen few = omega (arith, few, unset-most n unseen)

pub offset_bounds-stack-depth : goal.offset_bounds-stack-depth
offset_bounds-stack-depth c = omega (arith, depth-within c.args.matrix.now.sessions c.loop-depth.depth c.loop-depth.unseen c.loop-depth.invariant.few, c.sessions-sessions.ensures.sessions, c.sessions-sessions.type_inv)

pub bounds-stack-depth : goal.bounds-stack-depth
bounds-stack-depth c = omega (arith, depth-within c.args.matrix.now.sessions c.loop-depth.depth c.loop-depth.unseen c.loop-depth.invariant.few, c.loop-depth.invariant.stack_room, c.loop-depth-test.true)

pub row-row-requires : goal.row-row-requires
row-row-requires c = from-within c.args.matrix.now c.args.t _ c.requires.t_below (c.loop-depth.invariant.search.stacked (c.loop-depth.depth - 1) (omega (arith, c.loop-depth-test.true)))

-- A position below the number of sessions has a place in a row.
place : (n v len : ℕ) → v < n → len ≡ words_for n → v / 64 < len
place n v len lt e = omega (arith, lt, e)

-- A session that is pushed is below the number of sessions.
pushed-within : (p : Pairs) (row : List ℕ) (v u : ℕ) → ((j : ℕ) → has_bit row j ≡ pairs_of p v j) → has_bit row u ≡ true → u < p.sessions
pushed-within p row v u bits is = (pairs_of-within p v u (sym (bits u) ∙ is)).1

pub bounds-links-u : goal.bounds-links-u
bounds-links-u c = omega (arith, pushed-within c.args.matrix.now c.row-row.result.now _ c.in-Some.u c.row-row.ensures.bits c.in-Some.ensures.some.1, c.loop-depth.invariant.links_room)

pub bounds-stack-depth-in-Some : goal.bounds-stack-depth-in-Some
bounds-stack-depth-in-Some c =
    let h = c.loop-depth.invariant in
    let n = c.args.matrix.now.sessions in
    let below = pushed-within c.args.matrix.now c.row-row.result.now _ c.in-Some.u c.row-row.ensures.bits c.in-Some.ensures.some.1 in
    let more = less-more n c.loop-depth.unseen c.unset-in-Some.new.words c.in-Some.u c.unset-in-Some.ensures below c.in-Some.ensures.some.2 in
    omega (arith, h.stack_room, h.few, more, unset-most n c.unset-in-Some.new.words)

pub offset_bounds-stack-depth-in-Some : goal.offset_bounds-stack-depth-in-Some
offset_bounds-stack-depth-in-Some c = omega (arith, depth-within c.args.matrix.now.sessions c.loop-depth.depth c.loop-depth.unseen c.loop-depth.invariant.few, c.sessions-sessions.ensures.sessions, c.sessions-sessions.type_inv)

pub overflow_add-depth : goal.overflow_add-depth
overflow_add-depth c = omega (arith, depth-within c.args.matrix.now.sessions c.loop-depth.depth c.loop-depth.unseen c.loop-depth.invariant.few, c.sessions-sessions.ensures.sessions, c.sessions-sessions.type_inv)

pub loop-depth-smaller-in-Some : goal.loop-depth-smaller-in-Some
loop-depth-smaller-in-Some c =
    let n = c.args.matrix.now.sessions in
    let below = pushed-within c.args.matrix.now c.row-row.result.now _ c.in-Some.u c.row-row.ensures.bits c.in-Some.ensures.some.1 in
    let more = less-more n c.loop-depth.unseen c.unset-in-Some.new.words c.in-Some.u c.unset-in-Some.ensures below c.in-Some.ensures.some.2 in
    smaller n (unset_below n c.loop-depth.unseen) (unset_below n c.unset-in-Some.new.words) c.loop-depth.depth more (unset-most n c.unset-in-Some.new.words)
  where
    smaller : (n old new depth : ℕ) → old < new → new ≤ n → 2 * (n - new) + (depth + 1) < 2 * (n - old) + depth
    smaller n old new depth lt le = omega (arith, lt, le)

pub loop-depth-preserved-in-Some : goal.loop-depth-preserved-in-Some
loop-depth-preserved-in-Some c =
    let h = c.loop-depth.invariant in
    let n = c.args.matrix.now.sessions in
    let p = pairs_of c.args.matrix.now in
    let stack = c.loop-depth.stack in
    let depth = c.loop-depth.depth in
    let u = c.in-Some.u in
    let len = length-set stack depth u in
    let below = pushed-within c.args.matrix.now c.row-row.result.now _ u c.row-row.ensures.bits c.in-Some.ensures.some.1 in
    let more = less-more n c.loop-depth.unseen c.unset-in-Some.new.words u c.unset-in-Some.ensures below c.in-Some.ensures.some.2 in
    let top : depth - 1 + 1 ≡ depth = omega (arith, c.loop-depth-test.true) in
    let step = sym (c.row-row.ensures.bits u) ∙ c.in-Some.ensures.some.1 in
    let room : depth < length stack = omega (arith, h.stack_room, h.few, more, unset-most n c.unset-in-Some.new.words) in
    record {
      unseen_room = omega (arith, c.unset-in-Some.auto.words, h.unseen_room);
      circle_room = h.circle_room;
      stack_room = omega (arith, len, h.stack_room);
      links_room = length-set c.loop-depth.links u _ ∙ h.links_room;
      few = omega (arith, h.few, more);
      search = depth_first-pushed p c.args.t c.args.unseen.now c.loop-depth.unseen stack depth c.loop-depth.from (depth - 1) h.search top c.unset-in-Some.new.words u
          step (λ j le lt to. c.in-Some.ensures.least j le lt (c.row-row.ensures.bits j ∙ to)) c.unset-in-Some.ensures room;
      leading = leading-pushed p c.args.t c.loop-depth.circle stack depth h.leading (depth - 1) u top step room;
    }

pub overflow_add-from : goal.overflow_add-from
overflow_add-from c =
    let below = from-within c.args.matrix.now c.args.t _ c.requires.t_below (c.loop-depth.invariant.search.stacked (c.loop-depth.depth - 1) (omega (arith, c.loop-depth-test.true))) in
    omega (arith, below, c.sessions-sessions.ensures.sessions, c.sessions-sessions.type_inv)

-- A session on the stack waits for the one above it.
linked-at : (pairs : ℕ → ℕ → Bool) (t : ℕ) (circle stack : List ℕ) (depth : ℕ) → IsLeading pairs t circle stack depth → (k above : ℕ) → k + 1 ≡ above → above < depth → pairs (get_or stack k 0) (get_or stack above 0) ≡ true
linked-at pairs t circle stack depth s k above e lt = rw (← e) (s.linked k (omega (arith, e, lt)))

pub returns-clause-all : goal.returns-clause-all
returns-clause-all c =
    let h = c.loop-depth.invariant.search in
    let e : c.loop-depth.depth ≡ 0 = omega (arith, c.loop-depth-test.false) in
    depth_first-all (pairs_of c.args.matrix.now) c.args.t c.args.unseen.now c.loop-depth.unseen c.loop-depth.stack c.loop-depth.from (rw e at h)

-- The top of the stack, and the session below it, are below the number of sessions.
stack-within : (p : Pairs) (t : ℕ) (waiting unseen stack : List ℕ) (depth from : ℕ) → t < p.sessions → IsDepthFirst (pairs_of p) t waiting unseen stack depth from → (k : ℕ) → k < depth → get_or stack k 0 < p.sessions
stack-within p t waiting unseen stack depth from lt s k within = from-within p t (get_or stack k 0) lt (s.stacked k within)

pub note_if_leads-requires-clause-circle_room : goal.note_if_leads-requires-clause-circle_room
note_if_leads-requires-clause-circle_room c =
    let h = c.loop-depth.invariant in
    let depth = c.loop-depth.depth in
    place c.args.matrix.now.sessions (get_or c.loop-depth.stack (depth - 1) 0) _ (stack-within c.args.matrix.now c.args.t c.args.unseen.now c.loop-depth.unseen c.loop-depth.stack depth c.loop-depth.from c.requires.t_below h.search (depth - 1) (omega (arith, c.loop-depth-test.true))) h.circle_room

pub note_if_leads-requires-clause-links_room : goal.note_if_leads-requires-clause-links_room
note_if_leads-requires-clause-links_room c =
    let h = c.loop-depth.invariant in
    let depth = c.loop-depth.depth in
    omega (arith, stack-within c.args.matrix.now c.args.t c.args.unseen.now c.loop-depth.unseen c.loop-depth.stack depth c.loop-depth.from c.requires.t_below h.search (depth - 1) (omega (arith, c.loop-depth-test.true)), h.links_room)

pub offset_bounds-stack-depth-then-depth-gt0 : goal.offset_bounds-stack-depth-then-depth-gt0
offset_bounds-stack-depth-then-depth-gt0 c = omega (arith, depth-within c.args.matrix.now.sessions c.loop-depth.depth c.loop-depth.unseen c.loop-depth.invariant.few, c.sessions-sessions.ensures.sessions, c.sessions-sessions.type_inv)

pub bounds-stack-depth-then-depth-gt0 : goal.bounds-stack-depth-then-depth-gt0
bounds-stack-depth-then-depth-gt0 c = omega (arith, depth-within c.args.matrix.now.sessions c.loop-depth.depth c.loop-depth.unseen c.loop-depth.invariant.few, c.loop-depth.invariant.stack_room, c.loop-depth-test.true)

pub note_lead-requires-clause-circle_room : goal.note_lead-requires-clause-circle_room
note_lead-requires-clause-circle_room c =
    let h = c.loop-depth.invariant in
    let depth = c.loop-depth.depth in
    place c.args.matrix.now.sessions (get_or c.loop-depth.stack (depth - 1 - 1) 0) _ (stack-within c.args.matrix.now c.args.t c.args.unseen.now c.loop-depth.unseen c.loop-depth.stack depth c.loop-depth.from c.requires.t_below h.search (depth - 1 - 1) (omega (arith, c.loop-depth-test.true))) (c.note_if_leads.auto.circle ∙ h.circle_room)

pub note_lead-requires-clause-links_room : goal.note_lead-requires-clause-links_room
note_lead-requires-clause-links_room c =
    let h = c.loop-depth.invariant in
    let depth = c.loop-depth.depth in
    omega (arith, stack-within c.args.matrix.now c.args.t c.args.unseen.now c.loop-depth.unseen c.loop-depth.stack depth c.loop-depth.from c.requires.t_below h.search (depth - 1 - 1) (omega (arith, c.loop-depth-test.true)), c.note_if_leads.auto.links, h.links_room)

pub loop-depth-preserved : goal.loop-depth-preserved
loop-depth-preserved c =
    let h = c.loop-depth.invariant in
    let p = pairs_of c.args.matrix.now in
    let t = c.args.t in
    let stack = c.loop-depth.stack in
    let depth = c.loop-depth.depth in
    let top : depth - 1 + 1 ≡ depth = omega (arith, c.loop-depth-test.true) in
    record {
      unseen_room = h.unseen_room;
      circle_room = c.note_if_leads.auto.circle ∙ h.circle_room;
      stack_room = h.stack_room;
      links_room = c.note_if_leads.auto.links ∙ h.links_room;
      few = omega (arith, h.few);
      search = depth_first-popped p t c.args.unseen.now c.loop-depth.unseen stack depth c.loop-depth.from (depth - 1) h.search top (λ j le to. c.in_default.ensures.none j le (c.row-row.ensures.bits j ∙ to));
      leading = leading-noted p t c.loop-depth.circle stack (depth - 1) (leading-popped p t c.loop-depth.circle stack depth h.leading (depth - 1) (omega arith)) (get_or stack (depth - 1) 0) c.row-row.result.now c.note_if_leads.new.circle c.row-row.ensures.bits c.note_if_leads.ensures.adds;
    }

pub loop-depth-preserved-then-depth-gt0 : goal.loop-depth-preserved-then-depth-gt0
loop-depth-preserved-then-depth-gt0 c =
    let h = c.loop-depth.invariant in
    let p = pairs_of c.args.matrix.now in
    let t = c.args.t in
    let stack = c.loop-depth.stack in
    let depth = c.loop-depth.depth in
    let v = get_or stack (depth - 1) 0 in
    let top : depth - 1 + 1 ≡ depth = omega (arith, c.loop-depth-test.true) in
    let above : depth - 1 - 1 + 1 ≡ depth - 1 = omega (arith, c.if-depth-gt0.true) in
    let step = linked-at p t c.loop-depth.circle stack depth h.leading (depth - 1 - 1) (depth - 1) above (omega (arith, c.loop-depth-test.true)) in
    let noted = leading-noted p t c.loop-depth.circle stack (depth - 1) (leading-popped p t c.loop-depth.circle stack depth h.leading (depth - 1) (omega arith)) v c.row-row.result.now c.note_if_leads.new.circle c.row-row.ensures.bits c.note_if_leads.ensures.adds in
    record {
      unseen_room = h.unseen_room;
      circle_room = c.note_lead.auto.circle ∙ (c.note_if_leads.auto.circle ∙ h.circle_room);
      stack_room = h.stack_room;
      links_room = c.note_lead.auto.links ∙ (c.note_if_leads.auto.links ∙ h.links_room);
      few = omega (arith, h.few);
      search = depth_first-popped p t c.args.unseen.now c.loop-depth.unseen stack depth c.loop-depth.from (depth - 1) h.search top (λ j le to. c.in_default.ensures.none j le (c.row-row.ensures.bits j ∙ to));
      leading = leading-more p t c.note_if_leads.new.circle stack (depth - 1) noted (get_or stack (depth - 1 - 1) 0) v c.note_lead.new.circle step (c.note_if_leads.ensures.leads c.if-note_if_leads.true) c.note_lead.ensures;
    }
