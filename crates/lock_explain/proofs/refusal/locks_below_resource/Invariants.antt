use Rattle.std.proofs.Common.{◌≡◌, filter, take}
use Rattle.lock_explain.specs.Refused.{is_lock_below}
use Rattle.lock_explain.proofs.refusal.locks_below_resource.Given as goal

-- The lines before this one are looked through.
abbrev pub invariant-loop-line : goal.invariant-loop-line
invariant-loop-line l = l.below.items ≡ filter (is_lock_below l.session l.resource) (take l.line-index l.line-items)
