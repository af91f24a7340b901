use Rattle.std.proofs.Common.{◌≡◌, ◌+◌, ◌++◌, Some, length, map, drop}
use Rattle.std.specs.Prelude.{All, false, is_some}
use Rattle.library_sessions.proofs.opening.open_handles.Given as goal

abbrev pub invariant-loop-left : goal.invariant-loop-left
invariant-loop-left l = (map (λ share. Some share.value) l.shares.items ++ map (λ handle. handle.held.share) (drop (length l.shares.items) l.handles) ≡ map (λ share. Some share.value) l.initial.shares.items)
    × (length l.shares.items + l._left ≡ length l.handles) × All (λ share. is_some share.value.looking ≡ false) l.shares.items
