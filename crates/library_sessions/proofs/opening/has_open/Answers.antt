use Rattle.std.proofs.Common.{rules, ◌≡◌, get_or, subst}
use Rattle.library_sessions.specs.declared.session_handle.SessionHandle.{SessionHandle}
use Rattle.library_sessions.proofs.opening.has_open.Goals as goal

pub returns-then-handles-k-eq1-clause-open : goal.returns-then-handles-k-eq1-clause-open
returns-then-handles-k-eq1-clause-open c =
    let h = c.index-handles-k.result in
    let at : get_or c.args.handles.now c.loop-k.k h ≡ h = search rules in
    let is_open : (get_or c.args.handles.now c.loop-k.k h).is_open ≡ 1 = search rules in
    λ _. (c.loop-k.k, h, search rules, at, subst (λ (x : SessionHandle). x.is_open ≡ 1) at is_open)
