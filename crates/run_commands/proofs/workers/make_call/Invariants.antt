use Rattle.std.proofs.Common.{◌≡◌, ◌⊎◌, ◌+◌, ℕ, Some}
use Rattle.run_commands.proofs.workers.make_call.Given as goal

-- the session is as before, or has the call pending, and each turn so far was counted
abbrev pub invariant-loop-made : goal.invariant-loop-made
invariant-loop-made g l = record {
  ours : g.S.Service.is_of l.service l.session;
  calls : (g.S.Service.calls l.session ≡ g.S.Service.calls l.initial.session)
      ⊎ (g.S.Service.calls l.session ≡ record (g.S.Service.calls l.initial.session) { pending = Some l.call });
  tried : (before : ℕ) → g.S.Service.has_tried l.initial.session before → g.S.Service.has_tried l.session (before + l.made);
}
