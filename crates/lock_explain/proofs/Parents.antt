-- A request that is refused for its parent is for a resource that has one.
use Rattle.std.proofs.Common.{◌≡◌, ◌∙◌, ℕ, true, List, ap, sym}
use Rattle.lock_modes.specs.declared.Mode.{Mode}
use Rattle.lock_tree.specs.Paths.{has_parent}
use Rattle.lock_rules.specs.declared.calls.Call.{Call}
use Rattle.lock_rules.specs.declared.calls.Call.TheVariants.{Lock, Convert, Try}
use Rattle.lock_rules.specs.Entries.{Entry}
use Rattle.lock_rules.specs.declared.calls.Reply.TheVariants.{Refused}
use Rattle.lock_rules.specs.declared.calls.Why.{Why}
use Rattle.lock_rules.specs.declared.calls.Why.TheVariants.{ParentNotHeld}
use Rattle.lock_rules.specs.Legal.{state_of}
use Rattle.lock_rules.specs.Step.{step}
use Rattle.lock_rules.proofs.Lawful.{lawful}

-- a lock
pub lock-has-parent : (es : List Entry) (s : ℕ) (call : Call) (why : Why) (r : List ℕ) (m : Mode) → (step (state_of es) s call).reply ≡ Refused why → call ≡ Lock r m → why ≡ ParentNotHeld → has_parent r ≡ true
lock-has-parent es s call why r m h is because =
    let refused = ap (λ (x : Call). (step (state_of es) s x).reply) (sym is) ∙ h ∙ ap (λ (w : Why). Refused w) because in
    (((lawful es).refusals_meant s (Lock r m) ParentNotHeld).0 refused).3.2

-- a conversion
pub convert-has-parent : (es : List Entry) (s : ℕ) (call : Call) (why : Why) (r : List ℕ) (m : Mode) → (step (state_of es) s call).reply ≡ Refused why → call ≡ Convert r m → why ≡ ParentNotHeld → has_parent r ≡ true
convert-has-parent es s call why r m h is because =
    let refused = ap (λ (x : Call). (step (state_of es) s x).reply) (sym is) ∙ h ∙ ap (λ (w : Why). Refused w) because in
    (((lawful es).refusals_meant s (Convert r m) ParentNotHeld).0 refused).3.2

-- a try
pub try-has-parent : (es : List Entry) (s : ℕ) (call : Call) (why : Why) (r : List ℕ) (m : Mode) → (step (state_of es) s call).reply ≡ Refused why → call ≡ Try r m → why ≡ ParentNotHeld → has_parent r ≡ true
try-has-parent es s call why r m h is because =
    let refused = ap (λ (x : Call). (step (state_of es) s x).reply) (sym is) ∙ h ∙ ap (λ (w : Why). Refused w) because in
    (((lawful es).refusals_meant s (Try r m) ParentNotHeld).0 refused).3.2
