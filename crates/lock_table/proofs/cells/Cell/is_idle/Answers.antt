use Rattle.std.proofs.Common.{◌≡◌, ◌∙◌, ◌&&◌, ℕ, Bool, true, false, not, eqb, List, [], ◌∷◌, length, ap, sym, refl, arith}
use Rattle.std.specs.Prelude.{◌==◌}
use Rattle.std.proofs.lemmas.Bool.Decides.{nat_tests}
use Rattle.lock_table.specs.inner.Cells.{view_of}
use Rattle.lock_holders.specs.SessionModes.{is_nobody}
use Rattle.lock_holders.specs.declared.session_mode.SessionMode.{SessionMode}
use Rattle.lock_table.proofs.cells.Cell.is_idle.Goals as goal

-- a list is empty exactly if its length is 0
none-there : (cs : List SessionMode) → is_nobody cs ≡ eqb (length cs) 0
none-there [] = refl
none-there (c ∷ cs) = grind (arith, nat_tests)

twice-not : (b : Bool) → not (not b) ≡ b
twice-not true = refl
twice-not false = refl

pub returns-then-len-eq0 : goal.returns-then-len-eq0
returns-then-len-eq0 c =
    let v = view_of c.args.self.now in
    let held : is_nobody v.holders ≡ true = none-there v.holders ∙ ap (λ (n : ℕ). eqb n 0) (sym c.len.ensures ∙ c.if-len-eq0.true) in
    let waits : c.is_empty.result ≡ is_nobody v.waiting = c.is_empty.ensures ∙ (ap (λ (n : ℕ). n == 0) c.args.self.now.waiting.ok.0 ∙ sym (none-there v.waiting)) in
    waits ∙ sym (twice-not (is_nobody v.holders && is_nobody v.waiting) ∙ ap (λ (b : Bool). b && is_nobody v.waiting) held)

pub returns-else-len-eq0 : goal.returns-else-len-eq0
returns-else-len-eq0 c =
    let v = view_of c.args.self.now in
    let some : eqb c.len.result 0 ≡ false = grind (arith, nat_tests, c.if-len-eq0.false) in
    let held : is_nobody v.holders ≡ false = none-there v.holders ∙ (ap (λ (n : ℕ). eqb n 0) (sym c.len.ensures) ∙ some) in
    some ∙ sym (twice-not (is_nobody v.holders && is_nobody v.waiting) ∙ ap (λ (b : Bool). b && is_nobody v.waiting) held)
