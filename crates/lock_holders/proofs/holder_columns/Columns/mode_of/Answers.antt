use Rattle.std.proofs.Common.{◌≡◌, get_or, Some, ap, sym, ◌∙◌}
use Rattle.lock_modes.specs.declared.Mode.{Mode}
use Rattle.lock_modes.specs.declared.Mode.TheVariants.{NL}
use Rattle.lock_modes.specs.Codes.{mode_of_code}
use Rattle.lock_modes.proofs.Codes.{mode_of_code-code}
use Rattle.lock_holders.specs.declared.session_mode.SessionMode.{SessionMode}
use Rattle.lock_holders.specs.inner.Columns.{code_at}
use Rattle.lock_holders.specs.Holders.{IsOwn}
use Rattle.lock_holders.proofs.Rising.{mode-own, mode-between}
use Rattle.lock_holders.proofs.Columns.{columns-of, reads}
use Rattle.lock_holders.proofs.holder_columns.Columns.mode_of.Goals as goal

pub returns-in-Own : goal.returns-in-Own
returns-in-Own c =
    let hs = c.args.self.now.items in
    let n = c.in-Own.index in
    let d : SessionMode = record { session = 0; mode = NL } in
    let own : IsOwn c.args.session hs n = c.in-Own.ensures in
    let o = columns-of c.self.inside c.args.self.now c.self.view_is c.self.invariant in
    let cs = c.as_slice-codes.result.now in
    let at : get_or cs n 0 ≡ code_at (get_or hs n d) = reads code_at cs hs (c.as_slice-codes.ensures ∙ o.codes) n 0 d own.within in
    ap (λ (m : Mode). Some m) (c.from_code_or_nl.ensures ∙ (ap mode_of_code at ∙ mode_of_code-code (get_or hs n d).mode)) ∙ sym (mode-own c.args.session hs n d own)

pub returns-in-Between : goal.returns-in-Between
returns-in-Between c = sym (mode-between c.args.session c.args.self.now.items _ c.in-Between.ensures)
