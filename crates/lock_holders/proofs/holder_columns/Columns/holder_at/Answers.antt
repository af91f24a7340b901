use Rattle.std.proofs.Common.{◌≡◌, ◌∷◌, ◌++◌, [], take, get_or, sym, ◌∙◌, ap}
use Rattle.std.proofs.lemmas.List.{take_more}
use Rattle.lock_modes.specs.declared.Mode.TheVariants.{NL}
use Rattle.lock_modes.specs.Codes.{mode_of_code}
use Rattle.lock_modes.proofs.Codes.{mode_of_code-code}
use Rattle.lock_holders.specs.declared.session_mode.SessionMode.{SessionMode}
use Rattle.lock_holders.specs.inner.Columns.{number_at, code_at}
use Rattle.lock_holders.proofs.Columns.{columns-of, reads}
use Rattle.lock_holders.proofs.holder_columns.Columns.holder_at.Goals as goal

pub returns : goal.returns
returns c =
    let hs = c.args.self.now.items in
    let n = c.args.index in
    let d : SessionMode = record { session = 0; mode = NL } in
    let o = columns-of c.self.inside c.args.self.now c.self.view_is c.self.invariant in
    let ss = c.as_slice-sessions.result.now in
    let cs = c.as_slice-codes.result.now in
    let session : get_or ss n 0 ≡ (get_or hs n d).session = reads number_at ss hs (c.as_slice-sessions.ensures ∙ o.sessions) n 0 d c.requires in
    let code : get_or cs n 0 ≡ code_at (get_or hs n d) = reads code_at cs hs (c.as_slice-codes.ensures ∙ o.codes) n 0 d c.requires in
    let mode : c.from_code_or_nl.result ≡ (get_or hs n d).mode = c.from_code_or_nl.ensures ∙ (ap mode_of_code code ∙ mode_of_code-code (get_or hs n d).mode) in
    take_more hs n d c.requires ∙ (λ i. take n hs ++ record { session = sym session i; mode = sym mode i } ∷ [])
