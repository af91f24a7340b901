use Rattle.std.proofs.Common.{◌≡◌, ◌<◌, ⊎_elim, ℕ, length, sym, subst, arith}
use Rattle.std.proofs.lemmas.Bool.Decides.{Decides-eqb}
use Rattle.lock_programs.specs.declared.program.Program.{Program}
use Rattle.lock_programs.specs.Calls.{calls_of}
use Rattle.lock_office.proofs.Sessions.{compared, option-cases}
use Rattle.lock_office.proofs.session.Session.is_single.Goals as goal

pub returns-clause-single : goal.returns-clause-single
returns-clause-single c = λ is program floor pending.
    let k = c.pending_program.ensures program floor pending in
    let one : c.length.result ≡ 1 = (Decides-eqb c.length.result 1).0 is in
    let many = c.length.ensures.value in
    subst (λ (p : Program). length (calls_of p) ≡ 1) (sym k.0) (omega (arith, one, many))

pub returns-clause-several : goal.returns-clause-several
returns-clause-several c = λ is some.
    option-cases c.args.self.now.pending
    (λ none. absurd (some none))
    (λ program floor pending.
    let k = c.pending_program.ensures program floor pending in
    let many = c.length.ensures.value in
    let least : 0 < length (calls_of c.pending_program.result) = subst (λ (p : Program). 0 < length (calls_of p)) k.0 k.1 in
    let more : 1 < length (calls_of c.pending_program.result) = ⊎_elim
    (λ lt. omega (arith, lt, many))
    (λ le. absurd (let yes = (Decides-eqb c.length.result 1).1 (omega (arith, le, many, least)) in cc (yes, is)))
    (compared 1 c.length.result) in
    (program, floor, pending, subst (λ (p : Program). 1 < length (calls_of p)) (sym k.0) more))
