use Rattle.std.proofs.Common.{subst}
use Rattle.std.proofs.lemmas.Result.{IfErr-weaker}
use Rattle.library_books.specs.Numbers.{IsCall}
use Rattle.library_books.specs.Programs.{IsStart}
use Rattle.library_books.proofs.Programs.{leads_lock, leads_convert, leads_try, path_fault}
use Rattle.library_books.proofs.program_numbers.read_program.Goals as goal

pub returns-in-Lock-clause-err : goal.returns-in-Lock-clause-err
returns-in-Lock-clause-err c =
    let n = c.args.asked.now in
    let start : IsStart n.start = (c.in-Some.start, (c.read_start.ensures c.in-Some.start).0 c.in-Some.is) in
    let leads = leads_lock n c.in-Lock.resource c.in-Lock.mode (subst (IsCall n.last) c.in-Lock.is c.in-Ok.ensures.ok) in
    IfErr-weaker c.read_path.result _ _ (λ fault h. path_fault n c.in-Lock.resource fault start leads h) c.read_path.ensures.err

pub returns-in-Convert-clause-err : goal.returns-in-Convert-clause-err
returns-in-Convert-clause-err c =
    let n = c.args.asked.now in
    let start : IsStart n.start = (c.in-Some.start, (c.read_start.ensures c.in-Some.start).0 c.in-Some.is) in
    let leads = leads_convert n c.in-Convert.resource c.in-Convert.mode (subst (IsCall n.last) c.in-Convert.is c.in-Ok.ensures.ok) in
    IfErr-weaker c.read_path-in-Convert.result _ _ (λ fault h. path_fault n c.in-Convert.resource fault start leads h) c.read_path-in-Convert.ensures.err

pub returns-in-Try-clause-err : goal.returns-in-Try-clause-err
returns-in-Try-clause-err c =
    let n = c.args.asked.now in
    let start : IsStart n.start = (c.in-Some.start, (c.read_start.ensures c.in-Some.start).0 c.in-Some.is) in
    let leads = leads_try n c.in-Try.resource c.in-Try.mode (subst (IsCall n.last) c.in-Try.is c.in-Ok.ensures.ok) in
    IfErr-weaker c.read_path-in-Try.result _ _ (λ fault h. path_fault n c.in-Try.resource fault start leads h) c.read_path-in-Try.ensures.err
