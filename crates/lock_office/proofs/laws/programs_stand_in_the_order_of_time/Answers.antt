use Rattle.std.proofs.Common.{arith}
use Rattle.programs.proofs.Placed.{ordered}
use Rattle.lock_programs.specs.Answers.{program_form}
use Rattle.lock_office.proofs.InTime.{in-time}
use Rattle.lock_office.proofs.laws.programs_stand_in_the_order_of_time.Goals as goal

pub returns-clause-in_time : goal.returns-clause-in_time
returns-clause-in_time c = in-time

pub returns-clause-known : goal.returns-clause-known
returns-clause-known c h earlier floor place x y legal few late first second = ordered program_form 0 h earlier place x y legal.1 (omega (arith, few, late)) first second
