use Rattle.std.proofs.Common.{refl}
use Rattle.publication.proofs.laws.steps_of_the_table_are_such_steps.Goals as goal

pub returns : goal.returns
returns g c name id at first second m put s w a me asks valid told = record {
  id = id;
  at = at;
  first = first;
  second = second;
  put = put;
  before = m;
  after = (w, _);
  act = a;
  seated = me;
  asked = asks;
  valid = valid;
  carried = refl;
  told = told;
  is = refl;
}
