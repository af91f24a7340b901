use Rattle.std.proofs.lemmas.Bool.{and_parts, and_from}
use Rattle.lock_rules.specs.Waits.{reaches}
use Rattle.lock_rules.proofs.Settle.{reached-walk, reaches-walk}
use Rattle.lock_explain.proofs.laws.cycles_are_closed_walks.Goals as goal

pub returns : goal.returns
returns c = λ st s u. (
  λ h. let p = and_parts (reaches st.table s u) (reaches st.table u s) h in record { there = reached-walk st.table s u p.0; back = reached-walk st.table u s p.1 },
  λ w. and_from (reaches st.table s u) (reaches st.table u s) (reaches-walk st.table s u w.there) (reaches-walk st.table u s w.back),
)
