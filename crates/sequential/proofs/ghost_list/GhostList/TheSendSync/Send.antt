-- It owns nothing, so it may go to any thread.
use denote.RattleType.{RattleType}
use denote.Param.Send.{IsSend}
use Rattle.sequential.specs.contracts.ghost_list.GhostList.{the_row}

pub send : (A : RattleType) → IsSend (the_row A)
send A = record { owned = λ d vs. ((λ vss. (tt, ((λ uss. (tt, tt)), tt))), tt); leaving = λ k f vs. tt }
