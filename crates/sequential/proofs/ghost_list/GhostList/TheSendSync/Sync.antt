-- It owns nothing, so any thread may share it.
use denote.RattleType.{RattleType}
use denote.Param.Send.{IsSync, part_keyless}
use Rattle.sequential.specs.contracts.ghost_list.GhostList.{the_row}
use Rattle.sequential.proofs.ghost_list.GhostList.TheSendSync.Send.{send}

pub sync : (A : RattleType) → IsSync (the_row A)
sync A = record { shared = λ d b o κ q. part_keyless (the_row A) (send A) q d b o }
