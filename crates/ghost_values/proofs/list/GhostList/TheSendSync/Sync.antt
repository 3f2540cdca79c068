use denote.RattleType.{RattleType}
use denote.Param.Send.{IsSync, part_keyless}
use Rattle.ghost_values.proofs.list.GhostList.TheSendSync.Send.{send}
use Rattle.ghost_values.specs.contracts.list.GhostList.{the_row as list_row}

pub sync : (A : RattleType) → IsSync (list_row A)
sync A = record { shared = λ d b o κ q. part_keyless (list_row A) (send A) q d b o }
