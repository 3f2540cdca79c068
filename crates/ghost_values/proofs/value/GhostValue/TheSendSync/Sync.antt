use denote.RattleType.{RattleType}
use denote.Param.Send.{IsSync, part_keyless}
use Rattle.ghost_values.proofs.value.GhostValue.TheSendSync.Send.{send}
use Rattle.ghost_values.specs.contracts.value.GhostValue.{the_row as value_row}

pub sync : (A : RattleType) → IsSync (value_row A)
sync A = record { shared = λ d b o κ q. part_keyless (value_row A) (send A) q d b o }
